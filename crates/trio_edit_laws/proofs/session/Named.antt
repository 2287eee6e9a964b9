-- Which entry names a number, as what is in hand stands.
use Rattle.trio_edit_laws.proofs.Words.{◌∙◌, ◌≡◌, Bundle, Case, DeskSeen, Held, In, In-map, InHand, IsView, LentFile, List, Met, Naming, Nodes, None, Option, Placed, Row, Some, Written, [], ap, bare_at, bundle_of, case_as_stands, case_in_hand, children_in, core_in_hand, entries_in, held_by, ino_numbers, judged_also, judged_files, judged_made, map, met_in, named_alike, naming_is, naming_of, plain, start_judged, start_to, subst, sym, written_in, written_met}
use Rattle.trio_edit_laws.specs.session.Named.{EntriesAreInSlots, EntryNames, MadeIsJudged, NamedIsRead, WrittenIsJudged}
use Rattle.trio_edit_laws.proofs.session.Closed.{entry_read}
use Rattle.trio_edit_laws.proofs.session.EditedSlots.{entry-stands, stands-entry}
use Rattle.trio_edit_laws.proofs.session.Judged.{IsShown, closed_before, entry_named, judged_listed, seen, written_live}

pub entry_names : EntryNames
entry_names desk h h' nodes nodes' rows m file l q i e j =
    let b : Bundle = bundle_of h.parcel in
    let lent : List Held = map held_by h.parcel.holds in
    let z = judged_also desk.sizes desk.creds [] rows b lent m i in
    named_alike desk.sizes desk.creds rows [] b lent l.entry.ino
    ∙ entry_named (seen desk h h' nodes nodes' rows q) z.0 file l z.1 (z.2.reads (core_in_hand desk h) ∙ e) j
    ∙ ap (λ d. Some (record { directory = d; listed = l })) z.2.ino

pub named_is_read : NamedIsRead
named_is_read desk h n e t =
    let q = naming_is (case_as_stands desk h) n e t in (q.judged_by, q.file, q.among, sym q.directory, q.read, q.entry, q.number)

module _ (desk : DeskSeen) (h h' : InHand) (nodes nodes' : Nodes) (rows : List (Option Row)) (q : IsView desk h h' nodes nodes' rows) (x : Met) (new : In x.ino (ino_numbers h.parcel.inodes)) where
  abbrev b : Bundle
  b = bundle_of h.parcel

  abbrev lent : List Held
  lent = map held_by h.parcel.holds

  abbrev c : Case
  c = case_in_hand desk rows h

  v : IsShown c nodes nodes'
  v = seen desk h h' nodes nodes' rows q

  unwritten : In x.ino (map (λ (w : Written). w.ino) b.writes) → ⊥
  unwritten i = written_live v x.ino i new

  judged_named : In x (judged_files (case_as_stands desk h)) → (e : Naming) × (naming_of (case_as_stands desk h) x.ino ≡ Some e) × (x ≡ met_in plain e.directory e.listed)
  judged_named i =
      let j = judged_made desk.sizes desk.creds [] rows b lent x i unwritten in
      let z = judged_listed v x j new in
      let l = entry_read c z.0 x z.2 in
      let number : x.ino ≡ l.2.entry.ino = ap (λ (m : Met). m.ino) l.4 in (
        record { directory = z.0.ino; listed = l.2 },
        named_alike desk.sizes desk.creds rows [] b lent x.ino ∙ ap (naming_of c) number ∙ entry_named v z.0 l.0 l.2 z.1 l.1 l.3,
        l.4,
      )

  named_judged : (e : Naming) → naming_of (case_as_stands desk h) x.ino ≡ Some e → x ≡ met_in plain e.directory e.listed → In x (judged_files (case_as_stands desk h))
  named_judged e t is =
      let k = naming_is c x.ino e (sym (named_alike desk.sizes desk.creds rows [] b lent x.ino) ∙ t) in
      let m : Met = k.judged_by in
      let met : In (met_in plain m.ino e.listed) (entries_in c m) =
      subst (λ r. In (met_in plain m.ino e.listed) (children_in plain m.ino r)) (sym k.read) (In-map (met_in plain m.ino) e.listed k.file.entries k.entry) in
      let here : In x (entries_in c m) = subst (λ z. In z (entries_in c m)) (sym (is ∙ ap (λ d. met_in plain d e.listed) k.directory)) met in
      judged_made desk.sizes desk.creds rows [] b lent x (closed_before v m x k.among here new) unwritten

pub made_is_judged : MadeIsJudged
made_is_judged desk h h' nodes nodes' rows x q new =
    (λ i. judged_named desk h h' nodes nodes' rows q x new i, λ k. named_judged desk h h' nodes nodes' rows q x new k.0 k.1 k.2)

pub written_is_judged : WrittenIsJudged
written_is_judged desk h f i =
    let c : Case = case_as_stands desk h in
    let w : Written = written_in f.stands in
    subst (λ x. In x (judged_files c)) (sym (bare_at w None))
    (start_judged c (written_met c w) (start_to c w (In-map (λ (x : LentFile). written_in x.stands) f h.parcel.writes i)))

pub entries_are_in_slots : EntriesAreInSlots
entries_are_in_slots desk h m file l kind e = (
  λ i.
      let p = entry-stands (core_in_hand desk h) m file l e i in
      record { block = p.block; slot = p.slot; bytes = p.bytes; page = p.page; says = p.says; body = p.body },
  λ p.
      let stands : Placed (core_in_hand desk h) file.chain.blocks l = record { block = p.block; bytes = p.bytes; page = p.page; slot = p.slot; says = p.says; body = p.body } in
      stands-entry (core_in_hand desk h) m file l kind e stands,
)
