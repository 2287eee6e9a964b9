-- What is known of the judged files before one of them is edited, by the nodes that are shown.
use Rattle.trio_edit_laws.proofs.Words.{◌∙◌, ◌≡◌, ArePossible, Bool, Bundle, Case, DeskSeen, FileRead, Held, In, In-cases, In-flat, In-is_among, In-left, In-map, In-right, InHand, IsAmong, IsInOrder, IsJudgedEdit, IsTree, LentFile, List, Listed, Met, Naming, Nodes, Ok, Option, Row, Shows, Some, Written, [], ap, are_new, arith, bundle_core, bundle_of, case_with, cases_Bool, children_in, entries_in, false, false≢true, file_within, flat_map-In, fronts, fronts_listed, hand_files_once, held_by, inl, inr, is_among, is_among-In, judged_once, judged_reads, judged_there, listed_as, map, map-In, met_in, naming_of, naming_once, namings, namings_in, new_dead, new_entries, new_entry, numbers, owning_parts, pages_alike, plain, refl, row_in, same_met, some_of, start_judged, start_number, start_to, subst, suc, sym, true, written_files, written_in, written_ino_at, written_kind_at, written_met, ℕ}
use Rattle.trio_layout.specs.JudgedFiles.{judged_files}
use Rattle.trio_laws.proofs.judgement.JudgedFacts.{written_body_at}
use Rattle.trio_laws.proofs.session.Climbing.{own_parent}
use Rattle.trio_edit_laws.proofs.session.JudgedReads as reads
use Rattle.trio_laws.proofs.session.Stands as stands
use Rattle.trio_laws.proofs.session.Stands.{Read, judged_alike}

module _ (desk : DeskSeen) (h h' : InHand) (m : Met) (body : List ℕ) (file file' : FileRead) (u : IsJudgedEdit desk h h' m body file file') where
  abbrev b : Bundle
  b = bundle_of h.parcel

  abbrev lent : List Held
  lent = map held_by h.parcel.holds

  abbrev made : Bool
  made = is_among m.ino b.numbers

  abbrev pub Known : List (Option Row) → Type 0
  Known rows = reads.Known desk h h' m body file file' u rows

  -- ---- what is known of the judged files, by the nodes that are shown

  module _ (o : IsInOrder desk h) (nodes nodes' : Nodes) (rows : List (Option Row)) (possible : ArePossible desk h.parcel h.back nodes rows) (tree : IsTree nodes')
      (s : Shows (case_with desk.sizes desk.creds rows (bundle_of h.parcel) (map held_by h.parcel.holds)) nodes nodes') where
    abbrev c : Case
    c = case_with desk.sizes desk.creds rows b lent

    abbrev c0 : Case
    c0 = case_with desk.sizes desk.creds [] b lent

    abbrev among : IsAmong (case_with desk.sizes desk.creds rows (bundle_of h.parcel) (map held_by h.parcel.holds)) nodes
    among = o.among nodes rows possible

    files_once : are_new [] (map (λ (w : Written). w.ino) b.writes) ≡ true
    files_once = hand_files_once desk h o

    apart : (n : ℕ) → In n b.numbers → In n (map (λ (w : Written). w.ino) b.writes) → ⊥
    apart n i j =
        let live = some_of (row_in rows n) (among.written n j) in new_dead c nodes nodes' possible.tree tree among s n live.0 live.1 i

    reads_all : (x : Met) → In x (judged_files c) → (f : FileRead) × (file_within (bundle_core c) x ≡ Ok f)
    reads_all x i = judged_reads desk.sizes desk.creds rows b b lent lent nodes nodes' s x i

    -- a directory that lists a file names it
    pub names : (p x : Met) → In p (judged_files c) → In x (entries_in c p) → (e : Naming) × (naming_of c x.ino ≡ Some e) × (e.directory ≡ p.ino) × (e.listed.entry.kind ≡ x.kind)
    names p x i j =
        let r = reads_all p i in
        let l = map-In (met_in plain p.ino) x r.0.entries (subst (λ z. In x (children_in plain p.ino z)) r.1 j) in
        let e : Naming = record { directory = p.ino; listed = l.0 } in
        let there : In e (namings c) =
        In-flat (λ (z : Met). namings_in z.ino (file_within (bundle_core c) z)) p e (judged_files c) i
        (subst (λ z. In e (namings_in p.ino z)) (sym r.1) (In-map (λ (q : Listed). record { directory = p.ino; listed = q }) l.0 r.0.entries l.1)) in
        (e, ap (naming_of c) (ap (λ (z : Met). z.ino) l.2) ∙ naming_once c (owning_parts c s.owning).entries_once e there, refl, sym (ap (λ (z : Met). z.kind) l.2))

    not_own : (p x : Met) → In p (judged_files c) → In x (entries_in c p) → p.ino ≡ x.ino → ⊥
    not_own p x i j same =
        let e = names p x i j in
        let node = listed_as c nodes nodes' possible.tree tree among s e.0 x.ino e.1 in
        own_parent nodes' tree x.ino node.node node.there (node.parent ∙ e.2 ∙ same)

    -- another judged file lists one that was made
    parent_of : (x : Met) → In x (judged_files c) → In x.ino b.numbers → (p : Met) × In p (judged_files c) × (p.ino ≡ x.ino → ⊥) × In x (entries_in c p)
    unfolding judged_files
    parent_of x i new =
        let w = fronts (new_entries c) (written_files c) (suc desk.sizes.inodes) in
        elim (fronts_listed (new_entries c) (written_files c) (suc desk.sizes.inodes) x (In-left x w.passed w.level i)) [
          | inl start ↦ absurd (apart x.ino new (start_number c x.ino (In-map (λ (z : Met). z.ino) x (written_files c) start)))
          | inr listed ↦
              let q = flat_map-In (new_entries c) x w.passed listed in
              let e = (new_entry c q.0 x q.2).0 in (q.0, q.1, not_own q.0 x q.1 e, e)
        ]

    made_judged : made ≡ true → In m (judged_files c)
    made_judged t =
        let share = stands.share desk.sizes desk.creds [] rows b lent in
        elim (In-cases m (written_files c0) share.rest (subst (λ l. In m l) share.old u.judged)) [
          | inl start ↦ absurd (apart m.ino (is_among-In m.ino b.numbers t) (start_number c0 m.ino (In-map (λ (z : Met). z.ino) m (written_files c0) start)))
          | inr later ↦ subst (λ l. In m l) (sym share.new) (In-right m (written_files c) share.rest later)
        ]

    known_made : made ≡ true → Known rows
    known_made t = record {
      met = m;
      number = refl;
      kind = refl;
      bytes = refl;
      place = λ z. refl;
      judged = made_judged t;
      reads = reads_all;
      pages_once = (owning_parts c s.owning).pages_once;
      entries_once = (owning_parts c s.owning).entries_once;
      files_once = files_once;
      apart = apart;
      parent = λ z. parent_of m (made_judged t) (is_among-In m.ino b.numbers z);
    }

    known_written : made ≡ false → (f : LentFile) → In f h.parcel.writes → f.stands.ino ≡ m.ino → Known rows
    known_written old f i number =
        let mine : Written = written_in f.stands in
        let there : In mine b.writes = In-map (λ (x : LentFile). written_in x.stands) f h.parcel.writes i in
        let same : m ≡ written_met c0 mine =
        same_met (judged_files c0) m (written_met c0 mine) (judged_once c0 files_once) u.judged (start_judged c0 (written_met c0 mine) (start_to c0 mine there)) (sym number ∙ sym (written_ino_at mine (row_in [] mine.ino))) in
        record {
          met = written_met c mine;
          number = written_ino_at mine (row_in rows mine.ino) ∙ number;
          kind = written_kind_at mine (row_in rows mine.ino) ∙ sym (ap (λ (z : Met). z.kind) same ∙ written_kind_at mine (row_in [] mine.ino));
          bytes = written_body_at mine (row_in rows mine.ino) ∙ sym (ap (λ (z : Met). z.body) same ∙ written_body_at mine (row_in [] mine.ino));
          place = λ t. absurd (false≢true (sym old ∙ t));
          judged = start_judged c (written_met c mine) (start_to c mine there);
          reads = reads_all;
          pages_once = (owning_parts c s.owning).pages_once;
          entries_once = (owning_parts c s.owning).entries_once;
          files_once = files_once;
          apart = apart;
          parent = λ t. absurd (false≢true (sym old ∙ t));
        }

    pub known : Known rows
    known = search (arith, cases_Bool, known_made, known_written, false≢true, In-is_among)

  -- and so whatever the rows say
  pub known_plain : (rows : List (Option Row)) → Known rows → Known []
  known_plain rows k = record {
    met = m;
    number = refl;
    kind = refl;
    bytes = refl;
    place = λ t. refl;
    judged = u.judged;
    reads = λ x i. (let y = judged_there desk.sizes desk.creds rows [] b lent x i in let r = k.reads y.0 y.1 in (r.0, sym (ap (λ (z : Read). z.reads) y.2) ∙ r.1));
    pages_once = ap (are_new []) (pages_alike desk.sizes desk.creds rows [] b lent) ∙ k.pages_once;
    entries_once = ap (λ l. are_new [] (numbers l)) (judged_alike desk.sizes desk.creds rows [] b lent (λ n kind r. children_in plain n r)) ∙ k.entries_once;
    files_once = k.files_once;
    apart = k.apart;
    parent = λ t.
        let p = k.parent t in
        let y = judged_there desk.sizes desk.creds [] rows b lent p.0 p.1 in
        let entries : entries_in (case_with desk.sizes desk.creds [] b lent) y.0 ≡ entries_in (case_with desk.sizes desk.creds rows b lent) p.0 = ap (λ (z : Read). children_in plain z.ino z.reads) y.2 in
        (y.0, y.1, λ e. p.2 (sym (ap (λ (z : Read). z.ino) y.2) ∙ e), subst (λ l. In m l) (sym entries) (subst (λ x. In x (entries_in (case_with desk.sizes desk.creds rows b lent) p.0)) (k.place t) p.3));
  }
