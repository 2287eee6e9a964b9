-- A judged file is edited, written or made: of the nodes that are shown it alone has other bytes, and the other judged files read as before.
use Rattle.trio_edit_laws.proofs.Words.{◌&&◌, ◌∙◌, ◌≡◌, ◌⊎◌, ArePossible, Becomes, Body, Bool, Bundle, Case, DeskSeen, Directory, FileRead, Held, In, In-find, In-is_among, In-left, In-map, InHand, IsAmong, IsInOrder, IsJudgedEdit, IsTree, Kind, LentFile, List, Listed, MayShow, Met, Mode, Naming, Node, Nodes, None, Ok, Option, Regular, Rights, Row, Shows, Some, Written, [], and_from, and_parts, ap, are_new, arith, body_at, body_of, body_stands, bundle_core, bundle_of, bundle_pages, bytes_as_before, bytes_listed, bytes_now, bytes_read, case_with, cases_Bool, cases_eq, cond, content_of, core_in_hand, each_new, entry_in_grammar, entry_is_own, entry_keeps_rights, eq-eqb, eqb, eqb-true, false, false_from_ne_true, false≢true, file_keeps_rights, file_within, find, find-In, find_map, flat_map, gathered_new, has_rights, held_by, inl, inr, is_among, is_among-In, is_ok, is_some, is_written, judged_entries, judged_files, judged_page, judged_pages, lent_files, list_all, list_all-In, list_all-each, listed_as, listed_with, made_by, map, map-In, map-map, mapped, meets_grammar, meets_owning, meets_rights, met_with, naming_is, naming_of, namings, namings_in, new_dead, node_at, node_left, node_now, not_from_false, numbers, one_of, option_and_then, option_map, or_left, or_right, owning_parts, pages_in, pages_within, placed, refl, rights_in, rights_of, row_in, some_of, some_one, start_judged, start_to, subst, sym, true, with_bytes, with_content, with_node, with_node-else, with_node-same, within_from, written_among, written_in, written_ino_at, written_kind_at, written_met, ℕ, Link, is_directory, is_directory-false, kind_cases, guard_fits-true, guard_in, guard_now, with_judged, node_listed, CoreRange, body_fits, nat_le, block_count, core_count, size_fits, head_fits, guard_fits, pages_bytes}
use Rattle.trio_laws.proofs.session.Namings.{met_of}
use Rattle.std.specs.Prelude.{take}
use Rattle.std.proofs.lemmas.List.Folds.{flat_map-map}
use Rattle.trio_edit_laws.proofs.Sized.{body_of-fits}
use Rattle.trio_onetree.proofs.TreePut.{tree_same}
use Rattle.trio_edit_laws.specs.session.FileEdits.{node_holding, with_data}
use Rattle.trio_edit_laws.specs.session.JudgedEdits.{JudgedAfterEdit, JudgedEditShows, ListedAfterJudgedEdit, ReadsAfterEdit}
use Rattle.trio_edit_laws.proofs.session.EditedOrder.{bundle_then, case_is, order_stays, possible_before}
use Rattle.trio_edit_laws.proofs.session.EditedWalk.{find-same, flat_map-changed, numbers-changed}
use Rattle.trio_edit_laws.proofs.session.JudgedReads as reads
use Rattle.trio_edit_laws.proofs.session.JudgedReads.{met_with-here, met_with-number, met_with-other}
use Rattle.trio_edit_laws.proofs.session.JudgedKnown as known

-- a node with this guard
abbrev guarded : Bool → Node → Node
guarded g x = record x { guard = g }

-- a guard is put before bytes as well as after
with_guarded-first : (q : Option (List ℕ)) (g : Bool) (x : Node) → with_judged q (Some g) x ≡ with_bytes q (guarded g x)
with_guarded-first None g x = refl
with_guarded-first (Some l) g x = refl

-- a node that holds these has them in the place of others
replaced : (l : List ℕ) (g : Bool) (q : Option (List ℕ)) (r : Option Bool) (z : Option Node) → option_map (node_holding l g) (option_map (with_judged q r) z) ≡ option_map (with_judged (Some l) (Some g)) z
replaced l g q r None = refl
replaced l g None None (Some x) = refl
replaced l g None (Some h) (Some x) = refl
replaced l g (Some n) None (Some x) = refl
replaced l g (Some n) (Some h) (Some x) = refl

-- the body of a directory isn't guarded
pub directory_unguarded : (range : CoreRange) (bytes : List ℕ) (b : Body) → body_of Directory range bytes ≡ Some b → b.guard ≡ false
directory_unguarded range bytes b is = by b.guard refl
  where
    fits : body_fits Directory range b ≡ true
    fits = body_of-fits Directory range bytes b is

    by : (g : Bool) → b.guard ≡ g → b.guard ≡ false
    by false e = e
    by true e =
        let test = (and_parts (nat_le b.mode.0 511 && nat_le (block_count b.size) (core_count range) && size_fits Directory b.size && head_fits range (block_count b.size) b.head) (guard_fits Directory b.guard) fits).1 in
        let wrong : Directory ≡ Regular = guard_fits-true Directory (sym (ap (guard_fits Directory) e) ∙ test) in
        absurd (cc wrong)

-- a mode is its number
mode-same : (x y : Mode) → x.0 ≡ y.0 → x ≡ y
mode-same x y e = search arith

module _ (desk : DeskSeen) (h h' : InHand) (m : Met) (body : List ℕ) (file file' : FileRead) (u : IsJudgedEdit desk h h' m body file file') where
  abbrev b : Bundle
  b = bundle_of h.parcel

  abbrev b2 : Bundle
  b2 = bundle_then h h'

  abbrev lent : List Held
  lent = map held_by h.parcel.holds

  abbrev made : Bool
  made = is_among m.ino b.numbers

  abbrev Known : List (Option Row) → Type 0
  Known rows = reads.Known desk h h' m body file file' u rows

  -- ---- what is shown then

  module _ (o : IsInOrder desk h) (nodes nodes' : Nodes) (rows : List (Option Row)) (possible : ArePossible desk h.parcel h.back nodes rows) (tree : IsTree nodes')
      (s : Shows (case_with desk.sizes desk.creds rows (bundle_of h.parcel) (map held_by h.parcel.holds)) nodes nodes') where
    abbrev c : Case
    c = case_with desk.sizes desk.creds rows b lent

    abbrev c2 : Case
    c2 = case_with desk.sizes desk.creds rows b2 lent

    abbrev among : IsAmong (case_with desk.sizes desk.creds rows (bundle_of h.parcel) (map held_by h.parcel.holds)) nodes
    among = o.among nodes rows possible

    k : Known rows
    k = known.known desk h h' m body file file' u o nodes nodes' rows possible tree s

    abbrev E : Met → Met
    E = met_with m.ino body

    abbrev then : Met → Met
    then e = reads.entry_then desk h h' m body file file' u e

    judged_now : judged_files c2 ≡ map E (judged_files c)
    judged_now = reads.judged_now desk h h' m body file file' u rows k

    entries_then : judged_entries c2 ≡ map then (judged_entries c)
    entries_then = reads.entries_then desk h h' m body file file' u rows k

    mine_now : file_within (bundle_core c2) (record k.met { body = body }) ≡ Ok file'
    mine_now = reads.mine_now desk h h' m body file file' u rows k

    mine_before : file_within (bundle_core c) k.met ≡ Ok file
    mine_before = reads.mine_before desk h h' m body file file' u rows k

    judged_from : (x : Met) → In x (judged_files c2) → (y : Met) × In y (judged_files c) × (x ≡ E y)
    judged_from x i = map-In E x (judged_files c) (subst (λ l. In x l) judged_now i)

    entry_from : (e : Met) → In e (judged_entries c2) → (g : Met) × In g (judged_entries c) × (e ≡ then g)
    entry_from e i = map-In then e (judged_entries c) (subst (λ l. In e l) entries_then i)

    written_same : (n : ℕ) → is_written b2 n ≡ is_written b n
    written_same n =
        written_among b2.writes n ∙ ap (is_among n) (reads.writes_same desk h h' m body file file' u) ∙ sym (written_among b.writes n)

    -- ---- I1

    body_in_grammar : body_of k.met.kind desk.sizes.range body ≡ Some file'.body
    body_in_grammar = (within_from (bundle_core c2) (record k.met { body = body }) file' mine_now).body

    body_before : body_of k.met.kind desk.sizes.range k.met.body ≡ Some file.body
    body_before = (within_from (bundle_core c) k.met file mine_before).body

    grammar_met : meets_grammar c2 ≡ true
    grammar_met =
        and_from (list_all (λ x. is_ok (file_within (bundle_core c2) x)) (judged_files c2)) (list_all (entry_in_grammar c2) (judged_entries c2))
        (list_all-each (λ x. is_ok (file_within (bundle_core c2) x)) (judged_files c2)
        (λ x i. let q = judged_from x i in ap (λ z. is_ok (file_within (bundle_core c2) z)) q.2 ∙ ap is_ok (reads.rereads desk h h' m body file file' u rows k q.0 q.1).now))
        (list_all-each (entry_in_grammar c2) (judged_entries c2)
        (λ e i.
        let q = entry_from e i in
        ap (entry_in_grammar c2) q.2
        ∙ elim (reads.entry_cases desk h h' m body file file' u rows k q.0 q.1) [
          | inl same ↦ search (arith, list_all-In, and_parts, is_ok)
          | inr new ↦ search (arith, or_right, k, body_in_grammar)
        ]))

    -- ---- I2

    pages_own : list_all (λ page. is_among page (bundle_pages b2)) (judged_pages c2) ≡ true
    pages_own =
        list_all-each (λ page. is_among page (bundle_pages b2)) (judged_pages c2)
        (λ q i. In-is_among q (bundle_pages b2)
        (elim (reads.pages_then desk h h' m body file file' u rows k q i) [
          | inl own ↦ subst (λ l. In q l) (sym u.pages) (u.own q own)
          | inr other ↦ subst (λ l. In q l) (sym u.pages) (judged_page desk.sizes desk.creds rows b b lent lent nodes nodes' s other.0 q other.1 other.3)
        ]))

    pages_once : are_new [] (judged_pages c2) ≡ true
    pages_once =
        ap (are_new []) (ap (flat_map (pages_within c2)) judged_now ∙ flat_map-map (pages_within c2) E (judged_files c))
        ∙ gathered_new (λ (x : Met). x.ino) (λ x. pages_within c2 (E x)) (judged_files c) (reads.once desk h h' m body file file' u rows k)
        (λ x i. elim (cases_eq x.ino m.ino) [
          | inl e ↦ ap (are_new []) (reads.pages_mine desk h h' m body file file' u rows k x i e) ∙ u.once
          | inr d ↦ ap (are_new []) (reads.pages_beside desk h h' m body file file' u rows k x i d) ∙ each_new (pages_within c) (judged_files c) x k.pages_once i
        ])
        (λ x y q i j a z. by x y q i j a z (cases_eq x.ino m.ino) (cases_eq y.ino m.ino))
      where
        beside : (x : Met) (q : ℕ) (i : In x (judged_files c)) → (x.ino ≡ m.ino → ⊥) → In q (pages_within c2 (E x)) → In q (pages_within c x)
        beside x q i d a = subst (λ l. In q l) (reads.pages_beside desk h h' m body file file' u rows k x i d) a

        off : (x y : Met) (q : ℕ) → In x (judged_files c) → In y (judged_files c) → x.ino ≡ m.ino → (y.ino ≡ m.ino → ⊥) → In q (pages_within c2 (E x)) → In q (pages_within c2 (E y)) → ⊥
        off x y q i j e d a z =
            let r = k.reads y j in
            reads.apart_then desk h h' m body file file' u rows k y r.0 j d r.1 q
            (subst (λ w. In q (pages_in w)) r.1 (beside y q j d z))
            (subst (λ l. In q l) (reads.pages_mine desk h h' m body file file' u rows k x i e) a)

        by : (x y : Met) (q : ℕ) → In x (judged_files c) → In y (judged_files c) → In q (pages_within c2 (E x)) → In q (pages_within c2 (E y)) → (x.ino ≡ m.ino) ⊎ (x.ino ≡ m.ino → ⊥) → (y.ino ≡ m.ino) ⊎ (y.ino ≡ m.ino → ⊥) → x.ino ≡ y.ino
        by x y q i j a z (inl e) (inl g) = e ∙ sym g
        by x y q i j a z (inl e) (inr d) = absurd (off x y q i j e d a z)
        by x y q i j a z (inr d) (inl e) = absurd (off y x q j i e d z a)
        by x y q i j a z (inr d) (inr g) = ap (λ (w : Met). w.ino) (one_of (pages_within c) (judged_files c) x y q k.pages_once i j (beside x q i d a) (beside y q j g z))

    owning_met : meets_owning c2 ≡ true
    owning_met =
        and_from _ (are_new [] (numbers (judged_entries c2)))
        (and_from _ (list_all (entry_is_own c2) (judged_entries c2))
        (and_from (list_all (λ page. is_among page (bundle_pages b2)) (judged_pages c2)) (are_new [] (judged_pages c2)) pages_own pages_once)
        (list_all-each (entry_is_own c2) (judged_entries c2)
        (λ e i.
        let q = entry_from e i in
        ap (entry_is_own c2) (q.2 ∙ reads.entry_then-is desk h h' m body file file' u q.0)
        ∙ list_all-In (entry_is_own c) q.0 (judged_entries c) (owning_parts c s.owning).entries q.1)))
        (ap (λ l. are_new [] (numbers l)) entries_then
        ∙ ap (are_new []) (numbers-changed then (λ e. ap (λ (z : Met). z.ino) (reads.entry_then-is desk h h' m body file file' u e)) (judged_entries c))
        ∙ k.entries_once)

    -- ---- I4

    unheld : In m.ino b.numbers → In m.ino b.holds → ⊥
    unheld new i =
        let live = some_of (row_in rows m.ino) (among.held m.ino i) in new_dead c nodes nodes' possible.tree tree among s m.ino live.0 live.1 new

    keeps : (e : Met) → In e (judged_entries c) → entry_keeps_rights c2 (then e) ≡ true
    keeps e i = search (arith, list_all-In, and_parts, k, false_from_ne_true, unheld, is_among-In, or_left, not_from_false)

    rights_alike : (t : Bool) (q : Option Row) (x y : Body) → x.mode.0 ≡ y.mode.0 → x.uid ≡ y.uid → x.gid ≡ y.gid
        → cond t (has_rights q x) (eqb x.uid desk.creds.uid && eqb x.gid desk.creds.gid) ≡ cond t (has_rights q y) (eqb y.uid desk.creds.uid && eqb y.gid desk.creds.gid)
    rights_alike t q x y mode uid gid = search arith

    file_keeps : (x : Met) → In x (judged_files c) → file_keeps_rights c2 (E x) (file_within (bundle_core c2) (E x)) ≡ true
    file_keeps x i =
        let was : file_keeps_rights c x (file_within (bundle_core c) x) ≡ true =
        list_all-In (λ z. file_keeps_rights c z (file_within (bundle_core c) z)) x (judged_files c) (and_parts (list_all (entry_keeps_rights c) (judged_entries c)) _ s.rights).1 i in
        elim (cases_eq x.ino m.ino) [
          | inr d ↦
              let r = k.reads x i in
              ap (λ z. file_keeps_rights c2 z (file_within (bundle_core c2) z)) (met_with-other m.ino body x d)
              ∙ ap (file_keeps_rights c2 x) (reads.beside desk h h' m body file file' u rows k x r.0 i d r.1)
              ∙ ap (λ t. cond t (has_rights (row_in rows x.ino) r.0.body) (eqb r.0.body.uid desk.creds.uid && eqb r.0.body.gid desk.creds.gid)) (written_same x.ino)
              ∙ sym (ap (file_keeps_rights c x) r.1)
              ∙ was
          | inl e ↦
              let one : x ≡ k.met = reads.judged_mine desk h h' m body file file' u rows k x i e in
              ap (λ z. file_keeps_rights c2 z (file_within (bundle_core c2) z)) (met_with-here m.ino body x e ∙ ap (λ (z : Met). record z { body = body }) one)
              ∙ ap (file_keeps_rights c2 (record k.met { body = body })) mine_now
              ∙ ap (λ t. cond t (has_rights (row_in rows k.met.ino) file'.body) (eqb file'.body.uid desk.creds.uid && eqb file'.body.gid desk.creds.gid)) (written_same k.met.ino)
              ∙ rights_alike (is_written b k.met.ino) (row_in rows k.met.ino) file'.body file.body u.rights.mode u.rights.uid u.rights.gid
              ∙ sym (ap (file_keeps_rights c k.met) mine_before)
              ∙ sym (ap (λ z. file_keeps_rights c z (file_within (bundle_core c) z)) one)
              ∙ was
        ]

    rights_met : meets_rights c2 ≡ true
    rights_met =
        and_from (list_all (entry_keeps_rights c2) (judged_entries c2)) (list_all (λ x. file_keeps_rights c2 x (file_within (bundle_core c2) x)) (judged_files c2))
        (list_all-each (entry_keeps_rights c2) (judged_entries c2) (λ e i. let q = entry_from e i in ap (entry_keeps_rights c2) q.2 ∙ keeps q.0 q.1))
        (list_all-each (λ x. file_keeps_rights c2 x (file_within (bundle_core c2) x)) (judged_files c2)
        (λ x i. let q = judged_from x i in ap (λ z. file_keeps_rights c2 z (file_within (bundle_core c2) z)) q.2 ∙ file_keeps q.0 q.1))

    -- ---- entries by number

    abbrev naming_then : Naming → Naming
    naming_then e = record { directory = e.directory; listed = reads.listed_then desk h h' m body file file' u e.listed }

    named : (x : Met) → In x (judged_files c) → namings_in (E x).ino (file_within (bundle_core c2) (E x)) ≡ map naming_then (namings_in x.ino (file_within (bundle_core c) x))
    named x i =
        let r = reads.rereads desk h h' m body file file' u rows k x i in
        let by : ℕ → Listed → Naming = λ n l. record { directory = n; listed = l } in
        ap (namings_in (E x).ino) r.now
        ∙ ap (λ n. map (by n) r.is.entries) (met_with-number m.ino body x)
        ∙ ap (map (by x.ino)) r.entries
        ∙ map-map (by x.ino) (reads.listed_then desk h h' m body file file' u) r.was.entries
        ∙ sym (map-map naming_then (by x.ino) r.was.entries)
        ∙ ap (λ z. map naming_then (namings_in x.ino z)) (sym r.before)

    naming_now : (n : ℕ) → naming_of c2 n ≡ option_map naming_then (naming_of c n)
    naming_now n =
        let test : Naming → Bool = λ e. eqb e.listed.entry.ino n in
        ap (find test)
        (ap (flat_map (λ (x : Met). namings_in x.ino (file_within (bundle_core c2) x))) judged_now
        ∙ flat_map-changed E naming_then (λ (x : Met). namings_in x.ino (file_within (bundle_core c) x)) (λ (x : Met). namings_in x.ino (file_within (bundle_core c2) x)) (judged_files c) named)
        ∙ find_map test naming_then (namings c)
        ∙ ap (option_map naming_then)
        (find-same (λ e. test (naming_then e)) test (namings c) (λ e. ap (λ (l : Listed). eqb l.entry.ino n) (reads.listed_then-is desk h h' m body file file' u e.listed)))

    -- an entry makes the same node, whichever of the two bodies is in its slot
    placed_same : (e : Naming) (x : Node) → placed (naming_then e) x ≡ placed e x
    placed_same e x = ap (λ (l : Listed). placed (record { directory = e.directory; listed = l }) x) (reads.listed_then-is desk h h' m body file file' u e.listed)

    -- but for the guard that such a body says
    made_same : (n : ℕ) (e : Naming) (g : Bool) → naming_of c n ≡ Some e → guarded g (made_by (naming_then e)) ≡ guarded g (made_by e)
    unfolding met_of
    made_same n e g is =
        elim (cases_eq e.listed.entry.ino m.ino) [
          | inr d ↦ ap (λ l. guarded g (made_by (record { directory = e.directory; listed = l }))) (reads.listed_then-other desk h h' m body file file' u e.listed (λ t same. d same))
          | inl same ↦
              elim (cases_Bool made) [
                | inr old ↦ ap (λ l. guarded g (made_by (record { directory = e.directory; listed = l }))) (reads.listed_then-other desk h h' m body file file' u e.listed (λ t i. false≢true (sym old ∙ t)))
                | inl t ↦
                    let i = naming_is c n e is in
                    let one : met_of e ≡ k.met = reads.entry_mine desk h h' m body file file' u rows k (met_of e) t i.met same in
                    let bytes : e.listed.body ≡ k.met.body = ap (λ (z : Met). z.body) one in
                    let then' : listed_with m.ino body e.listed ≡ record e.listed { body = body } = ap (λ z. cond z (record e.listed { body = body }) e.listed) (eq-eqb e.listed.entry.ino m.ino same) in
                    let now : body_at body ≡ file'.body = body_stands k.met.kind desk.sizes.range body file'.body body_in_grammar in
                    let was : body_at e.listed.body ≡ file.body = ap body_at bytes ∙ body_stands k.met.kind desk.sizes.range k.met.body file.body body_before in
                    ap (λ z. guarded g (made_by (record { directory = e.directory; listed = cond z (listed_with m.ino body e.listed) e.listed }))) t
                    ∙ ap (λ l. guarded g (made_by (record { directory = e.directory; listed = l }))) then'
                    ∙ by (body_at body) (body_at e.listed.body)
                    (ap (λ (z : Body). z.mode.0) now ∙ u.rights.mode ∙ sym (ap (λ (z : Body). z.mode.0) was))
                    (ap (λ (z : Body). z.uid) now ∙ u.rights.uid ∙ sym (ap (λ (z : Body). z.uid) was))
                    (ap (λ (z : Body). z.gid) now ∙ u.rights.gid ∙ sym (ap (λ (z : Body). z.gid) was))
              ]
        ]
      where
        node : Mode → ℕ → ℕ → Node
        node mode uid gid = record { parent = e.directory; name = e.listed.entry.name; kind = e.listed.entry.kind; mode = mode; uid = uid; gid = gid; guard = g; bytes = [] }

        by : (x y : Body) → x.mode.0 ≡ y.mode.0 → x.uid ≡ y.uid → x.gid ≡ y.gid → node x.mode x.uid x.gid ≡ node y.mode y.uid y.gid
        by x y mode uid gid = ap (λ z. node z x.uid x.gid) (mode-same x.mode y.mode mode) ∙ ap (λ z. node y.mode z x.gid) uid ∙ ap (node y.mode y.uid) gid

    -- of any other number it is the same node altogether
    left_other : (n : ℕ) → (n ≡ m.ino → ⊥) → node_left c2 n (naming_of c2 n) (node_at nodes n) ≡ node_left c n (naming_of c n) (node_at nodes n)
    left_other n d = ap (λ q. node_left c2 n q (node_at nodes n)) (naming_now n) ∙ by (naming_of c n) refl
      where
        one : (e : Naming) (z : Option Node) → naming_then e ≡ e → node_listed (naming_then e) z ≡ node_listed e z
        one e z same = ap (λ x. node_listed x z) same

        by : (q : Option Naming) → naming_of c n ≡ q → node_left c2 n (option_map naming_then q) (node_at nodes n) ≡ node_left c n q (node_at nodes n)
        by None is = refl
        by (Some e) is =
            let number : e.listed.entry.ino ≡ n = (naming_is c n e is).number in
            one e (node_at nodes n)
            (ap (λ l. record { directory = e.directory; listed = l }) (reads.listed_then-other desk h h' m body file file' u e.listed (λ t same. d (sym number ∙ same))))

    left_here : (q : Option (List ℕ)) (g : Bool)
        → option_map (with_judged q (Some g)) (node_left c2 m.ino (naming_of c2 m.ino) (node_at nodes m.ino)) ≡ option_map (with_judged q (Some g)) (node_left c m.ino (naming_of c m.ino) (node_at nodes m.ino))
    left_here q g = ap (λ o. option_map (with_judged q (Some g)) (node_left c2 m.ino o (node_at nodes m.ino))) (naming_now m.ino) ∙ by (naming_of c m.ino) refl
      where
        alike : (x y : Node) → guarded g x ≡ guarded g y → with_judged q (Some g) x ≡ with_judged q (Some g) y
        alike x y e = with_guarded-first q g x ∙ ap (with_bytes q) e ∙ sym (with_guarded-first q g y)

        at : (e : Naming) → naming_of c m.ino ≡ Some e → (z : Option Node) → option_map (with_judged q (Some g)) (node_listed (naming_then e) z) ≡ option_map (with_judged q (Some g)) (node_listed e z)
        at e is (Some x) = ap (λ y. Some (with_judged q (Some g) y)) (placed_same e x)
        at e is None = ap Some (alike (made_by (naming_then e)) (made_by e) (made_same m.ino e g is))

        by : (o : Option Naming) → naming_of c m.ino ≡ o
            → option_map (with_judged q (Some g)) (node_left c2 m.ino (option_map naming_then o) (node_at nodes m.ino)) ≡ option_map (with_judged q (Some g)) (node_left c m.ino o (node_at nodes m.ino))
        by None is = refl
        by (Some e) is = at e is (node_at nodes m.ino)

    -- ---- bytes

    found_then : (n : ℕ) → find (λ (x : Met). eqb x.ino n) (judged_files c2) ≡ option_map E (find (λ (x : Met). eqb x.ino n) (judged_files c))
    found_then n = search (arith, judged_now, find_map, find-same, met_with-number)

    abbrev read_bytes : Case → Met → Option (List ℕ)
    read_bytes z x = bytes_read (bundle_core z) x.kind (file_within (bundle_core z) x)

    bytes_then : (n : ℕ) → bytes_now c2 n ≡ option_and_then (read_bytes c2) (option_map E (find (λ (x : Met). eqb x.ino n) (judged_files c)))
    bytes_then n = ap (option_and_then (read_bytes c2)) (found_then n)

    -- of any other number the bundle has the bytes that it had
    bytes_same : (n : ℕ) → (n ≡ m.ino → ⊥) → bytes_now c2 n ≡ bytes_now c n
    bytes_same n d = bytes_then n ∙ by (find (λ (x : Met). eqb x.ino n) (judged_files c)) refl
      where
        of_read : (x : Met) (f : FileRead) → In x (judged_files c) → (x.ino ≡ m.ino → ⊥) → file_within (bundle_core c) x ≡ Ok f → (t : Bool) → is_directory x.kind ≡ t
            → cond t None (Some (take f.body.size (pages_bytes (bundle_core c2) f.chain.blocks))) ≡ cond t None (Some (take f.body.size (pages_bytes (bundle_core c) f.chain.blocks)))
        of_read x f i off read true is = refl
        of_read x f i off read false is =
            ap (λ l. Some (take f.body.size l))
            (bytes_as_before (bundle_core c) (bundle_core c2).pages f.chain.blocks (λ q j. reads.blocks_same desk h h' m body file file' u rows k x f i off read is q j))

        by : (q : Option Met) → find (λ (x : Met). eqb x.ino n) (judged_files c) ≡ q → option_and_then (read_bytes c2) (option_map E q) ≡ option_and_then (read_bytes c) (find (λ (x : Met). eqb x.ino n) (judged_files c))
        by None is = ap (option_and_then (read_bytes c)) (sym is)
        by (Some x) is =
            let f = find-In (λ (x : Met). eqb x.ino n) (judged_files c) x is in
            let off : x.ino ≡ m.ino → ⊥ = λ e. d (sym (eqb-true x.ino n f.1) ∙ e) in
            let r = k.reads x f.0 in
            ap (read_bytes c2) (met_with-other m.ino body x off)
            ∙ ap (bytes_read (bundle_core c2) x.kind) (reads.beside desk h h' m body file file' u rows k x r.0 f.0 off r.1)
            ∙ of_read x r.0 f.0 off r.1 (is_directory x.kind) refl
            ∙ ap (bytes_read (bundle_core c) x.kind) (sym r.1)
            ∙ ap (option_and_then (read_bytes c)) (sym is)

    found_mine : find (λ (x : Met). eqb x.ino m.ino) (judged_files c) ≡ Some k.met
    found_mine =
        let r = In-find (λ (x : Met). eqb x.ino m.ino) (judged_files c) k.met k.judged (eq-eqb k.met.ino m.ino k.number) in
        let f = find-In (λ (x : Met). eqb x.ino m.ino) (judged_files c) r.0 r.1 in
        r.1 ∙ ap Some (reads.judged_mine desk h h' m body file file' u rows k r.0 f.0 (eqb-true r.0.ino m.ino f.1))

    bytes_mine : bytes_now c2 m.ino ≡ bytes_read (bundle_core c2) m.kind (Ok file')
    bytes_mine = search (arith, bytes_then, found_mine, met_with-here, k, mine_now)

    bytes_before : bytes_now c m.ino ≡ bytes_read (bundle_core c) m.kind (Ok file)
    bytes_before =
        ap (option_and_then (read_bytes c)) found_mine ∙ ap (bytes_read (bundle_core c) k.met.kind) mine_before ∙ ap (λ z. bytes_read (bundle_core c) z (Ok file)) k.kind

    -- ---- guards

    guard_then : (n : ℕ) → guard_now c2 n ≡ option_map (λ (x : Met). guard_in x.body) (option_map E (find (λ (x : Met). eqb x.ino n) (judged_files c)))
    guard_then n = ap (option_map (λ (x : Met). guard_in x.body)) (found_then n)

    guard_same : (n : ℕ) → (n ≡ m.ino → ⊥) → guard_now c2 n ≡ guard_now c n
    guard_same n d = guard_then n ∙ by (find (λ (x : Met). eqb x.ino n) (judged_files c)) refl
      where
        by : (q : Option Met) → find (λ (x : Met). eqb x.ino n) (judged_files c) ≡ q
            → option_map (λ (x : Met). guard_in x.body) (option_map E q) ≡ option_map (λ (x : Met). guard_in x.body) (find (λ (x : Met). eqb x.ino n) (judged_files c))
        by None is = ap (option_map (λ (x : Met). guard_in x.body)) (sym is)
        by (Some x) is =
            let f = find-In (λ (x : Met). eqb x.ino n) (judged_files c) x is in
            ap (λ (z : Met). Some (guard_in z.body)) (met_with-other m.ino body x (λ e. d (sym (eqb-true x.ino n f.1) ∙ e))) ∙ ap (option_map (λ (x : Met). guard_in x.body)) (sym is)

    guard_mine : guard_now c2 m.ino ≡ Some file'.body.guard
    guard_mine =
        guard_then m.ino
        ∙ ap (λ o. option_map (λ (x : Met). guard_in x.body) (option_map E o)) found_mine
        ∙ ap (λ (z : Met). Some (guard_in z.body)) (met_with-here m.ino body k.met k.number)
        ∙ ap (λ (z : Body). Some z.guard) (body_stands k.met.kind desk.sizes.range body file'.body body_in_grammar)

    guard_before : guard_now c m.ino ≡ Some file.body.guard
    guard_before =
        ap (option_map (λ (x : Met). guard_in x.body)) found_mine ∙ ap (λ (z : Body). Some z.guard) (body_stands k.met.kind desk.sizes.range k.met.body file.body body_before)

    -- ---- nodes

    abbrev bytes : List ℕ
    bytes = bytes_listed (core_in_hand desk h') file'

    abbrev before_at : ℕ → Option Node
    before_at n = node_left c n (naming_of c n) (node_at nodes n)

    numbers_then : numbers (judged_files c2) ≡ numbers (judged_files c)
    numbers_then = ap numbers judged_now ∙ numbers-changed E (met_with-number m.ino body) (judged_files c)

    node_other : (n : ℕ) → (n ≡ m.ino → ⊥) → node_at nodes' n ≡ node_now c2 n (node_at nodes n)
    node_other n d =
        s.each n
        ∙ ap (λ q. option_map (with_judged q (guard_now c n)) (before_at n)) (sym (bytes_same n d))
        ∙ ap (λ g. option_map (with_judged (bytes_now c2 n) g) (before_at n)) (sym (guard_same n d))
        ∙ ap (option_map (with_judged (bytes_now c2 n) (guard_now c2 n))) (sym (left_other n d))

    named_then : (n : ℕ) → is_some (naming_of c n) ≡ true → is_some (naming_of c2 n) ≡ true
    named_then n t = search (arith, naming_now)

    module _ (plain : is_directory m.kind ≡ false) where
      abbrev after : Nodes
      after = with_data m.ino (bytes_listed (core_in_hand desk h') file') file'.body.guard nodes'

      bytes_plain : bytes_now c2 m.ino ≡ Some bytes
      bytes_plain = bytes_mine ∙ ap (λ t. cond t None (Some (take file'.body.size (pages_bytes (bundle_core c2) file'.chain.blocks)))) plain

      each_plain : (n : ℕ) → node_at after n ≡ node_now c2 n (node_at nodes n)
      each_plain n =
          elim (cases_eq n m.ino) [
            | inr d ↦ with_node-else nodes' m.ino n (option_map (node_holding bytes file'.body.guard) (node_at nodes' m.ino)) d ∙ node_other n d
            | inl e ↦
                ap (node_at after) e
                ∙ with_node-same nodes' m.ino (option_map (node_holding bytes file'.body.guard) (node_at nodes' m.ino))
                ∙ ap (option_map (node_holding bytes file'.body.guard)) (s.each m.ino)
                ∙ replaced bytes file'.body.guard (bytes_now c m.ino) (guard_now c m.ino) (before_at m.ino)
                ∙ sym (left_here (Some bytes) file'.body.guard)
                ∙ ap (λ q. option_map (with_judged q (Some file'.body.guard)) (node_left c2 m.ino (naming_of c2 m.ino) (node_at nodes m.ino))) (sym bytes_plain)
                ∙ ap (λ g. option_map (with_judged (bytes_now c2 m.ino) g) (node_left c2 m.ino (naming_of c2 m.ino) (node_at nodes m.ino))) (sym guard_mine)
                ∙ ap (λ j. node_now c2 j (node_at nodes j)) (sym e)
          ]

      -- a node that is there then was there in the same directory
      there_before : (n : ℕ) (x : Node) → node_at after n ≡ Some x → (y : Node) × (node_at nodes' n ≡ Some y) × (y.parent ≡ x.parent)
      there_before n x e =
          elim (cases_eq n m.ino) [
            | inr d ↦ (x, sym (with_node-else nodes' m.ino n (option_map (node_holding bytes file'.body.guard) (node_at nodes' m.ino)) d) ∙ e, refl)
            | inl same ↦
                let y = mapped (node_holding bytes file'.body.guard) (node_at nodes' m.ino) x
                (sym (with_node-same nodes' m.ino (option_map (node_holding bytes file'.body.guard) (node_at nodes' m.ino))) ∙ ap (node_at after) (sym same) ∙ e) in
                (y.0, ap (node_at nodes') same ∙ y.1, ap (λ (z : Node). z.parent) y.2)
          ]

      -- the file is shown, no directory: one that was made is listed so, and one that is written stays as it was lent
      made_there : made ≡ true → (y : Node) × (node_at nodes' m.ino ≡ Some y) × (is_directory y.kind ≡ false)
      made_there t =
          let p = k.parent t in
          let e = known.names desk h h' m body file file' u o nodes nodes' rows possible tree s p.0 k.met p.1 p.3 in
          let node = listed_as c nodes nodes' possible.tree tree among s e.0 k.met.ino e.1 in
          (node.node, ap (node_at nodes') (sym k.number) ∙ node.there, ap is_directory (node.kind ∙ e.3 ∙ k.kind) ∙ plain)

      lent_there : (f : LentFile) → In f h.parcel.writes → f.stands.ino ≡ m.ino → f.stands.ino ≡ f.lent.ino → f.stands.kind ≡ f.lent.kind → (y : Node) × (node_at nodes' m.ino ≡ Some y) × (is_directory y.kind ≡ false)
      lent_there f i number number_lent kind_lent =
          let mine : Written = written_in f.stands in
          let there : In mine b.writes = In-map (λ (x : LentFile). written_in x.stands) f h.parcel.writes i in
          let one : written_met c mine ≡ k.met =
          reads.judged_mine desk h h' m body file file' u rows k (written_met c mine) (start_judged c (written_met c mine) (start_to c mine there)) (written_ino_at mine (row_in rows mine.ino) ∙ number) in
          let kind : is_directory f.stands.kind ≡ false = ap is_directory (sym (written_kind_at mine (row_in rows mine.ino)) ∙ ap (λ (z : Met). z.kind) one ∙ k.kind) ∙ plain in
          let has = possible.agrees.files f.lent (In-left f.lent (lent_files h.parcel.writes) h.back (In-map (λ (x : LentFile). x.lent) f h.parcel.writes i)) in
          let x = mapped rights_of (node_at nodes f.lent.ino) (rights_in f.lent.kind f.lent.body) has.rights in
          let at : node_at nodes m.ino ≡ Some x.0 = ap (node_at nodes) (sym number ∙ number_lent) ∙ x.1 in
          let is : is_directory x.0.kind ≡ false = ap is_directory (ap (λ (z : Rights). z.kind) x.2 ∙ sym kind_lent) ∙ kind in
          by (unheld_mine mine there number) x.0 is (naming_of c m.ino) (s.each m.ino ∙ ap (λ q. option_map (with_judged (bytes_now c m.ino) (guard_now c m.ino)) (node_left c m.ino (naming_of c m.ino) q)) at)
        where
          kept : (q : Option (List ℕ)) (g : Option Bool) (z : Node) → is_directory z.kind ≡ false → is_directory (with_judged q g z).kind ≡ false
          kept None None z is = is
          kept None (Some g) z is = is
          kept (Some l) None z is = is
          kept (Some l) (Some g) z is = is

          unheld_mine : (w : Written) → In w b.writes → w.ino ≡ m.ino → is_among m.ino b.holds ≡ false
          unheld_mine w j e =
              false_from_ne_true (is_among m.ino b.holds) (λ t. among.apart m.ino (is_among-In m.ino b.holds t) (subst (λ n. In n (map (λ (z : Written). z.ino) b.writes)) e (In-map (λ (z : Written). z.ino) w b.writes j)))

          by : is_among m.ino b.holds ≡ false → (x : Node) → is_directory x.kind ≡ false → (q : Option Naming) → node_at nodes' m.ino ≡ option_map (with_judged (bytes_now c m.ino) (guard_now c m.ino)) (node_left c m.ino q (Some x))
              → (y : Node) × (node_at nodes' m.ino ≡ Some y) × (is_directory y.kind ≡ false)
          by free x is (Some g) e = (with_judged (bytes_now c m.ino) (guard_now c m.ino) (placed g x), e, kept (bytes_now c m.ino) (guard_now c m.ino) (placed g x) is)
          by free x is None e =
              (with_judged (bytes_now c m.ino) (guard_now c m.ino) x, e ∙ ap (λ t. option_map (with_judged (bytes_now c m.ino) (guard_now c m.ino)) (cond t None (Some x))) free, kept (bytes_now c m.ino) (guard_now c m.ino) x is)

      plain_there : (y : Node) × (node_at nodes' m.ino ≡ Some y) × (is_directory y.kind ≡ false)
      plain_there = search (arith, lent_there, made_there, In-is_among)

      tree_plain : IsTree after
      tree_plain =
          let y = plain_there in
          let other : m.ino ≡ 1 → ⊥ =
          λ same.
          let top : y.0 ≡ tree.root.0 = some_one (node_at nodes' m.ino) y.0 tree.root.0 y.1 (ap (node_at nodes') same ∙ tree.root.1) in
          is_directory-false y.0.kind y.2 (ap (λ (z : Node). z.kind) top ∙ tree.root.2) in
          subst IsTree (ap (λ q. with_node nodes' m.ino (option_map (node_holding bytes file'.body.guard) q)) (sym y.1)) (tree_same nodes' tree m.ino y.0 (node_holding bytes file'.body.guard y.0) y.1 other refl refl refl)

      shown_plain : Shows c2 nodes after
      shown_plain = record {
        grammar = grammar_met;
        owning = owning_met;
        rights = rights_met;
        each = each_plain;
        whole = λ n x e i.
            let y = there_before n x e in
            named_then n (s.whole n y.0 y.1 (ap (λ d. is_among d (numbers (judged_files c))) y.2 ∙ ap (is_among x.parent) (sym numbers_then) ∙ i));
      }

    module _ (dir : m.kind ≡ Directory) where
      unguarded : (z : Body) (l : List ℕ) → body_of k.met.kind desk.sizes.range l ≡ Some z → z.guard ≡ false
      unguarded z l is = directory_unguarded desk.sizes.range l z (sym (ap (λ y. body_of y desk.sizes.range l) (k.kind ∙ dir)) ∙ is)

      bytes_dir : (z : Case) (f : FileRead) → bytes_read (bundle_core z) m.kind (Ok f) ≡ None
      bytes_dir z f = ap (λ t. cond t None (Some (take f.body.size (pages_bytes (bundle_core z) f.chain.blocks)))) (ap is_directory dir)

      guard_dir : guard_now c2 m.ino ≡ Some false
      guard_dir = guard_mine ∙ ap Some (unguarded file'.body body body_in_grammar)

      node_dir : node_at nodes' m.ino ≡ node_now c2 m.ino (node_at nodes m.ino)
      node_dir =
          s.each m.ino
          ∙ ap (λ q. option_map (with_judged q (guard_now c m.ino)) (before_at m.ino)) (bytes_before ∙ bytes_dir c file)
          ∙ ap (λ g. option_map (with_judged None g) (before_at m.ino)) (guard_before ∙ ap Some (unguarded file.body k.met.body body_before))
          ∙ sym (left_here None false)
          ∙ ap (λ q. option_map (with_judged q (Some false)) (node_left c2 m.ino (naming_of c2 m.ino) (node_at nodes m.ino))) (sym (bytes_mine ∙ bytes_dir c2 file'))
          ∙ ap (λ g. option_map (with_judged (bytes_now c2 m.ino) g) (node_left c2 m.ino (naming_of c2 m.ino) (node_at nodes m.ino))) (sym guard_dir)

      shown_dir : Shows c2 nodes nodes'
      shown_dir = record {
        grammar = grammar_met;
        owning = owning_met;
        rights = rights_met;
        each = λ n. elim (cases_eq n m.ino) [
          | inr d ↦ node_other n d
          | inl e ↦ subst (λ j. node_at nodes' j ≡ node_now c2 j (node_at nodes j)) (sym e) node_dir
        ];
        whole = λ n x e i. named_then n (s.whole n x e (ap (is_among x.parent) (sym numbers_then) ∙ i));
      }

    abbrev changed : Bool → Nodes
    changed t = cond t nodes' (with_data m.ino (bytes_listed (core_in_hand desk h') file') file'.body.guard nodes')

    shown_of : Shows c2 nodes (changed (is_directory m.kind))
    shown_of = elim (kind_cases m.kind) [
      | inl dir ↦ subst (λ t. Shows c2 nodes (changed t)) (sym (ap is_directory dir)) (shown_dir dir)
      | inr plain ↦ subst (λ t. Shows c2 nodes (changed t)) (sym plain) (shown_plain plain)
    ]

    tree_of : IsTree (changed (is_directory m.kind))
    tree_of = elim (kind_cases m.kind) [
      | inl dir ↦ subst (λ t. IsTree (changed t)) (sym (ap is_directory dir)) tree
      | inr plain ↦ subst (λ t. IsTree (changed t)) (sym plain) (tree_plain plain)
    ]

    pub shown : Shows (case_with desk.sizes desk.creds rows b2 lent) nodes (content_of m.kind m.ino (bytes_listed (core_in_hand desk h') file') file'.body.guard nodes')
    shown = shown_of

    pub tree_then : IsTree (content_of m.kind m.ino (bytes_listed (core_in_hand desk h') file') file'.body.guard nodes')
    tree_then = tree_of

  -- ---- the law

  module _ (o : IsInOrder desk h) where
    before : (nodes : Nodes) (rows : List (Option Row)) → ArePossible desk h'.parcel h'.back nodes rows → ArePossible desk h.parcel h.back nodes rows
    before = possible_before desk h h' u.holds u.inodes u.lent u.back

    pub judged_edit_here : Becomes desk h h' (content_of m.kind m.ino (bytes_listed (core_in_hand desk h') file') file'.body.guard)
    judged_edit_here = record {
      more = before;
      shows = λ nodes nodes' rows may.
          subst (λ (x : Case). Shows x nodes (content_of m.kind m.ino (bytes_listed (core_in_hand desk h') file') file'.body.guard nodes')) (sym (case_is desk h h' u.holds u.inodes rows))
          (shown o nodes nodes' rows (before nodes rows may.possible) may.tree may.shows);
      tree = λ nodes nodes' rows may. tree_then o nodes nodes' rows (before nodes rows may.possible) may.tree may.shows;
      order = order_stays desk h h' u.holds u.inodes u.lent u.back (reads.writes_same desk h h' m body file file' u) u.pages o;
    }

    -- what is known, whatever the rows say
    pub known_here : (nodes nodes' : Nodes) (rows : List (Option Row)) → MayShow desk h h' nodes nodes' rows → reads.Known desk h h' m body file file' u []
    known_here nodes nodes' rows may =
        known.known_plain desk h h' m body file file' u rows (known.known desk h h' m body file file' u o nodes nodes' rows (before nodes rows may.possible) may.tree may.shows)

pub judged_edit_shows : JudgedEditShows
judged_edit_shows desk h h' m body file file' o u = judged_edit_here desk h h' m body file file' u o

pub judged_after_edit : JudgedAfterEdit
judged_after_edit desk h h' m body file file' nodes nodes' rows u v =
    ap judged_files (case_is desk h h' u.holds u.inodes [])
    ∙ reads.judged_now desk h h' m body file file' u [] (known_here desk h h' m body file file' u v.order nodes nodes' rows v.shows)

pub reads_after_edit : ReadsAfterEdit
reads_after_edit desk h h' m body file file' nodes nodes' rows x f u v i d read =
    let k = known_here desk h h' m body file file' u v.order nodes nodes' rows v.shows in
    let made : Bool = is_among m.ino (bundle_of h.parcel).numbers in (
      reads.beside desk h h' m body file file' u [] k x f i d read ∙ ap Ok (by made),
      λ away. elim (cases_Bool made) [
        | inr old ↦ reads.reads_same desk h h' m body file file' u [] k x f i d read (λ q j new same. false≢true (sym old ∙ In-is_among m.ino (bundle_of h.parcel).numbers new))
        | inl t ↦
            reads.reads_beside desk h h' m body file file' u [] k x f i d read t
            (λ e. away (is_among-In m.ino (bundle_of h.parcel).numbers t) (e ∙ reads.parent_number desk h h' m body file file' u [] k t))
      ],
    )
  where
    by : (t : Bool) → record f { entries = map (λ (l : Listed). cond t (listed_with m.ino body l) l) f.entries } ≡ cond t (record f { entries = map (listed_with m.ino body) f.entries }) f
    by true = refl
    by false = ap (λ l. record f { entries = l }) (reads.map-fixed (λ (l : Listed). l) f.entries (λ l j. refl))

pub listed_after_judged_edit : ListedAfterJudgedEdit
listed_after_judged_edit desk h h' m body file file' nodes nodes' rows page u v i =
    reads.pages_then desk h h' m body file file' u [] (known_here desk h h' m body file file' u v.order nodes nodes' rows v.shows) page
    (subst (λ (x : Case). In page (judged_pages x)) (case_is desk h h' u.holds u.inodes []) i)
