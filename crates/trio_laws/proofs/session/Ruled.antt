-- A bundle that differs from one that shows nodes in one file, in what it holds or in what it was allotted: rules I1, I2 and I4 hold
-- of it, and its namings and bytes are those of the other but for that file.
use Rattle.trio_laws.proofs.Words.{◌++◌, ◌||◌, ◌∙◌, ◌≡◌, ◌⊎◌, Bundle, Case, Creds, FileRead, Held, In, In-find, In-flat, In-is_among, In-map, In-right, Kind, List, Listed, Location, Met, Naming, Node, Nodes, None, Ok, Option, Result, Row, Shows, Sizes, Some, [], and_from, and_parts, ap, are_new, arith, bundle_core, bundle_pages, bytes_now, bytes_read, children_in, each_new, entries_in, entry_in_grammar, entry_is_own, entry_keeps_rights, eq-eqb, eqb, eqb-true, file_keeps_rights, file_within, find, find-In, flat_map, flat_map-In, gathered_new, has_kind, inl, inr, is_among, is_among-In, is_kept, is_ok, is_ok-Ok, is_some, is_written, judged_entries, judged_files, judged_pages, list_all, list_all-In, list_all-each, map, map-In, map-map, meets_grammar, meets_owning, meets_rights, met_in, naming_of, namings, namings_in, node_at, node_now, numbers, numbers-flat, one_keyed, one_of, option_and_then, or_left, page_of, pages_in, pages_within, plain, refl, row_in, same_met, subst, sym, true, ℕ, cond, guard_in, guard_now, is_directory, option_map, bytes_eq, lent_body, not, Bool, ◌&&◌}
use Rattle.std.specs.Prelude.{take}
use Rattle.trio_laws.proofs.session.Namings.{met_of, judged_named}
use Rattle.trio_laws.proofs.session.Reading.{bytes_as_before, file_as_before}

-- the case of a bundle, with the bodies that its holds lent
abbrev pub case_with : Sizes → Creds → List (Option Row) → Bundle → List Held → Case
case_with sizes creds rows b lent = record { bundle = b; lent = lent; rows = rows; creds = creds; range = sizes.range; inodes = sizes.inodes }

-- the pages of a file that was read
abbrev pub listed_pages : FileRead → List ℕ
listed_pages f = f.chain.index ++ f.chain.blocks

-- its entries, as files that are met
abbrev pub met_entries : Met → FileRead → List Met
met_entries m f = map (met_in plain m.ino) f.entries

pub naming_from : (directory : ℕ) (r : Result FileRead Location) (e : Naming) → In e (namings_in directory r) → (f : FileRead) × (r ≡ Ok f) × (l : Listed) × In l f.entries × (e ≡ record { directory = directory; listed = l })
naming_from directory r e i = search (arith, map-In)

-- what rule I2 says of a case
pub record IsOwned (c : Case) : Type 0 where
  pub pages : list_all (λ page. is_among page (bundle_pages c.bundle)) (judged_pages c) ≡ true
  pub pages_once : are_new [] (judged_pages c) ≡ true
  pub entries : list_all (entry_is_own c) (judged_entries c) ≡ true
  pub entries_once : are_new [] (numbers (judged_entries c)) ≡ true

pub owning_parts : (c : Case) → meets_owning c ≡ true → IsOwned c
owning_parts c owning = search (arith, and_parts)

-- where no number is listed twice an entry names its number
pub naming_once : (c : Case) → are_new [] (numbers (judged_entries c)) ≡ true → (e : Naming) → In e (namings c) → naming_of c e.listed.entry.ino ≡ Some e
unfolding met_of
naming_once c once e i =
    let new : are_new [] (map (λ (x : Naming). x.listed.entry.ino) (namings c)) ≡ true =
    ap (are_new []) (sym (ap numbers (judged_named c) ∙ map-map (λ (m : Met). m.ino) met_of (namings c))) ∙ once in
    let r = In-find (λ (x : Naming). eqb x.listed.entry.ino e.listed.entry.ino) (namings c) e i (eq-eqb e.listed.entry.ino e.listed.entry.ino refl) in
    let f = find-In (λ (x : Naming). eqb x.listed.entry.ino e.listed.entry.ino) (namings c) r.0 r.1 in
    r.1 ∙ ap Some (one_keyed (λ (x : Naming). x.listed.entry.ino) (namings c) r.0 e new f.0 i (eqb-true r.0.listed.entry.ino e.listed.entry.ino f.1))

module _ (sizes : Sizes) (creds : Creds) (rows : List (Option Row)) (b b' : Bundle) (lent lent' : List Held) (New Old : Met → Type 0) where
  abbrev c : Case
  c = case_with sizes creds rows b lent

  abbrev c' : Case
  c' = case_with sizes creds rows b' lent'

  -- a file that is new to the judged ones, or reads otherwise than before: it is in order, and shares nothing with the others
  pub record IsNewFile (m : Met) : Type 0 where
    pub file : FileRead
    pub read : file_within (bundle_core (case_with sizes creds rows b' lent')) m ≡ Ok file
    pub pages : (p : ℕ) → In p (listed_pages file) → In p (bundle_pages b')
    pub pages_once : are_new [] (listed_pages file) ≡ true
    pub pages_apart : (x : Met) (p : ℕ) → Old x → In p (pages_within (case_with sizes creds rows b lent) x) → In p (listed_pages file) → ⊥
    pub kept : (e : Met) → In e (met_entries m file) → is_kept (case_with sizes creds rows b' lent') e ≡ true
    pub kind : (e : Met) → In e (met_entries m file) → has_kind e.kind (row_in rows e.ino) ≡ true
    pub entries_once : are_new [] (numbers (met_entries m file)) ≡ true
    pub entries_apart : (x e y : Met) → Old x → In e (entries_in (case_with sizes creds rows b lent) x) → In y (met_entries m file) → y.ino ≡ e.ino → ⊥
    pub rights : file_keeps_rights (case_with sizes creds rows b' lent') m (Ok file) ≡ true

  -- the judged files are those of before, and new ones
  pub record IsFurther : Type 0 where
    pub once : are_new [] (numbers (judged_files (case_with sizes creds rows b' lent'))) ≡ true
    pub from : (m : Met) → In m (judged_files (case_with sizes creds rows b' lent')) → New m ⊎ Old m
    pub new_to : (m : Met) → New m → In m (judged_files (case_with sizes creds rows b' lent'))
    pub old_to : (m : Met) → Old m → In m (judged_files (case_with sizes creds rows b' lent'))
    pub old_in : (m : Met) → Old m → In m (judged_files (case_with sizes creds rows b lent))
    pub left :
        (m : Met) → In m (judged_files (case_with sizes creds rows b lent))
        → Old m ⊎ ((x : Met) × New x × (x.ino ≡ m.ino) × (namings_in m.ino (file_within (bundle_core (case_with sizes creds rows b lent)) m) ≡ []))
    pub page : (m : Met) (p : ℕ) → Old m → In p (pages_within (case_with sizes creds rows b lent) m) → page_of (bundle_core (case_with sizes creds rows b' lent')) p ≡ page_of (bundle_core (case_with sizes creds rows b lent)) p
    pub more : (p : ℕ) → In p (bundle_pages b) → In p (bundle_pages b')
    pub written : (m : Met) → Old m → is_written b' m.ino ≡ is_written b m.ino
    pub own : (e : Met) → In e (judged_entries (case_with sizes creds rows b lent)) → entry_is_own (case_with sizes creds rows b lent) e ≡ true → entry_is_own (case_with sizes creds rows b' lent') e ≡ true
    pub keeps : (e : Met) → In e (judged_entries (case_with sizes creds rows b lent)) → entry_is_own (case_with sizes creds rows b lent) e ≡ true → entry_keeps_rights (case_with sizes creds rows b lent) e ≡ true → entry_keeps_rights (case_with sizes creds rows b' lent') e ≡ true
    pub one : (m x : Met) → New m → New x → m.ino ≡ x.ino
    pub new : (m : Met) → New m → IsNewFile m

  module _ (g : IsFurther) (nodes nodes' : Nodes) (s : Shows (case_with sizes creds rows b lent) nodes nodes') where
    -- ---- what is known of the files of before

    old_read : (m : Met) → Old m → (f : FileRead) × (file_within (bundle_core c) m ≡ Ok f)
    old_read m o = search (arith, is_ok-Ok, list_all-In, is_ok, and_parts)

    old_again : (m : Met) (o : Old m) → file_within (bundle_core c') m ≡ Ok (old_read m o).0
    old_again m o =
        let r = old_read m o in
        file_as_before (bundle_core c) (bundle_core c').pages m r.0 r.1 (λ p i. g.page m p o (subst (λ w. In p (pages_in w)) (sym r.1) i))

    pub old_same : (m : Met) → Old m → file_within (bundle_core c') m ≡ file_within (bundle_core c) m
    old_same m o = old_again m o ∙ sym (old_read m o).1

    abbrev owned : IsOwned (case_with sizes creds rows b lent)
    owned = owning_parts (case_with sizes creds rows b lent) s.owning

    -- ---- entries

    old_entries : (m : Met) → Old m → entries_in c' m ≡ entries_in c m
    old_entries m o = ap (children_in plain m.ino) (old_same m o)

    new_entries_are : (m : Met) (n : New m) → entries_in c' m ≡ met_entries m (g.new m n).file
    new_entries_are m n = ap (children_in plain m.ino) (g.new m n).read

    entry_from : (e : Met) → In e (judged_entries c') → ((m : Met) × (n : New m) × In e (met_entries m (g.new m n).file)) ⊎ In e (judged_entries c)
    entry_from e i =
        let q = flat_map-In (entries_in c') e (judged_files c') i in
        elim (g.from q.0 q.1) [
          | inl n ↦ inl (q.0, n, subst (λ l. In e l) (new_entries_are q.0 n) q.2)
          | inr o ↦ inr (In-flat (entries_in c) q.0 e (judged_files c) (g.old_in q.0 o) (subst (λ l. In e l) (old_entries q.0 o) q.2))
        ]

    own_before : (e : Met) → In e (judged_entries c) → entry_is_own c e ≡ true
    own_before e i = list_all-In (entry_is_own c) e (judged_entries c) owned.entries i

    -- ---- I1

    pub grammar_met : meets_grammar c' ≡ true
    grammar_met =
        and_from (list_all (λ m. is_ok (file_within (bundle_core c') m)) (judged_files c')) (list_all (entry_in_grammar c') (judged_entries c'))
        (list_all-each (λ m. is_ok (file_within (bundle_core c') m)) (judged_files c')
        (λ m i. elim (g.from m i) [ inl n ↦ ap is_ok (g.new m n).read | inr o ↦ ap is_ok (old_again m o) ]))
        (list_all-each (entry_in_grammar c') (judged_entries c')
        (λ e i. elim (entry_from e i) [
          | inl q ↦ or_left (is_kept c' e) _ ((g.new q.0 q.1).kept e q.2)
          | inr before ↦
              list_all-In (entry_in_grammar c) e (judged_entries c) (and_parts (list_all (λ m. is_ok (file_within (bundle_core c) m)) (judged_files c)) (list_all (entry_in_grammar c) (judged_entries c)) s.grammar).1 before
        ]))

    -- ---- I2

    new_pages_are : (m : Met) (n : New m) → pages_within c' m ≡ listed_pages (g.new m n).file
    new_pages_are m n = ap pages_in (g.new m n).read

    old_pages : (m : Met) → Old m → pages_within c' m ≡ pages_within c m
    old_pages m o = ap pages_in (old_same m o)

    pages_own : list_all (λ page. is_among page (bundle_pages b')) (judged_pages c') ≡ true
    pages_own =
        list_all-each (λ page. is_among page (bundle_pages b')) (judged_pages c')
        (λ p i.
        let q = flat_map-In (pages_within c') p (judged_files c') i in
        elim (g.from q.0 q.1) [
          | inl n ↦ among_from p ((g.new q.0 n).pages p (subst (λ l. In p l) (new_pages_are q.0 n) q.2))
          | inr o ↦
              among_from p (g.more p (among_to p (list_all-In (λ page. is_among page (bundle_pages b)) p (judged_pages c) owned.pages
              (In-flat (pages_within c) q.0 p (judged_files c) (g.old_in q.0 o) (subst (λ l. In p l) (old_pages q.0 o) q.2)))))
        ])
      where
        among_from : (p : ℕ) → In p (bundle_pages b') → is_among p (bundle_pages b') ≡ true
        among_from p i = In-is_among p (bundle_pages b') i

        among_to : (p : ℕ) → is_among p (bundle_pages b) ≡ true → In p (bundle_pages b)
        among_to p i = is_among-In p (bundle_pages b) i

    pages_new : are_new [] (judged_pages c') ≡ true
    pages_new =
        gathered_new (λ (m : Met). m.ino) (pages_within c') (judged_files c') g.once
        (λ m i. elim (g.from m i) [
          | inl n ↦ ap (are_new []) (new_pages_are m n) ∙ (g.new m n).pages_once
          | inr o ↦ ap (are_new []) (old_pages m o) ∙ each_new (pages_within c) (judged_files c) m owned.pages_once (g.old_in m o)
        ])
        (λ m x p i j a d. by m x p (g.from m i) (g.from x j) a d)
      where
        by : (m x : Met) (p : ℕ) → New m ⊎ Old m → New x ⊎ Old x → In p (pages_within c' m) → In p (pages_within c' x) → m.ino ≡ x.ino
        by m x p (inl n) (inl k) a d = g.one m x n k
        by m x p (inl n) (inr o) a d =
            absurd ((g.new m n).pages_apart x p o (subst (λ l. In p l) (old_pages x o) d) (subst (λ l. In p l) (new_pages_are m n) a))
        by m x p (inr o) (inl n) a d =
            absurd ((g.new x n).pages_apart m p o (subst (λ l. In p l) (old_pages m o) a) (subst (λ l. In p l) (new_pages_are x n) d))
        by m x p (inr o) (inr k) a d =
            ap (λ (y : Met). y.ino)
            (one_of (pages_within c) (judged_files c) m x p owned.pages_once (g.old_in m o) (g.old_in x k) (subst (λ l. In p l) (old_pages m o) a) (subst (λ l. In p l) (old_pages x k) d))

    entries_own : list_all (entry_is_own c') (judged_entries c') ≡ true
    entries_own =
        list_all-each (entry_is_own c') (judged_entries c')
        (λ e i. elim (entry_from e i) [
          | inl q ↦
              or_left (is_kept c' e || is_among e.ino b'.holds) (is_among e.ino b'.numbers) (or_left (is_kept c' e) (is_among e.ino b'.holds) ((g.new q.0 q.1).kept e q.2))
          | inr before ↦ g.own e before (own_before e before)
        ])

    pub entries_new : are_new [] (numbers (judged_entries c')) ≡ true
    entries_new =
        ap (are_new []) (numbers-flat (entries_in c') (judged_files c'))
        ∙ gathered_new (λ (m : Met). m.ino) (λ m. numbers (entries_in c' m)) (judged_files c') g.once
        (λ m i. elim (g.from m i) [
          | inl n ↦ ap (λ l. are_new [] (numbers l)) (new_entries_are m n) ∙ (g.new m n).entries_once
          | inr o ↦ ap (λ l. are_new [] (numbers l)) (old_entries m o) ∙ each_new (λ m. numbers (entries_in c m)) (judged_files c) m each_once (g.old_in m o)
        ])
        (λ m x p i j a d. by m x p (g.from m i) (g.from x j) a d)
      where
        each_once : are_new [] (flat_map (λ m. numbers (entries_in c m)) (judged_files c)) ≡ true
        each_once = ap (are_new []) (sym (numbers-flat (entries_in c) (judged_files c))) ∙ owned.entries_once

        apart_by : (m x : Met) (p : ℕ) (n : New m) → Old x → In p (numbers (entries_in c' m)) → In p (numbers (entries_in c' x)) → ⊥
        apart_by m x p n o a d =
            let y = map-In (λ (z : Met). z.ino) p (met_entries m (g.new m n).file) (subst (λ l. In p (numbers l)) (new_entries_are m n) a) in
            let e = map-In (λ (z : Met). z.ino) p (entries_in c x) (subst (λ l. In p (numbers l)) (old_entries x o) d) in
            (g.new m n).entries_apart x e.0 y.0 o e.1 y.1 (sym y.2 ∙ e.2)

        by : (m x : Met) (p : ℕ) → New m ⊎ Old m → New x ⊎ Old x → In p (numbers (entries_in c' m)) → In p (numbers (entries_in c' x)) → m.ino ≡ x.ino
        by m x p (inl n) (inl k) a d = g.one m x n k
        by m x p (inl n) (inr o) a d = absurd (apart_by m x p n o a d)
        by m x p (inr o) (inl n) a d = absurd (apart_by x m p n o d a)
        by m x p (inr o) (inr k) a d =
            ap (λ (y : Met). y.ino)
            (one_of (λ m. numbers (entries_in c m)) (judged_files c) m x p each_once (g.old_in m o) (g.old_in x k) (subst (λ l. In p (numbers l)) (old_entries m o) a) (subst (λ l. In p (numbers l)) (old_entries x k) d))

    pub owning_met : meets_owning c' ≡ true
    owning_met = search (arith, and_from, pages_own, pages_new, entries_own, entries_new)

    -- ---- I4

    file_keeps : (m : Met) → New m ⊎ Old m → file_keeps_rights c' m (file_within (bundle_core c') m) ≡ true
    file_keeps m (inl n) = ap (file_keeps_rights c' m) (g.new m n).read ∙ (g.new m n).rights
    file_keeps m (inr o) =
        let r = old_read m o in
        let before : file_keeps_rights c m (file_within (bundle_core c) m) ≡ true =
        list_all-In (λ m. file_keeps_rights c m (file_within (bundle_core c) m)) m (judged_files c) (and_parts (list_all (entry_keeps_rights c) (judged_entries c)) _ s.rights).1 (g.old_in m o) in
        search (arith, old_again)

    pub rights_met : meets_rights c' ≡ true
    rights_met =
        and_from (list_all (entry_keeps_rights c') (judged_entries c')) (list_all (λ m. file_keeps_rights c' m (file_within (bundle_core c') m)) (judged_files c'))
        (list_all-each (entry_keeps_rights c') (judged_entries c')
        (λ e i. elim (entry_from e i) [
          | inl q ↦
              let named : Bool = has_kind e.kind (row_in rows e.ino) in
              ap (λ t. cond t named (not (is_among e.ino b'.holds) || (named && bytes_eq e.body (lent_body c' e.ino)))) ((g.new q.0 q.1).kept e q.2)
              ∙ (g.new q.0 q.1).kind e q.2
          | inr before ↦ search (arith, own_before, list_all-In, and_parts)
        ]))
        (list_all-each (λ m. file_keeps_rights c' m (file_within (bundle_core c') m)) (judged_files c') (λ m i. file_keeps m (g.from m i)))

    -- ---- entries by number

    -- an entry of a directory of the bundle names its number
    naming_by : (e : Naming) → In e (namings c') → naming_of c' e.listed.entry.ino ≡ Some e
    naming_by e i = naming_once (case_with sizes creds rows b' lent') entries_new e i

    abbrev named_in : Case → Met → List Naming
    named_in x m = namings_in m.ino (file_within (bundle_core x) m)

    naming_old : (m : Met) (e : Naming) → Old m → In e (named_in c m) → In e (namings c')
    naming_old m e o i =
        In-flat (named_in c') m e (judged_files c') (g.old_to m o) (subst (λ r. In e (namings_in m.ino r)) (sym (old_same m o)) i)

    pub naming_new : (m : Met) (n : New m) (l : Listed) → In l (g.new m n).file.entries → naming_of c' l.entry.ino ≡ Some (record { directory = m.ino; listed = l })
    naming_new m n l i =
        naming_by (record { directory = m.ino; listed = l })
        (In-flat (named_in c') m (record { directory = m.ino; listed = l }) (judged_files c') (g.new_to m n)
        (subst (λ r. In (record { directory = m.ino; listed = l }) (namings_in m.ino r)) (sym (g.new m n).read)
        (In-map (λ (l : Listed). record { directory = m.ino; listed = l }) l (g.new m n).file.entries i)))

    -- a number that no new file lists is named as before
    pub naming_same : (n : ℕ) → ((m : Met) (w : New m) (l : Listed) → In l (g.new m w).file.entries → l.entry.ino ≡ n → ⊥) → naming_of c' n ≡ naming_of c n
    naming_same n out = by (naming_of c n) refl
      where
        still : (o : Option Naming) → naming_of c' n ≡ o → naming_of c n ≡ None → naming_of c' n ≡ None
        still None h none = h
        still (Some e) h none =
            let f = find-In (λ (x : Naming). eqb x.listed.entry.ino n) (namings c') e h in
            let q = flat_map-In (named_in c') e (judged_files c') f.0 in
            elim (g.from q.0 q.1) [
              | inl w ↦
                  let k = naming_from q.0.ino (Ok (g.new q.0 w).file) e (subst (λ r. In e (namings_in q.0.ino r)) (g.new q.0 w).read q.2) in
                  let same : (g.new q.0 w).file ≡ k.0 = (let t : Ok (g.new q.0 w).file ≡ Ok k.0 = k.1 in cc t) in
                  let number : k.2.entry.ino ≡ n = sym (ap (λ (x : Naming). x.listed.entry.ino) k.4) ∙ eqb-true e.listed.entry.ino n f.1 in
                  absurd (out q.0 w k.2 (subst (λ (z : FileRead). In k.2 z.entries) (sym same) k.3) number)
              | inr o ↦
                  let i : In e (namings c) = In-flat (named_in c) q.0 e (judged_files c) (g.old_in q.0 o) (subst (λ r. In e (namings_in q.0.ino r)) (old_same q.0 o) q.2) in
                  let r = In-find (λ (x : Naming). eqb x.listed.entry.ino n) (namings c) e i f.1 in
                  let wrong : None ≡ Some r.0 = sym none ∙ r.1 in absurd (cc wrong)
            ]

        by : (o : Option Naming) → naming_of c n ≡ o → naming_of c' n ≡ naming_of c n
        by None h = still (naming_of c' n) refl h ∙ sym h
        by (Some e) h =
            let f = find-In (λ (x : Naming). eqb x.listed.entry.ino n) (namings c) e h in
            let q = flat_map-In (named_in c) e (judged_files c) f.0 in
            let number : e.listed.entry.ino ≡ n = eqb-true e.listed.entry.ino n f.1 in
            elim (g.left q.0 q.1) [
              | inl o ↦ ap (naming_of c') (sym number) ∙ naming_by e (naming_old q.0 e o q.2) ∙ sym h
              | inr gone ↦ absurd (subst (λ l. In e l) gone.3 q.2)
            ]

    -- ---- bytes and guards

    judged_one : (m x : Met) → In m (judged_files c') → In x (judged_files c') → m.ino ≡ x.ino → m ≡ x
    judged_one m x i k e = same_met (judged_files c') m x g.once i k e

    found : (m : Met) → In m (judged_files c') → find (λ (x : Met). eqb x.ino m.ino) (judged_files c') ≡ Some m
    found m i =
        let r = In-find (λ (x : Met). eqb x.ino m.ino) (judged_files c') m i (eq-eqb m.ino m.ino refl) in
        let f = find-In (λ (x : Met). eqb x.ino m.ino) (judged_files c') r.0 r.1 in
        r.1 ∙ ap Some (judged_one r.0 m f.0 i (eqb-true r.0.ino m.ino f.1))

    pub bytes_new : (m : Met) (n : New m) → bytes_now c' m.ino ≡ bytes_read (bundle_core c') m.kind (Ok (g.new m n).file)
    bytes_new m n =
        ap (option_and_then (λ m. bytes_read (bundle_core c') m.kind (file_within (bundle_core c') m))) (found m (g.new_to m n))
        ∙ ap (bytes_read (bundle_core c') m.kind) (g.new m n).read

    bytes_of_read : (k : Kind) (f : FileRead) → ((p : ℕ) → In p f.chain.blocks → page_of (bundle_core c') p ≡ page_of (bundle_core c) p) → bytes_read (bundle_core c') k (Ok f) ≡ bytes_read (bundle_core c) k (Ok f)
    bytes_of_read k f same = ap (λ l. cond (is_directory k) None (Some (take f.body.size l))) (bytes_as_before (bundle_core c) (bundle_core c').pages f.chain.blocks same)

    pub guard_new : (m : Met) → New m → guard_now c' m.ino ≡ Some (guard_in m.body)
    guard_new m n = ap (option_map (λ (x : Met). guard_in x.body)) (found m (g.new_to m n))

    -- of any other number the judged file is that of before
    find_same : (n : ℕ) → ((m : Met) → New m → m.ino ≡ n → ⊥) → find (λ (m : Met). eqb m.ino n) (judged_files c') ≡ find (λ (m : Met). eqb m.ino n) (judged_files c)
    find_same n out = by (find (λ (m : Met). eqb m.ino n) (judged_files c)) refl
      where
        still : (o : Option Met) → find (λ (m : Met). eqb m.ino n) (judged_files c') ≡ o → find (λ (m : Met). eqb m.ino n) (judged_files c) ≡ None → find (λ (m : Met). eqb m.ino n) (judged_files c') ≡ None
        still None h none = h
        still (Some m) h none =
            let f = find-In (λ (x : Met). eqb x.ino n) (judged_files c') m h in
            elim (g.from m f.0) [
              | inl w ↦ absurd (out m w (eqb-true m.ino n f.1))
              | inr o ↦
                  let r = In-find (λ (x : Met). eqb x.ino n) (judged_files c) m (g.old_in m o) f.1 in
                  let wrong : None ≡ Some r.0 = sym none ∙ r.1 in absurd (cc wrong)
            ]

        by : (o : Option Met) → find (λ (m : Met). eqb m.ino n) (judged_files c) ≡ o → find (λ (m : Met). eqb m.ino n) (judged_files c') ≡ find (λ (m : Met). eqb m.ino n) (judged_files c)
        by None h = still (find (λ (m : Met). eqb m.ino n) (judged_files c')) refl h ∙ sym h
        by (Some m) h =
            let f = find-In (λ (x : Met). eqb x.ino n) (judged_files c) m h in
            let number : m.ino ≡ n = eqb-true m.ino n f.1 in
            elim (g.left m f.0) [
              | inr gone ↦ absurd (out gone.0 gone.1 (gone.2 ∙ number))
              | inl o ↦ ap (λ i. find (λ (x : Met). eqb x.ino i) (judged_files c')) (sym number) ∙ found m (g.old_to m o) ∙ sym h
            ]

    pub guard_same : (n : ℕ) → ((m : Met) → New m → m.ino ≡ n → ⊥) → guard_now c' n ≡ guard_now c n
    guard_same n out = ap (option_map (λ (m : Met). guard_in m.body)) (find_same n out)

    -- and the bundle has the bytes of before
    pub bytes_same : (n : ℕ) → ((m : Met) → New m → m.ino ≡ n → ⊥) → bytes_now c' n ≡ bytes_now c n
    bytes_same n out =
        ap (option_and_then (λ m. bytes_read (bundle_core c') m.kind (file_within (bundle_core c') m))) (find_same n out)
        ∙ by (find (λ (m : Met). eqb m.ino n) (judged_files c)) refl
      where
        by : (o : Option Met) → find (λ (m : Met). eqb m.ino n) (judged_files c) ≡ o
            → option_and_then (λ m. bytes_read (bundle_core c') m.kind (file_within (bundle_core c') m)) o
            ≡ option_and_then (λ m. bytes_read (bundle_core c) m.kind (file_within (bundle_core c) m)) o
        by None h = refl
        by (Some m) h =
            let f = find-In (λ (x : Met). eqb x.ino n) (judged_files c) m h in
            let number : m.ino ≡ n = eqb-true m.ino n f.1 in
            elim (g.left m f.0) [
              | inr gone ↦ absurd (out gone.0 gone.1 (gone.2 ∙ number))
              | inl o ↦
                  let r = old_read m o in
                  ap (bytes_read (bundle_core c') m.kind) (old_again m o)
                  ∙ bytes_of_read m.kind r.0 (λ p i. g.page m p o (subst (λ w. In p (pages_in w)) (sym r.1) (In-right p r.0.chain.index r.0.chain.blocks i)))
                  ∙ ap (bytes_read (bundle_core c) m.kind) (sym r.1)
            ]

    -- ---- all

    pub shows_by :
        (after : Nodes) → ((n : ℕ) → node_at after n ≡ node_now c' n (node_at nodes n))
        → ((n : ℕ) (x : Node) → node_at after n ≡ Some x → is_among x.parent (numbers (judged_files c')) ≡ true → is_some (naming_of c' n) ≡ true)
        → Shows (case_with sizes creds rows b' lent') nodes after
    shows_by after each whole = search (arith, grammar_met, owning_met, rights_met)
