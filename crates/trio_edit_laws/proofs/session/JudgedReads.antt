-- What the judged files are and read where one of them is edited, written or made.
use Rattle.trio_edit_laws.proofs.Words.{◌&&◌, ◌++◌, ◌<◌, ◌∙◌, ◌∷◌, ◌≡◌, ◌⊎◌, Bool, Bundle, Case, Core, DeskSeen, Entry, EntryPart, FileRead, Front, Held, In, In-flat, In-is_among, In-map, In-right, InHand, IsJudgedEdit, LentFile, List, Listed, Met, None, Ok, Option, Placed, Regular, Row, Some, Written, [], and_from, and_parts, ap, are_new, are_new-append, are_new-before, arith, bare, bare_at, bare_file, body-number, bundle_core, bundle_of, case_with, cases_Bool, cases_eq, children_in, cond, each_new, entries_in, eq-eqb, eqb, eqb-true, false_from_ne_true, false≢true, file_as_before, files_in_hand, flat_map, flat_map-In, fronts, held_by, inl, inr, is_among, is_among-In, judged_entries, judged_once, judged_pages, judged_there, listed_with, map, map-In, map-each, map-map, met_in, met_with, ne_eqb, new_entries, numbers, numbers-flat, one_keyed, one_of, page_of, pages_in, pages_listed, pages_within, plain, refl, plain_entries, row_in, same_met, slot_bytes, slot_of, sorted-map, sorted_by, subst, suc, sym, true, written_at, written_files, written_in, written_ino_at, written_met, ℕ, is_directory, false}
use Rattle.trio_laws.specs.session.FileEdits.{with_body}
use Rattle.trio_layout.specs.Within.{file_within}
use Rattle.trio_layout.specs.JudgedFiles.{judged_files}
use Rattle.trio_edit_laws.specs.session.JudgedEdits.{HasBodyInSlot}
use Rattle.trio_edit_laws.proofs.session.EditedOrder.{bundle_then}
use Rattle.trio_edit_laws.proofs.session.EditedSlots.{entry-stands, file-placed, placed_with}
use Rattle.trio_edit_laws.proofs.session.EditedWalk.{filter-changed, flat_map-changed, fronts-changed}
use Rattle.trio_laws.proofs.session.FileEdits.{body-here, body-other}
use Rattle.trio_laws.proofs.session.Stands.{Read}

-- ---- lists

pub map-fixed : {X : Type 0} (f : X → X) (xs : List X) → ((x : X) → In x xs → f x ≡ x) → map f xs ≡ xs
map-fixed f [] h = refl
map-fixed f (x ∷ xs) h = ap (λ y. y ∷ map f xs) (h x (inl refl)) ∙ ap (λ l. x ∷ l) (map-fixed f xs (λ y i. h y (inr i)))

-- ---- bodies

-- a file reads by its kind and its body
pub file_within-alike : (core : Core) (m x : Met) → m.kind ≡ x.kind → m.body ≡ x.body → file_within core m ≡ file_within core x
unfolding file_within
file_within-alike core m x kind body = search arith

pub met_with-number : (ino : ℕ) (body : List ℕ) (x : Met) → (met_with ino body x).ino ≡ x.ino
met_with-number ino body x = search arith

pub met_with-other : (ino : ℕ) (body : List ℕ) (x : Met) → (x.ino ≡ ino → ⊥) → met_with ino body x ≡ x
met_with-other ino body x d = ap (λ t. cond t (record x { body = body }) x) (ne_eqb x.ino ino d)

pub met_with-here : (ino : ℕ) (body : List ℕ) (x : Met) → x.ino ≡ ino → met_with ino body x ≡ record x { body = body }
met_with-here ino body x e = ap (λ t. cond t (record x { body = body }) x) (eq-eqb x.ino ino e)

-- an entry that is met has the body of the slot
met_in-listed : (directory ino : ℕ) (body : List ℕ) (l : Listed) → met_in plain directory (listed_with ino body l) ≡ met_with ino body (met_in plain directory l)
met_in-listed directory ino body l = search arith

written-with : (w : Written) (body : List ℕ) (o : Option Row) → written_at (record (bare w) { body = body }) o ≡ record (written_at w o) { body = body }
written-with w body None = refl
written-with w body (Some r) = refl

module _ (desk : DeskSeen) (h h' : InHand) (m : Met) (body : List ℕ) (file file' : FileRead) (u : IsJudgedEdit desk h h' m body file file') where
  abbrev b : Bundle
  b = bundle_of h.parcel

  abbrev b2 : Bundle
  b2 = bundle_then h h'

  abbrev lent : List Held
  lent = map held_by h.parcel.holds

  -- the file was made
  abbrev made : Bool
  made = is_among m.ino b.numbers

  -- an entry, as it is then: with the new body, where it names the file, and this was made
  abbrev pub entry_then : Met → Met
  entry_then e = cond (is_among m.ino (bundle_of h.parcel).numbers) (met_with m.ino body e) e

  abbrev pub listed_then : Listed → Listed
  listed_then l = cond (is_among m.ino (bundle_of h.parcel).numbers) (listed_with m.ino body l) l

  pub entry_then-is : (e : Met) → entry_then e ≡ record e { body = (entry_then e).body }
  entry_then-is e = search arith

  pub listed_then-is : (l : Listed) → listed_then l ≡ record l { body = (listed_then l).body }
  listed_then-is l = search arith

  pub entry_then-met : (directory : ℕ) (l : Listed) → met_in plain directory (listed_then l) ≡ entry_then (met_in plain directory l)
  entry_then-met directory l = search (arith, met_in-listed)

  -- an entry that names another file is as it was
  pub listed_then-other : (l : Listed) → (made ≡ true → l.entry.ino ≡ m.ino → ⊥) → listed_then l ≡ l
  listed_then-other l d = search (arith, ne_eqb)

  files_same : map (λ (w : Written). w.ino) (files_in_hand h') ≡ map (λ (w : Written). w.ino) (files_in_hand h)
  files_same = elim u.body_now [
    | inr slot ↦ ap (map (λ (w : Written). w.ino)) slot.files
    | inl lease ↦ search (arith, map-map, map-each, body-number)
  ]

  -- the written files have the numbers that they had
  pub writes_same : map (λ (w : Written). w.ino) b2.writes ≡ map (λ (w : Written). w.ino) b.writes
  writes_same = search (arith, map-map, files_same)

  -- What is known of the judged files, whatever the rows: they read, each page and each number is listed once, and the edited one is
  -- among them; if it was made, another one lists it.
  pub record Known (rows : List (Option Row)) : Type 0 where
    pub met : Met
    pub number : met.ino ≡ m.ino
    pub kind : met.kind ≡ m.kind
    pub bytes : met.body ≡ m.body
    pub place : is_among m.ino (bundle_of h.parcel).numbers ≡ true → met ≡ m
    pub judged : In met (judged_files (case_with desk.sizes desk.creds rows (bundle_of h.parcel) (map held_by h.parcel.holds)))
    pub reads : (x : Met) → In x (judged_files (case_with desk.sizes desk.creds rows (bundle_of h.parcel) (map held_by h.parcel.holds)))
        → (f : FileRead) × (file_within (bundle_core (case_with desk.sizes desk.creds rows (bundle_of h.parcel) (map held_by h.parcel.holds))) x ≡ Ok f)
    pub pages_once : are_new [] (judged_pages (case_with desk.sizes desk.creds rows (bundle_of h.parcel) (map held_by h.parcel.holds))) ≡ true
    pub entries_once : are_new [] (numbers (judged_entries (case_with desk.sizes desk.creds rows (bundle_of h.parcel) (map held_by h.parcel.holds)))) ≡ true
    pub files_once : are_new [] (map (λ (w : Written). w.ino) (bundle_of h.parcel).writes) ≡ true
    pub apart : (n : ℕ) → In n (bundle_of h.parcel).numbers → In n (map (λ (w : Written). w.ino) (bundle_of h.parcel).writes) → ⊥
    pub parent : is_among m.ino (bundle_of h.parcel).numbers ≡ true
        → (p : Met) × In p (judged_files (case_with desk.sizes desk.creds rows (bundle_of h.parcel) (map held_by h.parcel.holds))) × (p.ino ≡ m.ino → ⊥)
        × In met (entries_in (case_with desk.sizes desk.creds rows (bundle_of h.parcel) (map held_by h.parcel.holds)) p)

  module _ (rows : List (Option Row)) (k : Known rows) where
    abbrev c : Case
    c = case_with desk.sizes desk.creds rows b lent

    abbrev c2 : Case
    c2 = case_with desk.sizes desk.creds rows b2 lent

    -- ---- the written files

    abbrev sorted : List Written
    sorted = sorted_by (λ (w : Written). w.ino) b.writes

    abbrev edited : Written → Written
    edited w = with_body m.ino body (bare w)

    slot_of_made : made ≡ true → HasBodyInSlot desk h h' m body
    slot_of_made t = elim u.body_now [
      | inr slot ↦ slot
      | inl lease ↦
          let i : In (written_in lease.lease.stands) b.writes = In-map (λ (x : LentFile). written_in x.stands) lease.lease h.parcel.writes lease.written in
          absurd (k.apart m.ino (is_among-In m.ino b.numbers t) (subst (λ n. In n (map (λ (w : Written). w.ino) b.writes)) lease.number (In-map (λ (w : Written). w.ino) (written_in lease.lease.stands) b.writes i)))
    ]

    files_are : files_in_hand h' ≡ map (with_body m.ino body) (files_in_hand h)
    files_are = elim u.body_now [
      | inl lease ↦ lease.files
      | inr slot ↦
          slot.files
          ∙ sym (map-fixed (with_body m.ino body) (files_in_hand h)
          (λ w i.
          let q = map-In (λ (f : LentFile). bare_file f.stands) w h.parcel.writes i in
          let there : In q.0.stands.ino (map (λ (w : Written). w.ino) b.writes) =
          In-map (λ (w : Written). w.ino) (written_in q.0.stands) b.writes (In-map (λ (x : LentFile). written_in x.stands) q.0 h.parcel.writes q.1) in
          body-other m.ino body w (λ e. k.apart m.ino slot.made (subst (λ n. In n (map (λ (w : Written). w.ino) b.writes)) (sym (ap (λ (x : Written). x.ino) q.2) ∙ e) there))))
    ]

    bare_writes : map bare b2.writes ≡ map edited b.writes
    bare_writes = search (arith, map-map, files_are)

    bare_sorted : map bare (sorted_by (λ (w : Written). w.ino) b2.writes) ≡ map edited sorted
    bare_sorted =
        sym (sorted-map (λ (w : Written). w.ino) (λ (w : Written). w.ino) bare (λ w. refl) b2.writes)
        ∙ ap (sorted_by (λ (w : Written). w.ino)) bare_writes
        ∙ sorted-map (λ (w : Written). w.ino) (λ (w : Written). w.ino) edited (λ w. body-number m.ino body (bare w)) b.writes

    start_is : (w : Written) → written_met c2 (edited w) ≡ met_with m.ino body (written_met c w)
    start_is w = search (arith, written_ino_at, cases_eq, body-here, written-with, met_with-here, body-other, bare_at, met_with-other)

    starts_are : written_files c2 ≡ map (met_with m.ino body) (written_files c)
    starts_are =
        map-each (written_met c2) (λ w. written_met c2 (bare w)) (sorted_by (λ (w : Written). w.ino) b2.writes) (λ w i. sym (bare_at w (row_in rows w.ino)))
        ∙ sym (map-map (written_met c2) bare (sorted_by (λ (w : Written). w.ino) b2.writes))
        ∙ ap (map (written_met c2)) bare_sorted
        ∙ map-map (written_met c2) edited sorted
        ∙ map-each (λ w. written_met c2 (edited w)) (λ w. met_with m.ino body (written_met c w)) sorted (λ w i. start_is w)
        ∙ sym (map-map (met_with m.ino body) (written_met c) sorted)

    -- ---- the edited file

    pub once : are_new [] (numbers (judged_files c)) ≡ true
    once = judged_once c k.files_once

    -- the judged file of this number is the one
    pub judged_mine : (x : Met) → In x (judged_files c) → x.ino ≡ m.ino → x ≡ k.met
    judged_mine x i e = same_met (judged_files c) x k.met once i k.judged (e ∙ sym k.number)

    pub mine_before : file_within (bundle_core c) k.met ≡ Ok file
    mine_before = file_within-alike (bundle_core c) k.met m k.kind k.bytes ∙ u.reads

    pub mine_now : file_within (bundle_core c2) (record k.met { body = body }) ≡ Ok file'
    mine_now = file_within-alike (bundle_core c2) (record k.met { body = body }) (record m { body = body }) k.kind refl ∙ u.reads_now

    -- ---- the others

    each_once : are_new [] (flat_map (λ x. numbers (entries_in c x)) (judged_files c)) ≡ true
    each_once = ap (are_new []) (sym (numbers-flat (entries_in c) (judged_files c))) ∙ k.entries_once

    -- a judged file that lists a number is the one that lists it
    pub lists_one : (x y : Met) (e g : Met) → In x (judged_files c) → In y (judged_files c) → In e (entries_in c x) → In g (entries_in c y) → e.ino ≡ g.ino → x ≡ y
    lists_one x y e g i j p q same =
        one_of (λ z. numbers (entries_in c z)) (judged_files c) x y g.ino each_once i j
        (subst (λ n. In n (numbers (entries_in c x))) same (In-map (λ (z : Met). z.ino) e (entries_in c x) p))
        (In-map (λ (z : Met). z.ino) g (entries_in c y) q)

    -- an entry that has the number of the edited one is the one that names it
    pub entry_mine : (e : Met) → made ≡ true → In e (judged_entries c) → e.ino ≡ m.ino → e ≡ k.met
    entry_mine e t i same =
        let p = k.parent t in
        one_keyed (λ (z : Met). z.ino) (judged_entries c) e k.met k.entries_once i (In-flat (entries_in c) p.0 k.met (judged_files c) p.1 p.3) (same ∙ sym k.number)

    entry_of : (x : Met) (f : FileRead) (l : Listed) → file_within (bundle_core c) x ≡ Ok f → In l f.entries → In (met_in plain x.ino l) (entries_in c x)
    entry_of x f l read i = subst (λ r. In (met_in plain x.ino l) (children_in plain x.ino r)) (sym read) (In-map (met_in plain x.ino) l f.entries i)

    -- the edited one doesn't list itself
    own_free : (l : Listed) → In l file.entries → made ≡ true → l.entry.ino ≡ m.ino → ⊥
    own_free l i t e =
        let p = k.parent t in
        p.2 (ap (λ (z : Met). z.ino) (lists_one p.0 k.met k.met (met_in plain k.met.ino l) p.1 k.judged p.3 (entry_of k.met file l mine_before i) (k.number ∙ sym e)) ∙ k.number)

    module _ (x : Met) (f : FileRead) (i : In x (judged_files c)) (d : x.ino ≡ m.ino → ⊥) (read : file_within (bundle_core c) x ≡ Ok f) where
      listed_in : (q : ℕ) → In q (pages_listed f) → In q (pages_within c x)
      listed_in q j = subst (λ r. In q (pages_in r)) (sym read) j

      -- it lists none of the pages that the edited one reads then
      pub apart_then : (q : ℕ) → In q (pages_listed f) → In q (pages_listed file') → ⊥
      apart_then q j own =
          let y = judged_there desk.sizes desk.creds [] rows b lent x i in
          let same : y.0.ino ≡ x.ino = ap (λ (z : Read). z.ino) y.2 in
          u.apart y.0 q y.1 (λ e. d (sym same ∙ e)) (subst (λ r. In q (pages_in r)) (sym (ap (λ (z : Read). z.reads) y.2)) (listed_in q j)) own

      page_same : (q : ℕ) → In q (pages_listed f) → (In m.ino b.numbers → q ≡ m.page → ⊥) → page_of (bundle_core c2) q ≡ page_of (bundle_core c) q
      page_same q j away =
          u.bytes q
          (λ own.
          d (ap (λ (z : Met). z.ino) (one_of (pages_within c) (judged_files c) x k.met q k.pages_once i k.judged (listed_in q j) (subst (λ r. In q (pages_in r)) (sym mine_before) own)) ∙ k.number))
          (λ own. apart_then q j own)
          away

      -- where none of its pages has the slot, it reads as before
      pub reads_same : ((q : ℕ) → In q (pages_listed f) → In m.ino b.numbers → q ≡ m.page → ⊥) → file_within (bundle_core c2) x ≡ Ok f
      reads_same away = file_as_before (bundle_core c) (bundle_core c2).pages x f read (λ q j. page_same q j (away q j))

      -- and where it names no file that was made and is edited
      with_then : ((l : Listed) → In l f.entries → made ≡ true → l.entry.ino ≡ m.ino → ⊥) → f ≡ record f { entries = map listed_then f.entries }
      with_then free = ap (λ l. record f { entries = l }) (sym (map-fixed listed_then f.entries (λ l j. listed_then-other l (free l j))))

      module _ (t : made ≡ true) where
        -- the directory that lists it
        abbrev pub p : Met
        p = (k.parent t).0

        p_in : In p (judged_files c)
        p_in = (k.parent t).1

        p_lists : In k.met (entries_in c p)
        p_lists = (k.parent t).3

        pub slot_listed : (g : FileRead) → file_within (bundle_core c) p ≡ Ok g → (l : Listed) × In l g.entries × (k.met ≡ met_in plain p.ino l)
        slot_listed g e = map-In (met_in plain p.ino) k.met g.entries (subst (λ r. In k.met (children_in plain p.ino r)) e p_lists)

        slot_page : (g : FileRead) → file_within (bundle_core c) p ≡ Ok g → In m.page g.chain.blocks
        slot_page g e =
            let l = slot_listed g e in
            let here : l.0.page ≡ m.page = sym (ap (λ (z : Met). z.page) l.2) ∙ ap (λ (z : Met). z.page) (k.place t) in
            subst (λ q. In q g.chain.blocks) here (entry-stands (bundle_core c) p g l.0 e l.1).block

        -- a file beside its directory doesn't have the slot among its pages
        away : (x.ino ≡ p.ino → ⊥) → (q : ℕ) → In q (pages_listed f) → In m.ino b.numbers → q ≡ m.page → ⊥
        away other q j new same =
            let g = k.reads p p_in in
            let there : In q (pages_within c p) =
            subst (λ r. In q (pages_in r)) (sym g.1) (In-right q g.0.chain.index g.0.chain.blocks (subst (λ n. In n g.0.chain.blocks) (sym same) (slot_page g.0 g.1))) in
            other (ap (λ (z : Met). z.ino) (one_of (pages_within c) (judged_files c) x p q k.pages_once i p_in (listed_in q j) there))

        pub reads_beside : (x.ino ≡ p.ino → ⊥) → file_within (bundle_core c2) x ≡ Ok f
        reads_beside other = reads_same (away other)

        free : (x.ino ≡ p.ino → ⊥) → (l : Listed) → In l f.entries → made ≡ true → l.entry.ino ≡ m.ino → ⊥
        free other l j s e =
            other (ap (λ (z : Met). z.ino) (lists_one x p (met_in plain x.ino l) k.met i p_in (entry_of x f l read j) p_lists (e ∙ sym k.number)))

        -- its directory has the new body in the slot
        in_parent : x ≡ p → file_within (bundle_core c2) x ≡ Ok (record f { entries = map listed_then f.entries })
        in_parent same =
            let slot = slot_of_made t in
            let read_p : file_within (bundle_core c) p ≡ Ok f = ap (file_within (bundle_core c)) (sym same) ∙ read in
            let l = slot_listed f read_p in
            let on : l.0.page ≡ m.page = sym (ap (λ (z : Met). z.page) l.2) ∙ ap (λ (z : Met). z.page) (k.place t) in
            let at : l.0.slot ≡ m.slot = sym (ap (λ (z : Met). z.slot) l.2) ∙ ap (λ (z : Met). z.slot) (k.place t) in
            let names : l.0.entry.ino ≡ m.ino = sym (ap (λ (z : Met). z.ino) l.2) ∙ k.number in
            let s = entry-stands (bundle_core c) x f l.0 read l.1 in
            let new : are_new [] (f.chain.index ++ f.chain.blocks) ≡ true =
            ap (λ r. are_new [] (pages_in r)) (sym read) ∙ each_new (pages_within c) (judged_files c) x k.pages_once i in
            let out : In m.page f.chain.index → ⊥ = λ j. apart_parts f.chain.index f.chain.blocks m.page new j (slot_page f read_p) in
            let low : m.slot < 16 = subst (λ n. n < 16) at s.slot in
            file-placed m.page m.slot body (bundle_core c) (bundle_core c2).pages slot.page slot.whole low slot.sized slot.before slot.after x f read out
            (λ q j off. page_same q j (λ mine e. off e))
            ∙ ap (λ es. Ok (record f { entries = es }))
            (map-each (placed_with m.page m.slot body) listed_then f.entries
            (λ e j. ap (λ z. cond z (record e { body = body }) e) (same_test e j l.0 l.1 on at names s (entry-stands (bundle_core c) x f e read j)) ∙ ap (λ z. cond z (listed_with m.ino body e) e) (sym t)))
          where
            apart_parts : (xs ys : List ℕ) (q : ℕ) → are_new [] (xs ++ ys) ≡ true → In q xs → In q ys → ⊥
            apart_parts xs ys q new a z = are_new-before q xs ys (and_parts (are_new [] xs) (are_new xs ys) (sym (are_new-append [] xs ys) ∙ new)).1 z a

            same_entry : (e l : Listed) → In e f.entries → In l f.entries → e.entry.ino ≡ l.entry.ino → e ≡ l
            same_entry e l j jl same' =
                let each : are_new [] (numbers (map (met_in plain x.ino) f.entries)) ≡ true =
                ap (λ r. are_new [] (numbers (children_in plain x.ino r))) (sym read) ∙ each_new (λ z. numbers (entries_in c z)) (judged_files c) x each_once i in
                let keyed : are_new [] (map (λ (z : Listed). z.entry.ino) f.entries) ≡ true = ap (are_new []) (sym (map-map (λ (z : Met). z.ino) (met_in plain x.ino) f.entries)) ∙ each in
                one_keyed (λ (z : Listed). z.entry.ino) f.entries e l keyed j jl same'

            number_by : (e l : Listed) → e.page ≡ l.page → e.slot ≡ l.slot → Placed (bundle_core c) f.chain.blocks l → Placed (bundle_core c) f.chain.blocks e → e.entry.ino ≡ l.entry.ino
            number_by e l page slot sl se =
                let bytes : Some se.bytes ≡ Some sl.bytes = sym se.page ∙ ap (page_of (bundle_core c)) page ∙ sl.page in
                let same' : se.bytes ≡ sl.bytes = cc bytes in
                let says : Entry e.entry ≡ Entry l.entry =
                sym se.says ∙ ap (λ n. slot_of (bundle_core c).inodes (slot_bytes n se.bytes)) slot ∙ ap (λ z. slot_of (bundle_core c).inodes (slot_bytes l.slot z)) same' ∙ sl.says in
                let entry : e.entry ≡ l.entry = cc says in ap (λ (z : EntryPart). z.ino) entry

            same_test : (e : Listed) → In e f.entries → (l : Listed) → In l f.entries → l.page ≡ m.page → l.slot ≡ m.slot → l.entry.ino ≡ m.ino
                → Placed (bundle_core c) f.chain.blocks l → Placed (bundle_core c) f.chain.blocks e → (eqb e.page m.page && eqb e.slot m.slot) ≡ eqb e.entry.ino m.ino
            same_test e j l jl on at names sl se =
                elim (cases_eq e.entry.ino m.ino) [
                  | inl is ↦
                      let one : e ≡ l = same_entry e l j jl (is ∙ sym names) in
                      and_from (eqb e.page m.page) (eqb e.slot m.slot) (eq-eqb e.page m.page (ap (λ (z : Listed). z.page) one ∙ on)) (eq-eqb e.slot m.slot (ap (λ (z : Listed). z.slot) one ∙ at))
                      ∙ sym (eq-eqb e.entry.ino m.ino is)
                  | inr not ↦
                      false_from_ne_true (eqb e.page m.page && eqb e.slot m.slot) (λ yes.
                      let both = and_parts (eqb e.page m.page) (eqb e.slot m.slot) yes in
                      not (number_by e l (eqb-true e.page m.page both.0 ∙ sym on) (eqb-true e.slot m.slot both.1 ∙ sym at) sl se ∙ names))
                      ∙ sym (ne_eqb e.entry.ino m.ino not)
                ]

      pub beside : file_within (bundle_core c2) x ≡ Ok (record f { entries = map listed_then f.entries })
      beside =
          elim (cases_Bool made) [
            | inr old ↦
                reads_same (λ q j new same. false≢true (sym old ∙ In-is_among m.ino b.numbers new))
                ∙ ap Ok (with_then (λ l j t e. false≢true (sym old ∙ t)))
            | inl t ↦
                elim (cases_eq x.ino (p t).ino) [
                  | inl e ↦ in_parent t (same_met (judged_files c) x (p t) once i (p_in t) e)
                  | inr other ↦ reads_beside t other ∙ ap Ok (with_then (free t other))
                ]
          ]

      -- the blocks of what is no directory have the bytes that they had
      pub blocks_same : is_directory x.kind ≡ false → (q : ℕ) → In q f.chain.blocks → page_of (bundle_core c2) q ≡ page_of (bundle_core c) q
      blocks_same kind q j =
          page_same q (In-right q f.chain.index f.chain.blocks j) (λ new same.
          let t : made ≡ true = In-is_among m.ino b.numbers new in
          elim (cases_eq x.ino (p t).ino) [
            | inr other ↦ away t other q (In-right q f.chain.index f.chain.blocks j) new same
            | inl e ↦ search (arith, same_met, once, p_in, slot_listed, plain_entries)
          ])

    -- ---- all judged files

    -- what a judged file read, and what it reads then
    pub record Rereads (x : Met) : Type 0 where
      pub was : FileRead
      pub is : FileRead
      pub before : file_within (bundle_core (case_with desk.sizes desk.creds rows (bundle_of h.parcel) (map held_by h.parcel.holds))) x ≡ Ok was
      pub now : file_within (bundle_core (case_with desk.sizes desk.creds rows (bundle_of h'.parcel) (map held_by h.parcel.holds))) (met_with m.ino body x) ≡ Ok is
      pub entries : is.entries ≡ map listed_then was.entries

    pub rereads : (x : Met) → In x (judged_files c) → Rereads x
    rereads x i =
        elim (cases_eq x.ino m.ino) [
          | inl e ↦
              let one : x ≡ k.met = judged_mine x i e in
              record {
                was = file;
                is = file';
                before = ap (file_within (bundle_core c)) one ∙ mine_before;
                now = ap (file_within (bundle_core c2)) (met_with-here m.ino body x e ∙ ap (λ (z : Met). record z { body = body }) one) ∙ mine_now;
                entries = u.entries ∙ sym (map-fixed listed_then file.entries (λ l j. listed_then-other l (own_free l j)));
              }
          | inr d ↦
              let r = k.reads x i in
              record {
                was = r.0;
                is = record r.0 { entries = map listed_then r.0.entries };
                before = r.1;
                now = ap (file_within (bundle_core c2)) (met_with-other m.ino body x d) ∙ beside x r.0 i d r.1;
                entries = refl;
              }
        ]

    pub entries_now : (x : Met) → In x (judged_files c) → entries_in c2 (met_with m.ino body x) ≡ map entry_then (entries_in c x)
    entries_now x i =
        let r = rereads x i in
        ap (children_in plain (met_with m.ino body x).ino) r.now
        ∙ ap (λ n. map (met_in plain n) r.is.entries) (met_with-number m.ino body x)
        ∙ ap (map (met_in plain x.ino)) r.entries
        ∙ map-map (met_in plain x.ino) listed_then r.was.entries
        ∙ map-each (λ l. met_in plain x.ino (listed_then l)) (λ l. entry_then (met_in plain x.ino l)) r.was.entries (λ l j. entry_then-met x.ino l)
        ∙ sym (map-map entry_then (met_in plain x.ino) r.was.entries)
        ∙ ap (λ z. map entry_then (children_in plain x.ino z)) (sym r.before)

    kids_now : (x : Met) → In x (judged_files c) → new_entries c2 (met_with m.ino body x) ≡ map (met_with m.ino body) (new_entries c x)
    kids_now x i = search (arith, entries_now, filter-changed, entry_then-is, met_with-other, false≢true)

    -- the judged files are those of before, with the body of one exchanged
    pub judged_now : judged_files c2 ≡ map (met_with m.ino body) (judged_files c)
    unfolding judged_files
    judged_now =
        let levels : ℕ = suc desk.sizes.inodes in
        ap (λ l. (fronts (new_entries c2) l levels).passed) starts_are
        ∙ ap (λ (z : Front). z.passed)
        (fronts-changed (met_with m.ino body) (met_with-number m.ino body) (new_entries c) (new_entries c2) (written_files c) levels (λ x i. kids_now x i) levels (omega arith))

    pub entries_then : judged_entries c2 ≡ map entry_then (judged_entries c)
    entries_then = search (arith, judged_now, flat_map-changed, entries_now)

    -- an entry is as it was, or it names the edited one, which was made
    pub entry_cases : (e : Met) → In e (judged_entries c) → (entry_then e ≡ e) ⊎ ((made ≡ true) × (e ≡ k.met) × (entry_then e ≡ record k.met { body = body }))
    entry_cases e i = search (arith, cases_Bool, cases_eq, met_with-other, entry_mine, met_with-here)

    -- the directory that lists one that was made is its parent
    pub parent_number : (t : made ≡ true) → (k.parent t).0.ino ≡ m.parent
    parent_number t = search (arith, map-In)

    -- ---- pages

    pub pages_mine : (x : Met) → In x (judged_files c) → x.ino ≡ m.ino → pages_within c2 (met_with m.ino body x) ≡ pages_listed file'
    pages_mine x i e = search (arith, judged_mine, met_with-here, mine_now)

    pub pages_beside : (x : Met) → In x (judged_files c) → (x.ino ≡ m.ino → ⊥) → pages_within c2 (met_with m.ino body x) ≡ pages_within c x
    pages_beside x i d =
        let r = k.reads x i in
        ap (λ z. pages_in (file_within (bundle_core c2) z)) (met_with-other m.ino body x d) ∙ ap pages_in (beside x r.0 i d r.1) ∙ sym (ap pages_in r.1)

    -- the pages that are listed then
    pub pages_then : (q : ℕ) → In q (judged_pages c2) → In q (pages_listed file') ⊎ ((x : Met) × In x (judged_files c) × (x.ino ≡ m.ino → ⊥) × In q (pages_within c x))
    pages_then q i =
        let y = flat_map-In (pages_within c2) q (judged_files c2) i in
        let x = map-In (met_with m.ino body) y.0 (judged_files c) (subst (λ l. In y.0 l) judged_now y.1) in
        let j : In q (pages_within c2 (met_with m.ino body x.0)) = subst (λ z. In q (pages_within c2 z)) x.2 y.2 in
        search (arith, cases_eq, pages_mine, pages_beside)
