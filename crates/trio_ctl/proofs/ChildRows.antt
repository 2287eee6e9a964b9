-- How many files stand in the directories that a bundle writes: at most 16 for each page of the bundle.
use Rattle.trio_ctl.proofs.Words.{Bool, Bundle, Core, FileRead, IfOk, In, In-find, In-flat, In-map, IsJudgeable, Kind, List, Listed, Met, None, Ok, Option, Row, Sheet, Some, State, Written, [], ap, are_new, arith, at_page, bundle_pages, bundle_sheets, child_from, children, children_in, cond, entries_of, entries_of_kind, entries_on, eq-eqb, eqb-true, false, false≢true, file_of, find, find-In, flat_map, flat_map-In, gathered, gathers_directory, get_or, inl, inr, is_written, kind_cases, length, length-map, map, met_in, new_beside, one_met, option_map_or, page_entries, page_of, plain, reads_from, refl, root_or_listed, row_at, settled, subst, suc, sum_by-cons, survey, sym, there_or, true, written_find, ℕ, ◌*◌, ◌++◌, ◌+◌, ◌∙◌, ◌∷◌, ◌≡◌, ◌≤◌}
use Rattle.std.proofs.Common.{eqb}
use Rattle.std.specs.List.{count_by}
use Rattle.std.proofs.lemmas.List.{length-append}
use Rattle.trio_layout.specs.Survey.{numbers}
use Rattle.trio_layout.proofs.EntryNumbers.{AtMost, entries_on_most, gathered_most, if_ok_at, if_ok_then}
use Rattle.trio_laws.proofs.judgement.CaseFacts.{live, no_written_zero}
use Rattle.trio_case.proofs.Distinct.{no_more}

-- ---- where a test passes in a list

-- the numbers of the elements at which it passes, where k is that of the first element
abbrev passing : {X : Type 0} → (X → Bool) → ℕ → List X → List ℕ
passing p k [] = []
passing p k (x ∷ xs) = cond (p x) (k ∷ passing p (suc k) xs) (passing p (suc k) xs)

passing-count : {X : Type 0} (p : X → Bool) (k : ℕ) (xs : List X) → count_by p xs ≡ length (passing p k xs)
passing-count p k [] = refl
passing-count p k (x ∷ xs) = sum_by-cons (λ y. cond (p y) 1 0) x xs ∙ by (p x) (passing-count p (suc k) xs)
  where
    by : (t : Bool) → count_by p xs ≡ length (passing p (suc k) xs) → cond t 1 0 + count_by p xs ≡ length (cond t (k ∷ passing p (suc k) xs) (passing p (suc k) xs))
    by true again = omega (arith, again)
    by false again = omega (arith, again)

passing-at : {X : Type 0} (p : X → Bool) (d : X) (k n : ℕ) (xs : List X) → In n (passing p k xs) → (i : ℕ) × (n ≡ k + i) × (p (get_or xs i d) ≡ true)
passing-at p d k n [] i = absurd i
passing-at p d k n (x ∷ xs) i = by (p x) refl i (λ i. passing-at p d (suc k) n xs i)
  where
    later : (i : ℕ) × (n ≡ suc k + i) × (p (get_or xs i d) ≡ true) → (i : ℕ) × (n ≡ k + i) × (p (get_or (x ∷ xs) i d) ≡ true)
    later r = (let place = r.1 in let at : n ≡ k + suc r.0 = omega (arith, place) in (suc r.0, at, r.2))

    by : (t : Bool) → p x ≡ t → In n (cond t (k ∷ passing p (suc k) xs) (passing p (suc k) xs)) → (In n (passing p (suc k) xs) → (i : ℕ) × (n ≡ suc k + i) × (p (get_or xs i d) ≡ true)) → (i : ℕ) × (n ≡ k + i) × (p (get_or (x ∷ xs) i d) ≡ true)
    by true e (inl here) again = (let at : n ≡ k + 0 = omega (arith, here) in (0, at, e))
    by true e (inr i) again = later (again i)
    by false e i again = later (again i)

passing-new : {X : Type 0} (p : X → Bool) (k : ℕ) (xs : List X) → are_new [] (passing p k xs) ≡ true
passing-new p k [] = refl
passing-new p k (x ∷ xs) = by (p x) (passing-new p (suc k) xs)
  where
    apart : (n : ℕ) → In n (passing p (suc k) xs) → In n (k ∷ []) → ⊥
    apart n i (inl here) = (let r = passing-at p x (suc k) n xs i in let at = r.1 in omega (arith, at, here))
    apart n i (inr none) = none

    by : (t : Bool) → are_new [] (passing p (suc k) xs) ≡ true → are_new [] (cond t (k ∷ passing p (suc k) xs) (passing p (suc k) xs)) ≡ true
    by true again = new_beside (k ∷ []) (passing p (suc k) xs) again apart
    by false again = again

-- ---- how many entries directories have

page_most : (core : Core) (page : ℕ) → IfOk (page_entries core page) (AtMost 16)
page_most core page =
    if_ok_then (there_or (at_page page) (page_of core page)) (entries_on core.inodes page) (AtMost 16) (λ bytes e. entries_on_most core.inodes page bytes)

entries_most : (core : Core) (kind : Kind) (blocks : List ℕ) (es : List Listed) → entries_of_kind core kind blocks ≡ Ok es → length es ≤ 16 * length blocks
entries_most core kind blocks es e =
    elim (kind_cases kind) [
      | inl directory ↦
          if_ok_at (gathered (page_entries core) blocks) es (AtMost (16 * length blocks)) (gathers_directory core blocks es (ap (λ k. entries_of_kind core k blocks) (sym directory) ∙ e)).0
          (gathered_most 16 (page_entries core) (page_most core) blocks)
      | inr other ↦
          let said : Ok [] ≡ Ok es = sym (ap (λ t. cond t (entries_of core blocks) (Ok [])) other) ∙ e in
          let none : [] ≡ es = cc said in
          let long = ap length none in
          omega (arith, long)
    ]

children_most : (core : Core) (m : Met) (f : FileRead) → file_of core m ≡ Ok f → length (numbers (children core plain m)) ≤ 16 * length f.chain.blocks
children_most core m f e =
    let many : length (numbers (children core plain m)) ≡ length f.entries =
    ap (λ o. length (numbers (children_in plain m.ino o))) e
    ∙ length-map (map (met_in plain m.ino) f.entries) (λ (x : Met). x.ino)
    ∙ length-map f.entries (met_in plain m.ino) in
    let few = entries_most core m.kind f.chain.blocks f.entries (reads_from core m f e).entries in
    omega (arith, many, few)

-- what is at most 16 times as long for each element is so for all of them together
together_most : {X Y Z : Type 0} (f : X → List Y) (g : X → List Z) (xs : List X) → ((x : X) → In x xs → length (f x) ≤ 16 * length (g x)) → length (flat_map f xs) ≤ 16 * length (flat_map g xs)
together_most f g [] h = omega arith
together_most f g (x ∷ xs) h =
    let first = h x (inl refl) in
    let rest = together_most f g xs (λ y i. h y (inr i)) in
    let left : length (flat_map f (x ∷ xs)) ≡ length (f x) + length (flat_map f xs) = length-append (f x) (flat_map f xs) in
    let right : length (flat_map g (x ∷ xs)) ≡ length (g x) + length (flat_map g xs) = length-append (g x) (flat_map g xs) in
    omega (arith, first, rest, left, right)

module _ (s : State) (lib : ℕ) (b : Bundle) (j : IsJudgeable s lib b) where
  abbrev core : Core
  core = (settled s).core

  abbrev files : List Met
  files = survey (settled s).core plain

  -- the numbers that a written file lists in the settled image
  abbrev listed : Written → List ℕ
  listed w = option_map_or (λ m. numbers (children core plain m)) (find (λ (m : Met). eqb m.ino w.ino) files) []

  -- the row of a file that a written directory lists
  abbrev stands_in : Option Row → Bool
  stands_in o = option_map_or (λ (r : Row). is_written b r.parent) o false

  listed_is : (m : Met) (w : Written) → In m files → m.ino ≡ w.ino → listed w ≡ numbers (children core plain m)
  listed_is m w i number =
      let p : Met → Bool = λ x. eqb x.ino w.ino in
      let q = In-find p files m i (eq-eqb m.ino w.ino number) in
      let g = find-In p files q.0 q.1 in
      let same : q.0 ≡ m = one_met core plain j.kept.fit j.kept.verifies.sound q.0 m g.0 i (eqb-true q.0.ino w.ino g.1 ∙ sym number) in
      ap (λ o. option_map_or (λ m. numbers (children core plain m)) o []) (q.1 ∙ ap Some same)

  listed_most : (w : Written) → In w b.writes → length (listed w) ≤ 16 * length (w.index ++ w.blocks)
  listed_most w i =
      let g = j.given.writes w i in
      let l = j.kept.lent g.grant g.is_open g.kind in
      let many : length (listed w) ≡ length (numbers (children core plain l.met)) = ap length (listed_is l.met w l.stands (l.number ∙ g.ino)) in
      let few = children_most core l.met l.file l.read in
      let blocks : length w.blocks ≡ length l.file.chain.blocks = sym (length-map w.blocks (λ (x : Sheet). x.page)) ∙ ap length (g.blocks ∙ l.blocks) in
      let pages = length-append w.index w.blocks in
      omega (arith, many, few, blocks, pages)

  -- a live file whose row names a written directory is listed by it
  child_listed : (n : ℕ) (r : Row) → row_at (settled s) n ≡ Some r → is_written b r.parent ≡ true → In n (flat_map listed b.writes)
  child_listed n r e written =
      let m = live s lib b j n r e in
      let named : r.parent ≡ m.met.parent = ap (λ (x : Row). x.parent) m.row in
      elim (root_or_listed core plain j.kept.fit j.kept.verifies.sound m.met m.stands) [
        | inl root ↦ absurd (no_written_zero s lib b j (ap (is_written b) (sym (named ∙ ap (λ (x : Met). x.parent) root)) ∙ written))
        | inr i ↦
            let q = flat_map-In (children core plain) m.met files i in
            let c = child_from core plain q.0 m.met q.2 in
            let w = written_find s lib b j r.parent written in
            let number : q.0.ino ≡ w.0.ino = sym (named ∙ ap (λ (x : Met). x.parent) c.is) ∙ sym w.2 in
            let child : In n (numbers (children core plain q.0)) =
            subst (λ k. In k (numbers (children core plain q.0))) m.number (In-map (λ (x : Met). x.ino) m.met (children core plain q.0) q.2) in
            In-flat listed w.0 n b.writes w.1 (subst (λ ns. In n ns) (sym (listed_is q.0 w.0 q.1 number)) child)
      ]

  each_listed : (n : ℕ) → In n (passing stands_in 0 s.home.rows) → In n (flat_map listed b.writes)
  each_listed n i =
      let r = passing-at stands_in None 0 n s.home.rows i in
      let place = r.1 in
      let at : n ≡ r.0 = omega (arith, place) in
      by (row_at (settled s) n) refl (ap (λ k. stands_in (row_at (settled s) k)) at ∙ r.2)
    where
      by : (o : Option Row) → row_at (settled s) n ≡ o → stands_in o ≡ true → In n (flat_map listed b.writes)
      by None e t = absurd (false≢true t)
      by (Some r) e t = child_listed n r e t

  -- at most 16 files for each page of the bundle stand in the directories that it writes
  pub few_children : count_by (λ o. option_map_or (λ (r : Row). is_written b r.parent) o false) s.home.rows ≤ 16 * length (bundle_pages b)
  few_children =
      let sheets : Written → List Sheet = λ w. w.index ++ w.blocks in
      let count = passing-count stands_in 0 s.home.rows in
      let few = no_more (passing stands_in 0 s.home.rows) (flat_map listed b.writes) (passing-new stands_in 0 s.home.rows) each_listed in
      let all = together_most listed sheets b.writes listed_most in
      let pages : length (bundle_pages b) ≡ length (flat_map sheets b.writes) + length b.pages =
      length-map (bundle_sheets b) (λ (x : Sheet). x.page) ∙ length-append (flat_map sheets b.writes) b.pages in
      omega (arith, count, few, all, pages)
