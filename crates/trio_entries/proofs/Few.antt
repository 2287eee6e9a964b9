-- What is told is no more than the pages of the bundle.
use Rattle.trio_entries.proofs.Words.{◌&&◌, ◌++◌, ◌+◌, ◌∙◌, ◌∷◌, ◌≡◌, ◌≤◌, Bool, Bundle, Case, Err, FileOutline, FileRead, In, In-left, In-map, List, ListedFile, Listing, Location, Met, None, Ok, Option, RawFile, Result, Row, Sheet, Some, Written, [], and_parts, ap, are_new, are_new-first, arith, blocks_listed_of, bundle_pages, cond, entries_in, entry_is_own, eqb, false, file_outline, filter-In, find, flat_map, flat_map-In, fronts, fronts_keep, inl, inr, is_among, is_among-In, judged_entries, judged_pages, length, length-append, length-map, lent_blocks, list_all, list_all-In, listing, map, map-In, map-append, meets_edges, meets_grammar, meets_owning, meets_rights, meets_rules, nat_tests, new_entries, numbers, option_map_or, outline_of, outline_pages, refl, row_in, sheet_numbers, sorted_by, sorted_in, subst, suc, sym, true, written_at, written_files, written_met, ℕ}
use Rattle.trio_lists.proofs.Members.{In-right}
use Rattle.trio_layout.specs.Case.{file_in}
use Rattle.trio_layout.specs.JudgedFiles.{judged_files}
use Rattle.trio_layout.specs.Listing.{file_listed}
use Rattle.trio_case.proofs.Listings.{listed_pages}
use Rattle.trio_case.proofs.Distinct.{no_more}

-- ---- what is found of distinct numbers is no more than there is

pub flat_map-map : {X Y Z : Type 0} (g : Y → List Z) (h : X → Y) (xs : List X) → flat_map g (map h xs) ≡ flat_map (λ x. g (h x)) xs
flat_map-map g h [] = refl
flat_map-map g h (x ∷ xs) = ap (λ l. g (h x) ++ l) (flat_map-map g h xs)

module _ {X : Type 0} (key : X → ℕ) (val : X → List ℕ) where
  abbrev found : List X → ℕ → List ℕ
  found xs n = option_map_or val (find (λ x. eqb (key x) n) xs) []

  none_found : (ns : List ℕ) → length (flat_map (found []) ns) ≡ 0
  none_found [] = refl
  none_found (n ∷ ns) = none_found ns

  differs : (m n : ℕ) → (m ≡ n → ⊥) → eqb m n ≡ false
  differs m n h = grind (arith, nat_tests)

  same : (m n : ℕ) → eqb m n ≡ true → m ≡ n
  same m n h = grind (arith, nat_tests)

  without : (x : X) (xs : List X) (ns : List ℕ) → (In (key x) ns → ⊥) → flat_map (found (x ∷ xs)) ns ≡ flat_map (found xs) ns
  without x xs [] out = refl
  without x xs (n ∷ ns) out =
      let other : eqb (key x) n ≡ false = differs (key x) n (λ e. out (inl e)) in
      ap (λ b. option_map_or val (cond b (Some x) (find (λ y. eqb (key y) n) xs)) [] ++ flat_map (found (x ∷ xs)) ns) other
      ∙ ap (λ l. found xs n ++ l) (without x xs ns (λ i. out (inr i)))

  one_found : (x : X) (xs : List X) (ns : List ℕ) → are_new [] ns ≡ true → length (flat_map (found (x ∷ xs)) ns) ≤ length (val x) + length (flat_map (found xs) ns)
  one_found x xs [] new = omega arith
  one_found x xs (n ∷ ns) new =
      let first = are_new-first n ns new in
      by (eqb (key x) n) refl first.0 (one_found x xs ns first.1)
    where
      by : (b : Bool) → eqb (key x) n ≡ b → (In n ns → ⊥) → length (flat_map (found (x ∷ xs)) ns) ≤ length (val x) + length (flat_map (found xs) ns) → length (option_map_or val (cond b (Some x) (find (λ y. eqb (key y) n) xs)) [] ++ flat_map (found (x ∷ xs)) ns) ≤ length (val x) + length (found xs n ++ flat_map (found xs) ns)
      by true e out rest =
          let none = ap length (without x xs ns (λ i. out (subst (λ m. In m ns) (same (key x) n e) i))) in
          omega (arith, none, length-append (val x) (flat_map (found (x ∷ xs)) ns), length-append (found xs n) (flat_map (found xs) ns))
      by false e out rest =
          omega (arith, rest, length-append (found xs n) (flat_map (found (x ∷ xs)) ns), length-append (found xs n) (flat_map (found xs) ns))

  few_found : (xs : List X) (ns : List ℕ) → are_new [] ns ≡ true → length (flat_map (found xs) ns) ≤ length (flat_map val xs)
  few_found [] ns new = omega (arith, none_found ns)
  few_found (x ∷ xs) ns new = omega (arith, one_found x xs ns new, few_found xs ns new, length-append (val x) (flat_map val xs))

  -- of the numbers of a list
  pub found_few : {Y : Type 0} (number : Y → ℕ) (xs : List X) (ys : List Y) → are_new [] (map number ys) ≡ true → length (flat_map (λ y. option_map_or val (find (λ x. eqb (key x) (number y)) xs) []) ys) ≤ length (flat_map val xs)
  found_few number xs ys new =
      let e = ap length (flat_map-map (found xs) number ys) in omega (arith, e, few_found xs (map number ys) new)

-- ---- blocks of the listing

owning_of : (c : Case) → meets_rules c ≡ true → meets_owning c ≡ true
owning_of c h =
    let three = (and_parts (meets_grammar c && meets_owning c && meets_edges (listing c) c.rows) (meets_rights c) h).0 in
    let two = (and_parts (meets_grammar c && meets_owning c) (meets_edges (listing c) c.rows) three).0 in
    (and_parts (meets_grammar c) (meets_owning c) two).1

-- the blocks that are listed are no more than the bundle has pages
pub listed_few : (c : Case) → meets_rules c ≡ true → length (flat_map (λ (f : ListedFile). f.blocks) (listing c).files) ≤ length (bundle_pages c.bundle)
listed_few c h =
    let p = and_parts (list_all (λ page. is_among page (bundle_pages c.bundle)) (judged_pages c) && are_new [] (judged_pages c) && list_all (entry_is_own c) (judged_entries c)) (are_new [] (numbers (judged_entries c))) (owning_of c h) in
    let q = and_parts (list_all (λ page. is_among page (bundle_pages c.bundle)) (judged_pages c) && are_new [] (judged_pages c)) (list_all (entry_is_own c) (judged_entries c)) p.0 in
    let r = and_parts (list_all (λ page. is_among page (bundle_pages c.bundle)) (judged_pages c)) (are_new [] (judged_pages c)) q.0 in
    let few = no_more (judged_pages c) (bundle_pages c.bundle) r.1 (λ n i. is_among-In n (bundle_pages c.bundle) (list_all-In (λ page. is_among page (bundle_pages c.bundle)) n (judged_pages c) r.0 i)) in
    omega (arith, few, listed_pages c (judged_files c))

-- and so are those of the files that are told, each once
pub accepted_few : (c : Case) (l : Listing) (fs : List RawFile) → l ≡ listing c → meets_rules c ≡ true → are_new [] (map (λ (f : RawFile). f.ino) fs) ≡ true → length (flat_map (λ (f : RawFile). blocks_listed_of l f.ino) fs) ≤ length (bundle_pages c.bundle)
accepted_few c l fs is h once =
    let listed = ap (λ (x : Listing). length (flat_map (λ (f : ListedFile). f.blocks) x.files)) is in
    omega (arith, found_few (λ (f : ListedFile). f.ino) (λ (f : ListedFile). f.blocks) (λ (f : RawFile). f.ino) l.files fs once, listed, listed_few c h)

-- ---- the judged files are the bundle's own

abbrev own : Case → List ℕ
own c = map (λ (w : Written). w.ino) c.bundle.writes ++ c.bundle.numbers

written_number : (w : Written) (o : Option Row) → (written_at w o).ino ≡ w.ino
written_number w None = refl
written_number w (Some r) = refl

written_own : (c : Case) (m : Met) → In m (written_files c) → In m.ino (own c)
written_own c m i =
    let r = map-In (written_met c) m (sorted_by (λ (w : Written). w.ino) c.bundle.writes) i in
    let n : m.ino ≡ r.0.ino = ap (λ (x : Met). x.ino) r.2 ∙ written_number r.0 (row_in c.rows r.0.ino) in
    In-left m.ino (map (λ (w : Written). w.ino) c.bundle.writes) c.bundle.numbers
    (subst (λ k. In k (map (λ (w : Written). w.ino) c.bundle.writes)) (sym n) (In-map (λ (w : Written). w.ino) r.0 c.bundle.writes (sorted_in (λ (w : Written). w.ino) r.0 c.bundle.writes r.1)))

new_own : (c : Case) (m e : Met) → In e (new_entries c m) → In e.ino (own c)
new_own c m e i =
    In-right e.ino (map (λ (w : Written). w.ino) c.bundle.writes) c.bundle.numbers
    (is_among-In e.ino c.bundle.numbers (filter-In (λ (y : Met). is_among y.ino c.bundle.numbers) e (entries_in c m) i).1)

judged_own : (c : Case) (m : Met) → In m (judged_files c) → In m.ino (own c)
unfolding judged_files
judged_own c m i =
    let f = fronts (new_entries c) (written_files c) (suc c.inodes) in
    fronts_keep (new_entries c) (written_files c) (λ (x : Met). In x.ino (own c)) (written_own c) (λ x e h j. new_own c x e j) (suc c.inodes) m (In-left m f.passed f.level i)

listed_number : (m : Met) (r : Result FileRead Location) (f : ListedFile) → In f (file_listed m r) → f.ino ≡ m.ino
listed_number m (Err place) f i = absurd i
listed_number m (Ok x) f (inl e) = ap (λ (y : ListedFile). y.ino) e
listed_number m (Ok x) f (inr none) = absurd none

-- each judged file is a written one, or has a number that was handed in
pub listed_own : (c : Case) (n : ℕ) → In n (map (λ (f : ListedFile). f.ino) (listing c).files) → In n (map (λ (w : Written). w.ino) c.bundle.writes ++ c.bundle.numbers)
listed_own c n i =
    let r = map-In (λ (f : ListedFile). f.ino) n (listing c).files i in
    let s = flat_map-In (λ m. file_listed m (file_in c m)) r.0 (judged_files c) r.1 in
    subst (λ k. In k (own c)) (sym (r.2 ∙ listed_number s.0 (file_in c s.0) r.0 s.2)) (judged_own c s.0 s.1)

-- ---- blocks and pages of the bundle

blocks_among : (ws : List Written) → length (flat_map (λ (w : Written). sheet_numbers w.blocks) ws) ≤ length (flat_map (λ (w : Written). w.index ++ w.blocks) ws)
blocks_among [] = omega arith
blocks_among (w ∷ ws) =
    omega (arith, blocks_among ws, length-map w.blocks (λ (x : Sheet). x.page), length-append w.index w.blocks, length-append (sheet_numbers w.blocks) (flat_map (λ (x : Written). sheet_numbers x.blocks) ws), length-append (w.index ++ w.blocks) (flat_map (λ (x : Written). x.index ++ x.blocks) ws))

-- the blocks of the written files are no more than all pages
pub lent_few : (b : Bundle) → length (flat_map (λ (w : Written). sheet_numbers w.blocks) b.writes) ≤ length (bundle_pages b)
lent_few b =
    let all = flat_map (λ (w : Written). w.index ++ w.blocks) b.writes in
    omega (arith, blocks_among b.writes, length-map (all ++ b.pages) (λ (x : Sheet). x.page), length-append all b.pages)

-- of the files that are told, each once
pub refused_few : (b : Bundle) (fs : List RawFile) → are_new [] (map (λ (f : RawFile). f.ino) fs) ≡ true → length (flat_map (λ (f : RawFile). lent_blocks b f.ino) fs) ≤ length (bundle_pages b)
refused_few b fs once =
    omega (arith, found_few (λ (w : Written). w.ino) (λ (w : Written). sheet_numbers w.blocks) (λ (f : RawFile). f.ino) b.writes fs once, lent_few b)

-- ---- outlines

written_outlined : (ws : List Written) → flat_map (λ (f : FileOutline). f.index ++ f.blocks) (map file_outline ws) ≡ sheet_numbers (flat_map (λ (w : Written). w.index ++ w.blocks) ws)
written_outlined [] = refl
written_outlined (w ∷ ws) =
    let page : Sheet → ℕ = λ x. x.page in
    ap (λ l. (sheet_numbers w.index ++ sheet_numbers w.blocks) ++ l) (written_outlined ws)
    ∙ ap (λ l. l ++ sheet_numbers (flat_map (λ (x : Written). x.index ++ x.blocks) ws)) (sym (map-append page w.index w.blocks))
    ∙ sym (map-append page (w.index ++ w.blocks) (flat_map (λ (x : Written). x.index ++ x.blocks) ws))

-- the pages of a bundle, by its outline
pub pages_outlined : (b : Bundle) → outline_pages (outline_of b) ≡ bundle_pages b
pages_outlined b =
    ap (λ l. l ++ sheet_numbers b.pages) (written_outlined b.writes)
    ∙ sym (map-append (λ (x : Sheet). x.page) (flat_map (λ (w : Written). w.index ++ w.blocks) b.writes) b.pages)
