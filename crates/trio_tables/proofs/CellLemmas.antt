-- Cells of one size one behind another, with zeros behind the last, and the pages that they fill.
use Rattle.std.proofs.Common.{◌≡◌, ℕ, zero, suc, ◌+◌, ◌-◌, ◌*◌, ◌/◌, ◌%◌, ◌<◌, ◌≤◌, List, [], ◌∷◌, ◌++◌, length, get_or, take, drop, sym, ap, ◌∙◌, append_assoc, arith}
use Rattle.std.specs.Prelude.{slice_range}
use Rattle.std.specs.List.{flat_map}
use Rattle.std.proofs.lemmas.List.{take_at, drop_at, drop-drop, drop-take, take-take, take_all, take-replicate, drop-replicate, length-append, length-take, length-drop}
use Rattle.std.proofs.lemmas.Slice.{between_from_start}
use Rattle.trio_page.specs.Field.{with_part, zeros}
use Rattle.trio_page.proofs.Fields.{slice-split}
use Rattle.trio_page.proofs.Cursor.{Front, put_part, length-zeros}
use Rattle.trio_tables.specs.Stored.{padded_to_pages, page_at}

-- each element's cell has n bytes, and those of d are zeros
pub record AreCells (X : Type 0) (f : X → List ℕ) (n : ℕ) (d : X) : Type 0 where
  pub sized : (x : X) → length (f x) ≡ n
  pub blank : f d ≡ zeros n

pub length-cells : (X : Type 0) (f : X → List ℕ) (n : ℕ) (d : X) → AreCells X f n d → (xs : List X) → length (flat_map f xs) ≡ n * length xs
length-cells X f n d cells [] = omega arith
length-cells X f n d cells (x ∷ xs) = omega (arith, length-append (f x) (flat_map f xs), cells.sized x, length-cells X f n d cells xs)

blank_cell : (n k m : ℕ) → n * k + n ≤ m → take n (drop (n * k) (zeros m)) ≡ zeros n
unfolding zeros
blank_cell n k m fits = ap (take n) (drop-replicate (n * k) m 0) ∙ take-replicate n (m - n * k) 0 (omega arith)

-- the cell at a place, that of d past the last element
pub cell_there : (X : Type 0) (f : X → List ℕ) (n : ℕ) (d : X) → AreCells X f n d → (xs : List X) (k m : ℕ) → n * k + n ≤ n * length xs + m
    → take n (drop (n * k) (flat_map f xs ++ zeros m)) ≡ f (get_or xs k d)
cell_there X f n d cells [] k m fits = blank_cell n k m (omega arith) ∙ sym cells.blank
cell_there X f n d cells (x ∷ xs) zero m fits =
    let first : n * 0 ≡ 0 = omega arith in
    ap (λ (j : ℕ). take n (drop j ((f x ++ flat_map f xs) ++ zeros m))) first
    ∙ ap (take n) (append_assoc (f x) (flat_map f xs) (zeros m)) ∙ take_at (f x) (flat_map f xs ++ zeros m) n (cells.sized x)
cell_there X f n d cells (x ∷ xs) (suc k) m fits =
    let rest : List ℕ = flat_map f xs ++ zeros m in
    let next : n * suc k ≡ n + n * k = omega arith in
    ap (take n) (ap (λ (j : ℕ). drop j ((f x ++ flat_map f xs) ++ zeros m)) next
    ∙ sym (drop-drop (n * k) n ((f x ++ flat_map f xs) ++ zeros m))
    ∙ ap (λ (bytes : List ℕ). drop (n * k) (drop n bytes)) (append_assoc (f x) (flat_map f xs) (zeros m))
    ∙ ap (drop (n * k)) (drop_at (f x) rest n (cells.sized x)))
    ∙ cell_there X f n d cells xs k m (omega arith)

-- ---- whole pages

pub length-padded : (bytes : List ℕ) → length (padded_to_pages bytes) ≡ 4096 * ((length bytes + 4095) / 4096)
unfolding padded_to_pages
length-padded bytes = omega (arith, length-append bytes (zeros ((4096 - length bytes % 4096) % 4096)), length-zeros ((4096 - length bytes % 4096) % 4096))

pub padded_cell : (X : Type 0) (f : X → List ℕ) (n : ℕ) (d : X) → AreCells X f n d → (xs : List X) (k : ℕ) → n * k + n ≤ length (padded_to_pages (flat_map f xs))
    → slice_range (padded_to_pages (flat_map f xs)) (n * k) (n * k + n) ≡ f (get_or xs k d)
unfolding padded_to_pages
padded_cell X f n d cells xs k fits =
    let m : ℕ = (4096 - length (flat_map f xs) % 4096) % 4096 in
    let e : n * k + n - n * k ≡ n = omega arith in
    let long : n * k + n ≤ n * length xs + m = omega (arith, length-append (flat_map f xs) (zeros m), length-zeros m, length-cells X f n d cells xs) in
    ap (λ (j : ℕ). take j (drop (n * k) (flat_map f xs ++ zeros m))) e ∙ cell_there X f n d cells xs k m long

pub length-page_at : (k : ℕ) (bytes : List ℕ) → 4096 * k + 4096 ≤ length bytes → length (page_at k bytes) ≡ 4096
length-page_at k bytes fits = omega (arith, length-take (4096 * k + 4096 - 4096 * k) (drop (4096 * k) bytes), length-drop (4096 * k) bytes)

-- a part of a page is a part of the whole
pub slice-page_at : (k i j : ℕ) (bytes : List ℕ) → i ≤ j → j ≤ 4096 → slice_range (page_at k bytes) i j ≡ slice_range bytes (4096 * k + i) (4096 * k + j)
slice-page_at k i j bytes le fits =
    let rest : List ℕ = drop (4096 * k) bytes in
    let size : 4096 * k + 4096 - 4096 * k ≡ i + (4096 - i) = omega arith in
    let count : 4096 * k + j - (4096 * k + i) ≡ j - i = omega arith in
    ap (λ (m : ℕ). take (j - i) (drop i (take m rest))) size ∙ ap (take (j - i)) (drop-take i (4096 - i) rest)
    ∙ take-take (j - i) (4096 - i) (drop i rest) (omega arith) ∙ ap (take (j - i)) (drop-drop i (4096 * k) bytes)
    ∙ ap (λ (m : ℕ). take m (drop (4096 * k + i) bytes)) (sym count)

-- ---- writing and comparing cell by cell

-- one more cell is written
pub cell_written : (whole : List ℕ) (start n i : ℕ) (part bytes : List ℕ) → Front bytes (slice_range whole start (start + n * i)) (n * i) 4096
    → slice_range whole (start + n * i) (start + n * i + n) ≡ part → length part ≡ n → n * (i + 1) ≤ 4096
    → Front (with_part (n * i) part bytes) (slice_range whole start (start + n * (i + 1))) (n * (i + 1)) 4096
cell_written whole start n i part bytes front is len fits =
    let there : start + n * (i + 1) ≡ start + n * i + n = omega arith in
    let more : slice_range whole start (start + n * i) ++ part ≡ slice_range whole start (start + n * (i + 1)) =
    ap (λ (x : List ℕ). slice_range whole start (start + n * i) ++ x) (sym is)
    ∙ sym (slice-split start (start + n * i) (start + n * i + n) whole (omega arith) (omega arith))
    ∙ ap (slice_range whole start) (sym there) in
    let f = put_part part (n * (i + 1)) front (omega arith) fits in
    record { written = f.written ∙ more; length_is = f.length_is }

-- two lists whose cells are the same
same_front : (n count : ℕ) (xs ys : List ℕ) → ((k : ℕ) → k < count → slice_range xs (n * k) (n * k + n) ≡ slice_range ys (n * k) (n * k + n)) → take (n * count) xs ≡ take (n * count) ys
same_front n zero xs ys same = let e : n * 0 ≡ 0 = omega arith in ap (λ (j : ℕ). take j xs) e ∙ ap (λ (j : ℕ). take j ys) (sym e)
same_front n (suc count) xs ys same =
    let e : n * suc count ≡ n * count + n = omega arith in
    let split : (zs : List ℕ) → take (n * suc count) zs ≡ take (n * count) zs ++ slice_range zs (n * count) (n * count + n) =
    λ zs. ap (λ (j : ℕ). take j zs) e ∙ sym (between_from_start zs (n * count + n))
    ∙ slice-split 0 (n * count) (n * count + n) zs (omega arith) (omega arith)
    ∙ ap (λ (x : List ℕ). x ++ slice_range zs (n * count) (n * count + n)) (between_from_start zs (n * count)) in
    split xs
    ∙ ap (λ (x : List ℕ). x ++ slice_range xs (n * count) (n * count + n)) (same_front n count xs ys (λ k lt. same k (omega arith)))
    ∙ ap (λ (x : List ℕ). take (n * count) ys ++ x) (same count (omega arith))
    ∙ sym (split ys)

pub same_cells : (n count : ℕ) (xs ys : List ℕ) → length xs ≡ n * count → length ys ≡ n * count
    → ((k : ℕ) → k < count → slice_range xs (n * k) (n * k + n) ≡ slice_range ys (n * k) (n * k + n)) → xs ≡ ys
same_cells n count xs ys len_xs len_ys same =
    sym (take_all (n * count) xs (omega arith)) ∙ same_front n count xs ys same ∙ take_all (n * count) ys (omega arith)
