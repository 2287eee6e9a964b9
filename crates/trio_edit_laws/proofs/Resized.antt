-- The bytes of a file that grew or was cut, and how many core pages there are.
use Rattle.trio_edit_laws.proofs.Words.{◌*◌, ◌++◌, ◌+◌, ◌-◌, ◌<◌, ◌∙◌, ◌∷◌, ◌≡◌, ◌≤◌, CoreRange, In, List, [], and_parts, ap, append_assoc, are_new, are_new-first, arith, block_count, cases_lt, core_count, drop, drop_all, flat_map, gap, inl, inr, is_core, leb-true, length, length-append, length-map, length-take, length-zeros, ltb-true, map, map-In, nat_le, new_beside, pigeons, refl, resized, suc, sym, take, take-append-add, take-append-le, take_all, true, zero, ℕ}
use Rattle.std.specs.Prelude.{nat_lt, replicate}
use Rattle.std.proofs.lemmas.List.{length-replicate, replicate-append-replicate, take-take, take_at}
use Rattle.trio_page.specs.Field.{with_part, zeros}
use Rattle.trio_page.proofs.Zeros.{take-zeros}
use Rattle.trio_edit_laws.proofs.IndexFields.{AreCore}
use Rattle.trio_edit_laws.proofs.Parts.{length-pages}

-- ---- bytes

zeros-append : (m n : ℕ) → zeros m ++ zeros n ≡ zeros (m + n)
unfolding zeros
zeros-append m n = replicate-append-replicate m n 0

zeros-none : [] ≡ zeros (4096 * 0)
unfolding zeros
zeros-none = refl

-- pages that are all zero
pub flat_map-zeros : (page : ℕ → List ℕ) (ns : List ℕ) → ((n : ℕ) → In n ns → page n ≡ zeros 4096) → flat_map page ns ≡ zeros (4096 * length ns)
flat_map-zeros page [] clear = zeros-none
flat_map-zeros page (n ∷ ns) clear =
    let e : 4096 + 4096 * length ns ≡ 4096 * length (n ∷ ns) = omega arith in
    ap (λ l. l ++ flat_map page ns) (clear n (inl refl))
    ∙ ap (λ l. zeros 4096 ++ l) (flat_map-zeros page ns (λ m i. clear m (inr i)))
    ∙ zeros-append 4096 (4096 * length ns)
    ∙ ap zeros e

-- the first of whole pages
pub take-flat_map : (page : ℕ → List ℕ) (ns : List ℕ) (c : ℕ) → ((n : ℕ) → In n ns → length (page n) ≡ 4096) → flat_map page (take c ns) ≡ take (4096 * c) (flat_map page ns)
take-flat_map page ns zero whole = refl
take-flat_map page [] (suc c) whole = sym (take_all (4096 * suc c) [] (omega arith))
take-flat_map page (n ∷ ns) (suc c) whole =
    let one : length (page n) ≡ 4096 = whole n (inl refl) in
    let at : 4096 * suc c ≡ length (page n) + 4096 * c = omega (arith, one) in
    ap (λ l. page n ++ l) (take-flat_map page ns c (λ m i. whole m (inr i)))
    ∙ sym (take-append-add (page n) (flat_map page ns) (4096 * c))
    ∙ ap (λ k. take k (page n ++ flat_map page ns)) (sym at)

pub length-resized : (size : ℕ) (bytes : List ℕ) → length (resized size bytes) ≡ size
length-resized size bytes = search (arith, length-replicate, length-take, length-append)

-- a size within bytes
resized-less : (size old : ℕ) (xs : List ℕ) → size ≤ old → old ≤ length xs → resized size (take old xs) ≡ take size xs
resized-less size old xs le within =
    take-append-le size (take old xs) (replicate (size - length (take old xs)) 0) (omega (arith, length-take old xs)) ∙ take-take size old xs le

resized-more : (size : ℕ) (xs : List ℕ) → length xs ≤ size → resized size xs ≡ xs ++ zeros (size - length xs)
unfolding zeros
resized-more size xs le = take_all size (xs ++ replicate (size - length xs) 0) (omega (arith, length-append xs (zeros (size - length xs)), length-zeros (size - length xs)))

-- zeros up to the end of a block, and zero blocks behind it
gap_zeros : (xs : List ℕ) (old size m : ℕ) → length xs ≡ 4096 * block_count old → old ≤ size → block_count size ≤ block_count old + m
    → take (size - old) (zeros (gap old size) ++ (drop (old + gap old size) xs ++ zeros (4096 * m))) ≡ zeros (size - old)
gap_zeros xs old size m len le room = search (arith, cases_lt, take_at, length-zeros, drop_all, zeros-append, take-zeros)

-- a file grows: its bytes, zeros up to the end of its last block, and zero blocks behind them
pub resized-grown : (xs : List ℕ) (old size m : ℕ) → length xs ≡ 4096 * block_count old → old ≤ size → block_count size ≤ block_count old + m
    → take size (with_part old (zeros (gap old size)) xs ++ zeros (4096 * m)) ≡ resized size (take old xs)
unfolding with_part
resized-grown xs old size m len le room =
    let g : ℕ = gap old size in
    let a : List ℕ = take old xs in
    let front : length a ≡ old = omega (arith, length-take old xs, len) in
    let rest : List ℕ = zeros g ++ (drop (old + g) xs ++ zeros (4096 * m)) in
    let size_is : size ≡ length a + (size - old) = omega (arith, front) in
    let left : size - length a ≡ size - old = omega (arith, front) in
    search (arith, length-zeros, append_assoc, take-append-add, gap_zeros, resized-more)

-- a file is cut: the first of its blocks have its first bytes
pub resized-cut : (page : ℕ → List ℕ) (blocks : List ℕ) (old size : ℕ) → ((n : ℕ) → In n blocks → length (page n) ≡ 4096) → length blocks ≡ block_count old → size ≤ old
    → take size (flat_map page (take (block_count size) blocks)) ≡ resized size (take old (flat_map page blocks))
resized-cut page blocks old size whole many le = search (arith, length-pages, take-flat_map, take-take, resized-less)

-- ---- core pages

pub core_at : (range : CoreRange) (n : ℕ) → is_core range n ≡ true → (range.first ≤ n) × (n < range.end)
core_at range n e = let p = and_parts (nat_le range.first n) (nat_lt n range.end) e in (leb-true range.first n p.0, ltb-true n range.end p.1)

new_shifted : (first : ℕ) (ns : List ℕ) → are_new [] ns ≡ true → ((n : ℕ) → In n ns → first ≤ n) → are_new [] (map (λ n. n - first) ns) ≡ true
new_shifted first [] once from = refl
new_shifted first (x ∷ xs) once from =
    let p = are_new-first x xs once in
    new_beside ((x - first) ∷ []) (map (λ n. n - first) xs) (new_shifted first xs p.1 (λ n i. from n (inr i))) (λ m i j.
    let q = map-In (λ n. n - first) m xs i in
    elim j [
      | inl e ↦ search arith
      | inr none ↦ none
    ])

-- different core pages are at most as many as there are
pub few_core : (range : CoreRange) (ns : List ℕ) → are_new [] ns ≡ true → AreCore range ns → length ns ≤ core_count range
few_core range ns once core =
    let few = pigeons (range.end - range.first) (map (λ n. n - range.first) ns) (new_shifted range.first ns once (λ n i. (core_at range n (core n i)).0)) (λ m i.
    let q = map-In (λ n. n - range.first) m ns i in
    let c = core_at range q.0 (core q.0 q.1) in
    let a : range.first ≤ q.0 = c.0 in
    let b : q.0 < range.end = c.1 in
    let e : m ≡ q.0 - range.first = q.2 in
    omega (arith, a, b, e)) in
    omega (arith, few, length-map ns (λ n. n - range.first))
