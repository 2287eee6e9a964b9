-- Index pages: the numbers that stand in bytes, against their spelling.
use Rattle.trio_layout.proofs.Words.{◌&&◌, ◌*◌, ◌++◌, ◌+◌, ◌-◌, ◌<◌, ◌==◌, ◌^◌, ◌∙◌, ◌∷◌, ◌≡◌, ◌≤◌, Bool, CoreRange, IfSome, Index, IsBytes, IsIndexPage, IsTrue, List, None, Option, Some, [], and_from, and_parts, ap, append-nil, append_assoc, arith, bytes_eq, cases_lt, drop, eqb-true, false, flat_map, get_or, get_or_append_left, index_at, index_fits, inl, inr, is_core, length, length-append, length-drop, length-zeros, link_fits, list_all, list_all-append, lt-ltb, ltb-true, nat_le, nat_lt, nil_from_length, number_at-lt, number_here, number_is, numbers_in, refl, suc, sym, take, take-append-drop, to_le_bytes, true, w64, wide64, zero, ℕ}
use Rattle.std.proofs.Common.{eq-eqb}
use Rattle.std.specs.Int.{from_le_bytes}
use Rattle.std.proofs.lemmas.Grind.{same_number_lists}
use Rattle.std.proofs.lemmas.List.{get_or-append_right, get_or_default, take_at, drop_at, length-take, get_or-replicate, drop-drop}
use Rattle.std.proofs.lemmas.List.Sums.{AllPass-from_list_all, list_all-from_AllPass}
use Rattle.std.proofs.Math.Seq.{take-add}
use Rattle.trio_page.specs.Field.{number_at, zeros}
use Rattle.trio_page.proofs.Fields.{length-to_le_bytes}
use Rattle.trio_page.proofs.Cursor.{IsBytes-take, IsBytes-drop}
use Rattle.trio_layout.specs.Index.{index_bytes, index_of}
use Rattle.trio_layout.specs.inner.Fields.{AreNumbers, AreNarrow}
use Rattle.trio_layout.proofs.Reading.{reading, bytes_eq-true, true-bytes_eq}

pub length-numbers_in : (n : ℕ) (bytes : List ℕ) → length (numbers_in n bytes) ≡ n
length-numbers_in zero bytes = refl
length-numbers_in (suc n) bytes = ap suc (length-numbers_in n (drop 8 bytes))

number_at-drop : (m k : ℕ) (bytes : List ℕ) → number_at w64 k (drop m bytes) ≡ number_at w64 (m + k) bytes
unfolding number_at
number_at-drop m k bytes =
    let e : (m + k) + 8 - (m + k) ≡ k + 8 - k = omega arith in
    ap (λ (x : List ℕ). from_le_bytes w64 (take (k + 8 - k) x)) (drop-drop k m bytes)
    ∙ ap (λ (n : ℕ). from_le_bytes w64 (take n (drop (m + k) bytes))) (sym e)

number_at-front : (bytes : List ℕ) → from_le_bytes w64 (take 8 bytes) ≡ number_at w64 0 bytes
unfolding number_at
number_at-front bytes = refl

-- each number is the one at its place
pub numbers_in-at : (n i : ℕ) (bytes : List ℕ) → i < n → get_or (numbers_in n bytes) i 0 ≡ number_at w64 (8 * i) bytes
numbers_in-at zero i bytes lt = absurd (omega arith)
numbers_in-at (suc n) zero bytes lt = number_at-front bytes
numbers_in-at (suc n) (suc i) bytes lt =
    let e : 8 + 8 * i ≡ 8 * suc i = omega arith in
    numbers_in-at n i (drop 8 bytes) (omega arith) ∙ number_at-drop 8 (8 * i) bytes ∙ ap (λ (k : ℕ). number_at w64 k bytes) e

-- the numbers spell the bytes that they stand in
pub numbers_spell : (n : ℕ) (bytes : List ℕ) → IsBytes bytes → 8 * n ≤ length bytes → flat_map (to_le_bytes w64) (numbers_in n bytes) ≡ take (8 * n) bytes
numbers_spell zero bytes small le = refl
numbers_spell (suc n) bytes small le =
    let here : to_le_bytes w64 (from_le_bytes w64 (take 8 bytes)) ≡ take 8 bytes =
    wide64.back (take 8 bytes) (omega (arith, length-take 8 bytes)) (IsBytes-take 8 bytes small) in
    let rest : flat_map (to_le_bytes w64) (numbers_in n (drop 8 bytes)) ≡ take (8 * n) (drop 8 bytes) =
    numbers_spell n (drop 8 bytes) (IsBytes-drop 8 bytes small) (omega (arith, length-drop 8 bytes)) in
    let e : 8 + 8 * n ≡ 8 * suc n = omega arith in
    ap (λ (x : List ℕ). x ++ flat_map (to_le_bytes w64) (numbers_in n (drop 8 bytes))) here
    ∙ ap (λ (x : List ℕ). take 8 bytes ++ x) rest
    ∙ sym (take-add 8 (8 * n) bytes) ∙ ap (λ (k : ℕ). take k bytes) e

-- the numbers that were spelled stand in the bytes
pub numbers_again : (ns rest : List ℕ) (n : ℕ) → length ns ≡ n → IsTrue (list_all (λ k. nat_lt k (2 ^ 64)) ns) → numbers_in n (flat_map (to_le_bytes w64) ns ++ rest) ≡ ns
numbers_again [] rest zero len small = refl
numbers_again [] rest (suc n) len small = absurd (omega (arith, len))
numbers_again (k ∷ ns) rest zero len small = absurd (omega (arith, len))
numbers_again (k ∷ ns) rest (suc n) len small =
    let part : List ℕ = to_le_bytes w64 k in
    let tail : List ℕ = flat_map (to_le_bytes w64) ns ++ rest in
    let eight : length part ≡ 8 = length-to_le_bytes w64 k in
    let p = and_parts (nat_lt k (2 ^ 64)) (list_all (λ m. nat_lt m (2 ^ 64)) ns) small in
    let regrouped : (part ++ flat_map (to_le_bytes w64) ns) ++ rest ≡ part ++ tail = append_assoc part (flat_map (to_le_bytes w64) ns) rest in
    let front : take 8 (part ++ tail) ≡ part = take_at part tail 8 eight in
    let back : drop 8 (part ++ tail) ≡ tail = drop_at part tail 8 eight in
    ap (numbers_in (suc n)) regrouped
    ∙ ap (λ (x : List ℕ). from_le_bytes w64 x ∷ numbers_in n (drop 8 (part ++ tail))) front
    ∙ ap (λ (x : List ℕ). from_le_bytes w64 part ∷ numbers_in n x) back
    ∙ ap (λ (m : ℕ). m ∷ numbers_in n tail) (wide64.again k (ltb-true k (2 ^ 64) p.0))
    ∙ ap (λ (x : List ℕ). k ∷ x) (numbers_again ns rest n (omega (arith, len)) p.1)

zeros_at : (n i : ℕ) → i < n → get_or (zeros n) i 0 ≡ 0
unfolding zeros
zeros_at n i lt = get_or-replicate n i 0 0 lt

-- the numbers in use, and zeros up to 511
padded : (used : ℕ) (range : CoreRange) (bytes : List ℕ) → used ≤ 511 → AreNumbers used range bytes → numbers_in 511 bytes ≡ numbers_in used bytes ++ zeros (511 - used)
padded used range bytes room are =
    let ns : List ℕ = numbers_in used bytes in
    let len : length ns ≡ used = length-numbers_in used bytes in
    let whole : length (numbers_in 511 bytes) ≡ 511 = length-numbers_in 511 bytes in
    let both : length (ns ++ zeros (511 - used)) ≡ 511 = omega (arith, length-append ns (zeros (511 - used)), len, length-zeros (511 - used)) in
    same_number_lists (numbers_in 511 bytes) (ns ++ zeros (511 - used)) (whole ∙ sym both) (λ k lt.
    let within : k < 511 = omega (arith, whole) in
    numbers_in-at 511 k bytes within ∙ (elim (cases_lt k used) [
      | inl below ↦ sym (get_or_append_left ns (zeros (511 - used)) 0 k (omega (arith, len)) ∙ numbers_in-at used k bytes below)
      | inr above ↦ (are k within).1 above ∙ sym (get_or-append_right ns (zeros (511 - used)) used k 0 len above ∙ zeros_at (511 - used) (k - used) (omega arith))
    ]))

link_here : (bytes : List ℕ) → IsBytes bytes → length bytes ≡ 4096 → drop 4088 bytes ≡ to_le_bytes w64 (number_at w64 4088 bytes)
link_here bytes small len =
    let stands = number_here w64 (2 ^ 64) wide64 4088 4096 bytes small refl (omega arith) in
    let none : drop 4096 bytes ≡ [] = nil_from_length (drop 4096 bytes) (omega (arith, length-drop 4096 bytes)) in
    stands.here ∙ ap (λ (x : List ℕ). to_le_bytes w64 (number_at w64 4088 bytes) ++ x) none ∙ append-nil (to_le_bytes w64 (number_at w64 4088 bytes))

spelled : (used : ℕ) (range : CoreRange) (bytes : List ℕ) → IsBytes bytes → length bytes ≡ 4096 → used ≤ 511 → AreNumbers used range bytes → bytes ≡ index_bytes (index_at used bytes)
unfolding index_bytes
spelled used range bytes small len room are =
    let ns : List ℕ = numbers_in used bytes in
    let front : take 4088 bytes ≡ flat_map (to_le_bytes w64) (ns ++ zeros (511 - length ns)) =
    sym (numbers_spell 511 bytes small (omega arith))
    ∙ ap (flat_map (to_le_bytes w64)) (padded used range bytes room are ∙ ap (λ (n : ℕ). ns ++ zeros (511 - n)) (sym (length-numbers_in used bytes))) in
    sym (take-append-drop 4088 bytes) ∙ ap (λ (x : List ℕ). x ++ drop 4088 bytes) front
    ∙ ap (λ (x : List ℕ). flat_map (to_le_bytes w64) (ns ++ zeros (511 - length ns)) ++ x) (link_here bytes small len)

length_is : (xs : List ℕ) (n : ℕ) → length xs ≡ n → (length xs == n) ≡ true
length_is xs n e = eq-eqb (length xs) n e

core_numbers : (used : ℕ) (range : CoreRange) (bytes : List ℕ) → used ≤ 511 → AreNumbers used range bytes → list_all (is_core range) (numbers_in used bytes) ≡ true
core_numbers used range bytes room are = list_all-from_AllPass (is_core range) (numbers_in used bytes) (λ k d lt.
    let below : k < used = omega (arith, length-numbers_in used bytes) in
    ap (is_core range) (get_or_default (numbers_in used bytes) k d 0 lt ∙ numbers_in-at used k bytes below) ∙ (are k (omega arith)).0 below)

narrow_numbers : (used : ℕ) (bytes : List ℕ) → IsBytes bytes → list_all (λ n. nat_lt n (2 ^ 64)) (numbers_in used bytes) ≡ true
narrow_numbers zero bytes small = refl
narrow_numbers (suc n) bytes small =
    and_from (nat_lt (from_le_bytes w64 (take 8 bytes)) (2 ^ 64)) (list_all (λ n. nat_lt n (2 ^ 64)) (numbers_in n (drop 8 bytes)))
    (lt-ltb _ _ (wide64.below (take 8 bytes) (IsBytes-take 8 bytes small))) (narrow_numbers n (drop 8 bytes) (IsBytes-drop 8 bytes small))

-- bytes whose numbers and link pass the tests are an index page's
pub found : (used : ℕ) (last : Bool) (range : CoreRange) (bytes : List ℕ) → IsBytes bytes → length bytes ≡ 4096 → used ≤ 511 → AreNumbers used range bytes → link_fits last range (number_at w64 4088 bytes) ≡ true → IsIndexPage used last range bytes (index_at used bytes)
found used last range bytes small len room are link = record {
  spelled = spelled used range bytes small len room are;
  narrow = narrow_numbers used bytes small;
  narrow_next = number_at-lt w64 (2 ^ 64) wide64 4088 bytes small;
  fits =
      and_from (length (numbers_in used bytes) == used && list_all (is_core range) (numbers_in used bytes)) (link_fits last range (number_at w64 4088 bytes))
      (and_from (length (numbers_in used bytes) == used) (list_all (is_core range) (numbers_in used bytes)) (length_is (numbers_in used bytes) used (length-numbers_in used bytes)) (core_numbers used range bytes room are)) link;
}

-- what is met in the bytes of an index page
pub record Meets (used : ℕ) (last : Bool) (range : CoreRange) (bytes : List ℕ) (i : Index) : Type 0 where
  pub same : index_at used bytes ≡ i
  pub numbers : AreNumbers used range bytes
  pub link : link_fits last range (number_at w64 4088 bytes) ≡ true

zeros_narrow : (n : ℕ) → IsTrue (list_all (λ k. nat_lt k (2 ^ 64)) (zeros n))
unfolding zeros
zeros_narrow zero = refl
zeros_narrow (suc n) = zeros_narrow n

all_narrow : (xs ys : List ℕ) → IsTrue (list_all (λ k. nat_lt k (2 ^ 64)) xs) → IsTrue (list_all (λ k. nat_lt k (2 ^ 64)) ys) → IsTrue (list_all (λ k. nat_lt k (2 ^ 64)) (xs ++ ys))
all_narrow xs ys p q = list_all-append (λ k. nat_lt k (2 ^ 64)) xs ys ∙ and_from (list_all (λ k. nat_lt k (2 ^ 64)) xs) (list_all (λ k. nat_lt k (2 ^ 64)) ys) p q

length-flat : (ns : List ℕ) → length (flat_map (to_le_bytes w64) ns) ≡ 8 * length ns
length-flat [] = refl
length-flat (n ∷ ns) = omega (arith, length-append (to_le_bytes w64 n) (flat_map (to_le_bytes w64) ns), length-to_le_bytes w64 n, length-flat ns)

pub only : (used : ℕ) (last : Bool) (range : CoreRange) (bytes : List ℕ) (i : Index) → used ≤ 511 → IsIndexPage used last range bytes i → Meets used last range bytes i
unfolding index_bytes
only used last range bytes i room is =
    let ns : List ℕ = i.numbers in
    let p = and_parts (length ns == used && list_all (is_core range) ns) (link_fits last range i.next) is.fits in
    let q = and_parts (length ns == used) (list_all (is_core range) ns) p.0 in
    let len : length ns ≡ used = eqb-true (length ns) used q.0 in
    let pad : List ℕ = zeros (511 - length ns) in
    let whole : length (ns ++ pad) ≡ 511 = omega (arith, length-append ns pad, length-zeros (511 - length ns), len) in
    let small : IsTrue (list_all (λ k. nat_lt k (2 ^ 64)) (ns ++ pad)) = all_narrow ns pad is.narrow (zeros_narrow (511 - length ns)) in
    let all : numbers_in 511 bytes ≡ ns ++ pad = ap (numbers_in 511) is.spelled ∙ numbers_again (ns ++ pad) (to_le_bytes w64 i.next) 511 whole small in
    let front : length (flat_map (to_le_bytes w64) (ns ++ pad)) ≡ 4088 = omega (arith, length-flat (ns ++ pad), whole) in
    let here : drop 4088 bytes ≡ to_le_bytes w64 i.next ++ [] = ap (drop 4088) is.spelled ∙ drop_at (flat_map (to_le_bytes w64) (ns ++ pad)) (to_le_bytes w64 i.next) 4088 front ∙ sym (append-nil (to_le_bytes w64 i.next)) in
    let next : number_at w64 4088 bytes ≡ i.next = number_is w64 (2 ^ 64) wide64 4088 i.next bytes [] here is.narrow_next in
    let at : (k : ℕ) → k < 511 → number_at w64 (8 * k) bytes ≡ get_or (ns ++ pad) k 0 =
    λ k lt. sym (numbers_in-at 511 k bytes lt) ∙ ap (λ (x : List ℕ). get_or x k 0) all in
    let same : numbers_in used bytes ≡ ns = same_number_lists (numbers_in used bytes) ns (length-numbers_in used bytes ∙ sym len) (λ k lt.
    let below : k < used = omega (arith, length-numbers_in used bytes) in
    numbers_in-at used k bytes below ∙ at k (omega arith) ∙ get_or_append_left ns pad 0 k (omega arith)) in
    record {
      same = rw (same, next) refl;
      numbers = λ k lt. (
        λ below. ap (is_core range) (at k lt ∙ get_or_append_left ns pad 0 k (omega arith)) ∙ AllPass-from_list_all (is_core range) ns q.1 k 0 (omega arith),
        λ above. at k lt ∙ get_or-append_right ns pad used k 0 len above ∙ zeros_at (511 - length ns) (k - used) (omega arith),
      );
      link = ap (link_fits last range) next ∙ p.1;
    }

is_core-small : (range : CoreRange) (page : ℕ) → range.end < 2 ^ 32 → is_core range page ≡ true → page < 2 ^ 32
is_core-small range page end core = let p = and_parts (nat_le range.first page) (nat_lt page range.end) core in omega (arith, ltb-true page range.end p.1)

link-small : (last : Bool) (range : CoreRange) (next : ℕ) → range.end < 2 ^ 32 → link_fits last range next ≡ true → next < 2 ^ 32
link-small true range next end fits = omega (arith, eqb-true next 0 fits)
link-small false range next end fits = is_core-small range next end fits

-- numbers that pass the tests are within 32 bits
pub narrow : (used : ℕ) (last : Bool) (range : CoreRange) (bytes : List ℕ) → range.end < 2 ^ 32 → used ≤ 511 → AreNumbers used range bytes → link_fits last range (number_at w64 4088 bytes) ≡ true → AreNarrow used bytes
narrow used last range bytes end room are link = record {
  room = room;
  numbers = λ k lt. is_core-small range (number_at w64 (8 * k) bytes) end ((are k (omega arith)).0 lt);
  next = link-small last range (number_at w64 4088 bytes) end link;
}

-- what reading answers is the index page whose bytes these are
pub is_value : (used : ℕ) (last : Bool) (range : CoreRange) (bytes : List ℕ) (r : Option Index) → used ≤ 511 → IfSome r (IsIndexPage used last range bytes) → ((i : Index) → IsIndexPage used last range bytes i → r ≡ Some i) → IsBytes bytes → r ≡ index_of used last range bytes
unfolding index_of
is_value used last range bytes r room found' only' small =
    let x : Index = index_at used bytes in
    reading (IsIndexPage used last range bytes) x (bytes_eq bytes (index_bytes x)) (index_fits used last range x) r
    (λ spelled fits. record {
      spelled = bytes_eq-true bytes (index_bytes x) spelled;
      narrow = narrow_numbers used bytes small;
      narrow_next = number_at-lt w64 (2 ^ 64) wide64 4088 bytes small;
      fits = fits;
    })
    (λ i is. let same = (only used last range bytes i room is).same in (
      same,
      true-bytes_eq bytes (index_bytes x) (is.spelled ∙ ap index_bytes (sym same)),
      ap (index_fits used last range) same ∙ is.fits,
    ))
    found' only'

-- the two answers of reading, each from what was met
pub index_value : (used : ℕ) (last : Bool) (range : CoreRange) (bytes : List ℕ) → used ≤ 511 → IsBytes bytes → IsIndexPage used last range bytes (index_at used bytes) → Some (index_at used bytes) ≡ index_of used last range bytes
index_value used last range bytes room small is =
    is_value used last range bytes (Some (index_at used bytes)) room is (λ i h. ap Some (only used last range bytes i room h).same) small

pub no_index_value : (used : ℕ) (last : Bool) (range : CoreRange) (bytes : List ℕ) → used ≤ 511 → IsBytes bytes → ((i : Index) → IsIndexPage used last range bytes i → ⊥) → None ≡ index_of used last range bytes
no_index_value used last range bytes room small none = is_value used last range bytes None room tt (λ i h. absurd (none i h)) small
