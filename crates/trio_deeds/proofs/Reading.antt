-- What a session reads of its files, block by block.
use Rattle.std.proofs.Common.{◌≡◌, ℕ, zero, suc, ◌+◌, ◌-◌, ◌*◌, ◌<◌, ◌≤◌, List, [], ◌∷◌, ◌++◌, length, get_or, min, take, drop, sym, refl, ap, ◌∙◌, cond, add-one, arith, inl, inr, length-append}
use Rattle.std.proofs.lemmas.Bool.{cases_lt}
use Rattle.std.specs.List.{flat_map}
use Rattle.std.specs.Prelude.{slice_range, ◌/◌, ◌%◌}
use Rattle.std.proofs.lemmas.List.{drop-append-le, drop-drop, drop-take, length-drop, take-append-le, take_min}
use Rattle.std.proofs.Math.ListN.{drop_of_length-le}
use Rattle.std.proofs.Math.Seq.{drop-append-add, take-add}
use Rattle.trio_lists.specs.Lists.{In}
use Rattle.trio_layout.specs.Entries.{slot_bytes}
use Rattle.trio_layout.specs.Slot.{slot_of}
use Rattle.trio_session.specs.Seen.{every_number}
use Rattle.trio_deeds.specs.Reads.{entries_within, is_entry}

-- each of these pages has 4096 bytes
abbrev AreWhole : List (List ℕ) → Type 0
AreWhole pages = (p : List ℕ) → In p pages → length p ≡ 4096

-- the bytes of these pages, one after another
abbrev pub joined : List (List ℕ) → List ℕ
joined pages = flat_map (λ p. p) pages

pub length-joined : (pages : List (List ℕ)) → AreWhole pages → length (joined pages) ≡ 4096 * length pages
length-joined [] w = refl
length-joined (p ∷ ps) w =
    let here = w p (inl refl) in
    let rest = length-joined ps (λ q i. w q (inr i)) in
    omega (arith, length-append p (joined ps))

-- the bytes from a place in a page on
drop-joined : (pages : List (List ℕ)) (k o : ℕ) → AreWhole pages → k < length pages → o ≤ 4096
    → drop (4096 * k + o) (joined pages) ≡ drop o (get_or pages k []) ++ joined (drop (suc k) pages)
drop-joined [] k o w lt le = absurd (omega (arith, lt))
drop-joined (p ∷ ps) zero o w lt le = ap (λ n. drop n (p ++ joined ps)) (let z : 4096 * 0 + o ≡ o = omega arith in z) ∙ drop-append-le o p (joined ps) (omega (arith, w p (inl refl)))
drop-joined (p ∷ ps) (suc k) o w lt le =
    let here = w p (inl refl) in
    let at : 4096 * suc k + o ≡ length p + (4096 * k + o) = omega arith in
    ap (λ n. drop n (p ++ joined ps)) at ∙ drop-append-add p (joined ps) (4096 * k + o) ∙ drop-joined ps k o (λ q i. w q (inr i)) (omega arith) le

take-take : (n m : ℕ) (xs : List ℕ) → n ≤ m → take n (take m xs) ≡ take n xs
take-take zero m xs le = refl
take-take (suc n) zero xs le = absurd (omega arith)
take-take (suc n) (suc m) [] le = refl
take-take (suc n) (suc m) (x ∷ xs) le = ap (λ q. x ∷ q) (take-take n m xs (omega arith))

-- a piece of the bytes that stands in one page
pub piece_of-page : (pages : List (List ℕ)) (size k o n : ℕ) → AreWhole pages → k < length pages → o + n ≤ 4096 → (4096 * k + o) + n ≤ size
    → take n (drop (4096 * k + o) (take size (joined pages))) ≡ take n (drop o (get_or pages k []))
piece_of-page pages size k o n w lt le fits =
    let at : ℕ = 4096 * k + o in
    let m : ℕ = size - at in
    let is : size ≡ at + m = omega arith in
    let whole = length-get pages k w lt in
    ap (λ q. take n (drop at (take q (joined pages)))) is
    ∙ ap (take n) (drop-take at m (joined pages))
    ∙ take-take n m (drop at (joined pages)) (omega arith)
    ∙ ap (take n) (drop-joined pages k o w lt (omega arith))
    ∙ take-append-le n (drop o (get_or pages k [])) (joined (drop (suc k) pages)) (omega (arith, length-drop o (get_or pages k []), whole))
  where
    length-get : (pages : List (List ℕ)) (k : ℕ) → AreWhole pages → k < length pages → length (get_or pages k []) ≡ 4096
    length-get [] k w lt = absurd (omega (arith, lt))
    length-get (p ∷ ps) zero w lt = w p (inl refl)
    length-get (p ∷ ps) (suc k) w lt = length-get ps k (λ q i. w q (inr i)) (omega arith)

-- what stands in one page, by the page itself
pub piece_in-page : (pages : List (List ℕ)) (size from n : ℕ) (page : List ℕ) → AreWhole pages → size ≤ 4096 * length pages
    → from + n ≤ size → 0 < n → from % 4096 + n ≤ 4096 → page ≡ get_or pages (from / 4096) []
    → slice_range page (from % 4096) (from % 4096 + n) ≡ take n (drop from (take size (joined pages)))
piece_in-page pages size from n page w long fits some inside is =
    let k : ℕ = from / 4096 in
    let o : ℕ = from % 4096 in
    let at : 4096 * k + o ≡ from = omega arith in
    let lt : k < length pages = omega (arith, long, fits, some) in
    let piece = piece_of-page pages size k o n w lt inside (omega (arith, at, fits)) in
    let width : (o + n) - o ≡ n = omega arith in
    ap (λ q. take q (drop o page)) width
    ∙ ap (λ q. take n (drop o q)) is
    ∙ sym piece
    ∙ ap (λ q. take n (drop q (take size (joined pages)))) at

-- the bytes so far, and one piece more
pub piece_more : (all : List ℕ) (start from n : ℕ) (out piece : List ℕ) → start ≤ from → piece ≡ take n (drop from all)
    → out ≡ take (from - start) (drop start all) → out ++ piece ≡ take ((from + n) - start) (drop start all)
piece_more all start from n out piece le is so =
    let m : ℕ = from - start in
    let len : (from + n) - start ≡ m + n = omega arith in
    let here : start + m ≡ from = omega arith in
    ap (λ q. q ++ piece) so
    ∙ ap (λ q. take m (drop start all) ++ q) (is ∙ ap (λ q. take n (drop q all)) (sym here) ∙ ap (take n) (sym (drop-drop m start all)))
    ∙ sym (take-add m n (drop start all))
    ∙ ap (λ q. take q (drop start all)) (sym len)

-- bytes that are read from a place on, up to an end
pub read_all : (all : List ℕ) (at len : ℕ)
    → take ((min at (length all) + min (length all - min at (length all)) len) - min at (length all)) (drop (min at (length all)) all) ≡ take len (drop at all)
read_all all at len =
    elim (cases_lt (length all) at) [
      | inr le ↦
          let m : min at (length all) ≡ at = omega arith in
          let n : (min at (length all) + min (length all - min at (length all)) len) - min at (length all) ≡ min len (length (drop at all)) = omega (arith, length-drop at all) in
          ap (λ q. take q (drop (min at (length all)) all)) n ∙ ap (λ q. take (min len (length (drop at all))) (drop q all)) m ∙ take_min len (drop at all)
      | inl gt ↦
          let none : drop at all ≡ [] = drop_of_length-le all (omega arith) in
          let zero_now : (min at (length all) + min (length all - min at (length all)) len) - min at (length all) ≡ 0 = omega arith in
          ap (λ q. take q (drop (min at (length all)) all)) zero_now ∙ sym (ap (take len) none ∙ take-none len)
    ]
  where
    take-none : (n : ℕ) → take {A = ℕ} n [] ≡ []
    take-none zero = refl
    take-none (suc n) = refl

-- one slot more
pub entries_more : (n : ℕ) (page : List ℕ) → entries_within (n + 1) page ≡ entries_within n page + cond (is_entry (slot_of every_number (slot_bytes n page))) 1 0
unfolding entries_within
entries_more n page = rw add-one refl

pub entries_none : (page : List ℕ) → entries_within 0 page ≡ 0
unfolding entries_within
entries_none page = refl
