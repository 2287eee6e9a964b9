-- One block of bytes that are cut or grown to another size.
use Rattle.trio_laws.proofs.Words.{◌*◌, ◌++◌, ◌+◌, ◌-◌, ◌<◌, ◌∙◌, ◌∷◌, ◌≡◌, ◌≤◌, Handed, Image, In, List, None, Option, Sheet, Some, [], ap, append_assoc, arith, block_numbers, cases_lt, drop, drop-drop, eqb, eqb-true, false, inl, inr, is_block_told, is_touched, length, length-replicate, length-take, ltb-false, min, not-false, option_map_or, or_parts, refl, resized, row_at, size_of, slice_get, suc, sym, take, take-append-le, take-take, take_all, true, zero, ℕ}
use Rattle.std.proofs.Common.{length-append}
use Rattle.trio_laws.proofs.history.Blocks.{flat, flat_long, drop_cut}
use Rattle.trio_laws.proofs.history.Told.{take_over}

pub resized_long : (size : ℕ) (bytes : List ℕ) → length (resized size bytes) ≡ size
resized_long size bytes = search (arith, length-take, length-append, length-replicate)

first_grown : (x : Sheet) (f zs : List ℕ) (z size : ℕ) → length x.bytes ≡ 4096 → length (take z (x.bytes ++ f)) ≡ z → min size 4096 ≤ z → size ≤ z + length zs → take 4096 (take size (take z (x.bytes ++ f) ++ zs)) ≡ take (length (take size (take z (x.bytes ++ f) ++ zs))) x.bytes
first_grown x f zs z size full long low far =
    let w : List ℕ = take z (x.bytes ++ f) in
    let lv : length (w ++ zs) ≡ length w + length zs = length-append w zs in
    let ly0 = length-take size (w ++ zs) in
    let ly : length (take size (w ++ zs)) ≡ size = omega (arith, ly0, lv, long, far) in
    elim (cases_lt 4096 size) [
      | inr short ↦
          take_all 4096 (take size (w ++ zs)) (omega (arith, ly, short))
          ∙ take-append-le size w zs (omega (arith, long, low, short))
          ∙ take-take size z (x.bytes ++ f) (omega (arith, low, short))
          ∙ take-append-le size x.bytes f (omega (arith, full, short))
          ∙ ap (λ m. take m x.bytes) (sym ly)
      | inl grown ↦
          take-take 4096 size (w ++ zs) (omega (arith, grown))
          ∙ take-append-le 4096 w zs (omega (arith, long, low, grown))
          ∙ take-take 4096 z (x.bytes ++ f) (omega (arith, low, grown))
          ∙ take-append-le 4096 x.bytes f (omega (arith, full))
          ∙ take_all 4096 x.bytes (omega (arith, full))
          ∙ sym (take_all (length (take size (w ++ zs))) x.bytes (omega (arith, ly, full, grown)))
    ]

-- a block whose bytes were all counted before is the old one, as far as the size goes
pub chunk_grown : (xs : List Sheet) (i : ℕ) (x : Sheet) (z size : ℕ) (zs : List ℕ) → ((x : Sheet) → In x xs → length x.bytes ≡ 4096) → slice_get xs i ≡ Some x → z ≤ 4096 * length xs → 4096 * i < size → min size (4096 * i + 4096) ≤ z → size ≤ z + length zs → take 4096 (drop (4096 * i) (take size (take z (flat xs) ++ zs))) ≡ take (length (drop (4096 * i) (take size (take z (flat xs) ++ zs)))) x.bytes
chunk_grown [] i x z size zs full get count inside low far = absurd cc
chunk_grown (y ∷ ys) zero x z size zs full get count inside low far = search (arith, flat_long, length-append, length-take, first_grown, take_over, append_assoc, drop-drop, drop_cut)
chunk_grown (y ∷ ys) (suc i) x z size zs full get count inside low far =
    let whole : length y.bytes ≡ 4096 = full y (inl refl) in
    let n : length (y ∷ ys) ≡ suc (length ys) = refl in
    let more : 4096 < z = omega (arith, inside, low) in
    let e : z ≡ length y.bytes + (z - 4096) = omega (arith, whole, more) in
    let w : take z (y.bytes ++ flat ys) ≡ y.bytes ++ take (z - 4096) (flat ys) = ap (λ m. take m (y.bytes ++ flat ys)) e ∙ take_over y.bytes (flat ys) (z - 4096) in
    let v : List ℕ = take (z - 4096) (flat ys) ++ zs in
    let all : List ℕ = take size (take z (y.bytes ++ flat ys) ++ zs) in
    let all_is : all ≡ take size (y.bytes ++ v) = ap (λ l. take size (l ++ zs)) w ∙ ap (take size) (append_assoc y.bytes (take (z - 4096) (flat ys)) zs) in
    let f : 4096 * suc i ≡ 4096 + 4096 * i = omega arith in
    let d : drop (4096 * suc i) all ≡ drop (4096 * i) (take (size - 4096) v) =
    ap (λ m. drop m all) f ∙ sym (drop-drop (4096 * i) 4096 all) ∙ ap (λ l. drop (4096 * i) (drop 4096 l)) all_is ∙ ap (drop (4096 * i)) (drop_cut size y.bytes v whole) in
    ap (take 4096) d
    ∙ chunk_grown ys i x (z - 4096) (size - 4096) zs (λ t j. full t (inr j)) get (omega (arith, count, n)) (omega (arith, inside, f)) (omega (arith, low, inside, more)) (omega (arith, far, more))
    ∙ ap (λ l. take (length l) x.bytes) (sym d)

-- what an unlisted block is
found_at : (o : Option ℕ) (page : ℕ) → option_map_or (λ q. eqb q page) o false ≡ true → o ≡ Some page
found_at None page e = absurd cc
found_at (Some q) page e = ap Some (eqb-true q page e)

pub record Unlisted' (before after : Image) (h : Handed) (n at page : ℕ) : Type 0 where
  pub clean : is_touched h page ≡ false
  pub same : slice_get (block_numbers before n (row_at before n)) at ≡ Some page
  pub counted : min (size_of after n) (4096 * at + 4096) ≤ size_of before n

pub unlisted_is : (before after : Image) (h : Handed) (n at page : ℕ) → is_block_told before after h n at page ≡ false → Unlisted' before after h n at page
unlisted_is before after h n at page e = search (arith, or_parts, min, found_at, not-false, ltb-false)
