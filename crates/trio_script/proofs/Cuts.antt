-- Bytes cut at their first line end, and what silent lines name.
use Rattle.trio_script.proofs.Words.{◌++◌, ◌+◌, ◌-◌, ◌<◌, ◌∙◌, ◌∷◌, ◌≡◌, ◌≢◌, List, [], add-one, ap, append-nil, append_assoc, arith, drop, eqb, false, get_or, length, lines_of, nat_tests, refl, suc, take, zero, ℕ}
use Rattle.std.proofs.lemmas.List.{take_rest}
use Rattle.std.proofs.Math.Seq.{drop-length}
use Rattle.trio_script.specs.Script.{cut_lines}
use Rattle.trio_script.specs.inner.Ends.{EndsLine, IsPlain}

not_ten : (b : ℕ) → b ≢ 10 → eqb b 10 ≡ false
not_ten b h = grind (arith, nat_tests)

-- a line end cuts a line off
cut_some : (bytes line : List ℕ) (end : ℕ) → end < length bytes → get_or bytes end 0 ≡ 10 → IsPlain bytes end → cut_lines line bytes ≡ (line ++ take end bytes) ∷ lines_of (drop (suc end) bytes)
cut_some [] line end within here plain = absurd (omega (arith, within))
cut_some (b ∷ bytes) line zero within here plain =
    let is : b ≡ 10 = here in
    rw (is, append-nil) refl
cut_some (b ∷ bytes) line (suc end) within here plain =
    let other : eqb b 10 ≡ false = not_ten b (plain 0 (omega arith)) in
    rw other (cut_some bytes (line ++ b ∷ []) end (omega arith) here (λ k lt. plain (suc k) (omega arith)) ∙ ap (λ (l : List ℕ). l ∷ lines_of (drop (suc end) bytes)) (append_assoc line (b ∷ []) (take end bytes)))

-- without a line end all bytes are one line
cut_none : (bytes line : List ℕ) → 0 < length (line ++ bytes) → IsPlain bytes (length bytes) → cut_lines line bytes ≡ (line ++ bytes) ∷ []
cut_none [] line some plain =
    let same : line ++ [] ≡ line = append-nil line in
    let more : eqb (length line) 0 ≡ false = grind (arith, nat_tests) in
    rw (same, more) refl
cut_none (b ∷ bytes) line some plain =
    let other : eqb b 10 ≡ false = not_ten b (plain 0 (omega arith)) in
    let same : (line ++ b ∷ []) ++ bytes ≡ line ++ b ∷ bytes = append_assoc line (b ∷ []) bytes in
    rw other (cut_none bytes (line ++ b ∷ []) (rw same some) (λ k lt. plain (suc k) (omega arith)) ∙ ap (λ (l : List ℕ). l ∷ []) same)

pub line_cut : (bytes : List ℕ) (end : ℕ) → EndsLine bytes end → lines_of bytes ≡ take end bytes ∷ lines_of (take (length bytes - (end + 1)) (drop (end + 1) bytes))
line_cut bytes end e =
    rw (take_rest bytes (end + 1), add-one end) (cut_some bytes [] end e.within e.here e.plain)

pub last_line : (bytes : List ℕ) → 0 < length bytes → IsPlain bytes (length bytes) → lines_of bytes ≡ bytes ∷ lines_of (take (length bytes - length bytes) (drop (length bytes) bytes))
last_line bytes some plain =
    rw (take_rest bytes (length bytes), drop-length bytes) (cut_none bytes [] some plain)
