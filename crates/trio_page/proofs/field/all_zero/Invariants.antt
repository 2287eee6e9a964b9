use Rattle.std.proofs.Common.{◌≡◌, ℕ, ◌<◌, get_or}
use Rattle.trio_page.proofs.field.all_zero.Given as goal

-- `any` is 0 exactly where the bytes so far are
abbrev pub invariant-loop-i : goal.invariant-loop-i
invariant-loop-i l = record {
  each : l.any ≡ 0 → (k : ℕ) → k < l.i → get_or l.bytes k 0 ≡ 0;
  none : ((k : ℕ) → k < l.i → get_or l.bytes k 0 ≡ 0) → l.any ≡ 0;
}
