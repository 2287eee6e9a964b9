use Rattle.trio_script.proofs.Words.{◌==◌, ◌≡◌, [], are_new, drop, list_any, take, ℕ}
use Rattle.std.specs.BTreeSet.{contains}
use Rattle.std.specs.Ordering.{nat_cmp}
use Rattle.trio_script.proofs.word.are_distinct.Given as goal

abbrev pub invariant-loop-number : goal.invariant-loop-number
invariant-loop-number l = record {
  seen : (q : ℕ) → contains nat_cmp l.seen q ≡ list_any (λ m. q == m) (take l.number-index l.numbers);
  rest : are_new (take l.number-index l.numbers) (drop l.number-index l.numbers) ≡ are_new [] l.numbers;
}
