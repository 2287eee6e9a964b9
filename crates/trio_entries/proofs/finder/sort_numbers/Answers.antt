use Rattle.trio_entries.proofs.Words.{IsNonDecreasingBy-from_sort}
use Rattle.trio_entries.proofs.Finding.{among_moved}
use Rattle.trio_entries.proofs.finder.sort_numbers.Goals as goal

pub returns-clause-same : goal.returns-clause-same
returns-clause-same c = λ n. among_moved n c.args.numbers.now.items c.sort_unstable.new.self.items c.sort_unstable.ensures.permutation

pub returns-clause-rising : goal.returns-clause-rising
returns-clause-rising c = IsNonDecreasingBy-from_sort (λ n. n) c.sort_unstable.new.self.items c.sort_unstable.ensures.sorted
