use Rattle.trio_case.proofs.Words.{IsNonDecreasingBy-from_sort, KeptPage, answers_always, rules}
use Rattle.trio_case.proofs.Unstable.{permuted_in, sorted_numbers}
use Rattle.trio_case.proofs.kept.sort_pages.Goals as goal

pub returns-clause-numbers : goal.returns-clause-numbers
returns-clause-numbers c =
    let up = IsNonDecreasingBy-from_sort (λ (p : KeptPage). p.no) _ (c.sort_unstable_by_key.ensures.sorted (λ (p : KeptPage). p.no) (answers_always _ _ _ (λ f a r g h. search rules))) in
    sorted_numbers (λ (p : KeptPage). p.no) c.args.pages.now.items c.sort_unstable_by_key.new.self.items c.sort_unstable_by_key.ensures.permutation up

pub returns-clause-each : goal.returns-clause-each
returns-clause-each c = permuted_in c.args.pages.now.items c.sort_unstable_by_key.new.self.items c.sort_unstable_by_key.ensures.permutation
