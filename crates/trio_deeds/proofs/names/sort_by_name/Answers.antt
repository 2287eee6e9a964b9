use Rattle.std.proofs.Common.{rules}
use Rattle.std.proofs.lemmas.List.Sorted.{answers_always}
use Rattle.trio_lists.proofs.ByName.{sorted_by_name-stable}
use Rattle.trio_nodes.specs.Nodes.{entry_name}
use Rattle.trio_deeds.proofs.names.sort_by_name.Goals as goal

pub returns-clause-sorted : goal.returns-clause-sorted
returns-clause-sorted c =
    let sorted = c.in_ok-sort_by_key.ensures.sorted entry_name (answers_always _ _ _ (λ f a r g h. search rules)) in
    let stable = c.sort_by_key.ensures.stable entry_name (answers_always _ _ _ (λ f a r g h. search rules)) in
    sorted_by_name-stable entry_name _ _ sorted stable
