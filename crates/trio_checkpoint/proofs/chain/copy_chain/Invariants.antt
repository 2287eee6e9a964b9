use Rattle.trio_checkpoint.proofs.Words.{◌≡◌, ◌≤◌, AreCopies, IsTrue, are_there, chain_of, core_of, result_map}
use Rattle.trio_checkpoint.proofs.Chains.{after, rest_of}
use Rattle.trio_checkpoint.proofs.chain.copy_chain.Given as goal

abbrev pub invariant-loop-left : goal.invariant-loop-left
invariant-loop-left l = record {
  same : l.home.pages ≡ l.initial.home.pages;
  chain : result_map (after l.index_numbers.items l.block_numbers.items) (rest_of (core_of l.initial.home.pages l.range) l.left l.at) ≡ chain_of (core_of l.initial.home.pages l.range) l.body;
  copies : AreCopies l.initial.home.pages l.index_numbers.items l.index.items;
  floor : l.initial.home.looked ≤ l.home.looked;
  there : IsTrue (are_there (core_of l.initial.home.pages l.range) l.index_numbers.items);
}

abbrev pub decreases-loop-left : goal.decreases-loop-left
decreases-loop-left l = l.left
