use Rattle.trio_survey.proofs.Words.{◌+◌, ◌≡◌, ◌≤◌, Keeps, chain_of, core_with, kept_count, result_map, ℕ}
use Rattle.trio_survey.proofs.Chains.{after, rest_of}
use Rattle.trio_survey.proofs.chain.read_chain_kept.Given as goal

abbrev pub invariant-loop-left : goal.invariant-loop-left
invariant-loop-left l = record {
  same : l.home.pages ≡ l.initial.home.pages;
  keeps : Keeps l.range l.initial.home.pages l.kept.pages.items;
  chain : (inodes : ℕ) → result_map (after l.index.items l.blocks.items) (rest_of (core_with l.initial.home.pages l.range inodes) l.left l.at) ≡ chain_of (core_with l.initial.home.pages l.range inodes) l.body;
  looks : l.reads + kept_count l.fn.kept.pages.items ≤ l.fn.reads + kept_count l.kept.pages.items;
  looked : l.home.looked + kept_count l.fn.kept.pages.items ≤ l.fn.home.looked + kept_count l.kept.pages.items;
}

abbrev pub decreases-loop-left : goal.decreases-loop-left
decreases-loop-left l = l.left
