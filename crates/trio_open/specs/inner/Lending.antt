-- What is lent of a file. Cited by functions that the controller alone calls.
use Rattle.std.specs.Prelude.{◌++◌, [], IsTrue}
use Rattle.trio_layout.specs.Chain.{Chain}
use Rattle.trio_layout.specs.Core.{Core}
use Rattle.trio_lists.specs.Lists.{are_new}
use Rattle.trio_checkpoint.specs.Covered.{are_there}

-- each page of the chain is there, and once
pub record IsLendable (core : Core) (chain : Chain) : Type 0 where
  pub there : IsTrue (are_there core (chain.index ++ chain.blocks))
  pub once : IsTrue (are_new [] (chain.index ++ chain.blocks))
