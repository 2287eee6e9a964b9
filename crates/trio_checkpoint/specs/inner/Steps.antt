-- What the steps of taking a checkpoint answer. Cited by private functions alone.
use Rattle.std.specs.Prelude.{◌≡◌, ℕ, List, ◌++◌, Option, Some, None, IsSome, All, slice_index_or}
use Rattle.trio_layout.specs.Chain.{Chain}
use Rattle.trio_layout.specs.Index.{Index}
use Rattle.trio_rights.specs.Sheets.{Sheet, sheet_numbers}
use Rattle.trio_checkpoint.specs.declared.chain.ChainCopy.{ChainCopy}

-- the page stands at its number
abbrev pub IsCopy : List (Option (List ℕ)) → Sheet → Type 0
IsCopy pages x = slice_index_or pages x.page None ≡ Some x.bytes

-- copies of the pages of these numbers, in their order
pub record AreCopies (pages : List (Option (List ℕ))) (numbers : List ℕ) (sheets : List Sheet) : Type 0 where
  pub numbered : sheet_numbers sheets ≡ numbers
  pub copied : All (IsCopy pages) sheets

-- each of these pages stands at its number
abbrev pub AllStand : List (Option (List ℕ)) → List ℕ → Type 0
AllStand pages numbers = All (λ n. IsSome (slice_index_or pages n None)) numbers

-- the answer is the index page's link, and its numbers were appended
abbrev pub Appends : Index → ℕ → List ℕ → List ℕ → Type 0
Appends i answer old new = (answer ≡ i.next) × (new ≡ old ++ i.numbers)

-- the numbers that were read of a chain
abbrev pub chain_seen : ChainCopy → Chain
chain_seen c = record { index = c.index_numbers.items; blocks = c.block_numbers.items }
