-- What is known at the end of a pool, when all passes are joined into one view.
use Rattle.std.specs.Prelude.{◌≡◌, ◌≢◌, ◌⊎◌, ℕ, ◌+◌, ◌≤◌, List, [], ◌∷◌, length, Option, Some, None, slice_get}
use mathlib.Core.Option.{some}
use lib.ListN.{get_elem?}
use Rattle.trio_pool.specs.declared.job.Job.{Job}
use Rattle.trio_pool.specs.declared.view.Account.{Account}
use Rattle.trio_pool.specs.declared.view.View.{View}
use Rattle.trio_pool.specs.declared.pass.PoolPass.{PoolPass}
use Rattle.trio_pool.specs.Jobs.{cases_of}
use Rattle.trio_pool.specs.Views.{account, view_of}
use Rattle.trio_pool.specs.Rule.{sent_count, took_count}
use Rattle.trio_pool.specs.Passes.{number, sent, took, OfEach}

module _ {C : Type 0} where
  -- the account of a pass
  abbrev pub account_of : PoolPass C → Account C
  account_of p = account (number p) (sent p) (took p)

  -- the account of each pass is among these
  abbrev pub HasEach : List (Account C) → List (PoolPass C) → Type 0
  HasEach accounts ps = (k : ℕ) (p : PoolPass C) → slice_get ps k ≡ Some p → (i : ℕ) × (get_elem? accounts i ≡ some (account_of p))

  -- the number of passes is known, or the last pass isn't among these
  abbrev pub Knows : ℕ → Option ℕ → List (PoolPass C) → Type 0
  Knows n next ps = (next ≡ Some n) ⊎ ((next ≡ None) × OfEach (λ p. number p + 1 ≢ n) ps)

  -- The view of n passes and of one more, which takes what is left: it took `left`, whose cases are these, and there is room for the rest.
  pub record Closing (n room : ℕ) (ps : List (PoolPass C)) (v : View C) (cases : List C) : Type 0 where
    pub left : List (Job C)
    pub accounts : List (Account C)
    pub view_is : v ≡ view_of (Some (n + 1)) (account n [] left ∷ accounts)
    pub each : HasEach accounts ps
    pub cases_is : cases_of left ≡ cases
    pub fits : length cases + sent_count v ≤ room + took_count v
