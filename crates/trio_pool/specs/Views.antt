-- What is seen of accounts and views.
use Rattle.std.specs.Prelude.{ℕ, List, [], ◌∷◌, Option}
use Rattle.trio_pool.specs.declared.job.Job.{Job}
use Rattle.trio_pool.specs.declared.view.Account.{Account}
use Rattle.trio_pool.specs.declared.view.View.{View}

module _ {C : Type 0} where
  -- the account of a pass, with what it put and took
  abbrev pub account : ℕ → List (Job C) → List (Job C) → Account C
  account number sent took = record { number = number; sent = sent; took = took }

  -- a view with the number of the next pass
  abbrev pub view_of : Option ℕ → List (Account C) → View C
  view_of next accounts = record { next = next; accounts = accounts }

  -- the number of the first account
  abbrev pub own_number : List (Account C) → ℕ
  own_number [] = 0
  own_number (a ∷ rest) = a.number

  -- what the first account put
  abbrev pub own_sent : List (Account C) → List (Job C)
  own_sent [] = []
  own_sent (a ∷ rest) = a.sent

  -- what the first account took
  abbrev pub own_took : List (Account C) → List (Job C)
  own_took [] = []
  own_took (a ∷ rest) = a.took
