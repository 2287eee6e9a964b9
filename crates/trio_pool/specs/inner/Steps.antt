-- What each kind of step makes of a view, and what it tells.
use Rattle.std.specs.Prelude.{◌≡◌, ℕ, ◌+◌, ◌<◌, ◌≤◌, List, [], ◌∷◌, ◌++◌, length, Option, Some, None, IfSome}
use mathlib.Core.Option.{some}
use lib.ListN.{get_elem?}
use Rattle.trio_pool.specs.declared.job.Job.{Job}
use Rattle.trio_pool.specs.declared.view.Account.{Account}
use Rattle.trio_pool.specs.declared.view.View.{View}
use Rattle.trio_pool.specs.Jobs.{Take}
use Rattle.trio_pool.specs.Views.{account, view_of}
use Rattle.trio_pool.specs.Rule.{times, AccountAgrees, IsUnused, sent_count, took_count}

-- one number more
abbrev pub one_more : Option ℕ → Option ℕ
one_more (Some n) = Some (n + 1)
one_more None = None

-- the first number that is there
abbrev pub either_next : Option ℕ → Option ℕ → Option ℕ
either_next (Some n) m = Some n
either_next None m = m

module _ {C : Type 0} where
  -- the view that makes all passes
  abbrev pub first_view : View C
  first_view = view_of (Some 0) []

  -- the first account has put one job more
  abbrev pub with_sent : List (Account C) → Job C → List (Account C)
  with_sent [] x = []
  with_sent (a ∷ rest) x = account a.number (a.sent ++ x ∷ []) a.took ∷ rest

  -- the first account has taken one job more
  abbrev pub with_took : List (Account C) → Job C → List (Account C)
  with_took [] x = []
  with_took (a ∷ rest) x = account a.number a.sent (a.took ++ x ∷ []) ∷ rest

  -- a job was put
  abbrev pub Put : View C → Job C → View C → Type 0
  Put v x w = w ≡ view_of v.next (with_sent v.accounts x)

  -- a job was taken
  abbrev pub Took : View C → Job C → View C → Type 0
  Took v x w = w ≡ view_of v.next (with_took v.accounts x)

  -- a job was taken of those that the passes of this view put
  abbrev pub Emptied : View C → Job C → View C → Type 0
  Emptied v x w = Took v x w × (took_count v < sent_count v)

  -- What a view knows agrees with this line of all takes, where the queue holds these jobs. Passes that it has not made have put and taken nothing.
  pub record Agrees (line : List (Take C)) (held : List (Job C)) (v : View C) : Type 0 where
    pub each_account : (k : ℕ) (a : Account C) → get_elem? v.accounts k ≡ some a → AccountAgrees line held a
    pub undealt : IfSome v.next (λ n. (p : ℕ) → n ≤ p → IsUnused line held p)

  -- what a view knows agrees with some line of all takes, where the queue holds these jobs
  abbrev pub Stands : View C → List (Job C) → Type 0
  Stands v held = (line : List (Take C)) × Agrees line held v

  -- the same, and what the passes of this view put and didn't take is held
  abbrev pub Counted : View C → List (Job C) → Type 0
  Counted v held = Stands v held × (length held + took_count v ≡ sent_count v)

  -- the view has the account of every pass
  abbrev pub HasAll : View C → Type 0
  HasAll v = (n : ℕ) × (v.next ≡ Some n) × ((p : ℕ) → p < n → 1 ≤ times p v.accounts)

  -- ---- making a pass

  -- the account of the next pass
  abbrev pub next_accounts : Option ℕ → List (Account C)
  next_accounts (Some n) = account n [] [] ∷ []
  next_accounts None = []

  -- the view that made a pass
  abbrev pub dealt : View C → View C
  dealt v = view_of (one_more v.next) v.accounts

  -- the view of the pass that was made
  abbrev pub dealt_one : View C → View C
  dealt_one v = view_of None (next_accounts v.next)

  -- ---- joining two

  -- the accounts of both
  abbrev pub both : View C → View C → View C
  both v w = view_of (either_next v.next w.next) (v.accounts ++ w.accounts)

  -- the view of a token that was joined into another
  abbrev pub spent : View C
  spent = view_of None []
