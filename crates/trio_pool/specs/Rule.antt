-- The rule of the queue: what holds of the jobs that it holds and of all views between any two steps.
use Rattle.std.specs.Prelude.{◌≡◌, ℕ, ◌+◌, ◌≤◌, ◌==◌, cond, List, [], ◌∷◌, ◌++◌, length, Option, Some, None, IfSome}
use mathlib.Core.Option.{some}
use lib.ListN.{get_elem?}
use Rattle.trio_pool.specs.declared.job.Job.{Job}
use Rattle.trio_pool.specs.declared.view.Account.{Account}
use Rattle.trio_pool.specs.declared.view.View.{View}
use Rattle.trio_pool.specs.Jobs.{Take, put_by, jobs_of, took_by, AreNamed}

-- the numbers that f gives of a list, added up
abbrev pub total : {A : Type 0} → (A → ℕ) → List A → ℕ
total f [] = 0
total f (x ∷ xs) = f x + total f xs

-- 1 for a view that makes passes, else 0
abbrev pub deals : Option ℕ → ℕ
deals (Some n) = 1
deals None = 0

module _ {C : Type 0} where
  -- how often a pass is among these accounts
  abbrev pub times : ℕ → List (Account C) → ℕ
  times p accounts = total (λ a. cond (a.number == p) 1 0) accounts

  -- how often a pass is in these views
  abbrev pub places : ℕ → List (View C) → ℕ
  places p views = total (λ v. times p v.accounts) views

  -- how many jobs the passes of a view put
  abbrev pub sent_count : View C → ℕ
  sent_count v = total (λ a. length a.sent) v.accounts

  -- how many jobs the passes of a view took
  abbrev pub took_count : View C → ℕ
  took_count v = total (λ a. length a.took) v.accounts

  -- An account, where `line` is all takes in order, and `held` what the queue holds. What the pass put is what was taken of it, in order, and then what is held of it.
  pub record AccountAgrees (line : List (Take C)) (held : List (Job C)) (a : Account C) : Type 0 where
    pub sent_is : a.sent ≡ put_by a.number (jobs_of line ++ held)
    pub took_is : a.took ≡ took_by a.number line
    pub named : AreNamed 0 a.sent

  -- a pass has put and taken nothing
  abbrev pub IsUnused : List (Take C) → List (Job C) → ℕ → Type 0
  IsUnused line held p = (put_by p (jobs_of line ++ held) ≡ []) × (took_by p line ≡ [])

  -- The rule: all takes are one line, with which each account of each view agrees.
  pub record Kept (held : List (Job C)) (views : List (View C)) : Type 0 where
    pub line : List (Take C)
    pub each_account : (j : ℕ) (v : View C) → get_elem? views j ≡ some v → (k : ℕ) (a : Account C) → get_elem? v.accounts k ≡ some a → AccountAgrees line held a
    -- no pass stands in two places
    pub once : (p : ℕ) → places p views ≤ 1
    -- one that stands nowhere has put and taken nothing
    pub nowhere : (p : ℕ) → places p views ≡ 0 → IsUnused line held p
    -- one view at most makes passes
    pub one_dealer : total (λ (v : View C). deals v.next) views ≤ 1
    -- passes that it has not made stand nowhere
    pub undealt : (j : ℕ) (v : View C) → get_elem? views j ≡ some v → IfSome v.next (λ n. (p : ℕ) → n ≤ p → places p views ≡ 0)
    -- what was put was taken or is held
    pub balance : length held + total took_count views ≡ total sent_count views
