-- What contracts see of a pool and of its passes.
use Rattle.std.specs.Prelude.{◌≡◌, ℕ, ◌+◌, ◌==◌, ◌<◌, ◌≤◌, nat_lt, cond, List, [], ◌∷◌, ◌++◌, length, Option, Some, None, slice_get}
use Rattle.crossbeam_queue.specs.Passes.{view, ruled_capacity}
use Rattle.trio_pool.specs.declared.job.Job.{Job}
use Rattle.trio_pool.specs.declared.pass.PoolPass.{PoolPass}
use Rattle.trio_pool.specs.declared.cell.Pool.{Pool}
use Rattle.trio_pool.specs.declared.taken.Taken.{Taken}
use Rattle.trio_pool.specs.declared.taken.Taken.TheVariants.{Case, Stop, Nothing}
use Rattle.trio_pool.specs.Jobs.{Take, case_job, stop_job, put_by, took_by, jobs_of, AreNamed}
use Rattle.trio_pool.specs.Views.{own_sent, own_took}

-- a count one higher; it stops at its last value, 2^64 - 1
abbrev pub count_up : ℕ → ℕ
count_up n = cond (nat_lt n 18446744073709551615) (n + 1) n

-- what a pass knows of how many passes there are: only the last one knows it
abbrev pub known_count : ℕ → ℕ → Option ℕ
known_count passes number = cond (number + 1 == passes) (Some passes) None

module _ {C : Type 0} where
  -- how many jobs the queue of a pool can hold
  abbrev pub queue_capacity : Pool C → ℕ
  queue_capacity p = ruled_capacity p.queue

  -- how many passes a pool has
  abbrev pub pass_count : Pool C → ℕ
  pass_count p = p.passes

  -- the number of a pass, counted from 0
  abbrev pub number : PoolPass C → ℕ
  number p = p.number

  -- how many of its cases came back as Full, up to the last value of the count
  abbrev pub fulls : PoolPass C → ℕ
  fulls p = p.fulls

  -- the jobs that a pass put, in order
  abbrev pub sent : PoolPass C → List (Job C)
  sent p = own_sent (view p.token).accounts

  -- the jobs that a pass took, in order
  abbrev pub took : PoolPass C → List (Job C)
  took p = own_took (view p.token).accounts

  -- what a pass knows of how many passes there are
  abbrev pub knows : PoolPass C → Option ℕ
  knows p = (view p.token).next

  -- the pass comes from the start of this pool
  abbrev pub IsOf : Pool C → PoolPass C → Type 0
  IsOf q p = (p.token.table_id ≡ q.queue.table.shared.table_id) × (number p < pass_count q) × (knows p ≡ known_count (pass_count q) (number p))

  -- the same pass of the same pool
  abbrev pub IsSamePass : PoolPass C → PoolPass C → Type 0
  IsSamePass p q = (q.token.table_id ≡ p.token.table_id) × (number q ≡ number p) × (knows q ≡ knows p)

  -- The pass as it is, of a pool with n passes whose queue holds these jobs. All takes are one line. What the pass put is what was taken of it, in order, and then what is held of it.
  -- The last pass knows besides that only passes of this pool put and took.
  pub record Sees (n : ℕ) (p : PoolPass C) (held : List (Job C)) : Type 0 where
    pub line : List (Take C)
    pub sent_is : sent p ≡ put_by (number p) (jobs_of line ++ held)
    pub took_is : took p ≡ took_by (number p) line
    pub no_others : number p + 1 ≡ n → (q : ℕ) → n ≤ q → (put_by q (jobs_of line ++ held) ≡ []) × (took_by q line ≡ [])

  -- while the pass was as it is, the queue held n jobs
  abbrev pub HeldJobs : Pool C → PoolPass C → ℕ → Type 0
  HeldJobs q p n = (held : List (Job C)) × (length held ≡ n) × Sees (pass_count q) p held

  -- what a take answers, of the pass before and after it: it took just this job, or none
  abbrev pub IsTake : Pool C → PoolPass C → PoolPass C → Taken C → Type 0
  IsTake q old new (Case case) = (by : ℕ) × (nth : ℕ) × (took new ≡ took old ++ case_job by nth case ∷ [])
  IsTake q old new Stop = (by : ℕ) × (took new ≡ took old ++ stop_job by ∷ [])
  IsTake q old new Nothing = (took new ≡ took old) × HeldJobs q old 0

  -- it holds of each of these passes
  abbrev pub OfEach : (PoolPass C → Type 0) → List (PoolPass C) → Type 0
  OfEach P ps = (k : ℕ) (p : PoolPass C) → slice_get ps k ≡ Some p → P p

  -- a pass as it is at the start, of number n
  pub record IsNew (q : Pool C) (n : ℕ) (p : PoolPass C) : Type 0 where
    pub is_of : IsOf q p
    pub number_is : number p ≡ n
    pub fulls_is : fulls p ≡ 0
    pub sent_is : sent p ≡ []
    pub took_is : took p ≡ []

  -- passes as they are at the start, of number 0, 1, and so on
  abbrev pub AllNew : Pool C → List (PoolPass C) → Type 0
  AllNew q ps = (k : ℕ) (p : PoolPass C) → slice_get ps k ≡ Some p → IsNew q k p

  -- of each number below n there is a pass
  abbrev pub EveryPass : ℕ → List (PoolPass C) → Type 0
  EveryPass n ps = (k : ℕ) → k < n → (i : ℕ) × (p : PoolPass C) × (slice_get ps i ≡ Some p) × (number p ≡ k)

  -- What each of n passes put and took, and what was left at the end, are parts of one line. The line has every job that was put, once, with the pass that took it.
  -- The number n stands for the end itself, at which the jobs that were left are taken.
  pub record AreOneLine (n : ℕ) (ps : List (PoolPass C)) (left : List (Job C)) : Type 0 where
    pub line : List (Take C)
    pub sent_is : OfEach (λ p. sent p ≡ put_by (number p) (jobs_of line)) ps
    pub took_is : OfEach (λ p. took p ≡ took_by (number p) line) ps
    pub left_is : left ≡ took_by n line
    pub named : OfEach (λ p. AreNamed 0 (sent p)) ps
    pub no_other_put : (q : ℕ) → n ≤ q → put_by q (jobs_of line) ≡ []
    pub no_other_took : (q : ℕ) → n < q → took_by q line ≡ []
