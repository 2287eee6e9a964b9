-- Jobs, and lists of them.
use Rattle.std.specs.Prelude.{◌≡◌, ℕ, ◌+◌, ◌==◌, List, [], ◌∷◌, ◌++◌, length, filter, map}
use Rattle.trio_pool.specs.declared.job.Work.{Work}
use Rattle.trio_pool.specs.declared.job.Work.TheVariants.{Case, Stop}
use Rattle.trio_pool.specs.declared.job.Job.{Job}

-- a job that was taken, and the number of the pass that took it
pub record Take (C : Type 0) : Type 0 where
  pub taker : ℕ
  pub job : Job C

module _ {C : Type 0} where
  -- a case with its name: the pass that submitted it, and how many that pass had submitted before
  abbrev pub case_job : ℕ → ℕ → C → Job C
  case_job by nth case = record { by = by; work = Case nth case }

  -- a stop that a pass put
  abbrev pub stop_job : ℕ → Job C
  stop_job by = record { by = by; work = Stop }

  -- the jobs that a pass put
  abbrev pub put_by : ℕ → List (Job C) → List (Job C)
  put_by p jobs = filter (λ j. j.by == p) jobs

  -- the jobs of a list of takes
  abbrev pub jobs_of : List (Take C) → List (Job C)
  jobs_of line = map (λ t. t.job) line

  -- the jobs that a pass took
  abbrev pub took_by : ℕ → List (Take C) → List (Job C)
  took_by p line = jobs_of (filter (λ t. t.taker == p) line)

  -- 1 for a case, 0 for a stop
  abbrev pub is_case : Work C → ℕ
  is_case (Case nth case) = 1
  is_case Stop = 0

  -- how many of these jobs are cases
  abbrev pub case_count : List (Job C) → ℕ
  case_count [] = 0
  case_count (j ∷ js) = is_case j.work + case_count js

  -- n cases, and then a stop
  abbrev pub AreCasesAndStop : ℕ → List (Job C) → Type 0
  AreCasesAndStop n jobs = (cases : List (Job C)) × (by : ℕ) × (length cases ≡ n) × (case_count cases ≡ n) × (jobs ≡ cases ++ stop_job by ∷ [])

  -- a case has this number in its name
  abbrev pub IsNamed : ℕ → Work C → Type 0
  IsNamed n (Case nth case) = nth ≡ n
  IsNamed n Stop = Unit {0}

  -- the cases are named in order, from n on
  abbrev pub AreNamed : ℕ → List (Job C) → Type 0
  AreNamed n [] = Unit {0}
  AreNamed n (j ∷ js) = IsNamed n j.work × AreNamed (n + is_case j.work) js

  -- the case of a job in front of others
  abbrev pub with_case : Work C → List C → List C
  with_case (Case nth case) cases = case ∷ cases
  with_case Stop cases = cases

  -- the cases of a list of jobs, in order
  abbrev pub cases_of : List (Job C) → List C
  cases_of [] = []
  cases_of (j ∷ js) = with_case j.work (cases_of js)
