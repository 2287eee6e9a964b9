-- What the line of a closed pool says, in other words.
use Rattle.std.specs.Prelude.{◌≡◌, ◌⊎◌, ℕ, zero, suc, ◌+◌, ◌<◌, ◌≤◌, List, [], ◌∷◌, Some, slice_get}
use Rattle.trio_pool.specs.declared.job.Job.{Job}
use Rattle.trio_pool.specs.Jobs.{Take, case_job, put_by, jobs_of, took_by, AreNamed, cases_of}
use Rattle.trio_pool.specs.Rule.{total}

-- a list without some of its elements, the others in their order
abbrev pub IsPart : {A : Type 0} → List A → List A → Type 0
IsPart [] ys = Unit {0}
IsPart (x ∷ xs) [] = ⊥
IsPart (x ∷ xs) (y ∷ ys) = ((x ≡ y) × IsPart xs ys) ⊎ IsPart (x ∷ xs) ys

-- the numbers that f gives of 0 to n, added up
abbrev pub sum_to : ℕ → (ℕ → ℕ) → ℕ
sum_to zero f = f 0
sum_to (suc n) f = f (suc n) + sum_to n f

-- each pass took the jobs of any one pass in the order in which they were put
abbrev pub InOrder : Type 0 → Type 0
InOrder C = (line : List (Take C)) (p q : ℕ) → IsPart (put_by p (took_by q line)) (put_by p (jobs_of line))

-- However jobs are weighed: what all passes took, and what was left at the end, weighs what all passes put. So each job was taken, or left, as often as it was put.
abbrev pub EachOnce : Type 0 → Type 0
EachOnce C = (n : ℕ) (line : List (Take C)) → ((q : ℕ) → n < q → took_by q line ≡ []) → ((p : ℕ) → n ≤ p → put_by p (jobs_of line) ≡ [])
    → (f : Job C → ℕ) → sum_to n (λ q. total f (took_by q line)) ≡ sum_to n (λ p. total f (put_by p (jobs_of line)))

-- Where the cases of a pass are named in order, a case of it that was taken, or left, is the one that it submitted under that name: the name's number is its place, from 0 on.
abbrev pub ByName : Type 0 → Type 0
ByName C = (line : List (Take C)) (p : ℕ) → AreNamed 0 (put_by p (jobs_of line)) → (q k nth : ℕ) (case : C) → slice_get (took_by q line) k ≡ Some (case_job p nth case)
    → slice_get (cases_of (put_by p (jobs_of line))) nth ≡ Some case
