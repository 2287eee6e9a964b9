-- Numbers one after another.
use Rattle.std.proofs.Common.{ℕ, suc, zero, ◌+◌, ◌<◌, ◌≤◌, inl, inr, arith}
use Rattle.std.proofs.lemmas.Bool.{cases_eq}
use Rattle.trio_lists.specs.Lists.{In}
use Rattle.trio_lists.specs.Counting.{count_up}

pub count_in : (from k n : ℕ) → from ≤ n → n < from + k → In n (count_up from k)
count_in from zero n a b = absurd (omega arith)
count_in from (suc k) n a b =
    elim (cases_eq n from) [
      | inl e ↦ inl e
      | inr d ↦ inr (count_in (suc from) k n (omega arith) (omega arith))
    ]

pub count_from : (from k n : ℕ) → In n (count_up from k) → (from ≤ n) × (n < from + k)
count_from from zero n i = absurd i
count_from from (suc k) n (inl e) = (let a : from ≤ n = omega (arith, e) in let b : n < from + suc k = omega (arith, e) in (a, b))
count_from from (suc k) n (inr i) =
    let r = count_from (suc from) k n i in
    let r0 : suc from ≤ n = r.0 in
    let r1 : n < suc from + k = r.1 in
    let a : from ≤ n = omega (arith, r0) in
    let b : n < from + suc k = omega (arith, r1) in (a, b)
