-- Numbers in rising order.
use Rattle.trio_ctl.proofs.Words.{if◌then◌else◌, ◌-◌, ◌<◌, ◌∷◌, AreRising, Bool, In, List, [], arith, count_from, count_up, false, filter, filter-In, suc, take, true, zero, ℕ}
use Rattle.trio_tables.specs.Free.{numbers_where}
use Rattle.trio_ctl.proofs.DeskFresh.{take-In}

AreRising-count_up : (from k : ℕ) → AreRising (count_up from k)
AreRising-count_up from zero = tt
AreRising-count_up from (suc k) = (λ n i. (let above = (count_from (suc from) k n i).0 in omega (arith, above)), AreRising-count_up (suc from) k)

AreRising-if : (t : Bool) (n : ℕ) (ns : List ℕ) → ((m : ℕ) → In m ns → n < m) → AreRising ns → AreRising (if t then n ∷ ns else ns)
AreRising-if true n ns above r = (above, r)
AreRising-if false n ns above r = r

AreRising-filter : (p : ℕ → Bool) (ns : List ℕ) → AreRising ns → AreRising (filter p ns)
AreRising-filter p [] r = tt
AreRising-filter p (n ∷ ns) r = AreRising-if (p n) n (filter p ns) (λ m i. r.0 m (filter-In p m ns i).0) (AreRising-filter p ns r.1)

AreRising-take : (k : ℕ) (ns : List ℕ) → AreRising ns → AreRising (take k ns)
AreRising-take zero ns r = tt
AreRising-take (suc k) [] r = tt
AreRising-take (suc k) (n ∷ ns) r = (λ m i. r.0 m (take-In k ns m i), AreRising-take k ns r.1)

-- the lowest of the numbers that pass a test
pub AreRising-numbers_where : (count : ℕ) (test : ℕ → Bool) (from end : ℕ) → AreRising (take count (numbers_where test from end))
AreRising-numbers_where count test from end =
    AreRising-take count (numbers_where test from end) (AreRising-filter test (count_up from (end - from)) (AreRising-count_up from (end - from)))
