-- A walk that has met the root and passed nothing.
use Rattle.trio_survey.proofs.Words.{◌+◌, ◌<◌, ◌∙◌, ◌∷◌, ◌≡◌, ◌≤◌, AreMarked, Core, None, Pick, Stands, [], and_from, arith, false, get_or, length, length-replicate, length-set, ltb, nat_tests, refl, replicate, root_of, set, suc, true, zero, ℕ}
use Rattle.std.specs.List.{count_by}
use Rattle.trio_survey.proofs.Adding.{AreMarked-add}

no_mark : (n k : ℕ) → get_or (replicate n false) k false ≡ false
no_mark zero k = refl
no_mark (suc n) zero = refl
no_mark (suc n) (suc k) = no_mark n k

no_count : (n : ℕ) → count_by (λ b. b) (replicate n false) ≡ 0
no_count zero = refl
no_count (suc n) = no_count n

pub stands_first : (core : Core) (pick : Pick) → 1 ≤ core.inodes → Stands core pick 0 (root_of core ∷ []) (set (replicate (core.inodes + 1) false) 1 true) (replicate core.range.end false) None
stands_first core pick some =
    let count : ℕ = core.inodes + 1 in
    let inside : 1 < length (replicate count false) = omega (arith, some, length-replicate count false) in
    let none : AreMarked [] (replicate count false) = record { marked = λ k h. no_mark count k; counted = no_count count } in
    let below : ltb 1 count ≡ true = grind (arith, nat_tests) in
    record {
      inside = omega arith;
      queued = refl;
      good = refl;
      marked = AreMarked-add [] (replicate count false) (root_of core) inside (no_mark count 1) none;
      same = λ n. refl;
      pages = λ k h. no_mark core.range.end k;
      once = refl;
      fit = and_from (ltb 1 count) true below refl;
      some = refl;
      many_marks = length-set (replicate count false) 1 true ∙ length-replicate count false;
      many_used = length-replicate core.range.end false;
    }
