-- Some of a directory's names, from a position on.
use Rattle.trio_calls_dir.proofs.Words.{◌+◌, ◌-◌, ◌∙◌, ◌≡◌, List, [], ap, arith, drop, inl, inr, length, min, refl, suc, sym, take, zero, ℕ}
use Rattle.std.proofs.lemmas.Bool.{cases_lt}
use Rattle.std.proofs.lemmas.List.{length-drop, take_min}
use Rattle.std.proofs.Math.ListN.{drop_of_length-le}

take-none : {X : Type 0} (n : ℕ) → take {A = X} n [] ≡ []
take-none zero = refl
take-none (suc n) = refl

-- at most 64 from a position on, which may lie behind them all
pub names_from : {X : Type 0} (xs : List X) (from first last : ℕ) → first ≡ min from (length xs) → last ≡ min (length xs) (first + 64) → take (last - first) (drop first xs) ≡ take 64 (drop from xs)
names_from xs from first last f l =
    elim (cases_lt (length xs) from) [
      | inr le ↦
          let here : first ≡ from = omega (arith, f, le) in
          let n : last - first ≡ min 64 (length (drop from xs)) = omega (arith, f, l, le, length-drop from xs) in
          ap (λ k. take k (drop first xs)) n ∙ ap (λ k. take (min 64 (length (drop from xs))) (drop k xs)) here ∙ take_min 64 (drop from xs)
      | inl gt ↦
          let none : drop from xs ≡ [] = drop_of_length-le xs (omega arith) in
          let none' : drop first xs ≡ [] = drop_of_length-le xs (omega (arith, f, gt)) in
          ap (take (last - first)) none' ∙ take-none (last - first) ∙ sym (ap (take 64) none ∙ take-none 64)
    ]
