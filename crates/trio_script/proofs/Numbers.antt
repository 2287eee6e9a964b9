-- Numbers of a list, one after another.
use Rattle.trio_script.proofs.Words.{◌&&◌, ◌++◌, ◌+◌, ◌<◌, ◌==◌, ◌≡◌, Bool, List, None, Option, Some, [], add-one, are_new, drop, drop-cons, false, get_or, length, list_any, not, refl, sym, take, true, ℕ}
use Rattle.std.proofs.lemmas.List.{take_more}

-- numbers behind others, if there are such
abbrev pub behind : List ℕ → Option (List ℕ) → Option (List ℕ)
behind done (Some more) = Some (done ++ more)
behind done None = None

-- whether a number was there, by whether it was added
pub known : (added answer has was : Bool) → added ≡ not has → has ≡ was → added ≡ not answer → was ≡ answer
known true true has was p q e = absurd cc
known false false has was p q e = absurd cc
known true false true was p q e = absurd cc
known true false false was p q e = sym q
known false true true was p q e = sym q
known false true false was p q e = absurd cc

module _ (xs : List ℕ) (i : ℕ) (within : i < length xs) (start : are_new (take i xs) (drop i xs) ≡ are_new [] xs) where
  step : are_new (take i xs) (drop i xs) ≡ (not (list_any (λ m. get_or xs i 0 == m) (take i xs)) && are_new (take (i + 1) xs) (drop (i + 1) xs))
  step = rw (drop-cons xs i 0 within, take_more xs i 0 within, add-one i) refl

  pub repeated : list_any (λ m. get_or xs i 0 == m) (take i xs) ≡ true → false ≡ are_new [] xs
  repeated e = rw (step, e) at start

  pub not_repeated : list_any (λ m. get_or xs i 0 == m) (take i xs) ≡ false → are_new (take (i + 1) xs) (drop (i + 1) xs) ≡ are_new [] xs
  not_repeated e = rw (step, e) at start
