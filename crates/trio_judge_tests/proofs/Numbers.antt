-- The numbers of a list, one after another.
use Rattle.trio_judge_tests.proofs.Words.{◌++◌, ◌+◌, ◌∙◌, ◌∷◌, ◌≡◌, List, Some, [], ap, get_or, get_or_from_slice_get, map, slice_get, slice_get_within, sym, take, ℕ}
use Rattle.std.proofs.Common.{append_assoc}
use Rattle.std.proofs.lemmas.List.{map-append, take_more}

-- one more of them
pub one_more : {X : Type 0} (f : X → ℕ) (xs : List X) (i : ℕ) (x : X) (old now new : List ℕ) (n : ℕ) → slice_get xs i ≡ Some x → f x ≡ n → new ≡ now ++ n ∷ [] → now ≡ old ++ map f (take i xs) → new ≡ old ++ map f (take (i + 1) xs)
one_more f xs i x old now new n at is more was =
    let front : map f (take (i + 1) xs) ≡ map f (take i xs) ++ f x ∷ [] =
    ap (map f) (take_more xs i x (slice_get_within xs i x at)) ∙ map-append f (take i xs) (get_or xs i x ∷ [])
    ∙ ap (λ y. map f (take i xs) ++ f y ∷ []) (get_or_from_slice_get xs i x x at) in
    more ∙ ap (λ m. now ++ m ∷ []) (sym is) ∙ ap (λ ns. ns ++ f x ∷ []) was ∙ append_assoc old (map f (take i xs)) (f x ∷ []) ∙ ap (λ ns. old ++ ns) (sym front)
