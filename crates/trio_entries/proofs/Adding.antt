-- Lists that grow by what each element tells.
use Rattle.trio_entries.proofs.Words.{◌++◌, ◌+◌, ◌<◌, ◌∙◌, ◌∷◌, ◌≡◌, In, List, Option, [], ap, append_assoc, arith, cons_option, filter_map, get_or, inl, inr, length, map, refl, suc, sym, take, take_more, zero, ℕ}
use Rattle.std.proofs.lemmas.List.Elements.{filter_map-append}

pub get-In : {X : Type 0} (xs : List X) (i : ℕ) (d : X) → i < length xs → In (get_or xs i d) xs
get-In [] i d within = absurd (omega (arith, within))
get-In (x ∷ xs) zero d within = inl refl
get-In (x ∷ xs) (suc i) d within = inr (get-In xs i d (omega (arith, within)))

pub filter_map-map : {X Y Z : Type 0} (f : Y → Option Z) (g : X → Y) (xs : List X) → filter_map (λ x. f (g x)) xs ≡ filter_map f (map g xs)
filter_map-map f g [] = refl
filter_map-map f g (x ∷ xs) = ap (cons_option (f (g x))) (filter_map-map f g xs)

-- one element more
pub added : {X Z : Type 0} (f : X → Option Z) (xs : List X) (i : ℕ) (x : X) (old now new : List Z) (o : Option Z) → i < length xs → x ≡ get_or xs i x → now ≡ old ++ filter_map f (take i xs) → o ≡ f x → new ≡ now ++ cons_option o [] → new ≡ old ++ filter_map f (take (i + 1) xs)
added f xs i x old now new o within is before tells grown =
    let last : filter_map f (take (i + 1) xs) ≡ filter_map f (take i xs) ++ cons_option (f x) [] =
    ap (filter_map f) (take_more xs i x within ∙ ap (λ y. take i xs ++ y ∷ []) (sym is)) ∙ filter_map-append f (take i xs) (x ∷ []) in
    grown ∙ ap (λ l. l ++ cons_option o []) before ∙ ap (λ p. (old ++ filter_map f (take i xs)) ++ cons_option p []) tells
    ∙ append_assoc old (filter_map f (take i xs)) (cons_option (f x) []) ∙ ap (λ l. old ++ l) (sym last)

-- what two lists tell, one after the other
pub both_told : {X Z : Type 0} (f : X → Option Z) (xs ys : List X) (start now new : List Z) → start ≡ [] → now ≡ start ++ filter_map f xs → new ≡ now ++ filter_map f ys → new ≡ filter_map f (xs ++ ys)
both_told f xs ys start now new none first last =
    last ∙ ap (λ l. l ++ filter_map f ys) (first ∙ ap (λ l. l ++ filter_map f xs) none) ∙ sym (filter_map-append f xs ys)
