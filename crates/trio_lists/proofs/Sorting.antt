-- A list in rising order has the same members, and distinct keys.
use Rattle.std.proofs.Common.{Bool, List, [], cond, false, inl, inr, leb, not, refl, subst, sym, true, ℕ, ◌++◌, ◌∷◌, ◌≡◌, ◌⊎◌}
use Rattle.std.proofs.lemmas.Bool.{and_from, and_parts, false_from_ne_true, not_from_false}
use Rattle.std.specs.Prelude.{map}
use Rattle.trio_lists.specs.Lists.{In, are_new, is_among}
use Rattle.trio_lists.specs.Sorting.{inserted_by, sorted_by}
use Rattle.trio_lists.proofs.Members.{is_among-In, In-cases, In-map, map-In}
use Rattle.trio_lists.proofs.New.{are_new-before}
use Rattle.trio_lists.proofs.New.{are_new-joined}
use Rattle.trio_lists.proofs.Gathered.{new_tail}

cond_in : {X : Type 0} (b : Bool) (x y z : X) (zs ws : List X) → (In x ws → (x ≡ y) ⊎ In x zs) → In x (cond b (y ∷ (z ∷ zs)) (z ∷ ws)) → (x ≡ y) ⊎ In x (z ∷ zs)
cond_in true x y z zs ws h i = i
cond_in false x y z zs ws h (inl e) = inr (inl e)
cond_in false x y z zs ws h (inr i) = elim (h i) [ inl e ↦ inl e | inr j ↦ inr (inr j) ]

in_cond : {X : Type 0} (b : Bool) (x y z : X) (zs ws : List X) → ((x ≡ y) ⊎ In x zs → In x ws) → (x ≡ y) ⊎ In x (z ∷ zs) → In x (cond b (y ∷ (z ∷ zs)) (z ∷ ws))
in_cond true x y z zs ws h i = i
in_cond false x y z zs ws h (inl e) = inr (h (inl e))
in_cond false x y z zs ws h (inr (inl e)) = inl e
in_cond false x y z zs ws h (inr (inr i)) = inr (h (inr i))

with_from : {X : Type 0} (key : X → ℕ) (x w : X) (ws : List X) → In x (inserted_by key w ws) → (x ≡ w) ⊎ In x ws
with_from key x w [] i = i
with_from key x w (z ∷ zs) i = cond_in (leb (key w) (key z)) x w z zs (inserted_by key w zs) (with_from key x w zs) i

with_to : {X : Type 0} (key : X → ℕ) (x w : X) (ws : List X) → (x ≡ w) ⊎ In x ws → In x (inserted_by key w ws)
with_to key x w [] i = i
with_to key x w (z ∷ zs) i = in_cond (leb (key w) (key z)) x w z zs (inserted_by key w zs) (with_to key x w zs) i

pub sorted_in : {X : Type 0} (key : X → ℕ) (x : X) (ws : List X) → In x (sorted_by key ws) → In x ws
sorted_in key x [] i = i
sorted_in key x (w ∷ ws) i = elim (with_from key x w (sorted_by key ws) i) [ inl e ↦ inl e | inr j ↦ inr (sorted_in key x ws j) ]

pub in_sorted : {X : Type 0} (key : X → ℕ) (x : X) (ws : List X) → In x ws → In x (sorted_by key ws)
in_sorted key x [] i = i
in_sorted key x (w ∷ ws) (inl e) = with_to key x w (sorted_by key ws) (inl e)
in_sorted key x (w ∷ ws) (inr i) = with_to key x w (sorted_by key ws) (inr (in_sorted key x ws i))

with_step : {X : Type 0} (key : X → ℕ) (b : Bool) (seen : List ℕ) (w z : X) (zs : List X) → are_new seen (key w ∷ (key z ∷ map key zs)) ≡ true → are_new seen (key z ∷ map key (inserted_by key w zs)) ≡ true → are_new seen (map key (cond b (w ∷ (z ∷ zs)) (z ∷ inserted_by key w zs))) ≡ true
with_step key true seen w z zs p q = p
with_step key false seen w z zs p q = q

with_new : {X : Type 0} (key : X → ℕ) (seen : List ℕ) (w : X) (ws : List X) → are_new seen (map key ws) ≡ true → (In (key w) seen → ⊥) → (In (key w) (map key ws) → ⊥) → are_new seen (map key (inserted_by key w ws)) ≡ true
with_new key seen w [] new out none =
    and_from (not (is_among (key w) seen)) true (not_from_false (is_among (key w) seen) (false_from_ne_true (is_among (key w) seen) (λ t. out (is_among-In (key w) seen t)))) refl
with_new key seen w (z ∷ zs) new out none =
    let parts = and_parts (not (is_among (key z) seen)) (are_new (seen ++ key z ∷ []) (map key zs)) new in
    let head : not (is_among (key w) seen) ≡ true = not_from_false (is_among (key w) seen) (false_from_ne_true (is_among (key w) seen) (λ t. out (is_among-In (key w) seen t))) in
    with_step key (leb (key w) (key z)) seen w z zs
    (and_from (not (is_among (key w) seen)) (are_new (seen ++ key w ∷ []) (key z ∷ map key zs)) head
    (are_new-joined seen (key w ∷ []) (seen ++ key w ∷ []) (key z ∷ map key zs) (λ n i. In-cases n seen (key w ∷ []) i) new
    (λ p i k. elim k [ inl e ↦ none (subst (λ n. In n (key z ∷ map key zs)) e i) | inr no' ↦ no' ])))
    (and_from (not (is_among (key z) seen)) (are_new (seen ++ key z ∷ []) (map key (inserted_by key w zs))) parts.0
    (with_new key (seen ++ key z ∷ []) w zs parts.1
    (λ i. elim (In-cases (key w) seen (key z ∷ []) i) [ inl k ↦ out k | inr k ↦ elim k [ inl e ↦ none (inl e) | inr no' ↦ no' ] ])
    (λ i. none (inr i))))

-- distinct keys are so in any order
pub sorted_new : {X : Type 0} (key : X → ℕ) (ws : List X) → are_new [] (map key ws) ≡ true → are_new [] (map key (sorted_by key ws)) ≡ true
sorted_new key [] h = refl
sorted_new key (w ∷ ws) h =
    let t = new_tail (key w) (map key ws) h in
    with_new key [] w (sorted_by key ws) (sorted_new key ws t.1) (λ i. i)
    (λ i.
    let q = map-In key (key w) (sorted_by key ws) i in
    let k : In (key w) (map key ws) = subst (λ n. In n (map key ws)) (sym q.2) (In-map key q.0 ws (sorted_in key q.0 ws q.1)) in
    are_new-before (key w) (key w ∷ []) (map key ws) t.0 k (inl refl))
