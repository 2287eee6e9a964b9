-- Numbers that are new.
use Rattle.std.proofs.Common.{◌≡◌, ℕ, true, false, not, List, [], ◌∷◌, ◌++◌, refl, subst, inl, inr, ◌⊎◌, zero, suc, take}
use Rattle.std.proofs.lemmas.Bool.{and_parts, and_from, not-true, not_from_false, false_from_ne_true, both_ways}
use Rattle.trio_lists.specs.Lists.{In, is_among, are_new}
use Rattle.trio_lists.proofs.Members.{In-left, In-right, In-cases, is_among-In, In-is_among}

-- a number that is new stands nowhere before
pub are_new-before : (p : ℕ) (seen xs : List ℕ) → are_new seen xs ≡ true → In p xs → In p seen → ⊥
are_new-before p seen [] h i k = i
are_new-before p seen (x ∷ xs) h i k =
    let parts = and_parts (not (is_among x seen)) (are_new (seen ++ x ∷ []) xs) h in
    elim i [
      | inl e ↦ both_ways (is_among x seen) (not-true (is_among x seen) parts.0) (In-is_among x seen (subst (λ n. In n seen) e k))
      | inr later ↦ are_new-before p (seen ++ x ∷ []) xs parts.1 later (In-left p seen (x ∷ []) k)
    ]

pub are_new-fewer : (less more xs : List ℕ) → ((n : ℕ) → In n less → In n more) → are_new more xs ≡ true → are_new less xs ≡ true
are_new-fewer less more [] w h = refl
are_new-fewer less more (x ∷ xs) w h =
    let parts = and_parts (not (is_among x more)) (are_new (more ++ x ∷ []) xs) h in
    let no' : is_among x less ≡ false = false_from_ne_true (is_among x less) (λ e. both_ways (is_among x more) (not-true (is_among x more) parts.0) (In-is_among x more (w x (is_among-In x less e)))) in
    and_from (not (is_among x less)) (are_new (less ++ x ∷ []) xs) (not_from_false (is_among x less) no')
    (are_new-fewer (less ++ x ∷ []) (more ++ x ∷ []) xs
    (λ n i. elim (In-cases n less (x ∷ []) i) [ inl a ↦ In-left n more (x ∷ []) (w n a) | inr b ↦ In-right n more (x ∷ []) b ])
    parts.1)

pub is_among-not : (n : ℕ) (xs : List ℕ) → (In n xs → ⊥) → is_among n xs ≡ false
is_among-not n xs h = false_from_ne_true (is_among n xs) (λ e. h (is_among-In n xs e))

-- the first stands not among the others, and those stand once
pub are_new-first : (n : ℕ) (xs : List ℕ) → are_new [] (n ∷ xs) ≡ true → (In n xs → ⊥) × (are_new [] xs ≡ true)
are_new-first n xs h = ((λ i. are_new-before n (n ∷ []) xs h i (inl refl)), are_new-fewer [] (n ∷ []) xs (λ m i. absurd i) h)

-- what is new to one list, and in none of another, is new to both
pub are_new-joined : (a b c xs : List ℕ) → ((n : ℕ) → In n c → In n a ⊎ In n b) → are_new a xs ≡ true → ((p : ℕ) → In p xs → In p b → ⊥) → are_new c xs ≡ true
are_new-joined a b c [] sub new apart = refl
are_new-joined a b c (x ∷ xs) sub new apart =
    let parts = and_parts (not (is_among x a)) (are_new (a ++ x ∷ []) xs) new in
    let out : is_among x c ≡ false =
    false_from_ne_true (is_among x c)
    (λ t. elim (sub x (is_among-In x c t)) [
      | inl i ↦ both_ways (is_among x a) (not-true (is_among x a) parts.0) (In-is_among x a i)
      | inr j ↦ apart x (inl refl) j
    ]) in
    and_from (not (is_among x c)) (are_new (c ++ x ∷ []) xs) (not_from_false (is_among x c) out)
    (are_new-joined (a ++ x ∷ []) b (c ++ x ∷ []) xs
    (λ n i. elim (In-cases n c (x ∷ []) i) [
      | inl k ↦ elim (sub n k) [ inl p ↦ inl (In-left n a (x ∷ []) p) | inr q ↦ inr q ]
      | inr k ↦ inl (In-right n a (x ∷ []) k)
    ])
    parts.1 (λ p i j. apart p (inr i) j))

-- numbers are new beside more that they are apart from
pub are_new-beside : (more seen xs : List ℕ) → are_new seen xs ≡ true → ((x : ℕ) → In x xs → In x more → ⊥) → are_new (more ++ seen) xs ≡ true
are_new-beside more seen xs h apart =
    are_new-joined seen more (more ++ seen) xs
    (λ n i. elim (In-cases n more seen i) [ inl k ↦ inr k | inr k ↦ inl k ]) h apart

pub are_new-take : (n : ℕ) (seen xs : List ℕ) → are_new seen xs ≡ true → are_new seen (take n xs) ≡ true
are_new-take zero seen xs h = refl
are_new-take (suc n) seen [] h = refl
are_new-take (suc n) seen (x ∷ xs) h =
    let p = and_parts (not (is_among x seen)) (are_new (seen ++ x ∷ []) xs) h in
    and_from (not (is_among x seen)) (are_new (seen ++ x ∷ []) (take n xs)) p.0 (are_new-take n (seen ++ x ∷ []) xs p.1)
