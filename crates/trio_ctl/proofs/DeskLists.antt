-- Filters of lists, and what is seen of what they keep.
use Rattle.trio_ctl.proofs.Words.{◌&&◌, ◌==◌, ◌||◌, ◌∙◌, ◌∷◌, ◌≡◌, Bool, List, [], ap, cases_Bool, false, filter, find, inl, inr, is_among, is_some, map, refl, sym, true, ℕ}

pub and-false : (x : Bool) → (x && false) ≡ false
and-false true = refl
and-false false = refl

pub and-true : (x : Bool) → (x && true) ≡ x
and-true true = refl
and-true false = refl

pub or-false : (x : Bool) → (x || false) ≡ x
or-false true = refl
or-false false = refl

-- what two tests keep of a list, and then what is seen of it, where the second is a test of what is seen
pub filter-seen : {X Y : Type 0} (mine kept : X → Bool) (v : X → Y) (stays : Y → Bool) → ((x : X) → mine x ≡ true → kept x ≡ stays (v x)) → (xs : List X)
    → map v (filter mine (filter kept xs)) ≡ filter stays (map v (filter mine xs))
filter-seen mine kept v stays h [] = refl
filter-seen mine kept v stays h (x ∷ xs) =
    let ih = filter-seen mine kept v stays h xs in
    elim (cases_Bool (mine x)) [
      | inl m ↦
          elim (cases_Bool (kept x)) [
            | inl k ↦ (let s : stays (v x) ≡ true = sym (h x m) ∙ k in rw (k, m, s) (ap (λ l. v x ∷ l) ih))
            | inr k ↦ (let s : stays (v x) ≡ false = sym (h x m) ∙ k in rw (k, m, s) ih)
          ]
      | inr m ↦
          elim (cases_Bool (kept x)) [
            | inl k ↦ rw (k, m) ih
            | inr k ↦ rw (k, m) ih
          ]
    ]

-- what is seen of a list through another view
pub filter-through : {X Y : Type 0} (mine : X → Bool) (v : X → Y) (part : X → X) → ((x : X) → mine (part x) ≡ mine x) → ((x : X) → v (part x) ≡ v x) → (xs : List X)
    → map v (filter mine (map part xs)) ≡ map v (filter mine xs)
filter-through mine v part m e [] = refl
filter-through mine v part m e (x ∷ xs) =
    let ih = filter-through mine v part m e xs in
    elim (cases_Bool (mine x)) [
      | inl t ↦ (let s : mine (part x) ≡ true = m x ∙ t in rw (t, s) (rw (e x) (ap (λ l. v x ∷ l) ih)))
      | inr f ↦ (let s : mine (part x) ≡ false = m x ∙ f in rw (f, s) ih)
    ]

-- two tests at once are one test of what the other keeps, through a view
pub filter-both : {X Y : Type 0} (p q : X → Bool) (part : X → X) (v : X → Y) → ((x : X) → q (part x) ≡ q x) → ((x : X) → v (part x) ≡ v x) → (xs : List X)
    → map v (filter (λ x. p x && q x) xs) ≡ map v (filter q (map part (filter p xs)))
filter-both p q part v same e [] = refl
filter-both p q part v same e (x ∷ xs) =
    let ih = filter-both p q part v same e xs in
    elim (cases_Bool (p x)) [
      | inl a ↦
          elim (cases_Bool (q x)) [
            | inl b ↦ (let s : q (part x) ≡ true = same x ∙ b in rw (a, b, s) (rw (e x) (ap (λ l. v x ∷ l) ih)))
            | inr b ↦ (let s : q (part x) ≡ false = same x ∙ b in rw (a, b, s) ih)
          ]
      | inr a ↦ rw a ih
    ]

-- one of a number is found exactly where its number is among theirs
pub found-among : {X : Type 0} (number : X → ℕ) (xs : List X) (n : ℕ) → is_some (find (λ x. number x == n) xs) ≡ is_among n (map number xs)
found-among number [] n = refl
found-among number (x ∷ xs) n =
    elim (cases_Bool (number x == n)) [
      | inl t ↦ rw t refl
      | inr f ↦ rw f (found-among number xs n)
    ]
