-- Lines whose words are too few or too many.
use Rattle.trio_script.proofs.Words.{◌<◌, ◌∷◌, ◌≡◌, List, None, [], arith, length, map, refl, ℕ}
use Rattle.trio_script.specs.Said.{peek_in, poke_in}

pub poke_too_few : {A : Type 0} (f : A → List ℕ) (ws : List A) → length ws < 4 → poke_in (map f ws) ≡ None
poke_too_few f [] few = refl
poke_too_few f (a ∷ []) few = refl
poke_too_few f (a ∷ b ∷ []) few = refl
poke_too_few f (a ∷ b ∷ c ∷ []) few = refl
poke_too_few f (a ∷ b ∷ c ∷ d ∷ ws) few = absurd (omega arith)

pub poke_too_many : {A : Type 0} (f : A → List ℕ) (ws : List A) → 5 < length ws → poke_in (map f ws) ≡ None
poke_too_many f [] many = absurd (omega arith)
poke_too_many f (a ∷ []) many = absurd (omega arith)
poke_too_many f (a ∷ b ∷ []) many = absurd (omega arith)
poke_too_many f (a ∷ b ∷ c ∷ []) many = absurd (omega arith)
poke_too_many f (a ∷ b ∷ c ∷ d ∷ []) many = absurd (omega arith)
poke_too_many f (a ∷ b ∷ c ∷ d ∷ e ∷ []) many = absurd (omega arith)
poke_too_many f (a ∷ b ∷ c ∷ d ∷ e ∷ g ∷ ws) many = refl

pub peek_too_few : {A : Type 0} (f : A → List ℕ) (ws : List A) → length ws < 4 → peek_in (map f ws) ≡ None
peek_too_few f [] few = refl
peek_too_few f (a ∷ []) few = refl
peek_too_few f (a ∷ b ∷ []) few = refl
peek_too_few f (a ∷ b ∷ c ∷ []) few = refl
peek_too_few f (a ∷ b ∷ c ∷ d ∷ ws) few = absurd (omega arith)

pub peek_too_many : {A : Type 0} (f : A → List ℕ) (ws : List A) → 5 < length ws → peek_in (map f ws) ≡ None
peek_too_many f [] many = absurd (omega arith)
peek_too_many f (a ∷ []) many = absurd (omega arith)
peek_too_many f (a ∷ b ∷ []) many = absurd (omega arith)
peek_too_many f (a ∷ b ∷ c ∷ []) many = absurd (omega arith)
peek_too_many f (a ∷ b ∷ c ∷ d ∷ []) many = absurd (omega arith)
peek_too_many f (a ∷ b ∷ c ∷ d ∷ e ∷ []) many = absurd (omega arith)
peek_too_many f (a ∷ b ∷ c ∷ d ∷ e ∷ g ∷ ws) many = refl
