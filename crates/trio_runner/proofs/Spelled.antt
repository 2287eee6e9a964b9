-- A path, name by name.
use Rattle.trio_runner.proofs.Words.{◌++◌, ◌+◌, ◌<◌, ◌∙◌, ◌∷◌, ◌≡◌, AllByRecursion, List, Ok, Result, [], ap, append-nil, append_assoc, arith, get_or, length, parts_bytes, refl, subst, suc, sym, take, take-suc, ℕ}
use Rattle.std.specs.Prelude.{MatchResult}
use Rattle.trio_names.specs.Name.{IsName}
use Rattle.trio_names.specs.Path.{IsPath, path_bytes}

-- ---- a path

parts_append : (xs ys : List (List ℕ)) → parts_bytes (xs ++ ys) ≡ parts_bytes xs ++ parts_bytes ys
parts_append [] ys = refl
parts_append (x ∷ xs) ys = ap (λ l. 47 ∷ (x ++ l)) (parts_append xs ys) ∙ ap (λ l. 47 ∷ l) (sym (append_assoc x (parts_bytes xs) (parts_bytes ys)))

-- one name more
pub parts_more : (names : List (List ℕ)) (i : ℕ) (name before slash after : List ℕ) → i < length names → name ≡ get_or names i name → before ≡ parts_bytes (take i names) → slash ≡ before ++ 47 ∷ [] → after ≡ slash ++ name → after ≡ parts_bytes (take (i + 1) names)
parts_more names i name before slash after lt is so one two =
    let n : i + 1 ≡ suc i = omega arith in
    two ∙ ap (λ l. l ++ name) (one ∙ ap (λ l. l ++ 47 ∷ []) so) ∙ append_assoc (parts_bytes (take i names)) (47 ∷ []) name
    ∙ ap (λ l. parts_bytes (take i names) ++ 47 ∷ l) (sym (append-nil name)) ∙ sym (parts_append (take i names) (name ∷ []))
    ∙ ap (λ x. parts_bytes (take i names ++ x ∷ [])) is ∙ sym (ap parts_bytes (ap (λ m. take m names) n ∙ take-suc names i name lt))

-- a path with a name has its parts
pub parts_are : (names : List (List ℕ)) → (length names ≡ 0 → ⊥) → parts_bytes names ≡ path_bytes names
parts_are [] some = absurd (some refl)
parts_are (name ∷ names) some = refl

pub no_parts : (names : List (List ℕ)) → length names ≡ 0 → path_bytes names ≡ 47 ∷ []
no_parts [] none = refl
no_parts (name ∷ names) none = absurd (omega (arith, none))

-- what is read of a path's bytes is the path
pub read_same : {E : Type 0} (r : Result (List (List ℕ)) E) (copy names : List (List ℕ)) (bytes : List ℕ) (Wanting : E → Type 0) → r ≡ Ok copy → bytes ≡ path_bytes names → AllByRecursion IsName names
    → ((ns : List (List ℕ)) → IsPath bytes ns → MatchResult r (λ p. p ≡ ns) Wanting) → copy ≡ names
read_same {E} r copy names bytes Wanting is spelled each only =
    let P : Result (List (List ℕ)) E → Type 0 = λ x. MatchResult x (λ p. p ≡ names) Wanting in
    subst P is (only names (record { spelled = spelled; each = each }))
