-- The parts of a note as they are read.
use Rattle.trio_image.proofs.Words.{◌++◌, ◌+◌, ◌∙◌, ◌∷◌, ◌≡◌, Bool, Core, List, Row, [], ap, arith, body_at, body_of_row, name_by_row, note_by_row, refl, suc, sym, tabulated, ℕ}
use Rattle.std.specs.Int.{w64}
use Rattle.trio_layout.specs.Body.{guard_in}
use Rattle.trio_page.specs.Field.{number_at}

-- no bytes say no size
pub size-nothing : 0 ≡ number_at w64 16 []
unfolding number_at
size-nothing = refl

-- a note by its parts
pub note-parts : (core : Core) (n : ℕ) (r : Row) (name : List ℕ) (size : ℕ) (guarded : Bool) → name ≡ name_by_row core r → size ≡ (body_at (body_of_row core n r)).size → guarded ≡ guard_in (body_of_row core n r)
    → record { name = name; size = size; guard = guarded } ≡ note_by_row core n r
note-parts core n r name size guarded a b g = rw (a, b, g) refl

-- one number more
pub tabulated-pushed : {X : Type 0} (f : ℕ → X) (n : ℕ) (x : X) (xs : List X) → xs ≡ tabulated f n → x ≡ f n → xs ++ x ∷ [] ≡ tabulated f (n + 1)
tabulated-pushed f n x xs is e =
    let s : n + 1 ≡ suc n = omega arith in
    ap (λ l. l ++ x ∷ []) is ∙ ap (λ y. tabulated f n ++ y ∷ []) e ∙ ap (tabulated f) (sym s)
