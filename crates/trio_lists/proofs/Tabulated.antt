-- Lists of what a function gives of each number.
use Rattle.std.proofs.Common.{◌≡◌, ℕ, suc, zero, ◌<◌, ◌≤◌, [], ◌∷◌, ◌++◌, length, get_or, sym, refl, ap, ◌∙◌, inl, inr, arith, length-append}
use Rattle.std.proofs.lemmas.List.{get_or_past, get_or_append_left, get_or_at}
use Rattle.std.proofs.lemmas.Bool.{cases_eq}
use Rattle.trio_lists.specs.Lists.{tabulated}

-- a table by number
pub tabulated-length : {X : Type 0} (f : ℕ → X) (n : ℕ) → length (tabulated f n) ≡ n
tabulated-length f zero = refl
tabulated-length f (suc n) =
    let ih = tabulated-length f n in
    let a = length-append (tabulated f n) (f n ∷ []) in
    let one : length (f n ∷ []) ≡ 1 = refl in omega (arith, ih, a, one)

pub tabulated-get : {X : Type 0} (f : ℕ → X) (n k : ℕ) (d : X) → k < n → get_or (tabulated f n) k d ≡ f k
tabulated-get f zero k d l = absurd (omega arith)
tabulated-get f (suc n) k d l =
    let len = tabulated-length f n in
    elim (cases_eq k n) [
      | inl same ↦ get_or_at (tabulated f n) (f n) [] d k (len ∙ sym same) ∙ ap f (sym same)
      | inr differ ↦
          let l' : k < n = omega arith in
          let l'' : k < length (tabulated f n) = omega (arith, len) in
          get_or_append_left (tabulated f n) (f n ∷ []) d k l'' ∙ tabulated-get f n k d l'
    ]

pub tabulated-past : {X : Type 0} (f : ℕ → X) (n k : ℕ) (d : X) → n ≤ k → get_or (tabulated f n) k d ≡ d
tabulated-past f n k d h =
    let len = tabulated-length f n in
    let l : length (tabulated f n) ≤ k = omega (arith, len) in get_or_past (tabulated f n) k d l

pub tabulated-same : {X : Type 0} (f g : ℕ → X) (n : ℕ) → ((k : ℕ) → f k ≡ g k) → tabulated f n ≡ tabulated g n
tabulated-same f g zero h = refl
tabulated-same f g (suc n) h =
    ap (λ l. l ++ f n ∷ []) (tabulated-same f g n h) ∙ ap (λ x. tabulated g n ++ x ∷ []) (h n)
