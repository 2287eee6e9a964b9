-- What index pages say after numbers and links were written into them.
use Rattle.trio_edit_laws.proofs.Words.{◌%◌, ◌*◌, ◌+◌, ◌/◌, ◌<◌, ◌^◌, ◌∙◌, ◌∷◌, ◌≡◌, ◌≤◌, ◌⊎◌, In, IsBytes, List, [], ap, are_new, are_new-first, arith, cases_eq, cases_lt, cond, eqb, get_or, get_or-In, inl, inr, length, length-with_number, ne_eqb, number_at, refl, subst, suc, sym, true, w64, with_number, zero, ℕ}
use Rattle.std.proofs.Common.{eq-eqb}
use Rattle.trio_page.proofs.Fields.{number64_again, number_at-above, number_at-below}
use Rattle.trio_edit_laws.proofs.IndexFields.{IndexSays, small-with_number}

-- one page gets these bytes, and every other page has those that it had
pub record Puts (page page' : ℕ → List ℕ) (n : ℕ) (bytes : List ℕ) : Type 0 where
  pub here : page' n ≡ bytes
  pub other : (m : ℕ) → (m ≡ n → ⊥) → page' m ≡ page m

-- of different numbers each stands at one place
pub place_once : (xs : List ℕ) → are_new [] xs ≡ true → (i j : ℕ) → i < length xs → j < length xs → get_or xs i 0 ≡ get_or xs j 0 → i ≡ j
place_once [] once i j a b e = absurd (omega arith)
place_once (x ∷ xs) once zero zero a b e = refl
place_once (x ∷ xs) once zero (suc j) a b e = absurd ((are_new-first x xs once).0 (subst (λ n. In n xs) (sym e) (get_or-In xs j 0 (omega arith))))
place_once (x ∷ xs) once (suc i) zero a b e = absurd ((are_new-first x xs once).0 (subst (λ n. In n xs) e (get_or-In xs i 0 (omega arith))))
place_once (x ∷ xs) once (suc i) (suc j) a b e = ap suc (place_once xs (are_new-first x xs once).1 i j (omega arith) (omega arith) e)

-- a function with another value at one place
abbrev pub with_at : ℕ → ℕ → (ℕ → ℕ) → ℕ → ℕ
with_at k v f j = cond (eqb j k) v (f j)

pub with_at-here : (k v : ℕ) (f : ℕ → ℕ) (j : ℕ) → j ≡ k → with_at k v f j ≡ v
with_at-here k v f j e = ap (λ t. cond t v (f j)) (eq-eqb j k e)

pub with_at-other : (k v : ℕ) (f : ℕ → ℕ) (j : ℕ) → (j ≡ k → ⊥) → with_at k v f j ≡ f j
with_at-other k v f j ne = ap (λ t. cond t v (f j)) (ne_eqb j k ne)

-- ---- one number

module _ (page page' : ℕ → List ℕ) (index : List ℕ) (number link : ℕ → ℕ) (k at v : ℕ) (s : IndexSays page index number link) (once : are_new [] index ≡ true) (lt : k < length index) (fits : at + 8 ≤ 4096)
    (puts : Puts page page' (get_or index k 0) (with_number w64 at v (page (get_or index k 0)))) where
  now : (i : ℕ) → i < length index → (i ≡ k) ⊎ ((i ≡ k → ⊥) × (page' (get_or index i 0) ≡ page (get_or index i 0)))
  now i l = elim (cases_eq i k) [ inl e ↦ inl e | inr d ↦ inr (d, puts.other (get_or index i 0) (λ e. d (place_once index once i k l lt e))) ]

  within : at + 8 ≤ length (page (get_or index k 0))
  within = let w = s.whole k lt in omega (arith, w)

  pub put_whole : (i : ℕ) → i < length index → length (page' (get_or index i 0)) ≡ 4096
  put_whole i l = search (arith, now, length-with_number, within)

  pub put_small : (i : ℕ) → i < length index → IsBytes (page' (get_or index i 0))
  put_small i l = search (arith, now, small-with_number, within)

  -- another field, and the field that was written
  pub put_field : (i f : ℕ) → i < length index → (i ≡ k → (f + 8 ≤ at) ⊎ (at + 8 ≤ f)) → number_at w64 f (page' (get_or index i 0)) ≡ number_at w64 f (page (get_or index i 0))
  put_field i f l apart = search (arith, now, number_at-below, within, number_at-above)

  pub put_here : v < 2 ^ 64 → number_at w64 at (page' (get_or index k 0)) ≡ v
  put_here small = ap (number_at w64 at) puts.here ∙ number64_again at v (page (get_or index k 0)) within small

-- a number along the index pages is written
pub says-number : (page page' : ℕ → List ℕ) (index : List ℕ) (number link number' : ℕ → ℕ) (k v : ℕ) → IndexSays page index number link → are_new [] index ≡ true → k < 511 * length index → v < 2 ^ 64
    → Puts page page' (get_or index (k / 511) 0) (with_number w64 (8 * (k % 511)) v (page (get_or index (k / 511) 0)))
    → number' k ≡ v → ((j : ℕ) → (j ≡ k → ⊥) → number' j ≡ number j) → IndexSays page' index number' link
says-number page page' index number link number' k v s once lt small puts same other = search (arith, Puts, put_whole, put_small, cases_eq, put_here, put_field, cases_lt)

-- a link is written
pub says-link : (page page' : ℕ → List ℕ) (index : List ℕ) (number link link' : ℕ → ℕ) (k v : ℕ) → IndexSays page index number link → are_new [] index ≡ true → k < length index → v < 2 ^ 64
    → Puts page page' (get_or index k 0) (with_number w64 4088 v (page (get_or index k 0)))
    → link' k ≡ v → ((j : ℕ) → (j ≡ k → ⊥) → link' j ≡ link j) → IndexSays page' index number link'
says-link page page' index number link link' k v s once lt small puts same other = search (arith, Puts, put_whole, put_small, put_field, cases_eq, put_here)
