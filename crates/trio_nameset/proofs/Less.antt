-- The byte order of names.
use Rattle.std.proofs.Common.{◌≡◌, ℕ, ◌⊎◌, inl, inr, List, refl, ap, subst, ◌∙◌}
use Rattle.std.specs.Ordering.{nat_cmp, ordering_reverse}
use Rattle.std.specs.declared.cmp.Ordering.TheVariants.{Less, Equal, Greater}
use Rattle.std.specs.Cmp.Lexicographic.{slice_cmp}
use Rattle.std.specs.FinMap.{nat_cmp-IsAntisymmetric, slice_cmp-IsAntisymmetric}
use Rattle.std.proofs.lemmas.Cmp.{nat_list_cmp_total, tied_itself}
use Rattle.trio_nameset.specs.inner.Sorted.{IsLess}

pub less_itself : (a : List ℕ) → IsLess a a → ⊥
less_itself a h = let e : slice_cmp nat_cmp a a ≡ Equal = tied_itself nat_list_cmp_total a in cc

pub less_trans : (a b c : List ℕ) → IsLess a b → IsLess b c → IsLess a c
less_trans a b c h k = nat_list_cmp_total.trans a b c h k

pub equal_same : (a b : List ℕ) → slice_cmp nat_cmp a b ≡ Equal → a ≡ b
equal_same a b e = slice_cmp-IsAntisymmetric nat_cmp-IsAntisymmetric a b e

pub greater_less : (a b : List ℕ) → slice_cmp nat_cmp a b ≡ Greater → IsLess b a
greater_less a b e = nat_list_cmp_total.antisymm b a ∙ ap ordering_reverse e

-- of two names one is below the other, or they are the same
pub less_cases : (a b : List ℕ) → IsLess a b ⊎ ((a ≡ b) ⊎ IsLess b a)
less_cases a b =
    elim (slice_cmp nat_cmp a b) as (λ o. slice_cmp nat_cmp a b ≡ o → IsLess a b ⊎ ((a ≡ b) ⊎ IsLess b a)) [
      | Less ↦ λ e. inl e
      | Equal ↦ λ e. inr (inl (equal_same a b e))
      | Greater ↦ λ e. inr (inr (greater_less a b e))
    ] refl

pub greater_not_less : (a b : List ℕ) → slice_cmp nat_cmp a b ≡ Greater → IsLess a b → ⊥
greater_not_less a b e h = cc

pub greater_not_same : (a b : List ℕ) → slice_cmp nat_cmp a b ≡ Greater → a ≡ b → ⊥
greater_not_same a b e same = less_itself b (subst (λ n. IsLess b n) same (greater_less a b e))

pub less_not_same : (a b : List ℕ) → IsLess a b → a ≡ b → ⊥
less_not_same a b h same = less_itself b (subst (λ n. IsLess n b) same h)
