-- Each step on a mail's queue keeps its rule.
use Rattle.trio_pool.proofs.Words.{Forks, List, None, Option, Pops, Pushes, Some, [], ap, at_snoc, inl, inr, refl, set, subst, suc, sym, zero, ℕ, ⊎_elim, ◌++◌, ◌∙◌, ◌∷◌, ◌≡◌}
use mathlib.Core.Option.{some, some-injective, some-ne-none}
use lib.ListN.{get_elem?}
use Rattle.crossbeam_queue.proofs.Lists.{set_again}
use Rattle.trio_pool.specs.inner.Mail.{OfOneLibrary}

some_none : {A : Type 0} (x : A) → Some x ≡ None → ⊥
some_none x e = absurd (cc e)

module _ {J : Type 0} (library : J → ℕ) where
  pub mail_begins : OfOneLibrary library [] (None ∷ [])
  mail_begins = inl (refl, refl)

  -- a view that knows a library is none of the first one
  not_first : (views : List (Option ℕ)) (id : ℕ) (v : Option ℕ) (l : ℕ) → views ≡ None ∷ [] → v ≡ Some l → get_elem? views id ≡ some v → ⊥
  not_first views zero v l one is at = some_none l (sym is ∙ sym (some-injective None v (sym (ap (λ z. get_elem? z 0) one) ∙ at)))
  not_first views (suc id) v l one is at = some-ne-none v (sym (sym (ap (λ z. get_elem? z (suc id)) one) ∙ at))

  pub mail_numbers : (id : ℕ) (v : Option ℕ) (l : ℕ) → v ≡ None → Forks (OfOneLibrary library) id v (Some l) (Some l)
  mail_numbers id v l is held views r at = ⊎_elim (λ a. inr (l, empty a.0, go id views v a.1 at)) (λ a. absurd (some_none a.0 (sym (a.2 id v at) ∙ is))) r
    where
      empty : held ≡ [] → (k : ℕ) (x : J) → get_elem? held k ≡ some x → library x ≡ l
      empty none k x e = absurd (some-ne-none x (sym (sym (ap (λ z. get_elem? z k) none) ∙ e)))

      both : (j : ℕ) (u : Option ℕ) → get_elem? (Some l ∷ Some l ∷ []) j ≡ some u → u ≡ Some l
      both zero u e = sym (some-injective (Some l) u e)
      both (suc zero) u e = sym (some-injective (Some l) u e)
      both (suc (suc j)) u e = absurd (some-ne-none u (sym e))

      go : (id : ℕ) (views : List (Option ℕ)) (v : Option ℕ) → views ≡ None ∷ [] → get_elem? views id ≡ some v → (j : ℕ) (u : Option ℕ) → get_elem? (set views id (Some l) ++ Some l ∷ []) j ≡ some u → u ≡ Some l
      go zero views v one at j u e = both j u (ap (λ z. get_elem? (set z 0 (Some l) ++ Some l ∷ []) j) (sym one) ∙ e)
      go (suc id) views v one at j u e = absurd (some-ne-none v (sym (sym (ap (λ z. get_elem? z (suc id)) one) ∙ at)))

  pub mail_copies : (id : ℕ) (v : Option ℕ) (l : ℕ) → v ≡ Some l → Forks (OfOneLibrary library) id v v v
  mail_copies id v l is held views r at = ⊎_elim (λ a. absurd (not_first views id v l a.1 is at))
      (λ a. inr (a.0, a.1, λ j u e. ⊎_elim (λ old. a.2 j u (sym (ap (λ z. get_elem? z j) (set_again views id v at)) ∙ old)) (λ (same : v ≡ u). sym same ∙ a.2 id v at) (at_snoc (set views id v) v u j e))) r

  pub mail_posts : (n id : ℕ) (v : Option ℕ) (x : J) → v ≡ Some (library x) → Pushes (OfOneLibrary library) n id v x (λ w. w ≡ v)
  mail_posts n id v x is held views room r at = (
    v,
    subst (OfOneLibrary library (held ++ x ∷ [])) (sym (set_again views id v at))
        (⊎_elim (λ a. absurd (not_first views id v (library x) a.1 is at))
        (λ a. let mine : Some (library x) ≡ Some a.0 = sym is ∙ a.2 id v at in let same : library x ≡ a.0 = cc mine in
        inr (a.0, (λ k y e. ⊎_elim (λ old. a.1 k y old) (λ (new : x ≡ y). ap library (sym new) ∙ same) (at_snoc held x y k e)), a.2)) r),
    refl,
  )

  pub mail_fetches : (id : ℕ) (v : Option ℕ) (l : ℕ) → v ≡ Some l → Pops (OfOneLibrary library) id v (λ x w. (w ≡ v) × (v ≡ Some (library x)))
  mail_fetches id v l is x held views r at = (
    v,
    subst (OfOneLibrary library held) (sym (set_again views id v at))
        (⊎_elim (λ a. absurd (not_first views id v l a.1 is at)) (λ a. inr (a.0, (λ k y e. a.1 (suc k) y e), a.2)) r),
    (refl, ⊎_elim (λ a. absurd (not_first views id v l a.1 is at)) (λ a. a.2 id v at ∙ ap (λ k. Some k) (sym (a.1 0 x refl))) r),
  )
