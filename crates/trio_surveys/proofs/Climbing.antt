-- Climbs to the root.
use Rattle.trio_surveys.proofs.Words.{◌&&◌, ◌∙◌, ◌≡◌, ◌≤◌, and_from, and_parts, ap, arith, both_ways, cases_Bool, climbs, eqb, eqb-true, false, inl, inr, or_cases, or_right, suc, sym, true, zero, ℕ}
use Rattle.std.proofs.Common.{not}
use Rattle.std.proofs.lemmas.Bool.{or_left, not_from_false}
use Rattle.trio_layout.specs.Edges.{climbs_clear}

module _ (parent : ℕ → ℕ) where
  -- more steps do as well
  pub climbs_more : (k j n : ℕ) → k ≤ j → climbs parent k n ≡ true → climbs parent j n ≡ true
  climbs_more zero zero n l e = e
  climbs_more zero (suc j) n l e = or_left (eqb n 1) (climbs parent j (parent n)) e
  climbs_more (suc k) zero n l e = absurd (omega arith)
  climbs_more (suc k) (suc j) n l e =
      elim (or_cases (eqb n 1) (climbs parent k (parent n)) e) [
        | inl r ↦ or_left (eqb n 1) (climbs parent j (parent n)) r
        | inr c ↦ or_right (eqb n 1) (climbs parent j (parent n)) (climbs_more k j (parent n) (omega arith) c)
      ]

  -- a climb that doesn't meet a directory is a climb
  pub clear_climbs : (directory k n : ℕ) → climbs_clear parent directory k n ≡ true → climbs parent k n ≡ true
  clear_climbs directory zero n e = e
  clear_climbs directory (suc k) n e =
      elim (or_cases (eqb n 1) (not (eqb n directory) && climbs_clear parent directory k (parent n)) e) [
        | inl r ↦ or_left (eqb n 1) (climbs parent k (parent n)) r
        | inr c ↦
            or_right (eqb n 1) (climbs parent k (parent n))
            (clear_climbs directory k (parent n) (and_parts (not (eqb n directory)) (climbs_clear parent directory k (parent n)) c).1)
      ]

  -- a climb by so many steps meets no directory from which it takes more
  pub clear_from : (directory k j n : ℕ) → j ≤ k → climbs parent k directory ≡ false → climbs parent j n ≡ true → climbs_clear parent directory j n ≡ true
  clear_from directory k zero n l far e = e
  clear_from directory k (suc j) n l far e =
      elim (or_cases (eqb n 1) (climbs parent j (parent n)) e) [
        | inl r ↦ or_left (eqb n 1) (not (eqb n directory) && climbs_clear parent directory j (parent n)) r
        | inr c ↦
            or_right (eqb n 1) (not (eqb n directory) && climbs_clear parent directory j (parent n))
            (and_from (not (eqb n directory)) (climbs_clear parent directory j (parent n))
            (elim (cases_Bool (eqb n directory)) [
              | inr no' ↦ not_from_false (eqb n directory) no'
              | inl yes' ↦
                  let same : n ≡ directory = eqb-true n directory yes' in
                  absurd (both_ways (climbs parent k directory) far (climbs_more (suc j) k directory l (ap (climbs parent (suc j)) (sym same) ∙ e)))
            ])
            (clear_from directory k j (parent n) (omega arith) far c))
      ]

  pub clear_more : (directory k j n : ℕ) → k ≤ j → climbs_clear parent directory k n ≡ true → climbs_clear parent directory j n ≡ true
  clear_more directory zero zero n l e = e
  clear_more directory zero (suc j) n l e = or_left (eqb n 1) _ e
  clear_more directory (suc k) zero n l e = absurd (omega arith)
  clear_more directory (suc k) (suc j) n l e =
      elim (or_cases (eqb n 1) (not (eqb n directory) && climbs_clear parent directory k (parent n)) e) [
        | inl r ↦ or_left (eqb n 1) (not (eqb n directory) && climbs_clear parent directory j (parent n)) r
        | inr c ↦
            let p = and_parts (not (eqb n directory)) (climbs_clear parent directory k (parent n)) c in
            or_right (eqb n 1) (not (eqb n directory) && climbs_clear parent directory j (parent n))
            (and_from (not (eqb n directory)) (climbs_clear parent directory j (parent n)) p.0 (clear_more directory k j (parent n) (omega arith) p.1))
      ]

  -- A directory that isn't the root and from which the climb reaches the root isn't met again on the way.
  pub climbs_past : (directory k : ℕ) → (directory ≡ 1 → ⊥) → climbs parent k directory ≡ true → climbs_clear parent directory k (parent directory) ≡ true
  climbs_past directory zero not_root e = absurd (not_root (eqb-true directory 1 e))
  climbs_past directory (suc k) not_root e =
      elim (or_cases (eqb directory 1) (climbs parent k (parent directory)) e) [
        | inl r ↦ absurd (not_root (eqb-true directory 1 r))
        | inr c ↦
            elim (cases_Bool (climbs parent k directory)) [
              | inr far ↦ clear_more directory k (suc k) (parent directory) (omega arith) (clear_from directory k k (parent directory) (omega arith) far c)
              | inl near ↦ clear_more directory k (suc k) (parent directory) (omega arith) (climbs_past directory k not_root near)
            ]
      ]
