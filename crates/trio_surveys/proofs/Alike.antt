-- Rows that are alike, and tests of all numbers up to one.
use Rattle.trio_surveys.proofs.Words.{◌<◌, ◌∙◌, ◌≡◌, ◌≤◌, ◌⊎◌, Bool, Kind, Option, Row, Some, and_parts, ap, arith, cases_lt, eqb-true, false≢true, inl, inr, suc, true, zero, ℕ}
use Rattle.trio_layout.specs.Allowed.{same_row, all_up_to}
use Rattle.trio_rights.specs.Kind.{same_kind}

cases_le : (j n : ℕ) → (j ≤ n) ⊎ (n < j)
cases_le j n = elim (cases_lt n j) [ inl l ↦ inr l | inr g ↦ inl g ]

pub up_to_at : (p : ℕ → Bool) (n j : ℕ) → all_up_to p n ≡ true → 0 < j → j ≤ n → p j ≡ true
up_to_at p zero j h low high = absurd (omega arith)
up_to_at p (suc n) j h low high =
    let parts = and_parts (all_up_to p n) (p (suc n)) h in
    elim (let c : (j ≡ suc n) ⊎ (j ≤ n) = (elim (cases_le j n) [ inl a ↦ inr a | inr b ↦ (let e : j ≡ suc n = omega arith in inl e) ]) in c) [
      | inl e ↦ ap p e ∙ parts.1
      | inr l ↦ up_to_at p n j parts.0 low l
    ]

pub same_kind_is : (a b : Kind) → same_kind a b ≡ true → a ≡ b
same_kind_is a b e = search (arith, false≢true)

row_same : (r q : Row) → r.kind ≡ q.kind → r.mode.0 ≡ q.mode.0 → r.uid ≡ q.uid → r.gid ≡ q.gid → r.parent ≡ q.parent → r.page ≡ q.page → r.slot ≡ q.slot → r ≡ q
row_same r q kind mode uid gid parent page slot = search arith

-- rows that pass as the same are
pub same_row_is : (r : Row) (o : Option Row) → same_row (Some r) o ≡ true → o ≡ Some r
same_row_is r o e = search (arith, false≢true, and_parts, row_same, same_kind_is, eqb-true)
