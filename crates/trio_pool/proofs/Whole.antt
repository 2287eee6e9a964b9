-- A view that has every account knows how many jobs the queue holds.
use Rattle.trio_pool.proofs.Words.{Account, Counted, Emptied, HasAll, IfSome, Job, Kept, Learns, List, Option, Pops, Some, View, [], arith, length, lt_of_not-le, refl, sent_count, subst, times, took_count, total, ℕ, ◌+◌, ◌∷◌, ◌≡◌, ◌≢◌, ◌≤◌}
use mathlib.Core.Option.{some}
use mathlib.Core.Logic.{dite}
use native.Mathlib.Decide.{dec_le}
use lib.ListN.{get_elem?}
use Rattle.trio_pool.proofs.Lists.{total_at, total_two, total_alone}
use Rattle.trio_pool.proofs.Keeps.{times_here, takes, agrees}

pub of_some : (next : Option ℕ) (n : ℕ) (P : ℕ → Type 0) → next ≡ Some n → IfSome next P → P n
of_some next n P is x = subst (λ m. IfSome m P) is x

module _ {C : Type 0} where
  -- no other view has an account
  no_other : (held : List (Job C)) (views : List (View C)) (r : Kept held views) (id : ℕ) (v : View C) → get_elem? views id ≡ some v → HasAll v
      → (j : ℕ) (u : View C) → j ≢ id → get_elem? views j ≡ some u → (k : ℕ) (g : Account C) → get_elem? u.accounts k ≡ some g → ⊥
  no_other held views r id v at all j u other there k g found =
      let p = g.number in let one = times_here u.accounts k g p found refl in
      dite (dec_le all.0 p)
      (λ late. let none = of_some v.next all.0 (λ n. (p : ℕ) → n ≤ p → total (λ (z : View C). times p z.accounts) views ≡ 0) all.1 (r.undealt id v at) p late in
      let there_one = total_at (λ (z : View C). times p z.accounts) views j u there in absurd (omega arith))
      (λ early. let mine = all.2 p (lt_of_not-le early) in let o = r.once p in
      let two = total_two (λ (z : View C). times p z.accounts) views j id u v other there at in absurd (omega arith))

  count_none : (f : Account C → ℕ) (hs : List (Account C)) → ((k : ℕ) (g : Account C) → get_elem? hs k ≡ some g → ⊥) → total f hs ≡ 0
  count_none f [] none = refl
  count_none f (h ∷ hs) none = absurd (none 0 h refl)

  -- what is held is what was put and not taken
  pub count : (held : List (Job C)) (views : List (View C)) (r : Kept held views) (id : ℕ) (v : View C) → get_elem? views id ≡ some v → HasAll v → length held + took_count v ≡ sent_count v
  count held views r id v at all =
      let empty = no_other held views r id v at all in
      let a = total_alone took_count views id v at (λ j u other there. count_none (λ (h : Account C). length h.took) u.accounts (empty j u other there)) in
      let b = total_alone sent_count views id v at (λ j u other there. count_none (λ (h : Account C). length h.sent) u.accounts (empty j u other there)) in
      let c = r.balance in omega arith

  pub counts : (id : ℕ) (v : View C) → HasAll v → Learns Kept id v (Counted v)
  counts id v all held views r at = ((r.line, agrees held views r id v at), count held views r id v at all)

  pub empties : (id : ℕ) (v : View C) (h : Account C) (hs : List (Account C)) → v.accounts ≡ h ∷ hs → HasAll v → Pops Kept id v (Emptied v)
  empties id v h hs is all x held views r at =
      let t = takes id v h hs is x held views r at in let c = count (x ∷ held) views r id v at all in
      (t.0, t.1, (t.2, omega arith))
