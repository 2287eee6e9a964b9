-- The beginning, making a pass, and joining two keep the rule.
use Rattle.trio_pool.proofs.Words.{Account, AccountAgrees, Forks, IfSome, IsUnused, Kept, List, None, Option, Some, Take, View, [], account, ap, arith, at_snoc, both, cond, deals, either_next, eq-eqb, length, ne_eqb, places, refl, sent_count, set, subst, suc, sym, times, took_count, view_of, zero, ℕ, ⊎_elim, ◌++◌, ◌+◌, ◌==◌, ◌∙◌, ◌∷◌, ◌≡◌, ◌≢◌, ◌≤◌}
use mathlib.Core.Option.{some, some-injective, some-ne-none}
use mathlib.Core.Logic.{dite}
use native.Mathlib.Decide.{ℕ_discrete}
use lib.ListN.{get_elem?}
use Rattle.crossbeam_queue.specs.Fifo.{Merges}
use Rattle.crossbeam_queue.proofs.Lists.{set_else}
use Rattle.trio_pool.specs.inner.Steps.{first_view, one_more, next_accounts, dealt, dealt_one, spent}
use Rattle.trio_pool.proofs.Lists.{at_append, total_set, total_append, total_two, each_set}
use Rattle.trio_pool.proofs.Keeps.{if_some}

-- one number, or none
one_at_most : (a b : ℕ) → cond {A = ℕ} (a == b) 1 0 ≤ 1
one_at_most a b = dite (ℕ_discrete a b) (λ e. subst (λ c. c ≤ 1) (sym (ap (λ t. cond {A = ℕ} t 1 0) (eq-eqb a b e))) (omega arith))
    (λ n. subst (λ c. c ≤ 1) (sym (ap (λ t. cond {A = ℕ} t 1 0) (ne_eqb a b n))) (omega arith))

not_there : (a b : ℕ) → a ≢ b → cond {A = ℕ} (a == b) 1 0 ≡ 0
not_there a b n = ap (λ t. cond {A = ℕ} t 1 0) (ne_eqb a b n)

no_number : (next : Option ℕ) (P : ℕ → Type 0) → deals next ≡ 0 → IfSome next P
no_number (Some n) P e = absurd (omega arith)
no_number None P e = tt

either_some : (m n : Option ℕ) (P : ℕ → Type 0) → IfSome m P → IfSome n P → IfSome (either_next m n) P
either_some (Some k) n P x y = x
either_some None n P x y = y

either_deals : (m n : Option ℕ) → deals (either_next m n) ≤ deals m + deals n
either_deals (Some k) n = omega arith
either_deals None n = omega arith

module _ {C : Type 0} where
  pub begins : Kept {C = C} [] (first_view ∷ [])
  begins = record {
    line = [];
    each_account = first;
    once = λ p. omega arith;
    nowhere = λ p none. (refl, refl);
    one_dealer = omega arith;
    undealt = later;
    balance = omega arith;
  }
    where
      first : (j : ℕ) (v : View C) → get_elem? (first_view ∷ []) j ≡ some v → (k : ℕ) (h : Account C) → get_elem? v.accounts k ≡ some h → AccountAgrees [] [] h
      first zero v e k h there = absurd (some-ne-none h (sym (ap (λ (z : View C). get_elem? z.accounts k) (some-injective first_view v e) ∙ there)))
      first (suc j) v e k h there = absurd (some-ne-none v (sym e))

      later : (j : ℕ) (v : View C) → get_elem? (first_view {C = C} ∷ []) j ≡ some v → IfSome v.next (λ n. (p : ℕ) → n ≤ p → places p (first_view {C = C} ∷ []) ≡ 0)
      later zero v e = subst (λ (z : View C). IfSome z.next (λ n. (p : ℕ) → n ≤ p → places p (first_view {C = C} ∷ []) ≡ 0)) (some-injective first_view v e)
          (λ p le. omega arith)
      later (suc j) v e = absurd (some-ne-none v (sym e))

  -- the view that makes passes makes one
  deals_one : (id : ℕ) (v : View C) (n : ℕ) → v.next ≡ Some n → Forks Kept id v (view_of (Some (n + 1)) v.accounts) (view_of None (account n [] [] ∷ []))
  deals_one id v n is held views r at =
      let l : View C = view_of (Some (n + 1)) v.accounts in let w : View C = view_of None (account n [] [] ∷ []) in
      let now : (p : ℕ) → places p (set views id l ++ w ∷ []) ≡ places p views + cond {A = ℕ} (n == p) 1 0 = λ p.
      let a = total_set (λ (u : View C). times p u.accounts) views id v l at in let b = total_append (λ (u : View C). times p u.accounts) (set views id l) (w ∷ []) in omega arith in
      let free : (p : ℕ) → n ≤ p → places p views ≡ 0 = subst (λ m. IfSome m (λ k. (p : ℕ) → k ≤ p → places p views ≡ 0)) is (r.undealt id v at) in
      let none = r.nowhere n (free n (omega arith)) in
      let ones : deals v.next ≡ 1 = ap deals is in record {
        line = r.line;
        each_account = λ j u there. ⊎_elim
            (λ was. each_set (λ j (z : View C). (k : ℕ) (h : Account C) → get_elem? z.accounts k ≡ some h → AccountAgrees r.line held h) views id l (r.each_account id v at) (λ i z other e. r.each_account i z e) j u was)
            (λ (same : w ≡ u) k h e. fresh r.line none k h (ap (λ (z : View C). get_elem? z.accounts k) same ∙ e))
            (at_snoc (set views id l) w u j there);
        once = λ p. dite (ℕ_discrete n p) (λ (e : n ≡ p). let a = now p in let b = free p (omega arith) in let c = one_at_most n p in omega arith) (λ other. let a = now p in let b = r.once p in let c = not_there n p other in omega arith);
        nowhere = λ p gone. let a = now p in r.nowhere p (omega arith);
        one_dealer = let a = total_set (λ (u : View C). deals u.next) views id v l at in let b = total_append (λ (u : View C). deals u.next) (set views id l) (w ∷ []) in let c = r.one_dealer in omega arith;
        undealt = λ j u there. ⊎_elim
            (λ was. each_set (λ j (z : View C). IfSome z.next (λ k. (p : ℕ) → k ≤ p → places p (set views id l ++ w ∷ []) ≡ 0)) views id l
            (λ p le. let a = now p in let b = free p (omega arith) in let c = not_there n p (λ e. omega arith) in omega arith)
            (λ i z other e. no_number z.next (λ k. (p : ℕ) → k ≤ p → places p (set views id l ++ w ∷ []) ≡ 0)
            (let two = total_two (λ (u : View C). deals u.next) views i id z v other e at in let c = r.one_dealer in omega arith)) j u was)
            (λ (same : w ≡ u). subst (λ (z : View C). IfSome z.next (λ k. (p : ℕ) → k ≤ p → places p (set views id l ++ w ∷ []) ≡ 0)) same tt)
            (at_snoc (set views id l) w u j there);
        balance = let a = total_set sent_count views id v l at in let b = total_append sent_count (set views id l) (w ∷ []) in
            let c = total_set took_count views id v l at in let d = total_append took_count (set views id l) (w ∷ []) in let e = r.balance in omega arith;
      }
    where
      fresh : (line : List (Take C)) → IsUnused line held n → (k : ℕ) (h : Account C) → get_elem? (account {C = C} n [] [] ∷ []) k ≡ some h → AccountAgrees line held h
      fresh line none zero h e = subst (AccountAgrees line held) (some-injective (account n [] []) h e) record { sent_is = sym none.0; took_is = sym none.1; named = tt }
      fresh line none (suc k) h e = absurd (some-ne-none h (sym e))

  pub makes : (id : ℕ) (v : View C) (n : ℕ) → v.next ≡ Some n → Forks Kept id v (dealt v) (dealt_one v)
  makes id v n is = subst (λ m. Forks Kept id v (view_of (one_more m) v.accounts) (view_of None (next_accounts m))) (sym is) (deals_one id v n is)

  pub gathers : (id : ℕ) (v : View C) (other : ℕ) (u : View C) → Merges Kept id v other u (both v u) spent
  gathers id v other u held views r at apart there =
      let b : View C = both v u in let s : View C = spent in
      let was : get_elem? views other ≡ some u = sym (set_else views id other b apart) ∙ there in
      let same : (p : ℕ) → places p (set (set views id b) other s) ≡ places p views = λ p.
      let x = total_set (λ (z : View C). times p z.accounts) views id v b at in let y = total_set (λ (z : View C). times p z.accounts) (set views id b) other u s there in
      let z = total_append (λ (h : Account C). cond {A = ℕ} (h.number == p) 1 0) v.accounts u.accounts in omega arith in record {
        line = r.line;
        each_account = each_set (λ j (z : View C). (k : ℕ) (h : Account C) → get_elem? z.accounts k ≡ some h → AccountAgrees r.line held h) (set views id b) other s
            (λ k h e. absurd (some-ne-none h (sym e)))
            (λ j z _ e. each_set (λ j (z : View C). (k : ℕ) (h : Account C) → get_elem? z.accounts k ≡ some h → AccountAgrees r.line held h) views id b
            (λ k h e. ⊎_elim (λ mine. r.each_account id v at k h mine) (λ o. r.each_account other u was o.0 h o.1) (at_append v.accounts u.accounts k h e))
            (λ i y _ d. r.each_account i y d) j z e);
        once = λ p. let a = same p in let c = r.once p in omega arith;
        nowhere = λ p gone. r.nowhere p (sym (same p) ∙ gone);
        one_dealer = let x = total_set (λ (z : View C). deals z.next) views id v b at in let y = total_set (λ (z : View C). deals z.next) (set views id b) other u s there in
            let c = either_deals v.next u.next in let d = r.one_dealer in omega arith;
        undealt = each_set (λ j (z : View C). IfSome z.next (λ n. (p : ℕ) → n ≤ p → places p (set (set views id b) other s) ≡ 0)) (set views id b) other s tt
            (λ j z _ e. each_set (λ j (z : View C). IfSome z.next (λ n. (p : ℕ) → n ≤ p → places p (set (set views id b) other s) ≡ 0)) views id b
            (either_some v.next u.next (λ n. (p : ℕ) → n ≤ p → places p (set (set views id b) other s) ≡ 0) (more same v.next (r.undealt id v at)) (more same u.next (r.undealt other u was)))
            (λ i y _ d. more same y.next (r.undealt i y d)) j z e);
        balance = let x = total_set sent_count views id v b at in let y = total_set sent_count (set views id b) other u s there in let z = total_append (λ (h : Account C). length h.sent) v.accounts u.accounts in
            let x' = total_set took_count views id v b at in let y' = total_set took_count (set views id b) other u s there in let z' = total_append (λ (h : Account C). length h.took) v.accounts u.accounts in
            let c = r.balance in omega arith;
      }
    where
      more : ((p : ℕ) → places p (set (set views id (both v u)) other spent) ≡ places p views) → (next : Option ℕ)
          → IfSome next (λ n. (p : ℕ) → n ≤ p → places p views ≡ 0) → IfSome next (λ n. (p : ℕ) → n ≤ p → places p (set (set views id (both v u)) other spent) ≡ 0)
      more same next e = if_some next (λ n. (p : ℕ) → n ≤ p → places p views ≡ 0) (λ n. (p : ℕ) → n ≤ p → places p (set (set views id (both v u)) other spent) ≡ 0) (λ n f p le. same p ∙ f p le) e
