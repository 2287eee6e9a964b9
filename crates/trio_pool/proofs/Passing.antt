-- What a step makes of a pass.
use Rattle.trio_pool.proofs.Words.{Account, Case, Held, IsUnused, Job, List, None, Pool, PoolPass, Put, Some, Stands, Stop, Took, View, [], ap, append_assoc, arith, case_count, cond, eq-eqb, is_case, jobs_of, known_count, knows, length, length-append, number, own_number, own_sent, own_took, put_by, refl, subst, sym, took, took_by, with_sent, with_took, ℕ, ◌++◌, ◌+◌, ◌∙◌, ◌∷◌, ◌≡◌, ◌≤◌}
use Rattle.std.proofs.Common.{Result, Ok, Err, MatchResult}
use lib.ListN.{get_elem?}
use Rattle.trio_pool.specs.Passes.{pass_count, IsOf, Sees, HeldJobs}
use Rattle.trio_pool.proofs.Owed.{one_account}
use Rattle.trio_pool.proofs.Whole.{of_some}

module _ {C : Type 0} where
  put_accounts : (hs : List (Account C)) (x : Job C) → length hs ≡ 1
      → (length (with_sent hs x) ≡ 1) × (own_number (with_sent hs x) ≡ own_number hs) × (own_sent (with_sent hs x) ≡ own_sent hs ++ x ∷ []) × (own_took (with_sent hs x) ≡ own_took hs)
  put_accounts [] x e = absurd (omega arith)
  put_accounts (h ∷ hs) x e = (e, refl, refl, refl)

  take_accounts : (hs : List (Account C)) (x : Job C) → length hs ≡ 1
      → (length (with_took hs x) ≡ 1) × (own_number (with_took hs x) ≡ own_number hs) × (own_took (with_took hs x) ≡ own_took hs ++ x ∷ []) × (own_sent (with_took hs x) ≡ own_sent hs)
  take_accounts [] x e = absurd (omega arith)
  take_accounts (h ∷ hs) x e = (e, refl, refl, refl)

  pub after_put : (v w : View C) (x : Job C) → length v.accounts ≡ 1 → Put v x w
      → (length w.accounts ≡ 1) × (own_number w.accounts ≡ own_number v.accounts) × (own_sent w.accounts ≡ own_sent v.accounts ++ x ∷ []) × (own_took w.accounts ≡ own_took v.accounts)
  after_put v w x one put = subst (λ (z : View C). (length z.accounts ≡ 1) × (own_number z.accounts ≡ own_number v.accounts) × (own_sent z.accounts ≡ own_sent v.accounts ++ x ∷ []) × (own_took z.accounts ≡ own_took v.accounts)) (sym put) (put_accounts v.accounts x one)

  pub after_take : (v w : View C) (x : Job C) → length v.accounts ≡ 1 → Took v x w
      → (length w.accounts ≡ 1) × (own_number w.accounts ≡ own_number v.accounts) × (own_took w.accounts ≡ own_took v.accounts ++ x ∷ []) × (own_sent w.accounts ≡ own_sent v.accounts)
  after_take v w x one took = subst (λ (z : View C). (length z.accounts ≡ 1) × (own_number z.accounts ≡ own_number v.accounts) × (own_took z.accounts ≡ own_took v.accounts ++ x ∷ []) × (own_sent z.accounts ≡ own_sent v.accounts)) (sym took) (take_accounts v.accounts x one)

  pub case_count-append : (xs ys : List (Job C)) → case_count (xs ++ ys) ≡ case_count xs + case_count ys
  case_count-append [] ys = omega arith
  case_count-append (x ∷ xs) ys = let r = case_count-append xs ys in omega arith

  pub count_put : (v w : View C) (nth : ℕ) (case : C) (by : ℕ) → length v.accounts ≡ 1 → Put v (record { by = by; work = Case nth case }) w → case_count (own_sent v.accounts) ≡ nth → case_count (own_sent w.accounts) ≡ nth + 1
  count_put v w nth case by one put is = let x : Job C = record { by = by; work = Case nth case } in
      let a = (after_put v w x one put).2 in let b = ap case_count a ∙ case_count-append (own_sent v.accounts) (x ∷ []) in omega arith

  -- a stop was put, or not
  pub after_stop : (v w : View C) (by : ℕ) (r : Result (Unit {0}) (Job C)) (H : Type 0) → length v.accounts ≡ 1
      → MatchResult r (λ _. Put v (record { by = by; work = Stop }) w) (λ y. (y ≡ record { by = by; work = Stop }) × (w ≡ v) × H)
      → (length w.accounts ≡ 1) × (own_number w.accounts ≡ own_number v.accounts) × (case_count (own_sent w.accounts) ≡ case_count (own_sent v.accounts))
  after_stop v w by (Ok o) H one put = let x : Job C = record { by = by; work = Stop } in let a = after_put v w x one put in
      let b = ap case_count a.2 ∙ case_count-append (own_sent v.accounts) (x ∷ []) in (a.0, a.1, omega arith)
  after_stop v w by (Err y) H one put = subst (λ (z : View C). (length z.accounts ≡ 1) × (own_number z.accounts ≡ own_number v.accounts) × (case_count (own_sent z.accounts) ≡ case_count (own_sent v.accounts))) (sym put.1) (one, refl, refl)

  sees : (n : ℕ) (p : PoolPass C) (held : List (Job C)) → knows p ≡ known_count n (number p) → Stands p.token.me.0.client held → Sees n p held
  sees n p held known s =
      let o = one_account p.token.me.0.client.accounts p.alone in let h = o.0 in
      let a = s.1.each_account 0 h (ap (λ l. get_elem? l 0) o.1) in
      let number_is : h.number ≡ number p = sym (ap own_number o.1) ∙ p.numbered in record {
        line = s.0;
        sent_is = ap own_sent o.1 ∙ (a.sent_is ∙ ap (λ k. put_by k (jobs_of s.0 ++ held)) number_is);
        took_is = ap own_took o.1 ∙ (a.took_is ∙ ap (λ k. took_by k s.0) number_is);
        no_others = λ last. of_some p.token.me.0.client.next n (λ k. (q : ℕ) → k ≤ q → IsUnused s.0 held q) (known ∙ ap (λ b. cond b (Some n) None) (eq-eqb (number p + 1) n last)) s.1.undealt;
      }

  -- what the queue held, as the pass sees it
  pub held_jobs : (q : Pool C) (p : PoolPass C) (n : ℕ) → IsOf q p → Held n (Stands p.token.me.0.client) → HeldJobs q p n
  held_jobs q p n is h = (h.0, h.1, sees (pass_count q) p h.0 is.2 h.2)

  -- one case more was taken, since a pass had taken n cases more
  pub served : (jobs : List (Job C)) (n : ℕ) (old now new : List (Job C)) (x : Job C) → now ≡ old ++ jobs → new ≡ now ++ x ∷ [] → is_case x.work ≡ 1
      → length jobs ≡ n → case_count jobs ≡ n → (more : List (Job C)) × (new ≡ old ++ more) × (length more ≡ n + 1) × (case_count more ≡ n + 1)
  served jobs n old now new x is next case long count = (
    jobs ++ x ∷ [],
    next ∙ (ap (λ l. l ++ x ∷ []) is ∙ append_assoc old jobs (x ∷ [])),
    omega (arith, length-append jobs (x ∷ [])),
    (let a = case_count-append jobs (x ∷ []) in omega arith),
  )
