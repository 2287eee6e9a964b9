-- Lists of jobs: what one more job changes.
use Rattle.trio_pool.proofs.Words.{AreNamed, IsNamed, Job, List, Take, [], ap, append_assoc, arith, case_count, cond, eq-eqb, filter, is_case, jobs_of, ne_eqb, put_by, refl, subst, took_by, ℕ, ◌++◌, ◌+◌, ◌==◌, ◌∙◌, ◌∷◌, ◌≡◌, ◌≢◌}
use mathlib.Core.List.{append-nil}
use Rattle.std.proofs.lemmas.List.Elements.{filter-append}

module _ {C : Type 0} where
  pub jobs_of-append : (xs ys : List (Take C)) → jobs_of (xs ++ ys) ≡ jobs_of xs ++ jobs_of ys
  jobs_of-append [] ys = refl
  jobs_of-append (x ∷ xs) ys = ap (λ l. x.job ∷ l) (jobs_of-append xs ys)

  -- a pass's own job more
  pub put_by-own : (p : ℕ) (jobs : List (Job C)) (x : Job C) → x.by ≡ p → put_by p (jobs ++ x ∷ []) ≡ put_by p jobs ++ x ∷ []
  put_by-own p jobs x is = filter-append (λ (j : Job C). j.by == p) jobs (x ∷ []) ∙ ap (λ b. put_by p jobs ++ cond b (x ∷ []) []) (eq-eqb x.by p is)

  -- another's
  pub put_by-other : (p : ℕ) (jobs : List (Job C)) (x : Job C) → x.by ≢ p → put_by p (jobs ++ x ∷ []) ≡ put_by p jobs
  put_by-other p jobs x other = filter-append (λ (j : Job C). j.by == p) jobs (x ∷ []) ∙ (ap (λ b. put_by p jobs ++ cond b (x ∷ []) []) (ne_eqb x.by p other) ∙ append-nil (put_by p jobs))

  -- a pass took one more
  pub took_by-own : (p : ℕ) (line : List (Take C)) (t : Take C) → t.taker ≡ p → took_by p (line ++ t ∷ []) ≡ took_by p line ++ t.job ∷ []
  took_by-own p line t is = ap jobs_of (filter-append (λ (u : Take C). u.taker == p) line (t ∷ []) ∙ ap (λ b. filter (λ (u : Take C). u.taker == p) line ++ cond b (t ∷ []) []) (eq-eqb t.taker p is))
      ∙ jobs_of-append (filter (λ (u : Take C). u.taker == p) line) (t ∷ [])

  -- another did
  pub took_by-other : (p : ℕ) (line : List (Take C)) (t : Take C) → t.taker ≢ p → took_by p (line ++ t ∷ []) ≡ took_by p line
  took_by-other p line t other = ap jobs_of (filter-append (λ (u : Take C). u.taker == p) line (t ∷ []) ∙ (ap (λ b. filter (λ (u : Take C). u.taker == p) line ++ cond b (t ∷ []) []) (ne_eqb t.taker p other) ∙ append-nil (filter (λ (u : Take C). u.taker == p) line)))

  -- the job at the front of the queue becomes the last that was taken
  pub moved : (line : List (Take C)) (t : Take C) (held : List (Job C)) → jobs_of (line ++ t ∷ []) ++ held ≡ jobs_of line ++ t.job ∷ held
  moved line t held = ap (λ l. l ++ held) (jobs_of-append line (t ∷ [])) ∙ append_assoc (jobs_of line) (t.job ∷ []) held

  -- one name more
  pub named_more : (n : ℕ) (jobs : List (Job C)) (x : Job C) → AreNamed n jobs → IsNamed (n + case_count jobs) x.work → AreNamed n (jobs ++ x ∷ [])
  named_more n [] x all new = (subst (λ k. IsNamed k x.work) (omega arith) new, tt)
  named_more n (j ∷ js) x all new = (all.0, named_more (n + is_case j.work) js x all.1 (subst (λ k. IsNamed k x.work) (omega arith) new))
