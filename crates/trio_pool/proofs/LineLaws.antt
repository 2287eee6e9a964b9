-- The laws of the line.
use Rattle.trio_pool.proofs.Words.{AreNamed, Case, IsNamed, Job, List, Some, Stop, Take, Work, [], ap, arith, case_job, cases_of, cond, eq-eqb, filter, inl, inr, is_case, jobs_of, lt_of_not-le, ne_eqb, put_by, refl, slice_get, subst, suc, sym, took_by, total, with_case, zero, ℕ, ◌+◌, ◌<◌, ◌==◌, ◌∙◌, ◌∷◌, ◌≡◌, ◌≤◌}
use Rattle.std.proofs.Common.{Bool, true, false}
use mathlib.Core.Logic.{dite}
use native.Mathlib.Decide.{ℕ_discrete, dec_le}
use Rattle.trio_pool.specs.Laws.{IsPart, sum_to, InOrder, EachOnce, ByName}

part_more : {A : Type 0} (xs ys : List A) (y : A) → IsPart xs ys → IsPart xs (y ∷ ys)
part_more [] ys y p = tt
part_more (x ∷ xs) ys y p = inr p

part_both : {A : Type 0} (b : Bool) (x : A) (xs ys : List A) → IsPart xs ys → IsPart (cond b (x ∷ xs) xs) (cond b (x ∷ ys) ys)
part_both true x xs ys p = inl (refl, p)
part_both false x xs ys p = p

part_right : {A : Type 0} (b : Bool) (x : A) (xs ys : List A) → IsPart xs ys → IsPart xs (cond b (x ∷ ys) ys)
part_right true x xs ys p = part_more xs ys x p
part_right false x xs ys p = p

pub in_order : {C : Type 0} → InOrder C
in_order [] p q = tt
in_order {C} (t ∷ line) p q = go (t.taker == q) (in_order line p q)
  where
    go : (a : Bool) → IsPart (put_by p (took_by q line)) (put_by p (jobs_of line)) → IsPart (put_by p (jobs_of (cond a (t ∷ filter (λ (u : Take C). u.taker == q) line) (filter (λ (u : Take C). u.taker == q) line)))) (cond (t.job.by == p) (t.job ∷ put_by p (jobs_of line)) (put_by p (jobs_of line)))
    go true rest = part_both (t.job.by == p) t.job (put_by p (took_by q line)) (put_by p (jobs_of line)) rest
    go false rest = part_right (t.job.by == p) t.job (put_by p (took_by q line)) (put_by p (jobs_of line)) rest

-- ---- sums over numbers

sum_zero : (n : ℕ) → sum_to n (λ q. 0) ≡ 0
sum_zero zero = refl
sum_zero (suc n) = let r = sum_zero n in omega arith

sum_same : (n : ℕ) (f g : ℕ → ℕ) → ((q : ℕ) → f q ≡ g q) → sum_to n f ≡ sum_to n g
sum_same zero f g e = e 0
sum_same (suc n) f g e = let a = e (suc n) in let r = sum_same n f g e in omega arith

sum_plus : (n : ℕ) (f g : ℕ → ℕ) → sum_to n (λ q. f q + g q) ≡ sum_to n f + sum_to n g
sum_plus zero f g = refl
sum_plus (suc n) f g = let r = sum_plus n f g in omega arith

-- one number alone, beyond the last one and not
sum_beyond : (n a v : ℕ) → n < a → sum_to n (λ q. cond (a == q) v 0) ≡ 0
sum_beyond zero a v lt = ap (λ b. cond b v 0) (ne_eqb a 0 (λ e. omega arith))
sum_beyond (suc n) a v lt = let here : cond (a == suc n) v 0 ≡ 0 = ap (λ b. cond b v 0) (ne_eqb a (suc n) (λ e. omega arith)) in let r = sum_beyond n a v (omega arith) in omega arith

sum_one : (n a v : ℕ) → a ≤ n → sum_to n (λ q. cond (a == q) v 0) ≡ v
sum_one zero a v le = ap (λ b. cond b v 0) (eq-eqb a 0 (omega arith))
sum_one (suc n) a v le = dite (ℕ_discrete a (suc n))
    (λ e. let here : cond (a == suc n) v 0 ≡ v = ap (λ b. cond b v 0) (eq-eqb a (suc n) e) in let r = sum_beyond n a v (omega arith) in omega arith)
    (λ ne. let here : cond (a == suc n) v 0 ≡ 0 = ap (λ b. cond b v 0) (ne_eqb a (suc n) ne) in let r = sum_one n a v (omega arith) in omega arith)

module _ {A : Type 0} (key : A → ℕ) (f : A → ℕ) where
  -- the elements with a key
  abbrev with_key : ℕ → List A → List A
  with_key q xs = filter (λ x. key x == q) xs

  total_head : (b : Bool) (x : A) (xs : List A) → total f (cond b (x ∷ xs) xs) ≡ cond b (f x) 0 + total f xs
  total_head true x xs = refl
  total_head false x xs = omega arith

  empty_rest : (b : Bool) (x : A) (xs : List A) → cond b (x ∷ xs) xs ≡ [] → xs ≡ []
  empty_rest true x xs e = absurd (cc e)
  empty_rest false x xs e = e

  -- what is weighed key by key
  pub by_keys : (n : ℕ) (xs : List A) → ((q : ℕ) → n < q → with_key q xs ≡ []) → sum_to n (λ q. total f (with_key q xs)) ≡ total f xs
  by_keys n [] none = sum_zero n
  by_keys n (x ∷ xs) none =
      let rest = by_keys n xs (λ q lt. empty_rest (key x == q) x (with_key q xs) (none q lt)) in
      let within : key x ≤ n = dite (dec_le (key x) n) (λ le. le) (λ gt. absurd (not_empty (none (key x) (lt_of_not-le gt)))) in
      let one = sum_one n (key x) (f x) within in
      let apart = sum_same n (λ q. total f (with_key q (x ∷ xs))) (λ q. cond (key x == q) (f x) 0 + total f (with_key q xs)) (λ q. total_head (key x == q) x (with_key q xs)) in
      let sum = sum_plus n (λ q. cond (key x == q) (f x) 0) (λ q. total f (with_key q xs)) in
      omega (arith, apart, sum, one, rest)
    where
      not_empty : with_key (key x) (x ∷ xs) ≡ [] → ⊥
      not_empty e = let all : x ∷ with_key (key x) xs ≡ [] = sym (ap (λ b. cond b (x ∷ with_key (key x) xs) (with_key (key x) xs)) (eq-eqb (key x) (key x) refl)) ∙ e in cc all

total_jobs : {C : Type 0} (f : Job C → ℕ) (ts : List (Take C)) → total f (jobs_of ts) ≡ total (λ (t : Take C). f t.job) ts
total_jobs f [] = refl
total_jobs f (t ∷ ts) = ap (λ n. f t.job + n) (total_jobs f ts)

jobs_none : {C : Type 0} (ts : List (Take C)) → jobs_of ts ≡ [] → ts ≡ []
jobs_none [] e = refl
jobs_none (t ∷ ts) e = absurd (cc e)

pub each_once : {C : Type 0} → EachOnce C
each_once {C} n line takers putters f =
    sum_same n (λ q. total f (took_by q line)) (λ q. total (λ (t : Take C). f t.job) (filter (λ (t : Take C). t.taker == q) line)) (λ q. total_jobs f (filter (λ (t : Take C). t.taker == q) line))
    ∙ (by_keys (λ (t : Take C). t.taker) (λ (t : Take C). f t.job) n line (λ q lt. jobs_none (filter (λ (t : Take C). t.taker == q) line) (takers q lt))
    ∙ (sym (total_jobs f line) ∙ sym (by_keys (λ (j : Job C). j.by) f n (jobs_of line) (λ p lt. putters p (omega arith)))))

module _ {C : Type 0} where
  get_skip : (b : Bool) (x j : Job C) (jobs : List (Job C)) → (i : ℕ) × (slice_get jobs i ≡ Some j) → (i : ℕ) × (slice_get (cond b (x ∷ jobs) jobs) i ≡ Some j)
  get_skip true x j jobs r = (suc r.0, r.1)
  get_skip false x j jobs r = r

  -- what was taken of a pass is among what it put
  took-put : (line : List (Take C)) (q k p : ℕ) (j : Job C) → j.by ≡ p → slice_get (took_by q line) k ≡ Some j → (i : ℕ) × (slice_get (put_by p (jobs_of line)) i ≡ Some j)
  took-put [] q k p j is e = absurd (cc e)
  took-put (t ∷ line) q k p j is e = go (t.taker == q) k e (λ m. took-put line q m p j is)
    where
      go : (a : Bool) (k : ℕ) → slice_get (jobs_of (cond a (t ∷ filter (λ (u : Take C). u.taker == q) line) (filter (λ (u : Take C). u.taker == q) line))) k ≡ Some j
          → ((m : ℕ) → slice_get (took_by q line) m ≡ Some j → (i : ℕ) × (slice_get (put_by p (jobs_of line)) i ≡ Some j))
          → (i : ℕ) × (slice_get (cond (t.job.by == p) (t.job ∷ put_by p (jobs_of line)) (put_by p (jobs_of line))) i ≡ Some j)
      go true zero e rest = let same : t.job ≡ j = cc e in
          (0, ap (λ b. slice_get (cond b (t.job ∷ put_by p (jobs_of line)) (put_by p (jobs_of line))) 0) (eq-eqb t.job.by p (ap (λ (x : Job C). x.by) same ∙ is)) ∙ e)
      go true (suc k) e rest = get_skip (t.job.by == p) t.job j (put_by p (jobs_of line)) (rest k e)
      go false k e rest = get_skip (t.job.by == p) t.job j (put_by p (jobs_of line)) (rest k e)

  -- a case of jobs that are named from n on stands at the place of its name
  named-get : (n : ℕ) (jobs : List (Job C)) (i p nth : ℕ) (case : C) → AreNamed n jobs → slice_get jobs i ≡ Some (case_job p nth case) → (m : ℕ) × (n + m ≡ nth) × (slice_get (cases_of jobs) m ≡ Some case)
  named-get n [] i p nth case names e = absurd (cc e)
  named-get n (j ∷ js) zero p nth case names e = let same : j ≡ case_job p nth case = cc e in
      let name : nth ≡ n = subst (λ (x : Job C). IsNamed n x.work) same names.0 in
      (0, omega arith, ap (λ (x : Job C). slice_get (with_case x.work (cases_of js)) 0) same)
  named-get n (j ∷ js) (suc i) p nth case names e = go j.work (named-get (n + is_case j.work) js i p nth case names.1 e)
    where
      go : (w : Work C) → (m : ℕ) × (n + is_case w + m ≡ nth) × (slice_get (cases_of js) m ≡ Some case) → (m : ℕ) × (n + m ≡ nth) × (slice_get (with_case w (cases_of js)) m ≡ Some case)
      go (Case k x) r = (suc r.0, omega (arith, r.1), r.2)
      go Stop r = (r.0, omega (arith, r.1), r.2)

pub by_name : {C : Type 0} → ByName C
by_name {C} line p names q k nth case there =
    let t = took-put line q k p (case_job p nth case) refl there in
    let n = named-get 0 (put_by p (jobs_of line)) t.0 p nth case names t.1 in
    let place : n.0 ≡ nth = omega (arith, n.1) in
    subst (λ m. slice_get (cases_of (put_by p (jobs_of line))) m ≡ Some case) place n.2
