-- What gathering the passes and taking what is left owe.
use Rattle.trio_pool.proofs.Words.{Account, AccountAgrees, Agrees, AllNew, Case, Closing, Counted, Emptied, HasAll, HasEach, Held, IsNew, IsUnused, Job, Knows, List, None, Option, Pool, PoolPass, Some, Stop, Take, View, Work, [], account, ap, arith, both, cases_of, cond, either_next, eq-eqb, inl, inr, jobs_of, known_count, knows, length, length-append, ne_eqb, number, own_number, own_sent, own_took, put_by, refl, sent_count, slice_get, subst, suc, sym, times, took_count, view_of, with_case, with_took, zero, ℕ, ⊎_elim, ◌++◌, ◌+◌, ◌-◌, ◌<◌, ◌∙◌, ◌∷◌, ◌≡◌, ◌≢◌, ◌≤◌, ◌⊎◌}
use mathlib.Core.Option.{some}
use mathlib.Core.List.{append-nil}
use mathlib.Core.Logic.{dite}
use native.Mathlib.Decide.{ℕ_discrete}
use lib.ListN.{get_elem?}
use Rattle.crossbeam_queue.proofs.Lists.{at_longer}
use Rattle.trio_pool.specs.Passes.{OfEach, EveryPass, AreOneLine}
use Rattle.trio_pool.specs.inner.Closing.{account_of}
use Rattle.trio_pool.proofs.Keeps.{times_here}
use Rattle.trio_pool.proofs.Owed.{one_account}

pub get_last : {A : Type 0} (xs : List A) (x : A) → slice_get (xs ++ x ∷ []) (length xs) ≡ Some x
get_last [] x = refl
get_last (y ∷ ys) x = get_last ys x

pub get_front : {A : Type 0} (xs ys : List A) (k : ℕ) (x : A) → slice_get xs k ≡ Some x → slice_get (xs ++ ys) k ≡ Some x
get_front [] ys k x e = absurd (cc e)
get_front (y ∷ xs) ys zero x e = e
get_front (y ∷ xs) ys (suc k) x e = get_front xs ys k x e

get_right : {A : Type 0} (l m : List A) (i : ℕ) (a : A) → get_elem? m i ≡ some a → get_elem? (l ++ m) (length l + i) ≡ some a
get_right {A = A} l m i a e = go l (length l + i) refl
  where
    go : (l : List A) (k : ℕ) → length l + i ≡ k → get_elem? (l ++ m) k ≡ some a
    go [] k is = subst (λ n. get_elem? m n ≡ some a) (omega arith) e
    go (x ∷ xs) zero is = absurd (omega arith)
    go (x ∷ xs) (suc k) is = go xs k (omega arith)

pub push_cases : {A : Type 0} (xs : List A) (x y : A) (k : ℕ) → slice_get (xs ++ x ∷ []) k ≡ Some y → (slice_get xs k ≡ Some y) ⊎ ((k ≡ length xs) × (x ≡ y))
push_cases [] x y zero e = inr (refl, cc e)
push_cases [] x y (suc k) e = absurd (cc e)
push_cases (z ∷ xs) x y zero e = inl e
push_cases (z ∷ xs) x y (suc k) e = ⊎_elim inl (λ t. inr (ap suc t.0, t.1)) (push_cases xs x y k e)

module _ {C : Type 0} where
  -- one new pass more
  pub new_more : (q : Pool C) (ps more : List (PoolPass C)) (n : ℕ) (p : PoolPass C) → more ≡ ps ++ p ∷ [] → length ps ≡ n → AllNew q ps → IsNew q n p → AllNew q more
  new_more q ps more n p is long all new k u e = ⊎_elim (λ was. all k u was)
      (λ (t : (k ≡ length ps) × (p ≡ u)). subst (λ (z : ℕ × PoolPass C). IsNew q z.0 z.1) (λ i. (sym (t.0 ∙ long) i, t.1 i)) new)
      (push_cases ps p u k (ap (λ l. slice_get l k) (sym is) ∙ e))

  account_is : (p : PoolPass C) → get_elem? p.token.me.0.client.accounts 0 ≡ some (account_of p)
  account_is p = let o = one_account p.token.me.0.client.accounts p.alone in
      let same : o.0 ≡ account_of p = λ i. account ((sym (ap own_number o.1) ∙ p.numbered) i) (sym (ap own_sent o.1) i) (sym (ap own_took o.1) i) in
      ap (λ l. get_elem? l 0) o.1 ∙ ap some same

  pub has_one : (p : PoolPass C) → HasEach p.token.me.0.client.accounts (p ∷ [])
  has_one p zero u e = let same : p ≡ u = cc e in (0, account_is p ∙ ap (λ z. some (account_of z)) same)
  has_one p (suc k) u e = absurd (cc e)

  pub knows_one : (n : ℕ) (p : PoolPass C) → knows p ≡ known_count n (number p) → Knows n p.token.me.0.client.next (p ∷ [])
  knows_one n p known = dite (ℕ_discrete (number p + 1) n) (λ e. inl (known ∙ ap (λ b. cond b (Some n) None) (eq-eqb (number p + 1) n e)))
      (λ ne. inr (known ∙ ap (λ b. cond b (Some n) None) (ne_eqb (number p + 1) n ne), others ne))
    where
      others : number p + 1 ≢ n → OfEach (λ u. number u + 1 ≢ n) (p ∷ [])
      others ne zero u e = λ is. let same : p ≡ u = cc e in ne (ap (λ z. number z + 1) same ∙ is)
      others ne (suc k) u e = absurd (cc e)

  -- a pass more was joined
  pub has_more : (v w : View C) (ps : List (PoolPass C)) (p : PoolPass C) → w ≡ both v p.token.me.0.client → HasEach v.accounts ps → HasEach w.accounts (p ∷ ps)
  has_more v w ps p is all k u e = let r = go k e in (r.0, ap (λ (z : View C). get_elem? z.accounts r.0) is ∙ r.1)
    where
      go : (k : ℕ) → slice_get (p ∷ ps) k ≡ Some u → (i : ℕ) × (get_elem? (v.accounts ++ p.token.me.0.client.accounts) i ≡ some (account_of u))
      go zero e = let same : p ≡ u = cc e in (length v.accounts + 0, get_right v.accounts p.token.me.0.client.accounts 0 (account_of u) (account_is p ∙ ap (λ z. some (account_of z)) same))
      go (suc k) e = let r = all k u e in (r.0, at_longer v.accounts p.token.me.0.client.accounts r.0 (account_of u) r.1)

  pub knows_more : (n : ℕ) (v w : View C) (ps : List (PoolPass C)) (p : PoolPass C) → w ≡ both v p.token.me.0.client → Knows n v.next ps → knows p ≡ known_count n (number p) → Knows n w.next (p ∷ ps)
  knows_more n v w ps p is old known = let next : w.next ≡ either_next v.next (knows p) = ap (λ (z : View C). z.next) is in
      ⊎_elim (λ a. inl (next ∙ ap (λ m. either_next m (knows p)) a))
      (λ a. ⊎_elim (λ b. inl (next ∙ (ap (λ m. either_next m (knows p)) a.0 ∙ b))) (λ b. inr (next ∙ (ap (λ m. either_next m (knows p)) a.0 ∙ b.0), others a.1 b.1)) (knows_one n p known)) old
    where
      others : OfEach (λ u. number u + 1 ≢ n) ps → OfEach (λ u. number u + 1 ≢ n) (p ∷ []) → OfEach (λ u. number u + 1 ≢ n) (p ∷ ps)
      others a b zero u e = b 0 u e
      others a b (suc k) u e = a k u e

  pub knows_all : (n : ℕ) (next : Option ℕ) (ps : List (PoolPass C)) → 0 < n → EveryPass n ps → Knows n next ps → next ≡ Some n
  knows_all n next ps low every known = ⊎_elim (λ a. a) (λ a. let e = every (n - 1) (omega arith) in absurd (a.1 e.0 e.1 e.2 (omega (arith, e.3)))) known

  -- the view that takes what is left has every account
  pub all_there : (n : ℕ) (left : List (Job C)) (accounts : List (Account C)) (ps : List (PoolPass C)) (v : View C) → v ≡ view_of (Some (n + 1)) (account n [] left ∷ accounts) → HasEach accounts ps → EveryPass n ps → HasAll v
  all_there n left accounts ps v is each every = (n + 1, ap (λ (z : View C). z.next) is, λ p lt. subst (λ (z : View C). 1 ≤ times p z.accounts) (sym is) (go p lt))
    where
      go : (p : ℕ) → p < n + 1 → 1 ≤ times p (account n [] left ∷ accounts)
      go p lt = dite (ℕ_discrete n p) (λ e. times_here (account n [] left ∷ accounts) 0 (account n [] left) p refl e)
          (λ ne. let e = every p (omega arith) in let i = each e.0 e.1 e.2 in times_here (account n [] left ∷ accounts) (suc i.0) (account_of e.1) p i.1 e.3)

  pub cases_of-append : (xs ys : List (Job C)) → cases_of (xs ++ ys) ≡ cases_of xs ++ cases_of ys
  cases_of-append [] ys = refl
  cases_of-append (x ∷ xs) ys = ap (with_case x.work) (cases_of-append xs ys) ∙ front x.work (cases_of xs) (cases_of ys)
    where
      front : (w : Work C) (ms ns : List C) → with_case w (ms ++ ns) ≡ with_case w ms ++ ns
      front (Case nth case) ms ns = refl
      front Stop ms ns = refl

  -- one job more was taken
  pub closing_more : (n room : ℕ) (ps : List (PoolPass C)) (v w : View C) (x : Job C) (cases new : List C) → Closing n room ps v cases → Emptied v x w → new ≡ cases ++ with_case x.work [] → Closing n room ps w new
  closing_more n room ps v w x cases new k e is =
      let now : w ≡ view_of (Some (n + 1)) (account n [] (k.left ++ x ∷ []) ∷ k.accounts) = e.0 ∙ ap (λ (z : View C). view_of z.next (with_took z.accounts x)) k.view_is in
      let a = ap sent_count now in let b = ap sent_count k.view_is in let c = ap took_count now in let d = ap took_count k.view_is in record {
        left = k.left ++ x ∷ [];
        accounts = k.accounts;
        view_is = now;
        each = k.each;
        cases_is = cases_of-append k.left (x ∷ []) ∙ (ap (λ l. l ++ with_case x.work []) k.cases_is ∙ sym is);
        fits = let f = k.fits in let short = ap length is ∙ length-append cases (with_case x.work []) in let one = one_case x.work in omega (arith, length-append k.left (x ∷ []));
      }
    where
      one_case : (w : Work C) → length (with_case w []) ≤ 1
      one_case (Case nth case) = omega arith
      one_case Stop = omega arith

  -- there is room for one case more
  pub closing_room : (n room : ℕ) (ps : List (PoolPass C)) (v w : View C) (x : Job C) (cases : List C) → Closing n room ps v cases → Emptied v x w → length cases < room
  closing_room n room ps v w x cases k e = let f = k.fits in let more = e.1 in omega arith

  -- nothing is left
  pub closed : (n room : ℕ) (ps : List (PoolPass C)) (v : View C) (cases : List C) → Closing n room ps v cases → Held 0 (Counted v) → (left : List (Job C)) × (cases_of left ≡ cases) × AreOneLine n ps left
  closed n room ps v cases k h = (
    k.left,
    k.cases_is,
    record {
      line = line;
      sent_is = λ i p there. (at (suc (k.each i p there).0) (account_of p) (k.each i p there).1).sent_is ∙ whole (number p);
      took_is = λ i p there. (at (suc (k.each i p there).0) (account_of p) (k.each i p there).1).took_is;
      left_is = (at 0 (account n [] k.left) refl).took_is;
      named = λ i p there. (at (suc (k.each i p there).0) (account_of p) (k.each i p there).1).named;
      no_other_put = λ q le. dite (ℕ_discrete n q) (λ e. ap (λ m. put_by m (jobs_of line)) (sym e) ∙ sym ((at 0 (account n [] k.left) refl).sent_is ∙ whole n))
          (λ ne. sym (whole q) ∙ (beyond q (omega arith)).0);
      no_other_took = λ q lt. (beyond q (omega arith)).1;
    },
  )
    where
      line : List (Take C)
      line = h.2.0.0

      none : (l : List (Job C)) → length l ≡ 0 → l ≡ []
      none [] e = refl
      none (x ∷ xs) e = absurd (omega arith)

      agrees : Agrees line [] (view_of (Some (n + 1)) (account n [] k.left ∷ k.accounts))
      agrees = subst (λ (z : List (Job C) × View C). Agrees line z.0 z.1) (λ i. (none h.0 h.1 i, k.view_is i)) h.2.0.1

      at : (i : ℕ) (f : Account C) → get_elem? (account n [] k.left ∷ k.accounts) i ≡ some f → AccountAgrees line [] f
      at i f e = agrees.each_account i f e

      whole : (q : ℕ) → put_by q (jobs_of line ++ []) ≡ put_by q (jobs_of line)
      whole q = ap (put_by q) (append-nil (jobs_of line))

      beyond : (q : ℕ) → n + 1 ≤ q → IsUnused line [] q
      beyond q le = agrees.undealt q le
