-- Each kind of step keeps the rule.
use Rattle.trio_pool.proofs.Words.{Account, AccountAgrees, Agrees, IfSome, IsNamed, IsUnused, Job, Kept, Learns, List, None, Option, Pops, Pushes, Put, Some, Stands, Take, Took, View, [], account, ap, append_assoc, arith, case_count, cond, deals, eq-eqb, jobs_of, length, length-append, places, put_by, refl, sent_count, set, subst, suc, sym, times, took_count, total, view_of, with_sent, with_took, zero, ℕ, ◌++◌, ◌+◌, ◌==◌, ◌∙◌, ◌∷◌, ◌≡◌, ◌≢◌, ◌≤◌}
use mathlib.Core.Option.{some, some-injective, some-ne-none}
use lib.ListN.{get_elem?}
use Rattle.trio_pool.proofs.Lists.{total_set, total_at, total_two, each_set}
use Rattle.trio_pool.proofs.Jobs.{put_by-own, put_by-other, took_by-own, took_by-other, moved, named_more}

pub if_some : (next : Option ℕ) (P Q : ℕ → Type 0) → ((n : ℕ) → P n → Q n) → IfSome next P → IfSome next Q
if_some (Some n) P Q f x = f n x
if_some None P Q f x = x

module _ {C : Type 0} where
  -- an account is among those of a view
  pub times_here : (hs : List (Account C)) (k : ℕ) (h : Account C) (p : ℕ) → get_elem? hs k ≡ some h → h.number ≡ p → 1 ≤ times p hs
  times_here hs k h p at is = subst (λ z. z ≤ times p hs) (ap (λ b. cond {A = ℕ} b 1 0) (eq-eqb h.number p is)) (total_at (λ (g : Account C). cond {A = ℕ} (g.number == p) 1 0) hs k h at)

  -- no other account has the number of the first account of a view
  others : (held : List (Job C)) (views : List (View C)) (r : Kept held views) (id : ℕ) (v : View C) (h : Account C) (hs : List (Account C)) → get_elem? views id ≡ some v → v.accounts ≡ h ∷ hs
      → ((j : ℕ) (u : View C) → j ≢ id → get_elem? views j ≡ some u → (k : ℕ) (g : Account C) → get_elem? u.accounts k ≡ some g → h.number ≢ g.number)
      × ((k : ℕ) (g : Account C) → get_elem? hs k ≡ some g → h.number ≢ g.number)
  others held views r id v h hs at is =
      let o = r.once h.number in
      let mine : 1 ≤ times h.number v.accounts = subst (λ z. 1 ≤ times h.number z) (sym is) (times_here (h ∷ hs) 0 h h.number refl refl) in (
        (λ j u other there k g found e.
            let two = total_two (λ (z : View C). times h.number z.accounts) views j id u v other there at in
            let one = times_here u.accounts k g h.number found (sym e) in absurd (omega arith)),
        (λ k g found e.
            let all = total_at (λ (z : View C). times h.number z.accounts) views id v at in
            let one = times_here hs k g h.number found (sym e) in
            let split : times h.number v.accounts ≡ 1 + times h.number hs = ap (times h.number) is ∙ ap (λ b. cond {A = ℕ} b 1 0 + times h.number hs) (eq-eqb h.number h.number refl) in absurd (omega arith)),
      )

  -- one that stands nowhere isn't the first account of a view
  not_first : (held : List (Job C)) (views : List (View C)) (id : ℕ) (v : View C) (h : Account C) (hs : List (Account C)) (p : ℕ) → get_elem? views id ≡ some v → v.accounts ≡ h ∷ hs → places p views ≡ 0 → h.number ≢ p
  not_first held views id v h hs p at is none e =
      let all = total_at (λ (z : View C). times p z.accounts) views id v at in
      let one : 1 ≤ times p v.accounts = subst (λ z. 1 ≤ times p z) (sym is) (times_here (h ∷ hs) 0 h p refl e) in absurd (omega arith)

  -- the accounts of a view whose first one changed but for its number
  times_same : (h g : Account C) (hs : List (Account C)) (p : ℕ) → g.number ≡ h.number → times p (g ∷ hs) ≡ times p (h ∷ hs)
  times_same h g hs p same = ap (λ n. cond {A = ℕ} (n == p) 1 0 + times p hs) same

  pub puts : (n id : ℕ) (v : View C) (x : Job C) (h : Account C) → v.accounts ≡ h ∷ [] → x.by ≡ h.number → IsNamed (case_count h.sent) x.work → Pushes Kept n id v x (Put v x)
  puts n id v x h is mine name held views room r at =
      let g : Account C = account h.number (h.sent ++ x ∷ []) h.took in
      let w : View C = view_of v.next (g ∷ []) in
      let o = others held views r id v h [] at is in
      let longer = λ (line : List (Take C)). sym (append_assoc (jobs_of line) held (x ∷ [])) in
      let same_times = λ (p : ℕ). ap (times p) is in
      let now_times = λ (p : ℕ). total_set (λ (u : View C). times p u.accounts) views id v w at in
      let same : (p : ℕ) → places p (set views id w) ≡ places p views = λ p. let a = now_times p in let b = same_times p in let c = times_same h g [] p refl in omega arith in
      let old = r.each_account id v at 0 h (ap (λ l. get_elem? l 0) is) in (
        w,
        record {
          line = r.line;
          each_account = each_set (λ j (u : View C). (k : ℕ) (f : Account C) → get_elem? u.accounts k ≡ some f → AccountAgrees r.line (held ++ x ∷ []) f) views id w
              (own r.line old)
              (λ j u other there k f found. stays r.line f (o.0 j u other there k f found) (r.each_account j u there k f found));
          once = λ p. let a = same p in let b = r.once p in omega arith;
          nowhere = λ p none. let was : places p views ≡ 0 = sym (same p) ∙ none in let b = r.nowhere p was in let c = not_first held views id v h [] p at is was in
              (ap (put_by p) (longer r.line) ∙ (put_by-other p (jobs_of r.line ++ held) x (λ e. c (sym mine ∙ e)) ∙ b.0), b.1);
          one_dealer = let a = total_set (λ (u : View C). deals u.next) views id v w at in let b = r.one_dealer in omega arith;
          undealt = each_set (λ j (u : View C). IfSome u.next (λ n. (p : ℕ) → n ≤ p → places p (set views id w) ≡ 0)) views id w
              (more v.next same (r.undealt id v at)) (λ j u other there. more u.next same (r.undealt j u there));
          balance = let a = total_set sent_count views id v w at in let b = total_set took_count views id v w at in let c = r.balance in
              let d : sent_count v ≡ length h.sent + 0 = ap (λ l. total (λ (f : Account C). length f.sent) l) is in
              let e : took_count v ≡ length h.took + 0 = ap (λ l. total (λ (f : Account C). length f.took) l) is in
              omega (arith, length-append held (x ∷ []), length-append h.sent (x ∷ []));
        },
        ap (view_of v.next) (sym (ap (λ l. with_sent l x) is)),
      )
    where
      more : (next : Option ℕ) → ((p : ℕ) → places p (set views id (view_of v.next (account h.number (h.sent ++ x ∷ []) h.took ∷ []))) ≡ places p views)
          → IfSome next (λ n. (p : ℕ) → n ≤ p → places p views ≡ 0) → IfSome next (λ n. (p : ℕ) → n ≤ p → places p (set views id (view_of v.next (account h.number (h.sent ++ x ∷ []) h.took ∷ []))) ≡ 0)
      more next same e = if_some next (λ n. (p : ℕ) → n ≤ p → places p views ≡ 0) (λ n. (p : ℕ) → n ≤ p → places p (set views id (view_of v.next (account h.number (h.sent ++ x ∷ []) h.took ∷ []))) ≡ 0) (λ n f p le. same p ∙ f p le) e

      stays : (line : List (Take C)) (f : Account C) → h.number ≢ f.number → AccountAgrees line held f → AccountAgrees line (held ++ x ∷ []) f
      stays line f other a = record {
        sent_is = a.sent_is ∙ sym (ap (put_by f.number) (sym (append_assoc (jobs_of line) held (x ∷ []))) ∙ put_by-other f.number (jobs_of line ++ held) x (λ e. other (sym mine ∙ e)));
        took_is = a.took_is;
        named = a.named;
      }

      own : (line : List (Take C)) → AccountAgrees line held h → (k : ℕ) (f : Account C) → get_elem? (account h.number (h.sent ++ x ∷ []) h.took ∷ []) k ≡ some f → AccountAgrees line (held ++ x ∷ []) f
      own line a zero f e = subst (AccountAgrees line (held ++ x ∷ [])) (some-injective (account h.number (h.sent ++ x ∷ []) h.took) f e) record {
        sent_is = ap (λ l. l ++ x ∷ []) a.sent_is ∙ sym (ap (put_by h.number) (sym (append_assoc (jobs_of line) held (x ∷ []))) ∙ put_by-own h.number (jobs_of line ++ held) x mine);
        took_is = a.took_is;
        named = named_more 0 h.sent x a.named (subst (λ n. IsNamed n x.work) (omega arith) name);
      }
      own line a (suc k) f e = absurd (some-ne-none f (sym e))

  pub takes : (id : ℕ) (v : View C) (h : Account C) (hs : List (Account C)) → v.accounts ≡ h ∷ hs → Pops Kept id v (Took v)
  takes id v h hs is x held views r at =
      let t : Take C = record { taker = h.number; job = x } in
      let g : Account C = account h.number h.sent (h.took ++ x ∷ []) in
      let w : View C = view_of v.next (g ∷ hs) in
      let o = others (x ∷ held) views r id v h hs at is in
      let same_times = λ (p : ℕ). ap (times p) is in
      let same : (p : ℕ) → places p (set views id w) ≡ places p views = λ p. let a = total_set (λ (u : View C). times p u.accounts) views id v w at in let b = same_times p in let c = times_same h g hs p refl in omega arith in
      let was = λ (k : ℕ). ap (λ l. get_elem? l k) is in
      let old = r.each_account id v at 0 h (was 0) in (
        w,
        record {
          line = r.line ++ t ∷ [];
          each_account = each_set (λ j (u : View C). (k : ℕ) (f : Account C) → get_elem? u.accounts k ≡ some f → AccountAgrees (r.line ++ t ∷ []) held f) views id w
              (own r.line old (λ k f found. stays r.line f (o.1 k f found) (r.each_account id v at (suc k) f (was (suc k) ∙ found))))
              (λ j u other there k f found. stays r.line f (o.0 j u other there k f found) (r.each_account j u there k f found));
          once = λ p. let a = same p in let b = r.once p in omega arith;
          nowhere = λ p none. let none_was : places p views ≡ 0 = sym (same p) ∙ none in let b = r.nowhere p none_was in let c = not_first (x ∷ held) views id v h hs p at is none_was in
              (ap (put_by p) (moved r.line t held) ∙ b.0, took_by-other p r.line t c ∙ b.1);
          one_dealer = let a = total_set (λ (u : View C). deals u.next) views id v w at in let b = r.one_dealer in omega arith;
          undealt = each_set (λ j (u : View C). IfSome u.next (λ n. (p : ℕ) → n ≤ p → places p (set views id w) ≡ 0)) views id w
              (more w v.next same (r.undealt id v at)) (λ j u other there. more w u.next same (r.undealt j u there));
          balance = let a = total_set sent_count views id v w at in let b = total_set took_count views id v w at in let c = r.balance in
              let d : sent_count v ≡ length h.sent + total (λ (f : Account C). length f.sent) hs = ap (λ l. total (λ (f : Account C). length f.sent) l) is in
              let e : took_count v ≡ length h.took + total (λ (f : Account C). length f.took) hs = ap (λ l. total (λ (f : Account C). length f.took) l) is in
              omega (arith, length-append h.took (x ∷ []));
        },
        ap (view_of v.next) (sym (ap (λ l. with_took l x) is)),
      )
    where
      more : (w : View C) (next : Option ℕ) → ((p : ℕ) → places p (set views id w) ≡ places p views)
          → IfSome next (λ n. (p : ℕ) → n ≤ p → places p views ≡ 0) → IfSome next (λ n. (p : ℕ) → n ≤ p → places p (set views id w) ≡ 0)
      more w next same e = if_some next (λ n. (p : ℕ) → n ≤ p → places p views ≡ 0) (λ n. (p : ℕ) → n ≤ p → places p (set views id w) ≡ 0) (λ n f p le. same p ∙ f p le) e

      now : List (Take C) → List (Take C)
      now line = line ++ record { taker = h.number; job = x } ∷ []

      stays : (line : List (Take C)) (f : Account C) → h.number ≢ f.number → AccountAgrees line (x ∷ held) f → AccountAgrees (now line) held f
      stays line f other a = record {
        sent_is = a.sent_is ∙ sym (ap (put_by f.number) (moved line (record { taker = h.number; job = x }) held));
        took_is = a.took_is ∙ sym (took_by-other f.number line (record { taker = h.number; job = x }) other);
        named = a.named;
      }

      own : (line : List (Take C)) → AccountAgrees line (x ∷ held) h → ((k : ℕ) (f : Account C) → get_elem? hs k ≡ some f → AccountAgrees (now line) held f)
          → (k : ℕ) (f : Account C) → get_elem? (account h.number h.sent (h.took ++ x ∷ []) ∷ hs) k ≡ some f → AccountAgrees (now line) held f
      own line a rest zero f e = subst (AccountAgrees (now line) held) (some-injective (account h.number h.sent (h.took ++ x ∷ [])) f e) record {
        sent_is = a.sent_is ∙ sym (ap (put_by h.number) (moved line (record { taker = h.number; job = x }) held));
        took_is = ap (λ l. l ++ x ∷ []) a.took_is ∙ sym (took_by-own h.number line (record { taker = h.number; job = x }) refl);
        named = a.named;
      }
      own line a rest (suc k) f e = rest k f e

  -- what a view knows of one line of all takes
  pub agrees : (held : List (Job C)) (views : List (View C)) (r : Kept held views) (id : ℕ) (v : View C) → get_elem? views id ≡ some v → Agrees r.line held v
  agrees held views r id v at = record {
    each_account = r.each_account id v at;
    undealt = if_some v.next (λ n. (p : ℕ) → n ≤ p → places p views ≡ 0) (λ n. (p : ℕ) → n ≤ p → IsUnused r.line held p) (λ n f p le. r.nowhere p (f p le)) (r.undealt id v at);
  }

  pub stands : (id : ℕ) (v : View C) → Learns Kept id v (Stands v)
  stands id v held views r at = (r.line, agrees held views r id v at)
