-- The rule at the start, and what it says at the end.
use Rattle.trio_turn.proofs.Words.{◌++◌, ◌+◌, ◌<◌, ◌==◌, ◌∙◌, ◌∷◌, ◌≡◌, ◌≢◌, ◌≤◌, Entry, Final, GrewBy, Idle, IsPlaced, IsQueued, Library, LibraryAgrees, List, Mark, Option, Origin, Seen, Some, State, TicketRule, View, ViewAgrees, [], ap, arith, cond, eq-eqb, filter-append, held, inl, inr, length, made_by, maker, ne_eqb, refl, subst, suc, sym, tickets, times, zero, ℕ}
use Rattle.std.proofs.Common.{All}
use mathlib.Core.Logic.{dite}
use mathlib.Core.List.{IsPrefix, append-nil}
use mathlib.Core.Option.{some, some-injective, some-ne-none}
use native.Mathlib.Decide.{ℕ_discrete}
use lib.ListN.{get_elem?}
use Rattle.atomic_table.specs.Table.{opening}
use Rattle.trio_turn.specs.inner.Steps.{lined_up, starting}
use Rattle.trio_turn.proofs.Lists.{total_two}
use Rattle.trio_turn.proofs.Keeps.{not_in_turn}
use Rattle.trio_turn.proofs.Counts.{times_here}

module _ {T : Type 0} (first : T → Origin) (log : T → List Entry) (begun : T → ℕ → Mark) where
  -- what is true of the libraries in the line
  lined : (x : T) (n a m : ℕ) (k : ℕ) (p : Library) → log x ≡ [] → 1 ≤ a → a + m ≡ n + 1 → get_elem? (lined_up first log begun x a m) k ≡ some p → LibraryAgrees first log begun x n [] p
  lined x n a zero k p empty low is e = absurd (some-ne-none p (sym e))
  lined x n a (suc m) zero p empty low is e = subst (LibraryAgrees first log begun x n []) (some-injective _ _ e) record { one_of_them = (low, omega arith); began = refl; saw = ([], refl); all_seen = ap (made_by a) empty; mark = refl }
  lined x n a (suc m) (suc k) p empty low is e = lined x n (suc a) m k p empty (omega arith) (omega arith) e

  none_before : (x : T) (l a m : ℕ) → l < a → times l (lined_up first log begun x a m) ≡ 0
  none_before x l a zero lt = refl
  none_before x l a (suc m) lt = let r = none_before x l (suc a) m (omega arith) in
      ap (λ b. cond {A = ℕ} b 1 0 + times l (lined_up first log begun x (suc a) m)) (ne_eqb a l (λ e. omega arith)) ∙ omega arith

  once_in_line : (x : T) (l a m : ℕ) → times l (lined_up first log begun x a m) ≤ 1
  once_in_line x l a zero = omega arith
  once_in_line x l a (suc m) = dite (ℕ_discrete a l)
      (λ e. let r = none_before x l (suc a) m (omega arith) in subst (λ b. cond {A = ℕ} b 1 0 + times l (lined_up first log begun x (suc a) m) ≤ 1) (sym (eq-eqb a l e)) (omega arith))
      (λ ne. let r = once_in_line x l (suc a) m in subst (λ b. cond {A = ℕ} b 1 0 + times l (lined_up first log begun x (suc a) m) ≤ 1) (sym (ne_eqb a l ne)) (omega arith))

  pub begins : (x : T) (n : ℕ) → log x ≡ [] → TicketRule first log begun n (opening (0 ∷ 0 ∷ 0 ∷ []) (Some x ∷ []) (starting first log begun n x))
  begins x n empty = record {
    ticket = 0;
    serving = 0;
    value = x;
    words = ap (λ (l : List Entry). 0 ∷ 0 ∷ length l ∷ []) (sym empty);
    queue = omega arith;
    apart = λ t. omega arith;
    queued = λ j v at. quiet j v at;
    placed = inl refl;
    each_view = fits;
    once = λ l. let a = once_in_line x l 1 n in omega arith;
  }
    where
      fits : (j : ℕ) (v : View T) → get_elem? (starting first log begun n x ∷ []) j ≡ some v → ViewAgrees first log begun x n v
      fits zero v at = subst (ViewAgrees first log begun x n) (some-injective _ _ at) record {
        first_is = refl;
        saw = (log x, refl);
        met = (log x, refl);
        each_library = λ k p e. lined x n 1 n k p empty (omega arith) (omega arith) e;
        own = λ h. absurd (omega arith);
      }
      fits (suc j) v at = absurd (some-ne-none v (sym at))

      quiet : (j : ℕ) (v : View T) → get_elem? (starting first log begun n x ∷ []) j ≡ some v → IsQueued 0 0 x (some (Some x) ∷ []) v.stage
      quiet zero v at = subst (λ (u : View T). IsQueued 0 0 x (some (Some x) ∷ []) u.stage) (some-injective _ _ at) tt
      quiet (suc j) v at = absurd (some-ne-none v (sym at))

  -- the slot is home at the end, where each library is of one view that isn't in its turn
  pub closes : (n id : ℕ) (v : View T) (words : List ℕ) (slots : List (Option T)) → v.stage ≡ Idle
      → ((l : ℕ) → 1 ≤ l → l ≤ n → (i : ℕ) × (p : Library) × (get_elem? v.libraries i ≡ some p) × (p.number ≡ l))
      → Final (Seen (TicketRule first log begun n) id v) words slots
      → (x : T) × (get_elem? slots 0 ≡ some (Some x)) × IsPrefix v.seen (log x) × ((i : ℕ) (p : Library) → get_elem? v.libraries i ≡ some p → LibraryAgrees first log begun x n v.seen p)
  closes n id v words slots idle every end = let s = end.0 in let r = end.1.0 in let at = end.1.1 in let f = r.each_view id v at in
      (r.value, end.4 0 (Some r.value) (ap (λ hs. get_elem? hs 0) (home s r at r.placed)), f.saw, f.each_library)
    where
      home : (s : State (Option T) (View T)) (r : TicketRule first log begun n s) → get_elem? s.views id ≡ some v → IsPlaced r.value s.homes s.views → s.homes ≡ some (Some r.value) ∷ []
      home s r at (inl h) = h
      home s r at (inr o) = let j = o.1.0 in let u = o.1.1 in let there = o.1.2 in let t = o.1.3.0 in let e = o.1.3.1 in let g = r.each_view j u there in
          let has = g.own (subst (λ (k : ℕ). 0 < k) (sym (ap tickets e)) (omega arith)) in let q = head u.libraries has in let known = g.each_library 0 q.0 q.1 in
          let same = every q.0.number known.one_of_them.0 known.one_of_them.1 in
          let other : j ≢ id = λ is. not_in_turn v.stage t r.value (ap held idle)
          (ap (λ (z : View T). z.stage) (some-injective v u (sym at ∙ (ap (λ k. get_elem? s.views k) (sym is) ∙ there))) ∙ e) in
          let two = total_two (λ (z : View T). times q.0.number z.libraries) s.views j id u v other there at in let once = r.once q.0.number in
          let a = times_here u.libraries 0 q.0 q.0.number q.1 refl in let b = times_here v.libraries same.0 same.1 q.0.number same.2 same.3 in absurd (omega arith)
        where
          head : (ps : List Library) → 0 < length ps → (p : Library) × (get_elem? ps 0 ≡ some p)
          head [] h = absurd (omega arith)
          head (p ∷ ps) h = (p, refl)

-- what grew by entries of one library has the same entries of another
only : (l k : ℕ) (added : List Entry) → All (λ (e : Entry). maker e ≡ l) added → k ≢ l → made_by k added ≡ []
only l k [] all other = refl
only l k (e ∷ es) all other =
    let mine : maker e ≡ l = all 0 e (omega arith) in
    ap (λ b. cond b (e ∷ made_by k es) (made_by k es)) (ne_eqb (maker e) k (λ same. other (sym same ∙ mine)))
    ∙ only l k es (λ i d lt. all (suc i) d (omega arith)) other

pub grew_prefix : (l : ℕ) (xs ys : List Entry) → GrewBy l xs ys → IsPrefix xs ys
grew_prefix l xs ys g = (g.0, g.1)

pub grew_others : (l : ℕ) (xs ys : List Entry) → GrewBy l xs ys → (k : ℕ) → k ≢ l → made_by k ys ≡ made_by k xs
grew_others l xs ys g k other = ap (made_by k) (sym g.1) ∙ (filter-append (λ (e : Entry). maker e == k) xs g.0 ∙ (ap (λ w. made_by k xs ++ w) (only l k g.0 g.2 other) ∙ append-nil (made_by k xs)))
