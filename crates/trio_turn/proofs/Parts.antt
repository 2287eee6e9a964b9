-- Splitting a seat and joining two keep the rule.
use Rattle.trio_turn.proofs.Words.{◌++◌, ◌+◌, ◌<◌, ◌==◌, ◌∙◌, ◌∷◌, ◌≡◌, ◌≢◌, ◌⊎◌, Entry, Idle, IfLive, InTurn, IsInLine, IsQueued, Library, LibraryAgrees, List, Mark, Option, Origin, Spent, Stage, State, TicketRule, View, ViewAgrees, Waiting, [], ap, arith, at_longer, cond, copied, has_ticket, held, inl, inr, left_with, length, map, met, nat_tests, refl, seated, set, set_else, subst, suc, sym, tickets, times, true, unseated, view, zero, ℕ, ⊎_elim}
use Rattle.std.proofs.Common.{nat_le, Bool, false}
use mathlib.Core.List.{IsPrefix}
use mathlib.Core.Option.{some, some-injective, some-ne-none}
use mathlib.Core.Logic.{dite}
use native.Mathlib.Decide.{ℕ_discrete}
use lib.ListN.{get_elem?}
use Rattle.atomic_table.specs.Table.{Splits, Joins}
use Rattle.atomic_table.proofs.Lists.{at_snoc}
use Rattle.trio_turn.specs.inner.Steps.{first_of, rest_of, longer, shorter, spent}
use Rattle.trio_turn.proofs.Lists.{set_at, prefix_self, prefix_trans, prefix_shorter, made_between, total_set, total_append, each_set}
use Rattle.trio_turn.proofs.Keeps.{live_of, not_in_turn}

at_append : {A : Type 0} (l m : List A) (k : ℕ) (a : A) → get_elem? (l ++ m) k ≡ some a → (get_elem? l k ≡ some a) ⊎ ((i : ℕ) × (get_elem? m i ≡ some a))
at_append [] m k a e = inr (k, e)
at_append (x ∷ xs) m zero a e = inl e
at_append (x ∷ xs) m (suc k) a e = at_append xs m k a e

-- both lists begin the log, so the shorter begins the longer
pub left_longer : (xs ys zs : List Entry) → IsPrefix xs zs → IsPrefix ys zs → IsPrefix xs (longer xs ys)
left_longer xs ys zs p q = go (nat_le (length xs) (length ys)) refl
  where
    go : (b : Bool) → nat_le (length xs) (length ys) ≡ b → IsPrefix xs (cond b ys xs)
    go true e = prefix_shorter xs ys zs p q (grind (arith, nat_tests))
    go false e = prefix_self xs

pub right_longer : (xs ys zs : List Entry) → IsPrefix xs zs → IsPrefix ys zs → IsPrefix ys (longer xs ys)
right_longer xs ys zs p q = go (nat_le (length xs) (length ys)) refl
  where
    go : (b : Bool) → nat_le (length xs) (length ys) ≡ b → IsPrefix ys (cond b ys xs)
    go true e = prefix_self ys
    go false e = prefix_shorter ys xs zs q p (grind (arith, nat_tests))

-- what both begin, each begins
pub both_begin : (xs ys zs : List Entry) → IsPrefix (longer xs ys) zs → IsPrefix (shorter xs ys) zs → IsPrefix xs zs × IsPrefix ys zs
both_begin xs ys zs p q = go (nat_le (length xs) (length ys)) p q
  where
    go : (b : Bool) → IsPrefix (cond b ys xs) zs → IsPrefix (cond b xs ys) zs → IsPrefix xs zs × IsPrefix ys zs
    go true p q = (q, p)
    go false p q = (p, q)

pub lie_in_line : (xs ys zs : List Entry) → IsPrefix xs zs → IsPrefix ys zs → IsInLine xs ys
lie_in_line xs ys zs p q = go (nat_le (length xs) (length ys)) refl
  where
    go : (b : Bool) → nat_le (length xs) (length ys) ≡ b → IsInLine xs ys
    go true e = inl (prefix_shorter xs ys zs p q (grind (arith, nat_tests)))
    go false e = inr (prefix_shorter ys xs zs q p (grind (arith, nat_tests)))

module _ {T : Type 0} (first : T → Origin) (log : T → List Entry) (begun : T → ℕ → Mark) (n : ℕ) where
  abbrev Rule : State (Option T) (View T) → Type 0
  Rule = TicketRule first log begun n

  -- a view that changed and kept its stage is still in its turn if it was
  still_out : (views : List (View T)) (id : ℕ) (v w : View T) (x : T) → get_elem? views id ≡ some v → v.stage ≡ w.stage
      → (j : ℕ) × (y : View T) × (get_elem? views j ≡ some y) × ((t : ℕ) × (y.stage ≡ InTurn t x)) → (j : ℕ) × (y : View T) × (get_elem? (set views id w) j ≡ some y) × ((t : ℕ) × (y.stage ≡ InTurn t x))
  still_out views id v w x at same o = dite (ℕ_discrete o.0 id)
      (λ is. (id, w, set_at views id v w at, (o.3.0, sym same ∙ (ap (λ (z : View T). z.stage) (some-injective v o.1 (sym at ∙ (ap (λ k. get_elem? views k) (sym is) ∙ o.2))) ∙ o.3.1))))
      (λ ne. (o.0, o.1, set_else views id o.0 w ne ∙ o.2, o.3))

  -- the libraries of a view go partly into a new one, which has seen as much
  divided : (s : State (Option T) (View T)) (r : Rule s) (id : ℕ) (v : View T) (ls rs : List Library) → get_elem? s.views id ≡ some v → v.first ≡ first r.value
      → ((l : ℕ) → times l ls + times l rs ≡ times l v.libraries)
      → ((k : ℕ) (p : Library) → get_elem? ls k ≡ some p → (i : ℕ) × (get_elem? v.libraries i ≡ some p))
      → ((k : ℕ) (p : Library) → get_elem? rs k ≡ some p → (i : ℕ) × (get_elem? v.libraries i ≡ some p))
      → (0 < tickets v.stage → 0 < length ls)
      → Rule record { words = s.words; homes = s.homes; views = set s.views id (view v.first v.seen v.shorter ls v.stage) ++ view v.first v.seen v.shorter rs Idle ∷ [] }
  divided s r id v ls rs at live parts left_in right_in own =
      let w : View T = view v.first v.seen v.shorter ls v.stage in let u : View T = view v.first v.seen v.shorter rs Idle in let f = r.each_view id v at in record {
        ticket = r.ticket;
        serving = r.serving;
        value = r.value;
        words = r.words;
        queue = let a = total_set (λ (z : View T). tickets z.stage) s.views id v w at in let b = total_append (λ (z : View T). tickets z.stage) (set s.views id w) (u ∷ []) in let c = r.queue in omega arith;
        apart = λ k. let a = total_set (λ (z : View T). has_ticket k z.stage) s.views id v w at in let b = total_append (λ (z : View T). has_ticket k z.stage) (set s.views id w) (u ∷ []) in let c = r.apart k in omega arith;
        queued = grown (λ (z : View T). IsQueued r.ticket r.serving r.value s.homes z.stage) w u (r.queued id v at) tt (λ j z _ e. r.queued j z e);
        placed = ⊎_elim inl (λ o. inr (o.0, moved u o.1)) r.placed;
        each_view = grown (λ z. ViewAgrees first log begun r.value n z) w u
            record { first_is = f.first_is; saw = f.saw; met = f.met; each_library = λ k p e. let i = left_in k p e in f.each_library i.0 p i.1; own = own }
            record { first_is = live; saw = f.saw; met = f.met; each_library = λ k p e. let i = right_in k p e in f.each_library i.0 p i.1; own = λ h. absurd (omega arith) }
            (λ j z _ e. r.each_view j z e);
        once = λ k. let a = total_set (λ (z : View T). times k z.libraries) s.views id v w at in let b = total_append (λ (z : View T). times k z.libraries) (set s.views id w) (u ∷ []) in let c = r.once k in let d = parts k in omega arith;
      }
    where
      grown : (P : View T → Type 0) (w u : View T) → P w → P u → ((j : ℕ) (z : View T) → j ≢ id → get_elem? s.views j ≡ some z → P z) → (j : ℕ) (z : View T) → get_elem? (set s.views id w ++ u ∷ []) j ≡ some z → P z
      grown P w u a b others j z e = ⊎_elim (λ was. each_set (λ _ y. P y) s.views id w a others j z was) (λ same. subst P same b) (at_snoc (set s.views id w) u z j e)

      moved : (u : View T) → (j : ℕ) × (y : View T) × (get_elem? s.views j ≡ some y) × ((t : ℕ) × (y.stage ≡ InTurn t r.value)) → (j : ℕ) × (y : View T) × (get_elem? (set s.views id (view v.first v.seen v.shorter ls v.stage) ++ u ∷ []) j ≡ some y) × ((t : ℕ) × (y.stage ≡ InTurn t r.value))
      moved u o = let w = view v.first v.seen v.shorter ls v.stage in let m = still_out s.views id v w r.value at refl o in (m.0, m.1, at_longer (set s.views id w) (u ∷ []) m.0 m.1 m.2, m.3)

  pub seats : (id : ℕ) (v : View T) → v.stage ≡ Idle → Splits Rule id v (unseated v) (seated v)
  seats id v idle s r at = divided s r id v (rest_of v.libraries) (first_of v.libraries) at (subst (λ st. IfLive st (v.first ≡ first r.value)) idle (r.each_view id v at).first_is)
      (λ l. parts l v.libraries) (rest_in v.libraries) (first_in v.libraries) (λ h. let z : tickets v.stage ≡ 0 = ap tickets idle in absurd (omega arith))
    where
      parts : (l : ℕ) (ps : List Library) → times l (rest_of ps) + times l (first_of ps) ≡ times l ps
      parts l [] = refl
      parts l (p ∷ ps) = omega arith

      rest_in : (ps : List Library) (k : ℕ) (p : Library) → get_elem? (rest_of ps) k ≡ some p → (i : ℕ) × (get_elem? ps i ≡ some p)
      rest_in [] k p e = (k, e)
      rest_in (q ∷ ps) k p e = (suc k, e)

      first_in : (ps : List Library) (k : ℕ) (p : Library) → get_elem? (first_of ps) k ≡ some p → (i : ℕ) × (get_elem? ps i ≡ some p)
      first_in [] k p e = (k, e)
      first_in (q ∷ ps) zero p e = (0, e)
      first_in (q ∷ ps) (suc k) p e = absurd (some-ne-none p (sym e))

  is_live : (st : Stage T) (P : Type 0) → st ≢ Spent → IfLive st P → P
  is_live Idle P live p = p
  is_live (Waiting t) P live p = p
  is_live (InTurn t x) P live p = p
  is_live Spent P live p = absurd (live refl)

  pub idle_live : (st : Stage T) → st ≡ Idle → st ≢ Spent
  idle_live st a b = absurd (cc (a, b))

  pub copies : (id : ℕ) (v : View T) → v.stage ≢ Spent → Splits Rule id v v (copied v)
  copies id v live s r at = divided s r id v v.libraries [] at (is_live v.stage (v.first ≡ first r.value) live (r.each_view id v at).first_is)
      (λ l. omega arith) (λ k p e. (k, e)) (λ k p e. absurd (some-ne-none p (sym e))) (r.each_view id v at).own

  of_two : (P : List Entry → Type 0) (b : Bool) (xs ys : List Entry) → P xs → P ys → P (cond b xs ys)
  of_two P true xs ys p q = p
  of_two P false xs ys p q = q

  known_more : (x : T) (seen more : List Entry) (p : Library) → IsPrefix seen more → LibraryAgrees first log begun x n seen p → LibraryAgrees first log begun x n more p
  known_more x seen more p grew k = record { one_of_them = k.one_of_them; began = k.began; saw = prefix_trans p.seen seen more k.saw grew; all_seen = k.all_seen; mark = k.mark }

  -- a library that leaves with what its seat has seen
  left_known : (x : T) (w : View T) (p : Library) → w.first ≡ first x → ViewAgrees first log begun x n w → (i : ℕ) × (get_elem? (map (left_with w) w.libraries) i ≡ some p) → LibraryAgrees first log begun x n w.seen p
  left_known x w p live g h = let o = of_map w.libraries h.0 p h.1 in let q = o.1 in let known = g.each_library o.0 q o.2 in subst (LibraryAgrees first log begun x n w.seen) o.3 record {
    one_of_them = known.one_of_them;
    began = live;
    saw = prefix_self w.seen;
    all_seen = known.all_seen ∙ sym (made_between q.number q.seen w.seen (log x) known.saw g.saw known.all_seen);
    mark = known.mark;
  }
    where
      of_map : (qs : List Library) (i : ℕ) (p : Library) → get_elem? (map (left_with w) qs) i ≡ some p → (j : ℕ) × (q : Library) × (get_elem? qs j ≡ some q) × (left_with w q ≡ p)
      of_map [] i p e = absurd (some-ne-none p (sym e))
      of_map (q ∷ qs) zero p e = (0, q, refl, some-injective _ _ e)
      of_map (q ∷ qs) (suc i) p e = let r = of_map qs i p e in (suc r.0, r.1, r.2, r.3)

  pub joins : (id : ℕ) (v : View T) (other : ℕ) (w : View T) → v.stage ≢ Spent → w.stage ≡ Idle → Joins Rule id v other w (met v w) spent
  joins id v other w live idle s r at apart there =
      let b : View T = met v w in let away : View T = spent in
      let was : get_elem? s.views other ≡ some w = sym (set_else s.views id other b apart) ∙ there in
      let f = r.each_view id v at in let g = r.each_view other w was in
      let first_here = is_live v.stage (v.first ≡ first r.value) live f.first_is in
      let none_there : tickets w.stage ≡ 0 = ap tickets idle in
      let in_long : IsPrefix v.seen b.seen = left_longer v.seen w.seen (log r.value) f.saw g.saw in
      let there_long : IsPrefix w.seen b.seen = right_longer v.seen w.seen (log r.value) f.saw g.saw in record {
        ticket = r.ticket;
        serving = r.serving;
        value = r.value;
        words = r.words;
        queue = let x = total_set (λ (z : View T). tickets z.stage) s.views id v b at in let y = total_set (λ (z : View T). tickets z.stage) (set s.views id b) other w away there in let c = r.queue in omega arith;
        apart = λ k. let x = total_set (λ (z : View T). has_ticket k z.stage) s.views id v b at in let y = total_set (λ (z : View T). has_ticket k z.stage) (set s.views id b) other w away there in
            let c = r.apart k in let none_k : has_ticket k w.stage ≡ 0 = ap (has_ticket k) idle in omega arith;
        queued = each_set (λ j (z : View T). IsQueued r.ticket r.serving r.value s.homes z.stage) (set s.views id b) other away tt
            (λ j z _ e. each_set (λ j (z : View T). IsQueued r.ticket r.serving r.value s.homes z.stage) s.views id b (r.queued id v at) (λ i y _ d. r.queued i y d) j z e);
        placed = ⊎_elim inl (λ o. inr (o.0, out (still_out s.views id v b r.value at refl o.1))) r.placed;
        each_view = each_set (λ j z. ViewAgrees first log begun r.value n z) (set s.views id b) other away
            record { first_is = tt; saw = (log r.value, refl); met = (log r.value, refl); each_library = λ k p e. absurd (some-ne-none p (sym e)); own = λ h. absurd (omega arith) }
            (λ j z _ e. each_set (λ j z. ViewAgrees first log begun r.value n z) s.views id b
            record {
              first_is = live_of v.stage (v.first ≡ first r.value) first_here;
              saw = of_two (λ xs. IsPrefix xs (log r.value)) (nat_le (length v.seen) (length w.seen)) w.seen v.seen g.saw f.saw;
              met = of_two (λ xs. IsPrefix xs (log r.value)) (nat_le (length v.seen) (length w.seen)) v.seen w.seen f.saw g.saw;
              each_library = λ k p found. ⊎_elim (λ h. known_more r.value v.seen b.seen p in_long (f.each_library k p h)) (λ h. known_more r.value w.seen b.seen p there_long (left_known r.value w p (is_live w.stage (w.first ≡ first r.value) (idle_live w.stage idle) g.first_is) g h))
                  (at_append v.libraries (map (left_with w) w.libraries) k p found);
              own = λ h. longer_has v.libraries (map (left_with w) w.libraries) (f.own h);
            }
            (λ i y _ d. r.each_view i y d) j z e);
        once = λ k. let x = total_set (λ (z : View T). times k z.libraries) s.views id v b at in let y = total_set (λ (z : View T). times k z.libraries) (set s.views id b) other w away there in
            let c = r.once k in let d : times k b.libraries ≡ times k v.libraries + times k (map (left_with w) w.libraries) = total_append (λ p. cond {A = ℕ} (p.number == k) 1 0) v.libraries (map (left_with w) w.libraries) in let e = same_libraries k w.libraries in omega arith;
      }
    where
      same_libraries : (k : ℕ) (ps : List Library) → times k (map (left_with w) ps) ≡ times k ps
      same_libraries k [] = refl
      same_libraries k (p ∷ ps) = ap (λ z. cond {A = ℕ} (p.number == k) 1 0 + z) (same_libraries k ps)

      longer_has : (ps qs : List Library) → 0 < length ps → 0 < length (ps ++ qs)
      longer_has [] qs h = absurd (omega arith)
      longer_has (p ∷ ps) qs h = omega arith

      out : (j : ℕ) × (y : View T) × (get_elem? (set s.views id (met v w)) j ≡ some y) × ((t : ℕ) × (y.stage ≡ InTurn t r.value))
          → (j : ℕ) × (y : View T) × (get_elem? (set (set s.views id (met v w)) other spent) j ≡ some y) × ((t : ℕ) × (y.stage ≡ InTurn t r.value))
      out o = let ne : o.0 ≢ other = λ is. not_in_turn o.1.stage o.3.0 r.value
          (ap (λ (z : View T). held z.stage) (some-injective o.1 w (sym o.2 ∙ (ap (λ k. get_elem? (set s.views id (met v w)) k) is ∙ there))) ∙ ap held idle) o.3.1 in
          (o.0, o.1, set_else (set s.views id (met v w)) other o.0 spent ne ∙ o.2, o.3)
