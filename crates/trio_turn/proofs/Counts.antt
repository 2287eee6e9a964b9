-- Setting the count keeps the rule.
use Rattle.trio_turn.proofs.Words.{◌+◌, ◌==◌, ◌∙◌, ◌∷◌, ◌≡◌, ◌≢◌, ◌≤◌, Allows, Entry, Idle, IfLive, InTurn, IsQueued, Library, LibraryAgrees, List, Mark, Me, Option, Origin, Some, Spent, Stage, State, TicketRule, View, ViewAgrees, Waiting, ap, arith, cond, counted_at, eq-eqb, has_ticket, inr, keeps, length, made_by, refl, set, step, subst, suc, sym, tickets, times, zero, ℕ}
use mathlib.Core.List.{IsPrefix}
use mathlib.Core.Option.{some, none, some-injective, some-ne-none}
use mathlib.Core.Option as maybe
use lib.ListN.{get_elem?}
use Rattle.trio_turn.specs.inner.Steps.{counted, counted_libraries}
use Rattle.trio_turn.proofs.Lists.{set_at, prefix_self, prefix_trans, total_set, total_at, total_two, each_set}
use Rattle.trio_turn.proofs.Keeps.{mine_in_turn, only_one}

pub times_here : (ps : List Library) (k : ℕ) (p : Library) (l : ℕ) → get_elem? ps k ≡ some p → p.number ≡ l → 1 ≤ times l ps
times_here ps k p l at e = subst (λ z. z ≤ times l ps) (ap (λ b. cond {A = ℕ} b 1 0) (eq-eqb p.number l e)) (total_at (λ (q : Library). cond {A = ℕ} (q.number == l) 1 0) ps k p at)

module _ {T : Type 0} where
  -- a view without the ticket that is served may queue at another value
  elsewhere : (ticket serving : ℕ) (value value' : T) (homes : List (maybe.Option (Option T))) (st : Stage T) → has_ticket serving st ≡ 0 → IsQueued ticket serving value homes st → IsQueued ticket serving value' homes st
  elsewhere ticket serving value value' homes Idle z q = tt
  elsewhere ticket serving value value' homes (Waiting t) z q = q
  elsewhere ticket serving value value' homes (InTurn t x) z q = let one = sym (ap (λ c. cond c 1 0) (eq-eqb t serving q.0)) ∙ z in absurd (omega arith)
  elsewhere ticket serving value value' homes Spent z q = tt

  live_map : (st : Stage T) (P Q : Type 0) → (P → Q) → IfLive st P → IfLive st Q
  live_map Idle P Q f p = f p
  live_map (Waiting t) P Q f p = f p
  live_map (InTurn t x) P Q f p = f p
  live_map Spent P Q f p = tt

module _ {T : Type 0} (first : T → Origin) (log : T → List Entry) (begun : T → ℕ → Mark) (n : ℕ) where
  abbrev Rule : State (Option T) (View T) → Type 0
  Rule = TicketRule first log begun n

  -- what is known of a library stays so where the log grew by entries of another
  stays_known : (x y : T) (l : ℕ) (seen : List Entry) (p : Library) → p.number ≢ l → first y ≡ first x
      → ((k : ℕ) → k ≢ l → made_by k (log y) ≡ made_by k (log x)) → ((k : ℕ) → k ≢ l → begun y k ≡ begun x k)
      → LibraryAgrees first log begun x n seen p → LibraryAgrees first log begun y n seen p
  stays_known x y l seen p other origin entries marks known = record {
    one_of_them = known.one_of_them;
    began = known.began ∙ sym origin;
    saw = known.saw;
    all_seen = entries p.number other ∙ known.all_seen;
    mark = known.mark ∙ sym (marks p.number other);
  }

  -- the seat in its turn counts the log of the value in its slot
  pub counts : (slots id t : ℕ) (me : Me (Option T) (View T)) (x y : T) (p : Library) (ps : List Library) → me.0.stage ≡ InTurn t x → me.0.libraries ≡ p ∷ ps
      → first y ≡ first x → IsPrefix (log x) (log y)
      → ((k : ℕ) → k ≢ p.number → made_by k (log y) ≡ made_by k (log x)) → ((k : ℕ) → k ≢ p.number → begun y k ≡ begun x k)
      → Allows Rule slots id me 2 (λ _. length (log y)) (λ _. counted log begun (Some y) (step slots 2 (length (log y)) 0 none) me (length (log y)))
  counts slots id t me x y p ps turn stands origin grew entries marks s r _ at _ =
      let v : View T = me.0 in let queues = subst (IsQueued r.ticket r.serving r.value s.homes) turn (r.queued id v at) in let mine : t ≡ r.serving = queues.0 in let is : x ≡ r.value = queues.2 in
      let l = p.number in
      let f = subst (λ z. ViewAgrees first log begun z n v) (sym is) (r.each_view id v at) in
      let q : Library = record { number = p.number; first = p.first; begun = begun y p.number; seen = log y } in
      let w : View T = record { first = v.first; seen = log y; shorter = v.shorter; libraries = q ∷ ps; stage = InTurn t y } in
      let here = λ (k : ℕ). ap (times k) stands in
      let same_tickets : tickets v.stage ≡ 1 = ap tickets turn in
      let not_served = λ (j : ℕ) (u : View T) (other : j ≢ id) (there : get_elem? s.views j ≡ some u).
      ap (λ k. has_ticket k u.stage) (sym mine) ∙ only_one first log begun n s r id v t at (mine_in_turn t x v.stage turn) j u other there in
      let first_here : IfLive v.stage (v.first ≡ first x) = f.first_is in
      let first_live : v.first ≡ first x = subst (λ st. IfLive st (v.first ≡ first x)) turn first_here in
      let once_here : times l (p ∷ ps) ≤ 1 = subst (λ z. times l z ≤ 1) stands (let a = total_at (λ (u : View T). times l u.libraries) s.views id v at in let b = r.once l in omega arith) in (
        w,
        keeps,
        tt,
        record {
          ticket = r.ticket;
          serving = r.serving;
          value = y;
          words = ap (λ ws. set ws 2 (length (log y))) r.words;
          queue = let sum = total_set (λ (u : View T). tickets u.stage) s.views id v w at in let a = r.queue in omega arith;
          apart = λ k. let sum = total_set (λ (u : View T). has_ticket k u.stage) s.views id v w at in let a = r.apart k in let c : has_ticket k v.stage ≡ has_ticket k w.stage = ap (has_ticket k) turn in omega arith;
          queued = each_set (λ j (u : View T). IsQueued r.ticket r.serving y s.homes u.stage) s.views id w (mine, queues.1, refl, queues.3)
              (λ j u other there. elsewhere r.ticket r.serving r.value y s.homes u.stage (not_served j u other there) (r.queued j u there));
          placed = inr (queues.3, (id, w, set_at s.views id v w at, (t, refl)));
          each_view = each_set (λ j u. ViewAgrees first log begun y n u) s.views id w
              record {
                first_is = first_live ∙ sym origin;
                saw = prefix_self (log y);
                met = prefix_trans v.shorter (log x) (log y) f.met grew;
                each_library = own_stand f stands once_here;
                own = λ _. omega arith;
              }
              (λ j u other there. let g = subst (λ z. ViewAgrees first log begun z n u) (sym is) (r.each_view j u there) in record {
                first_is = live_map u.stage (u.first ≡ first x) (u.first ≡ first y) (λ e. e ∙ sym origin) g.first_is;
                saw = prefix_trans u.seen (log x) (log y) g.saw grew;
                met = prefix_trans u.shorter (log x) (log y) g.met grew;
                each_library = λ k c found. stays_known x y l u.seen c (not_there j u other there k c found) origin entries marks (g.each_library k c found);
                own = g.own;
              });
          once = λ k. let sum = total_set (λ (u : View T). times k u.libraries) s.views id v w at in let a = r.once k in let c = here k in omega arith;
        },
        ap (λ (u : View T). pair u) (sym (shape stands turn)),
      )
    where
      pair : View T → Me (Option T) (View T)
      pair u = (u, me.1)

      shape : me.0.libraries ≡ p ∷ ps → me.0.stage ≡ InTurn t x → counted_at y log begun me.0 me.0.stage ≡ record { first = me.0.first; seen = log y; shorter = me.0.shorter; libraries = record { number = p.number; first = p.first; begun = begun y p.number; seen = log y } ∷ ps; stage = InTurn t y }
      shape stands turn = ap (counted_at y log begun me.0) turn ∙ ap (λ z. record { first = me.0.first; seen = log y; shorter = me.0.shorter; libraries = counted_libraries y log begun z; stage = InTurn t y }) stands

      -- no other view has this library
      not_there : (j : ℕ) (u : View T) → j ≢ id → get_elem? s.views j ≡ some u → (k : ℕ) (c : Library) → get_elem? u.libraries k ≡ some c → c.number ≢ p.number
      not_there j u other there k c found e =
          let a = total_two (λ (z : View T). times p.number z.libraries) s.views j id u me.0 other there at in let b = r.once p.number in
          let m = times_here u.libraries k c p.number found e in
          let here : 1 ≤ times p.number me.0.libraries = subst (λ z. 1 ≤ times p.number z) (sym stands) (times_here (p ∷ ps) 0 p p.number refl refl) in absurd (omega arith)

      own_stand : ViewAgrees first log begun x n me.0 → me.0.libraries ≡ p ∷ ps → times p.number (p ∷ ps) ≤ 1 → (k : ℕ) (c : Library)
          → get_elem? (record { number = p.number; first = p.first; begun = begun y p.number; seen = log y } ∷ ps) k ≡ some c → LibraryAgrees first log begun y n (log y) c
      own_stand f stands once zero c found = subst (LibraryAgrees first log begun y n (log y)) (some-injective _ _ found) record {
        one_of_them = (f.each_library 0 p (ap (λ z. get_elem? z 0) stands)).one_of_them;
        began = (f.each_library 0 p (ap (λ z. get_elem? z 0) stands)).began ∙ sym origin;
        saw = prefix_self (log y);
        all_seen = refl;
        mark = refl;
      }
      own_stand f stands once (suc k) c found = let known = f.each_library (suc k) c (ap (λ z. get_elem? z (suc k)) stands ∙ found) in
          let other : c.number ≢ p.number = λ e. let m = times_here ps k c p.number found e in let o : 1 + times p.number ps ≤ 1 = subst (λ z. z + times p.number ps ≤ 1) (ap (λ b. cond {A = ℕ} b 1 0) (eq-eqb p.number p.number refl)) once in absurd (omega arith) in
          let g = stays_known x y p.number me.0.seen c other origin entries marks known in record {
            one_of_them = g.one_of_them;
            began = g.began;
            saw = prefix_trans c.seen me.0.seen (log y) g.saw (prefix_trans me.0.seen (log x) (log y) f.saw grew);
            all_seen = g.all_seen;
            mark = g.mark;
          }
