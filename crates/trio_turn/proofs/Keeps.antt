-- Drawing a ticket, reading which is served, and passing the turn on keep the rule.
use Rattle.trio_turn.proofs.Words.{◌+◌, ◌<◌, ◌∙◌, ◌∷◌, ◌≡◌, ◌≢◌, ◌≤◌, Allows, DoesNotWait, Entry, Idle, IfLive, InTurn, IsPlaced, IsQueued, Learns, List, LooksAt, Mark, Me, None, Option, Origin, ReadAt, Some, Spent, Stage, State, TicketRule, View, ViewAgrees, Waiting, [], ap, arith, cond, eq-eqb, has_ticket, held, inl, inr, keeps, length, ne_eqb, refl, set, set_else, staged, step, subst, sym, tickets, times, total, ℕ, ⊎_elim}
use Rattle.std.proofs.Common.{eqb, get_or}
use mathlib.Core.Logic.{dite}
use mathlib.Core.Option.{some, none, some-injective, some-ne-none}
use mathlib.Core.Option as maybe
use native.Mathlib.Decide.{ℕ_discrete}
use lib.ListN.{get_elem?}
use lib.Seq.{set-get_or}
use prog.Atomic.{either}
use Rattle.atomic_table.specs.Table.{takes, gives, stepped}
use Rattle.atomic_table.proofs.Lists.{set_again}
use Rattle.trio_turn.specs.inner.Steps.{drew, passed, read}
use Rattle.trio_turn.proofs.Lists.{set_at, made_between, total_set, total_two, total_none, each_set}

module _ {T : Type 0} where
  -- a view whose ticket is below k doesn't have the ticket k
  no_ticket : (ticket serving k : ℕ) (value : T) (homes : List (maybe.Option (Option T))) (st : Stage T) → ticket ≤ k → IsQueued ticket serving value homes st → has_ticket k st ≡ 0
  no_ticket ticket serving k value homes Idle le q = refl
  no_ticket ticket serving k value homes (Waiting t) le q = let b = q.1 in ap (λ c. cond c 1 0) (ne_eqb t k (λ e. omega arith))
  no_ticket ticket serving k value homes (InTurn t x) le q = let b = q.1 in ap (λ c. cond c 1 0) (ne_eqb t k (λ e. omega arith))
  no_ticket ticket serving k value homes Spent le q = refl

  pub mine_waiting : (t : ℕ) (st : Stage T) → st ≡ Waiting t → has_ticket t st ≡ 1
  mine_waiting t st e = ap (has_ticket t) e ∙ ap (λ c. cond c 1 0) (eq-eqb t t refl)

  pub mine_in_turn : (t : ℕ) (x : T) (st : Stage T) → st ≡ InTurn t x → has_ticket t st ≡ 1
  mine_in_turn t x st e = ap (has_ticket t) e ∙ ap (λ c. cond c 1 0) (eq-eqb t t refl)

  -- a further ticket was drawn
  later : (ticket serving : ℕ) (value : T) (homes : List (maybe.Option (Option T))) (st : Stage T) → IsQueued ticket serving value homes st → IsQueued (ticket + 1) serving value homes st
  later ticket serving value homes Idle q = tt
  later ticket serving value homes (Waiting t) q = let b = q.1 in (q.0, omega arith)
  later ticket serving value homes (InTurn t x) q = let b = q.1 in (q.0, omega arith, q.2, q.3)
  later ticket serving value homes Spent q = tt

  -- where the slot is home no view is in its turn
  taken : (ticket serving : ℕ) (value : T) (homes homes' : List (maybe.Option (Option T))) (st : Stage T) → homes ≡ some (Some value) ∷ [] → IsQueued ticket serving value homes st → IsQueued ticket serving value homes' st
  taken ticket serving value homes homes' Idle h q = tt
  taken ticket serving value homes homes' (Waiting t) h q = q
  taken ticket serving value homes homes' (InTurn t x) h q = absurd (cc (h, q.3))
  taken ticket serving value homes homes' Spent h q = tt

  -- the next ticket is served, and this view doesn't have the one before it
  pub served : (ticket serving : ℕ) (value value' : T) (homes homes' : List (maybe.Option (Option T))) (st : Stage T) → has_ticket serving st ≡ 0 → IsQueued ticket serving value homes st
      → IsQueued ticket (serving + 1) value' homes' st
  served ticket serving value value' homes homes' Idle z q = tt
  served ticket serving value value' homes homes' (Waiting t) z q =
      let a = q.0 in let no : t ≢ serving = λ e. let one = sym (ap (λ c. cond c 1 0) (eq-eqb t serving e)) ∙ z in omega arith in (omega arith, q.1)
  served ticket serving value value' homes homes' (InTurn t x) z q = let one = sym (ap (λ c. cond c 1 0) (eq-eqb t serving q.0)) ∙ z in absurd (omega arith)
  served ticket serving value value' homes homes' Spent z q = tt

  pub live_of : (st : Stage T) (P : Type 0) → P → IfLive st P
  live_of Idle P p = p
  live_of (Waiting t) P p = p
  live_of (InTurn t x) P p = p
  live_of Spent P p = tt

  pub not_in_turn : (st : Stage T) (t : ℕ) (x : T) → held st ≡ None → st ≢ InTurn t x
  not_in_turn st t x none_held e = absurd (cc (ap held e, none_held))

module _ {T : Type 0} (first : T → Origin) (log : T → List Entry) (begun : T → ℕ → Mark) (n : ℕ) where
  abbrev St : Type 0
  St = State (Option T) (View T)

  abbrev Seated : Type 0
  Seated = Me (Option T) (View T)

  abbrev Rule : St → Type 0
  Rule = TicketRule first log begun n

  -- a step after which one view is in another stage
  restaged : (s : St) (r : Rule s) (id : ℕ) (v : View T) (stage : Stage T) (ticket serving : ℕ) (words : List ℕ) (homes : List (maybe.Option (Option T))) → get_elem? s.views id ≡ some v
      → words ≡ ticket ∷ serving ∷ length (log r.value) ∷ []
      → (serving + total (λ (u : View T). tickets u.stage) s.views) + tickets stage ≡ ticket + tickets v.stage
      → ((t : ℕ) → total (λ (u : View T). has_ticket t u.stage) s.views + has_ticket t stage ≤ 1 + has_ticket t v.stage)
      → IsQueued ticket serving r.value homes stage
      → ((j : ℕ) (u : View T) → j ≢ id → get_elem? s.views j ≡ some u → IsQueued ticket serving r.value homes u.stage)
      → IsPlaced r.value homes (set s.views id (staged v stage))
      → v.first ≡ first r.value
      → (0 < tickets stage → 0 < length v.libraries)
      → Rule record { words = words; homes = homes; views = set s.views id (staged v stage) }
  restaged s r id v stage ticket serving words homes at is queue apart mine others placed live own =
      let w : View T = staged v stage in let old = r.each_view id v at in let sum = total_set (λ (u : View T). tickets u.stage) s.views id v w at in record {
        ticket = ticket;
        serving = serving;
        value = r.value;
        words = is;
        queue = omega arith;
        apart = λ t. let a = total_set (λ (u : View T). has_ticket t u.stage) s.views id v w at in let b = apart t in omega arith;
        queued = each_set (λ j (u : View T). IsQueued ticket serving r.value homes u.stage) s.views id w mine others;
        placed = placed;
        each_view = each_set (λ j u. ViewAgrees first log begun r.value n u) s.views id w
            record { first_is = live_of stage (v.first ≡ first r.value) live; saw = old.saw; met = old.met; each_library = old.each_library; own = own }
            (λ j u _ e. r.each_view j u e);
        once = λ l. let a = total_set (λ (u : View T). times l u.libraries) s.views id v w at in let b = r.once l in omega arith;
      }

  -- a step that changes nothing
  pub unmoved : (s : St) (r : Rule s) (i id : ℕ) (cs : List (ℕ × Option T)) (v : View T) → get_elem? s.views id ≡ some v → Rule (stepped s i (get_or s.words i 0) id cs v keeps)
  unmoved s r i id cs v at = subst (λ (z : List ℕ × List (View T)). Rule record { words = z.0; homes = s.homes; views = z.1 }) (λ k. (sym (set-get_or s.words i 0) k, sym (set_again s.views id v at) k)) r

  -- the slot is where it was, if the view that changes is in its turn neither before nor after
  placed_set : (value : T) (homes : List (maybe.Option (Option T))) (views : List (View T)) (id : ℕ) (v w : View T) → get_elem? views id ≡ some v → held v.stage ≡ None
      → IsPlaced value homes views → IsPlaced value homes (set views id w)
  placed_set value homes views id v w at none_held (inl home) = inl home
  placed_set value homes views id v w at none_held (inr out) = let j = out.1.0 in let u = out.1.1 in let there = out.1.2 in let e = out.1.3.1 in
      let other : j ≢ id = λ same. not_in_turn u.stage out.1.3.0 value
      (ap (λ (z : View T). held z.stage) (some-injective u v (sym there ∙ (ap (λ k. get_elem? views k) same ∙ at))) ∙ none_held) e in
      inr (out.0, (j, u, set_else views id j w other ∙ there, out.1.3))

  -- no other view has the ticket that a view has
  pub only_one : (s : St) (r : Rule s) (id : ℕ) (v : View T) (t : ℕ) → get_elem? s.views id ≡ some v → has_ticket t v.stage ≡ 1 → (j : ℕ) (u : View T) → j ≢ id → get_elem? s.views j ≡ some u
      → has_ticket t u.stage ≡ 0
  only_one s r id v t at one j u other there = let a = total_two (λ (z : View T). has_ticket t z.stage) s.views j id u v other there at in let b = r.apart t in omega arith

  is_live : (value : T) (v : View T) (st : Stage T) → ViewAgrees first log begun value n v → v.stage ≡ st → IfLive st (v.first ≡ first value)
  is_live value v st f e = subst (λ st. IfLive st (v.first ≡ first value)) e f.first_is

  -- a ticket is drawn
  pub draws : (slots id old : ℕ) (me : Seated) → me.0.stage ≡ Idle → 0 < length me.0.libraries
      → Allows Rule slots id me 0 (λ x. either (eqb x old) (old + 1) x) (drew (step slots 0 old (old + 1) none) me)
  draws slots id old me idle has s r _ at _ = let v : View T = me.0 in let x : ℕ = get_or s.words 0 0 in let now : x ≡ r.ticket = ap (λ ws. get_or ws 0 0) r.words in
      let none_yet : tickets v.stage ≡ 0 = ap tickets idle in let q = r.queue in
      dite (ℕ_discrete x old)
      (λ hit. let w : View T = staged v (Waiting old) in let same : r.ticket ≡ old = sym now ∙ hit in (
        w,
        keeps,
        tt,
        subst (λ b. Rule (stepped s 0 (either b (old + 1) x) id me.1 w keeps)) (sym (eq-eqb x old hit))
            (restaged s r id v (Waiting old) (old + 1) r.serving (set s.words 0 (old + 1)) s.homes at (ap (λ ws. set ws 0 (old + 1)) r.words) (omega arith)
            (λ t. dite (ℕ_discrete old t)
            (λ e. let z = total_none (λ (u : View T). has_ticket t u.stage) s.views (λ i u there. no_ticket r.ticket r.serving t r.value s.homes u.stage (omega arith) (r.queued i u there)) in
            let c : has_ticket {T = T} t (Waiting old) ≡ 1 = ap (λ b. cond b 1 0) (eq-eqb old t e) in omega arith)
            (λ ne. let z = r.apart t in let c : has_ticket {T = T} t (Waiting old) ≡ 0 = ap (λ b. cond b 1 0) (ne_eqb old t ne) in omega arith))
            (omega arith, omega arith)
            (λ j u _ there. subst (λ k. IsQueued (k + 1) r.serving r.value s.homes u.stage) same (later r.ticket r.serving r.value s.homes u.stage (r.queued j u there)))
            (placed_set r.value s.homes s.views id v w at (ap held idle) r.placed)
            (is_live r.value v Idle (r.each_view id v at) idle)
            (λ _. has)),
        ((λ _. ap (λ k. (staged v (Waiting k), me.1)) (sym hit)), λ not. absurd (not hit)),
      ))
      (λ miss. (v, keeps, tt, subst (λ b. Rule (stepped s 0 (either b (old + 1) x) id me.1 v keeps)) (sym (ne_eqb x old miss)) (unmoved s r 0 id me.1 v at), ((λ hit. absurd (miss hit)), λ _. refl)))

  -- what a view learns of the value
  learns : (s : St) (r : Rule s) (id : ℕ) (v : View T) (st : Stage T) → get_elem? s.views id ≡ some v → v.first ≡ first r.value → Learns first log begun v r.value
  learns s r id v st at live = let f = r.each_view id v at in record {
    first_is = sym live;
    grew = f.saw;
    each_library = λ k p there. let known = f.each_library k p there in
        (known.all_seen ∙ sym (made_between p.number p.seen v.seen (log r.value) known.saw f.saw known.all_seen), known.mark);
  }

  -- while a view waits for the ticket that is served, the slot is home
  at_home : (s : St) (r : Rule s) (id t : ℕ) (v : View T) → get_elem? s.views id ≡ some v → v.stage ≡ Waiting t → t ≡ r.serving → s.homes ≡ some (Some r.value) ∷ []
  at_home s r id t v at waits now = ⊎_elim (λ home. home) out r.placed
    where
      out : (s.homes ≡ none ∷ []) × ((j : ℕ) × (u : View T) × (get_elem? s.views j ≡ some u) × ((k : ℕ) × (u.stage ≡ InTurn k r.value))) → s.homes ≡ some (Some r.value) ∷ []
      out o = let j = o.1.0 in let u = o.1.1 in let there = o.1.2 in let k = o.1.3.0 in let e = o.1.3.1 in
          let q = subst (IsQueued r.ticket r.serving r.value s.homes) e (r.queued j u there) in
          let one = mine_in_turn k r.value u.stage e in
          let other : j ≢ id = λ same. not_in_turn v.stage k r.value (ap held waits)
          (ap (λ (z : View T). z.stage) (some-injective v u (sym at ∙ (ap (λ i. get_elem? s.views i) (sym same) ∙ there))) ∙ e) in
          let zero_there = only_one s r id v t at (mine_waiting t v.stage waits) j u other there in
          let same_ticket : k ≡ t = q.0 ∙ sym now in
          absurd (one_is_zero (has_ticket k u.stage) (has_ticket t u.stage) (ap (λ i. has_ticket i u.stage) same_ticket) one zero_there)
        where
          one_is_zero : (a b : ℕ) → a ≡ b → a ≡ 1 → b ≡ 0 → ⊥
          one_is_zero a b e x y = omega arith

  -- a view that waits reads which ticket is served, and takes the value where it is its own
  pub reads : (slots id t : ℕ) (me : Seated) → me.0.stage ≡ Waiting t → 0 < length me.0.libraries
      → Allows Rule slots id me 1 (λ x. x) (read first log begun (step slots 1 0 0 none) me)
  reads slots id t me waits has s r _ at _ = let v : View T = me.0 in let x : ℕ = get_or s.words 1 0 in let now : x ≡ r.serving = ap (λ ws. get_or ws 1 0) r.words in
      let told : (m' : Seated) → ReadAt first log begun (Waiting t) me x m' → ReadAt first log begun v.stage me x m' = λ m' h. subst (λ st. ReadAt first log begun st me x m') (sym waits) h in
      dite (ℕ_discrete x t)
      (λ hit. let w : View T = staged v (InTurn t r.value) in let mine : t ≡ r.serving = sym hit ∙ now in let home = at_home s r id t v at waits mine in
      let away : set s.homes 0 none ≡ none ∷ [] = ap (λ hs. set hs 0 none) home in
      let live = is_live r.value v (Waiting t) (r.each_view id v at) waits in
      let one : tickets v.stage ≡ 1 = ap tickets waits in let q = r.queue in
      let queues = subst (IsQueued r.ticket r.serving r.value s.homes) waits (r.queued id v at) in (
        w,
        takes 0 (Some r.value),
        ap (λ hs. get_elem? hs 0) home,
        subst (λ (ws : List ℕ). Rule record { words = ws; homes = set s.homes 0 none; views = set s.views id w }) (sym (set-get_or s.words 1 0))
            (restaged s r id v (InTurn t r.value) r.ticket r.serving s.words (set s.homes 0 none) at r.words (omega arith)
            (λ k. let z = r.apart k in let c : has_ticket k v.stage ≡ has_ticket k (InTurn t r.value) = ap (has_ticket k) waits in omega arith)
            (mine, queues.1, refl, away)
            (λ j u _ there. taken r.ticket r.serving r.value s.homes (set s.homes 0 none) u.stage home (r.queued j u there))
            (inr (away, (id, w, set_at s.views id v w at, (t, refl))))
            live
            (λ _. has)),
        told (w, (0, Some r.value) ∷ me.1) ((λ _. (r.value, refl, learns s r id v (Waiting t) at live)), λ not. absurd (not hit)),
      ))
      (λ miss. (v, keeps, tt, unmoved s r 1 id me.1 v at, told me ((λ hit. absurd (miss hit)), λ _. refl)))

  -- how the lists of a view lie
  looks_at : (s : St) (r : Rule s) (id : ℕ) (v : View T) (st : Stage T) → get_elem? s.views id ≡ some v → v.first ≡ first r.value → LooksAt first log begun v
  looks_at s r id v st at live = let f = r.each_view id v at in (
    r.value,
    learns s r id v st at live,
    f.met,
    λ k p there. let known = f.each_library k p there in
        (known.saw, made_between p.number p.seen v.seen (log r.value) known.saw f.saw known.all_seen),
  )

  -- a view that doesn't wait learns how its lists lie
  pub looks : (slots id : ℕ) (me : Seated) → DoesNotWait me.0.stage → Allows Rule slots id me 1 (λ x. x) (read first log begun (step slots 1 0 0 none) me)
  looks slots id me rests s r _ at _ = (me.0, keeps, tt, unmoved s r 1 id me.1 me.0 at, go me.0.stage refl rests)
    where
      go : (st : Stage T) → me.0.stage ≡ st → DoesNotWait st → ReadAt first log begun st me (get_or s.words 1 0) me
      go Idle e rests = (refl, looks_at s r id me.0 Idle at (is_live r.value me.0 Idle (r.each_view id me.0 at) e))
      go (Waiting t) e rests = absurd rests
      go (InTurn t x) e rests = (refl, looks_at s r id me.0 (InTurn t x) at (is_live r.value me.0 (InTurn t x) (r.each_view id me.0 at) e))
      go Spent e rests = absurd rests

  -- the turn is passed on
  pub passes : (slots id t : ℕ) (v : View T) (x : T) → v.stage ≡ InTurn t x
      → Allows Rule slots id (v, (0, Some x) ∷ []) 1 (λ _. t + 1) (λ _. passed (step slots 1 (t + 1) 0 none) (v, (0, Some x) ∷ []) (t + 1))
  passes slots id t v x turn s r _ at _ =
      let queues = subst (IsQueued r.ticket r.serving r.value s.homes) turn (r.queued id v at) in let mine : t ≡ r.serving = queues.0 in
      let one : tickets v.stage ≡ 1 = ap tickets turn in let q = r.queue in let below : t < r.ticket = queues.1 in
      let back : set s.homes 0 (some (Some x)) ≡ some (Some r.value) ∷ [] = ap (λ hs. set hs 0 (some (Some x))) queues.3 ∙ ap (λ (y : T). some (Some y) ∷ []) queues.2 in (
        staged v Idle,
        gives,
        tt,
        restaged s r id v Idle r.ticket (t + 1) (set s.words 1 (t + 1)) (set s.homes 0 (some (Some x))) at (ap (λ ws. set ws 1 (t + 1)) r.words) (omega arith)
            (λ k. let z = r.apart k in let c : has_ticket {T = T} k Idle ≡ 0 = refl in omega arith)
            tt
            (λ j u other there. let z : has_ticket r.serving u.stage ≡ 0 = ap (λ k. has_ticket k u.stage) (sym mine) ∙ only_one s r id v t at (mine_in_turn t x v.stage turn) j u other there in
            subst (λ k. IsQueued r.ticket (k + 1) r.value (set s.homes 0 (some (Some x))) u.stage) (sym mine)
            (served r.ticket r.serving r.value r.value s.homes (set s.homes 0 (some (Some x))) u.stage z (r.queued j u there)))
            (inl back)
            (is_live r.value v (InTurn t x) (r.each_view id v at) turn)
            (λ l. absurd (omega arith)),
        refl,
      )

  pub passes_at : (slots id t : ℕ) (me : Seated) (x : T) → me.0.stage ≡ InTurn t x → me.1 ≡ (0, Some x) ∷ []
      → Allows Rule slots id me 1 (λ _. t + 1) (λ _. passed (step slots 1 (t + 1) 0 none) me (t + 1))
  passes_at slots id t me x turn out = subst (λ cs. Allows Rule slots id (me.0, cs) 1 (λ _. t + 1) (λ _. passed (step slots 1 (t + 1) 0 none) (me.0, cs) (t + 1))) (sym out) (passes slots id t me.0 x turn)
