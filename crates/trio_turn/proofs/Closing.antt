-- What starting, meeting and closing owe, over plain views.
use Rattle.trio_turn.proofs.Words.{◌++◌, ◌+◌, ◌-◌, ◌<◌, ◌∙◌, ◌∷◌, ◌≡◌, ◌≢◌, ◌⊎◌, AllNew, DoesNotWait, Entry, Final, HasEach, Idle, InTurn, IsInLine, IsNew, LibSeat, Library, LibraryAgrees, List, LooksAt, Mark, None, Option, Origin, ReadAt, Seen, Some, Spent, Stage, TicketRule, View, Waiting, [], ap, arith, at_longer, copied, dealing, held, inl, inr, is_resting, left_with, length, made_by, map, met, own_begun, own_number, refl, seated, slice_get, subst, suc, sym, true, unseated, view, zero, ℕ, ⊎_elim}
use mathlib.Core.Option.{some, some-injective}
use Rattle.atomic_table.specs.Seated.{TableId}
use mathlib.Core.List.{IsPrefix, append-nil}
use lib.ListN.{get_elem?}
use Rattle.atomic_table.proofs.Lists.{at_last}
use Rattle.trio_turn.specs.Seats.{library, seen, mine, first as began, begun as mark, EverySeat}
use Rattle.trio_turn.specs.inner.Gathered.{library_of}
use Rattle.trio_turn.proofs.Ends.{closes}
use Rattle.trio_turn.proofs.Lists.{prefix_trans}
use Rattle.trio_turn.proofs.Parts.{both_begin, left_longer, right_longer, lie_in_line}
use Rattle.trio_turn.proofs.Resting.{one_library}

pub get_last : {A : Type 0} (xs : List A) (x : A) → slice_get (xs ++ x ∷ []) (length xs) ≡ Some x
get_last [] x = refl
get_last (y ∷ ys) x = get_last ys x

pub get_front : {A : Type 0} (xs ys : List A) (k : ℕ) (x : A) → slice_get xs k ≡ Some x → slice_get (xs ++ ys) k ≡ Some x
get_front [] ys k x e = absurd (cc e)
get_front (y ∷ xs) ys zero x e = e
get_front (y ∷ xs) ys (suc k) x e = get_front xs ys k x e

module _ {T : Type 0} where
  pub resting_live : (ticket : ℕ) (st : Stage T) → is_resting ticket st ≡ true → st ≢ Spent
  resting_live ticket st r e = absurd (cc (sym (ap (is_resting ticket) e) ∙ r))

  pub idle_is_live : (st : Stage T) → st ≡ Idle → st ≢ Spent
  idle_is_live st a b = absurd (cc (a, b))

  pub resting_looks : (ticket : ℕ) (st : Stage T) → is_resting ticket st ≡ true → DoesNotWait st
  resting_looks ticket Idle r = tt
  resting_looks ticket (Waiting t) r = absurd (cc r)
  resting_looks ticket (InTurn t x) r = tt
  resting_looks ticket Spent r = absurd (cc r)

  push_cases : (xs : List (LibSeat T)) (x y : LibSeat T) (k : ℕ) → slice_get (xs ++ x ∷ []) k ≡ Some y → (slice_get xs k ≡ Some y) ⊎ ((k ≡ length xs) × (x ≡ y))
  push_cases [] x y zero e = inr (refl, cc e)
  push_cases [] x y (suc k) e = absurd (cc e)
  push_cases (z ∷ xs) x y zero e = inl e
  push_cases (z ∷ xs) x y (suc k) e = ⊎_elim inl (λ t. inr (ap suc t.0, t.1)) (push_cases xs x y k e)

  -- one new seat more
  pub new_more : (cell : TableId) (origin : Origin) (marks : ℕ → Mark) (seats more : List (LibSeat T)) (n : ℕ) (s : LibSeat T) → more ≡ seats ++ s ∷ [] → length seats ≡ n → AllNew cell origin marks seats
      → IsNew cell origin (marks (n + 1)) (n + 1) s → AllNew cell origin marks more
  new_more cell origin marks seats more n s is long all new k u e = ⊎_elim (λ was. all k u was)
      (λ (t : (k ≡ length seats) × (s ≡ u)). subst (λ (z : ℕ × LibSeat T). IsNew cell origin (marks (z.0 + 1)) (z.0 + 1) z.1) (λ i. (sym (t.0 ∙ long) i, t.1 i)) new)
      (push_cases seats s u k (ap (λ l. slice_get l k) (sym is) ∙ e))

  -- one seat more
  pub one_more : (libraries new : List Library) (seats : List (LibSeat T)) (s : LibSeat T) → new ≡ libraries ++ library_of s ∷ [] → HasEach libraries seats → HasEach new (s ∷ seats)
  one_more libraries new seats s is all zero u e = let same : s ≡ u = cc e in
      (length libraries, ap (λ l. get_elem? l (length libraries)) is ∙ (at_last libraries (library_of s) (length libraries) refl ∙ ap (λ (z : LibSeat T). some (library_of z)) same))
  one_more libraries new seats s is all (suc k) u e = let r = all k u e in
      (r.0, ap (λ l. get_elem? l r.0) is ∙ at_longer libraries (library_of s ∷ []) r.0 (library_of u) r.1)

  -- the library of a seat that was joined
  pub joined_libraries : (v w : View T) → length w.libraries ≡ 1
      → (met v w).libraries ≡ v.libraries ++ record { number = own_number w.libraries; first = w.first; begun = own_begun w.libraries; seen = w.seen } ∷ []
  joined_libraries v w one = ap (λ l. v.libraries ++ l) (go w.libraries one)
    where
      go : (ps : List Library) → length ps ≡ 1 → map (left_with w) ps ≡ record { number = own_number ps; first = w.first; begun = own_begun ps; seen = w.seen } ∷ []
      go [] e = absurd (omega arith)
      go (p ∷ []) e = refl
      go (p ∷ q ∷ ps) e = absurd (omega arith)

module _ {T : Type 0} (first : T → Origin) (log : T → List Entry) (begun : T → ℕ → Mark) where
  pub dealt : (x : T) (n k : ℕ) → k < n → unseated (dealing first log begun x (k + 1) (n - k)) ≡ dealing first log begun x (k + 1 + 1) (n - (k + 1))
  dealt x n k lt = let e : n - k ≡ suc (n - (k + 1)) = omega arith in let f : suc (k + 1) ≡ k + 1 + 1 = omega arith in
      ap (λ z. unseated (dealing first log begun x (k + 1) z)) e ∙ ap (λ z. dealing first log begun x z (n - (k + 1))) f

  pub seat_dealt : (x : T) (n k : ℕ) → k < n → seated (dealing first log begun x (k + 1) (n - k)) ≡ view (first x) [] [] (record { number = k + 1; first = first x; begun = begun x (k + 1); seen = [] } ∷ []) Idle
  seat_dealt x n k lt = let e : n - k ≡ suc (n - (k + 1)) = omega arith in ap (λ z. seated (dealing first log begun x (k + 1) z)) e

  -- what a view that doesn't wait read
  pub looked : (st : Stage T) (m m' : View T × List (ℕ × Option T)) (found : ℕ) → DoesNotWait st → ReadAt first log begun st m found m' → (m' ≡ m) × LooksAt first log begun m.0
  looked Idle m m' found rests r = r
  looked (Waiting t) m m' found rests r = absurd rests
  looked (InTurn t x) m m' found rests r = r
  looked Spent m m' found rests r = absurd rests

  -- a seat's own entries, where it saw more of the log
  pub saw_mine : (v w : View T) → length v.libraries ≡ 1 → LooksAt first log begun v → LooksAt first log begun w → w.libraries ≡ v.libraries
      → made_by (own_number w.libraries) w.seen ≡ made_by (own_number v.libraries) v.seen
  saw_mine v w one a b same = let o = one_library v.libraries one in
      let p = a.3 0 o.0 (ap (λ l. get_elem? l 0) o.1) in let q = b.3 0 o.0 (ap (λ l. get_elem? l 0) (same ∙ o.1)) in
      let is : own_number v.libraries ≡ o.0.number = ap own_number o.1 in
      ap (λ l. made_by (own_number l) w.seen) same ∙ (ap (λ l. made_by l w.seen) is ∙ (q.1 ∙ (sym p.1 ∙ ap (λ l. made_by l v.seen) (sym is))))

  -- how the lists of two views lie that were joined
  pub both_saw : (v w : View T) → LooksAt first log begun (met v w) → IsPrefix v.seen (met v w).seen × IsPrefix w.seen (met v w).seen × IsInLine v.seen w.seen
  both_saw v w l = let b = both_begin v.seen w.seen (log l.0) l.1.grew l.2 in
      (left_longer v.seen w.seen (log l.0) b.0 b.1, right_longer v.seen w.seen (log l.0) b.0 b.1, lie_in_line v.seen w.seen (log l.0) b.0 b.1)

  -- the view of a seat that met another
  now_met : (v w k : View T) (cs : List (ℕ × Option T)) (m1 m2 m3 : View T × List (ℕ × Option T)) → m1 ≡ (v, cs) → k ≡ copied w → m2 ≡ (met m1.0 k, m1.1) → m3 ≡ m2 → m3 ≡ (met v (copied w), cs)
  now_met v w k cs m1 m2 m3 a b c d = d ∙ (c ∙ (λ i. (met (a i).0 (b i), (a i).1)))

  looks_met : (v w k : View T) (cs : List (ℕ × Option T)) (m1 m2 : View T × List (ℕ × Option T)) → m1 ≡ (v, cs) → k ≡ copied w → m2 ≡ (met m1.0 k, m1.1) → LooksAt first log begun m2.0 → LooksAt first log begun (met v (copied w))
  looks_met v w k cs m1 m2 a b c l = subst (λ (m : View T × List (ℕ × Option T)). LooksAt first log begun m.0) (c ∙ (λ i. (met (a i).0 (b i), (a i).1))) l

  still_libraries : (v w : View T) → (met v (copied w)).libraries ≡ v.libraries
  still_libraries v w = append-nil v.libraries

  -- what the seat is after the meeting
  is_met : (v w : View T) (cs : List (ℕ × Option T)) (m : View T × List (ℕ × Option T)) → length v.libraries ≡ 1 → m ≡ (met v (copied w), cs) → LooksAt first log begun v → LooksAt first log begun (met v (copied w))
      → (own_number m.0.libraries ≡ own_number v.libraries) × (m.0.first ≡ v.first) × (own_begun m.0.libraries ≡ own_begun v.libraries) × (held m.0.stage ≡ held v.stage)
      × (made_by (own_number m.0.libraries) m.0.seen ≡ made_by (own_number v.libraries) v.seen)
  is_met v w cs m one is a b = (
    ap (λ (n : View T × List (ℕ × Option T)). own_number n.0.libraries) is ∙ ap own_number (still_libraries v w),
    ap (λ (n : View T × List (ℕ × Option T)). n.0.first) is,
    ap (λ (n : View T × List (ℕ × Option T)). own_begun n.0.libraries) is ∙ ap own_begun (still_libraries v w),
    ap (λ (n : View T × List (ℕ × Option T)). held n.0.stage) is,
    ap (λ (n : View T × List (ℕ × Option T)). made_by (own_number n.0.libraries) n.0.seen) is ∙ saw_mine v (met v (copied w)) one a b (still_libraries v w),
  )

  saw_met : (v w : View T) (cs : List (ℕ × Option T)) (m : View T × List (ℕ × Option T)) → m ≡ (met v (copied w), cs) → LooksAt first log begun (met v (copied w))
      → IsPrefix v.seen m.0.seen × IsPrefix w.seen m.0.seen × IsInLine v.seen w.seen
  saw_met v w cs m is l = let b = both_saw v (copied w) l in
      (subst (λ (n : View T × List (ℕ × Option T)). IsPrefix v.seen n.0.seen) (sym is) b.0, subst (λ (n : View T × List (ℕ × Option T)). IsPrefix w.seen n.0.seen) (sym is) b.1, b.2)

  -- what a meeting gives, step by step
  pub meets : (v w k : View T) (cs : List (ℕ × Option T)) (m1 m2 m3 : View T × List (ℕ × Option T)) → length v.libraries ≡ 1 → m1 ≡ (v, cs) → k ≡ copied w → m2 ≡ (met m1.0 k, m1.1) → m3 ≡ m2
      → LooksAt first log begun v → LooksAt first log begun m2.0
      → (own_number m3.0.libraries ≡ own_number v.libraries) × (m3.0.first ≡ v.first) × (own_begun m3.0.libraries ≡ own_begun v.libraries) × (held m3.0.stage ≡ held v.stage)
      × (made_by (own_number m3.0.libraries) m3.0.seen ≡ made_by (own_number v.libraries) v.seen) × IsPrefix v.seen m3.0.seen × IsPrefix w.seen m3.0.seen × IsInLine v.seen w.seen
  meets v w k cs m1 m2 m3 one a b c d before after =
      let is = now_met v w k cs m1 m2 m3 a b c d in let lies = looks_met v w k cs m1 m2 a b c after in
      let e = is_met v w cs m3 one is before lies in let s = saw_met v w cs m3 is lies in (e.0, e.1, e.2, e.3, e.4, s.0, s.1, s.2)

  -- what the value is to a seat, once the cell is closed
  pub seat_closed : (n : ℕ) (seen : List Entry) (p : Library) (slots : List (Option T)) (x y : T) (r : Option T) → get_elem? slots 0 ≡ some (Some x) → get_elem? slots 0 ≡ some r → r ≡ Some y
      → IsPrefix seen (log x) → LibraryAgrees first log begun x n seen p
      → IsPrefix p.seen (log y) × (made_by p.number (log y) ≡ made_by p.number p.seen) × (first y ≡ p.first) × (begun y p.number ≡ p.begun)
  seat_closed n seen p slots x y r a b c whole known =
      let some_same : Some x ≡ Some y = some-injective (Some x) r (sym a ∙ b) ∙ c in let same : x ≡ y = cc some_same in
      subst (λ z. IsPrefix p.seen (log z) × (made_by p.number (log z) ≡ made_by p.number p.seen) × (first z ≡ p.first) × (begun z p.number ≡ p.begun)) same
      (prefix_trans p.seen seen (log x) known.saw whole, known.all_seen, sym known.began, sym known.mark)

  closes_with : (n id : ℕ) (v : View T) (seats : List (LibSeat T)) (words : List ℕ) (slots : List (Option T)) → v.stage ≡ Idle → HasEach v.libraries seats → EverySeat n seats
      → Final (Seen (TicketRule first log begun n) id v) words slots
      → (x : T) × (get_elem? slots 0 ≡ some (Some x)) × IsPrefix v.seen (log x) × ((i : ℕ) (p : Library) → get_elem? v.libraries i ≡ some p → LibraryAgrees first log begun x n v.seen p)
  closes_with n id v seats words slots idle stand every end = closes first log begun n id v words slots idle
      (λ l low high. let e = every l low high in let s = stand e.0 e.1 e.2 in (s.0, library_of e.1, s.1, e.3)) end

  -- the slot has a value at the end
  pub not_empty : (n id : ℕ) (v : View T) (seats : List (LibSeat T)) (words : List ℕ) (slots : List (Option T)) (r : Option T) → v.stage ≡ Idle → HasEach v.libraries seats → EverySeat n seats
      → Final (Seen (TicketRule first log begun n) id v) words slots → get_elem? slots 0 ≡ some r → r ≡ None → ⊥
  not_empty n id v seats words slots r idle stand every end found none = let t = closes_with n id v seats words slots idle stand every end in
      let e : Some t.0 ≡ None = some-injective (Some t.0) r (sym t.1 ∙ found) ∙ none in cc e

  -- what the value is to each seat
  pub all_closed : (n id : ℕ) (v : View T) (seats : List (LibSeat T)) (words : List ℕ) (slots : List (Option T)) (r : Option T) (y : T) → v.stage ≡ Idle → HasEach v.libraries seats → EverySeat n seats
      → Final (Seen (TicketRule first log begun n) id v) words slots → get_elem? slots 0 ≡ some r → r ≡ Some y → (k : ℕ) (s : LibSeat T) → slice_get seats k ≡ Some s
      → IsPrefix (seen s) (log y) × (made_by (library s) (log y) ≡ mine s) × (first y ≡ began s) × (begun y (library s) ≡ mark s)
  all_closed n id v seats words slots r y idle stand every end found is k s there = let t = closes_with n id v seats words slots idle stand every end in
      let i = stand k s there in seat_closed n v.seen (library_of s) slots t.0 y r t.1 found is t.2 (t.3 i.0 (library_of s) i.1)
