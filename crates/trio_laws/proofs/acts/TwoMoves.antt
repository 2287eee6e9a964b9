-- A release in one call is its two moves in a row, and no act is stuck.
use Rattle.trio_laws.proofs.Words.{◌-◌, ◌∙◌, ◌∷◌, ◌≡◌, ◌≢◌, ◌≤◌, ActAnswer, Begin, Beginning, Bundle, ComesBack, CtlAnswer, End, HasNoRoom, IsAccepted, IsRefused, IsTaken, List, NoMemory, None, NotClosed, One, Option, Outline, Parted, Release, ReleaseEnd, Some, State, Step, Underway, [], ap, arith, begun_by, inl, inr, length, outline_of, parted_hold, refl, slice_index_or, subst, suc, sym, with_begun, zero, ℕ}
use Rattle.std.specs.Prelude.{slice_set}
use Rattle.trio_state.specs.Moves.{HasBegun, Answered, GivenAct, Acts}
use Rattle.trio_laws.proofs.StateLaws.{never_stuck}
use Rattle.trio_laws.specs.ActLaws.{ActsNeverStuck, InTwoMoves, AtOnce, InARow, ReleaseIsTwoMoves}
use Rattle.trio_laws.proofs.acts.Underways.{begun_here}

-- ---- no act is stuck

answered_apart : (a b : CtlAnswer) → a ≢ b → Answered a ≢ Answered b
answered_apart a b apart e = apart (cc e)

pub acts_never_stuck : ActsNeverStuck
acts_never_stuck u (Begin lib b) k given may = by (parted_hold u.state lib b) refl
  where
    by : (o : Option ℕ) → parted_hold u.state lib b ≡ o → (answer : ActAnswer) × (u' : Underway) × (answer ≢ Answered NoMemory) × Beginning u lib b answer u'
    by None e = (HasBegun, with_begun u lib (Some (outline_of b)), (λ wrong. absurd (cc wrong)), IsTaken e refl refl)
    by (Some n) e = (Answered (NotClosed n), u, (λ wrong. absurd (cc wrong)), ComesBack n e refl refl)
acts_never_stuck u (End lib b) k given may =
    let r = never_stuck u.state (Release lib b) k.kept (k.given lib b given.0 given.1) tt in
    (Answered r.0, record { state = r.1; begun = (with_begun u lib None).begun }, answered_apart r.0 NoMemory r.2, (r.0, refl, r.3, refl))
acts_never_stuck u (One event) k given may =
    let r = never_stuck u.state event k.kept given.1 may in
    (Answered r.0, record { state = r.1; begun = u.begun }, answered_apart r.0 NoMemory r.2, (r.0, refl, inl r.3, refl))

-- ---- one call, two moves

underway_same : (u v : Underway) → u.state ≡ v.state → u.begun ≡ v.begun → u ≡ v
underway_same u v e f =
    let U : State → List (Option Outline) → Underway = λ s l. record { state = s; begun = l } in
    ap (λ s. U s u.begun) e ∙ ap (λ l. U v.state l) f

set_back : (xs : List (Option Outline)) (k : ℕ) (o : Option Outline) → slice_index_or xs k None ≡ None → slice_set (slice_set xs k o) k None ≡ xs
set_back [] k o e = refl
set_back (x ∷ xs) zero o e = ap (λ y. y ∷ xs) (sym e)
set_back (x ∷ xs) (suc k) o e = ap (λ l. x ∷ l) (set_back xs k o e)

idle_at : (u : Underway) (lib : ℕ) → 1 ≤ lib → begun_by u lib ≡ None → slice_index_or u.begun (lib - 1) None ≡ None
idle_at u zero l e = absurd (omega (arith, l))
idle_at u (suc n) l e = (let k : suc n - 1 ≡ n = omega arith in ap (λ i. slice_index_or u.begun i None) k ∙ e)

module _ (u : Underway) (lib : ℕ) (b : Bundle) (given : GivenAct u (Begin lib b)) (placed : length u.begun ≡ length u.state.creds) where
  abbrev mid : Underway
  mid = with_begun u lib (Some (outline_of b))

  back : (with_begun mid lib None).begun ≡ u.begun
  back = set_back u.begun (lib - 1) (Some (outline_of b)) (idle_at u lib given.0.0 given.1)

  given_end : GivenAct mid (End lib b)
  given_end =
      (begun_here u lib (Some (outline_of b)) given.0.0 (subst (λ n. lib ≤ n) (sym placed) given.0.1), given.2.full)

  in_a_row : (answer : ActAnswer) (u' : Underway) (said : CtlAnswer) → answer ≡ Answered said → parted_hold u.state lib b ≡ None
      → ReleaseEnd u.state lib b said u'.state → u'.begun ≡ u.begun → InTwoMoves u lib b answer u'
  in_a_row answer u' said e closed end same = InARow mid (IsTaken closed refl refl) given_end (said, e, end, same ∙ sym back)

  in_two : (answer : ActAnswer) (u' : Underway) (said : CtlAnswer) → answer ≡ Answered said → u'.begun ≡ u.begun
      → Step u.state (Release lib b) said u'.state → InTwoMoves u lib b answer u'
  in_two answer u' said e same (inr none) =
      AtOnce said e (HasNoRoom (e ∙ ap Answered none.1) (underway_same u' u none.2 same))
  in_two answer u' said e same (inl does) = by_end does
    where
      by_end : ReleaseEnd u.state lib b said u'.state → InTwoMoves u lib b answer u'
      by_end (Parted n parted is after) = AtOnce said e (ComesBack n parted (e ∙ ap Answered is) (underway_same u' u after same))
      by_end (IsAccepted closed t is ends) = in_a_row answer u' said e closed (IsAccepted closed t is ends) same
      by_end (IsRefused closed f why is tells ends) = in_a_row answer u' said e closed (IsRefused closed f why is tells ends) same

  abbrev InOne : ActAnswer → Underway → Type 0
  InOne answer u' = Acts u (One (Release lib b)) answer u'

  at_once : (answer : ActAnswer) (u' : Underway) (said : CtlAnswer) → answer ≡ Answered said → Beginning u lib b answer u' → InOne answer u'
  at_once answer u' said e (IsTaken closed is same) = (let wrong = sym is ∙ e in absurd cc)
  at_once answer u' said e (ComesBack n parted is same) =
      (NotClosed n, is, inl (Parted n parted refl (ap (λ (x : Underway). x.state) same)), ap (λ (x : Underway). x.begun) same)
  at_once answer u' said e (HasNoRoom is same) =
      (NoMemory, is, inr (refl, refl, ap (λ (x : Underway). x.state) same), ap (λ (x : Underway). x.begun) same)

  row_in_one : (answer : ActAnswer) (u' m : Underway) → Beginning u lib b HasBegun m → Acts m (End lib b) answer u' → InOne answer u'
  row_in_one answer u' m (ComesBack n parted is same) end = absurd cc
  row_in_one answer u' m (HasNoRoom is same) end = absurd cc
  row_in_one answer u' m (IsTaken closed is same) end =
      let here : Acts mid (End lib b) answer u' = subst (λ x. Acts x (End lib b) answer u') same end in
      (here.0, here.1, inl here.2, here.3 ∙ back)

  in_one : (answer : ActAnswer) (u' : Underway) → InTwoMoves u lib b answer u' → InOne answer u'
  in_one answer u' (AtOnce said e act) = at_once answer u' said e act
  in_one answer u' (InARow m begin end_given end) = row_in_one answer u' m begin end

pub release_is_two_moves : ReleaseIsTwoMoves
release_is_two_moves u lib b answer u' given placed =
    (λ act. in_two u lib b given placed answer u' act.0 act.1 act.3 act.2, in_one u lib b given placed answer u')
