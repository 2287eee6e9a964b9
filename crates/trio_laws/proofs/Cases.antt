-- What holds of a state after a call and along a run, by the ways that a call can go.
use Rattle.trio_laws.proofs.Words.{◌∷◌, CtlAnswer, Event, GivenEvent, GrantFault, In, List, ModeFault, Move, State, Step, Trace, [], after_grant_fault, after_mode_fault, allot_outcome, allots, arith, free_numbers, free_pages, inl, inr, logged, subst, sym, take, ℕ}

module _ (P : State → Type 0) where
  pub after_no_grant : (s : State) (f : GrantFault) → P s → P (logged s) → P (after_grant_fault s f)
  after_no_grant s f same more = search arith

  pub after_no_mode : (s : State) (f : ModeFault) → P s → P (logged s) → P (after_mode_fault s f)
  after_no_mode s f same more = search arith

  pub after_allot : (s : State) (lib count many : ℕ) → P (logged s) → P (allots s lib (take count (free_pages s)) (take many (free_numbers s))) → P (allot_outcome s lib count many).after
  after_allot s lib count many more out = search arith

  -- what each step keeps holds before and after each move
  pub trace_keeps : ((s : State) (event : Event) (answer : CtlAnswer) (s' : State) → P s → GivenEvent s event → Step s event answer s' → P s') → (s : State) (moves : List Move) → P s → Trace s moves → (m : Move) → In m moves → P m.before × P m.after
  trace_keeps keeps s [] p run m i = absurd i
  trace_keeps keeps s (x ∷ moves) p run m i =
      let before : P x.before = subst P (sym run.0) p in
      let after : P x.after = keeps x.before x.event x.answer x.after before run.1 run.2 in
      let B : Move → Type 0 = λ y. P y.before × P y.after in
      elim i [
        | inl e ↦ subst B (sym e) (before, after)
        | inr j ↦ trace_keeps keeps x.after moves after run.3 m j
      ]
