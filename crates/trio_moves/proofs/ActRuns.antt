-- A run of acts is a run of calls, and what holds of calls holds of acts.
use Rattle.std.proofs.Common.{◌≡◌, ℕ, zero, suc, ◌<◌, List, [], ◌∷◌, ◌++◌, length, Option, Some, None, sym, refl, ap, ◌∙◌, subst, inl, inr}
use Rattle.std.specs.Prelude.{map, replicate, slice_index_or}
use Rattle.std.proofs.lemmas.List.{get_or-replicate, length-replicate}
use Rattle.trio_lists.specs.Lists.{In}
use Rattle.trio_state.specs.Given.{GivenEvent}
use Rattle.trio_state.specs.Moves.{Underway, Outline, outline_of, begun_by, none_begun, Act, Begin, End, One, ActAnswer, HasBegun, Answered, GivenAct, IsTaken, ComesBack, HasNoRoom, Acts, ActMove, ActTrace, KeptUnderway}
use Rattle.trio_state.specs.Run.{Move, Trace, Run}
use Rattle.trio_state.specs.State.{State}
use Rattle.trio_state.specs.Step.{Step, Parted}
use Rattle.trio_laws.specs.session.Others.{state_after}
use Rattle.trio_laws.proofs.Runs.{start_kept}
use Rattle.trio_laws.specs.ActLaws.{event_of}
use Rattle.trio_moves.specs.ActRuns.{AnyActs, underway_after, calls_by, calls_of, BegunStaysGiven, ActsAreRun}
use Rattle.trio_laws.proofs.acts.Underways.{acts_keep, begun_at}

-- ---- what holds before and after each act

first_none : (u : Underway) (n : ℕ) (l : ℕ) (o : Outline) → u.begun ≡ replicate n None → begun_by u l ≡ Some o → ⊥
first_none u n l o all e = absurd (by l e)
  where
    by : (l : ℕ) → begun_by u l ≡ Some o → ⊥
    by zero e = absurd cc
    by (suc k) e =
        let at : slice_index_or (replicate {A = Option Outline} n None) k None ≡ Some o = ap (λ xs. slice_index_or xs k None) (sym all) ∙ e in
        let l = begun_at (replicate n None) k o at in
        let m : k < n = subst (λ x. k < x) (length-replicate n None) l in
        let none : slice_index_or (replicate {A = Option Outline} n None) k None ≡ None = get_or-replicate n k None None m in
        let wrong : None ≡ Some o = sym none ∙ at in absurd cc

pub first_kept : (run : AnyActs) → KeptUnderway (none_begun run.image run.creds)
first_kept run =
    let u : Underway = none_begun run.image run.creds in
    record {
      kept = start_kept run.image run.creds run.fit run.verifies run.whole;
      placed = length-replicate (length run.creds) None;
      given = λ l c e full. absurd (first_none u (length run.creds) l (outline_of c) refl e);
      closed = λ l c e. absurd (first_none u (length run.creds) l (outline_of c) refl e);
    }

-- an act of a trace, from what was kept
pub record ActOf (m : ActMove) : Type 0 where
  pub before : KeptUnderway m.before
  pub given : GivenAct m.before m.act
  pub acts : Acts m.before m.act m.answer m.after
  pub after : KeptUnderway m.after

pub act_here : (u : Underway) (m : ActMove) (moves : List ActMove) → KeptUnderway u → ActTrace u (m ∷ moves) → ActOf m
act_here u m moves k t =
    let before : KeptUnderway m.before = subst KeptUnderway (sym t.0) k in
    record { before = before; given = t.1; acts = t.2; after = acts_keep m.before m.act m.answer m.after before t.1 t.2 }

pub acts_of : (u : Underway) (moves : List ActMove) → KeptUnderway u → ActTrace u moves → (m : ActMove) → In m moves → ActOf m
acts_of u [] k t m i = absurd i
acts_of u (x ∷ moves) k t m i =
    let here = act_here u x moves k t in
    elim i [
      | inl e ↦ subst ActOf (sym e) here
      | inr j ↦ acts_of x.after moves here.after t.3 m j
    ]

pub act_of : (run : AnyActs) (m : ActMove) → In m run.moves → ActOf m
act_of run m i = acts_of (none_begun run.image run.creds) run.moves (first_kept run) run.trace m i

pub begun_stays_given : BegunStaysGiven
begun_stays_given run = (first_kept run, λ m i. let a = act_of run m i in (a.before, a.after))

-- ---- an act as a call

-- that a release has begun changes no state, and each other act is a step of what was given
abbrev pub CallOf : Underway → Act → ActAnswer → Underway → Type 0
CallOf u act HasBegun u' = u'.state ≡ u.state
CallOf u act (Answered said) u' = GivenEvent u.state (event_of act) × Step u.state (event_of act) said u'.state

pub call_of : (u : Underway) (act : Act) (answer : ActAnswer) (u' : Underway) → KeptUnderway u → GivenAct u act → Acts u act answer u' → CallOf u act answer u'
call_of u (Begin lib b) answer u' k given (IsTaken closed e same) =
    subst (λ a. CallOf u (Begin lib b) a u') (sym e) (ap (λ (x : Underway). x.state) same)
call_of u (Begin lib b) answer u' k given (ComesBack n parted e same) =
    subst (λ a. CallOf u (Begin lib b) a u') (sym e) (given.2, inl (Parted n parted refl (ap (λ (x : Underway). x.state) same)))
call_of u (Begin lib b) answer u' k given (HasNoRoom e same) =
    subst (λ a. CallOf u (Begin lib b) a u') (sym e) (given.2, inr (refl, refl, ap (λ (x : Underway). x.state) same))
call_of u (End lib b) answer u' k given act =
    subst (λ a. CallOf u (End lib b) a u') (sym act.1) (k.given lib b given.0 given.1, inl act.2)
call_of u (One event) answer u' k given act =
    subst (λ a. CallOf u (One event) a u') (sym act.1) (given.1, act.2)

-- ---- acts as calls

record Comes (s : State) (calls : List Move) (last : State) : Type 0 where
  pub trace : Trace s calls
  pub ends : state_after s calls ≡ last
  pub run : Run s (map (λ m. m.event) calls) (map (λ m. m.answer) calls) last

comes_after : (m : ActMove) (calls : List Move) (last s : State) (answer : ActAnswer) → m.before.state ≡ s → CallOf m.before m.act answer m.after
    → Comes m.after.state calls last → Comes s (calls_by m answer ++ calls) last
comes_after m calls last s HasBegun at same rest = subst (λ x. Comes x calls last) (same ∙ at) rest
comes_after m calls last s (Answered said) at call rest = record {
  trace = (at, call.0, call.1, rest.trace);
  ends = rest.ends;
  run = (m.after.state, subst (λ x. Step x (event_of m.act) said m.after.state) at call.1, rest.run);
}

comes : (u : Underway) (moves : List ActMove) → KeptUnderway u → ActTrace u moves → Comes u.state (calls_of moves) (underway_after u moves).state
comes u [] k t = record { trace = tt; ends = refl; run = refl }
comes u (m ∷ moves) k t =
    let a = act_here u m moves k t in
    comes_after m (calls_of moves) (underway_after m.after moves).state u.state m.answer (ap (λ (x : Underway). x.state) t.0)
    (call_of m.before m.act m.answer m.after a.before a.given a.acts) (comes m.after moves a.after t.3)

pub acts_are_run : ActsAreRun
acts_are_run acts =
    let c = comes (none_begun acts.image acts.creds) acts.moves (first_kept acts) acts.trace in (
      record { image = acts.image; creds = acts.creds; moves = calls_of acts.moves; fit = acts.fit; verifies = acts.verifies; whole = acts.whole; trace = c.trace },
      record { image = refl; creds = refl; moves = refl; last = c.ends; comes = c.run },
    )
