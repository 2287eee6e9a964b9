-- The laws on runs, each from the lemmas that carry it.
use Rattle.trio_laws.proofs.Words.{◌∙◌, ◌∷◌, ◌≡◌, ◌≢◌, Bundle, CtlAnswer, Does, Event, GivenEvent, GrantFault, GrantKind, In, Kept, List, ModeFault, Move, NoMemory, None, Option, Release, Row, Some, State, Step, Trace, [], allot_outcome, arith, granted_to, inl, inr, moded_to, start, subst, sym, ℕ}
use Rattle.trio_laws.specs.Laws.{AnyRun, EveryStateIsKept, EveryMoveIsAStep, EveryReleaseIsJudged, NeverStuck}
use Rattle.trio_laws.proofs.Runs.{trace_kept, start_kept as first_kept}
use Rattle.trio_laws.proofs.Possible.{call_possible}
use Rattle.trio_laws.proofs.Verdicts.{release_verdict}

run_begins : (run : AnyRun) → Kept (start run.image run.creds)
run_begins run = first_kept run.image run.creds run.fit run.verifies run.whole

pub every_state_is_kept : EveryStateIsKept
every_state_is_kept run =
    let begins = run_begins run in
    (begins, λ m i. trace_kept (start run.image run.creds) run.moves begins run.trace m i)

-- each move of a trace is a step of what was given
trace_steps : (s : State) (moves : List Move) → Trace s moves → (m : Move) → In m moves → GivenEvent m.before m.event × Step m.before m.event m.answer m.after
trace_steps s [] run m i = absurd i
trace_steps s (x ∷ moves) run m i =
    let M : Move → Type 0 = λ y. GivenEvent y.before y.event × Step y.before y.event y.answer y.after in
    elim i [
      | inl e ↦ subst M (sym e) (run.1, run.2)
      | inr j ↦ trace_steps x.after moves run.3 m j
    ]

pub every_move_is_a_step : EveryMoveIsAStep
every_move_is_a_step run m i =
    let steps = trace_steps (start run.image run.creds) run.moves run.trace m i in
    record { kept = ((every_state_is_kept run).1 m i).0; given = steps.0; step = steps.1 }

pub every_release_is_judged : EveryReleaseIsJudged
every_release_is_judged run m lib b i is =
    let S : Event → Type 0 = λ event. Step m.before event m.answer m.after in
    release_verdict m.before m.after lib b m.answer (subst S is (every_move_is_a_step run m i).step)

-- ---- what each call does is never want of memory

told : (a b : CtlAnswer) → a ≡ b → b ≢ NoMemory → a ≢ NoMemory
told a b e other wrong = other (sym e ∙ wrong)

grant_told : (s : State) (lib ino : ℕ) (kind : GrantKind) (f : Option GrantFault) (o : Option Row) → (granted_to s lib ino kind f o).answer ≢ NoMemory
grant_told s lib ino kind f o wrong = search arith

allot_told : (s : State) (lib count many : ℕ) → (allot_outcome s lib count many).answer ≢ NoMemory
allot_told s lib count many = search arith

mode_told : (s : State) (ino mode : ℕ) (f : Option ModeFault) → (moded_to s ino mode f).answer ≢ NoMemory
mode_told s ino mode (Some fault) wrong = absurd (cc wrong)
mode_told s ino mode None wrong = absurd (cc wrong)

release_told : (s s' : State) (lib : ℕ) (b : Bundle) (answer : CtlAnswer) → Does s (Release lib b) answer s' → answer ≢ NoMemory
release_told s s' lib b answer does = search (arith, told)

pub does_told : (s : State) (event : Event) (answer : CtlAnswer) (s' : State) → Does s event answer s' → answer ≢ NoMemory
does_told s event answer s' does = search (arith, told, grant_told, allot_told, release_told, mode_told)

pub never_stuck : NeverStuck
never_stuck s event k given may = search (arith, call_possible, does_told)
