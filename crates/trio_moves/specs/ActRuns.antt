-- The laws of a release in two moves: what was given stays given while others go on, what was found true between the moves is
-- true at the end, and a run of acts is a run of the controller's calls.
use Rattle.std.specs.Prelude.{◌≡◌, ◌≢◌, ℕ, List, [], ◌∷◌, ◌++◌, map, Some}
use Rattle.std.specs.List.{flat_map}
use Rattle.trio_rights.specs.declared.rights.Creds.{Creds}
use Rattle.trio_rights.specs.Bundle.{Bundle}
use Rattle.trio_rights.specs.Row.{Row}
use Rattle.trio_lists.specs.Lists.{In}
use Rattle.trio_layout.specs.Image.{Image, IsFit, row_at}
use Rattle.trio_layout.specs.Verifies.{Verifies}
use Rattle.trio_layout.specs.Copied.{with_copied}
use Rattle.trio_surveys.specs.Tree.{IsTree}
use Rattle.trio_state.specs.State.{State, settled}
use Rattle.trio_state.specs.Tells.{Why, case_in}
use Rattle.trio_state.specs.Step.{Event, library_of, CtlAnswer, Refused, Step}
use Rattle.trio_state.specs.Kept.{Kept}
use Rattle.trio_state.specs.Given.{GivenEvent}
use Rattle.trio_state.specs.Run.{start, IsWhole, Move, Run}
use Rattle.trio_state.specs.Moves.{Underway, none_begun, Begin, End, ActAnswer, HasBegun, Answered, ActMove, ActTrace, KeptUnderway, IsAwaited}
use Rattle.trio_laws.specs.Laws.{AnyRun, IsMove, IsJudged, IsVerdict, IsBack, HasNone, IsElsewhere, IsUntouched, RowGoes}
use Rattle.trio_laws.specs.RuleLaws.{IsJudgeable}
use Rattle.trio_laws.specs.ActLaws.{event_of, WasWeighed}
use Rattle.trio_laws.specs.session.Others.{state_after}

-- ---- runs of acts

-- A run of acts from an image that verifies, with all its pages there, with any bytes.
pub record AnyActs : Type 0 where
  pub image : Image
  pub creds : List Creds
  pub moves : List ActMove
  pub fit : IsFit image.core
  pub verifies : Verifies image
  pub whole : IsWhole image
  pub trace : ActTrace (none_begun image creds) moves

-- what stands after acts
abbrev pub underway_after : Underway → List ActMove → Underway
underway_after u [] = u
underway_after u (m ∷ moves) = underway_after m.after moves

-- ---- what was given stays given

-- each bundle whose release has begun is given and closed before and after each act of a run
abbrev pub BegunStaysGiven : Type 0
BegunStaysGiven =
    (run : AnyActs)
    → KeptUnderway (none_begun run.image run.creds)
    × ((m : ActMove) → In m run.moves → KeptUnderway m.before × KeptUnderway m.after)

-- ---- a run of acts is a run of calls

-- an act as a call with its answer; where its answer is that a release has begun, it is none
abbrev pub calls_by : ActMove → ActAnswer → List Move
calls_by m HasBegun = []
calls_by m (Answered answer) =
    record { before = m.before.state; event = event_of m.act; answer = answer; after = m.after.state } ∷ []

-- acts as calls with their answers, one after another
abbrev pub calls_of : List ActMove → List Move
calls_of moves = flat_map (λ m. calls_by m m.answer) moves

-- The run has the calls of these acts, with the same answers, and ends in the same state. So each law on runs is one on acts.
pub record IsRunOf (acts : AnyActs) (run : AnyRun) : Type 0 where
  pub image : run.image ≡ acts.image
  pub creds : run.creds ≡ acts.creds
  pub moves : run.moves ≡ calls_of acts.moves
  pub last : state_after (start run.image run.creds) run.moves ≡ (underway_after (none_begun acts.image acts.creds) acts.moves).state
  pub comes :
      Run (start acts.image acts.creds) (map (λ m. m.event) (calls_of acts.moves)) (map (λ m. m.answer) (calls_of acts.moves))
      (underway_after (none_begun acts.image acts.creds) acts.moves).state

-- to every run of acts there is one of calls
abbrev pub ActsAreRun : Type 0
ActsAreRun = (acts : AnyActs) → (run : AnyRun) × IsRunOf acts run

-- What holds of an act of a run. Before and after it the state is kept, and what is settled is one tree. That a release has
-- begun changes no state, and each other act is a step of what was given. The end of a release is a verdict, after a refusal what
-- the checkpoints cover is back, byte for byte, and libraries are apart.
pub record ActStands (m : ActMove) : Type 0 where
  pub kept : Kept m.before.state × Kept m.after.state
  pub tree : IsTree (settled m.after.state)
  pub begins : m.answer ≡ HasBegun → m.after.state ≡ m.before.state
  pub steps : (move : Move) → In move (calls_by m m.answer) → IsMove move
  pub judged :
      (lib : ℕ) (b : Bundle) → m.act ≡ End lib b
      → (said : CtlAnswer) × (m.answer ≡ Answered said) × IsJudged said × IsVerdict m.before.state lib b said m.after.state
  pub back :
      (lib : ℕ) (b : Bundle) (why : Why) → m.act ≡ End lib b → m.answer ≡ Answered (Refused why)
      → IsBack m.before.state b m.after.state
  pub isolated :
      (said : CtlAnswer) (n : ℕ) (r : Row) → m.answer ≡ Answered said → row_at (settled m.before.state) n ≡ Some r
      → HasNone m.before.state (library_of (event_of m.act)) n → IsElsewhere n (event_of m.act) said
      → IsUntouched (settled m.before.state) (settled m.after.state) n
  pub rows :
      (said : CtlAnswer) (n : ℕ) (r : Row) → m.answer ≡ Answered said → row_at (settled m.before.state) n ≡ Some r
      → RowGoes m.before.state (event_of m.act) n r (row_at (settled m.after.state) n)

-- so what is claimed of every run holds with releases in two moves
abbrev pub MovesKeepHeadline : Type 0
MovesKeepHeadline = (acts : AnyActs) (m : ActMove) → In m acts.moves → ActStands m

-- ---- what was weighed stands

-- a step of another library leaves a bundle's case, with its copied rows, as it is
abbrev pub StepLeavesCase : Type 0
StepLeavesCase =
    (s : State) (lib : ℕ) (b : Bundle) (event : Event) (answer : CtlAnswer) (s' : State)
    → IsJudgeable s lib b → GivenEvent s event → Step s event answer s' → library_of event ≢ lib
    → with_copied (case_in s' lib b) ≡ with_copied (case_in s lib b)

-- A release that begins and ends in a run, with no end of another release of its library between, and with whatever bytes at its
-- end. The case that is copied of them where it began is awaited at the end, and what is weighed of that case is so then.
pub record BeginsAndEnds (run : AnyActs) (lib : ℕ) (begun ended : Bundle) : Type 0 where
  pub earlier : List ActMove
  pub between : List ActMove
  pub later : List ActMove
  pub begins : ActMove
  pub ends : ActMove
  pub moves : run.moves ≡ earlier ++ (begins ∷ (between ++ (ends ∷ later)))
  pub begin : begins.act ≡ Begin lib begun
  pub began : begins.answer ≡ HasBegun
  pub end : ends.act ≡ End lib ended
  pub still : (m : ActMove) (b : Bundle) → In m between → m.act ≢ End lib b

-- what was weighed of such a release is so where it ends
abbrev pub WeighedStands : Type 0
WeighedStands =
    (run : AnyActs) (lib : ℕ) (begun ended : Bundle) (r : BeginsAndEnds run lib begun ended)
    → let c = with_copied (case_in r.begins.before.state lib ended) in
    IsJudgeable r.ends.before.state lib ended × IsAwaited r.ends.before lib c × WasWeighed c r.ends.before.state lib ended
