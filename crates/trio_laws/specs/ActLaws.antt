-- The laws of single acts: beginnings and ends of releases, and whole calls.
use Rattle.std.specs.Prelude.{◌≡◌, ◌≢◌, ◌↔◌, ℕ, length}
use Rattle.trio_rights.specs.Bundle.{Bundle}
use Rattle.trio_layout.specs.Case.{Case}
use Rattle.trio_layout.specs.Listing.{listing}
use Rattle.trio_layout.specs.Rules.{meets_grammar, meets_owning, meets_rights}
use Rattle.trio_state.specs.State.{State}
use Rattle.trio_state.specs.Tells.{case_in}
use Rattle.trio_state.specs.Step.{Event, Release, CtlAnswer, NoMemory}
use Rattle.trio_state.specs.Moves.{Underway, Act, Begin, End, One, ActAnswer, HasBegun, Answered, IsFull, GivenAct, Acts, KeptUnderway, IsAwaited}
use Rattle.trio_laws.specs.Laws.{MayEnd}
use Rattle.trio_laws.specs.RuleLaws.{IsJudgeable}

-- the call that an act comes to: a beginning and an end are those of a release
abbrev pub event_of : Act → Event
event_of (Begin lib b) = Release lib b
event_of (End lib b) = Release lib b
event_of (One event) = event

-- An act of what its library may do leaves it so that each bundle whose release has begun was given and is closed.
abbrev pub ActsKeep : Type 0
ActsKeep =
    (u : Underway) (act : Act) (answer : ActAnswer) (u' : Underway)
    → KeptUnderway u → GivenAct u act → Acts u act answer u' → KeptUnderway u'

-- and each act that a library may do can be answered, and not for want of memory
abbrev pub ActsNeverStuck : Type 0
ActsNeverStuck =
    (u : Underway) (act : Act) → KeptUnderway u → GivenAct u act → MayEnd u.state (event_of act)
    → (answer : ActAnswer) × (u' : Underway) × (answer ≢ Answered NoMemory) × Acts u act answer u'

-- ---- a release in one call

-- A beginning that comes back, or one and at once its end.
pub data InTwoMoves (u : Underway) (lib : ℕ) (b : Bundle) (answer : ActAnswer) (u' : Underway) : Type 0 where
  AtOnce : (said : CtlAnswer) → answer ≡ Answered said → Acts u (Begin lib b) answer u' → InTwoMoves u lib b answer u'
  InARow :
      (mid : Underway) → Acts u (Begin lib b) HasBegun mid → GivenAct mid (End lib b) → Acts mid (End lib b) answer u'
      → InTwoMoves u lib b answer u'

-- a release in one call is just that
abbrev pub ReleaseIsTwoMoves : Type 0
ReleaseIsTwoMoves =
    (u : Underway) (lib : ℕ) (b : Bundle) (answer : ActAnswer) (u' : Underway)
    → GivenAct u (Begin lib b) → length u.begun ≡ length u.state.creds
    → Acts u (One (Release lib b)) answer u' ↔ InTwoMoves u lib b answer u'

-- ---- what was weighed

-- The rules I1, I2 and I4, and what the bundle lists, are found of this case as they are of the bundle in this state.
pub record WasWeighed (c : Case) (s : State) (lib : ℕ) (b : Bundle) : Type 0 where
  pub grammar : meets_grammar (case_in s lib b) ≡ meets_grammar c
  pub owning : meets_owning (case_in s lib b) ≡ meets_owning c
  pub rights : meets_rights (case_in s lib b) ≡ meets_rights c
  pub listing : listing (case_in s lib b) ≡ listing c

-- what is weighed of an awaited case is so of its bundle now, whatever was written into the pages until then
abbrev pub AwaitedStands : Type 0
AwaitedStands =
    (u : Underway) (lib : ℕ) (c : Case)
    → KeptUnderway u → IsAwaited u lib c → IsFull c.bundle
    → IsJudgeable u.state lib c.bundle × WasWeighed c u.state lib c.bundle
