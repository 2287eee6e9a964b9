-- A release of a seat in two moves, each one turn.
use Rattle.std.specs.Prelude.{◌≡◌, ⊤, Result, Ok, Err, None, Some}
use Rattle.trio_rights.specs.declared.rights.LibNo.{LibNo}
use Rattle.trio_layout.specs.Copied.{with_copied}
use Rattle.trio_lease.specs.Bundles.{Bundled}
use Rattle.trio_lease.specs.Views.{bundle_in}
use Rattle.trio_desk.specs.Call.{NotJudged, TellsClosed}
use Rattle.trio_desk.specs.Out.{IsClosed, LibOut, Parcel}
use Rattle.trio_case.specs.Cases.{CaseShown, case_in as case_shown}
use Rattle.trio_nodes.specs.declared.answers.ReleaseAnswer.{ReleaseAnswer}
use Rattle.trio_nodes.specs.declared.answers.ReleaseFault.{ReleaseFault}
use Rattle.trio_nodes.specs.declared.answers.ReleaseFault.TheVariants.{NotClosed, NoMemory}
use Rattle.trio_state.specs.Bundles.{parted_hold}
use Rattle.trio_state.specs.Moves.{outline_of}
use Rattle.trio_state.specs.State.{State}
use Rattle.trio_state.specs.Step.{Release, ReleaseEnd}
use Rattle.trio_state.specs.Tells.{case_in}
use Rattle.trio_turn.specs.Marks.{Mark}
use Rattle.trio_ctl.specs.Answers.{verdict_of}
use Rattle.trio_entries.specs.Handed.{handed_in}
use Rattle.trio_ctl.specs.HandedIn.{AreMarked}
use Rattle.trio_ctl.specs.Logged.{entries_made, with_bundle}
use Rattle.trio_ctl.specs.Pending.{case_made}
use Rattle.trio_shared.specs.Begun.{mark_of}
use Rattle.trio_shared.specs.Left.{Leaves, out_left}
use Rattle.trio_shared.specs.Turns.{Seated, Turned}

-- the mark of a release of this bundle
abbrev pub mark_at : Seated → Bundled → Mark
mark_at seat b = Some (mark_of (out_left seat.first seat.seen seat.lib) (outline_of (bundle_in b)))

-- a bundle comes back: it isn't closed, and this is the lowest number at which it isn't; or there is no memory
abbrev pub IsReturned : State → LibNo → Bundled → ReleaseFault → Type 0
IsReturned s lib b (NotClosed n) = parted_hold s lib.0 (bundle_in b) ≡ Some n
IsReturned s lib b NoMemory = ⊤

-- what the beginning of a release tells in this state: a closed bundle is taken in, as the case that is made of it; or it comes back
abbrev pub TellsBeginning : {B : Type 0} → State → LibNo → Bundled → Result CaseShown B → (B → ReleaseFault) → Type 0
TellsBeginning s lib b (Ok case) fault = (parted_hold s lib.0 (bundle_in b) ≡ None) × (case ≡ case_made s lib b)
TellsBeginning s lib b (Err back) fault = IsReturned s lib b (fault back)

-- what a case says beside its bundle is so in this state
abbrev pub IsStillSo : State → LibNo → CaseShown → Type 0
IsStillSo s lib k = case_shown k ≡ with_copied (case_in s lib.0 (bundle_in k.bundle))

-- a bundle that is taken in is closed, by what its library has out; of one that comes back it is told where it isn't
abbrev pub TellsWhetherClosed : {A B : Type 0} → LibOut → Parcel → Result A B → (B → ReleaseFault) → Type 0
TellsWhetherClosed out b (Ok taken) fault = IsClosed out b
TellsWhetherClosed out b (Err back) fault = TellsClosed out b (NotJudged (fault back))

-- The end of a release: one turn, which makes the entry of the release with its bundle as it now stands. The seat had the mark of just
-- this release, and what its case says is so in the state that the turn finds.
abbrev pub Ends : Seated → CaseShown → ReleaseAnswer → Seated → Type 0
Ends old k answer new =
    (k.lib ≡ old.lib) × (old.begun ≡ mark_at old k.bundle)
    × Turned old (λ s. entries_made s (with_bundle k.bundle) (Release old.lib.0 (bundle_in k.bundle)) (verdict_of answer))
    (λ s s'. IsStillSo s old.lib k × ReleaseEnd s old.lib.0 (bundle_in k.bundle) (verdict_of answer) s') new

-- it is no release of the seat, or not the one that has begun, or what its case says is no longer so
abbrev pub IsNotAwaited : Seated → CaseShown → State → Type 0
IsNotAwaited old k s = k.lib ≡ old.lib → old.begun ≡ mark_at old k.bundle → IsStillSo s old.lib k → ⊥

-- each block that is handed in without a mark has the bytes that were lent, by what the seat has seen
pub record MayEnd (seat : Seated) (k : CaseShown) : Type 0 where
  pub state : State
  pub left : Leaves seat.first seat.seen state
  pub marked : AreMarked state seat.lib.0 (handed_in k.bundle)
