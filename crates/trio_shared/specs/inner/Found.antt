-- What a turn finds of the controller, and what it makes of it.
use Rattle.std.specs.Prelude.{◌≡◌, ◌≢◌, ℕ, List, [], ◌++◌}
use Rattle.trio_rights.specs.declared.rights.LibNo.{LibNo}
use Rattle.trio_desk.specs.Call.{Ask, Told}
use Rattle.trio_nodes.specs.declared.entry.Entry.{Entry}
use Rattle.trio_turn.specs.Logs.{GrewBy, made_by}
use Rattle.trio_case.specs.Cases.{CaseShown, case_in as case_shown}
use Rattle.trio_lease.specs.Views.{bundle_in}
use Rattle.trio_nodes.specs.declared.answers.ReleaseAnswer.{ReleaseAnswer}
use Rattle.trio_state.specs.Moves.{Acts, Answered, End, IsAwaited, IsFull, KeptUnderway}
use Rattle.trio_state.specs.Step.{Release}
use Rattle.trio_ctl.specs.Answers.{verdict_of}
use Rattle.trio_ctl.specs.Logged.{entries_made, with_bundle}
use Rattle.trio_ctl.specs.Ctl.{Controller, IsLibrary, underway_of}
use Rattle.trio_ctl.specs.Desk.{Happens, LogsCall, desk_of}
use Rattle.trio_shared.specs.Begun.{marked}
use Rattle.trio_shared.specs.Left.{Leaves, desk_left, origin_of}
use Rattle.trio_shared.specs.Turns.{Seated}

-- the controller at the entries that a seat had seen and then entries of others, with what its library had out
pub record Found (old : Seated) (c : Controller) : Type 0 where
  pub others : List Entry
  pub not_its_own : made_by old.lib.0 others ≡ []
  pub log : c.log ≡ old.seen ++ others
  pub origin : origin_of c ≡ old.first
  pub left : Leaves (origin_of c) c.log c.state
  pub desk : desk_of c.state old.lib ≡ desk_left old.first old.seen old.lib
  pub library : IsLibrary old.lib c.state
  pub begun : marked c old.lib.0 ≡ old.begun

-- a call of a library changes the controller, and logs itself
pub record Makes (old : Controller) (lib : LibNo) (ask : Ask) (told : Told) (new : Controller) : Type 0 where
  pub happens : Happens old.state lib ask told new.state
  pub logs : LogsCall old lib ask told new

-- the controller began from the same, its log grew by entries of one library, and what others have begun stands
pub record Grows (lib : LibNo) (old new : Controller) : Type 0 where
  pub log : GrewBy lib.0 old.log new.log
  pub origin : origin_of new ≡ origin_of old
  pub others : (l : ℕ) → l ≢ lib.0 → marked new l ≡ marked old l

-- nothing of it that a seat sees has changed
pub record Same (old new : Controller) : Type 0 where
  pub first : new.first ≡ old.first
  pub log : new.log ≡ old.log
  pub state : new.state ≡ old.state
  pub begun : new.begun ≡ old.begun

-- the end of an awaited release of a library, with its entry
pub record EndsHere (old : Controller) (lib : LibNo) (k : CaseShown) (answer : ReleaseAnswer) (new : Controller) : Type 0 where
  pub mine : k.lib ≡ lib
  pub full : IsFull (bundle_in k.bundle)
  pub awaited : IsAwaited (underway_of old) lib.0 (case_shown k)
  pub acts : Acts (underway_of old) (End lib.0 (bundle_in k.bundle)) (Answered (verdict_of answer)) (underway_of new)
  pub log : new.log ≡ old.log ++ entries_made old.state (with_bundle k.bundle) (Release lib.0 (bundle_in k.bundle)) (verdict_of answer)
  pub first : new.first ≡ old.first
  pub kept : KeptUnderway (underway_of old)
