-- What a call of a desk logs is what the call of the controller logs.
use Rattle.trio_ctl.proofs.Words.{◌++◌, ◌∙◌, ◌≡◌, Bundled, Controller, GiveBack, LibNo, LogsCall, ReleaseAnswer, ReleaseFault, Result, Shown, alone, ap, bundle_in, entries_made, parcel_of, release_answer, release_told, with_bundle}
use Rattle.trio_desk.specs.Call.{Done, Release}
use Rattle.trio_state.specs.Step as step
use Rattle.trio_ctl.specs.Logged.{Logs}
use Rattle.trio_ctl.proofs.DeskSteps.{release_same}

pub back_logs : (old : Controller) (lib : LibNo) (lease : Shown) (new : Controller) → lease.lib.0 ≡ lib.0 → Logs old alone (step.Back lease.lib.0 lease.ino) step.Done new → LogsCall old lib (GiveBack lease) Done new
back_logs old lib lease new same l = record {
  log = l.log ∙ ap (λ n. old.log ++ entries_made old.state alone (step.Back n lease.ino) step.Done) same;
  first = l.first;
  begun = l.begun;
}

pub release_logs : {B : Type 0} (old : Controller) (lib : LibNo) (b : Bundled) (r : Result ReleaseAnswer B) (f : B → ReleaseFault) (new : Controller) → Logs old (with_bundle b) (step.Release lib.0 (bundle_in b)) (release_answer r f) new → LogsCall old lib (Release (parcel_of b)) (release_told r f) new
release_logs old lib b r f new l = record {
  log = l.log ∙ ap (λ a. old.log ++ entries_made old.state (with_bundle b) (step.Release lib.0 (bundle_in b)) a) (release_same r f);
  first = l.first;
  begun = l.begun;
}
