use Rattle.trio_survey.proofs.Words.{◌<◌, ◌≡◌, is_among, length, take, ℕ}
use Rattle.std.proofs.Common.{if◌then◌else◌, slice_index}
use Rattle.trio_survey.proofs.enter.set_owner.Given as goal

abbrev pub invariant-loop-page : goal.invariant-loop-page
invariant-loop-page l = record {
  each : (p : ℕ) → p < length l.owners → slice_index l.owners p ≡ (if is_among p (take l.page-index l.pages) then l.owner else slice_index l.fn.owners p);
  len : length l.owners ≡ length l.fn.owners;
}
