use Rattle.trio_judge.proofs.Words.{◌*◌, ◌+◌, ◌-◌, ◌≤◌, AreFoundHeads, IsPassed, IsQueued, IsReady, bundle_in, bundle_pages, case_in, files_of, length, numbers}
use Rattle.trio_case.specs.Rooms.{looks_left, Keeps}
use Rattle.trio_judge.proofs.verdict.judge.Given as goal

abbrev pub invariant-loop-at : goal.invariant-loop-at
invariant-loop-at l = record {
  keeps : Keeps l.case l.pages;
  queued : IsQueued (case_in l.case) l.at l.walk;
  passed : IsPassed (case_in l.case) l.at l.walk;
  ready : IsReady (case_in l.case) l.walk;
  heads : AreFoundHeads (case_in l.case) (numbers (files_of l.walk)) l.heads.items;
  looks : l.reads + looks_left l.pages ≤ l.fn.reads + 2 * length (bundle_pages (bundle_in l.case.bundle));
}

abbrev pub decreases-loop-at : goal.decreases-loop-at
decreases-loop-at l = l.case.inodes + 1 - l.at
