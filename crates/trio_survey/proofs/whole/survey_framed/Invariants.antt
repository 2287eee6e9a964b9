use Rattle.trio_survey.proofs.Words.{◌+◌, ◌-◌, ◌≡◌, ◌≤◌, HasParts, Keeps, SaysBlocks, framed, kept_count, pick_of}
use Rattle.trio_survey.specs.inner.Old.{WalkOld}
use Rattle.trio_survey.specs.inner.Walk.{WalkHeads, WalkStands, WalkTables}
use Rattle.trio_survey.proofs.whole.survey_framed.Given as goal

abbrev pub invariant-loop-at : goal.invariant-loop-at
invariant-loop-at l = record {
  same : l.home.pages ≡ l.initial.home.pages;
  stands : WalkStands (framed l.initial.home.pages l.frame) (pick_of l.picks) l.at l.walk;
  tables : WalkTables (framed l.initial.home.pages l.frame) l.at l.walk;
  heads : WalkHeads (framed l.initial.home.pages l.frame) l.at l.walk;
  old : WalkOld l.frame.old (framed l.initial.home.pages l.frame) l.at l.walk;
  keeps : Keeps l.frame.range l.initial.home.pages l.walk.kept.pages.pages.items;
  parts : HasParts l.frame.range l.walk.kept.blocks;
  says : SaysBlocks l.initial.home.pages l.frame.range l.frame.inodes l.walk.kept.blocks;
  looks : l.reads ≤ l.fn.reads + kept_count l.walk.kept.pages.pages.items;
  looked : l.home.looked ≤ l.fn.home.looked + kept_count l.walk.kept.pages.pages.items;
}

abbrev pub decreases-loop-at : goal.decreases-loop-at
decreases-loop-at l = l.frame.inodes + 1 - l.at
