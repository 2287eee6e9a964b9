use Rattle.trio_survey.proofs.Words.{◌+◌, ◌≡◌, ◌≤◌, HasParts, In, IsGood, Keeps, SaysBlocks, kept_count, take, ℕ}
use Rattle.trio_survey.proofs.entries.read_entries.Given as goal

abbrev pub invariant-loop-no : goal.invariant-loop-no
invariant-loop-no l = record {
  same : l.home.pages ≡ l.initial.home.pages;
  keeps : Keeps l.range l.initial.home.pages l.kept.pages.pages.items;
  parts : HasParts l.range l.kept.blocks;
  says : SaysBlocks l.initial.home.pages l.range l.inodes l.kept.blocks;
  good : (page : ℕ) → In page (take l.no-index l.blocks) → IsGood l.range l.kept.blocks page;
  looks : l.reads + kept_count l.fn.kept.pages.pages.items ≤ l.fn.reads + kept_count l.kept.pages.pages.items;
  looked : l.home.looked + kept_count l.fn.kept.pages.pages.items ≤ l.fn.home.looked + kept_count l.kept.pages.pages.items;
}
