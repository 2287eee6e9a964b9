use Rattle.trio_ctl.proofs.Words.{◌++◌, ◌≡◌, ◌≤◌, fillings_from}
use Rattle.trio_ctl.proofs.stored.add_fillings.Given as goal

abbrev pub invariant-loop-at : goal.invariant-loop-at
invariant-loop-at l = record {
  same : l.home.pages ≡ l.initial.home.pages;
  floor : l.initial.home.looked ≤ l.home.looked;
  filled : l.pages.items ≡ l.initial.pages.items ++ fillings_from l.initial.home.pages l.superblock.first_core l.at;
}
