use Rattle.trio_commit.proofs.Words.{◌≡◌, take, with_all}
use Rattle.trio_commit.proofs.owners.give.Given as goal

abbrev pub invariant-loop-page : goal.invariant-loop-page
invariant-loop-page l = l.owners ≡ with_all l.ino (take l.page-index l.pages) l.fn.owners
