use Rattle.std.proofs.Common.{vec_len}
use Rattle.trio_ctl_tests.proofs.moves.add_pages.Given as goal

abbrev pub decreases-loop-page : goal.decreases-loop-page
decreases-loop-page l = vec_len l.given.pages
