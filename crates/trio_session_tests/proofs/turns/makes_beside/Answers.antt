use Rattle.trio_session_tests.proofs.Words.{underway_of}
use Rattle.trio_session_tests.proofs.InTurns.{other_plays}
use Rattle.trio_session_tests.proofs.turns.makes_beside.Goals as goal

pub returns-clause-other : goal.returns-clause-other
returns-clause-other c = other_plays (underway_of c.args.ctl.now) (underway_of c.makes.new.ctl) c.args.lib c.args.other c.args.beside.now c.makes.ensures.turn c.requires.apart c.requires.other
