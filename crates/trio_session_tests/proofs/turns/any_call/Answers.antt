use Rattle.trio_session_tests.proofs.Words.{◌++◌}
use Rattle.trio_calls_file.specs.Asks.{FileTried}
use Rattle.trio_session_tests.proofs.Made.{calls_made, dir_calls}
use Rattle.trio_session_tests.proofs.turns.any_call.Goals as goal

pub returns-then-is_of_file-clause-called : goal.returns-then-is_of_file-clause-called
returns-then-is_of_file-clause-called g c =
    calls_made g.D.Desk.called (FileTried g.D.Desk.called g.D.Desk.seen c.args.call) (λ d d' s s' end t. (t.1.given ++ t.1.last, t.1.made))
    c.args.desk.now c.file_call.new.desk c.args.session.now c.file_call.new.session c.file_call.result c.file_call.ensures.called

pub returns-else-is_of_file-clause-called : goal.returns-else-is_of_file-clause-called
returns-else-is_of_file-clause-called g c =
    dir_calls g.D.Desk.called g.D.Desk.seen c.args.call c.args.desk.now c.dir_call.new.desk c.args.session.now c.dir_call.new.session c.dir_call.result c.dir_call.ensures.called
