use Rattle.trio_runner.proofs.Words.{◌∙◌, Bool, FileCalled, MatchBool, subst, sym}
use Rattle.trio_calls_dir.specs.Dir.{DirCalled}
use Rattle.trio_runner.proofs.CallKinds.{dir_call_is, file_call_is}
use Rattle.trio_runner.proofs.honest.make_call.Goals as goal

pub dir_call-requires-clause-dir : goal.dir_call-requires-clause-dir
dir_call-requires-clause-dir g c = dir_call_is c.args.call (sym c.is_dir_call.ensures ∙ c.if-is_dir_call.true) c.requires.within

pub file_call-requires-clause-file : goal.file_call-requires-clause-file
file_call-requires-clause-file g c = file_call_is c.args.call (sym c.is_dir_call.ensures ∙ c.if-is_dir_call.false) c.requires.within

pub returns-then-is_dir_call-clause-called : goal.returns-then-is_dir_call-clause-called
returns-then-is_dir_call-clause-called g c =
    subst
    (λ (b : Bool). MatchBool b (DirCalled g.D.Desk.called g.D.Desk.seen c.args.desk.now c.args.session.now c.args.call c.dir_call.result c.dir_call.new.desk c.dir_call.new.session)
    (FileCalled g.D.Desk.called g.D.Desk.seen c.args.desk.now c.args.session.now c.args.call c.dir_call.result c.dir_call.new.desk c.dir_call.new.session))
    (sym (sym c.is_dir_call.ensures ∙ c.if-is_dir_call.true)) c.dir_call.ensures.called

pub returns-else-is_dir_call-clause-called : goal.returns-else-is_dir_call-clause-called
returns-else-is_dir_call-clause-called g c =
    subst
    (λ (b : Bool). MatchBool b (DirCalled g.D.Desk.called g.D.Desk.seen c.args.desk.now c.args.session.now c.args.call c.file_call.result c.file_call.new.desk c.file_call.new.session)
    (FileCalled g.D.Desk.called g.D.Desk.seen c.args.desk.now c.args.session.now c.args.call c.file_call.result c.file_call.new.desk c.file_call.new.session))
    (sym (sym c.is_dir_call.ensures ∙ c.if-is_dir_call.false)) c.file_call.ensures.called
