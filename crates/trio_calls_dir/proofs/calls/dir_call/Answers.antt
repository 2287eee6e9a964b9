use Rattle.trio_calls_dir.proofs.Words.{Call, DirCalled, IsDirCall, subst, sym}
use Rattle.trio_calls_dir.proofs.CallKinds.{entry_called, entry_is}
use Rattle.trio_calls_dir.proofs.calls.dir_call.Goals as goal

pub chmod-requires-clause-mode : goal.chmod-requires-clause-mode
chmod-requires-clause-mode g c = subst IsDirCall c.in-Chmod.is c.requires.dir

pub returns-in-Chmod-clause-called : goal.returns-in-Chmod-clause-called
returns-in-Chmod-clause-called g c =
    subst (λ (k : Call). DirCalled g.D.Desk.called g.D.Desk.seen c.args.desk.now c.args.session.now k c.chmod.result c.chmod.new.desk c.chmod.new.session) (sym c.in-Chmod.is) c.chmod.ensures.called

pub retry-requires : goal.retry-requires
retry-requires g c = record { begins = (entry_is c.args.call c.in_default.not-Chmod c.requires.dir, c.requires.may) }

pub returns-in_default-clause-called : goal.returns-in_default-clause-called
returns-in_default-clause-called g c =
    entry_called g.D.Desk.called g.D.Desk.seen c.args.desk.now c.args.session.now c.args.call c.retry.result c.retry.new.desk c.retry.new.session c.in_default.not-Chmod c.retry.ensures.called
