use Rattle.trio_walk.proofs.Words.{Replied}
use Rattle.trio_walk.specs.declared.outcome.Outcome.TheVariants.{Busy, NoMemory}
use Rattle.trio_walk.proofs.Retrying.{called_again, called_once}
use Rattle.trio_walk.proofs.attempts.retry.Goals as goal

pub returns-in-NoMemory-clause-called : goal.returns-in-NoMemory-clause-called
returns-in-NoMemory-clause-called g c =
    called_once g.D.Desk.called (g.T.Tries.tried g.D.Desk.called g.D.Desk.seen) c.args.what c.args.desk.now c.args.session.now c.attempt_and_settle.new.desk c.attempt_and_settle.new.session NoMemory tt c.in-NoMemory.ensures.once

pub returns-in-Replied-attempt_and_settle-clause-called : goal.returns-in-Replied-attempt_and_settle-clause-called
returns-in-Replied-attempt_and_settle-clause-called g c =
    called_again g.D.Desk.called (g.T.Tries.tried g.D.Desk.called g.D.Desk.seen) c.args.what c.args.desk.now c.args.session.now _ c.in-Busy.what c.attempt_and_settle.new.desk c.attempt_and_settle-in-Busy.new.desk c.attempt_and_settle.new.session c.attempt_and_settle-in-Busy.new.session (Replied c.in-Replied-attempt_and_settle.reply)
    c.in-Busy.ensures.once c.in-Busy.ensures.back c.in-Busy.ensures.lib c.in-Replied-attempt_and_settle.ensures.others c.in-Replied-attempt_and_settle.ensures.once

pub returns-in-NoMemory-attempt_and_settle-clause-called : goal.returns-in-NoMemory-attempt_and_settle-clause-called
returns-in-NoMemory-attempt_and_settle-clause-called g c =
    called_again g.D.Desk.called (g.T.Tries.tried g.D.Desk.called g.D.Desk.seen) c.args.what c.args.desk.now c.args.session.now _ c.in-Busy.what c.attempt_and_settle.new.desk c.attempt_and_settle-in-Busy.new.desk c.attempt_and_settle.new.session c.attempt_and_settle-in-Busy.new.session NoMemory
    c.in-Busy.ensures.once c.in-Busy.ensures.back c.in-Busy.ensures.lib c.in-NoMemory-attempt_and_settle.ensures.others c.in-NoMemory-attempt_and_settle.ensures.once

pub returns-clause-called : goal.returns-clause-called
returns-clause-called g c =
    called_again g.D.Desk.called (g.T.Tries.tried g.D.Desk.called g.D.Desk.seen) c.args.what c.args.desk.now c.args.session.now _ c.in-Busy.what c.attempt_and_settle.new.desk c.attempt_and_settle-in-Busy.new.desk c.attempt_and_settle.new.session c.attempt_and_settle-in-Busy.new.session (Busy c.in-Busy-attempt_and_settle.holder)
    c.in-Busy.ensures.once c.in-Busy.ensures.back c.in-Busy.ensures.lib c.in-Busy-attempt_and_settle.ensures.others c.in-Busy-attempt_and_settle.ensures.once
