use Rattle.trio_calls_file.proofs.Words.{Holder, OthersHold, RepliesTo, subst, sym, try_ends}
use Rattle.trio_walk.specs.declared.outcome.Outcome.TheVariants.{Busy as IsBusy}
use Rattle.trio_calls_file.proofs.OwnReads.{others_there}
use Rattle.trio_calls_file.proofs.WholeTries.{busy_others, busy_there, comes_there, may_there, refused_there, replied_there, short_there}
use Rattle.trio_calls_file.proofs.Walkable.{may_walk}
use Rattle.trio_calls_file.proofs.replies.reply_to.Goals as goal

pub reach-requires : goal.reach-requires
reach-requires g c = may_walk (g.D.Desk.seen c.args.desk.now) c.args.session.now c.requires.may

pub at_file-requires-clause-may : goal.at_file-requires-clause-may
at_file-requires-clause-may g c = may_there g.D.Desk.called g.D.Desk.seen c.args.desk.now c.args.session.now c.args.call.now c.requires.may c.requires.file c.in-Ok.met c.reach.new.desk c.reach.new.session c.reach.ensures.may (rw c.path_of.ensures at c.in-Ok.ensures.walked) c.in-Ok.ensures.met

pub at_file-requires-clause-comes : goal.at_file-requires-clause-comes
at_file-requires-clause-comes g c = comes_there g.D.Desk.called g.D.Desk.seen c.args.desk.now c.args.session.now c.args.call.now c.requires.may c.requires.file c.in-Ok.met c.reach.new.desk c.reach.new.session c.reach.ensures.may (rw c.path_of.ensures at c.in-Ok.ensures.walked) c.in-Ok.ensures.met

pub returns-in-Ok-clause-replies : goal.returns-in-Ok-clause-replies
returns-in-Ok-clause-replies g c =
    replied_there g.D.Desk.called g.D.Desk.seen c.args.desk.now c.args.session.now c.args.call.now c.requires.may c.requires.file c.in-Ok.met c.reach.new.desk c.reach.new.session c.reach.ensures.may (rw c.path_of.ensures at c.in-Ok.ensures.walked) c.in-Ok.ensures.met (try_ends c.at_file.result) c.at_file.new.desk c.at_file.new.session c.at_file.ensures.goes

pub returns-in-Ok-clause-others : goal.returns-in-Ok-clause-others
returns-in-Ok-clause-others g c = λ none.
    others_there g.D.Desk.called g.D.Desk.seen c.args.desk.now c.args.session.now c.args.call.now c.in-Ok.met c.reach.new.desk c.reach.new.session (rw c.path_of.ensures at c.in-Ok.ensures.walked) c.in-Ok.ensures.met none (try_ends c.at_file.result) c.at_file.ensures.busy

pub returns-in-Err-Reply-clause-replies : goal.returns-in-Err-Reply-clause-replies
returns-in-Err-Reply-clause-replies g c =
    refused_there g.D.Desk.called g.D.Desk.seen c.args.desk.now c.args.session.now c.args.call.now c.requires.may c.requires.file c.in-Err-Reply.reply (rw c.in-Err-Reply.field-0-is at c.in-Err-Reply.ensures.stopped) c.reach.new.desk c.reach.new.session c.reach.ensures.may (rw c.path_of.ensures at (rw c.in-Err-Reply.field-0-is at c.in-Err-Reply.ensures.walked))
    c.noted_reply.new.session c.noted_reply.ensures.kept c.noted_reply.result (rw c.in-Err-Reply.reply-is at c.noted_reply.ensures.ends)

pub returns-in-Err-Busy-clause-replies : goal.returns-in-Err-Busy-clause-replies
returns-in-Err-Busy-clause-replies g c =
    subst (λ (h : Holder). RepliesTo g.D.Desk.called g.D.Desk.seen c.args.desk.now c.args.session.now c.args.call.now (IsBusy h) c.reach.new.desk c.reach.new.session) (sym c.in-Err-Busy.holder-is)
    (busy_there g.D.Desk.called g.D.Desk.seen c.args.desk.now c.args.session.now c.args.call.now c.requires.may c.requires.file c.in-Err-Busy.holder c.reach.new.desk c.reach.new.session c.reach.ensures.may (rw c.path_of.ensures at (rw c.in-Err-Busy.field-0-is at c.in-Err-Busy.ensures.walked)))

pub returns-in-Err-Busy-clause-others : goal.returns-in-Err-Busy-clause-others
returns-in-Err-Busy-clause-others g c = λ none.
    subst (λ (h : Holder). OthersHold c.args.session.now.lib (IsBusy h)) (sym c.in-Err-Busy.holder-is)
    (busy_others g.D.Desk.called g.D.Desk.seen c.args.desk.now c.args.session.now c.args.call.now c.in-Err-Busy.holder c.reach.new.desk c.reach.new.session (rw c.path_of.ensures at (rw c.in-Err-Busy.field-0-is at c.in-Err-Busy.ensures.walked)) none)

pub returns-in-Err-NoMemory-clause-replies : goal.returns-in-Err-NoMemory-clause-replies
returns-in-Err-NoMemory-clause-replies g c =
    short_there g.D.Desk.called g.D.Desk.seen c.args.desk.now c.args.session.now c.args.call.now c.requires.may c.requires.file c.reach.new.desk c.reach.new.session c.reach.ensures.may (rw c.path_of.ensures at (rw c.in-Err-NoMemory.field-0-is at c.in-Err-NoMemory.ensures.walked))
