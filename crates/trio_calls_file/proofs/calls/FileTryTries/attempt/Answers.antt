use Rattle.trio_calls_file.proofs.Words.{◌∙◌, ◌≡◌, Busy, FileTried, Holder, Replied, Reply, SessionSeen, ap, noted, subst, sym}
use Rattle.trio_calls_file.proofs.Noted.{is_bytes, tried_busy, tried_short, tried_unnoted, tried_noted}
use Rattle.trio_calls_file.proofs.calls.FileTryTries.attempt.Goals as goal

pub returns-in-Err-Busy-clause-tried : goal.returns-in-Err-Busy-clause-tried
returns-in-Err-Busy-clause-tried g c =
    subst (λ (h : Holder). FileTried g.D.Desk.called g.D.Desk.seen c.args.self.0 c.args.desk.now c.args.session.now (Busy h) c.reply_to.new.desk c.reply_to.new.session) (sym c.in-Err-Busy.holder-is)
    (tried_busy g.D.Desk.called g.D.Desk.seen c.args.desk.now c.reply_to.new.desk c.args.session.now c.reply_to.new.session c.args.self.0 c.in-Err-Busy.holder (rw c.in-Err-Busy.field-0-is at c.in-Err-Busy.ensures.replies))

pub returns-in-Err-NoMemory-clause-tried : goal.returns-in-Err-NoMemory-clause-tried
returns-in-Err-NoMemory-clause-tried g c =
    tried_short g.D.Desk.called g.D.Desk.seen c.args.desk.now c.reply_to.new.desk c.args.session.now c.reply_to.new.session c.args.self.0 (rw c.in-Err-NoMemory.field-0-is at c.in-Err-NoMemory.ensures.replies)

pub returns-in-Err-clause-tried : goal.returns-in-Err-clause-tried
returns-in-Err-clause-tried g c =
    tried_unnoted g.D.Desk.called g.D.Desk.seen c.args.desk.now c.reply_to.new.desk c.args.session.now c.reply_to.new.session c.args.self.0 c.in-Ok.reply (is_bytes c.in-Ok.reply c.in-Err.ensures.only c.in-Ok.ensures.replies.goes.after.2) c.in-Ok.ensures.replies

pub returns-in-Ok-copy_reply-clause-tried : goal.returns-in-Ok-copy_reply-clause-tried
returns-in-Ok-copy_reply-clause-tried g c =
    let old : SessionSeen = c.reply_to.new.session in
    let is : c.note.new.self ≡ noted c.args.self.0 c.in-Ok.reply 0 old = c.note.ensures ∙ ap (λ (r : Reply). noted c.args.self.0 r 0 old) c.in-Ok-copy_reply.ensures.same in
    subst (λ (x : SessionSeen). FileTried g.D.Desk.called g.D.Desk.seen c.args.self.0 c.args.desk.now c.args.session.now (Replied c.in-Ok.reply) c.reply_to.new.desk x) (sym is)
    (tried_noted g.D.Desk.called g.D.Desk.seen c.args.desk.now c.reply_to.new.desk c.args.session.now old c.args.self.0 c.in-Ok.reply c.in-Ok.ensures.replies)

pub returns-in-Err-clause-may : goal.returns-in-Err-clause-may
returns-in-Err-clause-may g c =
    let after = c.in-Ok.ensures.replies.goes.after in (c.requires.begins.0, (after.3 (is_bytes c.in-Ok.reply c.in-Err.ensures.only after.2)).0)
