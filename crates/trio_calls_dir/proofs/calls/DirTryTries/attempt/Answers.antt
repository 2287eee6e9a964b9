use Rattle.trio_calls_dir.proofs.Words.{◌∙◌, ◌≡◌, Busy, DirTried, Holder, Replied, Reply, SessionSeen, ap, noted, subst, sym}
use Rattle.trio_calls_dir.proofs.Noted.{is_names, tried_busy, tried_noted, tried_short, tried_unnoted}
use Rattle.trio_calls_dir.proofs.calls.DirTryTries.attempt.Goals as goal

pub returns-in-Err-Busy-clause-tried : goal.returns-in-Err-Busy-clause-tried
returns-in-Err-Busy-clause-tried g c =
    subst (λ (h : Holder). DirTried g.D.Desk.called g.D.Desk.seen c.args.self.0 c.args.desk.now c.args.session.now (Busy h) c.reply_to.new.desk c.reply_to.new.session) (sym c.in-Err-Busy.holder-is)
    (tried_busy g.D.Desk.called g.D.Desk.seen c.args.desk.now c.reply_to.new.desk c.args.session.now c.reply_to.new.session c.args.self.0 c.requires.begins.1 c.in-Err-Busy.holder (rw c.in-Err-Busy.field-0-is at c.in-Err-Busy.ensures.goes))

pub returns-in-Err-NoMemory-clause-tried : goal.returns-in-Err-NoMemory-clause-tried
returns-in-Err-NoMemory-clause-tried g c =
    tried_short g.D.Desk.called g.D.Desk.seen c.args.desk.now c.reply_to.new.desk c.args.session.now c.reply_to.new.session c.args.self.0 c.requires.begins.1 (rw c.in-Err-NoMemory.field-0-is at c.in-Err-NoMemory.ensures.goes)

pub returns-in-Err-clause-tried : goal.returns-in-Err-clause-tried
returns-in-Err-clause-tried g c =
    tried_unnoted g.D.Desk.called g.D.Desk.seen c.args.desk.now c.reply_to.new.desk c.args.session.now c.reply_to.new.session c.args.self.0 c.requires.begins.1 c.in-Ok.field-0.reply c.in-Ok.field-0.made (is_names c.in-Ok.field-0.reply c.in-Err.ensures.only c.in-Ok.ensures.goes.after.2) c.in-Ok.ensures.goes

pub returns-in-Ok-copy_reply-clause-tried : goal.returns-in-Ok-copy_reply-clause-tried
returns-in-Ok-copy_reply-clause-tried g c =
    let old : SessionSeen = c.reply_to.new.session in
    let is : c.note.new.self ≡ noted c.args.self.0 c.in-Ok.field-0.reply c.in-Ok.field-0.made old = c.note.ensures ∙ ap (λ (r : Reply). noted c.args.self.0 r c.in-Ok.field-0.made old) c.in-Ok-copy_reply.ensures.same in
    subst (λ (x : SessionSeen). DirTried g.D.Desk.called g.D.Desk.seen c.args.self.0 c.args.desk.now c.args.session.now (Replied c.in-Ok.field-0.reply) c.reply_to.new.desk x) (sym is)
    (tried_noted g.D.Desk.called g.D.Desk.seen c.args.desk.now c.reply_to.new.desk c.args.session.now old c.args.self.0 c.requires.begins.1 c.in-Ok.field-0.reply c.in-Ok.field-0.made c.in-Ok.ensures.goes)

pub returns-in-Err-clause-may : goal.returns-in-Err-clause-may
returns-in-Err-clause-may g c =
    let after = c.in-Ok.ensures.goes.after in (c.requires.begins.0, (after.3 (is_names c.in-Ok.field-0.reply c.in-Err.ensures.only after.2)).0)
