use Rattle.trio_calls_dir.proofs.Words.{NewDirectory, NewFile, NewLink, false, sym, true}
use Rattle.trio_calls_dir.proofs.MakesWalk.{root_made}
use Rattle.trio_calls_dir.proofs.RemovesWalk.{root_goes}
use Rattle.trio_calls_dir.proofs.replies.reply_to.Goals as goal

pub returns-in-Mkdir-clause-goes : goal.returns-in-Mkdir-clause-goes
returns-in-Mkdir-clause-goes g c =
    root_made g.D.Desk.called g.D.Desk.seen c.args.desk.now c.args.session.now c.args.call.now (NewDirectory c.in-Mkdir.mode) c.in-Mkdir.path c.in-Mkdir.is (sym c.if-is_root.ensures) c.requires.may
    c.noted_reply.new.session c.noted_reply.ensures.kept c.noted_reply.result c.noted_reply.ensures.ends

pub returns-in-Create-clause-goes : goal.returns-in-Create-clause-goes
returns-in-Create-clause-goes g c =
    root_made g.D.Desk.called g.D.Desk.seen c.args.desk.now c.args.session.now c.args.call.now (NewFile c.in-Create.mode) c.in-Create.path c.in-Create.is (sym c.if-is_root-2.ensures) c.requires.may
    c.noted_reply-in-Create.new.session c.noted_reply-in-Create.ensures.kept c.noted_reply-in-Create.result c.noted_reply-in-Create.ensures.ends

pub returns-in-Symlink-clause-goes : goal.returns-in-Symlink-clause-goes
returns-in-Symlink-clause-goes g c =
    root_made g.D.Desk.called g.D.Desk.seen c.args.desk.now c.args.session.now c.args.call.now (NewLink c.in-Symlink.text) c.in-Symlink.path c.in-Symlink.is (sym c.if-is_root-3.ensures) c.requires.may
    c.noted_reply-in-Symlink.new.session c.noted_reply-in-Symlink.ensures.kept c.noted_reply-in-Symlink.result c.noted_reply-in-Symlink.ensures.ends

pub returns-in-Unlink-clause-goes : goal.returns-in-Unlink-clause-goes
returns-in-Unlink-clause-goes g c =
    root_goes g.D.Desk.called g.D.Desk.seen c.args.desk.now c.args.session.now c.args.call.now false c.in-Unlink.path c.in-Unlink.is (sym c.if-is_root-4.ensures) c.requires.may
    c.noted_reply-in-Unlink.new.session c.noted_reply-in-Unlink.ensures.kept c.noted_reply-in-Unlink.result c.noted_reply-in-Unlink.ensures.ends

pub returns-in-Rmdir-clause-goes : goal.returns-in-Rmdir-clause-goes
returns-in-Rmdir-clause-goes g c =
    root_goes g.D.Desk.called g.D.Desk.seen c.args.desk.now c.args.session.now c.args.call.now true c.in-Rmdir.path c.in-Rmdir.is (sym c.if-is_root-5.ensures) c.requires.may
    c.noted_reply-in-Rmdir.new.session c.noted_reply-in-Rmdir.ensures.kept c.noted_reply-in-Rmdir.result c.noted_reply-in-Rmdir.ensures.ends

pub make-requires-clause-makes : goal.make-requires-clause-makes
make-requires-clause-makes g c = record { what = NewDirectory c.in-Mkdir-2.mode; is = c.in-Mkdir-2.is; fits = c.requires.entry }

pub make-requires-in-Create-2-clause-makes : goal.make-requires-in-Create-2-clause-makes
make-requires-in-Create-2-clause-makes g c = record { what = NewFile c.in-Create-2.mode; is = c.in-Create-2.is; fits = c.requires.entry }

pub make-requires-in-Symlink-2-clause-makes : goal.make-requires-in-Symlink-2-clause-makes
make-requires-in-Symlink-2-clause-makes g c = record { what = NewLink c.in-Symlink-2.text; is = c.in-Symlink-2.is; fits = c.requires.entry }
