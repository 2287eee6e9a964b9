use Rattle.trio_calls_dir.proofs.Words.{◌∙◌, sym}
use Rattle.trio_calls_dir.proofs.MovesPaths.{early_goes}
use Rattle.trio_calls_dir.proofs.moves.rename.Goals as goal

pub returns-in-Some-clause-goes : goal.returns-in-Some-clause-goes
returns-in-Some-clause-goes g c =
    early_goes g.D.Desk.called g.D.Desk.seen c.args.desk.now c.args.session.now c.args.call.now c.args.from.now c.args.to.now c.requires.call c.requires.may c.in-Some.reply (sym c.path_refusal.ensures ∙ c.in-Some.is) c.noted_reply.new.session c.noted_reply.ensures.kept c.noted_reply.result c.noted_reply.ensures.ends
