use Rattle.trio_calls_file.proofs.Words.{◌∙◌, ◌≡◌, Creds, Some, ap, checked, gives_met, refusal_at, sym}
use Rattle.trio_calls_file.proofs.AtFile.{refused_goes}
use Rattle.trio_calls_file.proofs.files.at_file.Goals as goal

pub returns-in-Some-clause-goes : goal.returns-in-Some-clause-goes
returns-in-Some-clause-goes g c =
    let creds : Creds = (g.D.Desk.seen c.args.desk.now).creds in
    let given = c.gives-given.ensures ∙ ap (λ (k : Creds). gives_met k c.args.met c.need_for.result) c.creds.ensures.creds ∙ ap (gives_met creds c.args.met) c.need_for.ensures in
    let e : checked creds c.args.met c.args.call.now ≡ Some c.in-Some.reply = sym (c.refusal.ensures ∙ ap (λ b. refusal_at c.args.met.kind b c.args.call.now) given) ∙ c.in-Some.is in
    refused_goes g.D.Desk.called g.D.Desk.seen c.args.desk.now c.args.session.now c.args.call.now c.args.met c.requires.may c.requires.met c.requires.comes c.requires.file c.in-Some.reply e c.noted_reply.new.session c.noted_reply.ensures.kept c.noted_reply.result c.noted_reply.ensures.ends

pub at_unrefused-requires-clause-unrefused : goal.at_unrefused-requires-clause-unrefused
at_unrefused-requires-clause-unrefused g c =
    let creds : Creds = (g.D.Desk.seen c.args.desk.now).creds in
    let given = c.gives-given.ensures ∙ ap (λ (k : Creds). gives_met k c.args.met c.need_for.result) c.creds.ensures.creds ∙ ap (gives_met creds c.args.met) c.need_for.ensures in
    sym (c.refusal.ensures ∙ ap (λ b. refusal_at c.args.met.kind b c.args.call.now) given) ∙ c.in-None.is
