use Rattle.trio_calls_dir.proofs.Words.{◌∙◌, ◌≡◌, Creds, Some, ap, met_refusal, sym}
use Rattle.trio_calls_dir.proofs.ListsMet.{met_refused}
use Rattle.trio_calls_dir.proofs.lists.list_met.Goals as goal

pub returns-in-Some-clause-goes : goal.returns-in-Some-clause-goes
returns-in-Some-clause-goes g c path comes =
    let e : met_refusal (g.D.Desk.seen c.args.desk.now).creds c.args.met ≡ Some c.in-Some.reply = sym (c.refusal.ensures ∙ ap (λ (k : Creds). met_refusal k c.args.met) c.creds.ensures.creds) ∙ c.in-Some.is in
    met_refused g.D.Desk.called g.D.Desk.seen c.args.desk.now c.args.session.now c.noted_reply.new.session path c.args.from c.args.met c.requires.may c.requires.met comes c.noted_reply.ensures.kept c.in-Some.reply e c.noted_reply.result
    c.noted_reply.ensures.ends

pub list_unrefused-requires-clause-unrefused : goal.list_unrefused-requires-clause-unrefused
list_unrefused-requires-clause-unrefused g c =
    sym (c.refusal.ensures ∙ ap (λ (k : Creds). met_refusal k c.args.met) c.creds.ensures.creds) ∙ c.in-None.is
