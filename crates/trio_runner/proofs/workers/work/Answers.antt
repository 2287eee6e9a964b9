use Rattle.trio_runner.proofs.Hands.{is_for}
use Rattle.trio_runner.proofs.workers.work.Goals as goal

pub serve-requires-clause-mail : goal.serve-requires-clause-mail
serve-requires-clause-mail g c = is_for c.args.worker.mails.now c.args.worker.mail c.args.worker.is_mail
