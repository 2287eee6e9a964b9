use Rattle.trio_pool.proofs.Words.{IsForMails, Job, List, case_count, length, took, ◌++◌, ◌≡◌}
use Rattle.trio_pool.specs.Passes.{fulls, sent, IsSamePass}
use Rattle.trio_pool.proofs.worker.serve.Given as goal

abbrev pub invariant-loop : goal.invariant-loop
invariant-loop g l =
    IsSamePass l.initial.pass l.pass × (sent l.pass ≡ sent l.initial.pass) × (fulls l.pass ≡ fulls l.initial.pass) × IsForMails l.mails l.mail
    × ((jobs : List (Job g.row.C.Denot)) × (took l.pass ≡ took l.initial.pass ++ jobs) × (length jobs ≡ l.judged) × (case_count jobs ≡ l.judged))
