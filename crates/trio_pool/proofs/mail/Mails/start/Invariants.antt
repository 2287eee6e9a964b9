use Rattle.trio_pool.proofs.Words.{AllFor, IsForMails, length, vec_capacity, ◌+◌, ◌≡◌, ◌≤◌}
use Rattle.trio_pool.proofs.mail.Mails.start.Given as goal

abbrev pub invariant-loop-k : goal.invariant-loop-k
invariant-loop-k g l = IsForMails l.mails l.first × (length l.all.items + 1 ≡ l.k) × (l.fn.passes ≤ vec_capacity l.all) × AllFor l.mails l.all.items
