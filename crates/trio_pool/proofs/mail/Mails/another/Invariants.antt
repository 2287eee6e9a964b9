use Rattle.trio_pool.proofs.Words.{AreFor, IsForMails, length, vec_capacity, ◌≡◌, ◌≤◌}
use Rattle.trio_pool.proofs.mail.Mails.another.Given as goal

abbrev pub invariant-loop-k : goal.invariant-loop-k
invariant-loop-k g l = IsForMails l.self l.mail × (length l.tokens.items ≡ l.k) × (length l.self.queues.items ≤ vec_capacity l.tokens) × AreFor l.self.queues.items l.tokens.items
