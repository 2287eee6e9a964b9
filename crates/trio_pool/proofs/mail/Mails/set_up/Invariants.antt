use Rattle.trio_pool.proofs.Words.{AreFor, length, vec_capacity, ◌≡◌, ◌≤◌}
use Rattle.trio_pool.proofs.mail.Mails.set_up.Given as goal

abbrev pub invariant-loop-k : goal.invariant-loop-k
invariant-loop-k g l = (length l.queues.items ≡ l.k) × (length l.tokens.items ≡ l.k) × (l.fn.libs ≤ vec_capacity l.queues) × (l.fn.libs ≤ vec_capacity l.tokens) × AreFor l.queues.items l.tokens.items
