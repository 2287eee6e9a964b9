-- What contracts see of the mails.
use Rattle.std.specs.Prelude.{◌≡◌, ℕ, ◌+◌, List, length, Some, slice_get}
use Rattle.trio_pool.specs.declared.mail.MailToken.{MailToken}
use Rattle.trio_pool.specs.declared.mail.MailQueue.{MailQueue}
use Rattle.trio_pool.specs.declared.mail.Mails.{Mails}
use Rattle.trio_pool.specs.declared.mail.MailPass.{MailPass}

module _ {J : Type 0} where
  -- the token is one of this queue
  abbrev pub IsTokenOf : MailQueue J → MailToken J → Type 0
  IsTokenOf q t = t.token.table_id ≡ q.queue.table.shared.table_id

  -- a token of each of these queues, of which the first is of library 1
  abbrev pub AreFor : List (MailQueue J) → List (MailToken J) → Type 0
  AreFor queues tokens = (k : ℕ) (t : MailToken J) → slice_get tokens k ≡ Some t → (q : MailQueue J) × (slice_get queues k ≡ Some q) × IsTokenOf q t × (t.library ≡ k + 1)

  -- how many libraries have a mail: those of number 1 up to it
  abbrev pub library_count : Mails J → ℕ
  library_count m = length m.queues.items

  -- the pass comes from the start of these mails
  abbrev pub IsForMails : Mails J → MailPass J → Type 0
  IsForMails m p = (length p.tokens.items ≡ library_count m) × AreFor m.queues.items p.tokens.items

  -- each of these passes comes from the start of these mails
  abbrev pub AllFor : Mails J → List (MailPass J) → Type 0
  AllFor m ps = (k : ℕ) (p : MailPass J) → slice_get ps k ≡ Some p → IsForMails m p
