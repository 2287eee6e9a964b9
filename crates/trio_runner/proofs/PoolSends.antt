-- What libraries and workers have of a pool may cross to other threads.
use Rattle.trio_runner.proofs.Words.{crosses}
use denote.Param.Send.{IsSend, IsSync, sendable}
use denote.Ref.{NamedLft}
use Rattle.std.proofs.MapsCrossing as maps
use Rattle.trio_ctl.proofs.Sends.{page_sends}
use Rattle.trio_ctl.specs.contracts.pending.Pending as pending
use Rattle.trio_ctl.specs.contracts.pending.Judged as judged
use Rattle.trio_ctl.specs.contracts.pooled.JudgedOfLibrary.TheImpl.{ghosts}
use Rattle.trio_pool.proofs.cell.Pool.TheSendSync as pools
use Rattle.trio_pool.proofs.pass.PoolPass.TheSendSync as passes
use Rattle.trio_pool.proofs.mail.Mails.TheSendSync as all_mails
use Rattle.trio_pool.proofs.mail.MailPass.TheSendSync as mail_passes
use Rattle.trio_pool.specs.contracts.cell.Pool as pool
use Rattle.trio_pool.specs.contracts.pass.PoolPass as pass
use Rattle.trio_pool.specs.contracts.mail.Mails as mails
use Rattle.trio_pool.specs.contracts.mail.MailPass as mail
use Rattle.trio_runner.specs.contracts.hand.Hand as hand
use Rattle.trio_runner.specs.contracts.threads.LibStart as start
use Rattle.trio_runner.proofs.Sends.{seat_field_sends}

pending_sends : IsSend pending.the_row
pending_sends = search (sendable, crosses, maps.crosses, page_sends) depth 60 fits 100000

judged_sends : IsSend judged.the_row
judged_sends = search (sendable, crosses, maps.crosses, page_sends) depth 60 fits 100000

pool_syncs : IsSync (pool.the_row pending.the_row)
pool_syncs = pools.the_sync pending.the_row pending_sends

mails_sync : IsSync (mails.the_row judged.the_row ghosts)
mails_sync = all_mails.the_sync judged.the_row ghosts judged_sends

pass_sends : IsSend (pass.the_row pending.the_row)
pass_sends = passes.the_send pending.the_row pending_sends

pass_field_sends : IsSend (pass.the_field pending.the_row).row
pass_field_sends = passes.the_field_send pending.the_row pending_sends

mail_sends : IsSend (mail.the_row judged.the_row)
mail_sends = mail_passes.the_send judged.the_row judged_sends

mail_field_sends : IsSend (mail.the_field judged.the_row).row
mail_field_sends = mail_passes.the_field_send judged.the_row judged_sends

-- what a library or a worker has
pub hand_sends : (κ : NamedLft) → IsSend (hand.the_row κ)
hand_sends κ = search (sendable, crosses, pool_syncs, mails_sync, pass_sends, pass_field_sends, mail_sends, mail_field_sends) depth 60 fits 100000

-- a library that begins
pub start_sends : (κ : NamedLft) → IsSend (start.the_row κ)
start_sends κ = search (sendable, crosses, hand_sends, seat_field_sends) depth 60 fits 100000
