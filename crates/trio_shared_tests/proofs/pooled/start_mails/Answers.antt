use Rattle.trio_pool.specs.Mails.{IsForMails}
use Rattle.trio_runner.proofs.Hands.{of_front, of_last}
use Rattle.trio_shared_tests.proofs.pooled.start_mails.Goals as goal

pub returns : goal.returns
returns c =
    let each = c.in-Ok.ensures.passes.1 in
    let rest = c.pop.new.self.items in (
      of_last (IsForMails c.in-Ok.mails) c.in-Ok.passes.items rest c.in_ok-first.first c.in_ok-first.ensures.items each,
      of_last (IsForMails c.in-Ok.mails) rest c.pop-2.new.self.items c.in_ok-second.second c.in_ok-second.ensures.items (of_front (IsForMails c.in-Ok.mails) c.in-Ok.passes.items rest c.in_ok-first.first c.in_ok-first.ensures.items each),
    )
