use Rattle.trio_pool.specs.Mails.{IsForMails}
use Rattle.trio_pool.specs.Passes.{IsOf}
use Rattle.trio_runner.proofs.Hands.{of_front, of_last}
use Rattle.trio_runner.proofs.workers.next_hand.Goals as goal

pub returns-in_default-pop-clause-passes : goal.returns-in_default-pop-clause-passes
returns-in_default-pop-clause-passes c = of_front (IsOf c.args.pool.now) c.args.passes.now.items c.pop.new.self.items c.in-Some.pass c.in-Some.ensures.items c.requires.passes

pub invariant_of-result : goal.invariant_of-result
invariant_of-result c =
    let mail : IsForMails c.args.mails.now c.in-Some-pop.mail = of_last (IsForMails c.args.mails.now) c.args.mail_passes.now.items c.pop-2.new.self.items c.in-Some-pop.mail c.in-Some-pop.ensures.items c.requires.mails in
    record {
      is_pass = of_last (IsOf c.args.pool.now) c.args.passes.now.items c.pop.new.self.items c.in-Some.pass c.in-Some.ensures.items c.requires.passes;
      is_mail = ∣ mail ∣₁;
      all = c.requires.all;
    }

pub returns-clause-passes : goal.returns-clause-passes
returns-clause-passes c = of_front (IsOf c.args.pool.now) c.args.passes.now.items c.pop.new.self.items c.in-Some.pass c.in-Some.ensures.items c.requires.passes

pub returns-clause-mails : goal.returns-clause-mails
returns-clause-mails c = of_front (IsForMails c.args.mails.now) c.args.mail_passes.now.items c.pop-2.new.self.items c.in-Some-pop.mail c.in-Some-pop.ensures.items c.requires.mails
