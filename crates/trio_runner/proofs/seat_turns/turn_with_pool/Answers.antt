use Rattle.trio_runner.proofs.Words.{◌∙◌, ap, subst, sym}
use Rattle.trio_pool.specs.Mails.{IsForMails}
use Rattle.trio_pool.specs.Passes.{IsOf}
use Rattle.trio_runner.proofs.Hands.{closed, is_for, stays, took}
use Rattle.trio_runner.proofs.seat_turns.turn_with_pool.Goals as goal

pub of-desk-requires-clause-mail : goal.of-desk-requires-clause-mail
of-desk-requires-clause-mail g c = is_for c.args.hand.mails.now c.args.hand.mail c.args.hand.is_mail

pub turn-requires-clause-closed : goal.turn-requires-clause-closed
turn-requires-clause-closed g c =
    closed c.desk_is_left.ensures.law c.args.shared.now c.args.seat.now c.requires.sits c.of-desk.result (c.of-desk.ensures.seat ∙ c.of-own.ensures.seat) (g.K.Kinds.share c.args.player.now) c.requires.may.1

pub invariant_of-result : goal.invariant_of-result
invariant_of-result g c =
    let d = c.of-desk in
    let d' = c.turn.new.desk in
    let same = stays c.desk_is_left.ensures.law c.args.shared.now c.args.seat.now c.requires.sits d.result (d.ensures.seat ∙ c.of-own.ensures.seat) c.others_leave.ensures.law (d.ensures.shared ∙ c.of-own.ensures.shared) d' _ _ _ _ _ c.in_ok-turn.ensures.turn in
    let pool = ap (λ s. s.pool) same ∙ d.ensures.pool in
    let mails = ap (λ s. s.mails) same ∙ d.ensures.mails in
    let pass = c.pass-2-1.given.1 (sym d.ensures.same_pass ∙ sym (ap (λ s. s.pass) same)) in
    let mail = c.mail-2-1.given.1 (sym d.ensures.same_mail ∙ sym (ap (λ s. s.mail) same)) in
    record {
      is_pass = subst (λ q. IsOf q c.pass-2-1.given.0) pool (subst (IsOf d'.pool.now) (sym pass) d'.is_pass);
      is_mail = subst (λ m. ∥ IsForMails m c.mail-2-1.given.0 ∥₁) mails (subst (λ p. ∥ IsForMails d'.mails.now p ∥₁) (sym mail) d'.is_mail);
      all = c.args.hand.all;
    }

pub returns-clause-turn : goal.returns-clause-turn
returns-clause-turn g c =
    let d = c.of-desk in
    let d' = c.turn.new.desk in
    let at = d.ensures.seat ∙ c.of-own.ensures.seat in
    let of = d.ensures.shared ∙ c.of-own.ensures.shared in
    let same = stays c.desk_is_left.ensures.law c.args.shared.now c.args.seat.now c.requires.sits d.result at c.others_leave.ensures.law of d' _ _ _ _ _ c.in_ok-turn.ensures.turn in
    λ turn is.
    took c.desk_is_left.ensures.law c.args.shared.now c.args.seat.now c.requires.sits d.result at c.others_leave.ensures.law of d' turn _ is _ _ _ _ c.in_ok-turn.ensures.turn
    _ (c.seat-1.given.1 (sym c.of-own.ensures.same_reference ∙ sym d.ensures.same_seat ∙ sym (ap (λ s. s.seat) same))) c.requires.may.1 c.in_ok-turn.ensures.goes
