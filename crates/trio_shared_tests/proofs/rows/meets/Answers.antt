use Rattle.trio_shared_tests.proofs.Words.{◌∙◌, DeskSeen, ap}
use Rattle.trio_shared_tests.proofs.Sitting.{met_alike, same_seen}
use Rattle.trio_shared_tests.proofs.rows.meets.Goals as goal

pub returns-clause-one : goal.returns-clause-one
returns-clause-one c =
    let met = c.meet.ensures in
    record { sits = record { is_seat = met.a.0; is_idle = met.own.1 ∙ c.requires.one.is_idle }; library = met.a.1.1 }

pub returns-clause-out : goal.returns-clause-out
returns-clause-out c =
    let met = c.meet.ensures in
    ap (λ (d : DeskSeen). d.out)
    (met_alike c.args.shared.now c.args.one.now c.meet.new.a c.args.other.now met.a.1 met.a.0 c.requires.other.is_seat met.one c.requires.left met.desk)

pub returns-clause-other : goal.returns-clause-other
returns-clause-other c =
    let met = c.meet.ensures in
    record { sits = record { is_seat = met.b.0; is_idle = met.stays.1 ∙ c.requires.other.is_idle }; library = met.b.1.1 }

pub returns-clause-others_out : goal.returns-clause-others_out
returns-clause-others_out c = ap (λ (d : DeskSeen). d.out) (same_seen c.args.other.now c.meet.new.b c.meet.ensures.b.1 c.meet.ensures.stays.0)
