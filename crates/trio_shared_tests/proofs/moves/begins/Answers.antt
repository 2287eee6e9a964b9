use Rattle.trio_shared_tests.proofs.Words.{CaseShown, DeskSeen, WasGiven, ap, parcel_of, seated, subst, sym}
use Rattle.trio_shared_tests.proofs.TwoMoves.{may_end}
use Rattle.trio_shared_tests.proofs.moves.begins.Goals as goal

pub returns-in-Ok-clause-may : goal.returns-in-Ok-clause-may
returns-in-Ok-clause-may g c =
    may_end c.desk_is_left.ensures.law c.lent_is_marked.ensures.law (seated c.args.seat.now) (seated c.begin.new.seat) c.args.bundle c.in-Ok.pending _ c.begin.ensures.looked
    (subst (λ (d : DeskSeen). WasGiven d.out (parcel_of c.args.bundle)) (sym c.begin.ensures.seen) c.requires.given)
    c.keeps_untouched.ensures
    (ap (λ (k : CaseShown). k.bundle) c.in-Ok.ensures.looked.did.1.1)
