use Rattle.trio_shared.proofs.Words.{◌≡◌, Controller, IfSome, Option, library, marked, origin_of, refl, subst, sym, ℕ}
use Rattle.std.proofs.Common.{◌≢◌, IsSome}
use Rattle.trio_turn.specs.Logs.{GrewBy}
use Rattle.trio_shared.proofs.cell.Shared.leave.Goals as goal

pub give-requires-clause-has : goal.give-requires-clause-has
give-requires-clause-has c = subst (λ (o : Option Controller). IsSome o) (sym c.requires.grew.1) refl

pub give-requires-clause-grew : goal.give-requires-clause-grew
give-requires-clause-grew c =
    subst (λ (o : Option Controller). IfSome o (λ x. GrewBy (library c.args.seat.now) x.log c.args.held.log)) (sym c.requires.grew.1) c.requires.grew.2.log

pub give-requires-clause-first : goal.give-requires-clause-first
give-requires-clause-first c =
    subst (λ (o : Option Controller). IfSome o (λ x. origin_of c.args.held ≡ origin_of x)) (sym c.requires.grew.1) c.requires.grew.2.origin

pub give-requires-clause-others : goal.give-requires-clause-others
give-requires-clause-others c =
    subst (λ (o : Option Controller). IfSome o (λ x. (l : ℕ) → l ≢ library c.args.seat.now → marked c.args.held l ≡ marked x l)) (sym c.requires.grew.1) c.requires.grew.2.others
