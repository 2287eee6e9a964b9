use Rattle.trio_raw.proofs.Words.{Held, subst}
use Rattle.trio_raw.proofs.Kept.{KeepsAll, poke_keeps-if}
use Rattle.trio_raw.proofs.raw.Raw.poke.Goals as goal

pub returns-clause-stands : goal.returns-clause-stands
returns-clause-stands c =
    (subst (λ (h : Held). KeepsAll h.has c.poke.new.self.has) c.self.view_is (poke_keeps-if c.self.inside.things.has c.args.at c.args.offset c.args.bytes.now c.poke.new.self.has c.poke.result c.poke.ensures.poked c.poke.ensures.kept)).0

pub returns-clause-leases : goal.returns-clause-leases
returns-clause-leases c =
    (subst (λ (h : Held). KeepsAll h.has c.poke.new.self.has) c.self.view_is (poke_keeps-if c.self.inside.things.has c.args.at c.args.offset c.args.bytes.now c.poke.new.self.has c.poke.result c.poke.ensures.poked c.poke.ensures.kept)).1
