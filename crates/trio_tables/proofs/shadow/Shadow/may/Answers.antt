use Rattle.std.proofs.Common.{inl, inr, arith, ◌∙◌}
use Rattle.trio_tables.proofs.MayLemmas.{climb_begins, climb_goes_on, climb_ends}
use Rattle.trio_tables.proofs.shadow.Shadow.may.Goals as goal
use Rattle.trio_tables.proofs.shadow.Shadow.may.Goals.{then-loop-left-test+else-parent-ne0, else-loop-left-test}

pub loop-left-init : goal.loop-left-init
loop-left-init c =
    climb_begins c.args.self.now c.args.creds c.args.ino c.args.need _ _ _ c.inodes-left.ensures.inodes c.parent-parent.ensures c.denied_at-denier.ensures

pub loop-left-preserved : goal.loop-left-preserved
loop-left-preserved c =
    climb_goes_on c.args.self.now c.args.creds c.args.ino c.args.need c.loop-left.left c.loop-left.parent _ c.loop-left.denier _ _
    (omega arith) c.if-parent-ne0.true c.denied_at.ensures c.or-denier.ensures c.parent-parent-in-loop-left.ensures c.loop-left.invariant

pub returns-in-None : goal.returns-in-None
returns-in-None c =
    climb_ends c.args.self.now c.args.creds c.args.ino c.args.need c.loop-left.left c.loop-left.parent c.loop-left.denier
    (elim c.loop-left-test.branch [ then-loop-left-test+else-parent-ne0 w ↦ inr (omega arith) | else-loop-left-test w ↦ inl (omega arith) ]) c.loop-left.invariant
    ∙ c.in-None.is

pub returns-in-Some : goal.returns-in-Some
returns-in-Some c =
    climb_ends c.args.self.now c.args.creds c.args.ino c.args.need c.loop-left.left c.loop-left.parent c.loop-left.denier
    (elim c.loop-left-test.branch [ then-loop-left-test+else-parent-ne0 w ↦ inr (omega arith) | else-loop-left-test w ↦ inl (omega arith) ]) c.loop-left.invariant
    ∙ c.in-Some.is
