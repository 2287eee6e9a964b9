use Rattle.trio_ctl.proofs.Words.{All, All-push, Serves, Sizes, arith, subst, sym}
use Rattle.trio_ctl.proofs.Serving.{serves_so}
use Rattle.trio_ctl.proofs.spares.Spares.more.Goals as goal

pub loop-preserved : goal.loop-preserved
loop-preserved c =
    let inv = c.loop.invariant in
    let z : Sizes = record { range = c.args.range; inodes = c.args.inodes } in
    let each = c.if-bytes-self.each.0 in
    let at = inv.0 in
    let room = inv.2 in
    let grows = c.in_ok-push.ensures.capacity in
    let one = c.in_ok-push.ensures.len in
    let serves = serves_so z each c.within-size.result c.core_pages-core.result c.in_ok-with.field-0 c.within-size.ensures.enough c.within-size.ensures.all (sym c.core_pages-core.ensures) c.in_ok-with.ensures in
    (omega (arith, at, one), inv.1, omega (arith, room, grows), subst (All (Serves z each)) (sym c.in_ok-push.ensures.items) (All-push (Serves z each) c.loop.kits.items c.in_ok-with.field-0 inv.3 serves))
