use Rattle.trio_commit.proofs.Words.{flat_map, reverse, uncovered_sheets}
use Rattle.trio_commit.proofs.Bringing.{front_within, last_first, less_left}
use Rattle.trio_commit.proofs.bundles.bring_uncovered_blocks.Goals as goal

pub bring_blocks-requires : goal.bring_blocks-requires
bring_blocks-requires c =
    let items = c.loop-lease.writes.items in
    let rest = c.pop.new.self.items in
    let lease = c.in-Some.lease in
    front_within c.loop-lease.home c.args.home.now (flat_map uncovered_sheets (reverse items)) (flat_map uncovered_sheets c.args.writes.items)
    (uncovered_sheets lease) (flat_map uncovered_sheets (reverse rest))
    c.loop-lease.invariant (last_first uncovered_sheets items rest lease c.in-Some.ensures.items)

pub loop-lease-preserved : goal.loop-lease-preserved
loop-lease-preserved c =
    let items = c.loop-lease.writes.items in
    let rest = c.pop.new.self.items in
    let lease = c.in-Some.lease in
    less_left c.loop-lease.home c.args.home.now c.bring_blocks.new.home
    (flat_map uncovered_sheets (reverse items)) (flat_map uncovered_sheets c.args.writes.items)
    (uncovered_sheets lease) (flat_map uncovered_sheets (reverse rest))
    c.loop-lease.invariant (last_first uncovered_sheets items rest lease c.in-Some.ensures.items) c.bring_blocks.ensures
