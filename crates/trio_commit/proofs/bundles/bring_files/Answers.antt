use Rattle.trio_commit.proofs.Words.{file_sheets, flat_map, reverse}
use Rattle.trio_commit.proofs.Bringing.{front_within, last_first, less_both}
use Rattle.trio_commit.proofs.bundles.bring_files.Goals as goal

pub bring_file-requires-clause-within : goal.bring_file-requires-clause-within
bring_file-requires-clause-within c =
    let items = c.loop-lease.writes.items in
    let rest = c.pop.new.self.items in
    let lease = c.in-Some.lease in
    front_within c.loop-lease.home c.args.home.now (flat_map file_sheets (reverse items)) (flat_map file_sheets c.args.writes.items)
    (file_sheets lease) (flat_map file_sheets (reverse rest))
    c.loop-lease.invariant.left (last_first file_sheets items rest lease c.in-Some.ensures.items)

pub bring_file-requires-clause-table : goal.bring_file-requires-clause-table
bring_file-requires-clause-table c = c.loop-lease.invariant.table

pub loop-lease-preserved : goal.loop-lease-preserved
loop-lease-preserved c =
    let items = c.loop-lease.writes.items in
    let rest = c.pop.new.self.items in
    let lease = c.in-Some.lease in
    less_both c.loop-lease.home c.args.home.now c.bring_file.new.home c.loop-lease.owners c.args.owners.now c.bring_file.new.owners
    (flat_map file_sheets (reverse items)) (flat_map file_sheets c.args.writes.items)
    (file_sheets lease) (flat_map file_sheets (reverse rest))
    c.loop-lease.invariant (last_first file_sheets items rest lease c.in-Some.ensures.items) c.bring_file.ensures.home c.bring_file.ensures.owners
