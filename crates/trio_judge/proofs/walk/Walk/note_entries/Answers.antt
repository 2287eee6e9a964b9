use Rattle.trio_judge.proofs.Words.{◌+◌, ◌<◌, ◌≤◌, ap, arith, case_in, entries_kept, flat_map, get_or, length, length-map, listed_seen, map, met_in, plain, take}
use Rattle.std.proofs.lemmas.List.Folds.{length-flat_map-take}
use Rattle.trio_judge.proofs.Noting.{bad_among, entries_have, entries_more, listed_is, noted_append, places_fewer}
use Rattle.trio_judge.proofs.walk.Walk.note_entries.Goals as goal

pub note_block-requires-clause-places : goal.note_block-requires-clause-places
note_block-requires-clause-places c =
    let bs = c.args.room.now.blocks.items in
    let f = entries_kept c.args.room.now.kept in
    let i = c.loop-block.block-index in
    let within : i < length bs = rw c.blocks-block-items.ensures at c.loop-block-test.true in
    let here = rw c.blocks-block-items.ensures at c.entries_of.ensures in
    let xs = map (met_in plain c.args.directory) (flat_map f (take i bs)) in
    let some : length xs + length c.entries_of.result.now ≤ length (flat_map f bs) =
    omega (arith, length-flat_map-take f bs i 0 within, length-map (flat_map f (take i bs)) (met_in plain c.args.directory), ap length here, length-map c.entries_of.result.now (listed_seen c.args.room.now.kept.names.names)) in
    c.loop-block.invariant.places (length c.entries_of.result.now) (places_fewer (length xs + length c.entries_of.result.now) (length (flat_map f bs)) c.args.self.now some c.requires.places)

pub returns-in-Err-clause-bad : goal.returns-in-Err-clause-bad
returns-in-Err-clause-bad c =
    let bs = c.args.room.now.blocks.items in
    let f = entries_kept c.args.room.now.kept in
    let i = c.loop-block.block-index in
    let within : i < length bs = rw c.blocks-block-items.ensures at c.loop-block-test.true in
    let here = rw c.blocks-block-items.ensures at c.entries_of.ensures in
    bad_among (case_in c.args.case.now) (map (met_in plain c.args.directory) (f (get_or bs i 0))) _ c.in-Err.fault
    (λ e k. entries_have f c.args.directory i bs e within k)
    (rw (listed_is c.args.directory c.args.room.now.kept.names.names, here) at c.in-Err.ensures.bad)

pub loop-block-preserved : goal.loop-block-preserved
loop-block-preserved c =
    let bs = c.args.room.now.blocks.items in
    let f = entries_kept c.args.room.now.kept in
    let i = c.loop-block.block-index in
    let within : i < length bs = rw c.blocks-block-items.ensures at c.loop-block-test.true in
    let here = rw c.blocks-block-items.ensures at c.entries_of.ensures in
    rw (entries_more f c.args.directory i bs within)
    (noted_append (case_in c.args.case.now) _ _ c.args.self.now c.loop-block.self c.note_block.new.self c.loop-block.invariant (rw (listed_is c.args.directory c.args.room.now.kept.names.names, here) at c.in_default.ensures.noted))
