use Rattle.trio_survey.proofs.Words.{◌++◌, ◌+◌, ◌∙◌, ◌≡◌, ap, arith, entries_kept, flat_map, map, map-map, met_seen, pick_of, refl, sym, take, take_all, vec_len}
use Rattle.trio_survey.proofs.Adding.{grows_none, part_below}
use Rattle.trio_survey.proofs.Naming.{blocks_taken}
use Rattle.trio_survey.proofs.marks.add_children.Goals as goal

pub loop-block-init : goal.loop-block-init
loop-block-init c = record {
  grows = grows_none (pick_of c.args.picks.now) c.args.directory (map met_seen c.args.files.now.items) c.args.marks.now.items c.requires.marked;
  len = refl;
}

pub add_listed-requires : goal.add_listed-requires
add_listed-requires c =
    let g = entries_kept c.args.range c.args.kept.now in
    let here = part_below (vec_len c.args.marks.now) g c.args.blocks.now c.loop-block.block-index (omega arith) c.requires.fit in
    rw c.loop-block.invariant.len (rw (← c.entries_of-entries.ensures.entries, map-map) at here)

pub loop-block-preserved : goal.loop-block-preserved
loop-block-preserved c =
    let kept = c.args.kept.now in
    let g = entries_kept c.args.range kept in
    let blocks = c.args.blocks.now in
    let i = c.loop-block.block-index in
    let turn = c.loop-block.invariant in
    let added = c.in_ok-repeated.ensures in
    let before = flat_map g (take i blocks) in
    let more : before ++ map _ c.entries_of-entries.result.now ≡ flat_map g (take (i + 1) blocks) = ap (λ l. before ++ l) c.entries_of-entries.ensures.entries ∙ sym (blocks_taken g blocks i (omega arith)) in
    record {
      grows = rw more at (added.grows kept.names.names.items (map met_seen c.args.files.now.items) before turn.grows);
      len = added.len ∙ turn.len;
    }

pub returns-clause-grows : goal.returns-clause-grows
returns-clause-grows c =
    let blocks = c.args.blocks.now in
    let all : take c.loop-block.block-index blocks ≡ blocks = take_all c.loop-block.block-index blocks (omega arith) in
    rw all at c.loop-block.invariant.grows
