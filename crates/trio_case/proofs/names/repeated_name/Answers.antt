use Rattle.trio_case.proofs.Words.{◌++◌, ◌∙◌, MarksNames, [], ap, arith, entries_kept, false, flat_map, length, length-replicate, refl, subst, sym, take}
use Rattle.trio_case.proofs.Naming.{block_passed, block_repeats, blocks_taken, none_marked}
use Rattle.trio_case.proofs.names.repeated_name.Goals as goal

pub loop-block-init : goal.loop-block-init
loop-block-init c =
    let names = c.args.kept.now.names.names in
    let count = length c.args.named.now in
    record {
      room = ap length c.clear.ensures ∙ length-replicate count false;
      marks = subst (λ m. MarksNames names m []) (sym c.clear.ensures) (none_marked names count c.are_apart.ensures c.requires.space);
      rest = refl;
    }

pub repeated_on-requires : goal.repeated_on-requires
repeated_on-requires c = λ l i. omega (arith, c.entries_of.ensures.named l i, c.requires.space, c.loop-block.invariant.room)

pub returns-in-Some-clause-repeated : goal.returns-in-Some-clause-repeated
returns-in-Some-clause-repeated c =
    let kept = c.args.kept.now in
    let g = entries_kept kept in
    let turn = c.loop-block.invariant in
    block_repeats g c.args.blocks.now c.loop-block.block-index _ _ (omega arith) turn.rest (rw c.entries_of.ensures.entries at (c.in-Some.ensures.repeated kept.names.names (flat_map g (take c.loop-block.block-index c.args.blocks.now)) c.entries_of.ensures.named turn.marks))

pub loop-block-preserved : goal.loop-block-preserved
loop-block-preserved c =
    let kept = c.args.kept.now in
    let g = entries_kept kept in
    let blocks = c.args.blocks.now in
    let i = c.loop-block.block-index in
    let turn = c.loop-block.invariant in
    let read = c.in_default.ensures in
    let before = flat_map g (take i blocks) in
    let here = rw c.entries_of.ensures.entries at (read.repeated kept.names.names before c.entries_of.ensures.named turn.marks) in
    let marks = read.marked kept.names.names before c.entries_of.ensures.named turn.marks in
    record {
      room = read.room ∙ turn.room;
      marks = subst (λ ls. MarksNames kept.names.names c.repeated_on.new.named ls) (ap (λ ls. before ++ ls) c.entries_of.ensures.entries ∙ sym (blocks_taken g blocks i (omega arith))) marks;
      rest = block_passed g blocks i _ (omega arith) turn.rest here;
    }
