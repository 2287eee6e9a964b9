use Rattle.trio_survey.proofs.Words.{◌++◌, ◌∙◌, MarksNames, [], ap, arith, entries_kept, flat_map, length, refl, repeated_name, subst, sym, take}
use Rattle.trio_survey.proofs.Naming.{block_passed, block_repeats, blocks_taken, none_marked, numbered_apart}
use Rattle.trio_survey.proofs.names.repeated_name.Goals as goal

pub loop-block-init : goal.loop-block-init
loop-block-init c =
    let names = c.args.kept.now.names.names.items in
    let apart = numbered_apart names c.args.kept.now.names.numbers c.requires.numbered in
    let marks = c.clear_marks.new.named in
    record {
      marks = subst (λ m. MarksNames names m []) (sym c.in_ok-clear_marks.ensures.clear) (none_marked names (length marks) apart (omega (arith, c.in_ok-clear_marks.ensures.enough)));
      rest = refl {a = repeated_name [] (flat_map (entries_kept c.args.range c.args.kept.now) c.args.blocks.now)};
    }

pub repeated_on-requires : goal.repeated_on-requires
repeated_on-requires c = λ l i. omega (arith, c.entries_of.ensures.named l i, c.loop-block.invariant.marks.within)

pub returns-in-Some : goal.returns-in-Some
returns-in-Some c =
    let kept = c.args.kept.now in
    let g = entries_kept c.args.range kept in
    let turn = c.loop-block.invariant in
    block_repeats g c.args.blocks.now c.loop-block.block-index _ _ (omega arith) turn.rest (rw c.entries_of.ensures.entries at (c.in-Some.ensures.repeated kept.names.names.items (flat_map g (take c.loop-block.block-index c.args.blocks.now)) c.entries_of.ensures.named turn.marks))

pub loop-block-preserved : goal.loop-block-preserved
loop-block-preserved c =
    let kept = c.args.kept.now in
    let g = entries_kept c.args.range kept in
    let blocks = c.args.blocks.now in
    let i = c.loop-block.block-index in
    let turn = c.loop-block.invariant in
    let read = c.in_default.ensures in
    let before = flat_map g (take i blocks) in
    let here = rw c.entries_of.ensures.entries at (read.repeated kept.names.names.items before c.entries_of.ensures.named turn.marks) in
    let marks = read.marked kept.names.names.items before c.entries_of.ensures.named turn.marks in
    record {
      marks = subst (λ ls. MarksNames kept.names.names.items c.repeated_on.new.named ls) (ap (λ ls. before ++ ls) c.entries_of.ensures.entries ∙ sym (blocks_taken g blocks i (omega arith))) marks;
      rest = block_passed g blocks i _ (omega arith) turn.rest here;
    }
