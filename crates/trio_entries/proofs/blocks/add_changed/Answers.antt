use Rattle.trio_entries.proofs.Words.{◌++◌, ◌∙◌, ap, append-nil, arith, blocks_in, changed_blocks, drop_all, handed_in, numbers_of, sym, whole_case}
use Rattle.trio_entries.proofs.Turns.{turn}
use Rattle.trio_entries.proofs.blocks.add_changed.Goals as goal

pub loop-i-preserved : goal.loop-i-preserved
loop-i-preserved c = (
  λ rows.
      let k = c.args.case.now in
      turn (whole_case k rows) c.args.notes.now (handed_in k.bundle) c.args.file.now c.loop-i.i c.in-Some.page (numbers_of c.args.pages.now) (blocks_in k c.loop-i.blocks.items) (blocks_in k c.add_block.new.blocks.items) _ (sym c.in-Some.is ∙ c.number.ensures) (c.add_block.ensures.told rows) (c.loop-i.invariant.0 rows),
  (omega (arith, c.add_block.ensures.len, c.loop-i.invariant.1.0), c.add_block.ensures.capacity ∙ c.loop-i.invariant.1.1),
)

pub returns-clause-told : goal.returns-clause-told
returns-clause-told c = λ rows.
    let k = c.args.case.now in
    let now = blocks_in k c.loop-i.blocks.items in
    let pages = numbers_of c.args.pages.now in
    let all = drop_all c.loop-i.i pages (omega (arith, c.len-i-end.ensures)) in
    sym (append-nil now) ∙ ap (λ l. now ++ changed_blocks (whole_case k rows) c.args.notes.now (handed_in k.bundle) c.args.file.now c.loop-i.i l) (sym all) ∙ c.loop-i.invariant.0 rows
