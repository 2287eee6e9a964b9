use Rattle.trio_entries.proofs.Words.{◌∙◌, arith, rules, told_gone, whole_case}
use Rattle.trio_entries.proofs.Adding.{added}
use Rattle.trio_entries.proofs.files.add_gone.Goals as goal

pub loop-ino-preserved : goal.loop-ino-preserved
loop-ino-preserved c = (
  added (told_gone (whole_case c.args.case.now c.args.rows.now) c.args.listing.now.listing c.args.notes.now) c.held-ino-items.result.now c.loop-ino.ino-index _ c.args.files.now.items c.loop-ino.files.items c.add.new.files.items c.told_gone-file.result c.loop-ino-test.true (search rules) c.loop-ino.invariant.0 c.told_gone-file.ensures c.add.ensures.file,
  (
    omega (arith, c.loop-ino.invariant.1.0, c.add.ensures.len),
    c.add.ensures.capacity ∙ c.loop-ino.invariant.1.1,
  ),
)
