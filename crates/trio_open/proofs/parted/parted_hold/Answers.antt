use Rattle.trio_open.proofs.Words.{◌+◌, ◌∙◌, ap, arith, bundle_in, drop, lower, lowest_parted, sym}
use Rattle.trio_open.proofs.PartedHolds.{lower_of, next_parted, next_whole}
use Rattle.trio_open.proofs.parted.parted_hold.Goals.{then-is_parted, else-is_parted}
use Rattle.trio_open.proofs.parted.parted_hold.Goals as goal

pub loop-file-preserved : goal.loop-file-preserved
loop-file-preserved c =
    let turn = c.loop-file in
    let files = c.args.files.now in
    let b = bundle_in c.args.bundle.now in
    elim c.if-is_parted.branch [
      | then-is_parted w ↦ next_parted c.args.rows.now c.args.lib.0 b files turn.file-index c.file-item.result (omega arith) c.file-item.is turn.lowest c.if-is_parted.lowest _ (sym c.is_parted.ensures ∙ w.if-is_parted.true) (w.lowest-is ∙ w.lower.ensures ∙ ap (λ n. lower n turn.lowest) w.ino.ensures) turn.invariant
      | else-is_parted w ↦ ap (λ o. lower_of o (lowest_parted c.args.rows.now c.args.lib.0 b (drop (turn.file-index + 1) files))) w.lowest-is ∙ next_whole c.args.rows.now c.args.lib.0 b files turn.file-index c.file-item.result (omega arith) c.file-item.is turn.lowest _ (sym c.is_parted.ensures ∙ w.if-is_parted.false) turn.invariant
    ]
