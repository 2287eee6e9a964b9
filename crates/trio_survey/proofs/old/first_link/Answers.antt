use Rattle.trio_survey.proofs.Words.{◌++◌, ◌+◌, ◌∙◌, ◌≡◌, Some, ap, arith, drop, entries_kept, flat_map, flat_map-append, get_or, sym, take, take-append-drop}
use Rattle.trio_survey.specs.OldVersion.{first_link}
use Rattle.trio_survey.proofs.Naming.{blocks_taken}
use Rattle.trio_survey.proofs.OldFiles.{first_link-none, first_link-some}
use Rattle.trio_survey.proofs.old.first_link.Goals as goal

pub loop-block-preserved : goal.loop-block-preserved
loop-block-preserved c =
    let kept = c.args.kept.now in
    let g = entries_kept c.args.range kept in
    let blocks = c.args.blocks.now in
    let i = c.loop-block.block-index in
    let link = c.link_among.ensures kept.names.names.items ∙ ap first_link c.entries_of.ensures.entries in
    rw (blocks_taken g blocks i (omega arith)) (first_link-none (flat_map g (take i blocks)) (g (get_or blocks i 0)) c.loop-block.invariant ∙ sym link ∙ c.in_default.is)

pub returns-in-Some : goal.returns-in-Some
returns-in-Some c =
    let kept = c.args.kept.now in
    let g = entries_kept c.args.range kept in
    let blocks = c.args.blocks.now in
    let i = c.loop-block.block-index in
    let before = flat_map g (take i blocks) in
    let rest = flat_map g (drop (i + 1) blocks) in
    let link = c.link_among.ensures kept.names.names.items ∙ ap first_link c.entries_of.ensures.entries in
    let more : first_link (before ++ g (get_or blocks i 0)) ≡ Some c.in-Some.place = first_link-none before (g (get_or blocks i 0)) c.loop-block.invariant ∙ sym link ∙ c.in-Some.is in
    let split : flat_map g blocks ≡ (before ++ g (get_or blocks i 0)) ++ rest =
    ap (flat_map g) (sym (take-append-drop (i + 1) blocks)) ∙ flat_map-append g (take (i + 1) blocks) (drop (i + 1) blocks) ∙ ap (λ ls. ls ++ rest) (blocks_taken g blocks i (omega arith)) in
    sym (ap first_link split ∙ first_link-some (before ++ g (get_or blocks i 0)) rest c.in-Some.place more)
