use Rattle.std.proofs.Common.{◌++◌, [], ◌∙◌, ap, arith, get_or, sym}
use Rattle.trio_session.specs.Seen.{pages_shown}
use Rattle.trio_deeds.specs.Names.{names_on}
use Rattle.trio_deeds.proofs.Listing.{names_of_pages-more}
use Rattle.trio_deeds.proofs.names.names_of.Goals as goal

pub loop-block-preserved : goal.loop-block-preserved
loop-block-preserved c =
    let pages = pages_shown c.args.session.now c.args.dir in (
      c.in_ok-add_names.ensures.more
          ∙ ap (λ l. l ++ names_on (get_or pages c.loop-block.block [])) c.loop-block.invariant.0
          ∙ sym (names_of_pages-more pages c.loop-block.block (omega (arith, c.loop-block-test.true, c.block_count-block-end.ensures))),
      omega (arith, c.in_ok-add_names.ensures.few, c.loop-block.invariant.1),
    )
