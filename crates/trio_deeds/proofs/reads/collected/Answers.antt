use Rattle.std.proofs.Common.{◌∙◌, arith}
use Rattle.trio_session.specs.Deeds.{bytes_had}
use Rattle.trio_deeds.proofs.Reading.{piece_more}
use Rattle.trio_deeds.proofs.reads.collected.Goals as goal

pub loop-from-preserved : goal.loop-from-preserved
loop-from-preserved c = (
  omega arith,
  omega arith,
  c.in_ok-extend_from_slice.ensures.items
      ∙ piece_more (bytes_had c.args.session.now c.args.ino) c.args.start c.loop-from.from c.min-count.result c.loop-from.out.items c.piece_of.result.now
      (omega arith) c.piece_of.ensures c.loop-from.invariant.2,
)
