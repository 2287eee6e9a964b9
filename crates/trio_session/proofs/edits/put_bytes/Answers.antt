use Rattle.trio_session.proofs.Words.{◌+◌, ◌<◌, ◌∙◌, Chain, ap, arith, block_count, chain_at, length, page_in, put_block, slice_index, written_on}
use Rattle.trio_session.proofs.Loops.{file_still, chain_still, put_step}
use Rattle.trio_session.proofs.edits.put_bytes.Goals as goal

pub loop-k-preserved : goal.loop-k-preserved
loop-k-preserved c =
    let turn = c.loop-k in
    let k = turn.k in
    let b = turn.stock in
    let here = chain_at b c.args.file c.args.laid.now in
    let n = slice_index here.blocks k in
    let w = written_on k c.args.at c.args.bytes.now (page_in b n) in
    let done = c.put_block.ensures in
    let lt : k < block_count (c.args.at + length c.args.bytes.now) = omega (arith, c.div_ceil-k-end.ensures, c.loop-k-test.true) in
    record {
      file = file_still b c.put_block.new.stock c.args.file c.args.laid.now n w done turn.invariant.file;
      chain = chain_still b c.put_block.new.stock c.args.file c.args.laid.now n w (chain_at c.args.stock.now c.args.file c.args.laid.now) done turn.invariant.chain;
      left = put_step (chain_at c.args.stock.now c.args.file c.args.laid.now).blocks k (block_count (c.args.at + length c.args.bytes.now)) c.args.at c.args.bytes.now b c.put_block.new.stock
          lt (done ∙ ap (λ (ch : Chain). put_block ch.blocks k c.args.at c.args.bytes.now b) turn.invariant.chain) ∙ turn.invariant.left;
    }
