use Rattle.trio_session.proofs.Words.{◌<◌, ◌∙◌, Chain, ap, arith, chain_at, get_or, length, page_in, w64, with_number, with_number_in}
use Rattle.trio_session.proofs.Chains.{index_length}
use Rattle.trio_session.proofs.Loops.{file_still, chain_still, unlinked_step}
use Rattle.trio_session.proofs.edits.unlink_from.Goals as goal

pub loop-i-preserved : goal.loop-i-preserved
loop-i-preserved c =
    let turn = c.loop-i in
    let i = turn.i in
    let b = turn.stock in
    let b' = c.link.new.stock in
    let first = chain_at c.args.stock.now c.args.file c.args.laid.now in
    let here = chain_at b c.args.file c.args.laid.now in
    let n = get_or here.index i 0 in
    let w = with_number w64 4088 0 (page_in b n) in
    let done = c.link.ensures in
    let len = index_length c.args.stock.now c.args.file c.args.laid.now c.requires in
    let lt : i < length first.index = omega (arith, len, c.index_len-i-end.ensures, c.loop-i-test.true) in
    record {
      file = file_still b b' c.args.file c.args.laid.now n w done turn.invariant.file;
      chain = chain_still b b' c.args.file c.args.laid.now n w first done turn.invariant.chain;
      left = unlinked_step first.index i b b' lt (done ∙ ap (λ (ch : Chain). with_number_in (get_or ch.index i 0) 4088 0 b) turn.invariant.chain) ∙ turn.invariant.left;
    }
