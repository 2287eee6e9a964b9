use Rattle.trio_session.proofs.Words.{◌%◌, ◌*◌, ◌/◌, ◌<◌, ◌∙◌, ◌≡◌, Chain, ap, arith, chain_at, get_or, length, page_in, w64, with_block_number, with_number}
use Rattle.trio_session.proofs.Chains.{blocks_length}
use Rattle.trio_session.proofs.Stays.{at_number}
use Rattle.trio_session.proofs.Loops.{file_still, chain_still, named_step}
use Rattle.trio_session.proofs.edits.name_from.Goals as goal

pub loop-k-preserved : goal.loop-k-preserved
loop-k-preserved c =
    let turn = c.loop-k in
    let k = turn.k in
    let b = turn.stock in
    let b' = c.name_block.new.stock in
    let first = chain_at c.args.stock.now c.args.file c.args.laid.now in
    let here = chain_at b c.args.file c.args.laid.now in
    let number = c.number-number.result.0 in
    let n = get_or here.index (k / 511) 0 in
    let w = with_number w64 (8 * (k % 511)) number (page_in b n) in
    let done = c.name_block.ensures in
    let len = blocks_length c.args.stock.now c.args.file c.args.laid.now c.requires.file in
    let lt : k < length first.blocks = omega (arith, len, c.blocks_len-k-end.ensures, c.loop-k-test.true) in
    let is : number ≡ get_or first.blocks k 0 =
    c.number-number.ensures ∙ at_number b c.block_place-place.result (get_or here.blocks k 0) (c.block_place-place.ensures b turn.invariant.file)
    ∙ ap (λ (ch : Chain). get_or ch.blocks k 0) turn.invariant.chain in
    record {
      file = file_still b b' c.args.file c.args.laid.now n w done turn.invariant.file;
      chain = chain_still b b' c.args.file c.args.laid.now n w first done turn.invariant.chain;
      left = named_step first.index first.blocks k number b b' lt is (done ∙ ap (λ (ch : Chain). with_block_number ch.index k number b) turn.invariant.chain) ∙ turn.invariant.left;
    }
