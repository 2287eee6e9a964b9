use Rattle.trio_session.proofs.Words.{◌-◌, ◌<◌, ◌∙◌, ◌≡◌, ◌≤◌, Chain, ap, arith, chain_at, get_or, length, page_in, sym, w64, with_number, with_number_in}
use Rattle.trio_session.proofs.Chains.{index_length}
use Rattle.trio_session.proofs.Stays.{at_number}
use Rattle.trio_session.proofs.Loops.{file_still, chain_still, linked_step, linked_past}
use Rattle.trio_session.proofs.edits.link_from.Goals as goal

pub loop-i-preserved : goal.loop-i-preserved
loop-i-preserved c =
    let turn = c.loop-i in
    let i = turn.i in
    let b = turn.stock in
    let b' = c.link.new.stock in
    let first = chain_at c.args.stock.now c.args.file c.args.laid.now in
    let here = chain_at b c.args.file c.args.laid.now in
    let number = c.number-number.result.0 in
    let n = get_or here.index (i - 1) 0 in
    let w = with_number w64 4088 number (page_in b n) in
    let done = c.link.ensures in
    let len = index_length c.args.stock.now c.args.file c.args.laid.now c.requires in
    let lt : i < length first.index = omega (arith, len, c.index_len-i-end.ensures, c.loop-i-test.true) in
    let is : number ≡ get_or first.index i 0 =
    c.number-number.ensures ∙ at_number b c.index_place-place.result (get_or here.index i 0) (c.index_place-place.ensures b turn.invariant.file)
    ∙ ap (λ (ch : Chain). get_or ch.index i 0) turn.invariant.chain in
    let one : 1 ≤ i = omega (arith, c.max-i.ensures, turn.auto.i) in
    record {
      file = file_still b b' c.args.file c.args.laid.now n w done turn.invariant.file;
      chain = chain_still b b' c.args.file c.args.laid.now n w first done turn.invariant.chain;
      left = linked_step first.index i number b b' one lt is (done ∙ ap (λ (ch : Chain). with_number_in (get_or ch.index (i - 1) 0) 4088 number b) turn.invariant.chain) ∙ turn.invariant.left;
    }

pub returns : goal.returns
returns c =
    let turn = c.loop-i in
    let first = chain_at c.args.stock.now c.args.file c.args.laid.now in
    let len = index_length c.args.stock.now c.args.file c.args.laid.now c.requires in
    let le : length first.index ≤ turn.i = omega (arith, len, c.index_len-i-end.ensures, c.loop-i-test.false) in
    sym (linked_past first.index turn.i turn.stock le) ∙ turn.invariant.left
