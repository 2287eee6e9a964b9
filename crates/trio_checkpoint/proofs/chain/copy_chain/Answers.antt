use Rattle.trio_checkpoint.proofs.Words.{◌-◌, ◌∙◌, ◌≡◌, IsSome, None, Some, ap, arith, chain_of, core_of, get_or, page_of, sym}
use Rattle.trio_checkpoint.proofs.Chains.{page_is_there, one_index_more, index_is_there}
use Rattle.trio_checkpoint.proofs.Copies.{at_its_number, one_copy_more, one_more_there}
use Rattle.trio_checkpoint.proofs.chain.copy_chain.Goals as goal

pub loop-left-preserved : goal.loop-left-preserved
loop-left-preserved c =
    let turn = c.loop-left in
    let before = turn.invariant in
    let pages = c.args.home.now.pages in
    let core = core_of pages c.args.range in
    let r = chain_of core c.args.body.now in
    let index = turn.index_numbers.items in
    let blocks = turn.block_numbers.items in
    let copy = c.in_ok-copy.copy in
    let same : c.of.new.home.pages ≡ pages = c.of.ensures.home ∙ before.same in
    let there : IsSome (page_of core turn.at) = page_is_there core r turn.left turn.at index blocks (omega arith) before.chain c.requires in
    let copied : get_or pages copy.page None ≡ Some copy.bytes = rw (← before.same) c.in_ok-copy.ensures.copy in
    let page : page_of core turn.at ≡ Some copy.bytes =
    at_its_number core turn.at there ∙ ap (λ n. get_or pages n None) (sym c.in_ok-copy.ensures.number) ∙ copied in
    let some = index_is_there core r turn.left turn.at index blocks copy.bytes (omega arith) before.chain c.requires page in
    let read = rw (c.min-used.ensures, c.page.ensures) at c.in_ok-next.ensures in
    let more = one_index_more core r turn.left turn.at index blocks copy.bytes c.in_ok-next.next c.add_numbers.new.blocks.items (omega arith) before.chain page some read in
    let fewer : turn.left - c.from-left.result ≡ turn.left - 511 = omega (arith, c.from-left.ensures, c.min-used.ensures) in
    record {
      same = same;
      floor = omega (arith, before.floor, c.of.ensures.floor);
      chain = rw (fewer, c.in_ok-push.ensures.items) more;
      copies = rw (c.in_ok-push.ensures.items, c.in_ok-push-2.ensures.items) (one_copy_more pages index turn.index.items turn.at copy before.copies c.in_ok-copy.ensures.number copied);
      there = rw c.in_ok-push.ensures.items (one_more_there core index turn.at before.there there);
    }
