use Rattle.trio_survey.proofs.Words.{◌-◌, ◌∙◌, ◌≡◌, None, Some, arith, core_with, page_of}
use Rattle.trio_survey.proofs.Chains.{no_page_at, no_index_at, one_index_more}
use Rattle.trio_survey.proofs.chain.read_chain_kept.Goals as goal

pub returns-in_default-clause-chain : goal.returns-in_default-clause-chain
returns-in_default-clause-chain c = λ inodes.
    let core = core_with c.args.home.now.pages c.args.range inodes in
    let turn = c.loop-left in
    let gone : None ≡ page_of core turn.at = c.in_default.ensures ∙ rw turn.invariant.same at c.in_ok-look.ensures.kept in
    no_page_at core _ turn.left turn.at turn.index.items c.loop-left.blocks.items (omega arith) (turn.invariant.chain inodes) gone

pub returns-in_default-2-clause-chain : goal.returns-in_default-2-clause-chain
returns-in_default-2-clause-chain c = λ inodes.
    let core = core_with c.args.home.now.pages c.args.range inodes in
    let turn = c.loop-left in
    let there : Some c.in-Some.page.now ≡ page_of core turn.at = c.in-Some.ensures ∙ rw turn.invariant.same at c.in_ok-look.ensures.kept in
    let bad = rw (c.in_default-2.is, c.min-used.ensures) at c.in_ok-next.ensures in
    no_index_at core _ turn.left turn.at turn.index.items c.loop-left.blocks.items c.in-Some.page.now (omega arith) (turn.invariant.chain inodes) there bad

pub loop-left-preserved : goal.loop-left-preserved
loop-left-preserved c =
    let turn = c.loop-left in
    let read = rw (c.in-Some-2.is, c.min-used.ensures) at c.in_ok-next.ensures in
    let fewer : turn.left - c.from-left.result ≡ turn.left - 511 = omega (arith, c.from-left.ensures, c.min-used.ensures) in
    record {
      same = c.in_ok-look.ensures.pages ∙ turn.invariant.same;
      keeps = rw turn.invariant.same at c.in_ok-look.ensures.keeps;
      looks = omega (arith, c.in_ok-look.ensures.looks, turn.invariant.looks);
      looked = omega (arith, c.in_ok-look.ensures.looked, turn.invariant.looked);
      chain = λ inodes.
          let core = core_with c.args.home.now.pages c.args.range inodes in
          let there : Some c.in-Some.page.now ≡ page_of core turn.at = c.in-Some.ensures ∙ rw turn.invariant.same at c.in_ok-look.ensures.kept in
          let more = one_index_more core _ turn.left turn.at turn.index.items c.loop-left.blocks.items c.in-Some.page.now read.0 c.in-Some-2.next (omega arith) (turn.invariant.chain inodes) there read.1 in
          rw (fewer, c.in_ok-push.ensures.items, read.2) more;
    }
