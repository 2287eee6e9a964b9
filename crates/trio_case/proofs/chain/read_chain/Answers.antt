use Rattle.trio_case.proofs.Words.{◌-◌, ◌∙◌, ◌≡◌, arith, bundle_core, case_in, sym}
use Rattle.trio_case.proofs.Chains.{no_page_at, no_index_at, one_index_more}
use Rattle.trio_case.proofs.chain.read_chain.Goals as goal

pub returns-in-Absent-clause-chain : goal.returns-in-Absent-clause-chain
returns-in-Absent-clause-chain c =
    let core = bundle_core (case_in c.args.case.now) in
    let turn = c.loop-left in
    let read = c.in-Absent.ensures.read in
    rw (c.add.ensures.added, read.1) (no_page_at core _ turn.left turn.at turn.room.index.items turn.room.blocks.items (omega arith) turn.invariant.chain (sym read.0))

pub returns-in-Bad-clause-chain : goal.returns-in-Bad-clause-chain
returns-in-Bad-clause-chain c =
    let core = bundle_core (case_in c.args.case.now) in
    let turn = c.loop-left in
    let read = rw c.min-used.ensures at c.in-Bad.ensures.read in
    no_index_at core _ turn.left turn.at turn.room.index.items turn.room.blocks.items read.0 (omega arith) turn.invariant.chain (sym read.1) read.2

pub loop-left-preserved : goal.loop-left-preserved
loop-left-preserved c =
    let core = bundle_core (case_in c.args.case.now) in
    let turn = c.loop-left in
    let was = turn.invariant in
    let read = rw c.min-used.ensures at c.in-Next.ensures.read in
    let is = c.in-Next.is in
    let looks = c.read_index-read.ensures.looks (λ e. cc) in
    let fewer : turn.left - c.from-left.result ≡ turn.left - 511 = omega (arith, c.from-left.ensures, c.min-used.ensures) in
    record {
      chain = rw (fewer, c.add-in-Next.ensures.added, read.4) (one_index_more core _ turn.left turn.at turn.room.index.items turn.room.blocks.items read.0 read.1 c.in-Next.next (omega arith) was.chain (sym read.2) read.3);
      index_room = omega (arith, was.index_room, c.add-in-Next.ensures.len, c.loop-left-test.true, fewer);
      blocks_room = omega (arith, was.blocks_room, c.in-Next.ensures.len, c.from-left.ensures, c.min-used.ensures);
      index_kept = omega (arith, was.index_kept, c.add-in-Next.ensures.room);
      blocks_kept = omega (arith, was.blocks_kept, c.in-Next.ensures.room);
      keeps = c.in-Next.ensures.keeps;
      places = c.in-Next.ensures.places;
      names = c.in-Next.ensures.same.0 ∙ was.names;
      unread = c.in-Next.ensures.same.1 ∙ was.unread;
      named = was.named;
      looks = omega (arith, was.looks, looks, c.in-Next.ensures.same.1);
    }
