use Rattle.trio_commit.proofs.Words.{◌∙◌, arith, slice_index, sym}
use Rattle.trio_commit.proofs.Cells.{all_stay, freed_all, freed_size, freed_turn}
use Rattle.trio_commit.proofs.owners.free_gone.Goals as goal

pub returns-then-not-is_any_gone-clause-owners : goal.returns-then-not-is_any_gone-clause-owners
returns-then-not-is_any_gone-clause-owners c =
    let l = c.args.listing.now.listing in
    λ page. sym (all_stay l (sym c.is_any_gone.ensures ∙ c.if-not-is_any_gone.true) (slice_index c.args.owners.now page))

pub loop-no-preserved : goal.loop-no-preserved
loop-no-preserved c =
    let turn = c.loop-no in
    let l = c.args.listing.now.listing in
    let all = c.pages-no-end.ensures.pages in
    let size = turn.invariant.size in
    let lt = c.loop-no-test.true in
    let r = freed_turn l c.args.owners.now turn.owners c.free_if_gone.new.owners turn.no (omega (arith, all, size, lt)) c.free_if_gone.ensures turn.invariant.done turn.invariant.rest in
    record {
      done = r.0;
      rest = r.1;
      size = freed_size l turn.owners c.free_if_gone.new.owners turn.no c.free_if_gone.ensures ∙ size;
    }

pub returns-clause-owners : goal.returns-clause-owners
returns-clause-owners c =
    let turn = c.loop-no in
    freed_all c.args.listing.now.listing c.args.owners.now turn.owners c.pages-no-end.result c.pages-no-end.ensures.pages turn.invariant.size
    (λ page below. (let past = c.loop-no-test.false in turn.invariant.done page (omega (arith, below, past))))
