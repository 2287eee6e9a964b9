use Rattle.trio_commit.proofs.Words.{◌∙◌, In, arith, get_or, get_or-In, subst}
use Rattle.trio_commit.proofs.Cells.{all_gone, gone_turn, size_kept}
use Rattle.trio_commit.proofs.rows.end_gone.Goals as goal

pub end_unlisted-requires-clause-some : goal.end_unlisted-requires-clause-some
end_unlisted-requires-clause-some c =
    let held = c.held-ino-items.result.now in
    (c.requires (get_or held c.loop-ino.ino-index 0) (subst (In (get_or held c.loop-ino.ino-index 0)) c.held-ino-items.ensures (get_or-In held c.loop-ino.ino-index 0 (omega arith)))).0

pub end_unlisted-requires-clause-within : goal.end_unlisted-requires-clause-within
end_unlisted-requires-clause-within c =
    let held = c.held-ino-items.result.now in
    let below = (c.requires (get_or held c.loop-ino.ino-index 0) (subst (In (get_or held c.loop-ino.ino-index 0)) c.held-ino-items.ensures (get_or-In held c.loop-ino.ino-index 0 (omega arith)))).1 in
    let size = c.loop-ino.invariant.size in
    omega (arith, below, size)

pub loop-ino-preserved : goal.loop-ino-preserved
loop-ino-preserved c =
    let turn = c.loop-ino in
    let held = c.held-ino-items.result.now in
    let below = (c.requires (get_or held turn.ino-index 0) (subst (In (get_or held turn.ino-index 0)) c.held-ino-items.ensures (get_or-In held turn.ino-index 0 (omega arith)))).1 in
    let size = turn.invariant.size in
    record {
      rows = gone_turn c.args.listing.now.listing c.args.rows.now turn.rows c.end_unlisted.new.rows held turn.ino-index (omega arith) (omega (arith, below, size)) c.end_unlisted.ensures turn.invariant.rows;
      size = size_kept c.args.listing.now.listing turn.rows c.end_unlisted.new.rows (get_or held turn.ino-index 0) c.end_unlisted.ensures ∙ size;
    }

pub returns-clause-rows : goal.returns-clause-rows
returns-clause-rows c =
    all_gone c.args.listing.now.listing c.args.rows.now c.loop-ino.rows c.held-ino-items.result.now c.loop-ino.ino-index c.loop-ino-test.false c.held-ino-items.ensures c.loop-ino.invariant.rows
