use Rattle.trio_commit.proofs.Words.{flat_map, reverse, uncovered_sheets, vec_len}
use Rattle.trio_commit.proofs.Bringing.{Left}
use Rattle.trio_commit.proofs.bundles.bring_uncovered_blocks.Given as goal

abbrev pub invariant-loop-lease : goal.invariant-loop-lease
invariant-loop-lease l = Left l.home l.fn.home (flat_map uncovered_sheets (reverse l.writes.items)) (flat_map uncovered_sheets l.fn.writes.items)

abbrev pub decreases-loop-lease : goal.decreases-loop-lease
decreases-loop-lease l = vec_len l.writes
