use Rattle.trio_commit.proofs.Words.{file_sheets, flat_map, reverse, vec_len}
use Rattle.trio_commit.proofs.Bringing.{LeftBoth}
use Rattle.trio_commit.proofs.bundles.bring_files.Given as goal

abbrev pub invariant-loop-lease : goal.invariant-loop-lease
invariant-loop-lease l = LeftBoth l.home l.fn.home l.owners l.fn.owners (flat_map file_sheets (reverse l.writes.items)) (flat_map file_sheets l.fn.writes.items)

abbrev pub decreases-loop-lease : goal.decreases-loop-lease
decreases-loop-lease l = vec_len l.writes
