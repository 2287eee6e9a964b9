use Rattle.trio_session.proofs.Words.{◌≡◌, IsFile, chain_at, drop, unlinked}
use Rattle.trio_session.proofs.edits.unlink_from.Given as goal

-- with the pages that are left all is as after all
abbrev pub invariant-loop-i : goal.invariant-loop-i
invariant-loop-i l = record {
  file : IsFile l.stock l.file l.laid;
  chain : chain_at l.stock l.file l.laid ≡ chain_at l.fn.stock l.file l.laid;
  left : unlinked (drop l.i (chain_at l.fn.stock l.file l.laid).index) l.stock ≡ unlinked (drop l.from (chain_at l.fn.stock l.file l.laid).index) l.fn.stock;
}
