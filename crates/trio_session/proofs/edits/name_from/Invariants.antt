use Rattle.trio_session.proofs.Words.{◌≡◌, IsFile, chain_at, drop, numbered}
use Rattle.trio_session.proofs.edits.name_from.Given as goal

-- with the blocks that are left all is as after all
abbrev pub invariant-loop-k : goal.invariant-loop-k
invariant-loop-k l = record {
  file : IsFile l.stock l.file l.laid;
  chain : chain_at l.stock l.file l.laid ≡ chain_at l.fn.stock l.file l.laid;
  left : numbered (chain_at l.fn.stock l.file l.laid).index l.k (drop l.k (chain_at l.fn.stock l.file l.laid).blocks) l.stock
      ≡ numbered (chain_at l.fn.stock l.file l.laid).index l.from (drop l.from (chain_at l.fn.stock l.file l.laid).blocks) l.fn.stock;
}
