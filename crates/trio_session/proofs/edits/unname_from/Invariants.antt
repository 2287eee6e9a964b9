use Rattle.trio_session.proofs.Words.{◌-◌, ◌≡◌, IsFile, chain_at, length, unnamed}
use Rattle.trio_session.proofs.edits.unname_from.Given as goal

-- with the blocks that are left all is as after all
abbrev pub invariant-loop-k : goal.invariant-loop-k
invariant-loop-k l = record {
  file : IsFile l.stock l.file l.laid;
  chain : chain_at l.stock l.file l.laid ≡ chain_at l.fn.stock l.file l.laid;
  left : unnamed (chain_at l.fn.stock l.file l.laid).index l.k (length (chain_at l.fn.stock l.file l.laid).blocks - l.k) l.stock
      ≡ unnamed (chain_at l.fn.stock l.file l.laid).index l.from (length (chain_at l.fn.stock l.file l.laid).blocks - l.from) l.fn.stock;
}
