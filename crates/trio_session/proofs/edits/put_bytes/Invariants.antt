use Rattle.trio_session.proofs.Words.{◌+◌, ◌-◌, ◌/◌, ◌≡◌, IsFile, block_count, chain_at, length, put_blocks}
use Rattle.trio_session.proofs.edits.put_bytes.Given as goal

-- with the blocks that are left all is as after all
abbrev pub invariant-loop-k : goal.invariant-loop-k
invariant-loop-k l = record {
  file : IsFile l.stock l.file l.laid;
  chain : chain_at l.stock l.file l.laid ≡ chain_at l.fn.stock l.file l.laid;
  left : put_blocks (chain_at l.fn.stock l.file l.laid).blocks l.k (block_count (l.at + length l.bytes) - l.k) l.at l.bytes l.stock
      ≡ put_blocks (chain_at l.fn.stock l.file l.laid).blocks (l.at / 4096) (block_count (l.at + length l.bytes) - l.at / 4096) l.at l.bytes l.fn.stock;
}
