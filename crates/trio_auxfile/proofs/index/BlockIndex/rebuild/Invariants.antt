use Rattle.std.proofs.Common.{◌≡◌, vec_len, vec_capacity}
use Rattle.trio_lists.specs.Lists.{tabulated}
use Rattle.trio_auxfile.specs.Blocks.{block_number, bytes_of}
use Rattle.trio_auxfile.proofs.index.BlockIndex.rebuild.Given as goal

abbrev pub invariant-loop-i : goal.invariant-loop-i
invariant-loop-i l = record {
  pages : l.pages.items ≡ tabulated (block_number (bytes_of l.lease.stands.index)) l.i;
  len : vec_len l.pages ≡ l.i;
  room : vec_capacity l.pages ≡ l.blocks;
}
