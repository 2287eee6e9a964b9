use Rattle.std.proofs.Common.{◌≡◌, ap, ◌∙◌, arith}
use Rattle.trio_lists.specs.Lists.{tabulated}
use Rattle.trio_auxfile.specs.Blocks.{block_index, block_number, blocks_of, bytes_of}
use Rattle.trio_auxfile.proofs.index.BlockIndex.rebuild.Goals as goal

pub returns : goal.returns
unfolding block_index
returns c =
    let size = rw c.body.ensures.body at c.u64_in.ensures in
    let all : c.loop-i.i ≡ blocks_of c.args.lease.now.stands.body = omega (arith, size, c.div_ceil-blocks.ensures) in
    c.loop-i.invariant.pages ∙ ap (tabulated (block_number (bytes_of c.args.lease.now.stands.index))) all
