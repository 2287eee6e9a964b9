use Rattle.trio_session.proofs.Words.{◌<◌, ◌∙◌, ap, arith, chain_at, length, map, page_in}
use Rattle.trio_session.proofs.Chains.{blocks_length}
use Rattle.trio_session.proofs.Scanned.{page_apart, page_read, page_told}
use Rattle.trio_session.proofs.SlotEdits.{block_there}
use Rattle.trio_session.proofs.dir_slots.index_of_places.Goals as goal

pub scan-requires-clause-read : goal.scan-requires-clause-read
scan-requires-clause-read c =
    let b = c.args.stock.now in
    let blocks = (chain_at b c.args.file c.args.laid.now).blocks in
    let k = c.loop-k.k in
    let lt : k < length blocks = omega (arith, blocks_length b c.args.file c.args.laid.now c.requires.file, c.blocks_len-k-end.ensures, c.loop-k-test.true) in
    let at = block_there b blocks k c.block_place-place.result c.page.result.now lt (c.block_place-place.ensures b c.requires.file) c.page.ensures in
    page_read (map (page_in b) blocks) c.loop-k.dir k c.page.result.now c.requires.read c.loop-k.invariant.inodes at

pub scan-requires-clause-differ : goal.scan-requires-clause-differ
scan-requires-clause-differ c =
    let b = c.args.stock.now in
    let blocks = (chain_at b c.args.file c.args.laid.now).blocks in
    let k = c.loop-k.k in
    let lt : k < length blocks = omega (arith, blocks_length b c.args.file c.args.laid.now c.requires.file, c.blocks_len-k-end.ensures, c.loop-k-test.true) in
    let at = block_there b blocks k c.block_place-place.result c.page.result.now lt (c.block_place-place.ensures b c.requires.file) c.page.ensures in
    page_apart (map (page_in b) blocks) c.loop-k.dir k c.page.result.now c.requires.read c.loop-k.invariant.inodes c.loop-k.invariant.slots at

pub loop-k-preserved : goal.loop-k-preserved
loop-k-preserved c =
    let b = c.args.stock.now in
    let blocks = (chain_at b c.args.file c.args.laid.now).blocks in
    let k = c.loop-k.k in
    let lt : k < length blocks = omega (arith, blocks_length b c.args.file c.args.laid.now c.requires.file, c.blocks_len-k-end.ensures, c.loop-k-test.true) in
    let at = block_there b blocks k c.block_place-place.result c.page.result.now lt (c.block_place-place.ensures b c.requires.file) c.page.ensures in
    record {
      inodes = ap (λ d. d.inodes) c.in_ok-scan.ensures.told ∙ c.loop-k.invariant.inodes;
      slots = ap (λ d. d.slots) c.in_ok-scan.ensures.told ∙ page_told (map (page_in b) blocks) c.loop-k.dir k c.page.result.now c.loop-k.invariant.inodes c.loop-k.invariant.slots at;
    }
