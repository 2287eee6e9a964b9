use Rattle.trio_image.proofs.Words.{◌∙◌}
use Rattle.trio_survey.specs.Seen.{chain_seen}
use Rattle.trio_image.proofs.NodeParts.{content-fault, content-read}
use Rattle.trio_image.proofs.nodes.body_content.Goals as goal

pub returns-in_default-clause-content : goal.returns-in_default-clause-content
returns-in_default-clause-content c =
    let s = c.args.superblock.now in
    let read = rw c.in_default.is at (c.in_ok-chain.ensures.chain s.inodes) in
    c.new-in_default.ensures ∙ content-fault s c.args.home.now.pages _ c.args.body.now _ c.core_range-range.ensures read

pub returns-clause-content : goal.returns-clause-content
returns-clause-content c =
    let s = c.args.superblock.now in
    let read = rw c.in-Ok.is at (c.in_ok-chain.ensures.chain s.inodes) in
    let joined = rw c.deref.ensures.value at c.in_ok-bytes.ensures.bytes in
    c.from_vec.ensures ∙ c.truncate.ensures.items
    ∙ content-read s c.args.home.now.pages _ _ c.args.body.now (chain_seen c.in-Ok.chain) c.in_ok-bytes.bytes.items c.core_range-range.ensures c.read_chain.ensures.pages read joined
