use Rattle.trio_checkpoint.proofs.Words.{◌∙◌, ◌≡◌, AreCopies, IsTrue, Ok, ap, are_there, core_of, covered_numbers, guard_in, length, subst, sym}
use Rattle.trio_rights.specs.ByKind.{covers_blocks}
use Rattle.trio_checkpoint.specs.Covered.{chain_in}
use Rattle.trio_checkpoint.specs.inner.Steps.{AllStand, chain_seen}
use Rattle.trio_checkpoint.proofs.Copies.{all_stand, copies_are_sheets, covered_are, guard_in-read, taken_numbers}
use Rattle.trio_checkpoint.proofs.Restoring.{below_joined, copies_within}
use Rattle.trio_checkpoint.proofs.checkpoint.Checkpoint.taken.Goals as goal

pub copy_blocks-requires : goal.copy_blocks-requires
copy_blocks-requires c =
    let core = core_of c.args.home.now.pages c.args.range in
    let chain = chain_seen c.in_ok-chain.chain in
    let whole : chain_in core c.args.kind c.args.body.now ≡ Ok chain = rw (← c.in-Some.ensures.value) (sym c.in_ok-chain.ensures.chain) in
    let taken = taken_numbers c.args.kind c.args.range c.args.body.now c.in-Some.read chain.blocks c.covers_blocks-covers.result (sym c.in-Some.ensures.value) c.covers_blocks-covers.ensures in
    rw (c.deref.ensures.value, c.in_ok-chain.ensures.home)
    (subst (AllStand core.pages) (sym taken) (all_stand core (covered_numbers c.args.kind (guard_in c.args.body.now) chain.blocks) (c.requires.blocks chain whole)))

pub returns-clause-index : goal.returns-clause-index
returns-clause-index c =
    let core = core_of c.args.home.now.pages c.args.range in
    let chain = c.in_ok-chain.chain in
    copies_are_sheets core chain.index_numbers.items chain.index.items c.in_ok-chain.ensures.index c.in_ok-chain.ensures.there

pub returns-clause-blocks : goal.returns-clause-blocks
returns-clause-blocks c =
    let core = core_of c.args.home.now.pages c.args.range in
    let chain = chain_seen c.in_ok-chain.chain in
    let whole : chain_in core c.args.kind c.args.body.now ≡ Ok chain = rw (← c.in-Some.ensures.value) (sym c.in_ok-chain.ensures.chain) in
    let taken = taken_numbers c.args.kind c.args.range c.args.body.now c.in-Some.read chain.blocks c.covers_blocks-covers.result (sym c.in-Some.ensures.value) c.covers_blocks-covers.ensures in
    let copies = rw (c.deref.ensures.value, c.in_ok-chain.ensures.home, taken) at c.in_ok-blocks.ensures.copies in
    copies_are_sheets core (covered_numbers c.args.kind (guard_in c.args.body.now) chain.blocks) c.in_ok-blocks.blocks.items copies (c.requires.blocks chain whole)

pub returns-clause-block_numbers : goal.returns-clause-block_numbers
returns-clause-block_numbers c =
    let chain = chain_seen c.in_ok-chain.chain in
    let taken = taken_numbers c.args.kind c.args.range c.args.body.now c.in-Some.read chain.blocks c.covers_blocks-covers.result (sym c.in-Some.ensures.value) c.covers_blocks-covers.ensures in
    let copies = rw (c.deref.ensures.value, taken) at c.in_ok-blocks.ensures.copies in
    copies.numbered

pub returns-clause-covered : goal.returns-clause-covered
returns-clause-covered c =
    let core = core_of c.args.home.now.pages c.args.range in
    let chain = chain_seen c.in_ok-chain.chain in
    let whole : chain_in core c.args.kind c.args.body.now ≡ Ok chain = rw (← c.in-Some.ensures.value) (sym c.in_ok-chain.ensures.chain) in
    let taken = taken_numbers c.args.kind c.args.range c.args.body.now c.in-Some.read chain.blocks c.covers_blocks-covers.result (sym c.in-Some.ensures.value) c.covers_blocks-covers.ensures in
    let copies = rw (c.deref.ensures.value, c.in_ok-chain.ensures.home, taken) at c.in_ok-blocks.ensures.copies in
    let index = copies_are_sheets core chain.index c.in_ok-chain.chain.index.items c.in_ok-chain.ensures.index c.in_ok-chain.ensures.there in
    let blocks = copies_are_sheets core (covered_numbers c.args.kind (guard_in c.args.body.now) chain.blocks) c.in_ok-blocks.blocks.items copies (c.requires.blocks chain whole) in
    rw (index, blocks) (covered_are core c.args.kind (guard_in c.args.body.now) _ chain.blocks)

pub returns-clause-within : goal.returns-clause-within
returns-clause-within c =
    let pages = c.args.home.now.pages in
    let index = c.in_ok-chain.chain.index.items in
    let blocks = c.in_ok-blocks.blocks.items in
    let copies = rw (c.deref.ensures.value, c.in_ok-chain.ensures.home) at c.in_ok-blocks.ensures.copies in
    below_joined (length pages) index blocks
    (copies_within pages index c.in_ok-chain.ensures.index.copied)
    (copies_within pages blocks copies.copied)
