use Rattle.trio_open.proofs.Words.{core_of, guard_in, refl, sym}
use Rattle.trio_open.proofs.LendLemmas.{index_there, covered_there, index_once, blocks_once, blocks_there, blocks_same, both_gone, opened_is, checkpoint_is, checkpoint_covers, lease_is, same_chain}
use Rattle.trio_open.proofs.lend.lend.Goals as goal

pub taken-requires-clause-blocks : goal.taken-requires-clause-blocks
taken-requires-clause-blocks c = λ x e. covered_there (core_of c.args.home.now.pages c.args.range) c.args.asked.now.kind (guard_in c.args.asked.now.body) x (c.requires.lendable x e)

pub take_pages-requires-clause-there : goal.take_pages-requires-clause-there
take_pages-requires-clause-there c =
    let told = c.in_ok-checkpoint.ensures in
    let chain = c.in_ok-checkpoint.checkpoint.chain in
    rw (c.taken.ensures.home, c.index_numbers-2.ensures) (index_there (core_of c.args.home.now.pages c.args.range) chain (c.requires.lendable chain (sym told.chain)))

pub take_pages-requires-clause-once : goal.take_pages-requires-clause-once
take_pages-requires-clause-once c =
    let told = c.in_ok-checkpoint.ensures in
    let chain = c.in_ok-checkpoint.checkpoint.chain in
    rw c.index_numbers-2.ensures (index_once (core_of c.args.home.now.pages c.args.range) chain (c.requires.lendable chain (sym told.chain)))

pub take_pages-requires-2-clause-there : goal.take_pages-requires-2-clause-there
take_pages-requires-2-clause-there c =
    let told = c.in_ok-checkpoint.ensures in
    let chain = c.in_ok-checkpoint.checkpoint.chain in
    let gone = rw (c.taken.ensures.home, c.index_numbers-2.ensures) at c.take_pages.ensures.pages in
    rw c.block_numbers-2.ensures
    (blocks_there c.args.home.now.pages c.take_pages.new.home.pages c.args.range chain gone (c.requires.lendable chain (sym told.chain)))

pub take_pages-requires-2-clause-once : goal.take_pages-requires-2-clause-once
take_pages-requires-2-clause-once c =
    let told = c.in_ok-checkpoint.ensures in
    let chain = c.in_ok-checkpoint.checkpoint.chain in
    rw c.block_numbers-2.ensures (blocks_once (core_of c.args.home.now.pages c.args.range) chain (c.requires.lendable chain (sym told.chain)))

pub returns-clause-opened : goal.returns-clause-opened
returns-clause-opened c = λ x e.
    let told = c.in_ok-checkpoint.ensures in
    let chain = c.in_ok-checkpoint.checkpoint.chain in
    let core = core_of c.args.home.now.pages c.args.range in
    let asked = c.args.asked.now in
    let fit = c.requires.lendable chain (sym told.chain) in
    let first = rw (c.taken.ensures.home, c.index_numbers-2.ensures) at c.take_pages.ensures.lent in
    let gone = rw (c.taken.ensures.home, c.index_numbers-2.ensures) at c.take_pages.ensures.pages in
    let second = rw (c.block_numbers-2.ensures, blocks_same c.args.home.now.pages c.take_pages.new.home.pages c.args.range chain gone fit) at c.take_pages-2.ensures.lent in
    let made = rw c.of.ensures at c.of-file.ensures in
    opened_is c.of-file.result c.args.key asked.lib.0 asked.ino asked.entry asked.kind asked.body _ _ core chain x made first second (same_chain chain x _ told.chain e)

pub returns-clause-covered : goal.returns-clause-covered
returns-clause-covered c =
    let told = c.in_ok-checkpoint.ensures in
    let chain = c.in_ok-checkpoint.checkpoint.chain in
    let core = core_of c.args.home.now.pages c.args.range in
    let asked = c.args.asked.now in
    let fit = c.requires.lendable chain (sym told.chain) in
    let first = rw (c.taken.ensures.home, c.index_numbers-2.ensures) at c.take_pages.ensures.lent in
    let gone = rw (c.taken.ensures.home, c.index_numbers-2.ensures) at c.take_pages.ensures.pages in
    let second = rw (c.block_numbers-2.ensures, blocks_same c.args.home.now.pages c.take_pages.new.home.pages c.args.range chain gone fit) at c.take_pages-2.ensures.lent in
    let made = rw c.of.ensures at c.of-file.ensures in
    let made' = opened_is c.of-file.result c.args.key asked.lib.0 asked.ino asked.entry asked.kind asked.body _ _ core chain chain made first second refl in
    checkpoint_is c.of-file.result c.args.key asked.lib.0 asked.ino asked.entry asked.kind asked.body core c.in_ok-checkpoint.checkpoint made' told.covered

pub returns-clause-covers : goal.returns-clause-covers
returns-clause-covers c =
    let told = c.in_ok-checkpoint.ensures in
    let chain = c.in_ok-checkpoint.checkpoint.chain in
    let core = core_of c.args.home.now.pages c.args.range in
    let asked = c.args.asked.now in
    let fit = c.requires.lendable chain (sym told.chain) in
    let first = rw (c.taken.ensures.home, c.index_numbers-2.ensures) at c.take_pages.ensures.lent in
    let gone = rw (c.taken.ensures.home, c.index_numbers-2.ensures) at c.take_pages.ensures.pages in
    let second = rw (c.block_numbers-2.ensures, blocks_same c.args.home.now.pages c.take_pages.new.home.pages c.args.range chain gone fit) at c.take_pages-2.ensures.lent in
    let made = rw c.of.ensures at c.of-file.ensures in
    let made' = opened_is c.of-file.result c.args.key asked.lib.0 asked.ino asked.entry asked.kind asked.body _ _ core chain chain made first second refl in
    checkpoint_covers c.of-file.result c.args.key asked.lib.0 asked.ino asked.entry asked.kind asked.body core c.in_ok-checkpoint.checkpoint made' told.body told.index told.blocks fit

pub returns-clause-lease : goal.returns-clause-lease
returns-clause-lease c =
    let asked = c.args.asked.now in
    let made = rw c.of.ensures at c.of-file.ensures in
    lease_is c.of-file.result c.of-2.result c.args.key asked.ino asked.entry asked.lib asked.kind asked.body _ _ _ _ made c.take_pages.ensures.lent c.take_pages-2.ensures.lent c.of-2.ensures

pub returns-clause-pages : goal.returns-clause-pages
returns-clause-pages c = λ x e.
    let told = c.in_ok-checkpoint.ensures in
    let chain = c.in_ok-checkpoint.checkpoint.chain in
    let gone = rw (c.taken.ensures.home, c.index_numbers-2.ensures) at c.take_pages.ensures.pages in
    let all = rw c.block_numbers-2.ensures at c.take_pages-2.ensures.pages in
    rw (← same_chain chain x _ told.chain e) (both_gone c.args.home.now.pages c.take_pages.new.home.pages c.take_pages-2.new.home.pages chain gone all)
