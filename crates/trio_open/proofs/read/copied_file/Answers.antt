use Rattle.trio_open.proofs.Words.{core_of, guard_in, sym}
use Rattle.trio_open.proofs.LendLemmas.{blocks_at_home, covered_there, index_there, read_is, same_chain, shown_is}
use Rattle.trio_open.proofs.read.copied_file.Goals as goal

pub taken-requires-clause-blocks : goal.taken-requires-clause-blocks
taken-requires-clause-blocks c = λ x e. covered_there (core_of c.args.home.now.pages c.args.range) c.args.asked.now.kind (guard_in c.args.asked.now.body) x (c.requires.lendable x e)

pub copies-requires : goal.copies-requires
copies-requires c =
    let told = c.in_ok-checkpoint.ensures in
    let chain = c.in_ok-checkpoint.checkpoint.chain in
    record { there = rw (c.taken.ensures.home, c.index_numbers.ensures) (index_there (core_of c.args.home.now.pages c.args.range) chain (c.requires.lendable chain (sym told.chain))) }

pub copies-requires-2 : goal.copies-requires-2
copies-requires-2 c =
    let told = c.in_ok-checkpoint.ensures in
    let chain = c.in_ok-checkpoint.checkpoint.chain in
    record { there = rw (c.copies.ensures.pages, c.taken.ensures.home, c.block_numbers.ensures) (blocks_at_home (core_of c.args.home.now.pages c.args.range) chain (c.requires.lendable chain (sym told.chain))) }

pub returns-clause-opened : goal.returns-clause-opened
returns-clause-opened c = λ x e.
    let told = c.in_ok-checkpoint.ensures in
    let chain = c.in_ok-checkpoint.checkpoint.chain in
    let core = core_of c.args.home.now.pages c.args.range in
    let asked = c.args.asked.now in
    let first = rw (c.taken.ensures.home, c.index_numbers.ensures) at c.in_ok-index.ensures.copies in
    let second = rw (c.copies.ensures.pages, c.taken.ensures.home, c.block_numbers.ensures) at c.in_ok-blocks.ensures.copies in
    let made = rw c.of.ensures at c.of-file.ensures in
    read_is c.of-file.result c.args.key asked.lib.0 asked.ino asked.entry asked.kind asked.body _ _ core chain x made first second (same_chain chain x _ told.chain e)

pub returns-clause-lease : goal.returns-clause-lease
returns-clause-lease c =
    let asked = c.args.asked.now in
    let made = rw c.of.ensures at c.of-file.ensures in
    shown_is c.of-file.result c.of-2.result c.args.key asked.ino asked.entry asked.lib asked.kind asked.body _ _ _ _ made c.in_ok-index.ensures.copies c.in_ok-blocks.ensures.copies c.of-2.ensures
