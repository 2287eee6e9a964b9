use Rattle.trio_commit.proofs.Words.{◌++◌, ◌∙◌, ◌≡◌, IsTrue, all_below, ap, below_parts, length, length-with_all, lent_sheets, put_both, sheet_numbers, subst, sym, with_all, with_pages, within_still}
use Rattle.trio_lease.specs.Shown.{Shown}
use Rattle.trio_commit.proofs.Bringing.{disowned_both}
use Rattle.trio_commit.proofs.bundles.bring_file.Goals as goal

pub disown-requires : goal.disown-requires
disown-requires c =
    let parts = c.parts-index.result in
    rw (c.deref.ensures.value, c.requires.table)
    ((below_parts (length c.args.home.now.pages) (lent_sheets parts.index.items) (lent_sheets parts.blocks.items)
    (subst (λ (f : Shown). IsTrue (all_below (length c.args.home.now.pages) (sheet_numbers (lent_sheets f.index ++ lent_sheets f.blocks)))) (sym c.parts-index.ensures) c.requires.within)).0)

pub disown-requires-2 : goal.disown-requires-2
disown-requires-2 c =
    let parts = c.parts-index.result in
    let size = ap length c.disown.ensures ∙ length-with_all 0 (sheet_numbers (lent_sheets c.deref.result.now)) c.args.owners.now ∙ c.requires.table in
    rw (c.deref-2.ensures.value, size)
    ((below_parts (length c.args.home.now.pages) (lent_sheets parts.index.items) (lent_sheets parts.blocks.items)
    (subst (λ (f : Shown). IsTrue (all_below (length c.args.home.now.pages) (sheet_numbers (lent_sheets f.index ++ lent_sheets f.blocks)))) (sym c.parts-index.ensures) c.requires.within)).1)

pub bring_pages-requires-2 : goal.bring_pages-requires-2
bring_pages-requires-2 c =
    let parts = c.parts-index.result in
    within_still c.args.home.now c.bring_pages.new.home (lent_sheets parts.index.items) (lent_sheets parts.blocks.items)
    (subst (λ (f : Shown). IsTrue (all_below (length c.args.home.now.pages) (sheet_numbers (lent_sheets f.index ++ lent_sheets f.blocks))))
    (sym c.parts-index.ensures) c.requires.within)
    c.bring_pages.ensures

pub returns-clause-home : goal.returns-clause-home
returns-clause-home c =
    let parts = c.parts-index.result in
    subst (λ (f : Shown). c.bring_pages-2.new.home ≡ record c.args.home.now { pages = with_pages (lent_sheets f.index ++ lent_sheets f.blocks) c.args.home.now.pages })
    c.parts-index.ensures
    (put_both c.args.home.now c.bring_pages.new.home c.bring_pages-2.new.home (lent_sheets parts.index.items) (lent_sheets parts.blocks.items)
    c.bring_pages.ensures c.bring_pages-2.ensures)

pub returns-clause-owners : goal.returns-clause-owners
returns-clause-owners c =
    subst (λ (f : Shown). c.disown-2.new.owners ≡ with_all 0 (sheet_numbers (lent_sheets f.index ++ lent_sheets f.blocks)) c.args.owners.now)
    c.parts-index.ensures
    (disowned_both c.args.owners.now c.disown.new.owners c.disown-2.new.owners c.parts-index.result.index.items c.parts-index.result.blocks.items
    (rw c.deref.ensures.value at c.disown.ensures) (rw c.deref-2.ensures.value at c.disown-2.ensures))
