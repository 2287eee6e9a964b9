use Rattle.trio_app.proofs.Words.{◌++◌, ◌∙◌, ◌≡◌, ap, core_in, counts_text, libs_text, tree_of, tree_text}
use Rattle.trio_report.specs.declared.report.Counts.{Counts as Totals}
use Rattle.trio_app.proofs.Ends.{image_again, joined}
use Rattle.trio_app.proofs.script.report.Goals as goal

pub of-requires : goal.of-requires
of-requires c =
    let pages = c.tree_lines.ensures.pages ∙ c.into_parts-parts.ensures.pages in
    (c.args.image.superblock, rw pages c.into_parts-parts.ensures.verified, rw pages c.into_parts-parts.ensures.tables)

pub returns-clause-image : goal.returns-clause-image
returns-clause-image c =
    let pages = c.tree_lines.ensures.pages ∙ c.into_parts-parts.ensures.pages in
    let superblock = c.of.ensures.superblock in
    image_again c.args.image c.of.result c.into_parts-parts.ensures.verified (c.of.ensures.pages ∙ pages) (rw pages at superblock)

pub returns-clause-report : goal.returns-clause-report
returns-clause-report c =
    let read = c.in_ok-tree.ensures.tree in
    let tree : c.in_ok-tree.tree.items ≡ tree_of (core_in c.args.image.superblock c.args.image.pages) = rw (c.superblock-superblock.ensures.superblock, c.into_parts-parts.ensures.pages) at read in
    let told = c.in_ok-put_tree.ensures in
    let put = rw (c.deref.ensures.value, tree) at told in
    let libraries = c.in_ok-put_libraries.ensures in
    let counts = c.in_ok-put_counts.ensures in
    joined _ _ _ _ _ _ _ c.new-text.ensures.items libraries put counts
    ∙ ap (λ (k : Totals). libs_text 1 c.args.libs.now c.args.tolds.now ++ tree_text (tree_of (core_in c.args.image.superblock c.args.image.pages)) ++ counts_text k) c.told_counts-counts.ensures
