use Rattle.trio_image.proofs.Words.{◌∙◌, ◌≡◌, ImagePages, IsMade, IsVerified, TablesAre, ap, arith, counts_of, image_in, new_counts, subst, sym}
use Rattle.trio_page.specs.Home.{Pages}
use Rattle.trio_image.proofs.Made.{is_new}
use Rattle.trio_image.proofs.making.empty_image.Goals as goal

pub of-home-requires : goal.of-home-requires
of-home-requires c =
    let made = c.in_ok-pages.ensures in
    let new = is_new c.args.pages c.args.inodes c.requires c.new_superblock-superblock.result c.in_ok-rows.rows c.in_ok-owners.owners c.in_ok-pages.pages.items c.new_superblock-superblock.ensures c.in_ok-rows.ensures c.in_ok-owners.ensures made.pages made.shadow made.owner in
    omega (arith, new.count, c.requires.few_pages)

pub sealed-requires-clause-verified : goal.sealed-requires-clause-verified
sealed-requires-clause-verified c =
    let made = c.in_ok-pages.ensures in
    let new = is_new c.args.pages c.args.inodes c.requires c.new_superblock-superblock.result c.in_ok-rows.rows c.in_ok-owners.owners c.in_ok-pages.pages.items c.new_superblock-superblock.ensures c.in_ok-rows.ensures c.in_ok-owners.ensures made.pages made.shadow made.owner in
    subst (λ (h : Pages). IsVerified c.new_superblock-superblock.result h.pages) (sym c.of-home.ensures) new.made.verified

pub sealed-requires-clause-tables : goal.sealed-requires-clause-tables
sealed-requires-clause-tables c =
    let made = c.in_ok-pages.ensures in
    let new = is_new c.args.pages c.args.inodes c.requires c.new_superblock-superblock.result c.in_ok-rows.rows c.in_ok-owners.owners c.in_ok-pages.pages.items c.new_superblock-superblock.ensures c.in_ok-rows.ensures c.in_ok-owners.ensures made.pages made.shadow made.owner in
    subst (λ (h : Pages). TablesAre c.new_superblock-superblock.result h.pages c.in_ok-rows.rows c.in_ok-owners.owners) (sym c.of-home.ensures) new.tables

pub returns-clause-image : goal.returns-clause-image
returns-clause-image c =
    let made = c.in_ok-pages.ensures in
    let new = is_new c.args.pages c.args.inodes c.requires c.new_superblock-superblock.result c.in_ok-rows.rows c.in_ok-owners.owners c.in_ok-pages.pages.items c.new_superblock-superblock.ensures c.in_ok-rows.ensures c.in_ok-owners.ensures made.pages made.shadow made.owner in
    let same = c.sealed.ensures ∙ ap (λ (h : Pages). record { superblock = c.new_superblock-superblock.result; pages = h.pages }) c.of-home.ensures in
    subst (λ (x : ImagePages). IsMade c.args.pages c.args.inodes x.superblock x.pages) (sym same) new.made

pub returns-clause-counts : goal.returns-clause-counts
returns-clause-counts c =
    let made = c.in_ok-pages.ensures in
    let new = is_new c.args.pages c.args.inodes c.requires c.new_superblock-superblock.result c.in_ok-rows.rows c.in_ok-owners.owners c.in_ok-pages.pages.items c.new_superblock-superblock.ensures c.in_ok-rows.ensures c.in_ok-owners.ensures made.pages made.shadow made.owner in
    let same = c.sealed.ensures ∙ ap (λ (h : Pages). record { superblock = c.new_superblock-superblock.result; pages = h.pages }) c.of-home.ensures in
    subst (λ (x : ImagePages). counts_of (image_in x.superblock x.pages) ≡ new_counts c.args.pages c.args.inodes) (sym same) new.counts
