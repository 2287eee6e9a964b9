use Rattle.trio_ctl.proofs.Words.{◌+◌, ◌∙◌, ◌≡◌, None, Superblock, ap, arith, length, nothing_out, replicate}
use Rattle.trio_ctl.proofs.Starting.{started, state_started}
use Rattle.trio_ctl.proofs.registry.Registry.start.Goals as goal

pub invariant_of-result : goal.invariant_of-result
invariant_of-result c =
    let image = c.args.image in
    let parts = c.into_parts-home.ensures in
    let same = c.superblock-superblock.ensures.superblock in
    let many : c.len.result ≡ length c.args.libs.items = omega (arith, c.len.ensures, c.args.libs.ok.0) in
    started image.superblock image.pages _ _ _ c.args.libs.items _ parts.verified parts.pages (ap (λ (x : Superblock). x.root) same) parts.tables.rows_are parts.tables.owners_are
    (c.in-Ok.ensures ∙ ap (λ (x : Superblock). nothing_out x.pages x.inodes) same) (ap (λ (x : Superblock). x.first_core) same) c.new-3.ensures.items c.new-4.ensures
    _ _ (c.in-Ok-empty_places.ensures ∙ ap (λ (x : Superblock). replicate (x.inodes + 1) None) same) c.new-2.ensures (c.in-Ok-empty_places-2.ensures ∙ ap (λ n. replicate n None) many) (omega arith) (omega arith)

pub returns-clause-started : goal.returns-clause-started
returns-clause-started c =
    let image = c.args.image in
    let made = c.into_parts-home.result in
    let parts = c.into_parts-home.ensures in
    let same = c.superblock-superblock.ensures.superblock in
    state_started image.superblock image.pages (record { home = made.home; root = c.superblock-superblock.result.root; rows = made.rows; owners = made.owners; allotments = c.in-Ok.allotments; checkpoints = c.in-Ok-empty_places.checkpoints }) _ _ c.args.libs.items _ parts.verified parts.pages (ap (λ (x : Superblock). x.root) same) parts.tables.rows_are parts.tables.owners_are
    (c.in-Ok.ensures ∙ ap (λ (x : Superblock). nothing_out x.pages x.inodes) same) (ap (λ (x : Superblock). x.first_core) same) c.new-3.ensures.items c.new-4.ensures

pub returns-clause-kept : goal.returns-clause-kept
returns-clause-kept c =
    let image = c.args.image in
    let made = c.into_parts-home.result in
    let parts = c.into_parts-home.ensures in
    let same = c.superblock-superblock.ensures.superblock in
    let many : c.len.result ≡ length c.args.libs.items = omega (arith, c.len.ensures, c.args.libs.ok.0) in
    (started image.superblock image.pages (record { home = made.home; root = c.superblock-superblock.result.root; rows = made.rows; owners = made.owners; allotments = c.in-Ok.allotments; checkpoints = c.in-Ok-empty_places.checkpoints }) c.superblock-superblock.result.first_core c.new-3.result.items c.args.libs.items c.new-4.result parts.verified parts.pages (ap (λ (x : Superblock). x.root) same) parts.tables.rows_are parts.tables.owners_are
    (c.in-Ok.ensures ∙ ap (λ (x : Superblock). nothing_out x.pages x.inodes) same) (ap (λ (x : Superblock). x.first_core) same) c.new-3.ensures.items c.new-4.ensures
    c.new-2.result c.in-Ok-empty_places-2.begun.items (c.in-Ok-empty_places.ensures ∙ ap (λ (x : Superblock). replicate (x.inodes + 1) None) same) c.new-2.ensures (c.in-Ok-empty_places-2.ensures ∙ ap (λ n. replicate n None) many) (omega arith) (omega arith)).stored.kept

pub returns-clause-begun : goal.returns-clause-begun
returns-clause-begun c =
    let many : c.len.result ≡ length c.args.libs.items = omega (arith, c.len.ensures, c.args.libs.ok.0) in
    c.in-Ok-empty_places-2.ensures ∙ ap (λ n. replicate n None) many
