use Rattle.std.proofs.Common.{◌∙◌, ◌≡◌, List, Option, ap, subst, sym, ℕ}
use Rattle.trio_layout.specs.declared.superblock.Superblock.{Superblock}
use Rattle.trio_state.specs.ImageNodes.{nodes_of}
use Rattle.trio_survey.specs.Stored.{bytes_in, image_in, HasSuperblock}
use Rattle.trio_image.specs.Counts.{counts_of}
use Rattle.trio_image.specs.Image.{ImagePages, IsVerified, TablesAre}
use Rattle.trio_migrate.specs.Migrated.{migrated}
use Rattle.trio_migrate.proofs.Migrating.{counts_kept, kept_by, tables_kept}
use Rattle.trio_migrate.proofs.old_image.OldImage.migrate.Goals as goal

pub of-requires : goal.of-requires
of-requires c =
    let s = c.self.inside.superblock in
    let parts = c.self.inside.parts in
    let k = kept_by s parts.home.pages c.self.invariant.0 in (
      s,
      subst (IsVerified s) (sym c.with_version-home.ensures) k.verified,
      subst (λ ps. TablesAre s ps parts.rows parts.owners) (sym c.with_version-home.ensures) (tables_kept s parts.home.pages c.self.invariant.0 parts.rows parts.owners c.self.invariant.1),
    )

pub returns-clause-superblock : goal.returns-clause-superblock
returns-clause-superblock c =
    let s = c.self.inside.superblock in
    let k = kept_by s c.self.inside.parts.home.pages c.self.invariant.0 in
    c.of.ensures.superblock s (subst (HasSuperblock s) (sym c.with_version-home.ensures) k.verified.whole.superblock)
    ∙ ap (λ (i : ImagePages). i.superblock) c.self.view_is

pub returns-clause-bytes : goal.returns-clause-bytes
returns-clause-bytes c =
    let s = c.self.inside.superblock in
    let k = kept_by s c.self.inside.parts.home.pages c.self.invariant.0 in
    ap bytes_in (c.of.ensures.pages ∙ c.with_version-home.ensures) ∙ k.bytes ∙ ap (λ (i : ImagePages). migrated (bytes_in i.pages)) c.self.view_is

pub returns-clause-counts : goal.returns-clause-counts
returns-clause-counts c =
    let s = c.self.inside.superblock in
    let pages = c.self.inside.parts.home.pages in
    let k = kept_by s pages c.self.invariant.0 in
    let its : c.of.result.superblock ≡ s = c.of.ensures.superblock s (subst (HasSuperblock s) (sym c.with_version-home.ensures) k.verified.whole.superblock) in
    ap (λ (x : Superblock). counts_of (image_in x c.of.result.pages)) its
    ∙ ap (λ (ps : List (Option (List ℕ))). counts_of (image_in s ps)) (c.of.ensures.pages ∙ c.with_version-home.ensures)
    ∙ counts_kept s pages c.self.invariant.0
    ∙ ap (λ (i : ImagePages). counts_of (image_in i.superblock i.pages)) c.self.view_is

pub returns-clause-nodes : goal.returns-clause-nodes
returns-clause-nodes c =
    let s = c.self.inside.superblock in
    let k = kept_by s c.self.inside.parts.home.pages c.self.invariant.0 in
    let its : c.of.result.superblock ≡ s = c.of.ensures.superblock s (subst (HasSuperblock s) (sym c.with_version-home.ensures) k.verified.whole.superblock) in
    ap (λ (x : Superblock). nodes_of (image_in x c.of.result.pages)) its
    ∙ ap (λ (ps : List (Option (List ℕ))). nodes_of (image_in s ps)) (c.of.ensures.pages ∙ c.with_version-home.ensures)
    ∙ k.nodes
    ∙ ap (λ (i : ImagePages). nodes_of (image_in i.superblock i.pages)) c.self.view_is
