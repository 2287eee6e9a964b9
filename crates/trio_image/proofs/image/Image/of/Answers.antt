use Rattle.trio_image.proofs.Words.{IsVerified, Superblock, TablesAre, subst, sym}
use Rattle.trio_image.proofs.Superblocks.{same_superblock, verified_by}
use Rattle.trio_image.proofs.image.Image.of.Goals as goal

pub invariant_of-result : goal.invariant_of-result
invariant_of-result c =
    let made = c.superblock_of-superblock in
    let pages = c.args.parts.home.pages in
    let same = same_superblock c.requires.0 made.result pages c.requires.1.whole.superblock made.ensures.superblock in (
      subst (IsVerified made.result) (sym made.ensures.pages) (verified_by c.requires.0 made.result pages c.requires.1 made.ensures.superblock),
      subst (λ ps. TablesAre made.result ps c.args.parts.rows c.args.parts.owners) (sym made.ensures.pages)
          (subst (λ (x : Superblock). TablesAre x pages c.args.parts.rows c.args.parts.owners) same c.requires.2),
    )

pub returns-clause-verified : goal.returns-clause-verified
returns-clause-verified c =
    let made = c.superblock_of-superblock in
    subst (IsVerified made.result) (sym made.ensures.pages) (verified_by c.requires.0 made.result c.args.parts.home.pages c.requires.1 made.ensures.superblock)

pub returns-clause-superblock : goal.returns-clause-superblock
returns-clause-superblock c =
    let made = c.superblock_of-superblock in
    λ s has. same_superblock made.result s c.args.parts.home.pages made.ensures.superblock has
