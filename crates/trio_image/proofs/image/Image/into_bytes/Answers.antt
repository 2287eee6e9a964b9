use Rattle.trio_layout.specs.Superblock.{current_version}
use Rattle.trio_image.proofs.Images.{again, bytes_verify}
use Rattle.trio_image.proofs.image.Image.into_bytes.Goals as goal

pub returns-clause-verify : goal.returns-clause-verify
returns-clause-verify c = bytes_verify c.args.self.superblock c.args.self.pages c.into_home.ensures.verified

pub returns-clause-again : goal.returns-clause-again
returns-clause-again c = again current_version c.args.self.superblock c.args.self.pages c.into_home.ensures.verified.whole
