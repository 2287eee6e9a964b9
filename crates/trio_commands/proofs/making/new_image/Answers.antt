use Rattle.std.proofs.Common.{◌∙◌, ap}
use Rattle.trio_image.specs.declared.counts.Counts.{Counts}
use Rattle.trio_commands.specs.Lines.{made_line}
use Rattle.trio_commands.proofs.Ends.{new_saved}
use Rattle.trio_commands.proofs.making.new_image.Goals as goal

pub returns-in-Ok-made_line : goal.returns-in-Ok-made_line
returns-in-Ok-made_line g c =
    let line = c.in-Ok-made_line.ensures in
    let counted = c.counts.ensures ∙ c.in-Ok.ensures.counts in
    new_saved c.args.out_name.now c.args.pages c.args.inodes (g.F.Files.seen c.args.files.now) (g.F.Files.seen c.save_image.new.files) c.in-Ok.image.superblock c.in-Ok.image.pages c.in-Ok-made_line.text.items
    c.in-Ok.ensures.size c.in-Ok.ensures.image (line ∙ ap (λ (counts : Counts). made_line c.args.pages c.args.inodes counts.free) counted) c.save_image.ensures.files
    c.save_image.result.text.items c.save_image.result.status c.save_image.ensures.end
