use Rattle.std.proofs.Common.{◌∙◌, ap}
use Rattle.trio_commands.specs.Lines.{migrated_line}
use Rattle.trio_commands.specs.Report.{told_counts}
use Rattle.trio_commands.proofs.OldStops.{migrate_saved, migrate_stop}
use Rattle.trio_commands.proofs.migrating.migrate.Goals as goal

pub returns-in-Err : goal.returns-in-Err
returns-in-Err g c =
    migrate_stop c.args.image_name.now c.args.out_name.now (g.F.Files.seen c.args.files.now) (g.F.Files.seen c.read_old.new.files) c.in-Err.end.text.items c.in-Err.end.status c.in-Err.ensures.stops c.in-Err.ensures.files

pub returns-in-Ok-migrated_line : goal.returns-in-Ok-migrated_line
returns-in-Ok-migrated_line g c =
    let line = c.in-Ok-migrated_line.ensures ∙ ap migrated_line (c.told_counts.ensures ∙ ap told_counts c.migrate-image.ensures.counts) in
    migrate_saved c.args.image_name.now c.args.out_name.now (g.F.Files.seen c.args.files.now) (g.F.Files.seen c.read_old.new.files) (g.F.Files.seen c.save_image.new.files) c.in-Ok.old.superblock c.in-Ok.old.pages c.migrate-image.result.pages c.in-Ok-migrated_line.text.items
    c.in-Ok.ensures.image line c.migrate-image.ensures.bytes c.in-Ok.ensures.files c.save_image.ensures.files
    c.save_image.result.text.items c.save_image.result.status c.save_image.ensures.end
