use Rattle.trio_commands.proofs.OldStops.{old_image_stops}
use Rattle.trio_commands.proofs.migrating.read_old.Goals as goal

pub returns-in-Err-clause-stops : goal.returns-in-Err-clause-stops
returns-in-Err-clause-stops g c =
    old_image_stops c.args.name.now (g.F.Files.seen c.args.files.now) (g.F.Files.seen c.load_old.new.files) c.in-Err.fault c.outcome.result.text.items c.outcome.result.status
    c.in-Err.ensures.fault (rw c.of_loading.ensures at c.outcome.ensures)
