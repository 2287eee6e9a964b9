use Rattle.trio_commands.proofs.Stops.{image_stops}
use Rattle.trio_commands.proofs.images.read_image.Goals as goal

pub returns-in-Err-clause-stops : goal.returns-in-Err-clause-stops
returns-in-Err-clause-stops g c =
    image_stops c.args.name.now (g.F.Files.seen c.args.files.now) (g.F.Files.seen c.load.new.files) c.in-Err.fault c.outcome.result.text.items c.outcome.result.status
    c.in-Err.ensures.fault (rw c.of_loading.ensures at c.outcome.ensures)
