use Rattle.trio_commands.proofs.Ends.{tree_stop}
use Rattle.trio_commands.proofs.telling.tree.Goals as goal

pub returns-in-Err : goal.returns-in-Err
returns-in-Err g c =
    tree_stop c.args.image_name.now c.args.form (g.F.Files.seen c.args.files.now) (g.F.Files.seen c.read_image.new.files) c.in-Err.end.text.items c.in-Err.end.status c.in-Err.ensures.stops c.in-Err.ensures.files
