use Rattle.trio_app.proofs.Words.{TurnsDone}
use Rattle.trio_app.proofs.Ends.{inputs_stop_it, turns_saved}
use Rattle.trio_app.proofs.turns.turns.Goals as goal

pub returns-in-Err : goal.returns-in-Err
returns-in-Err g c =
    let old = g.F.Files.seen c.args.files.now in
    let new = g.F.Files.seen c.read_inputs.new.files in
    inputs_stop_it (TurnsDone c.args.image_name.now c.args.script_name.now c.args.out_name.now old new c.in-Err.end.text.items) c.args.image_name.now c.args.script_name.now c.args.out_name.now old new c.in-Err.end.text.items c.in-Err.end.status
    c.in-Err.ensures.stops c.in-Err.ensures.files

pub returns-in-Ok-run_in_turns : goal.returns-in-Ok-run_in_turns
returns-in-Ok-run_in_turns g c =
    let read = c.in-Ok.ensures in
    let ran = c.in-Ok-run_in_turns.ensures in
    let end = rw c.deref.ensures.value at ran in
    turns_saved c.args.image_name.now c.args.script_name.now c.args.out_name.now (g.F.Files.seen c.args.files.now) (g.F.Files.seen c.read_inputs.new.files) (g.F.Files.seen c.save_image.new.files) c.in-Ok.inputs.0.superblock c.in-Ok.inputs.0.pages
    c.in-Ok-run_in_turns.end.image.pages c.in-Ok.inputs.1.items c.in-Ok-run_in_turns.end.report.items read.image read.script read.files c.save_image.ensures.files c.save_image.result.text.items c.save_image.result.status end c.save_image.ensures.end
