use Rattle.trio_commands.proofs.Stops.{inputs_stop, script_stop}
use Rattle.trio_commands.proofs.inputs.read_inputs.Goals as goal

pub returns-in-Err-clause-stops : goal.returns-in-Err-clause-stops
returns-in-Err-clause-stops g c =
    inputs_stop c.args.image_name.now c.args.script_name.now (g.F.Files.seen c.args.files.now) (g.F.Files.seen c.read_image.new.files) c.in-Err.end.text.items c.in-Err.end.status c.in-Err.ensures.stops

pub returns-in-Err-input_script-clause-stops : goal.returns-in-Err-input_script-clause-stops
returns-in-Err-input_script-clause-stops g c =
    script_stop c.args.image_name.now c.args.script_name.now (g.F.Files.seen c.args.files.now) (g.F.Files.seen c.read_image.new.files) (g.F.Files.seen c.input_script.new.files) c.in-Ok.image.superblock c.in-Ok.image.pages
    c.in-Err-input_script.stop c.outcome.result.text.items c.outcome.result.status c.in-Ok.ensures.image c.in-Ok.ensures.files c.in-Err-input_script.ensures.stops c.outcome.ensures

pub returns-in-Ok-input_script-clause-script : goal.returns-in-Ok-input_script-clause-script
returns-in-Ok-input_script-clause-script g c =
    let libs = c.in-Ok-input_script.ensures.script in
    record {
      read = record { script_bytes = libs.read.script_bytes; script_is = rw (← c.in-Ok.ensures.files.held) libs.read.script_is; within = libs.read.within; good = libs.read.good };
      libs_are = libs.libs_are;
      some = libs.some;
      few = libs.few;
      limits = libs.limits;
    }
