use Rattle.trio_commands.proofs.inputs.input_script.Goals as goal

pub returns-in-Ok-read_script-clause-script : goal.returns-in-Ok-read_script-clause-script
returns-in-Ok-read_script-clause-script g c =
    let read = c.in-Ok-read_script.ensures in
    record {
      read = record { script_bytes = c.in-Ok.bytes.items; script_is = c.in-Ok.ensures.bytes; within = c.in-Ok.ensures.no_longer; good = rw c.deref.ensures.value at read.good };
      libs_are = rw c.deref.ensures.value at read.libs;
      some = read.some;
      few = read.few;
      limits = read.within;
    }
