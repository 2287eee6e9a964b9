-- How the program ends.
use Rattle.std.specs.Prelude.{ℕ}
use Rattle.trio_commands.specs.declared.status.Status.{Status}
use Rattle.trio_commands.specs.declared.status.Status.TheVariants.{Done, NotVerified, Usage, BadScript, ReadFault, WriteFault, NoMemory, TooLong}

-- the number that the process ends with
abbrev pub code_of : Status → ℕ
code_of Done = 0
code_of NotVerified = 1
code_of Usage = 2
code_of BadScript = 3
code_of ReadFault = 4
code_of WriteFault = 5
code_of NoMemory = 6
code_of TooLong = 7
