-- The limits of the calls that honest lines make: what is read of a script is within them.
use Rattle.std.specs.Prelude.{◌≤◌, List, length, ⊤}
use Rattle.std.specs.List.{AllByRecursion}
use Rattle.trio_nodes.specs.declared.call.Call.{Call}
use Rattle.trio_nodes.specs.declared.call.Call.TheVariants.{Mkdir, Create, Write, Read, Chmod, Symlink}
use Rattle.trio_script.specs.declared.honest.HonestLine.{HonestLine}
use Rattle.trio_script.specs.declared.honest.HonestLine.TheVariants.{Call as Calls, Settle}
use Rattle.trio_script.specs.declared.Lines.{Lines}
use Rattle.trio_script.specs.declared.Lines.TheVariants.{Raw, Honest}
use Rattle.trio_script.specs.declared.ScriptLib.{ScriptLib}

-- a call reads or writes at most 4096 bytes, its mode is at most 511, which is 0o777, and the text of a link has 1 to 4096 bytes
abbrev pub IsWithin : Call → Type 0
IsWithin (Write path at bytes) = length bytes ≤ 4096
IsWithin (Read path at len) = len ≤ 4096
IsWithin (Mkdir path mode) = mode.0 ≤ 511
IsWithin (Create path mode) = mode.0 ≤ 511
IsWithin (Chmod path mode) = mode.0 ≤ 511
IsWithin (Symlink path text) = (1 ≤ length text) × (length text ≤ 4096)
IsWithin call = ⊤

-- a line's call is within the limits; a settle makes none
abbrev pub SaysWithin : HonestLine → Type 0
SaysWithin (Calls call) = IsWithin call
SaysWithin Settle = ⊤

-- the calls of an honest library's lines are within the limits; a raw library makes none
abbrev pub LinesWithin : Lines → Type 0
LinesWithin (Raw lines) = ⊤
LinesWithin (Honest lines) = AllByRecursion (λ l. SaysWithin l.line) lines

-- each call of an honest line of these libraries is within the limits
abbrev pub AreWithin : List ScriptLib → Type 0
AreWithin libs = AllByRecursion (λ l. LinesWithin l.lines) libs
