-- What a script says, line by line.
use Rattle.std.specs.Prelude.{◌≡◌, ℕ, ◌+◌, ◌==◌, nat_lt, Bool, true, false, ◌&&◌, List, [], ◌∷◌, ◌++◌, length, Option, None, Some, is_some, if◌then◌else◌, codes, take, ⊤}
use Rattle.std.specs.List.{list_any}
use Rattle.std.specs.Option.{option_map}
use Rattle.std.specs.Str.{bytes_eq}
use Rattle.trio_script.specs.declared.library.LibKind.{LibKind}
use Rattle.trio_script.specs.declared.library.LibKind.TheVariants.{Raw as RawKind, Honest as HonestKind}
use Rattle.trio_script.specs.declared.library.LibLine.{LibLine}
use Rattle.trio_script.specs.declared.ScriptLine.{ScriptLine}
use Rattle.trio_script.specs.declared.Lines.{Lines}
use Rattle.trio_script.specs.declared.Lines.TheVariants.{Raw, Honest}
use Rattle.trio_script.specs.declared.ScriptLib.{ScriptLib}
use Rattle.trio_script.specs.declared.ScriptFault.{ScriptFault}
use Rattle.trio_script.specs.declared.ScriptFault.TheVariants.{BadLine, NoMemory}
use Rattle.trio_script.specs.Said.{library_said, line_said}
use Rattle.trio_script.specs.Honest.{honest_said}

-- The bytes cut at each line end (10), which belongs to no line. What follows the last line end is a line where it has bytes.
abbrev pub cut_lines : List ℕ → List ℕ → List (List ℕ)
cut_lines line [] = if length line == 0 then [] else line ∷ []
cut_lines line (b ∷ bytes) = if b == 10 then line ∷ cut_lines [] bytes else cut_lines (line ++ b ∷ []) bytes

-- the lines of a script
abbrev pub lines_of : List ℕ → List (List ℕ)
lines_of bytes = cut_lines [] bytes

-- a line without bytes and one that begins with `#` (35) say nothing
abbrev pub is_silent : List ℕ → Bool
is_silent [] = true
is_silent (b ∷ bytes) = b == 35

-- the line names a library: it begins with `lib` and a space
abbrev pub names_library : List ℕ → Bool
names_library line = bytes_eq (take 4 line) (codes "lib ")

-- the line begins the library after `begun` others, of at most 16 in all
abbrev pub is_next : ℕ → Option LibLine → Bool
is_next begun (Some line) = nat_lt begun 16 && line.number == begun + 1
is_next begun None = false

-- the line has one of the forms of the lines of a library of this kind, if a library began
abbrev pub has_form : Option LibKind → List ℕ → Bool
has_form (Some RawKind) line = is_some (line_said line)
has_form (Some HonestKind) line = is_some (honest_said line)
has_form None line = false

-- A line that says something is good behind `begun` libraries, the last of this kind: where it names a library, it begins the
-- next one, and else it has a form of that kind.
abbrev pub is_good : ℕ → Option LibKind → List ℕ → Bool
is_good begun kind line = if names_library line then is_next begun (library_said line) else has_form kind line

-- how many libraries began with this line, where it is good and `begun` began before it
abbrev pub begun_with : ℕ → List ℕ → ℕ
begun_with begun line = if names_library line then begun + 1 else begun

-- the kind of the library that began last, where it was this kind before the line
abbrev pub kind_with : Option LibKind → List ℕ → Option LibKind
kind_with kind line = if names_library line then option_map (λ l. l.kind) (library_said line) else kind

-- the number of the first line from `number` on that is bad, where `begun` libraries began before, the last of this kind
abbrev pub first_bad : ℕ → ℕ → Option LibKind → List (List ℕ) → Option ℕ
first_bad number begun kind [] = None
first_bad number begun kind (line ∷ lines) =
    if nat_lt 16384 number then Some number else
    (if is_silent line then first_bad (number + 1) begun kind lines else
    (if is_good begun kind line then first_bad (number + 1) (begun_with begun line) (kind_with kind line) lines else Some number))

-- a line says which library it begins, whether that is the next one or not
abbrev pub says_library : List ℕ → Bool
says_library line = is_some (library_said line)

-- The number of a script's first bad line, counted from 1. A script in which no line says which library it begins is bad at line 1.
abbrev pub bad_line : List ℕ → Option ℕ
bad_line script =
    let lines = lines_of script in
    if list_any says_library lines then first_bad 1 0 None lines else Some 1

-- this line is the first bad one, or there was no memory to read the script
abbrev pub IsFault : List ℕ → ScriptFault → Type 0
IsFault script (BadLine number) = bad_line script ≡ Some number
IsFault script NoMemory = ⊤

-- what a line says, with its number, where it has a form
abbrev pub said_at : {L : Type 0} → ℕ → Option L → List (ScriptLine L)
said_at number (Some line) = record { number = number; line = line } ∷ []
said_at number None = []

-- the lines of one library, from `number` on: those of which `said` tells something, up to the next line that names a library
abbrev pub own_lines : {L : Type 0} → (List ℕ → Option L) → ℕ → List (List ℕ) → List (ScriptLine L)
own_lines said number [] = []
own_lines said number (line ∷ lines) = if names_library line then [] else said_at number (said line) ++ own_lines said (number + 1) lines

-- the lines of one library of this kind
abbrev pub lines_in : LibKind → ℕ → List (List ℕ) → Lines
lines_in RawKind number lines = Raw (own_lines line_said number lines)
lines_in HonestKind number lines = Honest (own_lines honest_said number lines)

-- the library that a line begins, with its lines from `number` on
abbrev pub lib_with : Option LibLine → ℕ → List (List ℕ) → List ScriptLib
lib_with (Some line) number lines = record { creds = line.creds; lines = lines_in line.kind number lines } ∷ []
lib_with None number lines = []

-- the libraries that begin from line `number` on
abbrev pub libs_from : ℕ → List (List ℕ) → List ScriptLib
libs_from number [] = []
libs_from number (line ∷ lines) =
    if names_library line then lib_with (library_said line) (number + 1) lines ++ libs_from (number + 1) lines else libs_from (number + 1) lines

-- The libraries of a script, in their order: each with the credentials and the kind of its line, and with the lines from there up
-- to the next library's, by their numbers, counted from 1. Where no line is bad, these are all lines that say something.
abbrev pub script_libs : List ℕ → List ScriptLib
script_libs script = libs_from 1 (lines_of script)
