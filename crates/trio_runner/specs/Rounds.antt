-- The order in which the libraries of a script take their turns.
use Rattle.std.specs.Prelude.{ℕ, zero, suc, ◌+◌, max, List, [], ◌∷◌, ◌++◌, length, map, Option, None, Some, slice_get}
use Rattle.std.specs.List.{flat_map}
use Rattle.trio_rights.specs.declared.rights.LibNo.{LibNo}
use Rattle.trio_script.specs.declared.Lines.{Lines}
use Rattle.trio_script.specs.declared.Lines.TheVariants.{Raw, Honest}
use Rattle.trio_script.specs.declared.line.RawLine.{RawLine}
use Rattle.trio_script.specs.declared.ScriptLine.{ScriptLine}
use Rattle.trio_script.specs.declared.honest.HonestLine.{HonestLine}
use Rattle.trio_script.specs.declared.ScriptLib.{ScriptLib}

-- a turn of a library: its next line, of a raw or of an honest library, or its end
pub data Turn : Type 0 where
  Says : (line : ScriptLine RawLine) → Turn
  SaysHonest : (line : ScriptLine HonestLine) → Turn
  Ends : Turn

-- a turn, and whose it is
pub record Placed : Type 0 where
  pub lib : LibNo
  pub turn : Turn

-- a turn of library n
abbrev pub placed : ℕ → Turn → Placed
placed n t = record { lib = record { 0 = n }; turn = t }

-- the turns of lines
abbrev pub line_turns : Lines → List Turn
line_turns (Raw lines) = map Says lines
line_turns (Honest lines) = map SaysHonest lines

-- the course of a library: its lines, and then its end
abbrev pub course : ℕ → List Turn → List Placed
course n turns = map (placed n) turns ++ placed n Ends ∷ []

-- the courses of libraries, of which the first has this number
abbrev pub courses_from : ℕ → List ScriptLib → List (List Placed)
courses_from n [] = []
courses_from n (l ∷ libs) = course n (line_turns l.lines) ∷ courses_from (n + 1) libs

-- a turn, where there is one
abbrev pub turn_list : Option Placed → List Placed
turn_list None = []
turn_list (Some t) = t ∷ []

-- A round, counted from 0: each library's turn of that number, in the order of the libraries. One that has ended is passed over.
abbrev pub round_of : ℕ → List (List Placed) → List Placed
round_of k courses = flat_map (λ turns. turn_list (slice_get turns k)) courses

-- so many rounds from the first on
abbrev pub in_rounds : ℕ → List (List Placed) → List Placed
in_rounds zero courses = []
in_rounds (suc k) courses = in_rounds k courses ++ round_of k courses

-- the length of the longest list
abbrev pub longest : {X : Type 0} → List (List X) → ℕ
longest [] = 0
longest (xs ∷ xss) = max (length xs) (longest xss)

-- all turns of a script, in the order in which they are taken: as many rounds as the longest course has turns
abbrev pub turns_of : List ScriptLib → List Placed
turns_of libs = (let courses = courses_from 1 libs in in_rounds (longest courses) courses)
