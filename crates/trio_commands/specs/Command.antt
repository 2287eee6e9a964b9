-- The words, as commands. A later command is a constructor, a case of `command_of` and a case of `ComesTo`.
use Rattle.std.specs.Prelude.{ℕ, if◌then◌else◌, nat_le, ◌&&◌, List, [], ◌∷◌, Option, None, Some, codes}
use Rattle.std.specs.Str.{bytes_eq}
use Rattle.trio_script.specs.Words.{number_of}
use Rattle.trio_commands.specs.declared.words.TreeForm.{TreeForm}
use Rattle.trio_commands.specs.declared.words.TreeForm.TheVariants.{Lines, Json}

-- what the words of the command line ask for
pub data Command : Type 0 where
  -- OUT, PAGES and INODES
  new_image : List ℕ → ℕ → ℕ → Command
  -- IMAGE
  check : List ℕ → Command
  -- IMAGE, and the form in which its tree is put
  tree : List ℕ → TreeForm → Command
  -- IMAGE, SCRIPT and OUT
  turns : List ℕ → List ℕ → List ℕ → Command
  -- IMAGE, SCRIPT and OUT, and WORKERS where they are given
  run : List ℕ → List ℕ → List ℕ → Option ℕ → Command
  -- NUMBER and FILES
  gen : ℕ → ℕ → Command
  -- IMAGE and OUT
  migrate : List ℕ → List ℕ → Command
  help : Command
  version : Command
  -- no command of the table
  unknown : Command

-- `new` with the numbers that its words are
abbrev pub new_of : List ℕ → Option ℕ → Option ℕ → Command
new_of out (Some pages) (Some inodes) = new_image out pages inodes
new_of out _ _ = unknown

-- `gen` with the numbers that its words are, the second of which is 1 to 1000
abbrev pub gen_of : Option ℕ → Option ℕ → Command
gen_of (Some number) (Some files) = if nat_le 1 files && nat_le files 1000 then gen number files else unknown
gen_of _ _ = unknown

-- `run` with the number of workers that its last word is, which is 1 to 8
abbrev pub run_of : List ℕ → List ℕ → List ℕ → Option ℕ → Command
run_of image script out (Some workers) = if nat_le 1 workers && nat_le workers 8 then run image script out (Some workers) else unknown
run_of image script out None = unknown

-- `--help`, `--version`
abbrev pub command_of_one : List ℕ → Command
command_of_one word = if bytes_eq word (codes "--help") then help else if bytes_eq word (codes "--version") then version else unknown

-- `check IMAGE`, `tree IMAGE`
abbrev pub command_of_two : List ℕ → List ℕ → Command
command_of_two word image = if bytes_eq word (codes "check") then check image else if bytes_eq word (codes "tree") then tree image Lines else unknown

-- `tree IMAGE json`, `gen NUMBER FILES`, `migrate IMAGE OUT`
abbrev pub command_of_three : List ℕ → List ℕ → List ℕ → Command
command_of_three word first second =
    if bytes_eq word (codes "tree") then (if bytes_eq second (codes "json") then tree first Json else unknown)
    else if bytes_eq word (codes "gen") then gen_of (number_of first) (number_of second)
    else if bytes_eq word (codes "migrate") then migrate first second
    else unknown

-- `new OUT PAGES INODES`, `turns IMAGE SCRIPT OUT`, `run IMAGE SCRIPT OUT`
abbrev pub command_of_four : List ℕ → List ℕ → List ℕ → List ℕ → Command
command_of_four word first second third =
    if bytes_eq word (codes "new") then new_of first (number_of second) (number_of third)
    else if bytes_eq word (codes "turns") then turns first second third
    else if bytes_eq word (codes "run") then run first second third None
    else unknown

-- `run IMAGE SCRIPT OUT WORKERS`
abbrev pub command_of_five : List ℕ → List ℕ → List ℕ → List ℕ → List ℕ → Command
command_of_five word first second third fourth = if bytes_eq word (codes "run") then run_of first second third (number_of fourth) else unknown

-- The command that words are.
abbrev pub command_of : List (List ℕ) → Command
command_of (word ∷ []) = command_of_one word
command_of (word ∷ first ∷ []) = command_of_two word first
command_of (word ∷ first ∷ second ∷ []) = command_of_three word first second
command_of (word ∷ first ∷ second ∷ third ∷ []) = command_of_four word first second third
command_of (word ∷ first ∷ second ∷ third ∷ fourth ∷ []) = command_of_five word first second third fourth
command_of words = unknown

-- The command where no thread may be started: a run is none then.
abbrev pub without_threads : Command → Command
without_threads (run image script out workers) = unknown
without_threads command = command
