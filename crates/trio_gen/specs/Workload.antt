-- The generated workload: two scripts, of which the second is played on the image that the first leaves.
use Rattle.std.specs.Prelude.{ℕ, zero, suc, ◌+◌, ◌*◌, ◌%◌, ◌==◌, List, [], ◌∷◌, ◌++◌, length, if◌then◌else◌, codes}
use Rattle.std.specs.Fmt.{decimal}
use Rattle.trio_lists.specs.Lists.{tabulated}
use Rattle.trio_nodes.specs.Walk.{Path}
use Rattle.trio_nodes.specs.declared.call.Call.TheVariants.{Mkdir, Create, Write, Unlink, Rename}
use Rattle.trio_script.specs.declared.honest.HonestLine.{HonestLine}
use Rattle.trio_script.specs.declared.honest.HonestLine.TheVariants.{Call as Calls, Settle}
use Rattle.trio_script.specs.declared.ScriptLine.{ScriptLine}
use Rattle.trio_script.specs.declared.Lines.TheVariants.{Honest}
use Rattle.trio_script.specs.declared.ScriptLib.{ScriptLib}

-- ---- paths

-- the directory of library k: `/dK`
abbrev pub home : ℕ → Path
home k = (codes "d" ++ decimal k) ∷ []

-- a directory in it: `/dK/PART`
abbrev pub part_in : ℕ → List ℕ → Path
part_in k part = (codes "d" ++ decimal k) ∷ part ∷ []

-- file j in that directory: `/dK/PART/fJ`
abbrev pub file_in : ℕ → List ℕ → ℕ → Path
file_in k part j = (codes "d" ++ decimal k) ∷ part ∷ (codes "f" ++ decimal j) ∷ []

-- ---- lines

-- `mkdir PATH 755`
abbrev pub mkdir : Path → HonestLine
mkdir path = Calls (Mkdir path (record { 0 = 493 }))

-- the directories of library k: its own, and `a` and `b` in it
abbrev pub directory_lines : ℕ → List HonestLine
directory_lines k = mkdir (home k) ∷ mkdir (part_in k (codes "a")) ∷ mkdir (part_in k (codes "b")) ∷ []

-- the directories of so many libraries, from the first on
abbrev pub directories_of : ℕ → List HonestLine
directories_of zero = []
directories_of (suc k) = directories_of k ++ directory_lines (k + 1)

-- what file j is written: 1 to 64 letters, in turn from `a` (97) to `z`
abbrev pub file_bytes : ℕ → ℕ → List ℕ
file_bytes number j = tabulated (λ t. 97 + (j + t) % 26) (1 + (number + 977 * j) % 64)

-- what becomes of file j at the end: of five files, the fourth is renamed, the fifth is removed, and the others stay
abbrev pub last_lines : ℕ → ℕ → List HonestLine
last_lines k j =
    if j % 5 == 3 then Calls (Rename (file_in k (codes "a") j) (file_in k (codes "b") j)) ∷ Settle ∷ []
    else if j % 5 == 4 then Calls (Unlink (file_in k (codes "a") j)) ∷ Settle ∷ []
    else []

-- the lines of file j in library k: `create PATH 644`, `write PATH 0 BYTES`, `settle`, and what becomes of it
abbrev pub file_lines : ℕ → ℕ → ℕ → List HonestLine
file_lines number k j =
    Calls (Create (file_in k (codes "a") j) (record { 0 = 420 })) ∷ Calls (Write (file_in k (codes "a") j) 0 (file_bytes number j)) ∷ Settle
    ∷ last_lines k j

-- the lines of library k: those of its files in rising order, where there are so many files in all
abbrev pub library_lines : ℕ → ℕ → ℕ → List HonestLine
library_lines number zero k = []
library_lines number (suc j) k = library_lines number j k ++ (if 1 + j % 4 == k then file_lines number k j else [])

-- the lines of each of so many libraries, from the first on
abbrev pub libraries_lines : ℕ → ℕ → ℕ → List (List HonestLine)
libraries_lines number files zero = []
libraries_lines number files (suc k) = libraries_lines number files k ++ library_lines number files (k + 1) ∷ []

-- ---- scripts

-- lines with their numbers, of which the first is this one
abbrev pub numbered : ℕ → List HonestLine → List (ScriptLine HonestLine)
numbered n [] = []
numbered n (line ∷ lines) = record { number = n; line = line } ∷ numbered (n + 1) lines

-- an honest library of user 0 and group 0, which line n begins, with these lines behind it
abbrev pub library_at : ℕ → List HonestLine → ScriptLib
library_at n lines = record { creds = record { uid = 0; gid = 0 }; lines = Honest (numbered (n + 1) lines) }

-- the line behind libraries with these lines, the first of which line n begins
abbrev pub line_behind : ℕ → List (List HonestLine) → ℕ
line_behind n [] = n
line_behind n (lines ∷ rest) = line_behind (n + 1 + length lines) rest

-- libraries with these lines one after another, the first of which line n begins
abbrev pub libraries_at : ℕ → List (List HonestLine) → List ScriptLib
libraries_at n [] = []
libraries_at n (lines ∷ rest) = library_at n lines ∷ libraries_at (n + 1 + length lines) rest

-- The first script: one library makes the directories of four.
unfoldable pub directories_script : List ScriptLib
directories_script = libraries_at 1 (directories_of 4 ∷ [])

-- The second script: four libraries make so many files, in turn; each writes its files, and renames and removes some.
unfoldable pub files_script : ℕ → ℕ → List ScriptLib
files_script number files = libraries_at 1 (libraries_lines number files 4)
