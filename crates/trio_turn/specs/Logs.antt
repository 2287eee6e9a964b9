-- Lists of entries.
use Rattle.std.specs.Prelude.{◌≡◌, ◌⊎◌, ℕ, ◌==◌, List, ◌++◌, filter, All}
use mathlib.Core.List.{IsPrefix}
use Rattle.trio_nodes.specs.declared.entry.Entry.{Entry}
use Rattle.trio_nodes.specs.declared.entry.Entry.TheVariants.{Grant, Allot, Back, Raw, Batch, Mode}

-- the number of the library whose call made an entry
abbrev pub maker : Entry → ℕ
maker (Grant lib ino kind answer) = lib.0
maker (Allot lib pages inodes answer) = lib.0
maker (Back lib ino) = lib.0
maker (Raw lib verdict files bundle) = lib.0
maker (Batch lib calls handed) = lib.0
maker (Mode lib ino mode answer call) = lib.0

-- the entries that a library made
abbrev pub made_by : ℕ → List Entry → List Entry
made_by l log = filter (λ e. maker e == l) log

-- the list grew by entries of one library
abbrev pub GrewBy : ℕ → List Entry → List Entry → Type 0
GrewBy l old new = (added : List Entry) × (old ++ added ≡ new) × All (λ (e : Entry). maker e ≡ l) added

-- one list begins the other
abbrev pub IsInLine : List Entry → List Entry → Type 0
IsInLine xs ys = IsPrefix xs ys ⊎ IsPrefix ys xs
