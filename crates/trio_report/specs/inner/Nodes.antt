-- Files whose lines are still to come. Cited by private functions alone.
use Rattle.std.specs.Prelude.{◌≡◌, ℕ, ◌+◌, nat_lt, List, [], ◌∷◌, ◌++◌, map, reverse, if◌then◌else◌, Result, Ok, Err}
use Rattle.trio_layout.specs.Core.{Location}
use Rattle.trio_layout.specs.Entries.{Listed}
use Rattle.trio_layout.specs.Survey.{Met, FileRead, met_in, plain}
use Rattle.trio_survey.specs.Seen.{met_seen}
use Rattle.trio_layout.specs.Tree.{TreeLine, by_name, told_line}
use Rattle.trio_report.specs.declared.tree.Unprinted.{Unprinted}
use Rattle.trio_report.specs.Seen.{name_seen}

-- a file in a tree: how deep, by which name, and what its directory says of it
pub record Node : Type 0 where
  pub depth : ℕ
  pub name : List ℕ
  pub met : Met

abbrev pub node_seen : Unprinted → Node
node_seen p = record { depth = p.depth; name = name_seen p.name; met = met_seen p.met }

-- a file that another lists
abbrev pub child_of : Node → Listed → Node
child_of n l = record { depth = n.depth + 1; name = l.entry.name; met = met_in plain n.met.ino l }

-- the files that one lists, the last name first
abbrev pub children_of : Node → List Listed → List Node
children_of n ls = reverse (map (child_of n) (by_name ls))

-- those whose depth is at most the last
abbrev pub below : ℕ → Node → FileRead → List Node
below last n f = if nat_lt n.depth last then children_of n f.entries else []

-- One file was visited: nothing changes where it can't be read. Else its line is told, and the files that it lists wait, with the first name at the end.
abbrev pub Visited : ℕ → Node → Result FileRead Location → List Node → List Node → List TreeLine → List TreeLine → Type 0
Visited last n (Err place) old new told told' = (new ≡ old) × (told' ≡ told)
Visited last n (Ok f) old new told told' =
    (new ≡ old ++ below last n f) × (told' ≡ told ++ told_line n.depth n.name n.met.kind f ∷ [])
