-- The names of a tree as its lines have them.
use Rattle.std.specs.Prelude.{ℕ, List, [], ◌∷◌}
use Rattle.trio_report.specs.declared.line.TreeName.{TreeName}
use Rattle.trio_report.specs.declared.line.TreeName.TheVariants.{Root, Entry}

-- a name; the root's is a slash
abbrev pub name_seen : TreeName → List ℕ
name_seen Root = 47 ∷ []
name_seen (Entry name) = name
