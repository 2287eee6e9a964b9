-- The tree as JSON. How a JSON value is printed is `serde_json`'s own `compact_text`, which has no space.
use Rattle.std.specs.Prelude.{ℕ, List, ◌++◌, codes, map}
use Rattle.serde_json.specs.Data.{Data, number, unsigned, string, array, object, member, no_members}
use Rattle.serde_json.specs.View.{items_of}
use Rattle.serde_json.specs.Written.{compact_text}
use Rattle.trio_names.specs.Escaped.{escaped_of}
use Rattle.trio_rights.specs.Kind.{letter}
use Rattle.trio_layout.specs.Tree.{TreeLine}
use Rattle.trio_report.specs.Octal.{octal_of}

-- a file as an object: kind, mode and name are texts, as the tree's text has them, and the keys are in byte order
abbrev pub json_of_line : TreeLine → Data
json_of_line l =
    object (member (codes "depth") (number (unsigned l.depth)) (member (codes "gid") (number (unsigned l.gid))
    (member (codes "kind") (string (letter l.kind)) (member (codes "mode") (string (octal_of l.mode.0))
    (member (codes "name") (string (escaped_of l.name)) (member (codes "size") (number (unsigned l.size))
    (member (codes "uid") (number (unsigned l.uid)) no_members)))))))

-- the files as an array, in the order of the tree's text
abbrev pub json_of_lines : List TreeLine → Data
json_of_lines lines = array (items_of (map json_of_line lines))

-- the tree as JSON: the array, and a line end
abbrev pub tree_json : List TreeLine → List ℕ
tree_json lines = compact_text (json_of_lines lines) ++ codes "\n"
