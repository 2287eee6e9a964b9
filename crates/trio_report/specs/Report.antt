-- The report as text.
use Rattle.std.specs.Prelude.{ℕ, List, ◌++◌, codes}
use Rattle.std.specs.List.{flat_map}
use Rattle.std.specs.Fmt.{decimal}
use Rattle.trio_names.specs.Escaped.{escaped_of}
use Rattle.trio_rights.specs.Kind.{letter}
use Rattle.trio_layout.specs.Tree.{TreeLine}
use Rattle.trio_report.specs.Answers.{refused_text, settled_text}
use Rattle.trio_report.specs.Octal.{octal_of}
use Rattle.trio_report.specs.declared.report.Counts.{Counts}
use Rattle.trio_report.specs.declared.report.LibraryKind.{LibraryKind}
use Rattle.trio_report.specs.declared.report.LibraryKind.TheVariants.{Raw, Honest}
use Rattle.trio_report.specs.declared.report.EndAnswer.{EndAnswer}
use Rattle.trio_report.specs.declared.report.EndAnswer.TheVariants.{Nothing, Accepted, Refused, Settled}

-- the root's name is printed as the slash that it is, every other name escaped, which a slash in no name needs
abbrev pub tree_line : TreeLine → List ℕ
tree_line l =
    decimal l.depth ++ codes " " ++ letter l.kind ++ codes " " ++ octal_of l.mode.0 ++ codes " " ++ decimal l.uid
    ++ codes " " ++ decimal l.gid ++ codes " " ++ decimal l.size ++ codes " " ++ escaped_of l.name ++ codes "\n"

-- the tree as text, a line for each file
abbrev pub tree_lines_text : List TreeLine → List ℕ
tree_lines_text lines = flat_map tree_line lines

-- the tree in a report, behind a line that says so
abbrev pub tree_text : List TreeLine → List ℕ
tree_text lines = codes "tree\n" ++ tree_lines_text lines

-- live inode numbers, core pages that files own, and free core pages
abbrev pub counts_text : Counts → List ℕ
counts_text c = codes "inodes " ++ decimal c.inodes ++ codes " pages " ++ decimal c.pages ++ codes " free " ++ decimal c.free ++ codes "\n"

-- the word for a library's kind
abbrev pub library_word : LibraryKind → List ℕ
library_word Raw = codes "raw"
library_word Honest = codes "honest"

-- the line that begins the report on a library
abbrev pub lib_heading : ℕ → LibraryKind → List ℕ
lib_heading number kind = codes "lib " ++ decimal number ++ codes " " ++ library_word kind ++ codes "\n"

-- the words for what a library's end is answered
abbrev pub end_text : EndAnswer → List ℕ
end_text Nothing = codes "nothing"
end_text Accepted = codes "accepted"
end_text (Refused rule) = refused_text rule
end_text (Settled count) = settled_text count

-- the line that ends the report on a library
abbrev pub end_line : EndAnswer → List ℕ
end_line answer = codes "end " ++ end_text answer ++ codes "\n"
