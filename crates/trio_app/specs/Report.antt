-- The report of a run, by the image that is settled at its end.
use Rattle.std.specs.Prelude.{ℕ, ◌+◌, List, [], ◌∷◌, ◌++◌, Option, None, Some}
use Rattle.trio_layout.specs.Image.{Image}
use Rattle.trio_layout.specs.Tree.{tree_of}
use Rattle.trio_image.specs.Counts.{counts_of}
use Rattle.trio_script.specs.declared.ScriptLib.{ScriptLib}
use Rattle.trio_report.specs.declared.report.EndAnswer.{EndAnswer}
use Rattle.trio_report.specs.Report.{counts_text, end_line, lib_heading, tree_text}
use Rattle.trio_runner.specs.Play.{Heard}
use Rattle.trio_commands.specs.Report.{told_counts, answers_text, kind_of, numbers_of}

-- the line that tells a library's end, once it has come
abbrev pub ended_text : Option EndAnswer → List ℕ
ended_text None = []
ended_text (Some end) = end_line end

-- the part on library n: its heading, the answers to its lines, and that of its end
abbrev pub lib_text : ℕ → ScriptLib → Heard → List ℕ
lib_text n lib heard = lib_heading n (kind_of lib.lines) ++ answers_text (numbers_of lib.lines) heard.answers ++ ended_text heard.end

-- the parts on libraries, of which the first has this number, in their order
abbrev pub libs_text : ℕ → List ScriptLib → List Heard → List ℕ
libs_text n (lib ∷ libs) (heard ∷ heards) = lib_text n lib heard ++ libs_text (n + 1) libs heards
libs_text n _ _ = []

-- the parts on all libraries, then the tree and the counts
abbrev pub report_text : List ScriptLib → List Heard → Image → List ℕ
report_text libs heards image = libs_text 1 libs heards ++ tree_text (tree_of image.core) ++ counts_text (told_counts (counts_of image))
