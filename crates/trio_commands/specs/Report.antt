-- What a report tells of the lines of a library and of an image.
use Rattle.std.specs.Prelude.{ℕ, List, [], ◌∷◌, ◌++◌, map}
use Rattle.trio_image.specs.declared.counts.Counts.{Counts}
use Rattle.trio_script.specs.declared.Lines.{Lines}
use Rattle.trio_script.specs.declared.Lines.TheVariants.{Raw as RawLines, Honest as HonestLines}
use Rattle.trio_report.specs.declared.report.LibraryKind.{LibraryKind}
use Rattle.trio_report.specs.declared.report.LibraryKind.TheVariants.{Raw, Honest}
use Rattle.trio_report.specs.Answers.{answer_line}
use Rattle.trio_report.specs.declared.answer.LineAnswer.{LineAnswer}
use Rattle.trio_report.specs.declared.report.Counts.{Counts as Totals}

-- the counts of an image, as the report tells them
abbrev pub told_counts : Counts → Totals
told_counts counts = record { inodes = counts.inodes; pages = counts.pages; free = counts.free }

-- the answer to each line, behind the line's number
abbrev pub answers_text : List ℕ → List LineAnswer → List ℕ
answers_text (number ∷ numbers) (told ∷ tolds) = answer_line number told ++ answers_text numbers tolds
answers_text _ _ = []

-- the kind of a library, by its lines
abbrev pub kind_of : Lines → LibraryKind
kind_of (RawLines lines) = Raw
kind_of (HonestLines lines) = Honest

-- the numbers of its lines
abbrev pub numbers_of : Lines → List ℕ
numbers_of (RawLines lines) = map (λ l. l.number) lines
numbers_of (HonestLines lines) = map (λ l. l.number) lines
