use Rattle.trio_image.proofs.FileParts.{FileSoFar}
use Rattle.trio_image.proofs.reading.read_file.Given as goal

abbrev pub invariant-loop-i : goal.invariant-loop-i
invariant-loop-i g l = FileSoFar l.name (g.F.Files.seen l.fn.files) (g.F.Files.seen l.files) l.whole.items l.i
