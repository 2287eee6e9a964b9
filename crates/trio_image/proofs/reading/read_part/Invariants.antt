use Rattle.trio_image.proofs.FileParts.{PartSoFar}
use Rattle.trio_image.proofs.reading.read_part.Given as goal

abbrev pub invariant-loop : goal.invariant-loop
invariant-loop g l = PartSoFar l.name (g.F.Files.seen l.fn.files) (g.F.Files.seen l.files) l.at l.room l.page l.count l.counter
