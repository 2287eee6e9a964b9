use Rattle.trio_script.proofs.Words.{◌≡◌, drop, map}
use Rattle.trio_script.specs.Words.{numbers_of}
use Rattle.trio_script.proofs.Numbers.{behind}
use Rattle.trio_script.proofs.word.read_numbers.Given as goal

abbrev pub invariant-loop-part : goal.invariant-loop-part
invariant-loop-part l = numbers_of (map (λ part. part.now) l.parts) ≡ behind l.numbers.items (numbers_of (map (λ part. part.now) (drop l.part-index l.parts)))
