use Rattle.trio_judge.proofs.Words.{arith}
use Rattle.trio_judge.proofs.verdict.RoomMemory.with.Goals as goal

pub returns : goal.returns
returns c = λ k fits core. record {
  pages = c.in_ok-with.ensures k fits core;
  walk = c.in_ok-with-2.ensures k fits;
  heads = omega (arith, fits.pages, c.in_ok-with_capacity.ensures.capacity);
  no_heads = c.in_ok-with_capacity.ensures.items;
}
