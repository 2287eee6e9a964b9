use Rattle.trio_raw.proofs.Words.{◌≡◌, drop, is_among, list_all}
use Rattle.std.proofs.Common.{◌||◌, map}
use Rattle.trio_raw.proofs.lent.have_either.Given as goal

-- what is left is there exactly where all is
abbrev pub invariant-loop-number : goal.invariant-loop-number
invariant-loop-number g l = list_all (λ n. is_among n (map g.T.Lent.number_of l.things) || is_among n (map g.U.Lent.number_of l.others)) (drop l.number-index l.numbers) ≡ list_all (λ n. is_among n (map g.T.Lent.number_of l.things) || is_among n (map g.U.Lent.number_of l.others)) l.numbers
