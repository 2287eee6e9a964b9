use Rattle.trio_raw.proofs.Words.{◌++◌, ◌≡◌, Calls, List, OnList, Shown, back_calls, length, with_reads}
use Rattle.trio_raw.proofs.back.give_all_back.Given as goal

-- what is left is out, and the calls that gave the others back led here
abbrev pub invariant-loop-lease : goal.invariant-loop-lease
invariant-loop-lease g l = record {
  stands : OnList (g.D.Desk.seen l.desk).out l.things.has;
  given : (given : List Shown) × (l.fn.things.has.reads ≡ l.things.has.reads ++ given) × Calls g.D.Desk.called l.fn.desk (back_calls given) l.desk;
  left : l.things.has ≡ with_reads l.fn.things.has l.things.has.reads;
  holds : (g.D.Desk.seen l.desk).out.holds ≡ (g.D.Desk.seen l.fn.desk).out.holds;
  lib : (g.D.Desk.seen l.desk).lib ≡ (g.D.Desk.seen l.fn.desk).lib;
}

abbrev pub decreases-loop-lease : goal.decreases-loop-lease
decreases-loop-lease g l = length l.things.has.reads
