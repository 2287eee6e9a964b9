use Rattle.std.proofs.Common.{◌≡◌, ◌*◌, ◌≤◌, take}
use Rattle.trio_deeds.specs.Reads.{entries_counted}
use Rattle.trio_session.specs.Seen.{pages_shown}
use Rattle.trio_deeds.proofs.reads.entry_count.Given as goal

abbrev pub invariant-loop-block : goal.invariant-loop-block
invariant-loop-block l = (l.count ≡ entries_counted (take l.block (pages_shown l.session l.dir))) × (l.count ≤ 16 * l.block)
