use Rattle.std.proofs.Common.{◌≡◌, ◌≤◌, ◌*◌, length, take}
use Rattle.trio_session.specs.Seen.{pages_shown}
use Rattle.trio_deeds.specs.Names.{names_of_pages}
use Rattle.trio_deeds.proofs.names.names_of.Given as goal

abbrev pub invariant-loop-block : goal.invariant-loop-block
invariant-loop-block l = (l.names.items ≡ names_of_pages (take l.block (pages_shown l.session l.dir))) × (length l.names.items ≤ 16 * l.block)
