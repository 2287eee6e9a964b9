use Rattle.trio_shared_tests.proofs.Words.{desk, library_of, out}
use Rattle.std.proofs.Common.{rules}
use Rattle.trio_shared_tests.proofs.TwoMoves.{given_alone}
use Rattle.trio_shared_tests.proofs.moves.taken.Goals as goal

pub returns-in-Ok-Write-clause-given : goal.returns-in-Ok-Write-clause-given
returns-in-Ok-Write-clause-given g c =
    let old = c.args.seat.now in
    given_alone (library_of old) 3 (desk old).sizes (out old) (out c.grant.new.seat) c.in-Ok-Write.lease c.bundled.result (search rules) (search rules) c.bundled.ensures
