use Rattle.trio_session.proofs.Words.{◌≤◌, arith}
use Rattle.trio_session.proofs.SlotBytes.{entry_fits-every}
use Rattle.trio_session.proofs.dir_slots.spelled.Goals as goal

pub returns-clause-fits : goal.returns-clause-fits
returns-clause-fits c =
    let narrow : c.args.entry.now.ino ≤ 4294967295 = omega arith in
    entry_fits-every c.args.entry.now narrow c.as_bytes-name.ensures.name
