use Rattle.trio_runner.proofs.Logs.{played_is_logged as entries}
use Rattle.trio_runner.proofs.Printed.{played_is_printed as printed}
use Rattle.trio_runner.proofs.laws.played_is_logged.Goals as goal

pub returns : goal.returns
returns c = record { entries = entries; printed = printed }
