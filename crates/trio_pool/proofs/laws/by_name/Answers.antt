use Rattle.trio_pool.proofs.LineLaws.{by_name}
use Rattle.trio_pool.proofs.laws.by_name.Goals as goal

pub returns : goal.returns
returns g c = record { law = by_name }
