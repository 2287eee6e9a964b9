use Rattle.trio_migrate.proofs.Migrating.{migration_keeps}
use Rattle.trio_migrate.proofs.laws.migration_keeps.Goals as goal

pub returns : goal.returns
returns c = migration_keeps
