-- Pages that fit an image, one after another. Cited by tests alone.
use Rattle.trio_proposal.proofs.Words.{◌-◌}
