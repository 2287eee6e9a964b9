use Rattle.trio_lease.proofs.Words.{◌≡◌, drop, place_in_files}
use Rattle.trio_lease.proofs.bundle.Bundle.place_of.Given as goal

-- the rest of the leases gives the place
abbrev pub invariant-loop-file : goal.invariant-loop-file
invariant-loop-file l = place_in_files l.file (drop l.file l.self.writes) l.no ≡ place_in_files 0 l.self.writes l.no
