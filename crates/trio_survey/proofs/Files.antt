-- A file by its pages and what is kept of its blocks.
use Rattle.trio_survey.proofs.Words.{◌≡◌, Core, Directory, Kind, Link, List, Regular, entries_of, entries_of_kind, listing_blocks, refl, ℕ}

-- the entries of a file are those of the blocks in which it lists any
pub listed_by_kind : (core : Core) (kind : Kind) (blocks : List ℕ) → entries_of core (listing_blocks kind blocks) ≡ entries_of_kind core kind blocks
listed_by_kind core Regular blocks = refl
listed_by_kind core Directory blocks = refl
listed_by_kind core Link blocks = refl
