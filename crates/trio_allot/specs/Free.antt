-- What is at home, and why nothing is handed out.
use Rattle.std.specs.Prelude.{◌≡◌, ℕ, ◌<◌, ◌≤◌, List, length, Option, None, IsSome, IsTrue, slice_index_or}
use Rattle.trio_rights.specs.declared.rights.LibNo.{LibNo}
use Rattle.trio_nodes.specs.declared.answers.AllotFault.{AllotFault}
use Rattle.trio_nodes.specs.declared.answers.AllotFault.TheVariants.{NoPages, NoInodes, NoMemory}
use Rattle.trio_tables.specs.Free.{is_free_page}

-- each free page of the table is at home
abbrev pub FreeAreHome : List ℕ → List (Option LibNo) → List (Option (List ℕ)) → Type 0
FreeAreHome owners outs pages =
    (n : ℕ) → n < length owners → IsTrue (is_free_page owners outs n) → IsSome (slice_index_or pages n None)

-- Why so many pages weren't handed out where so many are free: the fault has both numbers, and comes where too few are free.
-- Where enough are free it is want of memory.
abbrev pub RefusesPages : ℕ → ℕ → AllotFault → Type 0
RefusesPages n count (NoPages wanted free) = (wanted ≡ n) × (free ≡ count) × (count < n)
RefusesPages n count (NoInodes wanted free) = ⊥
RefusesPages n count NoMemory = n ≤ count

-- the same of inode numbers
abbrev pub RefusesInodes : ℕ → ℕ → AllotFault → Type 0
RefusesInodes n count (NoPages wanted free) = ⊥
RefusesInodes n count (NoInodes wanted free) = (wanted ≡ n) × (free ≡ count) × (count < n)
RefusesInodes n count NoMemory = n ≤ count

-- Why so many pages and inode numbers weren't handed out where so many are free. Pages come first. Where enough of both are free
-- it is want of memory.
abbrev pub RefusesBoth : (pages numbers free_pages free_numbers : ℕ) → AllotFault → Type 0
RefusesBoth pages numbers ps ns (NoPages wanted free) = (wanted ≡ pages) × (free ≡ ps) × (ps < pages)
RefusesBoth pages numbers ps ns (NoInodes wanted free) = (wanted ≡ numbers) × (free ≡ ns) × (pages ≤ ps) × (ns < numbers)
RefusesBoth pages numbers ps ns NoMemory = (pages ≤ ps) × (numbers ≤ ns)
