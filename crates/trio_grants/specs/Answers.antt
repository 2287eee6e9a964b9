-- What `admit` answers.
use Rattle.std.specs.Prelude.{◌≡◌, ℕ, Bool, List, Some, None, Result, Ok, Err}
use Rattle.std.specs.Option.{option_map}
use Rattle.trio_grants.specs.declared.grant.Grant.{Grant}
use Rattle.trio_grants.specs.declared.table.AdmitFault.{AdmitFault}
use Rattle.trio_grants.specs.declared.table.AdmitFault.TheVariants.{Busy, NoMemory}
use Rattle.trio_grants.specs.Grants.{Keyed, first_with, holder}

-- Busy names the first open grant that excludes the one asked; where none does, the grant is opened or memory runs out.
abbrev pub Answers : (Grant → Bool) → List Keyed → Result ℕ AdmitFault → Type 0
Answers excluding grants (Ok key) = first_with excluding grants ≡ None
Answers excluding grants (Err (Busy who)) = option_map holder (first_with excluding grants) ≡ Some who
Answers excluding grants (Err NoMemory) = first_with excluding grants ≡ None
