-- A climb from a file to the root. Cited by private functions alone.
use Rattle.std.specs.Prelude.{ℕ, Option, None, Some}
use Rattle.trio_rights.specs.Row.{Row}

-- the parent that a row names; 0 where there is no row
abbrev pub parent_in : Option Row → ℕ
parent_in None = 0
parent_in (Some r) = r.parent
