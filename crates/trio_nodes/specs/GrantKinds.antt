-- Kinds of grant, and which excludes which.
use Rattle.std.specs.Prelude.{Bool, true, false}
use Rattle.trio_nodes.specs.declared.grant.GrantKind.{GrantKind}
use Rattle.trio_nodes.specs.declared.grant.GrantKind.TheVariants.{Read, Write, Hold}

-- The exclusion table, on one file: the kind that is asked, the kind that is open, and whether both are of the same library.
-- Reads of two libraries go together, and nothing else does.
abbrev pub excludes_kind : GrantKind → GrantKind → Bool → Bool
excludes_kind Read Read same_library = same_library
excludes_kind Read Write same_library = true
excludes_kind Read Hold same_library = true
excludes_kind Write open_kind same_library = true
excludes_kind Hold open_kind same_library = true

-- two kinds of grant are the same
abbrev pub same_kind : GrantKind → GrantKind → Bool
same_kind Read Read = true
same_kind Read Write = false
same_kind Read Hold = false
same_kind Write Read = false
same_kind Write Write = true
same_kind Write Hold = false
same_kind Hold Read = false
same_kind Hold Write = false
same_kind Hold Hold = true

-- the kind is a write grant's
abbrev pub is_write : GrantKind → Bool
is_write Write = true
is_write Read = false
is_write Hold = false

-- the kind is a read grant's
abbrev pub is_read : GrantKind → Bool
is_read Read = true
is_read Write = false
is_read Hold = false

-- the kind is a hold's
abbrev pub is_hold : GrantKind → Bool
is_hold Hold = true
is_hold Read = false
is_hold Write = false
