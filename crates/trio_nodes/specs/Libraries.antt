-- The libraries of a history, by their credentials.
use Rattle.std.specs.Prelude.{ℕ, zero, suc, ◌^◌, ◌≤◌, List, length, Option, None, slice_get}
use Rattle.std.specs.Option.{unwrap_or}
use Rattle.trio_rights.specs.declared.rights.Creds.{Creds}

-- the library is one of those with these credentials, which are numbered from 1
abbrev pub IsLibrary : List Creds → ℕ → Type 0
IsLibrary libs lib = (1 ≤ lib) × (lib ≤ length libs)

-- the credentials of a library, where it is one of them
abbrev pub listed_creds : List Creds → ℕ → Option Creds
listed_creds libs zero = None
listed_creds libs (suc n) = slice_get libs n

-- Nobody: no library and no file can have these numbers, which are past every uid and gid.
abbrev pub nobody : Creds
nobody = record { uid = 2 ^ 32; gid = 2 ^ 32 }

-- the credentials of a library; nobody's where it is none of those that are listed
abbrev pub creds_in : List Creds → ℕ → Creds
creds_in libs lib = unwrap_or (listed_creds libs lib) nobody
