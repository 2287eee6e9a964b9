-- Rights over a tree of rows: who may reach and use a file.
use Rattle.std.specs.Prelude.{ℕ, zero, suc, ◌==◌, Bool, false, not, List, [], ◌∷◌, ◌++◌, Option, Some, None, if◌then◌else◌, length}
use Rattle.std.specs.List.{find}
use Rattle.trio_rights.specs.declared.rights.Creds.{Creds}
use Rattle.trio_rights.specs.declared.rights.Need.{Need}
use Rattle.trio_rights.specs.declared.rights.Need.TheVariants.{Read}
use Rattle.trio_rights.specs.Rights.{permits}
use Rattle.trio_rights.specs.Row.{Row, row_in}

-- the rights table, at a row
abbrev pub row_permits : Creds → Need → Option Row → Bool
row_permits creds need None = false
row_permits creds need (Some r) = permits creds r.kind r.mode r.uid r.gid need

-- the proper ancestors of a file, from the root downward, by at most so many steps up
abbrev pub ancestors : List (Option Row) → ℕ → Option Row → List ℕ
ancestors rows zero r = []
ancestors rows (suc steps) None = []
ancestors rows (suc steps) (Some r) =
    if r.parent == 0 then [] else ancestors rows steps (row_in rows r.parent) ++ r.parent ∷ []

-- Every proper ancestor has to give Read, and the file what is needed. The first number from the root downward that does not.
abbrev pub denier : List (Option Row) → Creds → ℕ → Need → Option ℕ
denier rows creds ino need =
    find (λ n. not (row_permits creds (if n == ino then need else Read) (row_in rows n)))
    (ancestors rows (length rows) (row_in rows ino) ++ ino ∷ [])
