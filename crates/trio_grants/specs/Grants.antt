-- The open grants, and what is asked of them.
use Rattle.std.specs.Prelude.{ℕ, ◌<◌, ◌==◌, nat_le, min, Bool, not, ◌&&◌, List, [], ◌∷◌, map, Option, Some, None, IsSome, if◌then◌else◌}
use Rattle.std.specs.List.{All, filter, find}
use Rattle.std.specs.Option.{option_map}
use Rattle.trio_rights.specs.declared.rights.LibNo.{LibNo}
use Rattle.trio_nodes.specs.declared.grant.GrantKind.{GrantKind}
use Rattle.trio_nodes.specs.declared.grant.GrantKind.TheVariants.{Write, Hold}
use Rattle.trio_nodes.specs.declared.grant.Holder.{Holder}
use Rattle.trio_grants.specs.declared.grant.Grant.{Grant}
use Rattle.trio_nodes.specs.GrantKinds.{excludes_kind, same_kind}

-- whether an open grant excludes one that a library asks on a file
abbrev pub excludes : LibNo → ℕ → GrantKind → Grant → Bool
excludes lib ino kind g = (g.ino == ino) && excludes_kind kind g.kind (g.lib.0 == lib.0)

-- whether a grant is on a file and, where a library is named, not that library's
abbrev pub is_on : ℕ → Option LibNo → Grant → Bool
is_on ino None g = g.ino == ino
is_on ino (Some but) g = (g.ino == ino) && not (g.lib.0 == but.0)

-- whether a grant is a library's, on a file, of a kind
abbrev pub is_grant : LibNo → ℕ → GrantKind → Grant → Bool
is_grant lib ino kind g = ((g.lib.0 == lib.0) && (g.ino == ino)) && same_kind g.kind kind

-- whether a grant is a write grant
abbrev pub is_write : Grant → Bool
is_write g = same_kind g.kind Write

-- a grant as others are told of it
abbrev pub holder : Grant → Holder
holder g = record { lib = g.lib; kind = g.kind; entry = g.entry }

-- an open grant, behind the key that ends it
abbrev pub Keyed : Type 0
Keyed = ℕ × Grant

-- put before the first grant of no lower entry
abbrev pub inserted : Keyed → List Keyed → List Keyed
inserted x [] = x ∷ []
inserted x (y ∷ ys) = if nat_le x.1.entry y.1.entry then x ∷ (y ∷ ys) else y ∷ inserted x ys

-- the same grants in the order of their entries
abbrev pub by_entry : List Keyed → List Keyed
by_entry [] = []
by_entry (x ∷ xs) = inserted x (by_entry xs)

-- the first grant that passes a test
abbrev pub first_with : (Grant → Bool) → List Keyed → Option Grant
first_with test grants = find test (map (λ x. x.1) grants)

-- each grant was opened by an entry below this one
abbrev pub AllBelow : ℕ → List Keyed → Type 0
AllBelow entry grants = All (λ x. x.1.entry < entry) grants

-- the grant of a key
abbrev pub grant_under : ℕ → List Keyed → Option Grant
grant_under key grants = option_map (λ x. x.1) (find (λ x. x.0 == key) grants)

-- the key is that of an open grant
abbrev pub HasKey : ℕ → List Keyed → Type 0
HasKey key grants = IsSome (grant_under key grants)

-- all grants but that of a key
abbrev pub without : ℕ → List Keyed → List Keyed
without key grants = filter (λ x. not (x.0 == key)) grants

-- the lower of two numbers, or the only one that is there
abbrev pub least : Option ℕ → Option ℕ → Option ℕ
least None b = b
least (Some a) None = Some a
least (Some a) (Some b) = Some (min a b)

-- the file of a grant that is a hold of this library, where its number is at or above `from`
abbrev pub held_number : LibNo → ℕ → Grant → Option ℕ
held_number lib from g =
    if (same_kind g.kind Hold && (g.lib.0 == lib.0)) && nat_le from g.ino then Some g.ino else None

-- the lowest number at or above `from` on which this library has a hold
abbrev pub lowest_held : LibNo → ℕ → List Keyed → Option ℕ
lowest_held lib from [] = None
lowest_held lib from (x ∷ xs) = least (held_number lib from x.1) (lowest_held lib from xs)
