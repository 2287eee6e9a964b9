-- The grants that stand in a history.
use Rattle.std.specs.Prelude.{ℕ, ◌==◌, Bool, not, ◌&&◌, List, [], ◌∷◌, ◌++◌}
use Rattle.std.specs.List.{filter, list_any}
use Rattle.trio_nodes.specs.declared.grant.GrantKind.{GrantKind}
use Rattle.trio_nodes.specs.declared.entry.RawFile.{RawFile}
use Rattle.trio_nodes.specs.declared.entry.GrantAnswer.TheVariants.{Granted}
use Rattle.trio_nodes.specs.declared.entry.Entry.{Entry}
use Rattle.trio_nodes.specs.declared.entry.Entry.TheVariants.{Grant, Back, Raw, Batch}
use Rattle.trio_nodes.specs.GrantKinds.{excludes_kind, same_kind}

-- a grant, with the number of its entry
pub record Standing : Type 0 where
  pub lib : ℕ
  pub ino : ℕ
  pub kind : GrantKind
  pub entry : ℕ

-- a grant of the library of this kind on the file stands
abbrev pub stands : List Standing → ℕ → ℕ → GrantKind → Bool
stands grants lib ino kind = list_any (λ g. g.lib == lib && g.ino == ino && same_kind g.kind kind) grants

-- a grant on the file stands, of any library
abbrev pub stands_on : List Standing → ℕ → Bool
stands_on grants ino = list_any (λ g. g.ino == ino) grants

-- a grant of another library on the file stands
abbrev pub is_others : List Standing → ℕ → ℕ → Bool
is_others grants lib ino = list_any (λ g. not (g.lib == lib) && g.ino == ino) grants

-- a grant that stands on the file excludes what the library asks
abbrev pub is_excluded : List Standing → ℕ → ℕ → GrantKind → Bool
is_excluded grants lib ino kind = list_any (λ g. g.ino == ino && excludes_kind kind g.kind (g.lib == lib)) grants

-- the file is one that the bundle has a write lease or a hold on
abbrev pub is_given : List RawFile → ℕ → Bool
is_given files ino = list_any (λ f. f.ino == ino && f.given) files

-- The grants that stand after an entry. One that is given stands from its entry on, until an entry of its library is a Back of
-- its file, a Batch, or a Raw in whose files its file is given.
abbrev pub grants_after : List Standing → ℕ → Entry → List Standing
grants_after grants entries (Grant lib ino kind (Granted children)) =
    grants ++ record { lib = lib.0; ino = ino; kind = kind; entry = entries } ∷ []
grants_after grants entries (Back lib ino) = filter (λ g. not (g.lib == lib.0 && g.ino == ino)) grants
grants_after grants entries (Raw lib verdict files bundle) = filter (λ g. not (g.lib == lib.0 && is_given files g.ino)) grants
grants_after grants entries (Batch lib calls handed) = filter (λ g. not (g.lib == lib.0)) grants
grants_after grants entries _ = grants
