-- Words of a list of names: of the file to which its walk comes, and of a directory that the session has.
use Rattle.std.specs.Prelude.{◌≡◌, ℕ, not, is_some, List, [], ◌∷◌, length, take, drop, Option, Some, None, Ok, if◌then◌else◌}
use Rattle.trio_rights.specs.ByKind.{is_directory}
use Rattle.trio_rights.specs.declared.kind.Kind.TheVariants.{Directory}
use Rattle.trio_rights.specs.declared.rights.Creds.{Creds}
use Rattle.trio_rights.specs.declared.rights.Need.TheVariants.{Read as ToRead}
use Rattle.trio_nodes.specs.declared.call.Answer.TheVariants.{Names}
use Rattle.trio_nodes.specs.declared.call.Reply.{Reply}
use Rattle.trio_nodes.specs.declared.call.Reply.TheVariants.{Ok as IsReplied, Denied, NotDir}
use Rattle.trio_nodes.specs.declared.grant.GrantKind.TheVariants.{Read}
use Rattle.trio_nodes.specs.Walk.{Path, walk}
use Rattle.trio_desk.specs.Call.{DeskSeen}
use Rattle.trio_session.specs.Seen.{SessionSeen}
use Rattle.trio_walk.specs.declared.met.Met.{Met}
use Rattle.trio_walk.specs.Needs.{Needed}
use Rattle.trio_walk.specs.Walks.{InAllShown, gives_met}
use Rattle.trio_session.specs.Deeds.{names_here}
use Rattle.trio_deeds.specs.Reads.{allows}

-- ---- the file that was met

-- the walk has come to this file
abbrev pub ComesHere : DeskSeen → SessionSeen → Path → ℕ → Type 0
ComesHere desk s path n = InAllShown desk s (λ now. walk now desk.creds [] path ≡ Ok n)

-- why a file that was met isn't listed, by what is known of it
abbrev pub met_refusal : Creds → Met → Option Reply
met_refusal creds m = if not (is_directory m.kind) then Some NotDir else (if not (gives_met creds m ToRead) then Some Denied else None)

-- the grant on it, unless a check has refused
abbrev pub listing_at : Creds → Met → List Needed
listing_at creds m = if is_some (met_refusal creds m) then [] else record { ino = m.ino; kind = Read } ∷ []

-- ---- a directory that is had

-- what is replied of it: the count of its names, and at most 64 of them in byte order from a position on, where its rights give reading
abbrev pub list_reply : Creds → SessionSeen → ℕ → ℕ → Reply
list_reply creds s dir from =
    if allows s dir Directory creds ToRead then IsReplied (Names (length (names_here s dir)) (take 64 (drop from (names_here s dir)))) else Denied
