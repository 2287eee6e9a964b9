-- When a history is legal: each entry does no more than the grants that stand allow.
use Rattle.std.specs.Prelude.{◌≡◌, ◌≢◌, ℕ, ◌+◌, ◌*◌, ◌<◌, ◌≤◌, ◌==◌, Bool, true, false, not, ◌&&◌, ◌||◌, ◌⊎◌, List, [], ◌∷◌, map, length, min, Option, None, Some, is_some, Result, Ok, Err, IsTrue, IsFalse, MatchBool, MatchOption}
use Rattle.std.specs.List.{list_any, AllByRecursion}
use Rattle.std.specs.Option.{option_map}
use Rattle.std.specs.Str.{bytes_eq}
use Rattle.trio_rights.specs.ByKind.{is_directory}
use Rattle.trio_rights.specs.declared.rights.Creds.{Creds}
use Rattle.trio_rights.specs.declared.rights.Need.TheVariants.{Read as ToRead, Write as ToWrite}
use Rattle.trio_rights.specs.Row.{Row}
use Rattle.trio_rights.specs.May.{denier}
use Rattle.trio_nodes.specs.declared.grant.GrantKind.{GrantKind}
use Rattle.trio_nodes.specs.declared.grant.GrantKind.TheVariants.{Read, Write, Hold}
use Rattle.trio_nodes.specs.declared.answers.GrantFault.TheVariants.{NotLive, Denied, NoParent}
use Rattle.trio_nodes.specs.declared.answers.AllotFault.TheVariants.{NoPages, NoInodes}
use Rattle.trio_nodes.specs.declared.answers.ModeFault.{ModeFault}
use Rattle.trio_nodes.specs.declared.answers.ModeFault.TheVariants.{NotLive as NoFile, NotOwner, BadMode}
use Rattle.trio_nodes.specs.declared.answers.ReleaseAnswer.{ReleaseAnswer}
use Rattle.trio_nodes.specs.declared.answers.ReleaseAnswer.TheVariants.{Accepted, Refused}
use Rattle.trio_nodes.specs.declared.node.Node.{Node}
use Rattle.trio_nodes.specs.declared.call.Call.{Call}
use Rattle.trio_nodes.specs.declared.call.Done.{Done}
use Rattle.trio_nodes.specs.declared.call.Answer.TheVariants.{Done as IsDone}
use Rattle.trio_nodes.specs.declared.call.Reply.TheVariants.{Ok as Replied, Denied as IsDenied}
use Rattle.trio_nodes.specs.declared.entry.RawFile.{RawFile}
use Rattle.trio_nodes.specs.Told.{ToldBlock}
use Rattle.trio_nodes.specs.Handed.{Handed}
use Rattle.trio_nodes.specs.declared.entry.GrantAnswer.{GrantAnswer}
use Rattle.trio_nodes.specs.declared.entry.GrantAnswer.TheVariants.{Granted, Refused as NotGranted}
use Rattle.trio_nodes.specs.declared.entry.AllotAnswer.{AllotAnswer}
use Rattle.trio_nodes.specs.declared.entry.AllotAnswer.TheVariants.{Given, Refused as NotGiven}
use Rattle.trio_nodes.specs.declared.entry.Entry.{Entry}
use Rattle.trio_nodes.specs.declared.entry.Entry.TheVariants.{Grant, Allot, Back, Raw, Batch, Mode}
use Rattle.trio_lists.specs.Lists.{In, are_new}
use Rattle.trio_nodes.specs.GrantKinds.{is_read}
use Rattle.trio_nodes.specs.Nodes.{Nodes, node_at, entry_in}
use Rattle.trio_nodes.specs.Apply.{Apply, makes_file, is_done}
use Rattle.trio_nodes.specs.Standing.{Standing, stands, stands_on, is_others, is_excluded, is_given, grants_after}
use Rattle.trio_nodes.specs.After.{batch_nodes, call_nodes, moded_nodes, raw_nodes, bytes_in, nodes_after}
use Rattle.trio_nodes.specs.Libraries.{IsLibrary, creds_in}

-- what has come of a history so far: the nodes, the grants that stand, and how many entries there are
pub record Past : Type 0 where
  pub nodes : Nodes
  pub grants : List Standing
  pub entries : ℕ

-- before the first entry
abbrev pub beginning : Nodes → Past
beginning nodes = record { nodes = nodes; grants = []; entries = 0 }

-- and after one more entry
abbrev pub past_after : List Creds → Past → Entry → Past
past_after libs p e = record {
  nodes = nodes_after libs p.nodes e;
  grants = grants_after p.grants p.entries e;
  entries = p.entries + 1;
}

-- ---- grants

-- what a node says of rights, as a row that is nowhere
abbrev pub rights_row : Node → Row
rights_row x = record { kind = x.kind; mode = x.mode; uid = x.uid; gid = x.gid; parent = x.parent; page = 0; slot = 0 }

-- the same of all nodes, by number
abbrev pub rights_rows : Nodes → List (Option Row)
rights_rows nodes = map (option_map rights_row) nodes

-- who denies a grant, for a read or write grant; a hold asks no rights of its own
abbrev pub grant_denier : Nodes → Creds → ℕ → GrantKind → Option ℕ
grant_denier nodes creds ino Read = denier (rights_rows nodes) creds ino ToRead
grant_denier nodes creds ino Write = denier (rights_rows nodes) creds ino ToWrite
grant_denier nodes creds ino Hold = None

-- a write grant of the library on the directory of this node stands
abbrev pub parent_stands : List Standing → ℕ → Option Node → Bool
parent_stands grants lib None = false
parent_stands grants lib (Some x) = stands grants lib x.parent Write

-- a hold asks for a write grant on the directory, and there is none
abbrev pub lacks_directory : List Standing → ℕ → GrantKind → Option Node → Bool
lacks_directory grants lib Hold x = not (parent_stands grants lib x)
lacks_directory grants lib Read x = false
lacks_directory grants lib Write x = false

-- A grant that is given is of a live file, to one who may have it, beside no standing grant that excludes it, and for a hold
-- beside a write grant on the directory. Of one that is refused the cause is true; Busy makes no entry.
abbrev pub LegalGrant : Past → Creds → ℕ → ℕ → GrantKind → GrantAnswer → Type 0
LegalGrant p creds lib ino kind (Granted children) =
    IsTrue (is_some (node_at p.nodes ino))
    × (grant_denier p.nodes creds ino kind ≡ None)
    × IsFalse (lacks_directory p.grants lib kind (node_at p.nodes ino))
    × IsFalse (is_excluded p.grants lib ino kind)
LegalGrant p creds lib ino kind (NotGranted NotLive) = node_at p.nodes ino ≡ None
LegalGrant p creds lib ino kind (NotGranted (Denied by)) = grant_denier p.nodes creds ino kind ≡ Some by
LegalGrant p creds lib ino kind (NotGranted NoParent) = IsTrue (lacks_directory p.grants lib kind (node_at p.nodes ino))
LegalGrant p creds lib ino kind (NotGranted _) = ⊥

-- What is given is as much as was asked; where it is refused, more is asked than is told to be free.
abbrev pub LegalAllot : ℕ → ℕ → AllotAnswer → Type 0
LegalAllot pages inodes (Given these numbers) = (length these ≡ pages) × (length numbers ≡ inodes)
LegalAllot pages inodes (NotGiven (NoPages wanted free)) = (wanted ≡ pages) × (free < wanted)
LegalAllot pages inodes (NotGiven (NoInodes wanted free)) = (wanted ≡ inodes) × (free < wanted)
LegalAllot pages inodes (NotGiven _) = ⊥

-- ---- what one entry of a library may do to the files that live

-- whether a file is guarded; where there is none, it isn't
abbrev pub is_guarded : Option Node → Bool
is_guarded None = false
is_guarded (Some x) = x.guard

-- the content and the guard of a file are as they were: its bytes, and the numbers, names and kinds of its entries
pub record SameContent (nodes nodes' : Nodes) (n : ℕ) : Type 0 where
  pub guard : is_guarded (node_at nodes' n) ≡ is_guarded (node_at nodes n)
  pub bytes : bytes_in (node_at nodes' n) ≡ bytes_in (node_at nodes n)
  pub entries : (m : ℕ) → entry_in n (node_at nodes' m) ≡ entry_in n (node_at nodes m)

-- the node is there, with the kind and the rights of this one
abbrev pub HasRightsOf : Node → Option Node → Type 0
HasRightsOf x None = ⊥
HasRightsOf x (Some y) = (y.kind ≡ x.kind) × (y.mode ≡ x.mode) × (y.uid ≡ x.uid) × (y.gid ≡ x.gid)

-- each file that stays has the kind and the rights that it had
abbrev pub KeepsRights : Nodes → Nodes → Type 0
KeepsRights nodes nodes' = (n : ℕ) (x y : Node) → node_at nodes n ≡ Some x → node_at nodes' n ≡ Some y → HasRightsOf x (Some y)

-- the node is there, in the directory of this one
abbrev pub HasPlaceOf : Node → Option Node → Type 0
HasPlaceOf x None = ⊥
HasPlaceOf x (Some y) = y.parent ≡ x.parent

-- and by the same name
abbrev pub HasNameOf : Node → Option Node → Type 0
HasNameOf x None = ⊥
HasNameOf x (Some y) = (y.parent ≡ x.parent) × (y.name ≡ x.name)

-- A file on which a standing grant of another library lies keeps all, its content too, but its name.
abbrev pub SparesOthers : List Standing → ℕ → Nodes → Nodes → Type 0
SparesOthers grants lib nodes nodes' =
    (n : ℕ) (x : Node) → node_at nodes n ≡ Some x → IsTrue (is_others grants lib n)
    → HasRightsOf x (node_at nodes' n) × HasPlaceOf x (node_at nodes' n) × SameContent nodes nodes' n

-- What a release of a library may make of the nodes. The content or the guard of a live file changes only where a write grant of the library on
-- it stands, its name only where one stands on its directory, and it goes or moves only where a hold of the library on it
-- stands too. Kind and rights stay. A new file has the library's uid and gid.
pub record IsWithinGrants (grants : List Standing) (creds : Creds) (lib : ℕ) (nodes nodes' : Nodes) : Type 0 where
  pub content :
      (n : ℕ) (x : Node) → node_at nodes n ≡ Some x
      → IsTrue (stands grants lib n Write) ⊎ ((node_at nodes' n ≡ None) ⊎ SameContent nodes nodes' n)
  pub name :
      (n : ℕ) (x : Node) → node_at nodes n ≡ Some x
      → IsTrue (stands grants lib x.parent Write) ⊎ HasNameOf x (node_at nodes' n)
  pub place :
      (n : ℕ) (x : Node) → node_at nodes n ≡ Some x
      → IsTrue (stands grants lib n Hold) ⊎ HasPlaceOf x (node_at nodes' n)
  pub rights : KeepsRights nodes nodes'
  pub others : SparesOthers grants lib nodes nodes'
  pub new : (n : ℕ) (y : Node) → node_at nodes n ≡ None → node_at nodes' n ≡ Some y → (y.uid ≡ creds.uid) × (y.gid ≡ creds.gid)

-- ---- releases

-- the block of a file at a position is listed
abbrev pub is_listed : List ToldBlock → ℕ → ℕ → Bool
is_listed blocks ino at = list_any (λ b. b.ino == ino && b.at == at) blocks

-- each block of the size of what is no directory is listed, or its bytes were all there before
abbrev pub BlocksAreKnown : List ToldBlock → RawFile → Option Node → Type 0
BlocksAreKnown blocks f old =
    (at : ℕ) → is_directory f.kind ≡ false → 4096 * at < f.size → IsTrue (is_listed blocks f.ino at) ⊎ (min f.size (4096 * at + 4096) ≤ length (bytes_in old))

-- the node is the same but for its bytes, of which it has as many; where it is guarded, these are the same too
abbrev pub HasAllButBytesOf : Node → Option Node → Type 0
HasAllButBytesOf x None = ⊥
HasAllButBytesOf x (Some y) =
    (record y { bytes = [] } ≡ record x { bytes = [] })
    × (length y.bytes ≡ length x.bytes)
    × (x.guard ≡ true → y.bytes ≡ x.bytes)

-- After a refusal nothing but bytes of files that aren't guarded has changed, and these in listed blocks alone, since the nodes are
-- made of the old ones and the listed blocks.
abbrev pub LegalVerdict : ReleaseAnswer → Nodes → Nodes → Type 0
LegalVerdict Accepted nodes nodes' = Unit {0}
LegalVerdict (Refused rule ino page slot) nodes nodes' =
    (n : ℕ) → MatchOption (node_at nodes n) (node_at nodes' n ≡ None) (λ x. HasAllButBytesOf x (node_at nodes' n))

-- the bundle has a write lease or a hold on the file
abbrev pub is_handed : Handed → ℕ → Bool
is_handed handed ino = list_any (λ w. w.ino == ino) handed.writes || list_any (λ h. h == ino) handed.holds

-- the files of an entry that were given are those of the bundle's leases and holds
abbrev pub GivenAreHanded : List RawFile → Handed → Type 0
GivenAreHanded files handed = (n : ℕ) → is_given files n ≡ is_handed handed n

-- the entry tells of the file
abbrev pub tells_of : List RawFile → ℕ → Bool
tells_of files ino = list_any (λ f. f.ino == ino) files

-- the file is new, or it stays and has another name
abbrev pub is_new_or_renamed : Option Node → Option Node → Bool
is_new_or_renamed None None = false
is_new_or_renamed None (Some y) = true
is_new_or_renamed (Some x) None = false
is_new_or_renamed (Some x) (Some y) = not (bytes_eq x.name y.name)

-- The files of an entry are those of the bundle's leases and holds, the new ones, and those that stay and have another name. Each is
-- told once. After a refusal no file is new and no name changes, so that just those handed in are told.
pub record TellsThese (files : List RawFile) (handed : Handed) (nodes nodes' : Nodes) : Type 0 where
  pub these : (n : ℕ) → tells_of files n ≡ (is_handed handed n || is_new_or_renamed (node_at nodes n) (node_at nodes' n))
  pub once : IsTrue (are_new [] (map (λ f. f.ino) files))

-- A release of a library: it tells of the files that were handed in, that are new or that have another name, and says which were
-- handed in; the nodes change within its grants, and after a refusal in their bytes alone; and the bytes of each file that is told
-- are known.
pub record LegalRaw (p : Past) (creds : Creds) (lib : ℕ) (verdict : ReleaseAnswer) (files : List RawFile) (blocks : List ToldBlock) (handed : Handed) : Type 0 where
  pub told : TellsThese files handed p.nodes (raw_nodes blocks files p.nodes)
  pub given : GivenAreHanded files handed
  pub within : IsWithinGrants p.grants creds lib p.nodes (raw_nodes blocks files p.nodes)
  pub judged : LegalVerdict verdict p.nodes (raw_nodes blocks files p.nodes)
  pub known : AllByRecursion (λ f. BlocksAreKnown blocks f (node_at p.nodes f.ino)) files

-- ---- calls

-- a file that is made gets a new number; else there is none
abbrev pub MadeFits : Nodes → Done → Type 0
MadeFits nodes d =
    MatchBool (makes_file d.call && is_done d.reply) ((node_at nodes d.made ≡ None) × (d.made ≢ 0)) (d.made ≡ 0)

-- the calls are what the tree does, one after another
abbrev pub LegalCalls : Creds → Nodes → List Done → Type 0
LegalCalls creds nodes [] = Unit {0}
LegalCalls creds nodes (d ∷ ds) =
    let nodes' = call_nodes creds nodes d in
    Apply nodes creds d.call d.made d.reply nodes' × MadeFits nodes d × LegalCalls creds nodes' ds

-- A batch of a library, which ends all its grants, so that none of them is a read grant any more. From its first call to its last
-- it keeps kind and rights of each file, and what others have a grant on but for its name.
pub record LegalBatch (p : Past) (creds : Creds) (lib : ℕ) (calls : List Done) : Type 0 where
  pub done : LegalCalls creds p.nodes calls
  pub reads : (g : Standing) → In g p.grants → g.lib ≡ lib → IsFalse (is_read g.kind)
  pub rights : KeepsRights p.nodes (batch_nodes creds calls p.nodes)
  pub others : SparesOthers p.grants lib p.nodes (batch_nodes creds calls p.nodes)

-- ---- changes of mode

-- the library acts for the owner or for uid 0, and the file isn't the root
abbrev pub is_owner : Creds → ℕ → Option Node → Bool
is_owner creds ino None = false
is_owner creds ino (Some x) = not (ino == 1) && (creds.uid == 0 || creds.uid == x.uid)

-- the directory of a node; 0 where there is none
abbrev pub parent_in : Option Node → ℕ
parent_in None = 0
parent_in (Some x) = x.parent

-- a change that is made is by the owner or uid 0, of a file without a standing grant, whose directory has none either
abbrev pub LegalMode : Past → Creds → ℕ → ℕ → Result (Unit {0}) ModeFault → Type 0
LegalMode p creds ino mode (Ok done) =
    IsTrue (is_owner creds ino (node_at p.nodes ino)) × (mode ≤ 511)
    × IsFalse (stands_on p.grants ino) × IsFalse (stands_on p.grants (parent_in (node_at p.nodes ino)))
LegalMode p creds ino mode (Err NoFile) = node_at p.nodes ino ≡ None
LegalMode p creds ino mode (Err NotOwner) = IsFalse (is_owner creds ino (node_at p.nodes ino))
LegalMode p creds ino mode (Err BadMode) = 511 < mode
LegalMode p creds ino mode (Err _) = ⊥

-- with a call of the tree, it is replied so
abbrev pub LegalChmod : Past → Creds → ℕ → ℕ → Result (Unit {0}) ModeFault → Option Call → Type 0
LegalChmod p creds ino mode answer None = Unit {0}
LegalChmod p creds ino mode (Ok done) (Some call) = Apply p.nodes creds call 0 (Replied IsDone) (moded_nodes ino mode p.nodes)
LegalChmod p creds ino mode (Err NotOwner) (Some call) = Apply p.nodes creds call 0 IsDenied p.nodes
LegalChmod p creds ino mode (Err _) (Some call) = Unit {0}

-- ---- histories

-- the entry is legal after this past
abbrev pub IsLegal : List Creds → Past → Entry → Type 0
IsLegal libs p (Grant lib ino kind answer) = LegalGrant p (creds_in libs lib.0) lib.0 ino kind answer
IsLegal libs p (Allot lib pages inodes answer) = LegalAllot pages inodes answer
IsLegal libs p (Back lib ino) = Unit {0}
IsLegal libs p (Raw lib verdict files bundle) = LegalRaw p (creds_in libs lib.0) lib.0 verdict files bundle.blocks bundle.handed
IsLegal libs p (Batch lib calls handed) = LegalBatch p (creds_in libs lib.0) lib.0 calls
IsLegal libs p (Mode lib ino mode answer call) =
    LegalMode p (creds_in libs lib.0) ino mode answer × LegalChmod p (creds_in libs lib.0) ino mode answer call

-- each entry in order is legal, and this is what comes of them
abbrev pub LegalFrom : List Creds → Past → List Entry → Past → Type 0
LegalFrom libs p [] last = last ≡ p
LegalFrom libs p (e ∷ es) last = IsLegal libs p e × LegalFrom libs (past_after libs p e) es last

-- the number of the library whose entry it is
abbrev pub library_in : Entry → ℕ
library_in (Grant lib ino kind answer) = lib.0
library_in (Allot lib pages inodes answer) = lib.0
library_in (Back lib ino) = lib.0
library_in (Raw lib verdict files bundle) = lib.0
library_in (Batch lib calls handed) = lib.0
library_in (Mode lib ino mode answer call) = lib.0

-- The log is legal from the first nodes, with the credentials of the libraries, and these are its last nodes. Each entry is of
-- one of the libraries, and legal in its order.
pub record Legal (first : Nodes) (libs : List Creds) (log : List Entry) (last : Nodes) : Type 0 where
  pub libraries : AllByRecursion (λ e. IsLibrary libs (library_in e)) log
  pub grants : List Standing
  pub each : LegalFrom libs (beginning first) log (record { nodes = last; grants = grants; entries = length log })
