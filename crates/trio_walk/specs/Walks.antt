-- What a session needs for a walk, what comes of it, and which calls of the desk it makes.
use Rattle.std.specs.Prelude.{◌≡◌, ◌≢◌, ◌⊎◌, ℕ, ◌<◌, ◌==◌, Bool, true, false, not, ◌||◌, is_some, IsFalse, IsTrue, List, [], ◌∷◌, ◌++◌, map, length, Option, None, Some, Result, Ok, Err, if◌then◌else◌}
use Rattle.std.specs.List.{flat_map}
use Rattle.std.specs.Option.{option_map, option_map_or}
use Rattle.trio_rights.specs.Row.{Row}
use Rattle.trio_rights.specs.declared.rights.Creds.{Creds}
use Rattle.trio_rights.specs.declared.kind.Kind.{Kind}
use Rattle.trio_rights.specs.declared.kind.Kind.TheVariants.{Directory}
use Rattle.trio_rights.specs.declared.rights.Need.{Need}
use Rattle.trio_rights.specs.declared.rights.Need.TheVariants.{Read as NeedsRead, Write as NeedsWrite}
use Rattle.trio_rights.specs.Rights.{permits}
use Rattle.trio_lists.specs.Lists.{In}
use Rattle.trio_layout.specs.Entries.{body_in_slot}
use Rattle.trio_layout.specs.declared.slot.EntryPart.{EntryPart}
use Rattle.trio_auxdir.specs.declared.place.Place.{Place}
use Rattle.trio_lease.specs.Shown.{Shown, LentFile}
use Rattle.trio_lease.specs.declared.parts.HoldParts.{HoldParts}
use Rattle.trio_lease.specs.declared.lease.Lease.{Lease}
use Rattle.trio_lease.specs.declared.lease.Lease.TheVariants.{Write as WriteLease, Read as ReadLease, Hold as HoldLease}
use Rattle.trio_nodes.specs.declared.grant.Holder.{Holder}
use Rattle.trio_nodes.specs.declared.grant.GrantKind.{GrantKind}
use Rattle.trio_nodes.specs.declared.grant.GrantKind.TheVariants.{Read as ToRead, Write as ToWrite, Hold as ToHold}
use Rattle.trio_nodes.specs.declared.answers.GrantFault.TheVariants.{Denied as DeniedGrant, Busy as BusyGrant, NoMemory as NoGrantMemory}
use Rattle.trio_nodes.specs.declared.call.Reply as refusal
use Rattle.trio_nodes.specs.declared.call.Reply.TheVariants.{Denied, NotDir, NotFound}
use Rattle.trio_nodes.specs.declared.node.Node.{Node}
use Rattle.trio_nodes.specs.Nodes.{Nodes, node_at, find_named}
use Rattle.trio_nodes.specs.Walk.{Path, enter, walk, walk_into}
use Rattle.trio_nodes.specs.After.{batch_nodes}
use Rattle.trio_desk.specs.Agrees.{HasRights}
use Rattle.trio_desk.specs.Contents.{Rights as NodeRights, rights_in, rights_of}
use Rattle.trio_desk.specs.Out.{IsFreshLease, OutAlike, file_numbers, hold_numbers, ino_numbers, kind_lent, pages_out}
use Rattle.trio_desk.specs.Call.{DeskSeen, Ask, Grant, SeenAfter, Told, Lent, NotLent}
use Rattle.trio_desk.specs.Calls.{Call, Calls}
use Rattle.trio_desk.specs.Ready.{ArePossible, ComesToShown}
use Rattle.trio_desk.specs.Refusals.{HasCause}
use Rattle.trio_laws.specs.session.Takes.{IsInOrder, pages_in_hand}
use Rattle.trio_laws.specs.session.Sees.{AboveIsOpen, IsLeftAlone}
use Rattle.trio_session.specs.Asked.{with_lease}
use Rattle.trio_session.specs.Seen.{MadeFile, SessionSeen, IsOn, block_shown, body_in, body_shown, entry_shown, has_out, in_hand, kind_shown, made_file, number_shown, open_kind, place_shown, serves}
use Rattle.trio_walk.specs.declared.met.Met.{Met}
use Rattle.trio_walk.specs.declared.met.Rights.{Rights}
use Rattle.trio_walk.specs.declared.walks.WalkEnd.{WalkEnd}
use Rattle.trio_walk.specs.declared.walks.WalkEnd.TheVariants.{At, Reply, Busy, NoMemory}
use Rattle.trio_walk.specs.Needs.{Needed, asked, into_needs, walk_needs}

-- ---- all that is possible

-- So it is in all nodes that the session may show.
abbrev pub InAllShown : DeskSeen → SessionSeen → (Nodes → Type 0) → Type 0
InAllShown desk s P =
    (nodes : Nodes) (rows : List (Option Row)) → ArePossible desk s.parcel s.reads nodes rows
    → P (batch_nodes desk.creds s.calls nodes)

-- what holds of all nodes that are possible, with those that the session shows in their place
abbrev pub InBoth : DeskSeen → SessionSeen → (Nodes → Nodes → Type 0) → Type 0
InBoth desk s P =
    (nodes : Nodes) (rows : List (Option Row)) → ArePossible desk s.parcel s.reads nodes rows
    → P nodes (batch_nodes desk.creds s.calls nodes)

-- ---- the condition

-- What a session sees of the nodes that it shows in a directory that it has open: the directory's rights by its body, what a name is by
-- its slots, and the kind and the rights of each entry's file by its slot; an allotted number that an entry names is that of a file that
-- the session made.
pub record SeesOpen (s : SessionSeen) (dir : ℕ) (now : Nodes) : Type 0 where
  pub rights : HasRights (rights_in Directory (body_in s dir)) (node_at now dir)
  pub named : (name : List ℕ) → find_named now dir name ≡ option_map (number_shown s dir) (place_shown s dir name)
  pub entries :
      (place : Place) (e : EntryPart) (page : List ℕ) → place.slot < 16 → block_shown s dir place.block ≡ Some page
      → entry_shown s dir place ≡ Some e → HasRights (rights_in e.kind (body_in_slot place.slot page)) (node_at now e.ino)
  pub made :
      (place : Place) (e : EntryPart) → place.slot < 16 → entry_shown s dir place ≡ Some e
      → In e.ino (ino_numbers s.parcel.inodes) → IsTrue (is_some (made_file s e.ino))

-- the pages in which a session looks: the blocks of the files that it has open, and the pages whose slots have bodies of files that it made
abbrev pub pages_looked : SessionSeen → List ℕ
pages_looked s = flat_map (λ c. c.blocks) (s.chains ++ map (λ m. m.chain) s.made) ++ map (λ m. m.page) s.made

-- A session may walk: it stands on its desk, its calls come to what it shows, what it has is in order, and a file that it reads is neither
-- written nor held; each file that it has open is of its kind, and it sees what it shows in the directories that it has open; the pages
-- in which it looks are in hand, and those were lent or allotted; the files that it made have allotted numbers; and each directory above a
-- file that it holds gives reading.
pub record MayWalk (desk : DeskSeen) (s : SessionSeen) : Type 0 where
  pub on : IsOn desk s
  pub comes : ComesToShown desk s.parcel s.reads s.calls
  pub order : IsInOrder desk (in_hand s)
  pub alone : (f : Shown) → In f s.reads → IsLeftAlone (in_hand s) f.ino
  pub kinds : (ino : ℕ) (kind : Kind) → open_kind s ino ≡ Some kind → InAllShown desk s (λ now. option_map (λ x. x.kind) (node_at now ino) ≡ Some kind)
  pub sees : (dir : ℕ) → open_kind s dir ≡ Some Directory → InAllShown desk s (SeesOpen s dir)
  pub numbers : (f : LentFile) → In f s.parcel.writes → f.stands.ino ≡ f.lent.ino
  pub beside : length s.chains ≡ length s.parcel.writes
  pub own : (page : ℕ) → In page (pages_looked s) → In page (pages_in_hand (in_hand s))
  pub pages : (page : ℕ) → In page (pages_in_hand (in_hand s)) → In page (pages_out (has_out s))
  pub made : (m : MadeFile) → In m s.made → In m.ino (ino_numbers s.parcel.inodes)
  pub held :
      (h : HoldParts) (nodes : Nodes) (rows : List (Option Row)) → In h s.parcel.holds
      → ArePossible desk s.parcel s.reads nodes rows → AboveIsOpen nodes desk.creds h.ino

-- ---- what it takes

-- the session with more leases, in their order
abbrev pub with_leases : SessionSeen → List Lease → SessionSeen
with_leases s [] = s
with_leases s (lease ∷ more) = with_leases (with_lease s lease) more

-- the session has these leases too, and perhaps more indexes, look-ups and room; nothing else has changed
pub record TookLeases (s : SessionSeen) (more : List Lease) (s' : SessionSeen) : Type 0 where
  pub same : s' ≡ record (with_leases s more) { indexed = s'.indexed; finds = s'.finds; room = s'.room }
  pub indexed : (n : ℕ) → In n s.indexed → In n s'.indexed

-- the number of the file of a lease
abbrev pub file_of : Lease → ℕ
file_of (WriteLease f) = f.lent.ino
file_of (ReadLease f) = f.ino
file_of (HoldLease h) = h.ino

-- the need for which a lease was asked
abbrev pub need_of : Lease → Needed
need_of lease = record { ino = file_of lease; kind = kind_lent lease }

-- the call by which it was got
abbrev pub lent_call : Lease → Call
lent_call lease = record { ask = Grant (file_of lease) (kind_lent lease); told = Lent lease }

-- ---- leases, as they were lent

-- A directory that the session has open lists this file.
pub record IsListed (desk : DeskSeen) (s : SessionSeen) (n : ℕ) : Type 0 where
  pub directory : ℕ
  pub opens : open_kind s directory ≡ Some Directory
  pub lists : InAllShown desk s (λ now. option_map (λ x. x.parent) (node_at now n) ≡ Some directory)

-- another state of the same desk, which has the same out
pub record SameSeen (desk desk' : DeskSeen) : Type 0 where
  pub lib : desk'.lib ≡ desk.lib
  pub creds : desk'.creds ≡ desk.creds
  pub sizes : desk'.sizes ≡ desk.sizes
  pub root : desk'.root ≡ desk.root
  pub out : OutAlike desk'.out desk.out

-- A lease was lent to a session that had none that serves: it is a new one, and the session stands on the desk with it. A hold is on a file
-- that an open directory lists, below directories that give reading.
pub record IsLentNow (desk : DeskSeen) (s : SessionSeen) (lease : Lease) (desk' : DeskSeen) : Type 0 where
  pub seen : SeenAfter desk (Grant (file_of lease) (kind_lent lease)) (Lent lease) desk'
  pub fresh : IsFreshLease desk.lib (file_of lease) desk.sizes desk.out lease
  pub on : IsOn desk' (with_lease s lease)
  pub unserved : IsFalse (serves s (file_of lease) (kind_lent lease))
  pub listed : (h : HoldParts) → lease ≡ HoldLease h → IsListed desk s h.ino
  pub above : (h : HoldParts) → lease ≡ HoldLease h → InBoth desk s (λ nodes now. AboveIsOpen nodes desk.creds h.ino)

-- These leases were lent one after another, and then nothing more was given.
abbrev pub Lends : DeskSeen → SessionSeen → List Lease → DeskSeen → Type 0
Lends desk s [] desk' = SameSeen desk desk'
Lends desk s (lease ∷ more) desk' = (between : DeskSeen) × IsLentNow desk s lease between × Lends between (with_lease s lease) more desk'

-- a grant of the library's own excludes one that is asked: a lease for reading, where one for writing or a hold is asked; one for writing,
-- where a hold is asked; or a hold
pub record IsOwnBusy (s : SessionSeen) (n : ℕ) (kind : GrantKind) : Type 0 where
  pub has :
      (In n (map (λ f. f.ino) s.reads) × (kind ≢ ToRead))
      ⊎ ((In n (file_numbers s.parcel.writes) × (kind ≡ ToHold)) ⊎ In n (hold_numbers s.parcel.holds))

-- So it is on this file, in nodes that are possible.
pub record IsOwnGrant (desk : DeskSeen) (s : SessionSeen) (n : ℕ) (kind' : GrantKind) : Type 0 where
  pub busy : IsOwnBusy s n kind'
  pub nodes : Nodes
  pub rows : List (Option Row)
  pub possible : ArePossible desk s.parcel s.reads nodes rows

-- From a desk and a session to these: each of these leases was asked for and lent, in this order, and then this call was made. A file that
-- was lent for writing stands as it was lent. Where the desk told that a file is busy, another library keeps it so, or a grant of the
-- session's own does; and some nodes are possible then.
pub record Way {D : Type 0} (called : D → Ask → Told → D → Type 0) (seen : D → DeskSeen) (d : D) (s : SessionSeen) (more : List Lease) (last : List Call) (d' : D) (s' : SessionSeen) : Type 0 where
  pub made : Calls called d (map lent_call more ++ last) d'
  pub took : TookLeases s more s'
  pub as_lent : (f : LentFile) → In (WriteLease f) more → f.stands ≡ f.lent
  pub lends : Lends (seen d) s more (seen d')
  pub lib : (seen d').lib ≡ (seen d).lib
  pub sizes : (seen d').sizes ≡ (seen d).sizes
  pub root : (seen d').root ≡ (seen d).root
  pub creds : (seen d').creds ≡ (seen d).creds
  pub others :
      (n : ℕ) (kind : GrantKind) (holder : Holder) → In (record { ask = Grant n kind; told = NotLent (BusyGrant holder) }) last
      → holder.lib ≡ s.lib → IsOwnBusy s n kind
  pub busy :
      (n : ℕ) (kind : GrantKind) (holder : Holder) → In (record { ask = Grant n kind; told = NotLent (BusyGrant holder) }) last
      → (nodes : Nodes) × (rows : List (Option Row)) × ArePossible (seen d') s'.parcel s'.reads nodes rows

-- ---- how it ends

-- The last call of a walk, beside those that were lent: none where it comes to an end; Busy and want of memory are told by it; and so
-- is that the root denies its grant.
abbrev pub EndsBy : WalkEnd → List Call → List Needed → Type 0
EndsBy (At n) last need = (last ≡ []) × (need ≡ [])
EndsBy (Reply reply) last need =
    ((last ≡ []) × (need ≡ []))
    ⊎ ((kind : GrantKind) × (reply ≡ Denied) × (last ≡ record { ask = Grant 1 kind; told = NotLent (DeniedGrant 1) } ∷ []) × (need ≡ record { ino = 1; kind = kind } ∷ []))
EndsBy (Busy holder) last need =
    (n : ℕ) × (kind : GrantKind) × (last ≡ record { ask = Grant n kind; told = NotLent (BusyGrant holder) } ∷ []) × (need ≡ record { ino = n; kind = kind } ∷ [])
EndsBy NoMemory last need =
    ((last ≡ []) × (need ≡ []))
    ⊎ ((n : ℕ) × (kind : GrantKind) × (last ≡ record { ask = Grant n kind; told = NotLent NoGrantMemory } ∷ []) × (need ≡ record { ino = n; kind = kind } ∷ []))

-- the walk of the tree comes to the same; where the desk has refused, nothing is said of it
abbrev pub WalksTo : WalkEnd → Result ℕ refusal.Reply → Type 0
WalksTo (At n) walked = walked ≡ Ok n
WalksTo (Reply reply) walked = walked ≡ Err reply
WalksTo end walked = Unit {0}

-- these are just the grants to be asked; where the walk is broken off, the first of them
abbrev pub AreAsked : WalkEnd → List Needed → List Needed → Type 0
AreAsked (At n) these wanted = wanted ≡ these
AreAsked (Reply reply) these wanted = wanted ≡ these
AreAsked end these wanted = (rest : List Needed) × (wanted ≡ these ++ rest)

-- what a session serves before a call
abbrev pub served_by : SessionSeen → Needed → Bool
served_by s n = serves s n.ino n.kind

-- whether a lease shows the rights of the root
abbrev pub shows_root : SessionSeen → Bool
shows_root s = is_some (body_shown s 1)

-- What is true of a walk to a file in the nodes that the session shows: it comes there, and the grants asked are just those of its needs
-- that no lease serves.
pub record Walks (desk : DeskSeen) (s : SessionSeen) (writes : List Path) (path : Path) (end : WalkEnd) (these : List Needed) (nodes : Nodes) : Type 0 where
  pub walks : WalksTo end (walk nodes desk.creds writes path)
  pub asks : AreAsked end these (asked (served_by s) (walk_needs nodes desk.creds (shows_root s) writes path))

-- and of a walk into a directory
pub record WalksInto (desk : DeskSeen) (s : SessionSeen) (writes : List Path) (path : Path) (end : WalkEnd) (these : List Needed) (nodes : Nodes) : Type 0 where
  pub walks : WalksTo end (walk_into nodes desk.creds writes path)
  pub asks : AreAsked end these (asked (served_by s) (into_needs nodes desk.creds (shows_root s) writes path))

-- ---- the file that is met

-- the rights that are known of a file are its node's
abbrev pub RightsAre : Option Rights → Node → Type 0
RightsAre None x = Unit {0}
RightsAre (Some r) x = (x.mode ≡ r.mode) × (x.uid ≡ r.uid) × (x.gid ≡ r.gid)

-- a file that is live at the desk: it has a node there with the kind and the rights of this one, and each directory above it gives reading
pub record IsLive (nodes : Nodes) (creds : Creds) (ino : ℕ) (after : Node) : Type 0 where
  pub node : Node
  pub there : node_at nodes ino ≡ Some node
  pub same : rights_of after ≡ rights_of node
  pub above : AboveIsOpen nodes creds ino

-- The file that a walk has met, in nodes that are possible and in those that the session shows in their place: there it has a node, of
-- this kind and with the rights that were met. The session made it, or it is live. The rights are known of each file but the root, and of
-- the root where a lease showed them when the walk began: `shown` says whether one did.
pub record IsMet (shown : Bool) (s : SessionSeen) (nodes now : Nodes) (creds : Creds) (m : Met) : Type 0 where
  pub after : Node
  pub there_now : node_at now m.ino ≡ Some after
  pub kind : after.kind ≡ m.kind
  pub rights : RightsAre m.rights after
  pub known : (shown || not (m.ino == 1)) ≡ is_some m.rights
  pub live : IsTrue (is_some (made_file s m.ino)) ⊎ IsLive nodes creds m.ino after

-- So it is in all nodes that are possible; only of the root may the rights be unknown.
pub record IsMetIn (shown : Bool) (desk : DeskSeen) (s : SessionSeen) (m : Met) : Type 0 where
  pub root : m.rights ≡ None → m.ino ≡ 1
  pub met : InBoth desk s (λ nodes now. IsMet shown s nodes now desk.creds m)

-- so it is, whether or not a lease showed the rights of the root
abbrev pub HasMet : DeskSeen → SessionSeen → Met → Type 0
HasMet desk s m = (shown : Bool) × IsMetIn shown desk s m

-- where a walk ends that has met a file, or has not
abbrev pub reached_end : Result Met WalkEnd → WalkEnd
reached_end (Ok m) = At m.ino
reached_end (Err end) = end

-- a walk that has come to no file: a reply is one of its refusals then
abbrev pub IsStopped : WalkEnd → Type 0
IsStopped (At n) = ⊥
IsStopped (Reply NotFound) = Unit {0}
IsStopped (Reply NotDir) = Unit {0}
IsStopped (Reply Denied) = Unit {0}
IsStopped (Reply reply) = ⊥
IsStopped end = Unit {0}

-- a directory is had as it is needed, with its index
pub record IsHad (s : SessionSeen) (dir : ℕ) (kind : GrantKind) : Type 0 where
  pub served : IsTrue (serves s dir kind)
  pub directory : kind_shown s dir ≡ Some Directory
  pub indexed : In dir s.indexed

-- ---- look-ups

-- A directory may be read, and what is in it reached: it gives reading, and so does each directory above it, unless the session made it.
pub record MayLookIn (desk : DeskSeen) (s : SessionSeen) (dir : ℕ) : Type 0 where
  pub gives : InAllShown desk s (λ now. enter now desk.creds NeedsRead dir ≡ Ok dir)
  pub above : InBoth desk s (λ nodes now. IsTrue (is_some (made_file s dir)) ⊎ AboveIsOpen nodes desk.creds dir)

-- What a look-up of a name finds in the nodes that the session shows: the file that the directory lists by it, which is met, or none.
abbrev pub LooksUp : DeskSeen → SessionSeen → ℕ → List ℕ → Option Met → Type 0
LooksUp desk s dir name None = InAllShown desk s (λ now. find_named now dir name ≡ None)
LooksUp desk s dir name (Some m) =
    ((shown : Bool) → IsMetIn shown desk s m) × InAllShown desk s (λ now. find_named now dir name ≡ Some m.ino)

-- and what it finds among the slots, whether any nodes are possible or not
abbrev pub FindsEntry : SessionSeen → ℕ → List ℕ → Option Met → Type 0
FindsEntry s dir name None = place_shown s dir name ≡ None
FindsEntry s dir name (Some m) =
    (place : Place) × (e : EntryPart) × (place_shown s dir name ≡ Some place) × (entry_shown s dir place ≡ Some e) × (m.ino ≡ e.ino) × (m.kind ≡ e.kind)

-- ---- files that are taken

-- the rights that are known of a file give what is needed; so it is taken to be while they aren't known
abbrev pub gives_met : Creds → Met → Need → Bool
gives_met creds m need = option_map_or (λ r. permits creds m.kind r.mode r.uid r.gid need) m.rights true

-- A file that was met may be taken so: its rights give it as far as they are known, or, for a hold, a directory that is open lists it.
abbrev pub MayTake : DeskSeen → SessionSeen → Met → GrantKind → Type 0
MayTake desk s m ToRead = IsTrue (gives_met desk.creds m NeedsRead)
MayTake desk s m ToWrite = IsTrue (gives_met desk.creds m NeedsWrite)
MayTake desk s m ToHold = IsListed desk s m.ino

-- the grant on a file, unless a lease serves
abbrev pub one_need : SessionSeen → ℕ → GrantKind → List Needed
one_need s n kind = if serves s n kind then [] else record { ino = n; kind = kind } ∷ []

-- a file is had as it was asked for: of one that is read or written the session shows the kind that was met, and a directory has its index
pub record IsTaken (s : SessionSeen) (m : Met) (kind : GrantKind) : Type 0 where
  pub served : IsTrue (serves s m.ino kind)
  pub of_kind : kind ≢ ToHold → kind_shown s m.ino ≡ Some m.kind
  pub indexed : kind_shown s m.ino ≡ Some Directory → In m.ino s.indexed

-- the rights don't give what a grant of this kind needs; a hold needs none
abbrev pub denies : Creds → NodeRights → GrantKind → Bool
denies creds r ToRead = not (permits creds r.kind r.mode r.uid r.gid NeedsRead)
denies creds r ToWrite = not (permits creds r.kind r.mode r.uid r.gid NeedsWrite)
denies creds r ToHold = false

-- How the taking of a file ends: it is had; or the root denies its grant, where its rights weren't known; or it is busy, while some nodes
-- are possible; or there is no memory.
abbrev pub TakenAs : DeskSeen → SessionSeen → Met → GrantKind → List Lease → List Call → Result Bool WalkEnd → SessionSeen → Type 0
TakenAs desk s m kind more last (Ok true) s' = (last ≡ []) × (one_need s m.ino kind ≡ map need_of more) × IsTaken s' m kind
TakenAs desk s m kind more last (Ok denied) s' =
    (more ≡ []) × (last ≡ record { ask = Grant 1 kind; told = NotLent (DeniedGrant 1) } ∷ []) × (one_need s m.ino kind ≡ record { ino = 1; kind = kind } ∷ [])
    × (m.ino ≡ 1) × (m.rights ≡ None) × IsTrue (denies desk.creds desk.root kind)
TakenAs desk s m kind more last (Err (Busy holder)) s' =
    (more ≡ []) × (last ≡ record { ask = Grant m.ino kind; told = NotLent (BusyGrant holder) } ∷ []) × (one_need s m.ino kind ≡ record { ino = m.ino; kind = kind } ∷ [])
    × HasCause desk m.ino kind (BusyGrant holder)
TakenAs desk s m kind more last (Err NoMemory) s' =
    (need : List Needed) × (rest : List Needed) × EndsBy NoMemory last need × (one_need s m.ino kind ≡ (map need_of more ++ need) ++ rest)
TakenAs desk s m kind more last (Err end) s' = ⊥

-- A file that was met is taken, from a desk and a session to these.
pub record Took {D : Type 0} (called : D → Ask → Told → D → Type 0) (seen : D → DeskSeen) (d : D) (s : SessionSeen) (m : Met) (kind : GrantKind) (result' : Result Bool WalkEnd) (d' : D) (s' : SessionSeen) : Type 0 where
  pub more : List Lease
  pub last : List Call
  pub way : Way called seen d s more last d' s'
  pub may : MayWalk (seen d') s'
  pub taken : TakenAs (seen d) s m kind more last result' s'

-- ---- walks

-- A walk from a desk and a session to these, as it ends; `true_of` says what is true of it in the nodes that the session shows.
pub record Walked {D : Type 0} (called : D → Ask → Told → D → Type 0) (seen : D → DeskSeen) (d : D) (s : SessionSeen) (true_of : List Needed → Nodes → Type 0) (end : WalkEnd) (d' : D) (s' : SessionSeen) : Type 0 where
  pub more : List Lease
  pub last : List Call
  pub need : List Needed
  pub way : Way called seen d s more last d' s'
  pub ends : EndsBy end last need
  pub shown : InAllShown (seen d') s' (true_of (map need_of more ++ need))
