-- Words of the functions of a walk.
use Rattle.std.specs.Prelude.{◌≡◌, ℕ, Bool, false, not, List, [], ◌++◌, map, Option, Some, Result, Ok, Err, if◌then◌else◌}
use Rattle.std.specs.Option.{option_map, option_map_or, option_and_then}
use Rattle.trio_page.specs.Home.{raised}
use Rattle.trio_lists.specs.Lists.{In, is_among}
use Rattle.trio_rights.specs.Rights.{permits}
use Rattle.trio_rights.specs.declared.kind.Kind.TheVariants.{Directory}
use Rattle.trio_rights.specs.declared.rights.Creds.{Creds}
use Rattle.trio_rights.specs.declared.rights.Need.{Need}
use Rattle.trio_rights.specs.declared.rights.Need.TheVariants.{Read as ToRead}
use Rattle.trio_layout.specs.Body.{body_at}
use Rattle.trio_layout.specs.Entries.{body_in_slot}
use Rattle.trio_layout.specs.declared.slot.EntryPart.{EntryPart}
use Rattle.trio_lease.specs.declared.lease.Lease.{Lease}
use Rattle.trio_nodes.specs.declared.grant.GrantKind.{GrantKind}
use Rattle.trio_nodes.specs.declared.grant.Holder.{Holder}
use Rattle.trio_nodes.specs.declared.answers.GrantFault.TheVariants.{Busy as BusyGrant}
use Rattle.trio_nodes.specs.Nodes.{Nodes}
use Rattle.trio_nodes.specs.Walk.{enter}
use Rattle.trio_desk.specs.Call.{DeskSeen, Ask, Grant, NotLent, Told}
use Rattle.trio_desk.specs.Calls.{Call}
use Rattle.trio_desk.specs.Refusals.{HasCause}
use Rattle.trio_session.specs.Seen.{SessionSeen, block_shown, body_shown, entry_shown, place_shown}
use Rattle.trio_walk.specs.declared.met.Met.{Met}
use Rattle.trio_walk.specs.declared.met.Rights.{Rights}
use Rattle.trio_walk.specs.declared.walks.WalkEnd.{WalkEnd}
use Rattle.trio_walk.specs.declared.walks.WalkEnd.TheVariants.{At, Reply}
use Rattle.trio_walk.specs.Needs.{Needed, asked, entered_needs, kind_for}
use Rattle.trio_walk.specs.Walks.{EndsBy, InBoth, IsHad, IsMet, IsStopped, MayLookIn, MayWalk, Way, need_of, served_by}

-- ---- files that are met

-- the rights that a body says
abbrev pub rights_at : List ℕ → Rights
rights_at bytes = let b = body_at bytes in record { mode = b.mode; uid = b.uid; gid = b.gid }

-- these rights of a directory don't give what is needed
abbrev pub refuses : Creds → Need → Rights → Bool
refuses creds need r = not (permits creds Directory r.mode r.uid r.gid need)

-- those that a session shows of a file don't
abbrev pub body_refuses : SessionSeen → Creds → Need → ℕ → Bool
body_refuses s creds need ino = option_map_or (λ b. refuses creds need (rights_at b)) (body_shown s ino) false

-- the root, with its rights where a lease shows them
abbrev pub root_met : SessionSeen → Met
root_met s = record { ino = 1; kind = Directory; rights = option_map rights_at (body_shown s 1) }

-- the file of an entry, with the rights that its slot shows
abbrev pub met_of : ℕ → EntryPart → List ℕ → Met
met_of slot e page = record { ino = e.ino; kind = e.kind; rights = Some (rights_at (body_in_slot slot page)) }

-- the file of a name in a directory that the session has
abbrev pub met_in : SessionSeen → ℕ → List ℕ → Option Met
met_in s dir name =
    option_and_then (λ place. option_and_then (λ e. option_map (met_of place.slot e) (block_shown s dir place.block)) (entry_shown s dir place)) (place_shown s dir name)

-- the session after a look-up
abbrev pub found_in : SessionSeen → ℕ → SessionSeen
found_in s dir = record s { finds = (if is_among dir s.indexed then raised s.finds else s.finds) }

-- ---- directories that are entered

-- the last call of an entering, which comes to no file of its own
abbrev pub EnteringEnds : Result (Unit {0}) WalkEnd → List Call → List Needed → Type 0
EnteringEnds (Ok done) last need = (last ≡ []) × (need ≡ [])
EnteringEnds (Err end) last need = IsStopped end × EndsBy end last need

-- the grants of entering this one directory
abbrev pub here : Bool → Need → Nodes → Creds → ℕ → List Needed
here shown need now creds ino = entered_needs shown ino (kind_for need) (enter now creds need ino) (λ dir. [])

-- what is true of an entering in the nodes that the session shows
abbrev pub Enters : Bool → Need → Nodes → Creds → SessionSeen → ℕ → Result (Unit {0}) WalkEnd → List Needed → Type 0
Enters shown need now creds s ino (Ok done) these =
    (enter now creds need ino ≡ Ok ino) × (asked (served_by s) (here shown need now creds ino) ≡ these)
Enters shown need now creds s ino (Err (Reply reply)) these =
    (enter now creds need ino ≡ Err reply) × (asked (served_by s) (here shown need now creds ino) ≡ these)
Enters shown need now creds s ino (Err (At n)) these = ⊥
Enters shown need now creds s ino (Err end) these = (rest : List Needed) × (asked (served_by s) (here shown need now creds ino) ≡ these ++ rest)

-- a directory that was entered is had, and may be read
abbrev pub HasEntered : DeskSeen → Result (Unit {0}) WalkEnd → SessionSeen → Need → ℕ → Type 0
HasEntered desk (Ok done) s' need ino = IsHad s' ino (kind_for need) × MayLookIn desk s' ino
HasEntered desk (Err end) s' need ino = Unit {0}

-- A directory is entered, from a desk and a session to these. To be read it is taken by a lease for reading, which leaves the parcel.
pub record Entered {D : Type 0} (called : D → Ask → Told → D → Type 0) (seen : D → DeskSeen) (d : D) (s : SessionSeen) (m : Met) (need' : Need) (result' : Result (Unit {0}) WalkEnd) (d' : D) (s' : SessionSeen) : Type 0 where
  pub more : List Lease
  pub last : List Call
  pub needs : List Needed
  pub way : Way called seen d s more last d' s'
  pub may : MayWalk (seen d') s'
  pub ends : EnteringEnds result' last needs
  pub has : HasEntered (seen d') result' s' need' m.ino
  pub reading : need' ≡ ToRead → s'.parcel ≡ s.parcel
  pub busy :
      (n : ℕ) (kind : GrantKind) (holder : Holder) → In {X = Call} (record { ask = Grant n kind; told = NotLent (BusyGrant holder) }) last
      → (n ≡ m.ino) × (kind ≡ kind_for need') × HasCause (seen d) m.ino (kind_for need') (BusyGrant holder)
  pub enters :
      (shown : Bool)
      → InBoth (seen d') s' (λ nodes now. IsMet shown s' nodes now (seen d').creds m → Enters shown need' now (seen d').creds s m.ino result' (map need_of more ++ needs))
