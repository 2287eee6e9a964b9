-- What a settle comes to: what is ready is accepted, and ends in the nodes in which its calls end.
use Rattle.std.specs.Prelude.{◌≡◌, ◌≢◌, ℕ, List, map, None, Some, IsTrue}
use Rattle.trio_rights.specs.Row.{Row}
use Rattle.trio_rights.specs.Bundle.{Bundle}
use Rattle.trio_lists.specs.Lists.{In}
use Rattle.trio_layout.specs.Image.{row_at}
use Rattle.trio_layout.specs.Accept.{is_accepted, next}
use Rattle.trio_lease.specs.Shown.{Shown}
use Rattle.trio_lease.specs.declared.parts.HoldParts.{HoldParts}
use Rattle.trio_nodes.specs.declared.grant.GrantKind.TheVariants.{Hold}
use Rattle.trio_nodes.specs.declared.call.Done.{Done}
use Rattle.trio_nodes.specs.Handed.{Handed, HandedFile}
use Rattle.trio_nodes.specs.Nodes.{node_at}
use Rattle.trio_nodes.specs.After.{batch_nodes}
use Rattle.trio_nodes.specs.Legal.{LegalBatch}
use Rattle.trio_state.specs.State.{OpenGrant, State, settled, creds_of}
use Rattle.trio_state.specs.Given.{GivenEvent, HasNoRead}
use Rattle.trio_state.specs.Bundles.{Ends}
use Rattle.trio_state.specs.Run.{Move, Trace}
use Rattle.trio_state.specs.Step.{Event, Back, Settle, CtlAnswer, Settled, Step}
use Rattle.trio_state.specs.Tells.{case_in}
use Rattle.trio_desk.specs.Out.{Parcel}
use Rattle.trio_desk.specs.Agrees.{Agrees, AllStand, HasPlaces}
use Rattle.trio_desk.specs.Shows.{node_now}
use Rattle.trio_desk.specs.Call.{DeskSeen}
use Rattle.trio_desk.specs.Ready.{Ready, bundle_of, leases_in}
use Rattle.trio_desk.specs.Among.{IsForeign}
use Rattle.trio_laws.specs.Laws.{library_of}
use Rattle.trio_laws.specs.RuleLaws.{IsJudgeable}
use Rattle.trio_laws.specs.history.Entries.{bundle_handed}
use Rattle.trio_laws.specs.history.Recorded.{IsMarked, IsRecorded, LentWhole, Recorded, grown}
use Rattle.trio_laws.specs.history.Replays.{IsLibrary}
use Rattle.trio_laws.specs.history.Stands.{nodes_of, past_of, standing_of}
use Rattle.trio_laws.specs.session.Others.{state_after}

-- a hold is that of an open grant, with the body that this lent
pub record WasHeld (s : State) (h : HoldParts) : Type 0 where
  pub grant : OpenGrant
  pub is_open : In grant s.open_grants
  pub kind : grant.kind ≡ Hold
  pub ino : grant.ino ≡ h.ino
  pub body : h.body ≡ grant.body

-- the number of the library
abbrev pub lib_of : DeskSeen → ℕ
lib_of desk = desk.lib.0

-- What is true of a state in which this library settles: the bundle is one that the controller judges, and its holds are as they were
-- lent; the library knows its credentials and the sizes; and the nodes and rows of this moment agree with the leases as they were
-- lent.
pub record IsMoment (s : State) (desk : DeskSeen) (b : Parcel) (back : List Shown) : Type 0 where
  pub judgeable : IsJudgeable s (lib_of desk) (bundle_of b)
  pub creds : desk.creds ≡ creds_of s (lib_of desk)
  pub range : desk.sizes.range ≡ s.home.core.range
  pub inodes : desk.sizes.inodes ≡ s.home.core.inodes
  pub holds : (h : HoldParts) → In h b.holds → WasHeld s h
  pub agrees : Agrees desk.sizes desk.root (leases_in b back) (nodes_of s)
  pub places : HasPlaces desk.sizes (leases_in b back) s.home.rows

-- What is ready is accepted.
abbrev pub ReadyIsAccepted : Type 0
ReadyIsAccepted =
    (s : State) (desk : DeskSeen) (b : Parcel) (back : List Shown) (calls : List Done)
    → IsMoment s desk b back → Ready desk b back calls
    → IsTrue (is_accepted (settled s) (creds_of s (lib_of desk)) (bundle_of b))

-- Such a moment lasts through a step of another library, as long as the grants of the leases are open, and these stay open.
abbrev pub MomentLasts : Type 0
MomentLasts =
    (s : State) (event : Event) (answer : CtlAnswer) (s' : State) (desk : DeskSeen) (b : Parcel) (back : List Shown)
    → LentWhole s → GivenEvent s event → Step s event answer s' → library_of event ≢ lib_of desk
    → AllStand (map standing_of s.open_grants) (lib_of desk) (leases_in b back) → IsMoment s desk b back
    → IsMoment s' desk b back × AllStand (map standing_of s'.open_grants) (lib_of desk) (leases_in b back)

-- And through the library's own giving back of a read lease, which comes before a settle.
abbrev pub MomentLastsBack : Type 0
MomentLastsBack =
    (s : State) (ino : ℕ) (answer : CtlAnswer) (s' : State) (desk : DeskSeen) (b : Parcel) (back : List Shown)
    → GivenEvent s (Back (lib_of desk) ino) → Step s (Back (lib_of desk) ino) answer s'
    → IsMoment s desk b back → IsMoment s' desk b back

-- So what is ready is accepted whatever moves of others come between.
abbrev pub ReadyIsAcceptedThrough : Type 0
ReadyIsAcceptedThrough =
    (s : State) (moves : List Move) (desk : DeskSeen) (b : Parcel) (back : List Shown) (calls : List Done)
    → IsMoment s desk b back → AllStand (map standing_of s.open_grants) (lib_of desk) (leases_in b back) → LentWhole s
    → Trace s moves → ((m : Move) → In m moves → library_of m.event ≢ lib_of desk) → Ready desk b back calls
    → let end = state_after s moves in
    IsTrue (is_accepted (settled end) (creds_of end (lib_of desk)) (bundle_of b))

-- What an accepted bundle makes of the nodes, by a settle or by a release: just what it shows.
abbrev pub AcceptedIsShown : Type 0
AcceptedIsShown =
    (s s' : State) (lib : ℕ) (b : Bundle)
    → IsJudgeable s lib b → IsTrue (is_accepted (settled s) (creds_of s lib) b) → Ends s lib b (next (settled s) b) s'
    → (n : ℕ) → node_at (nodes_of s') n ≡ node_now (case_in s lib b) n (node_at (nodes_of s) n)

-- What is settled stands for just the nodes in which the calls end.
abbrev pub SettleEndsInCalls : Type 0
SettleEndsInCalls =
    (s s' : State) (desk : DeskSeen) (b : Parcel) (back : List Shown) (calls : List Done)
    → IsMoment s desk b back → Ready desk b back calls → Step s (Settle (lib_of desk) (bundle_of b)) Settled s'
    → nodes_of s' ≡ batch_nodes desk.creds calls (nodes_of s)

-- Once the read leases are back, the entry of the settle is legal: the tree does its calls so, kinds and rights stay, and what other
-- libraries have grants on is spared.
abbrev pub ReadyIsLegal : Type 0
ReadyIsLegal =
    (s : State) (desk : DeskSeen) (b : Parcel) (back : List Shown) (calls : List Done)
    → IsMoment s desk b back → Ready desk b back calls → HasNoRead s (lib_of desk)
    → LegalBatch (past_of s) (creds_of s (lib_of desk)) (lib_of desk) calls

-- So once the read leases are back all stays recorded, with the entry of the settle, which tells these calls and the bundle's pages.
abbrev pub SettleIsRecorded : Type 0
SettleIsRecorded =
    (r : Recorded) (s' : State) (desk : DeskSeen) (b : Parcel) (back : List Shown) (calls : List Done) (h : Handed)
    → IsRecorded r → IsLibrary r.state.creds (lib_of desk) → IsMoment r.state desk b back → Ready desk b back calls
    → HasNoRead r.state (lib_of desk) → bundle_handed h ≡ bundle_of b
    → ((w : HandedFile) → In w h.writes → IsMarked r.state (lib_of desk) w)
    → Step r.state (Settle (lib_of desk) (bundle_of b)) Settled s'
    → IsRecorded (grown r (record { handed = h; calls = calls; call = None }) (Settle (lib_of desk) (bundle_of b)) Settled s')

-- An accepted bundle leaves the rows of what lies in a directory that is none of the bundle's, so their places too.
abbrev pub PlacesStay : Type 0
PlacesStay =
    (s s' : State) (lib : ℕ) (b : Bundle)
    → IsJudgeable s lib b → IsTrue (is_accepted (settled s) (creds_of s lib) b) → Ends s lib b (next (settled s) b) s'
    → (directory n : ℕ) (r : Row) → IsForeign (case_in s lib b) directory
    → row_at s.home n ≡ Some r → r.parent ≡ directory → row_at s'.home n ≡ Some r
