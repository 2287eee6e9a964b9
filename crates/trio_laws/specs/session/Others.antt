-- What others do between a grant and a settle leaves what leases show as lent.
use Rattle.std.specs.Prelude.{◌≡◌, ◌≢◌, ℕ, List, [], ◌∷◌, map}
use Rattle.trio_rights.specs.declared.rights.Creds.{Creds}
use Rattle.trio_lists.specs.Lists.{In}
use Rattle.trio_nodes.specs.declared.grant.GrantKind.TheVariants.{Hold}
use Rattle.trio_nodes.specs.declared.entry.Entry.{Entry}
use Rattle.trio_nodes.specs.Tree.{IsTree}
use Rattle.trio_nodes.specs.After.{nodes_after}
use Rattle.trio_nodes.specs.Standing.{Standing, grants_after}
use Rattle.trio_nodes.specs.Legal.{Past, IsLegal, LegalFrom, past_after}
use Rattle.trio_state.specs.State.{State}
use Rattle.trio_state.specs.Given.{GivenEvent}
use Rattle.trio_state.specs.Kept.{Kept}
use Rattle.trio_state.specs.Run.{Move, Trace}
use Rattle.trio_state.specs.Step.{Event, CtlAnswer, Step}
use Rattle.trio_desk.specs.Contents.{Sizes, Rights}
use Rattle.trio_desk.specs.Agrees.{Leases, Agrees, AllStand, HasPlaces}
use Rattle.trio_laws.specs.Laws.{library_of}
use Rattle.trio_laws.specs.history.Entries.{event_of}
use Rattle.trio_laws.specs.history.Recorded.{LentWhole}
use Rattle.trio_laws.specs.history.Stands.{nodes_of, standing_of}

-- ---- by the history

-- the entry is one of another library
abbrev pub IsOthers : ℕ → Entry → Type 0
IsOthers lib e = library_of (event_of e) ≢ lib

-- no hold is on the root, which no directory lists
abbrev pub NoHoldOnRoot : List Standing → Type 0
NoHoldOnRoot grants = (g : Standing) → In g grants → g.kind ≡ Hold → g.ino ≢ 1

-- What leases show as lent stays true over a legal entry of another library, and their grants go on standing.
abbrev pub AgreesIsStable : Type 0
AgreesIsStable =
    (libs : List Creds) (p : Past) (e : Entry) (lib : ℕ) (sizes : Sizes) (root : Rights) (leases : Leases)
    → IsTree p.nodes → NoHoldOnRoot p.grants → IsLegal libs p e → IsOthers lib e
    → AllStand p.grants lib leases → Agrees sizes root leases p.nodes
    → Agrees sizes root leases (nodes_after libs p.nodes e) × AllStand (grants_after p.grants p.entries e) lib leases

-- each of these entries is another library's, and comes after a past of which the nodes are one tree
abbrev pub AreOthers : List Creds → ℕ → Past → List Entry → Type 0
AreOthers libs lib p [] = Unit {0}
AreOthers libs lib p (e ∷ es) = IsTree p.nodes × NoHoldOnRoot p.grants × IsOthers lib e × AreOthers libs lib (past_after libs p e) es

-- Whatever legal entries of others come between, nodes that agreed with the leases agree still.
abbrev pub AgreesThrough : Type 0
AgreesThrough =
    (libs : List Creds) (p last : Past) (es : List Entry) (lib : ℕ) (sizes : Sizes) (root : Rights) (leases : Leases)
    → LegalFrom libs p es last → AreOthers libs lib p es → AllStand p.grants lib leases → Agrees sizes root leases p.nodes
    → Agrees sizes root leases last.nodes × AllStand last.grants lib leases

-- ---- by the steps of the controller

-- What leases of a library show holds in a state: their grants are open, the nodes agree, and the rows name the slots.
pub record LeasesHold (s : State) (lib : ℕ) (sizes : Sizes) (root : Rights) (leases : Leases) : Type 0 where
  pub stand : AllStand (map standing_of s.open_grants) lib leases
  pub agrees : Agrees sizes root leases (nodes_of s)
  pub places : HasPlaces sizes leases s.home.rows

-- A step of another library leaves it so, whatever that library hands in and whatever it is answered.
abbrev pub StepLeavesLeases : Type 0
StepLeavesLeases =
    (s : State) (event : Event) (answer : CtlAnswer) (s' : State) (lib : ℕ) (sizes : Sizes) (root : Rights) (leases : Leases)
    → Kept s → LentWhole s → GivenEvent s event → Step s event answer s' → library_of event ≢ lib
    → LeasesHold s lib sizes root leases → LeasesHold s' lib sizes root leases

-- the state after moves
abbrev pub state_after : State → List Move → State
state_after s [] = s
state_after s (m ∷ moves) = state_after m.after moves

-- And so do any moves of others, one after another.
abbrev pub MovesLeaveLeases : Type 0
MovesLeaveLeases =
    (s : State) (moves : List Move) (lib : ℕ) (sizes : Sizes) (root : Rights) (leases : Leases)
    → Kept s → LentWhole s → Trace s moves → ((m : Move) → In m moves → library_of m.event ≢ lib)
    → LeasesHold s lib sizes root leases → LeasesHold (state_after s moves) lib sizes root leases
