-- What a session is after an allotment that it wants in the course of a call: what is spare then, and what stays.
use Rattle.std.specs.Prelude.{◌≡◌, ◌⊎◌, ℕ, List, [], ◌∷◌, ◌++◌, map, length, None, Some, Result, Ok, Err}
use Rattle.trio_lists.specs.Lists.{In}
use Rattle.trio_rights.specs.declared.kind.Kind.{Kind}
use Rattle.trio_auxdir.specs.declared.place.Place.{Place}
use Rattle.trio_nodes.specs.declared.answers.AllotFault.{AllotFault}
use Rattle.trio_nodes.specs.declared.answers.AllotFault.TheVariants.{NoMemory}
use Rattle.trio_desk.specs.Call.{Allot, Ask, DeskSeen, NotGiven, Told}
use Rattle.trio_desk.specs.Calls.{Call, Calls}
use Rattle.trio_desk.specs.Edits.{TakesMore}
use Rattle.trio_desk.specs.Refusals.{TellsLack}
use Rattle.trio_session.specs.Asked.{IsAlike, IsGiven, SameDesk, allot_asks, took}
use Rattle.trio_session.specs.Deeds.{as_lent}
use Rattle.trio_session.specs.Seen.{SessionSeen, body_in, entry_shown, grant_in, in_hand, open_kind, place_shown, slots_shown, spare_numbers, spare_pages}
use Rattle.trio_edit_laws.specs.Calls.{MayGoOn}
use Rattle.trio_edit_laws.specs.EditLaws.{AreSpare}

-- ---- what stays

-- Which files are open stays, and each name is where it was, with its entry; and what is held and read stays, and which directories have
-- their index.
pub record NamesStay (s s' : SessionSeen) : Type 0 where
  pub opens : (n : ℕ) → open_kind s' n ≡ open_kind s n
  pub places : (n : ℕ) (name : List ℕ) → place_shown s' n name ≡ place_shown s n name
  pub entries : (n : ℕ) (name : List ℕ) (place : Place) → place_shown s n name ≡ Some place → entry_shown s' n place ≡ entry_shown s n place
  pub holds : s'.parcel.holds ≡ s.parcel.holds
  pub reads : s'.reads ≡ s.reads
  pub indexed : s'.indexed ≡ s.indexed

-- Each file that the session has open stays, with its chain and its body, and each shows the slots that it showed.
pub record FilesStay (s s' : SessionSeen) : Type 0 where
  pub made : s'.made ≡ s.made
  pub chains : s'.chains ≡ s.chains
  pub writes : s'.parcel.writes ≡ s.parcel.writes
  pub bodies : (n : ℕ) (kind : Kind) → open_kind s n ≡ Some kind → body_in s' n ≡ body_in s n
  pub slots : (n : ℕ) → slots_shown s' n ≡ slots_shown s n

-- From a desk and a session to these pages and numbers were wanted, and nothing else was taken.
pub record Wanted {D : Type 0} (called : D → Ask → Told → D → Type 0) (seen : D → DeskSeen) (d : D) (s : SessionSeen) (given last : List Call) (d' : D) (s' : SessionSeen) : Type 0 where
  pub each : (c : Call) → In c given → IsGiven c
  pub made : Calls called d (given ++ last) d'
  pub calls : s'.calls ≡ s.calls
  pub same : SameDesk (seen d) (seen d')
  pub more : TakesMore (seen d') (in_hand s) (in_hand s')
  pub may : MayGoOn (seen d') s'
  pub stays : NamesStay s s'

-- ---- what is given

-- so many numbers are spare, and on none of them the session has anything
pub record HasNumbers (s : SessionSeen) (numbers' : ℕ) : Type 0 where
  pub many : length (spare_numbers s) ≡ numbers'
  pub unlent : (n : ℕ) → In n (spare_numbers s) → grant_in s n ≡ None

-- the desk was asked for so many pages and numbers, and told this fault
pub record IsToldFault (pages numbers : ℕ) (fault : AllotFault) (last : List Call) : Type 0 where
  pub told : last ≡ record { ask = Allot pages numbers; told = NotGiven fault } ∷ []
  pub asks : allot_asks pages numbers ≡ Allot pages numbers ∷ []
  pub lack : TellsLack (Allot pages numbers) (NotGiven fault)

-- Nothing was given, by this fault: the desk told it, or wasn't asked for want of memory.
pub record IsUngiven (pages numbers : ℕ) (fault : AllotFault) (given last : List Call) (s' : SessionSeen) : Type 0 where
  pub none : given ≡ []
  pub ends : IsToldFault pages numbers fault last ⊎ ((last ≡ []) × (fault ≡ NoMemory))
  pub spent : spare_pages s' ≡ []
  pub spent_numbers : spare_numbers s' ≡ []

-- How it ends that so many pages and numbers are wanted: they are given, or not.
abbrev pub AllotEnds : DeskSeen → ℕ → ℕ → List Call → List Call → Result Unit AllotFault → SessionSeen → Type 0
AllotEnds desk pages numbers given last (Ok done) s' =
    (last ≡ []) × (allot_asks pages numbers ≡ map (λ c. c.ask) given) × AreSpare desk s' × (length (spare_pages s') ≡ pages) × HasNumbers s' numbers
AllotEnds desk pages numbers given last (Err fault) s' = IsUngiven pages numbers fault given last s'

-- So many pages and numbers were wanted, and no lease.
pub record Allotted {D : Type 0} (called : D → Ask → Told → D → Type 0) (seen : D → DeskSeen) (d : D) (s : SessionSeen) (pages numbers : ℕ) (result' : Result Unit AllotFault) (d' : D) (s' : SessionSeen) : Type 0 where
  pub given : List Call
  pub last : List Call
  pub wanted : Wanted called seen d s given last d' s'
  pub alike : IsAlike (took s (map (λ c. c.told) given)) s'
  pub lent : (x : SessionSeen) → as_lent x (took x (map (λ c. c.told) given)) ≡ x
  pub files : FilesStay s s'
  pub ends : AllotEnds (seen d') pages numbers given last result' s'
