-- A session begins able to go on, and what it takes in the course of a call leaves it so, and shows the same nodes.
use Rattle.std.specs.Prelude.{◌≡◌, ℕ, List, [], Option, None, Ok}
use Rattle.trio_rights.specs.Row.{Row}
use Rattle.trio_lists.specs.Lists.{In}
use Rattle.trio_layout.specs.Case.{file_in}
use Rattle.trio_layout.specs.Entries.{Listed}
use Rattle.trio_layout.specs.JudgedFiles.{judged_files}
use Rattle.trio_layout.specs.Survey.{FileRead, Met}
use Rattle.trio_lease.specs.Shown.{Shown, LentFile}
use Rattle.trio_lease.specs.declared.fresh.Allotted.{Allotted}
use Rattle.trio_lease.specs.declared.lease.Lease.TheVariants.{Hold, Read, Write}
use Rattle.trio_lease.specs.declared.parts.HoldParts.{HoldParts}
use Rattle.trio_nodes.specs.Nodes.{Nodes}
use Rattle.trio_nodes.specs.declared.grant.GrantKind.{GrantKind}
use Rattle.trio_desk.specs.Call.{Allot, DeskSeen, Given, Grant, Lent, SeenAfter}
use Rattle.trio_desk.specs.Ready.{ArePossible, ComesToShown}
use Rattle.trio_desk.specs.Out.{IsFreshAllotment, IsFreshLease, OutAlike, ino_numbers, nothing_out, page_numbers}
use Rattle.trio_laws.specs.session.Sees.{AboveIsOpen}
use Rattle.trio_laws.specs.session.Takes.{Takes, case_as_stands}
use Rattle.trio_session.specs.Seen.{SessionSeen, IsOn, emptied, in_hand, open_kind, spare_numbers, spare_pages, made_file}
use Rattle.trio_session.specs.Asked.{with_allotted, with_lease}
use Rattle.trio_edit_laws.specs.Written.{MayEdit}
use Rattle.trio_edit_laws.specs.EditLaws.{AreSpare}

-- a session that has nothing, at a desk of its library that has nothing out
pub record Begins (desk : DeskSeen) (s : SessionSeen) : Type 0 where
  pub lib : s.lib ≡ desk.lib
  pub creds : s.creds ≡ desk.creds
  pub out : OutAlike desk.out nothing_out
  pub empty : s ≡ emptied s

-- It may go on, and it has no calls.
abbrev pub BeginsToEdit : Type 0
BeginsToEdit = (desk : DeskSeen) (s : SessionSeen) → Begins desk s → MayEdit desk s × ComesToShown desk s.parcel s.reads s.calls

-- More is in hand on the desk as it is now: the session may go on, and the same nodes are shown.
pub record TookMore (desk : DeskSeen) (s s' : SessionSeen) : Type 0 where
  pub takes : Takes desk (in_hand s) (in_hand s')
  pub may : MayEdit desk s'

-- A write lease was given on a file that the session neither writes nor made.
abbrev pub KeepsWrite : Type 0
KeepsWrite =
    (desk desk' : DeskSeen) (s : SessionSeen) (ino : ℕ) (kind : GrantKind) (f : LentFile)
    → MayEdit desk s → open_kind s ino ≡ None → IsFreshLease desk.lib ino desk.sizes desk.out (Write f)
    → SeenAfter desk (Grant ino kind) (Lent (Write f)) desk' → IsOn desk' (with_lease s (Write f))
    → TookMore desk' s (with_lease s (Write f))

-- A read lease was given on a file that the session didn't make.
abbrev pub KeepsReads : Type 0
KeepsReads =
    (desk desk' : DeskSeen) (s : SessionSeen) (ino : ℕ) (kind : GrantKind) (f : Shown)
    → MayEdit desk s → made_file s ino ≡ None → IsFreshLease desk.lib ino desk.sizes desk.out (Read f)
    → SeenAfter desk (Grant ino kind) (Lent (Read f)) desk' → IsOn desk' (with_lease s (Read f))
    → TookMore desk' s (with_lease s (Read f))

-- a directory that is judged lists a file of this number, as it stands
pub record IsListedBy (desk : DeskSeen) (s : SessionSeen) (n : ℕ) : Type 0 where
  pub directory : Met
  pub file : FileRead
  pub listed : Listed
  pub judged : In directory (judged_files (case_as_stands desk (in_hand s)))
  pub reads : file_in (case_as_stands desk (in_hand s)) directory ≡ Ok file
  pub among : In listed file.entries
  pub number : listed.entry.ino ≡ n

-- so does one, whatever nodes are possible
abbrev pub IsListedNow : DeskSeen → SessionSeen → ℕ → Type 0
IsListedNow desk s n = (nodes : Nodes) (rows : List (Option Row)) → ArePossible desk s.parcel s.reads nodes rows → IsListedBy desk s n

-- A hold was given on a file that the session didn't make, that a directory in hand lists, and above which each directory gives reading.
abbrev pub KeepsHold : Type 0
KeepsHold =
    (desk desk' : DeskSeen) (s : SessionSeen) (ino : ℕ) (kind : GrantKind) (k : HoldParts)
    → MayEdit desk s → made_file s ino ≡ None → ComesToShown desk s.parcel s.reads s.calls → IsListedNow desk s k.ino
    → ((nodes : Nodes) (rows : List (Option Row)) → ArePossible desk s.parcel s.reads nodes rows → AboveIsOpen nodes desk.creds k.ino)
    → IsFreshLease desk.lib ino desk.sizes desk.out (Hold k)
    → SeenAfter desk (Grant ino kind) (Lent (Hold k)) desk' → IsOn desk' (with_lease s (Hold k))
    → TookMore desk' s (with_lease s (Hold k))

-- Pages and numbers were allotted where the calls come to what is shown: where no page was spare before, those that are now are all
-- zero, and no file lists them; and where no number was spare, those that were allotted are.
abbrev pub KeepsAllotment : Type 0
KeepsAllotment =
    (desk desk' : DeskSeen) (s : SessionSeen) (wanted_pages wanted_numbers : ℕ) (given : Allotted)
    → let pages = page_numbers given.pages.items in let numbers = ino_numbers given.inodes.items in
    MayEdit desk s → ComesToShown desk s.parcel s.reads s.calls → IsFreshAllotment desk.lib desk.sizes desk.out given
    → SeenAfter desk (Allot wanted_pages wanted_numbers) (Given pages numbers) desk' → IsOn desk' (with_allotted s pages numbers)
    → TookMore desk' s (with_allotted s pages numbers)
    × (spare_pages s ≡ [] → (spare_pages (with_allotted s pages numbers) ≡ pages) × AreSpare desk' (with_allotted s pages numbers))
    × (spare_numbers s ≡ [] → spare_numbers (with_allotted s pages numbers) ≡ numbers)
