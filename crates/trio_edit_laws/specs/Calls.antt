-- A session that may make calls: what it keeps, how it begins, and that it may always settle.
use Rattle.std.specs.Prelude.{◌≡◌, ◌≢◌, []}
use Rattle.trio_lists.specs.Lists.{In}
use Rattle.trio_nodes.specs.declared.call.Done.{Done}
use Rattle.trio_desk.specs.Call.{DeskSeen}
use Rattle.trio_desk.specs.Out.{ino_numbers}
use Rattle.trio_desk.specs.Ready.{ComesToShown, Ready}
use Rattle.trio_session.specs.Seen.{SessionSeen, spare_numbers, spare_pages}
use Rattle.trio_edit_laws.specs.Written.{MayEdit}
use Rattle.trio_edit_laws.specs.TakingLaws.{Begins}

-- It may go on with its edits, and its calls come to what it shows; each file that they made has a number of its allotments; and each
-- allotted page and number is in place.
pub record MayCall (desk : DeskSeen) (s : SessionSeen) : Type 0 where
  pub edits : MayEdit desk s
  pub comes : ComesToShown desk s.parcel s.reads s.calls
  pub made : (d : Done) → In d s.calls → d.made ≢ 0 → In d.made (ino_numbers s.parcel.inodes)
  pub spent : spare_pages s ≡ []
  pub spent_numbers : spare_numbers s ≡ []

-- A session in the course of a call: pages and numbers may be spare, and all else is as before a call.
pub record MayGoOn (desk : DeskSeen) (s : SessionSeen) : Type 0 where
  pub edits : MayEdit desk s
  pub comes : ComesToShown desk s.parcel s.reads s.calls
  pub made : (d : Done) → In d s.calls → d.made ≢ 0 → In d.made (ino_numbers s.parcel.inodes)

-- A session that has nothing may make calls, where nothing is out to its library.
abbrev pub BeginsToCall : Type 0
BeginsToCall = (desk : DeskSeen) (s : SessionSeen) → Begins desk s → MayCall desk s

-- What a session would hand in that may make calls is ready.
abbrev pub MayBeSettled : Type 0
MayBeSettled = (desk : DeskSeen) (s : SessionSeen) → MayCall desk s → Ready desk s.parcel s.reads s.calls
