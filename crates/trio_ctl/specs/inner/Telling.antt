-- What the log tells of an answer. Cited by private functions alone.
use Rattle.std.specs.Prelude.{◌≡◌, List, Option, Some, None, Result, Ok, Err, length}
use Rattle.trio_allot.specs.Out.{inode_numbers, page_numbers}
use Rattle.trio_lease.specs.declared.fresh.Allotted.{Allotted}
use Rattle.trio_lease.specs.declared.lease.Lease.{Lease}
use Rattle.trio_nodes.specs.declared.answers.AllotFault.{AllotFault}
use Rattle.trio_nodes.specs.declared.answers.AllotFault.TheVariants.{NoMemory as NoAllotMemory}
use Rattle.trio_nodes.specs.declared.answers.GrantFault.{GrantFault}
use Rattle.trio_nodes.specs.declared.answers.GrantFault.TheVariants.{Busy as BusyGrant, NoMemory as NoGrantMemory}
use Rattle.trio_nodes.specs.declared.entry.AllotAnswer.{AllotAnswer}
use Rattle.trio_nodes.specs.declared.entry.AllotAnswer.TheVariants.{Given, Refused as NotGiven}
use Rattle.trio_nodes.specs.declared.entry.GrantAnswer.{GrantAnswer}
use Rattle.trio_nodes.specs.declared.entry.GrantAnswer.TheVariants.{Granted, Refused as NotGranted}
use Rattle.trio_ctl.specs.Answers.{children_told}
use Rattle.trio_layout.specs.Case.{Case}
use Rattle.trio_state.specs.Listed.{Notes, accepted_blocks, accepted_files, notes_after, refused_blocks, refused_files}
use Rattle.trio_nodes.specs.declared.answers.ReleaseAnswer.{ReleaseAnswer}
use Rattle.trio_nodes.specs.declared.answers.ReleaseAnswer.TheVariants.{Accepted as AcceptedBundle, Refused as RefusedBundle}
use Rattle.trio_nodes.specs.Handed.{Handed}
use Rattle.trio_nodes.specs.declared.entry.RawFile.{RawFile}
use Rattle.trio_entries.specs.declared.telling.Told.{Told}
use Rattle.trio_open.specs.declared.numbers.Numbers.{Numbers}
use Rattle.trio_open.specs.inner.Numbers.{HasRoomFor}
use Rattle.trio_ctl.specs.declared.outcome.Outcome.{Outcome}
use Rattle.trio_ctl.specs.declared.outcome.Outcome.TheVariants.{Accepted, Refused}

-- of a grant; Busy and want of memory make no entry
abbrev pub grant_told : Result Lease GrantFault → Option GrantAnswer
grant_told (Ok lease) = Some (Granted (children_told lease))
grant_told (Err (BusyGrant holder)) = None
grant_told (Err NoGrantMemory) = None
grant_told (Err fault) = Some (NotGranted fault)

-- of an allotment; want of memory makes no entry
abbrev pub allot_told : Result Allotted AllotFault → Option AllotAnswer
allot_told (Ok given) = Some (Given (page_numbers given.pages.items) (inode_numbers given.inodes.items))
allot_told (Err NoAllotMemory) = None
allot_told (Err fault) = Some (NotGiven fault)

-- an allotment that is given has no more than there is room for
abbrev pub HasRoomFrom : Numbers → Result Allotted AllotFault → Type 0
HasRoomFrom to (Ok given) = HasRoomFor (length given.pages.items) (length given.inodes.items) to
HasRoomFrom to (Err fault) = Unit {0}

-- of a judged bundle, as it was handed in: the files and the blocks that its outcome tells
abbrev pub TellsOutcome : Case → Notes → Handed → Outcome → Told → Type 0
TellsOutcome c notes h (Accepted l) t =
    (t.files ≡ accepted_files c l.listing notes) × (t.bundle ≡ record { handed = h; blocks = accepted_blocks c l.listing notes h t.files })
TellsOutcome c notes h (Refused rule ino page slot) t =
    (t.files ≡ refused_files c notes) × (t.bundle ≡ record { handed = h; blocks = refused_blocks c notes h t.files })

-- the notes after a release with this verdict: what its files tell, if it was accepted
abbrev pub noted_by : ReleaseAnswer → List RawFile → Notes → Notes
noted_by AcceptedBundle files notes = notes_after files notes
noted_by (RefusedBundle rule ino page slot) files notes = notes
