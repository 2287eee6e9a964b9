-- Which entry an event with its answer makes, and which event and answer an entry tells of.
use Rattle.std.specs.Prelude.{ℕ, ◌+◌, ◌*◌, ◌==◌, nat_lt, min, Bool, true, false, not, ◌&&◌, ◌||◌, List, [], ◌∷◌, map, Option, None, Some, is_some, Result, Ok, Err, if◌then◌else◌, slice_get}
use Rattle.std.specs.List.{filter_map, flat_map, list_any}
use Rattle.std.specs.Option.{option_map_or, unwrap_or}
use Rattle.std.specs.Str.{bytes_eq}
use Rattle.trio_rights.specs.ByKind.{covers_blocks, is_directory}
use Rattle.trio_rights.specs.Row.{Row}
use Rattle.trio_nodes.specs.declared.grant.GrantKind.{GrantKind}
use Rattle.trio_nodes.specs.declared.answers.GrantFault.{GrantFault}
use Rattle.trio_nodes.specs.declared.answers.GrantFault.TheVariants.{NotLive, Denied, NoParent}
use Rattle.trio_nodes.specs.declared.answers.AllotFault.TheVariants.{NoPages, NoInodes}
use Rattle.trio_nodes.specs.declared.answers.ModeFault.{ModeFault}
use Rattle.trio_nodes.specs.declared.answers.ModeFault.TheVariants.{NotLive as NoFile, NotOwner, BadMode}
use Rattle.trio_nodes.specs.declared.answers.ReleaseAnswer.{ReleaseAnswer}
use Rattle.trio_nodes.specs.declared.answers.ReleaseAnswer.TheVariants.{Accepted, Refused}
use Rattle.trio_lists.specs.Lists.{is_among}
use Rattle.trio_layout.specs.Core.{Location, page_of}
use Rattle.trio_layout.specs.Chain.{Chain}
use Rattle.trio_rights.specs.Sheets.{Sheet}
use Rattle.trio_layout.specs.Image.{Image, row_at}
use Rattle.trio_state.specs.State.{State, settled}
use Rattle.trio_layout.specs.Pages.{settled_chain}
use Rattle.trio_lists.specs.Counting.{count_up}
use Rattle.trio_rights.specs.Bundle.{Written, Bundle, is_written}
use Rattle.trio_layout.specs.Accept.{next}
use Rattle.trio_state.specs.Bundles.{refused_image}
use Rattle.trio_state.specs.Tells.{Why}
use Rattle.trio_state.specs.Step as step
use Rattle.trio_state.specs.Step.{Event, CtlAnswer}
use Rattle.trio_nodes.specs.declared.call.Call.{Call}
use Rattle.trio_nodes.specs.declared.call.Done.{Done}
use Rattle.trio_nodes.specs.declared.entry.RawFile.{RawFile}
use Rattle.trio_nodes.specs.Told.{ToldBlock}
use Rattle.trio_nodes.specs.declared.entry.HandedPage.{HandedPage}
use Rattle.trio_nodes.specs.Handed.{HandedFile, Handed}
use Rattle.trio_nodes.specs.declared.entry.GrantAnswer.{GrantAnswer}
use Rattle.trio_nodes.specs.declared.entry.GrantAnswer.TheVariants.{Granted, Refused as NotGranted}
use Rattle.trio_nodes.specs.declared.entry.AllotAnswer.{AllotAnswer}
use Rattle.trio_nodes.specs.declared.entry.AllotAnswer.TheVariants.{Given, Refused as NotGiven}
use Rattle.trio_nodes.specs.declared.entry.Entry.{Entry}
use Rattle.trio_nodes.specs.declared.entry.Entry.TheVariants.{Grant, Allot, Back, Raw, Batch, Mode}
use Rattle.trio_laws.specs.history.Stands.{guard_of, name_of, size_of}

-- ---- a bundle as it is handed in

-- a page as it was handed in, without its mark
abbrev pub sheet_handed : HandedPage → Sheet
sheet_handed p = record { page = p.no; bytes = p.bytes }

-- a written file as it was handed in
abbrev pub written_handed : HandedFile → Written
written_handed w = record { ino = w.ino; kind = w.kind; body = w.body; index = map sheet_handed w.index; blocks = map sheet_handed w.blocks }

-- the bundle, without its marks
abbrev pub bundle_handed : Handed → Bundle
bundle_handed h = record {
  writes = map written_handed h.writes;
  holds = h.holds;
  pages = map sheet_handed h.pages;
  numbers = h.numbers;
}

-- ---- the files and blocks of a release

-- the name of a live number; none where there is no file
abbrev pub name_by : Image → ℕ → Option Row → List ℕ
name_by image n None = []
name_by image n (Some r) = name_of image n r

-- The files of a release: the written and held ones, and of all others those that are new or have another name.
abbrev pub is_told : Image → Image → Bundle → ℕ → Bool
is_told before after b n =
    is_written b n || is_among n b.holds
    || (is_some (row_at after n) && not (bytes_eq (name_by before n (row_at before n)) (name_by after n (row_at after n))))

-- a file as it is told: with its row, its name, its size and its guard in this image
abbrev pub told_file : Image → Bundle → ℕ → Bool → Row → RawFile
told_file image b n gone r = record {
  ino = n;
  given = is_written b n || is_among n b.holds;
  gone = gone;
  parent = r.parent;
  name = name_of image n r;
  kind = r.kind;
  mode = r.mode;
  uid = r.uid;
  gid = r.gid;
  size = size_of image n;
  guard = guard_of image n;
}

-- by the rows before and after: a file as it stands after the release; one that is gone as it stood before
abbrev pub told_by : Image → Image → Bundle → ℕ → Option Row → Option Row → Option RawFile
told_by before after b n was (Some r) = Some (told_file after b n false r)
told_by before after b n (Some r) None = Some (told_file before b n true r)
told_by before after b n None None = None

-- what is told of a number
abbrev pub raw_file : Image → Image → Bundle → ℕ → Option RawFile
raw_file before after b n = if is_told before after b n then told_by before after b n (row_at before n) (row_at after n) else None

-- the files that are told, in the order of their numbers
abbrev pub raw_files : Image → Image → Bundle → List RawFile
raw_files before after b = filter_map (raw_file before after b) (count_up 1 before.core.inodes)

-- the blocks of a chain that could be read
abbrev pub blocks_in : Result Chain Location → List ℕ
blocks_in (Ok c) = c.blocks
blocks_in (Err place) = []

-- the page numbers of a file's blocks
abbrev pub block_numbers : Image → ℕ → Option Row → List ℕ
block_numbers image n None = []
block_numbers image n (Some r) = blocks_in (settled_chain image r.kind n)

-- the page is a lent block that is marked as touched
abbrev pub is_touched : Handed → ℕ → Bool
is_touched h page = list_any (λ w. list_any (λ p. p.no == page && p.touched) w.blocks) h.writes

-- The block is told: its writer may have changed it, another page stands for it, or the size counts bytes of it that the one before
-- didn't.
abbrev pub is_block_told : Image → Image → Handed → ℕ → ℕ → ℕ → Bool
is_block_told before after h n at page =
    is_touched h page
    || not (option_map_or (λ q. q == page) (slice_get (block_numbers before n (row_at before n)) at) false)
    || nat_lt (size_of before n) (min (size_of after n) (4096 * at + 4096))

-- those of a file's blocks from one position on that are told, with what stands there after the release
abbrev pub told_blocks : Image → Image → Handed → ℕ → ℕ → List ℕ → List ToldBlock
told_blocks before after h n at [] = []
told_blocks before after h n at (page ∷ pages) =
    let rest = told_blocks before after h n (at + 1) pages in
    if is_block_told before after h n at page
    then record { ino = n; at = at; bytes = unwrap_or (page_of after.core page) [] } ∷ rest
    else rest

-- Blocks of a file are told at all: not of a directory, and after a refusal not of a guarded file, whose blocks are back.
abbrev pub tells_blocks : ReleaseAnswer → RawFile → Bool
tells_blocks Accepted f = not (is_directory f.kind)
tells_blocks (Refused rule ino page slot) f = not (covers_blocks f.kind f.guard)

-- those of a file that isn't gone, if any are told
abbrev pub told_blocks_of : Image → Image → Handed → RawFile → Bool → List ToldBlock
told_blocks_of before after h f true = if f.gone then [] else told_blocks before after h f.ino 0 (block_numbers after f.ino (row_at after f.ino))
told_blocks_of before after h f false = []

-- the blocks that are told of these files after this verdict
abbrev pub raw_blocks : ReleaseAnswer → Image → Image → Handed → List RawFile → List ToldBlock
raw_blocks verdict before after h files = flat_map (λ f. told_blocks_of before after h f (tells_blocks verdict f)) files

-- the entry of a release after which the second image is settled
abbrev pub raw_entry : Image → ℕ → Handed → ReleaseAnswer → Image → Entry
raw_entry before lib h verdict after =
    let files = raw_files before after (bundle_handed h) in
    Raw (record { 0 = lib }) verdict files (record { handed = h; blocks = raw_blocks verdict before after h files })

-- ---- entries

-- What is told beside an event: the bundle with the marks of its pages, the calls of a settle, the call of a change of mode.
pub record Beside : Type 0 where
  pub handed : Handed
  pub calls : List Done
  pub call : Option Call

-- the entry of a grant that is refused
abbrev pub grant_entry : ℕ → ℕ → GrantKind → GrantFault → Option Entry
grant_entry lib ino kind NotLive = Some (Grant (record { 0 = lib }) ino kind (NotGranted NotLive))
grant_entry lib ino kind (Denied by) = Some (Grant (record { 0 = lib }) ino kind (NotGranted (Denied by)))
grant_entry lib ino kind NoParent = Some (Grant (record { 0 = lib }) ino kind (NotGranted NoParent))
grant_entry lib ino kind _ = None

-- the entry of a change of mode that is refused
abbrev pub mode_entry : ℕ → ℕ → ℕ → Option Call → ModeFault → Option Entry
mode_entry lib ino mode call NoFile = Some (Mode (record { 0 = lib }) ino mode (Err NoFile) call)
mode_entry lib ino mode call NotOwner = Some (Mode (record { 0 = lib }) ino mode (Err NotOwner) call)
mode_entry lib ino mode call BadMode = Some (Mode (record { 0 = lib }) ino mode (Err BadMode) call)
mode_entry lib ino mode call _ = None

-- the verdict of a refusal for this cause
abbrev pub refused_for : Why → ReleaseAnswer
refused_for why = Refused why.rule why.ino why.page why.slot

-- The entry that an event with its answer makes. Busy, NotClosed and want of memory make none.
abbrev pub entry_of : State → Beside → Event → CtlAnswer → Option Entry
entry_of s x (step.Grant lib ino kind) (step.Granted children) = Some (Grant (record { 0 = lib }) ino kind (Granted children))
entry_of s x (step.Grant lib ino kind) (step.NotGranted fault) = grant_entry lib ino kind fault
entry_of s x (step.Allot lib pages numbers) (step.Given ps ns) = Some (Allot (record { 0 = lib }) pages numbers (Given ps ns))
entry_of s x (step.Allot lib pages numbers) (step.NoPages wanted free) = Some (Allot (record { 0 = lib }) pages numbers (NotGiven (NoPages wanted free)))
entry_of s x (step.Allot lib pages numbers) (step.NoInodes wanted free) = Some (Allot (record { 0 = lib }) pages numbers (NotGiven (NoInodes wanted free)))
entry_of s x (step.Back lib ino) step.Done = Some (Back (record { 0 = lib }) ino)
entry_of s x (step.Release lib b) step.Accepted = Some (raw_entry (settled s) lib x.handed Accepted (next (settled s) b))
entry_of s x (step.Release lib b) (step.Refused why) = Some (raw_entry (settled s) lib x.handed (refused_for why) (refused_image (settled s) b))
entry_of s x (step.Settle lib b) step.Settled = Some (Batch (record { 0 = lib }) x.calls x.handed)
entry_of s x (step.SetMode lib ino mode) step.ModeSet = Some (Mode (record { 0 = lib }) ino mode (Ok tt) x.call)
entry_of s x (step.SetMode lib ino mode) (step.NotModeSet fault) = mode_entry lib ino mode x.call fault
entry_of s x _ _ = None

-- ---- the event and the answer that an entry tells of

-- the event
abbrev pub event_of : Entry → Event
event_of (Grant lib ino kind answer) = step.Grant lib.0 ino kind
event_of (Allot lib pages inodes answer) = step.Allot lib.0 pages inodes
event_of (Back lib ino) = step.Back lib.0 ino
event_of (Raw lib verdict files bundle) = step.Release lib.0 (bundle_handed bundle.handed)
event_of (Batch lib calls handed) = step.Settle lib.0 (bundle_handed handed)
event_of (Mode lib ino mode answer call) = step.SetMode lib.0 ino mode

-- the controller's answer to a grant
abbrev pub granted_said : GrantAnswer → CtlAnswer
granted_said (Granted children) = step.Granted children
granted_said (NotGranted fault) = step.NotGranted fault

-- to an allotment
abbrev pub allotted_said : AllotAnswer → CtlAnswer
allotted_said (Given pages numbers) = step.Given pages numbers
allotted_said (NotGiven (NoPages wanted free)) = step.NoPages wanted free
allotted_said (NotGiven (NoInodes wanted free)) = step.NoInodes wanted free
allotted_said (NotGiven _) = step.NoMemory

-- to a release
abbrev pub verdict_said : ReleaseAnswer → CtlAnswer
verdict_said Accepted = step.Accepted
verdict_said (Refused rule ino page slot) = step.Refused (record { rule = rule; ino = ino; page = page; slot = slot })

-- to a change of mode
abbrev pub mode_said : Result (Unit {0}) ModeFault → CtlAnswer
mode_said (Ok done) = step.ModeSet
mode_said (Err fault) = step.NotModeSet fault

-- the answer
abbrev pub answer_of : Entry → CtlAnswer
answer_of (Grant lib ino kind answer) = granted_said answer
answer_of (Allot lib pages inodes answer) = allotted_said answer
answer_of (Back lib ino) = step.Done
answer_of (Raw lib verdict files bundle) = verdict_said verdict
answer_of (Batch lib calls handed) = step.Settled
answer_of (Mode lib ino mode answer call) = mode_said answer
