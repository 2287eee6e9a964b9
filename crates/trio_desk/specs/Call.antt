-- The calls of a desk and their answers, as plain data.
use Rattle.std.specs.Prelude.{◌≡◌, ⊤, ℕ, List, Option, None, Result, Ok, Err}
use Rattle.trio_rights.specs.declared.rights.LibNo.{LibNo}
use Rattle.trio_rights.specs.declared.rights.Creds.{Creds}
use Rattle.trio_nodes.specs.declared.grant.GrantKind.{GrantKind}
use Rattle.trio_nodes.specs.declared.answers.GrantFault.{GrantFault}
use Rattle.trio_nodes.specs.declared.answers.GrantFault.TheVariants.{Busy as BusyGrant}
use Rattle.trio_nodes.specs.declared.answers.AllotFault.{AllotFault}
use Rattle.trio_nodes.specs.declared.answers.ReleaseAnswer.{ReleaseAnswer}
use Rattle.trio_nodes.specs.declared.answers.ReleaseFault.{ReleaseFault}
use Rattle.trio_nodes.specs.declared.answers.ReleaseFault.TheVariants.{NotClosed as NotClosedParcel}
use Rattle.trio_nodes.specs.declared.answers.ModeFault.{ModeFault}
use Rattle.trio_nodes.specs.declared.answers.ModeFault.TheVariants.{Busy as BusyMode, NoMemory as NoModeMemory}
use Rattle.trio_nodes.specs.declared.call.Call.{Call}
use Rattle.trio_nodes.specs.declared.call.Done as done
use Rattle.trio_lists.specs.Lists.{In}
use Rattle.trio_lease.specs.Shown.{Shown}
use Rattle.trio_lease.specs.declared.lease.Lease.{Lease}
use Rattle.trio_lease.specs.declared.fresh.Allotted.{Allotted}
use Rattle.trio_desk.specs.Contents.{Rights, Sizes}
use Rattle.trio_desk.specs.Out.{LibOut, Parcel, OutAlike, IsClosed, IsLowestParted, files_out, nothing_out, with_lease, with_allotted, without_read, without_reads, without_parcel, page_numbers, ino_numbers}

-- What a library asks of its desk; leases and parcels as they stand. With a settle and a change of mode read leases are handed back,
-- which are given back before it.
pub data Ask : Type 0 where
  Grant : (ino : ℕ) (kind : GrantKind) → Ask
  Allot : (pages numbers : ℕ) → Ask
  GiveBack : (lease : Shown) → Ask
  Release : (parcel : Parcel) → Ask
  Settle : (parcel : Parcel) (back : List Shown) (calls : List done.Done) → Ask
  SetMode : (ino mode : ℕ) (back : List Shown) (call : Option Call) → Ask

-- what it is told
pub data Told : Type 0 where
  Lent : (lease : Lease) → Told
  NotLent : (fault : GrantFault) → Told
  Given : (pages numbers : List ℕ) → Told
  NotGiven : (fault : AllotFault) → Told
  Done : Told
  Judged : (answer : ReleaseAnswer) → Told
  NotJudged : (fault : ReleaseFault) → Told
  Settled : Told
  NotSettled : Told
  ModeSet : Told
  NotModeSet : (fault : ModeFault) → Told

-- What contracts see of a desk: its library, that library's credentials, and what it has out; and, once and for all, the sizes of the
-- image and the rights of its root.
pub record DeskSeen : Type 0 where
  pub lib : LibNo
  pub creds : Creds
  pub out : LibOut
  pub sizes : Sizes
  pub root : Rights

-- what is out after an answer; a refusal leaves it
abbrev pub out_after : LibOut → Ask → Told → LibOut
out_after out (Grant ino kind) (Lent lease) = with_lease out lease
out_after out (Allot wanted_pages wanted_numbers) (Given pages numbers) = with_allotted out pages numbers
out_after out (GiveBack lease) Done = without_read out lease.ino
out_after out (Release parcel) (Judged answer) = without_parcel out parcel
out_after out (Settle parcel back calls) Settled = nothing_out
out_after out (SetMode ino mode back call) ModeSet = without_reads out back
out_after out ask told = out

-- a call changes what is out as its answer says, and nothing else of what is seen
pub record SeenAfter (old : DeskSeen) (ask : Ask) (told : Told) (new : DeskSeen) : Type 0 where
  pub lib : new.lib ≡ old.lib
  pub creds : new.creds ≡ old.creds
  pub sizes : new.sizes ≡ old.sizes
  pub root : new.root ≡ old.root
  pub out : OutAlike new.out (out_after old.out ask told)

-- a parcel that is judged is closed; one that isn't comes back with the lowest number at which it isn't
abbrev pub TellsClosed : LibOut → Parcel → Told → Type 0
TellsClosed out b (Judged answer) = IsClosed out b
TellsClosed out b (NotJudged (NotClosedParcel n)) = IsLowestParted out b n
TellsClosed out b told = ⊤

-- Busy names another library, unless the library itself has something out: on the file of a grant that it asks, or beside the read
-- leases that it hands back for a change of mode.
abbrev pub TellsHolder : LibNo → LibOut → Ask → Told → Type 0
TellsHolder lib out (Grant ino kind) (NotLent (BusyGrant holder)) = holder.lib ≡ lib → In ino (files_out out)
TellsHolder lib out (SetMode ino mode back call) (NotModeSet (BusyMode holder)) = holder.lib ≡ lib → (n : ℕ) × In n (files_out (without_reads out back))
TellsHolder lib out ask told = ⊤

-- ---- answers as they are told

abbrev pub lease_told : Result Lease GrantFault → Told
lease_told (Ok lease) = Lent lease
lease_told (Err fault) = NotLent fault

abbrev pub allot_told : Result Allotted AllotFault → Told
allot_told (Ok given) = Given (page_numbers given.pages.items) (ino_numbers given.inodes.items)
allot_told (Err fault) = NotGiven fault

abbrev pub release_told : {B : Type 0} → Result ReleaseAnswer B → (B → ReleaseFault) → Told
release_told (Ok answer) fault = Judged answer
release_told (Err back) fault = NotJudged (fault back)

abbrev pub settle_told : {A B : Type 0} → Result A B → Told
settle_told (Ok done) = Settled
settle_told (Err back) = NotSettled

abbrev pub mode_told : {A B : Type 0} → Result A B → (B → ModeFault) → Told
mode_told (Ok done) fault = ModeSet
mode_told (Err back) fault = NotModeSet (fault back)

-- the call of a change of mode that comes back: it stands in the entry of a refusal, and Busy and want of memory make none
abbrev pub call_back : Option Call → ModeFault → Option Call
call_back call (BusyMode holder) = call
call_back call NoModeMemory = call
call_back call fault = None
