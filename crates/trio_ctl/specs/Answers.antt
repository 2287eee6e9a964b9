-- What the controller's calls answer, as the steps have it.
use Rattle.std.specs.Prelude.{◌≡◌, ⊤, ℕ, Bool, List, Option, Some, None, Result, Ok, Err}
use Rattle.std.specs.Option.{option_map}
use Rattle.trio_grants.specs.declared.grant.Grant.{Grant}
use Rattle.trio_grants.specs.Grants.{Keyed, first_with, holder}
use Rattle.trio_nodes.specs.declared.grant.Holder.{Holder}
use Rattle.trio_lease.specs.declared.fresh.Allotted.{Allotted}
use Rattle.trio_lease.specs.declared.lease.Lease.{Lease}
use Rattle.trio_lease.specs.declared.lease.Lease.TheVariants.{Write as WriteLent, Read as ReadLent, Hold as HoldLent}
use Rattle.trio_allot.specs.Out.{inode_numbers, page_numbers}
use Rattle.trio_nodes.specs.declared.answers.AllotFault.{AllotFault}
use Rattle.trio_nodes.specs.declared.answers.AllotFault.TheVariants.{NoPages as NoFreePages, NoInodes as NoFreeInodes, NoMemory as NoAllotMemory}
use Rattle.trio_nodes.specs.declared.answers.GrantFault.{GrantFault}
use Rattle.trio_nodes.specs.declared.answers.GrantFault.TheVariants.{Busy as BusyGrant, NoMemory as NoGrantMemory}
use Rattle.trio_nodes.specs.declared.answers.ModeFault.{ModeFault}
use Rattle.trio_nodes.specs.declared.answers.ModeFault.TheVariants.{NoMemory as NoModeMemory}
use Rattle.trio_nodes.specs.declared.answers.ReleaseAnswer.{ReleaseAnswer}
use Rattle.trio_nodes.specs.declared.answers.ReleaseAnswer.TheVariants.{Accepted as AcceptedBundle, Refused as RefusedBundle}
use Rattle.trio_nodes.specs.declared.answers.ReleaseFault.{ReleaseFault}
use Rattle.trio_nodes.specs.declared.answers.ReleaseFault.TheVariants.{NotClosed as NotClosedBundle, NoMemory as NoReleaseMemory}
use Rattle.trio_state.specs.Moves.{ActAnswer, Answered, HasBegun}
use Rattle.trio_state.specs.Step.{CtlAnswer, Granted, NotGranted, Given, NoPages, NoInodes, Accepted, Refused, NotClosed, NotModeSet, NoMemory}
use Rattle.trio_ctl.specs.declared.image.ImageFault.{ImageFault}
use Rattle.trio_ctl.specs.declared.image.ImageFault.TheVariants.{Busy, NoMemory as NoImageMemory}

-- a refused grant, as the steps have it; want of memory is an answer of its own, here and below
abbrev pub grant_fault_answer : GrantFault → CtlAnswer
grant_fault_answer NoGrantMemory = NoMemory
grant_fault_answer fault = NotGranted fault

-- a hold tells the number of the file's children, any other lease 0
abbrev pub children_told : Lease → ℕ
children_told (WriteLent lease) = 0
children_told (ReadLent lease) = 0
children_told (HoldLent hold) = hold.children

abbrev pub grant_answer : Result Lease GrantFault → CtlAnswer
grant_answer (Ok lease) = Granted (children_told lease)
grant_answer (Err fault) = grant_fault_answer fault

-- that a bundle came back unjudged
abbrev pub release_fault_answer : ReleaseFault → CtlAnswer
release_fault_answer NoReleaseMemory = NoMemory
release_fault_answer (NotClosedBundle ino) = NotClosed ino

-- a refusal tells its cause
abbrev pub verdict_of : ReleaseAnswer → CtlAnswer
verdict_of AcceptedBundle = Accepted
verdict_of (RefusedBundle rule ino page slot) = Refused (record { rule = rule; ino = ino; page = page; slot = slot })

abbrev pub release_answer : {B : Type 0} → Result ReleaseAnswer B → (B → ReleaseFault) → CtlAnswer
release_answer (Ok answer) fault = verdict_of answer
release_answer (Err back) fault = release_fault_answer (fault back)

-- that a release has begun, or that its bundle came back
abbrev pub begin_answer : {A B : Type 0} → Result A B → (B → ReleaseFault) → ActAnswer
begin_answer (Ok begun) fault = HasBegun
begin_answer (Err back) fault = Answered (release_fault_answer (fault back))

-- that more is wanted than is free
abbrev pub allot_fault_answer : AllotFault → CtlAnswer
allot_fault_answer (NoFreePages wanted free) = NoPages wanted free
allot_fault_answer (NoFreeInodes wanted free) = NoInodes wanted free
allot_fault_answer NoAllotMemory = NoMemory

abbrev pub allot_answer : Result Allotted AllotFault → CtlAnswer
allot_answer (Ok given) = Given (page_numbers given.pages.items) (inode_numbers given.inodes.items)
allot_answer (Err fault) = allot_fault_answer fault

-- a refused change of mode
abbrev pub mode_fault_answer : ModeFault → CtlAnswer
mode_fault_answer NoModeMemory = NoMemory
mode_fault_answer fault = NotModeSet fault

-- a settled image is told just where nobody writes; else the first writer is named
abbrev pub TellsImage : {I : Type 0} → Option Holder → Result I ImageFault → Type 0
TellsImage writer (Ok image) = writer ≡ None
TellsImage writer (Err (Busy holder)) = writer ≡ Some holder
TellsImage writer (Err NoImageMemory) = writer ≡ None

-- the same of a call that gives something back with the fault
abbrev pub TellsLastImage : {I B : Type 0} → Option Holder → Result I B → (B → ImageFault) → Type 0
TellsLastImage writer (Ok image) fault = writer ≡ None
TellsLastImage writer (Err back) fault = TellsImage {I = ℕ} writer (Err (fault back))

-- A grant that is asked is admitted just where no open one excludes it; else the first that does is named.
abbrev pub Admits : (Grant → Bool) → List Keyed → Result ℕ GrantFault → Type 0
Admits excluding grants (Ok key) = first_with excluding grants ≡ None
Admits excluding grants (Err (BusyGrant who)) = option_map holder (first_with excluding grants) ≡ Some who
Admits excluding grants (Err NoGrantMemory) = ⊤
Admits excluding grants (Err fault) = ⊥
