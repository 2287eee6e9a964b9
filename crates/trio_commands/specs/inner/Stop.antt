-- Why the work ends at a file that is read, and how that is told. The top call's contract doesn't rest on it.
use Rattle.std.specs.Prelude.{◌≡◌, ◌⊎◌, ℕ, List, [], ⊤}
use Rattle.trio_io.specs.Shelf.{Shelf, Rose, IsLonger}
use Rattle.trio_image.specs.declared.fault.LoadFault.{LoadFault}
use Rattle.trio_image.specs.declared.fault.LoadFault.TheVariants.{Length as LoadLength, OldVersion as LoadOldVersion, BadSuper as LoadBadSuper, Fails as LoadFails, NoMemory as LoadNoMemory, ReadFault as LoadReadFault, TooLong as LoadTooLong}
use Rattle.trio_commands.specs.declared.status.Status.{Status}
use Rattle.trio_commands.specs.declared.status.Status.TheVariants.{NotVerified, ReadFault as StatusReadFault, TooLong as StatusTooLong, NoMemory as StatusNoMemory, BadScript}
use Rattle.trio_commands.specs.declared.stop.Stop.{Stop}
use Rattle.trio_commands.specs.declared.stop.Stop.TheVariants.{ReadFault, TooLong, Length, Version, BadSuper, Invalid, BadLine, NoMemory}
use Rattle.trio_commands.specs.Inputs.{ReadsBadLine}
use Rattle.trio_commands.specs.Lines.{length_line, image_version_line, bad_superblock_line, invalid_line, read_fault_line, too_long_line, script_line}

abbrev pub status_of : Stop → Status
status_of ReadFault = StatusReadFault
status_of TooLong = StatusTooLong
status_of (Length count) = NotVerified
status_of (Version version) = NotVerified
status_of BadSuper = NotVerified
status_of (Invalid rule) = NotVerified
status_of (BadLine number) = BadScript
status_of NoMemory = StatusNoMemory

-- the line of this cause, at the file of a name
abbrev pub line_of : List ℕ → Stop → List ℕ
line_of name ReadFault = read_fault_line name
line_of name TooLong = too_long_line name
line_of name (Length count) = length_line count
line_of name (Version version) = image_version_line version
line_of name BadSuper = bad_superblock_line
line_of name (Invalid rule) = invalid_line rule
line_of name (BadLine number) = script_line number
line_of name NoMemory = []

-- the status and the line of this cause, or want of memory
abbrev pub ToldStop : List ℕ → Stop → List ℕ → Status → Type 0
ToldStop name stop text status =
    ((status ≡ status_of stop) × (text ≡ line_of name stop)) ⊎ ((status ≡ StatusNoMemory) × (text ≡ []))

-- how the fault of loading an image is told, where the other version is this one
abbrev pub stop_of_loading : ℕ → LoadFault → Stop
stop_of_loading other LoadReadFault = ReadFault
stop_of_loading other LoadTooLong = TooLong
stop_of_loading other (LoadLength count) = Length count
stop_of_loading other LoadOldVersion = Version other
stop_of_loading other LoadBadSuper = BadSuper
stop_of_loading other (LoadFails rule ino page slot) = Invalid rule
stop_of_loading other LoadNoMemory = NoMemory

-- why there is no script to run
abbrev pub ScriptStop : List ℕ → Shelf → Shelf → Stop → Type 0
ScriptStop script old new ReadFault = Rose (old.read_faults script) (new.read_faults script)
ScriptStop script old new TooLong = IsLonger 1048576 (old.held script)
ScriptStop script old new (BadLine number) = ReadsBadLine script old number
ScriptStop script old new NoMemory = ⊤
ScriptStop script old new _ = ⊥
