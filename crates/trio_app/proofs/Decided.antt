-- The top call answers the status that the words and the bytes decide.
use Rattle.trio_app.proofs.Words.{◌∙◌, ◌≡◌, ◌≤◌, ◌⊎◌, BadScript, CheckComesTo, ComesTo, Command, Done, GenComesTo, InputsRead, List, Main, NewComesTo, NoMemory, None, NotVerified, Option, ReadFault, Rose, RunDone, ScriptComesTo, Shelf, SinkSeen, Some, Status, TooLong, TreeComesTo, TreeForm, TurnsDone, Usage, WriteFault, ap, arith, check, code_of, gen, help, inl, inr, length, migrate, new_image, refl, run, subst, sym, tree, turns, unknown, version, ℕ}
use Rattle.trio_io.specs.Shelf.{IsLonger, IsTold}
use Rattle.trio_survey.specs.Stored.{BytesVerify}
use Rattle.trio_script.specs.Script.{bad_line}
use Rattle.trio_commands.specs.Images.{ImageFails, ImageStops, ImageVerifies}
use Rattle.trio_app.proofs.MigrateDecided.{migrate_decided}
use Rattle.trio_app.proofs.Tells.{is_longer, is_shorter, same_bytes}
use Rattle.trio_app.specs.Decided.{ImageDecides, Decides, EndsAsDecided, NewDecides, TellsImage, TellsBadLine, TellsNoImage, TellsScript, TellsTooLong, InputsDecide}

-- ---- an image

valid_not_failing : (name : List ℕ) (old : Shelf) (text : List ℕ) → TellsImage name old → ImageFails name old text → ⊥
valid_not_failing name old text valid failing =
    failing.fails (subst BytesVerify (same_bytes (old.held name) valid.bytes failing.image_bytes valid.tells failing.image_is) valid.verifies)

valid_not_longer : (name : List ℕ) (old : Shelf) → TellsImage name old → IsLonger 33554432 (old.held name) → ⊥
valid_not_longer name old valid longer = is_longer 33554432 (old.held name) valid.bytes valid.tells valid.within longer

failing_not_valid : (name : List ℕ) (old : Shelf) → TellsNoImage name old → ImageVerifies name old → ⊥
failing_not_valid name old failing valid =
    failing.fails (subst BytesVerify (sym (same_bytes (old.held name) failing.bytes valid.image_bytes failing.tells valid.image_is)) valid.verifies)

failing_not_longer : (name : List ℕ) (old : Shelf) → TellsNoImage name old → IsLonger 33554432 (old.held name) → ⊥
failing_not_longer name old failing longer = is_longer 33554432 (old.held name) failing.bytes failing.tells failing.within longer

longer_not_valid : (name : List ℕ) (old : Shelf) → TellsTooLong 33554432 name old → ImageVerifies name old → ⊥
longer_not_valid name old long valid = is_shorter 33554432 name old valid.image_bytes long valid.image_is valid.within

longer_not_failing : (name : List ℕ) (old : Shelf) (text : List ℕ) → TellsTooLong 33554432 name old → ImageFails name old text → ⊥
longer_not_failing name old text long failing = is_shorter 33554432 name old failing.image_bytes long failing.image_is failing.within

-- ---- a script

not_both : (number : ℕ) → None ≡ Some number → ⊥
not_both number e = absurd cc

script_not_longer : (name : List ℕ) (old : Shelf) → TellsScript name old → IsLonger 1048576 (old.held name) → ⊥
script_not_longer name old script longer = is_longer 1048576 (old.held name) script.bytes script.tells script.within longer

bad_not_longer : (name : List ℕ) (old : Shelf) (line : ℕ) → TellsBadLine name old line → IsLonger 1048576 (old.held name) → ⊥
bad_not_longer name old line script longer = is_longer 1048576 (old.held name) script.bytes script.tells script.within longer

-- a script is good or bad
good_not_bad : (name : List ℕ) (old : Shelf) (number : ℕ) (bytes : List ℕ) → TellsScript name old → IsTold (old.held name) bytes → bad_line bytes ≡ Some number → ⊥
good_not_bad name old number bytes script told is =
    not_both number (sym script.good ∙ ap bad_line (same_bytes (old.held name) script.bytes bytes script.tells told) ∙ is)

bad_not_good : (name : List ℕ) (old : Shelf) (number : ℕ) (bytes : List ℕ) → TellsBadLine name old number → IsTold (old.held name) bytes → bad_line bytes ≡ None → ⊥
bad_not_good name old number bytes script told is =
    not_both number (sym is ∙ ap bad_line (sym (same_bytes (old.held name) script.bytes bytes script.tells told)) ∙ script.bad)

-- ---- what a command comes to that reads an image alone

-- the image verifies, or there is none to work on
abbrev ImageComesTo : List ℕ → Shelf → Shelf → List ℕ → Status → Type 0
ImageComesTo image old new text Done = ImageVerifies image old
ImageComesTo image old new text status = ImageStops image old new text status

checked : (image : List ℕ) (old new : Shelf) (text : List ℕ) (status : Status) → CheckComesTo image old new text status → ImageComesTo image old new text status
checked image old new text Done comes = record { image_bytes = comes.image_bytes; image_is = comes.image_is; within = comes.within; verifies = comes.verifies }
checked image old new text NotVerified comes = comes
checked image old new text ReadFault comes = comes
checked image old new text NoMemory comes = comes
checked image old new text TooLong comes = comes
checked image old new text _ comes = absurd comes

told : (image : List ℕ) (form : TreeForm) (old new : Shelf) (text : List ℕ) (status : Status) → TreeComesTo image form old new text status → ImageComesTo image old new text status
told image form old new text Done comes = record { image_bytes = comes.image_bytes; image_is = comes.image_is; within = comes.within; verifies = comes.verifies }
told image form old new text NotVerified comes = comes
told image form old new text ReadFault comes = comes
told image form old new text NoMemory comes = comes
told image form old new text TooLong comes = comes
told image form old new text _ comes = absurd comes

-- ---- `turns` and `run`

module _ (image script out : List ℕ) (old new : Shelf) (text : List ℕ) (reads : (q : List ℕ) → Rose (old.read_faults q) (new.read_faults q) → ⊥) (writes : (q : List ℕ) → Rose (old.write_faults q) (new.write_faults q) → ⊥) where
  image_of : InputsRead image script old → ImageVerifies image old
  image_of read = record { image_bytes = read.image_bytes; image_is = read.image_is; within = read.image_within; verifies = read.image_verifies }

  script_done : (IsRun : Type 0) → (IsRun → InputsRead image script old) → (status : Status) → TellsImage image old → TellsScript script old → ScriptComesTo IsRun image script out old new text status → (code_of status ≡ 0) ⊎ (code_of status ≡ 6)
  script_done IsRun read Done valid good comes = inl refl
  script_done IsRun read NoMemory valid good comes = inr refl
  script_done IsRun read NotVerified valid good comes = absurd (valid_not_failing image old text valid comes)
  script_done IsRun read ReadFault valid good (inl fault) = absurd (reads image fault.0)
  script_done IsRun read ReadFault valid good (inr fault) = absurd (reads script fault.0)
  script_done IsRun read WriteFault valid good comes = absurd (writes out comes.rose)
  script_done IsRun read TooLong valid good (inl long) = absurd (valid_not_longer image old valid long.0)
  script_done IsRun read TooLong valid good (inr long) = absurd (script_not_longer script old good long.0)
  script_done IsRun read BadScript valid good comes = absurd (good_not_bad script old comes.0 comes.2.script_bytes good comes.2.script_is comes.2.bad)
  script_done IsRun read _ valid good comes = absurd comes

  script_not_verified : (IsRun : Type 0) → (IsRun → InputsRead image script old) → (status : Status) → TellsNoImage image old → ScriptComesTo IsRun image script out old new text status → (code_of status ≡ 1) ⊎ (code_of status ≡ 6)
  script_not_verified IsRun read NotVerified failing comes = inl refl
  script_not_verified IsRun read NoMemory failing comes = inr refl
  script_not_verified IsRun read Done failing comes = absurd (failing_not_valid image old failing (image_of (read comes)))
  script_not_verified IsRun read ReadFault failing (inl fault) = absurd (reads image fault.0)
  script_not_verified IsRun read ReadFault failing (inr fault) = absurd (reads script fault.0)
  script_not_verified IsRun read WriteFault failing comes = absurd (writes out comes.rose)
  script_not_verified IsRun read TooLong failing (inl long) = absurd (failing_not_longer image old failing long.0)
  script_not_verified IsRun read TooLong failing (inr long) = absurd (failing_not_valid image old failing long.1)
  script_not_verified IsRun read BadScript failing comes = absurd (failing_not_valid image old failing comes.1)
  script_not_verified IsRun read _ failing comes = absurd comes

  script_image_long : (IsRun : Type 0) → (IsRun → InputsRead image script old) → (status : Status) → TellsTooLong 33554432 image old → ScriptComesTo IsRun image script out old new text status → (code_of status ≡ 7) ⊎ (code_of status ≡ 6)
  script_image_long IsRun read TooLong long comes = inl refl
  script_image_long IsRun read NoMemory long comes = inr refl
  script_image_long IsRun read Done long comes = absurd (longer_not_valid image old long (image_of (read comes)))
  script_image_long IsRun read NotVerified long comes = absurd (longer_not_failing image old text long comes)
  script_image_long IsRun read ReadFault long (inl fault) = absurd (reads image fault.0)
  script_image_long IsRun read ReadFault long (inr fault) = absurd (reads script fault.0)
  script_image_long IsRun read WriteFault long comes = absurd (writes out comes.rose)
  script_image_long IsRun read BadScript long comes = absurd (longer_not_valid image old long comes.1)
  script_image_long IsRun read _ long comes = absurd comes

  script_script_long : (IsRun : Type 0) → (IsRun → InputsRead image script old) → (status : Status) → TellsImage image old → TellsTooLong 1048576 script old → ScriptComesTo IsRun image script out old new text status → (code_of status ≡ 7) ⊎ (code_of status ≡ 6)
  script_script_long IsRun read TooLong valid long comes = inl refl
  script_script_long IsRun read NoMemory valid long comes = inr refl
  script_script_long IsRun read Done valid long comes = absurd (is_shorter 1048576 script old (read comes).script_bytes long (read comes).script_is (read comes).script_within)
  script_script_long IsRun read NotVerified valid long comes = absurd (valid_not_failing image old text valid comes)
  script_script_long IsRun read ReadFault valid long (inl fault) = absurd (reads image fault.0)
  script_script_long IsRun read ReadFault valid long (inr fault) = absurd (reads script fault.0)
  script_script_long IsRun read WriteFault valid long comes = absurd (writes out comes.rose)
  script_script_long IsRun read BadScript valid long comes = absurd (is_shorter 1048576 script old comes.2.script_bytes long comes.2.script_is comes.2.within)
  script_script_long IsRun read _ valid long comes = absurd comes

  script_bad : (IsRun : Type 0) → (IsRun → InputsRead image script old) → (status : Status) (number : ℕ) → TellsImage image old → TellsBadLine script old number → ScriptComesTo IsRun image script out old new text status → (code_of status ≡ 3) ⊎ (code_of status ≡ 6)
  script_bad IsRun read BadScript number valid line comes = inl refl
  script_bad IsRun read NoMemory number valid line comes = inr refl
  script_bad IsRun read Done number valid line comes = absurd (bad_not_good script old number (read comes).script_bytes line (read comes).script_is (read comes).script_good)
  script_bad IsRun read NotVerified number valid line comes = absurd (valid_not_failing image old text valid comes)
  script_bad IsRun read ReadFault number valid line (inl fault) = absurd (reads image fault.0)
  script_bad IsRun read ReadFault number valid line (inr fault) = absurd (reads script fault.0)
  script_bad IsRun read WriteFault number valid line comes = absurd (writes out comes.rose)
  script_bad IsRun read TooLong number valid line (inl long) = absurd (valid_not_longer image old valid long.0)
  script_bad IsRun read TooLong number valid line (inr long) = absurd (bad_not_longer script old number line long.0)
  script_bad IsRun read _ number valid line comes = absurd comes

  pub script_decided : (IsRun : Type 0) → (IsRun → InputsRead image script old) → (decided status : Status) → InputsDecide image script old decided → ScriptComesTo IsRun image script out old new text status → (code_of status ≡ code_of decided) ⊎ (code_of status ≡ 6)
  script_decided IsRun read Done status d comes = script_done IsRun read status d.0 d.1 comes
  script_decided IsRun read NotVerified status d comes = script_not_verified IsRun read status d comes
  script_decided IsRun read TooLong status (inl d) comes = script_image_long IsRun read status d comes
  script_decided IsRun read TooLong status (inr d) comes = script_script_long IsRun read status d.0 d.1 comes
  script_decided IsRun read BadScript status d comes = script_bad IsRun read status d.1.0 d.0 d.1.1 comes
  script_decided IsRun read _ status d comes = absurd d

  -- ---- `check` and `tree`

  image_done : (status : Status) → TellsImage image old → ImageComesTo image old new text status → (code_of status ≡ 0) ⊎ (code_of status ≡ 6)
  image_done Done valid comes = inl refl
  image_done NoMemory valid comes = inr refl
  image_done NotVerified valid comes = absurd (valid_not_failing image old text valid comes)
  image_done ReadFault valid comes = absurd (reads image comes.0)
  image_done TooLong valid comes = absurd (valid_not_longer image old valid comes.0)
  image_done _ valid comes = absurd comes

  image_not_verified : (status : Status) → TellsNoImage image old → ImageComesTo image old new text status → (code_of status ≡ 1) ⊎ (code_of status ≡ 6)
  image_not_verified NotVerified failing comes = inl refl
  image_not_verified NoMemory failing comes = inr refl
  image_not_verified Done failing comes = absurd (failing_not_valid image old failing comes)
  image_not_verified ReadFault failing comes = absurd (reads image comes.0)
  image_not_verified TooLong failing comes = absurd (failing_not_longer image old failing comes.0)
  image_not_verified _ failing comes = absurd comes

  image_too_long : (status : Status) → TellsTooLong 33554432 image old → ImageComesTo image old new text status → (code_of status ≡ 7) ⊎ (code_of status ≡ 6)
  image_too_long TooLong long comes = inl refl
  image_too_long NoMemory long comes = inr refl
  image_too_long Done long comes = absurd (longer_not_valid image old long comes)
  image_too_long NotVerified long comes = absurd (longer_not_failing image old text long comes)
  image_too_long ReadFault long comes = absurd (reads image comes.0)
  image_too_long _ long comes = absurd comes

  pub image_decided : (decided status : Status) → ImageDecides image old decided → ImageComesTo image old new text status → (code_of status ≡ code_of decided) ⊎ (code_of status ≡ 6)
  image_decided Done status d comes = image_done status d comes
  image_decided NotVerified status d comes = image_not_verified status d comes
  image_decided TooLong status d comes = image_too_long status d comes
  image_decided _ status d comes = absurd d

  -- ---- `new`

  pub new_decided : (pages inodes : ℕ) (decided status : Status) → NewDecides pages inodes decided → NewComesTo out pages inodes old new text status → (code_of status ≡ code_of decided) ⊎ (code_of status ≡ 6)
  new_decided pages inodes Done Done d comes = inl refl
  new_decided pages inodes Usage Usage d comes = inl refl
  new_decided pages inodes decided NoMemory d comes = inr refl
  new_decided pages inodes decided WriteFault d comes = absurd (writes out comes.rose)
  new_decided pages inodes Done Usage d comes = absurd (comes.0 d)
  new_decided pages inodes Usage Done d comes = absurd (d comes.fits)
  new_decided pages inodes Done _ d comes = absurd comes
  new_decided pages inodes Usage _ d comes = absurd comes
  new_decided pages inodes _ _ d comes = absurd d

-- ---- all commands

same_end : (end decided status : Status) → decided ≡ end → status ≡ end → (code_of status ≡ code_of decided) ⊎ (code_of status ≡ 6)
same_end end decided status d is = inl (ap code_of (is ∙ sym d))

-- the workload is played, or memory is wanting
gen_decided : (number files : ℕ) (text : List ℕ) (decided status : Status) → decided ≡ Done → GenComesTo number files text status → (code_of status ≡ code_of decided) ⊎ (code_of status ≡ 6)
gen_decided number files text decided Done d comes = inl (ap code_of (sym d))
gen_decided number files text decided NoMemory d comes = inr refl
gen_decided number files text decided _ d comes = absurd comes

comes_decided : (command : Command) (old new : Shelf) (text : List ℕ) → ((q : List ℕ) → Rose (old.read_faults q) (new.read_faults q) → ⊥) → ((q : List ℕ) → Rose (old.write_faults q) (new.write_faults q) → ⊥)
    → (decided status : Status) → Decides command old decided → ComesTo command old new text status → (code_of status ≡ code_of decided) ⊎ (code_of status ≡ 6)
comes_decided (new_image out pages inodes) old new text reads writes decided status d comes = new_decided out out out old new text reads writes pages inodes decided status d comes.comes_to
comes_decided (check image) old new text reads writes decided status d comes = image_decided image image image old new text reads writes decided status d (checked image old new text status comes.comes_to)
comes_decided (tree image form) old new text reads writes decided status d comes = image_decided image image image old new text reads writes decided status d (told image form old new text status comes.comes_to)
comes_decided (turns image script out) old new text reads writes decided status d comes = script_decided image script out old new text reads writes (TurnsDone image script out old new text) (λ done. done.inputs) decided status d comes.comes_to
comes_decided (run image script out workers) old new text reads writes decided status d comes = script_decided image script out old new text reads writes (RunDone image script out old new text) (λ done. done.inputs) decided status d comes.comes_to
comes_decided (gen number files) old new text reads writes decided status d comes = gen_decided number files text decided status d comes.comes_to
comes_decided (migrate image out) old new text reads writes decided status d comes = migrate_decided image out old new text reads writes decided status d comes.comes_to
comes_decided help old new text reads writes decided status d comes = same_end Done decided status d comes.status_is
comes_decided version old new text reads writes decided status d comes = same_end Done decided status d comes.status_is
comes_decided unknown old new text reads writes decided status d comes = same_end Usage decided status d comes.status_is

pub main_decided : (command : Command) (old new : Shelf) (out out' : SinkSeen) (result : ℕ) → Main command old new out out' result → EndsAsDecided command old new out out' result
main_decided command old new out out' result main = λ decided d none.
    elim main.puts [
      | inl done ↦ rw done.0 (comes_decided command old new main.text none.reads none.writes decided main.status d main.comes_to)
      | inr failed ↦ absurd (none.puts failed.1)
    ]
