-- Why the work ends at a file that is read: the statuses and lines of its causes.
use Rattle.std.proofs.Common.{ℕ, List, Option, inl, inr, refl, subst, ap, arith}
use Rattle.trio_io.specs.Shelf.{Shelf, OnlyReads}
use Rattle.trio_layout.specs.declared.superblock.Superblock.{Superblock}
use Rattle.trio_survey.specs.OldVersion.{old_version}
use Rattle.trio_image.specs.declared.fault.LoadFault.{LoadFault}
use Rattle.trio_image.specs.declared.fault.LoadFault.TheVariants.{ReadFault as LoadReadFault, TooLong as LoadTooLong, Length as LoadLength, OldVersion as LoadOldVersion, BadSuper as LoadBadSuper, Fails as LoadFailsRule, NoMemory as LoadNoMemory}
use Rattle.trio_image.specs.Fault.{IsBadLength}
use Rattle.trio_image.specs.Load.{LoadFails, Loads}
use Rattle.trio_commands.specs.declared.status.Status.{Status}
use Rattle.trio_commands.specs.declared.status.Status.TheVariants.{NotVerified, ReadFault as StatusReadFault, NoMemory as StatusNoMemory, TooLong as StatusTooLong}
use Rattle.trio_commands.specs.declared.stop.Stop.{Stop}
use Rattle.trio_commands.specs.declared.stop.Stop.TheVariants.{ReadFault, TooLong, BadLine, NoMemory}
use Rattle.trio_commands.specs.Images.{ImageStops, ImageVerifies, FailsWith}
use Rattle.trio_commands.specs.Lines.{length_line}
use Rattle.trio_commands.specs.Inputs.{InputsStop}
use Rattle.trio_commands.specs.inner.Stop.{ScriptStop, ToldStop, line_of, status_of, stop_of_loading}

-- ---- an image

bad_length : (bytes : List ℕ) (count : ℕ) → IsBadLength bytes count → FailsWith bytes (length_line count)
bad_length bytes count bad =
    inl (subst (λ (n : ℕ). IsBadLength bytes n) bad.0 bad, ap length_line bad.0)

load_stops : (image : List ℕ) (old new : Shelf) (fault : LoadFault) → LoadFails image old new fault
    → ImageStops image old new (line_of image (stop_of_loading old_version fault)) (status_of (stop_of_loading old_version fault))
load_stops image old new LoadReadFault rose = (rose, refl)
load_stops image old new LoadTooLong longer = (longer, refl)
load_stops image old new (LoadLength count) refused = record {
  image_bytes = refused.bytes;
  image_is = refused.told;
  within = refused.within;
  fails = refused.fails;
  cause = bad_length refused.bytes count refused.cause;
}
load_stops image old new LoadOldVersion refused = record {
  image_bytes = refused.bytes;
  image_is = refused.told;
  within = refused.within;
  fails = refused.fails;
  cause = inr (inl (refused.cause, refl));
}
load_stops image old new LoadBadSuper refused = record {
  image_bytes = refused.bytes;
  image_is = refused.told;
  within = refused.within;
  fails = refused.fails;
  cause = inr (inr (inl (refused.cause, refl)));
}
load_stops image old new (LoadFailsRule rule ino page slot) refused = record {
  image_bytes = refused.bytes;
  image_is = refused.told;
  within = refused.within;
  fails = refused.fails;
  cause = inr (inr (inr (rule, record { superblock = refused.cause.0; lengths = refused.cause.1; ino = ino; place = record { page = page; slot = slot }; fails = refused.cause.2.1 }, refl)));
}
load_stops image old new LoadNoMemory never = refl

pub image_stops : (image : List ℕ) (old new : Shelf) (fault : LoadFault) (text : List ℕ) (status : Status) → LoadFails image old new fault → ToldStop image (stop_of_loading old_version fault) text status → ImageStops image old new text status
image_stops image old new fault text status why (inl told) = rw (told.0, told.1) (load_stops image old new fault why)
image_stops image old new fault text status why (inr lacking) = rw (lacking.0, lacking.1) refl

-- ---- an image and a script

pub inputs_stop : (image script : List ℕ) (old new : Shelf) (text : List ℕ) (status : Status) → ImageStops image old new text status → InputsStop image script old new text status
inputs_stop image script old new text NotVerified why = why
inputs_stop image script old new text StatusReadFault why = inl why
inputs_stop image script old new text StatusTooLong why = inl why
inputs_stop image script old new text StatusNoMemory why = why
inputs_stop image script old new text _ why = absurd why

image_verifies : (image : List ℕ) (old : Shelf) (s : Superblock) (pages : List (Option (List ℕ))) → Loads (old.held image) s pages → ImageVerifies image old
image_verifies image old s pages loads = record { image_bytes = loads.bytes; image_is = loads.told; within = loads.within; verifies = loads.verify }

script_stops : (image script : List ℕ) (old mid new : Shelf) (s : Superblock) (pages : List (Option (List ℕ))) (stop : Stop) → Loads (old.held image) s pages → OnlyReads image old mid → ScriptStop script mid new stop
    → InputsStop image script old new (line_of script stop) (status_of stop)
script_stops image script old mid new s pages ReadFault loads first rose = inr (omega (arith, first.reads.later script, rose), image_verifies image old s pages loads, refl)
script_stops image script old mid new s pages TooLong loads first longer = inr (rw (← first.held) longer, image_verifies image old s pages loads, refl)
script_stops image script old mid new s pages (BadLine number) loads first line =
    (number, image_verifies image old s pages loads, record { script_bytes = line.script_bytes; script_is = rw (← first.held) line.script_is; within = line.within; bad = line.bad }, refl)
script_stops image script old mid new s pages NoMemory loads first never = refl
script_stops image script old mid new s pages _ loads first never = absurd never

pub script_stop : (image script : List ℕ) (old mid new : Shelf) (s : Superblock) (pages : List (Option (List ℕ))) (stop : Stop) (text : List ℕ) (status : Status) → Loads (old.held image) s pages → OnlyReads image old mid → ScriptStop script mid new stop
    → ToldStop script stop text status → InputsStop image script old new text status
script_stop image script old mid new s pages stop text status loads first why (inl told) = rw (told.0, told.1) (script_stops image script old mid new s pages stop loads first why)
script_stop image script old mid new s pages stop text status loads first why (inr lacking) = rw (lacking.0, lacking.1) refl
