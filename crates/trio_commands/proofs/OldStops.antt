-- Why there is no image of version 1 to work on, and what a migration comes to.
use Rattle.std.proofs.Common.{◌≡◌, ℕ, List, [], Option, inl, inr, refl, subst, ap, ◌∙◌, arith}
use Rattle.trio_io.specs.Shelf.{Shelf, OnlyReads, OnlyReplaces, RisesAt, told}
use Rattle.trio_layout.specs.declared.superblock.Superblock.{Superblock}
use Rattle.trio_layout.specs.Superblock.{current_version}
use Rattle.trio_survey.specs.OldVersion.{old_version}
use Rattle.trio_survey.specs.Stored.{bytes_in, image_in}
use Rattle.trio_image.specs.declared.fault.LoadFault.{LoadFault}
use Rattle.trio_image.specs.declared.fault.LoadFault.TheVariants.{ReadFault as LoadReadFault, TooLong as LoadTooLong, Length as LoadLength, OldVersion as LoadOldVersion, BadSuper as LoadBadSuper, Fails as LoadFailsRule, NoMemory as LoadNoMemory}
use Rattle.trio_image.specs.Counts.{counts_of}
use Rattle.trio_image.specs.Fault.{IsBadLengthOf}
use Rattle.trio_migrate.specs.Migrated.{migrated}
use Rattle.trio_migrate.specs.OldLoad.{OldLoadFails, OldLoads}
use Rattle.trio_migrate.proofs.Migrating.{bytes_again, migration_keeps}
use Rattle.trio_commands.specs.declared.status.Status.{Status}
use Rattle.trio_commands.specs.declared.status.Status.TheVariants.{Done, NotVerified, ReadFault, WriteFault, NoMemory as StatusNoMemory, TooLong}
use Rattle.trio_commands.specs.Lines.{length_line, migrated_line}
use Rattle.trio_commands.specs.Migrate.{Migrate, OldFailsWith, OldImageStops, OldImageVerifies}
use Rattle.trio_commands.specs.Report.{told_counts}
use Rattle.trio_commands.specs.Saved.{SaveComesTo}
use Rattle.trio_commands.specs.inner.Stop.{ToldStop, line_of, status_of, stop_of_loading}

bad_length : (bytes : List ℕ) (count : ℕ) → IsBadLengthOf old_version bytes count → OldFailsWith bytes (length_line count)
bad_length bytes count bad =
    inl (subst (λ (n : ℕ). IsBadLengthOf old_version bytes n) bad.0 bad, ap length_line bad.0)

load_stops : (image : List ℕ) (old new : Shelf) (fault : LoadFault) → OldLoadFails image old new fault
    → OldImageStops image old new (line_of image (stop_of_loading current_version fault)) (status_of (stop_of_loading current_version fault))
load_stops image old new LoadReadFault rose = (rose, refl)
load_stops image old new LoadTooLong longer = (longer, refl)
load_stops image old new (LoadLength count) refused = record {
  image_bytes = refused.bytes;
  image_is = refused.told;
  within = refused.within;
  fails = refused.fails;
  cause = bad_length refused.bytes count refused.cause;
}
load_stops image old new LoadOldVersion refused = record {
  image_bytes = refused.bytes;
  image_is = refused.told;
  within = refused.within;
  fails = refused.fails;
  cause = inr (inl (refused.cause, refl));
}
load_stops image old new LoadBadSuper refused = record {
  image_bytes = refused.bytes;
  image_is = refused.told;
  within = refused.within;
  fails = refused.fails;
  cause = inr (inr (inl (refused.cause, refl)));
}
load_stops image old new (LoadFailsRule rule ino page slot) refused = record {
  image_bytes = refused.bytes;
  image_is = refused.told;
  within = refused.within;
  fails = refused.fails;
  cause = inr (inr (inr (rule, record { superblock = refused.cause.0; lengths = refused.cause.1; ino = ino; place = record { page = page; slot = slot }; fails = refused.cause.2.1 }, refl)));
}
load_stops image old new LoadNoMemory never = refl

pub old_image_stops : (image : List ℕ) (old new : Shelf) (fault : LoadFault) (text : List ℕ) (status : Status) → OldLoadFails image old new fault → ToldStop image (stop_of_loading current_version fault) text status → OldImageStops image old new text status
old_image_stops image old new fault text status why (inl told) = rw (told.0, told.1) (load_stops image old new fault why)
old_image_stops image old new fault text status why (inr lacking) = rw (lacking.0, lacking.1) refl

-- ---- an image that is migrated

nothing_written : (out : List ℕ) (writes : List ℕ → ℕ) → RisesAt out writes writes
nothing_written out writes = record { later = λ q. omega arith; others = λ q ne. refl }

pub migrate_stop : (image out : List ℕ) (old new : Shelf) (text : List ℕ) (status : Status) → OldImageStops image old new text status → OnlyReads image old new → Migrate image out old new text status
migrate_stop image out old new text NotVerified why files = record { comes_to = why; keeps = files.held; reads = files.reads; writes = rw files.writes (nothing_written out old.write_faults); tells = files.tells; serves = files.serves }
migrate_stop image out old new text ReadFault why files = record { comes_to = why; keeps = files.held; reads = files.reads; writes = rw files.writes (nothing_written out old.write_faults); tells = files.tells; serves = files.serves }
migrate_stop image out old new text StatusNoMemory why files = record { comes_to = why; keeps = files.held; reads = files.reads; writes = rw files.writes (nothing_written out old.write_faults); tells = files.tells; serves = files.serves }
migrate_stop image out old new text TooLong why files = record { comes_to = why; keeps = files.held; reads = files.reads; writes = rw files.writes (nothing_written out old.write_faults); tells = files.tells; serves = files.serves }
migrate_stop image out old new text _ why files = absurd why

module _ (image out : List ℕ) (old mid new : Shelf) (s : Superblock) (pages now : List (Option (List ℕ))) (line : List ℕ)
    (loads : OldLoads (old.held image) s pages) (line_is : line ≡ migrated_line (told_counts (counts_of (image_in s pages)))) (bytes_are : bytes_in now ≡ migrated (bytes_in pages)) (first : OnlyReads image old mid) (put : OnlyReplaces out mid new) where
  abbrev read : OldImageVerifies image old
  read = record { image_bytes = loads.bytes; image_is = loads.told; within = loads.within; verifies = loads.verify }

  written_are : bytes_in now ≡ migrated loads.bytes
  written_are = bytes_are ∙ ap (λ ps. migrated (bytes_in ps)) loads.pages_are ∙ ap migrated (bytes_again s.pages loads.bytes loads.lengths.length_is)

  pub migrate_saved : (text : List ℕ) (status : Status) → SaveComesTo out now line mid new text status → Migrate image out old new text status
  migrate_saved text Done saved = record {
    comes_to = record {
      read = read;
      superblock = s;
      lengths = loads.lengths;
      put = saved.1 ∙ line_is ∙ ap (λ ps. migrated_line (told_counts (counts_of (image_in s ps)))) loads.pages_are;
      written = saved.0.written ∙ ap (told mid.tells) written_are ∙ ap (λ t. told t (migrated loads.bytes)) first.tells;
      migrates = migration_keeps loads.bytes s loads.verify loads.lengths;
    };
    keeps = λ q ne. put.others q ne ∙ ap (λ h. h q) first.held;
    reads = rw put.reads first.reads;
    writes = rw (← first.writes) put.writes;
    tells = put.tells ∙ first.tells;
    serves = put.serves ∙ first.serves;
  }
  migrate_saved text WriteFault saved = record {
    comes_to = record { read = read; rose = rw (← first.writes) saved.0; untold = saved.1; put = saved.2 };
    keeps = λ q ne. put.others q ne ∙ ap (λ h. h q) first.held;
    reads = rw put.reads first.reads;
    writes = rw (← first.writes) put.writes;
    tells = put.tells ∙ first.tells;
    serves = put.serves ∙ first.serves;
  }
  migrate_saved text StatusNoMemory saved = record {
    comes_to = saved.1;
    keeps = saved.0 ∙ first.held;
    reads = rw put.reads first.reads;
    writes = rw (← first.writes) put.writes;
    tells = put.tells ∙ first.tells;
    serves = put.serves ∙ first.serves;
  }
  migrate_saved text _ saved = absurd saved

pub migrate_no_memory : (image out : List ℕ) (old mid : Shelf) (text : List ℕ) (status : Status) → OnlyReads image old mid → status ≡ StatusNoMemory → text ≡ [] → Migrate image out old mid text status
migrate_no_memory image out old mid text status first is none = rw (is, none) (migrate_stop image out old mid [] StatusNoMemory refl first)
