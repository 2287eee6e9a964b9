-- A migration ends as the bytes of its image decide.
use Rattle.trio_app.proofs.Words.{◌≡◌, ◌⊎◌, Done, List, MigrateComesTo, NoMemory, NotVerified, ReadFault, Rose, Shelf, Status, TooLong, WriteFault, code_of, inl, inr, refl, subst, sym, ℕ}
use Rattle.trio_io.specs.Shelf.{IsLonger}
use Rattle.trio_survey.specs.OldVersion.{OldBytesVerify}
use Rattle.trio_commands.specs.Migrate.{OldImageFails, OldImageVerifies}
use Rattle.trio_app.specs.Decided.{MigrateDecides, TellsNoOldImage, TellsOldImage, TellsTooLong}
use Rattle.trio_app.proofs.Tells.{is_longer, is_shorter, same_bytes}

module _ (image out : List ℕ) (old new : Shelf) (text : List ℕ) (reads : (q : List ℕ) → Rose (old.read_faults q) (new.read_faults q) → ⊥) (writes : (q : List ℕ) → Rose (old.write_faults q) (new.write_faults q) → ⊥) where
  valid_not_failing : TellsOldImage image old → OldImageFails image old text → ⊥
  valid_not_failing valid failing =
      failing.fails (subst OldBytesVerify (same_bytes (old.held image) valid.bytes failing.image_bytes valid.tells failing.image_is) valid.verifies)

  failing_not_valid : TellsNoOldImage image old → OldImageVerifies image old → ⊥
  failing_not_valid failing valid =
      failing.fails (subst OldBytesVerify (sym (same_bytes (old.held image) failing.bytes valid.image_bytes failing.tells valid.image_is)) valid.verifies)

  done : (status : Status) → TellsOldImage image old → MigrateComesTo image out old new text status → (code_of status ≡ 0) ⊎ (code_of status ≡ 6)
  done Done valid comes = inl refl
  done NoMemory valid comes = inr refl
  done NotVerified valid comes = absurd (valid_not_failing valid comes)
  done ReadFault valid comes = absurd (reads image comes.0)
  done WriteFault valid comes = absurd (writes out comes.rose)
  done TooLong valid comes = absurd (is_longer 33554432 (old.held image) valid.bytes valid.tells valid.within comes.0)
  done _ valid comes = absurd comes

  not_verified : (status : Status) → TellsNoOldImage image old → MigrateComesTo image out old new text status → (code_of status ≡ 1) ⊎ (code_of status ≡ 6)
  not_verified NotVerified failing comes = inl refl
  not_verified NoMemory failing comes = inr refl
  not_verified Done failing comes = absurd (failing_not_valid failing comes.read)
  not_verified ReadFault failing comes = absurd (reads image comes.0)
  not_verified WriteFault failing comes = absurd (writes out comes.rose)
  not_verified TooLong failing comes = absurd (is_longer 33554432 (old.held image) failing.bytes failing.tells failing.within comes.0)
  not_verified _ failing comes = absurd comes

  too_long : (status : Status) → TellsTooLong 33554432 image old → MigrateComesTo image out old new text status → (code_of status ≡ 7) ⊎ (code_of status ≡ 6)
  too_long TooLong long comes = inl refl
  too_long NoMemory long comes = inr refl
  too_long Done long comes = absurd (is_shorter 33554432 image old comes.read.image_bytes long comes.read.image_is comes.read.within)
  too_long NotVerified long comes = absurd (is_shorter 33554432 image old comes.image_bytes long comes.image_is comes.within)
  too_long ReadFault long comes = absurd (reads image comes.0)
  too_long WriteFault long comes = absurd (writes out comes.rose)
  too_long _ long comes = absurd comes

  pub migrate_decided : (decided status : Status) → MigrateDecides image old decided → MigrateComesTo image out old new text status → (code_of status ≡ code_of decided) ⊎ (code_of status ≡ 6)
  migrate_decided Done status d comes = done status d comes
  migrate_decided NotVerified status d comes = not_verified status d comes
  migrate_decided TooLong status d comes = too_long status d comes
  migrate_decided _ status d comes = absurd d
