-- A file that was read is an image of version 1 or is refused.
use Rattle.std.proofs.Common.{◌*◌, ◌∙◌, ◌≡◌, IfOk, List, Ok, Err, Option, Result, ap, arith, inl, inr, subst, sym, take, ℕ}
use Rattle.trio_io.specs.Shelf.{Shelf}
use Rattle.trio_layout.specs.declared.superblock.Superblock.{Superblock}
use Rattle.trio_layout.specs.Superblock.{current_version}
use Rattle.trio_layout.proofs.Superblocks.{only, superblock_facts}
use Rattle.trio_survey.specs.OldVersion.{old_version, IsOldDenied, OldBytesVerify, OldPagesVerify}
use Rattle.trio_survey.specs.Stored.{pages_in}
use Rattle.trio_survey.specs.declared.fault.SurveyFault.{SurveyFault}
use Rattle.trio_survey.specs.declared.fault.SurveyFault.TheVariants.{Fails as SurveyFails, NoMemory as SurveyNoMemory}
use Rattle.trio_image.specs.declared.fault.LoadFault.{LoadFault}
use Rattle.trio_image.specs.declared.fault.LoadFault.TheVariants.{BadSuper, Fails, Length, NoMemory, OldVersion, ReadFault, TooLong}
use Rattle.trio_image.specs.Fault.{fault_of_survey, HasLengthOf, IsBadLengthOf}
use Rattle.trio_image.specs.Image.{ImagePages}
use Rattle.trio_image.specs.Reading.{AreFilePages, IsFileOf, IsFirstPageFault}
use Rattle.trio_image.proofs.Images.{file_pages}
use Rattle.trio_migrate.specs.OldLoad.{IsOldLoadFault, IsOldRefused, OldLoadFails, OldLoads}
use Rattle.trio_migrate.specs.inner.OldFault.{IsOldPagesFault}
use Rattle.trio_migrate.proofs.Migrating.{old_pages_verify}

bad_length : (bytes : List ℕ) (n : ℕ) → IsBadLengthOf old_version bytes n → OldBytesVerify bytes → ⊥
bad_length bytes n bad v =
    let facts = superblock_facts v.superblock v.read.fits in
    elim bad.1 [
      | inl short ↦ absurd (omega (arith, v.whole, facts.some_pages))
      | inr other ↦ other.2 (v.whole ∙ ap (λ (t : Superblock). 4096 * t.pages) (sym (only old_version (take 4096 bytes) v.superblock (omega arith) v.read).0 ∙ (only old_version (take 4096 bytes) other.0 (omega arith) other.1).0))
    ]

first_page_loads : (bytes : List ℕ) (fault : LoadFault) → IsFirstPageFault old_version current_version bytes fault → IsOldLoadFault bytes fault
first_page_loads bytes (Length n) bad = bad
first_page_loads bytes OldVersion bad = bad
first_page_loads bytes BadSuper bad = bad
first_page_loads bytes (Fails rule ino page slot) bad = absurd bad
first_page_loads bytes NoMemory bad = absurd bad
first_page_loads bytes ReadFault bad = absurd bad
first_page_loads bytes TooLong bad = absurd bad

first_page_refuses : (bytes : List ℕ) (fault : LoadFault) → IsFirstPageFault old_version current_version bytes fault → OldBytesVerify bytes → ⊥
first_page_refuses bytes (Length n) bad v = bad_length bytes n bad v
first_page_refuses bytes OldVersion bad v = bad.0 v.superblock v.read
first_page_refuses bytes BadSuper bad v = bad.1 v.superblock v.read
first_page_refuses bytes (Fails rule ino page slot) bad v = absurd bad
first_page_refuses bytes NoMemory bad v = absurd bad
first_page_refuses bytes ReadFault bad v = absurd bad
first_page_refuses bytes TooLong bad v = absurd bad

refused : (name : List ℕ) (old new : Shelf) (fault : LoadFault) → IsOldRefused (old.held name) fault → OldLoadFails name old new fault
refused name old new ReadFault is = absurd is.cause
refused name old new TooLong is = absurd is.cause
refused name old new NoMemory is = tt
refused name old new (Length n) is = is
refused name old new OldVersion is = is
refused name old new BadSuper is = is
refused name old new (Fails rule ino page slot) is = is

pub first_page_refused : (name : List ℕ) (old new : Shelf) (whole : List (Option (List ℕ))) (count : ℕ) (fault : LoadFault) → IsFileOf (old.held name) whole count → ((bytes : List ℕ) → AreFilePages bytes whole count → IsFirstPageFault old_version current_version bytes fault) → OldLoadFails name old new fault
first_page_refused name old new whole count fault file bad = refused name old new fault (record {
  bytes = file.bytes;
  told = file.told;
  within = file.within;
  cause = first_page_loads file.bytes fault (bad file.bytes file.are);
  fails = first_page_refuses file.bytes fault (bad file.bytes file.are);
})

pub pages_refused : (name : List ℕ) (old new : Shelf) (whole pages : List (Option (List ℕ))) (count : ℕ) (s : Superblock) (file : IsFileOf (old.held name) whole count) → HasLengthOf old_version file.bytes s → pages ≡ whole → (fault : LoadFault) → IsOldPagesFault s pages fault → OldLoadFails name old new fault
pages_refused name old new whole pages count s file has same NoMemory bad = tt
pages_refused name old new whole pages count s file has same (Fails rule ino page slot) bad =
    let is : pages ≡ pages_in s.pages file.bytes = same ∙ file_pages old_version file.bytes whole count s file.are has in
    let denied : IsOldDenied s (pages_in s.pages file.bytes) (SurveyFails rule ino page slot) = subst (λ ps. IsOldDenied s ps (SurveyFails rule ino page slot)) is bad in
    record { bytes = file.bytes; told = file.told; within = file.within; cause = (s, has, denied); fails = λ v. denied.0 (old_pages_verify file.bytes s has v) }
pages_refused name old new whole pages count s file has same (Length n) bad = absurd bad
pages_refused name old new whole pages count s file has same OldVersion bad = absurd bad
pages_refused name old new whole pages count s file has same BadSuper bad = absurd bad
pages_refused name old new whole pages count s file has same ReadFault bad = absurd bad
pages_refused name old new whole pages count s file has same TooLong bad = absurd bad

-- a fault of the survey, as it is told of pages
pub survey_told : (s : Superblock) (pages : List (Option (List ℕ))) (fault : SurveyFault) → IsOldDenied s pages fault → IsOldPagesFault s pages (fault_of_survey fault)
survey_told s pages (SurveyFails rule ino page slot) bad = bad
survey_told s pages SurveyNoMemory bad = tt

-- ---- the image

loaded_as : (content : Option (List ℕ)) (whole pages : List (Option (List ℕ))) (count : ℕ) (s : Superblock) (file : IsFileOf content whole count) → HasLengthOf old_version file.bytes s → pages ≡ whole → OldPagesVerify s pages → OldLoads content s pages
loaded_as content whole pages count s file has same v =
    let is = same ∙ file_pages old_version file.bytes whole count s file.are has in
    record {
      bytes = file.bytes;
      told = file.told;
      within = file.within;
      lengths = has;
      pages_are = is;
      verify = record { superblock = s; read = has.superblock; whole = has.length_is; verify = subst (OldPagesVerify s) is v };
    }

pub loaded_if : {E : Type 0} (content : Option (List ℕ)) (whole pages : List (Option (List ℕ))) (count : ℕ) (s : Superblock) (file : IsFileOf content whole count) → HasLengthOf old_version file.bytes s → pages ≡ whole → (r : Result ImagePages E)
    → IfOk r (λ image. image ≡ record { superblock = s; pages = pages }) → IfOk r (λ _. OldPagesVerify s pages) → IfOk r (λ image. OldLoads content image.superblock image.pages)
loaded_if content whole pages count s file has same (Ok image) is v =
    subst (λ (i : ImagePages). OldLoads content i.superblock i.pages) (sym is) (loaded_as content whole pages count s file has same v)
loaded_if content whole pages count s file has same (Err e) is v = tt
