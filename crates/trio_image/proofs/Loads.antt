-- A file that was read is an image or is refused.
use Rattle.trio_image.proofs.Words.{◌/◌, ◌∙◌, ◌≡◌, ◌≤◌, AreFilePages, BadSuper, Fails, HasLength, HasLengthOf, ImagePages, IsFileOf, IsFirstPageFault, IsPagesFault, IsVerified, IsWholeImageOf, Length, List, LoadFails, LoadFault, NoMemory, OldVersion, Option, PagesVerify, ReadFault, Shelf, Superblock, TooLong, ap, arith, current_version, length, old_version, subst, sym, ℕ}
use Rattle.std.specs.Prelude.{IfOk, Result, Ok, Err}
use Rattle.trio_image.specs.Load.{IsRefused, Loads}
use Rattle.trio_image.proofs.Images.{file_pages, pages_whole}
use Rattle.trio_image.proofs.Pages.{length-pages_in}
use Rattle.trio_image.proofs.Refused.{first_page_loads, first_page_refuses, load_refuses, pages_load}

pub file_count : (content : Option (List ℕ)) (whole : List (Option (List ℕ))) (count : ℕ) → IsFileOf content whole count → length whole ≤ 8192
file_count content whole count file =
    omega (arith, file.within, ap length file.are.whole_are, length-pages_in (length file.bytes / 4096) file.bytes)

pub file_whole : (version : ℕ) (content : Option (List ℕ)) (whole : List (Option (List ℕ))) (count : ℕ) (s : Superblock) → (file : IsFileOf content whole count) → HasLengthOf version file.bytes s → IsWholeImageOf version s whole
file_whole version content whole count s file has = subst (IsWholeImageOf version s) (sym (file_pages version file.bytes whole count s file.are has)) (pages_whole version file.bytes s has)

-- ---- why there is no image

refused : (name : List ℕ) (old new : Shelf) (fault : LoadFault) → IsRefused (old.held name) fault → LoadFails name old new fault
refused name old new ReadFault is = absurd is.cause
refused name old new TooLong is = absurd is.cause
refused name old new NoMemory is = tt
refused name old new (Length n) is = is
refused name old new OldVersion is = is
refused name old new BadSuper is = is
refused name old new (Fails rule ino page slot) is = is

pub first_page_refused : (name : List ℕ) (old new : Shelf) (whole : List (Option (List ℕ))) (count : ℕ) (fault : LoadFault) → IsFileOf (old.held name) whole count → ((bytes : List ℕ) → AreFilePages bytes whole count → IsFirstPageFault current_version old_version bytes fault) → LoadFails name old new fault
first_page_refused name old new whole count fault file bad = refused name old new fault (record {
  bytes = file.bytes;
  told = file.told;
  within = file.within;
  cause = first_page_loads file.bytes fault (bad file.bytes file.are);
  fails = first_page_refuses file.bytes fault (bad file.bytes file.are);
})

pub pages_refused : (name : List ℕ) (old new : Shelf) (whole pages : List (Option (List ℕ))) (count : ℕ) (s : Superblock) (file : IsFileOf (old.held name) whole count) → HasLength file.bytes s → pages ≡ whole → (fault : LoadFault) → IsPagesFault s pages fault → LoadFails name old new fault
pages_refused name old new whole pages count s file has same NoMemory bad = tt
pages_refused name old new whole pages count s file has same (Fails rule ino page slot) bad =
    let cause = pages_load file.bytes s pages (Fails rule ino page slot) has (same ∙ file_pages current_version file.bytes whole count s file.are has) bad in
    record { bytes = file.bytes; told = file.told; within = file.within; cause = cause; fails = load_refuses file.bytes (Fails rule ino page slot) cause (λ e. absurd cc) }
pages_refused name old new whole pages count s file has same (Length n) bad = absurd bad
pages_refused name old new whole pages count s file has same OldVersion bad = absurd bad
pages_refused name old new whole pages count s file has same BadSuper bad = absurd bad
pages_refused name old new whole pages count s file has same ReadFault bad = absurd bad
pages_refused name old new whole pages count s file has same TooLong bad = absurd bad

-- ---- the image

loaded_as : (content : Option (List ℕ)) (whole pages : List (Option (List ℕ))) (count : ℕ) (s : Superblock) (file : IsFileOf content whole count) → HasLength file.bytes s → pages ≡ whole → PagesVerify s pages → Loads content s pages
loaded_as content whole pages count s file has same v =
    let is = same ∙ file_pages current_version file.bytes whole count s file.are has in
    record {
      bytes = file.bytes;
      told = file.told;
      within = file.within;
      lengths = has;
      pages_are = is;
      verify = record { superblock = s; read = has.superblock; whole = has.length_is; verify = subst (PagesVerify s) is v };
    }

pub loaded : (content : Option (List ℕ)) (whole pages : List (Option (List ℕ))) (count : ℕ) (s : Superblock) (file : IsFileOf content whole count) → HasLength file.bytes s → pages ≡ whole → (image : ImagePages) → image ≡ record { superblock = s; pages = pages } → IsVerified image.superblock image.pages → Loads content image.superblock image.pages
loaded content whole pages count s file has same image is v =
    let known : IsVerified s pages = subst (λ (i : ImagePages). IsVerified i.superblock i.pages) is v in
    subst (λ (i : ImagePages). Loads content i.superblock i.pages) (sym is) (loaded_as content whole pages count s file has same known.verify)

pub loaded_if : {E : Type 0} (content : Option (List ℕ)) (whole pages : List (Option (List ℕ))) (count : ℕ) (s : Superblock) (file : IsFileOf content whole count) → HasLength file.bytes s → pages ≡ whole → (r : Result ImagePages E)
    → IfOk r (λ image. image ≡ record { superblock = s; pages = pages }) → IfOk r (λ image. IsVerified image.superblock image.pages) → IfOk r (λ image. Loads content image.superblock image.pages)
loaded_if content whole pages count s file has same (Ok image) is v = loaded content whole pages count s file has same image is v
loaded_if content whole pages count s file has same (Err e) is v = tt
