-- Images and their bytes.
use Rattle.trio_image.proofs.Words.{◌*◌, ◌/◌, ◌<◌, ◌∙◌, ◌≡◌, ◌≤◌, AreFilePages, BytesVerify, HasLengthOf, HasPage, IsOutside, IsSuperblock, IsSuperblockOf, IsVerified, IsWholeImageOf, List, None, Option, PagesVerify, Some, Superblock, ap, arith, bytes_in, current_version, get_or, length, pages_in, refl, subst, suc, superblock_facts, sym, take, zero, ℕ}
use Rattle.trio_image.specs.declared.fault.LoadFault.{LoadFault}
use Rattle.trio_image.specs.declared.fault.LoadFault.TheVariants.{BadSuper, OldVersion}
use Rattle.trio_image.specs.Reading.{IsFirstPageFault}
use Rattle.trio_image.specs.inner.Reading.{IsFirstFault}
use Rattle.trio_image.proofs.Pages.{first_bytes, length-bytes_in, length-pages_in, pages_again, whole_pages_in}

first_page : (n : ℕ) (bytes : List ℕ) → 0 < n → HasPage (pages_in n bytes) 0 (take 4096 bytes)
first_page zero bytes lt = absurd (omega arith)
first_page (suc n) bytes lt = refl

-- the pages of bytes with their superblock's length
pub pages_whole : (version : ℕ) (bytes : List ℕ) (s : Superblock) → HasLengthOf version bytes s → IsWholeImageOf version s (pages_in s.pages bytes)
pages_whole version bytes s has =
    let facts = superblock_facts s has.superblock.fits in
    record {
      count = length-pages_in s.pages bytes;
      whole = whole_pages_in s.pages bytes (omega (arith, has.length_is));
      superblock = record { bytes = take 4096 bytes; here = first_page s.pages bytes (omega (arith, facts.some_pages)); read = has.superblock };
    }

pub again : (version : ℕ) (s : Superblock) (pages : List (Option (List ℕ))) → IsWholeImageOf version s pages → pages_in s.pages (bytes_in pages) ≡ pages
again version s pages w = ap (λ (n : ℕ). pages_in n (bytes_in pages)) (sym w.count) ∙ pages_again pages w.whole

-- the bytes of an image that verifies
pub bytes_verify : (s : Superblock) (pages : List (Option (List ℕ))) → IsVerified s pages → BytesVerify (bytes_in pages)
bytes_verify s pages v =
    let w = v.whole in
    record {
      superblock = s;
      read = subst (λ b. IsSuperblock b s) (sym (first_bytes pages w.superblock.bytes w.whole w.superblock.here)) w.superblock.read;
      whole = length-bytes_in pages w.whole ∙ ap (λ (n : ℕ). 4096 * n) w.count;
      verify = subst (PagesVerify s) (sym (again current_version s pages w)) v.verify;
    }

-- the first page of a file
first_in : (n : ℕ) (bytes first : List ℕ) → get_or (pages_in n bytes) 0 None ≡ Some first → (1 ≤ n) × (take 4096 bytes ≡ first)
first_in zero bytes first is = absurd cc
first_in (suc n) bytes first is = (omega arith, cc)

pub first_of_file : (bytes first : List ℕ) (whole : List (Option (List ℕ))) (count : ℕ) → AreFilePages bytes whole count → get_or whole 0 None ≡ Some first → (4096 ≤ length bytes) × (take 4096 bytes ≡ first)
first_of_file bytes first whole count are is =
    let known = first_in (length bytes / 4096) bytes first (ap (λ ps. get_or ps 0 None) (sym are.whole_are) ∙ is) in
    (omega (arith, known.0), known.1)

-- a first page that is no superblock in a version
pub bad_first : (version : ℕ) (bytes first : List ℕ) (whole : List (Option (List ℕ))) (count : ℕ) → AreFilePages bytes whole count → get_or whole 0 None ≡ Some first → ((s : Superblock) → IsSuperblockOf version first s → ⊥) → IsOutside version bytes
bad_first version bytes first whole count are is bad =
    let known = first_of_file bytes first whole count are is in
    λ s read. bad s (subst (λ b. IsSuperblockOf version b s) known.1 read)

-- why a first page is no superblock in a version
pub first_fault : (version other : ℕ) (bytes first : List ℕ) (whole : List (Option (List ℕ))) (count : ℕ) → AreFilePages bytes whole count → get_or whole 0 None ≡ Some first → ((s : Superblock) → IsSuperblockOf version first s → ⊥) → (fault : LoadFault) → IsFirstFault other first fault → IsFirstPageFault version other bytes fault
first_fault version other bytes first whole count are is bad OldVersion found =
    (bad_first version bytes first whole count are is bad, (found.0, subst (λ b. IsSuperblockOf other b found.0) (sym (first_of_file bytes first whole count are is).1) found.1))
first_fault version other bytes first whole count are is bad BadSuper none =
    ((first_of_file bytes first whole count are is).0, bad_first version bytes first whole count are is bad, bad_first other bytes first whole count are is none)
first_fault version other bytes first whole count are is bad _ none = absurd none

pub first_superblock : (version : ℕ) (bytes first : List ℕ) (whole : List (Option (List ℕ))) (count : ℕ) (s : Superblock) → AreFilePages bytes whole count → get_or whole 0 None ≡ Some first → IsSuperblockOf version first s → IsSuperblockOf version (take 4096 bytes) s
first_superblock version bytes first whole count s are is read =
    let known = first_of_file bytes first whole count are is in
    subst (λ b. IsSuperblockOf version b s) (sym known.1) read

-- as many bytes as the superblock says, all of them in pages
pub file_pages : (version : ℕ) (bytes : List ℕ) (whole : List (Option (List ℕ))) (count : ℕ) (s : Superblock) → AreFilePages bytes whole count → HasLengthOf version bytes s → whole ≡ pages_in s.pages bytes
file_pages version bytes whole count s are has =
    let n : length bytes / 4096 ≡ s.pages = omega (arith, has.length_is) in
    are.whole_are ∙ ap (λ (k : ℕ). pages_in k bytes) n
