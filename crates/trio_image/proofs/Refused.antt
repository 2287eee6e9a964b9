-- Bytes that are refused don't verify.
use Rattle.trio_image.proofs.Words.{◌*◌, ◌∙◌, ◌≡◌, ◌≢◌, BadSuper, BytesVerify, Fails, HasLength, IsBadSuper, IsFirstPageFault, IsPagesFault, IsSuperblock, Length, List, LoadFault, NoMemory, OldVersion, Option, PagesVerify, ReadFault, Superblock, TooLong, ap, arith, current_version, inl, inr, old_version, only, pages_in, refl, subst, superblock_facts, sym, take, ℕ}
use Rattle.trio_survey.specs.declared.fault.SurveyFault.{SurveyFault}
use Rattle.trio_survey.specs.declared.fault.SurveyFault.TheVariants.{Fails as SurveyFails, NoMemory as SurveyNoMemory}
use Rattle.trio_survey.specs.Verdict.{IsDenied}
use Rattle.trio_image.specs.Fault.{fault_of_survey, IsBadLength, IsLoadFault, IsOldVersion}

-- bytes are those of one superblock at most
one_superblock : (bytes : List ℕ) (s t : Superblock) → IsSuperblock bytes s → IsSuperblock bytes t → s ≡ t
one_superblock bytes s t a b = sym (only current_version bytes s (omega arith) a).0 ∙ (only current_version bytes t (omega arith) b).0

pub pages_verify : (bytes : List ℕ) (s : Superblock) → HasLength bytes s → BytesVerify bytes → PagesVerify s (pages_in s.pages bytes)
pages_verify bytes s has v =
    subst (λ (t : Superblock). PagesVerify t (pages_in t.pages bytes)) (one_superblock (take 4096 bytes) v.superblock s v.read has.superblock) v.verify

bad_length : (bytes : List ℕ) (n : ℕ) → IsBadLength bytes n → BytesVerify bytes → ⊥
bad_length bytes n bad v =
    let facts = superblock_facts v.superblock v.read.fits in
    elim bad.1 [
      | inl short ↦ absurd (omega (arith, v.whole, facts.some_pages))
      | inr other ↦ other.2 (v.whole ∙ ap (λ (t : Superblock). 4096 * t.pages) (one_superblock (take 4096 bytes) v.superblock other.0 v.read other.1))
    ]

bad_super : (bytes : List ℕ) → IsBadSuper bytes → BytesVerify bytes → ⊥
bad_super bytes bad v = bad.1 v.superblock v.read

old_version_bad : (bytes : List ℕ) → IsOldVersion bytes → BytesVerify bytes → ⊥
old_version_bad bytes bad v = bad.0 v.superblock v.read

-- a fault of the first page is one of loading
pub first_page_loads : (bytes : List ℕ) (fault : LoadFault) → IsFirstPageFault current_version old_version bytes fault → IsLoadFault bytes fault
first_page_loads bytes (Length n) bad = bad
first_page_loads bytes OldVersion bad = bad
first_page_loads bytes BadSuper bad = bad
first_page_loads bytes (Fails rule ino page slot) bad = absurd bad
first_page_loads bytes NoMemory bad = absurd bad
first_page_loads bytes ReadFault bad = absurd bad
first_page_loads bytes TooLong bad = absurd bad

pub first_page_refuses : (bytes : List ℕ) (fault : LoadFault) → IsFirstPageFault current_version old_version bytes fault → BytesVerify bytes → ⊥
first_page_refuses bytes (Length n) bad v = bad_length bytes n bad v
first_page_refuses bytes OldVersion bad v = old_version_bad bytes bad v
first_page_refuses bytes BadSuper bad v = bad_super bytes bad v
first_page_refuses bytes (Fails rule ino page slot) bad v = absurd bad
first_page_refuses bytes NoMemory bad v = absurd bad
first_page_refuses bytes ReadFault bad v = absurd bad
first_page_refuses bytes TooLong bad v = absurd bad

-- so is one of the pages that were read
pub pages_load : (bytes : List ℕ) (s : Superblock) (pages : List (Option (List ℕ))) (fault : LoadFault) → HasLength bytes s → pages ≡ pages_in s.pages bytes → IsPagesFault s pages fault → IsLoadFault bytes fault
pages_load bytes s pages (Fails rule ino page slot) has is bad = (s, has, subst (λ ps. IsDenied s ps (SurveyFails rule ino page slot)) is bad)
pages_load bytes s pages NoMemory has is bad = tt
pages_load bytes s pages (Length n) has is bad = absurd bad
pages_load bytes s pages OldVersion has is bad = absurd bad
pages_load bytes s pages BadSuper has is bad = absurd bad
pages_load bytes s pages ReadFault has is bad = absurd bad
pages_load bytes s pages TooLong has is bad = absurd bad

pub load_refuses : (bytes : List ℕ) (fault : LoadFault) → IsLoadFault bytes fault → fault ≢ NoMemory → BytesVerify bytes → ⊥
load_refuses bytes (Length n) bad other v = bad_length bytes n bad v
load_refuses bytes OldVersion bad other v = old_version_bad bytes bad v
load_refuses bytes BadSuper bad other v = bad_super bytes bad v
load_refuses bytes (Fails rule ino page slot) bad other v = bad.2.0 (pages_verify bytes bad.0 bad.1 v)
load_refuses bytes NoMemory bad other v = other refl
load_refuses bytes ReadFault bad other v = absurd bad
load_refuses bytes TooLong bad other v = absurd bad

pub pages_refuse : (s : Superblock) (pages : List (Option (List ℕ))) (fault : LoadFault) → IsPagesFault s pages fault → fault ≢ NoMemory → PagesVerify s pages → ⊥
pages_refuse s pages (Fails rule ino page slot) bad other v = bad.0 v
pages_refuse s pages NoMemory bad other v = other refl
pages_refuse s pages (Length n) bad other v = absurd bad
pages_refuse s pages OldVersion bad other v = absurd bad
pages_refuse s pages BadSuper bad other v = absurd bad
pages_refuse s pages ReadFault bad other v = absurd bad
pages_refuse s pages TooLong bad other v = absurd bad

-- a fault of the survey, as it is told of pages
pub survey_told : (s : Superblock) (pages : List (Option (List ℕ))) (fault : SurveyFault) → IsDenied s pages fault → IsPagesFault s pages (fault_of_survey fault)
survey_told s pages (SurveyFails rule ino page slot) bad = bad
survey_told s pages SurveyNoMemory bad = tt
