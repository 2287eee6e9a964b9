-- What a comparison of the stored tables finds, and what it says of the image.
use Rattle.trio_survey.proofs.Words.{◌∙◌, ◌≡◌, Fails, IsDenied, IsRefused, IsSound, List, NoMemory, Option, PagesVerify, Row, Superblock, SurveyFault, core_in, false≢true, image_in, inl, inr, plain, sym, ℕ}
use Rattle.trio_survey.specs.Stored.{StoresTables}
use Rattle.trio_survey.specs.inner.Compared.{IsTableFault}

-- what the survey says of the image
pub denied_by_survey : (s : Superblock) (pages : List (Option (List ℕ))) (e : SurveyFault) → IsRefused (core_in s pages) plain e → IsDenied s pages e
denied_by_survey s pages (Fails rule ino page slot) r = (λ v. false≢true (sym r.0 ∙ v.sound), inl r.1)
denied_by_survey s pages NoMemory r = tt

-- the tables that a survey found are those of the image
pub record AreFound (s : Superblock) (pages : List (Option (List ℕ))) (rows : List (Option Row)) (owners : List ℕ) : Type 0 where
  pub sound : IsSound (core_in s pages) plain
  pub rows_are : rows ≡ (image_in s pages).rows
  pub owners_are : owners ≡ (image_in s pages).owners

pub denied_by_tables : (s : Superblock) (pages : List (Option (List ℕ))) (rows : List (Option Row)) (owners : List ℕ) (e : SurveyFault) → AreFound s pages rows owners → IsTableFault s pages rows owners e → IsDenied s pages e
denied_by_tables s pages rows owners (Fails rule ino page slot) found f =
    let g = rw (found.rows_are, found.owners_are) at f in
    (λ v. g.1 v.tables, inr (g.0, found.sound, g.2))
denied_by_tables s pages rows owners NoMemory found f = tt

pub verified : (s : Superblock) (pages : List (Option (List ℕ))) (rows : List (Option Row)) (owners : List ℕ) → AreFound s pages rows owners → StoresTables s pages rows owners → PagesVerify s pages
verified s pages rows owners found t =
    record { sound = found.sound; tables = rw (found.rows_are, found.owners_are) at t }
