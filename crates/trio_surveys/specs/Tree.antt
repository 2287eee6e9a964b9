-- One connected tree with each page owned once, its rows as the files say.
use Rattle.std.specs.Prelude.{◌≡◌, ◌≢◌, ℕ, zero, suc, [], ◌∷◌, Some, Ok, is_some, slice_index, IsTrue}
use Rattle.trio_rights.specs.Row.{Row}
use Rattle.trio_lists.specs.Lists.{In, are_new}
use Rattle.trio_layout.specs.Range.{is_core}
use Rattle.trio_layout.specs.Core.{Core}
use Rattle.trio_layout.specs.Survey.{Met, Pick, plain, FileRead, file_of, survey, root_of, children, pages_of, row_by, numbers}
use Rattle.trio_layout.specs.Sound.{listings, listed_pages}
use Rattle.trio_layout.specs.Image.{Image, IsFit, row_at, settled_body}
use Rattle.trio_layout.specs.Verifies.{Verifies}

-- a way of so many steps from the root down to a file, each to a file that the one before it lists
abbrev pub Reaches : Core → Pick → ℕ → Met → Type 0
Reaches core pick zero m = m ≡ root_of core
Reaches core pick (suc steps) m = (parent : Met) × Reaches core pick steps parent × In m (children core pick parent)

-- The file of a live number: it is met from the root, alone of its number, and read whole. Its row says where it is listed and
-- what it is, and its rights are those that its body says.
pub record IsLive (image : Image) (n : ℕ) (r : Row) : Type 0 where
  pub met : Met
  pub file : FileRead
  pub stands : In met (survey image.core plain)
  pub number : met.ino ≡ n
  pub alone : (other : Met) → In other (survey image.core plain) → other.ino ≡ n → other ≡ met
  pub steps : ℕ
  pub reached : Reaches image.core plain steps met
  pub read : file_of image.core met ≡ Ok file
  pub body : met.body ≡ settled_body image n
  pub row : r ≡ row_by met file.body

-- The survey is the root and what its files list. Each live number is that of one file met, and each file met is live. Each page
-- is listed once; the owner row of a listed page names the file that lists it, and an owner row names no other file.
pub record IsTree (image : Image) : Type 0 where
  pub listed : survey image.core plain ≡ root_of image.core ∷ listings image.core plain (survey image.core plain)
  pub once : IsTrue (are_new [] (numbers (survey image.core plain)))
  pub live : (n : ℕ) (r : Row) → row_at image n ≡ Some r → IsLive image n r
  pub met : (m : Met) → In m (survey image.core plain) → IsTrue (is_some (row_at image m.ino))
  pub pages_once : IsTrue (are_new [] (listed_pages image.core (survey image.core plain)))
  pub owner :
      (m : Met) (page : ℕ) → In m (survey image.core plain) → In page (pages_of image.core m)
      → slice_index image.owners page ≡ m.ino
  pub owned :
      (page : ℕ) → IsTrue (is_core image.core.range page) → slice_index image.owners page ≢ 0
      → (m : Met) × In m (survey image.core plain) × (m.ino ≡ slice_index image.owners page) × In page (pages_of image.core m)

-- an image that verifies is one tree
abbrev pub ImageIsTree : Type 0
ImageIsTree = (image : Image) → IsFit image.core → Verifies image → IsTree image
