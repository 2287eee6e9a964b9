-- What callers know of an image and a bundle that are judged, and what a verdict says.
use Rattle.std.specs.Prelude.{◌≡◌, ◌≢◌, ◌<◌, ◌≤◌, ◌-◌, ℕ, List, [], Option, Some, IsTrue, is_some, length, ⊤}
use Rattle.trio_rights.specs.Row.{Row}
use Rattle.trio_layout.specs.declared.range.CoreRange.{CoreRange}
use Rattle.trio_layout.specs.Core.{page_of}
use Rattle.trio_lists.specs.Lists.{In}
use Rattle.trio_rights.specs.Sheets.{Sheet}
use Rattle.trio_layout.specs.Image.{Image, IsFit, row_at}
use Rattle.trio_rights.specs.Bundle.{Bundle, bundle_sheets}
use Rattle.trio_proposal.specs.declared.judgement.NextImage.{NextImage}
use Rattle.trio_proposal.specs.declared.judgement.Verdict.{Verdict}
use Rattle.trio_proposal.specs.declared.judgement.Verdict.TheVariants.{Accepted, Refused}

-- the image of these pages, root, core pages and tables; it has an inode number for each row but the first, which is no number's
abbrev pub image_of : List (Option (List ℕ)) → List ℕ → CoreRange → List (Option Row) → List ℕ → Image
image_of pages root range rows owners = record {
  core = record { pages = pages; root = root; range = range; inodes = length rows - 1 };
  rows = rows;
  owners = owners;
}

-- what a caller knows of a settled image and of a bundle that was given
pub record CanBeJudged (image : Image) (b : Bundle) : Type 0 where
  -- each page has 4096 bytes, and each core page has its place in the list
  pub fit : IsFit image.core
  -- the core ends within the pages that a table of owners can have
  pub order : image.core.range.first ≤ image.core.range.end
  pub small : image.core.range.end ≤ 8192
  -- each live number but the root's stands in a slot of a core page that is there
  pub placed : (n : ℕ) (r : Row) → row_at image n ≡ Some r → n ≢ 1 → (r.slot < 16) × IsTrue (is_some (page_of image.core r.page))
  -- each page of the bundle has 4096 bytes, and its place among the pages
  pub full : (x : Sheet) → In x (bundle_sheets b) → length x.bytes ≡ 4096
  pub within : (x : Sheet) → In x (bundle_sheets b) → x.page < length image.core.pages
  -- no file is held
  pub no_holds : b.holds ≡ []

-- the code's image is this one
pub record IsImage (image : Image) (n : NextImage) : Type 0 where
  pub pages : n.pages.pages ≡ image.core.pages
  pub root : n.root ≡ image.core.root
  pub rows : n.rows ≡ image.rows
  pub owners : n.owners ≡ image.owners

-- what is said of the image that stands, where the bundle was accepted
abbrev pub IfAccepted : (NextImage → Type 0) → Verdict → Type 0
IfAccepted P (Accepted n) = P n
IfAccepted P Refused = ⊤

-- what is said where it was refused
abbrev pub IfRefused : Type 0 → Verdict → Type 0
IfRefused P (Accepted n) = ⊤
IfRefused P Refused = P
