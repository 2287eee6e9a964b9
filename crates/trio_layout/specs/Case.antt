-- What a bundle is judged by. No page of the image is in it but those of the bundle.
use Rattle.std.specs.Prelude.{ℕ, List, [], map, Option, None, replicate, Result}
use Rattle.trio_rights.specs.Row.{Row}
use Rattle.trio_rights.specs.declared.rights.Creds.{Creds}
use Rattle.trio_layout.specs.declared.range.CoreRange.{CoreRange}
use Rattle.trio_layout.specs.Core.{Core, Location}
use Rattle.trio_layout.specs.Survey.{Met, FileRead}
use Rattle.trio_layout.specs.Within.{file_within}
use Rattle.trio_rights.specs.Sheets.{with_pages}
use Rattle.trio_layout.specs.Image.{Image, settled_body}
use Rattle.trio_rights.specs.Bundle.{Bundle, bundle_sheets}

-- a held file, with the body that its hold lent
pub record Held : Type 0 where
  pub ino : ℕ
  pub body : List ℕ

-- The bundle, the bodies that its holds lent, the rows of the image, the library's credentials, the core range, and
-- the count of inode numbers.
pub record Case : Type 0 where
  pub bundle : Bundle
  pub lent : List Held
  pub rows : List (Option Row)
  pub creds : Creds
  pub range : CoreRange
  pub inodes : ℕ

-- the case of a library's bundle on an image: a hold lent the settled body of its file
abbrev pub case_of : Image → Creds → Bundle → Case
case_of image creds b = record {
  bundle = b;
  lent = map (λ n. record { ino = n; body = settled_body image n }) b.holds;
  rows = image.rows;
  creds = creds;
  range = image.core.range;
  inodes = image.core.inodes;
}

-- the bundle's pages at their numbers; every other page is absent
abbrev pub bundle_core : Case → Core
bundle_core c = record {
  pages = with_pages (bundle_sheets c.bundle) (replicate c.range.end None);
  root = [];
  range = c.range;
  inodes = c.inodes;
}

-- a file of the bundle, read as far as its pages are the bundle's
abbrev pub file_in : Case → Met → Result FileRead Location
file_in c m = file_within (bundle_core c) m
