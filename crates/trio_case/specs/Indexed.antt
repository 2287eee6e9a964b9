-- An index of a bundle's pages.
use Rattle.std.specs.Prelude.{ℕ}
use Rattle.trio_rights.specs.Bundle.{bundle_pages}
use Rattle.trio_lease.specs.Views.{bundle_in}
use Rattle.trio_case.specs.Cases.{CaseShown}
use Rattle.trio_case.specs.Rooms.{AreCountedIn, HasPagePlaces, KeepsPages}
use Rattle.trio_case.specs.declared.index.PageIndex.{PageIndex}

-- the index has each page of the case's bundle at its place, and knows where it stands among all of them
pub record IsIndexOf (k : CaseShown) (index : PageIndex) : Type 0 where
  pub pages : KeepsPages k index.kept
  pub counted : AreCountedIn (bundle_pages (bundle_in k.bundle)) index.kept.pages.items

-- the index has places for so many pages
abbrev pub HasPlacesFor : ℕ → PageIndex → Type 0
HasPlacesFor pages index = HasPagePlaces pages index.kept
