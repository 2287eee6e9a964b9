-- The pages of a bundle before any was read. Cited by private functions alone.
use Rattle.std.specs.Prelude.{ℕ, ◌≡◌, List, map}
use Rattle.trio_rights.specs.Bundle.{bundle_pages}
use Rattle.trio_lists.specs.Lists.{In}
use Rattle.trio_lease.specs.Bundles.{Bundled}
use Rattle.trio_lease.specs.Views.{bundle_in}
use Rattle.trio_case.specs.Order.{in_order}
use Rattle.trio_case.specs.Rooms.{AreCountedIn, IsUnread}
use Rattle.trio_case.specs.declared.kept.KeptPages.{KeptPages}
use Rattle.trio_case.specs.declared.kept.KeptPage.{KeptPage}

-- the numbers of pages
abbrev pub numbers_of : List KeptPage → List ℕ
numbers_of pages = map (λ p. p.no) pages

-- each is a page of the bundle of which nothing was read
abbrev pub AreUnread : Bundled → List KeptPage → Type 0
AreUnread b pages = (p : KeptPage) → In p pages → IsUnread b p

-- each knows its place among the numbers of all
abbrev pub CountsItself : List KeptPage → Type 0
CountsItself pages = AreCountedIn (numbers_of pages) pages

-- just the bundle's pages in rising order, none of which was read
pub record IsUnreadOf (b : Bundled) (kept : KeptPages) : Type 0 where
  pub order : kept.order.items ≡ in_order (bundle_pages (bundle_in b))
  pub numbers : numbers_of kept.pages.items ≡ kept.order.items
  pub each : AreUnread b kept.pages.items
