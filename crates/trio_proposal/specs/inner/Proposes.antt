-- What the code's tables have of a bundle. Cited by private functions alone.
use Rattle.std.specs.Prelude.{◌≡◌, ℕ, List, Option, None, length, map, slice_index_or, unwrap_or}
use Rattle.trio_rights.specs.Row.{Row}
use Rattle.trio_lists.specs.Marked.{MarksJust}
use Rattle.trio_lease.specs.Bundles.{Bundled}
use Rattle.trio_lease.specs.Views.{bundle_in}
use Rattle.trio_rights.specs.Bundle.{bundle_pages}
use Rattle.trio_proposal.specs.inner.Steps.{AreLentBodies, AreKept, ArePicked}
use Rattle.trio_proposal.specs.declared.propose.Proposal.{Proposal}

-- the tables are those of this bundle over an image of these pages, root and rows
pub record Proposes (old : List (Option (List ℕ))) (settled : List ℕ) (rows : List (Option Row)) (b : Bundled) (p : Proposal) : Type 0 where
  pub written : AreLentBodies b.writes p.handed.written.items
  pub many_written : length p.handed.written.items ≡ length rows
  pub kept : AreKept old settled rows p.handed.written.items p.kept.items
  pub picks : ArePicked rows p.kept.items p.picks
  pub root : p.root ≡ unwrap_or (slice_index_or p.handed.written.items 1 None) settled
  pub numbers : MarksJust p.handed.numbers.items (map (λ n. n.no) b.inodes)
  pub many_numbers : length p.handed.numbers.items ≡ length rows
  pub pages : MarksJust p.handed.pages.items (bundle_pages (bundle_in b))
  pub many_pages : length p.handed.pages.items ≡ length old
