-- What a store is once an accepted bundle was put in place: each field is the clause of that name of `Store::commit`.
use Rattle.std.specs.Prelude.{◌≡◌, ℕ, None, length, slice_index}
use Rattle.trio_rights.specs.Bundle.{Bundle, bundle_sheets}
use Rattle.trio_rights.specs.Row.{row_in}
use Rattle.trio_rights.specs.Sheets.{sheet_numbers, with_pages}
use Rattle.trio_tables.specs.Out.{with_all}
use Rattle.trio_layout.specs.Accept.{with_bodies}
use Rattle.trio_layout.specs.Listing.{Listing}
use Rattle.trio_layout.specs.Tables.{owner_after, row_after}
use Rattle.trio_allot.specs.Out.{outs_after}
use Rattle.trio_commit.specs.declared.store.Store.{Store}
use Rattle.trio_commit.specs.Bodies.{bodies_home, kept_children, placed_files, root_after, with_children}
use Rattle.trio_commit.specs.Listed.{file_numbers}

-- the store before, the store after, the bundle and its listing
pub record Commits (s s' : Store) (b : Bundle) (l : Listing) : Type 0 where
  pub home : s'.home.pages ≡ with_bodies (kept_children (with_children (placed_files s.rows b) s.checkpoints.items) l.entries)
      (with_pages (bundle_sheets b) (with_bodies (bodies_home s.rows s.checkpoints.items b) s.home.pages))
  pub checkpoints : s'.checkpoints.items ≡ with_all None (file_numbers l) (with_children (placed_files s.rows b) s.checkpoints.items)
  pub root : s'.root ≡ root_after b s.root
  pub rows : (n : ℕ) → row_in s'.rows n ≡ row_after l s.rows n
  pub owners : (page : ℕ) → slice_index s'.owners page ≡ owner_after l s.owners page
  pub sizes : (length s'.rows ≡ length s.rows) × (length s'.owners ≡ length s.owners)
  pub allotments : s'.allotments ≡ outs_after s.allotments (sheet_numbers b.pages) b.numbers
