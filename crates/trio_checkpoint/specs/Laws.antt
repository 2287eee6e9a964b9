-- Laws of checkpoints.
use Rattle.std.specs.Prelude.{◌≡◌, ℕ, Bool, List, Option, IsTrue}
use Rattle.trio_rights.specs.declared.kind.Kind.{Kind}
use Rattle.trio_lists.specs.Lists.{is_among}
use Rattle.trio_layout.specs.Core.{Core}
use Rattle.trio_rights.specs.Sheets.{Sheet, sheet_numbers, with_pages}
use Rattle.trio_layout.specs.Pages.{covered_of, sheets_of}
use Rattle.trio_layout.specs.Accept.{with_body_at}
use Rattle.trio_checkpoint.specs.Covered.{with_body}

-- What is covered of a file with these index pages and blocks, put back where it was taken, leaves the pages as they are.
abbrev pub RestoringKeeps : Type 0
RestoringKeeps =
    (core : Core) (kind : Kind) (guarded : Bool) (index blocks : List ℕ)
    → with_pages (covered_of kind guarded (sheets_of core index) (sheets_of core blocks)) core.pages ≡ core.pages

-- Covered pages with a body renewed, put in place, are those pages put in place with the body renewed there.
abbrev pub RenewedBodyIsRestored : Type 0
RenewedBodyIsRestored =
    (page slot : ℕ) (body : List ℕ) (sheets : List Sheet) (pages : List (Option (List ℕ)))
    → IsTrue (is_among page (sheet_numbers sheets))
    → with_pages (with_body page slot body sheets) pages ≡ with_body_at page slot body (with_pages sheets pages)
