-- The files of a bundle, as their leases show them.
use Rattle.std.specs.Prelude.{ℕ, List, [], ◌++◌, map, length, Option, IsTrue}
use Rattle.trio_lists.specs.Marked.{all_below}
use Rattle.trio_rights.specs.Bundle.{Bundle}
use Rattle.trio_rights.specs.Sheets.{Sheet, sheet_numbers}
use Rattle.trio_layout.specs.Body.{guard_in}
use Rattle.trio_checkpoint.specs.Covered.{Checkpointed}
use Rattle.trio_allot.specs.Out.{OutByNumber}
use Rattle.trio_lease.specs.declared.parts.LentPage.{LentPage}
use Rattle.trio_lease.specs.Shown.{LentFile}
use Rattle.trio_lease.specs.Views.{lent_sheet, written_in}
use Rattle.trio_state.specs.Bundles.{uncovered_of}
use Rattle.trio_commit.specs.Handed.{body_before}

-- the numbers of files that were lent for writing
abbrev pub lease_numbers : List LentFile → List ℕ
lease_numbers files = map (λ f. f.stands.ino) files

-- lent pages, whether touched or not
abbrev pub lent_sheets : List LentPage → List Sheet
lent_sheets pages = map lent_sheet pages

-- the pages of a file that was lent for writing, as it stands
abbrev pub file_sheets : LentFile → List Sheet
file_sheets f = lent_sheets f.stands.index ++ lent_sheets f.stands.blocks

-- those of its blocks that no checkpoint covers, by its own body
abbrev pub uncovered_sheets : LentFile → List Sheet
uncovered_sheets f = uncovered_of f.stands.kind (guard_in f.stands.body) (lent_sheets f.stands.blocks)

-- the file with the body that it was lent with
abbrev pub as_before : List (Option Checkpointed) → LentFile → LentFile
as_before checkpoints f = record f { stands = record f.stands { body = body_before checkpoints (written_in f.stands) } }

-- what a bundle has by allotment has its places in the image
pub record IsWithinImage (outs : OutByNumber) (b : Bundle) : Type 0 where
  pub pages : IsTrue (all_below (length outs.pages) (sheet_numbers b.pages))
  pub numbers : IsTrue (all_below (length outs.numbers) b.numbers)

-- the written files of these leases, as a bundle without anything else
abbrev pub leases_in : List LentFile → Bundle
leases_in files = record { writes = map (λ f. written_in f.stands) files; holds = []; pages = []; numbers = [] }
