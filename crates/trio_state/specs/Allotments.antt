-- Which pages and inode numbers are free, and what is handed out.
use Rattle.std.specs.Prelude.{ℕ, Bool, false, not, ◌==◌, List, Option, None, Some}
use Rattle.std.specs.List.{list_any}
use Rattle.trio_rights.specs.declared.rights.LibNo.{LibNo}
use Rattle.trio_tables.specs.Free.{free_pages as free_of_owners, free_numbers as free_of_rows}
use Rattle.trio_tables.specs.Out.{with_all}
use Rattle.trio_rights.specs.Sheets.{without_pages}
use Rattle.trio_layout.specs.Image.{with_core_pages}
use Rattle.trio_state.specs.State.{State, logged}

-- The free pages, the lowest first: owned by nobody, and not out. They are core pages, since in an image that verifies the
-- pages below the first core page have the controller for their owner.
abbrev pub free_pages : State → List ℕ
free_pages s = free_of_owners s.home.owners s.pages_out

-- the free inode numbers, the lowest first: not live, and not out
abbrev pub free_numbers : State → List ℕ
free_numbers s = free_of_rows s.home.rows s.numbers_out

-- what is out once these numbers went out to a library
abbrev pub out_with : List (Option LibNo) → ℕ → List ℕ → List (Option LibNo)
out_with outs lib these = with_all (Some (record { 0 = lib })) these outs

-- what is out once these numbers are back
abbrev pub out_after : List (Option LibNo) → List ℕ → List (Option LibNo)
out_after outs these = with_all None these outs

-- pages and numbers go out to a library
abbrev pub allots : State → ℕ → List ℕ → List ℕ → State
allots s lib pages numbers = logged (record s {
  home = with_core_pages s.home (without_pages pages s.home.core.pages);
  pages_out = out_with s.pages_out lib pages;
  numbers_out = out_with s.numbers_out lib numbers;
})

-- it is this library
abbrev pub is_library : ℕ → Option LibNo → Bool
is_library lib None = false
is_library lib (Some l) = l.0 == lib

-- nothing is out to the library
abbrev pub has_none_out : ℕ → List (Option LibNo) → Bool
has_none_out lib outs = not (list_any (is_library lib) outs)
