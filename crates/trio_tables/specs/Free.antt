-- Which pages and inode numbers are free, by the tables and by what is out.
use Rattle.std.specs.Prelude.{ℕ, zero, suc, ◌-◌, ◌==◌, Bool, not, ◌&&◌, List, [], ◌∷◌, length, filter, Option, is_some, slice_index}
use Rattle.trio_rights.specs.Row.{Row, row_in}
use Rattle.trio_rights.specs.declared.rights.LibNo.{LibNo}
use Rattle.trio_tables.specs.Out.{is_out}

-- so many numbers from `from` on
abbrev pub count_up : ℕ → ℕ → List ℕ
count_up from zero = []
count_up from (suc n) = from ∷ count_up (suc from) n

-- the numbers from `from` on and below `end` that pass the test, the lowest first
abbrev pub numbers_where : (ℕ → Bool) → ℕ → ℕ → List ℕ
numbers_where test from end = filter test (count_up from (end - from))

-- the page has the owner 0, and isn't out
abbrev pub is_free_page : List ℕ → List (Option LibNo) → ℕ → Bool
is_free_page owners outs n = slice_index owners n == 0 && not (is_out outs n)

-- the free pages of the table of owners, the lowest first
abbrev pub free_pages : List ℕ → List (Option LibNo) → List ℕ
free_pages owners outs = numbers_where (is_free_page owners outs) 0 (length owners)

-- the inode number isn't live, and isn't out
abbrev pub is_free_number : List (Option Row) → List (Option LibNo) → ℕ → Bool
is_free_number rows outs n = not (is_some (row_in rows n)) && not (is_out outs n)

-- the free inode numbers of the table of rows, the lowest first; they begin at 1
abbrev pub free_numbers : List (Option Row) → List (Option LibNo) → List ℕ
free_numbers rows outs = numbers_where (is_free_number rows outs) 1 (length rows)
