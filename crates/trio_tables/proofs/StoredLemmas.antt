-- The stored tables, cell by cell.
use Rattle.std.proofs.Common.{◌≡◌, ℕ, ◌+◌, ◌-◌, ◌*◌, ◌/◌, ◌<◌, ◌≤◌, List, length, get_or, drop, Option, Some, None, refl, sym, ap, subst, ◌∙◌, arith}
use Rattle.std.specs.Prelude.{slice_range}
use Rattle.std.specs.Int.{w32, to_le_bytes}
use Rattle.std.proofs.lemmas.List.{length-drop, get_or-drop}
use Rattle.trio_page.specs.Field.{with_number, with_part, zeros}
use Rattle.trio_page.proofs.Fields.{length-to_le_bytes}
use Rattle.trio_page.proofs.Cursor.{Front, length-zeros}
use Rattle.trio_rights.specs.Row.{Row, row_in}
use Rattle.trio_tables.specs.Row.{row_bytes}
use Rattle.trio_tables.specs.Stored.{shadow_bytes, owner_bytes, padded_to_pages, page_at, HasRow, HasOwner}
use Rattle.trio_tables.proofs.CellLemmas.{AreCells, length-cells, length-padded, padded_cell, length-page_at, slice-page_at, cell_written, same_cells}

-- ---- rows

length-row_bytes : (row : Option Row) → length (row_bytes row) ≡ 32
unfolding row_bytes
length-row_bytes None = length-zeros 32
length-row_bytes (Some r) = simp length-zeros refl

row_cells : AreCells (Option Row) row_bytes 32 None
unfolding row_bytes
row_cells = record { sized = length-row_bytes; blank = refl }

pub length-shadow_bytes : (rows : List (Option Row)) → length (shadow_bytes rows) ≡ 32 * (length rows - 1)
unfolding shadow_bytes
length-shadow_bytes rows = length-cells (Option Row) row_bytes 32 None row_cells (drop 1 rows) ∙ ap (λ (n : ℕ). 32 * n) (length-drop 1 rows)

pub shadow_pages : (rows : List (Option Row)) → length (padded_to_pages (shadow_bytes rows)) ≡ 4096 * ((32 * (length rows - 1) + 4095) / 4096)
shadow_pages rows = length-padded (shadow_bytes rows) ∙ ap (λ (n : ℕ). 4096 * ((n + 4095) / 4096)) (length-shadow_bytes rows)

-- the page is within the stored table
rows_within : (rows : List (Option Row)) (k : ℕ) → 128 * k + 1 < length rows → 4096 * k + 4096 ≤ length (padded_to_pages (shadow_bytes rows))
rows_within rows k lt = omega (arith, length-padded (shadow_bytes rows), length-shadow_bytes rows)

row_there : (rows : List (Option Row)) (k i : ℕ) → 128 * k + 1 < length rows → i < 128
    → slice_range (padded_to_pages (shadow_bytes rows)) (4096 * k + 32 * i) (4096 * k + 32 * i + 32) ≡ row_bytes (row_in rows (128 * k + i + 1))
unfolding shadow_bytes
row_there rows k i lt small =
    let whole : List ℕ = padded_to_pages (shadow_bytes rows) in
    let place : 4096 * k + 32 * i ≡ 32 * (128 * k + i) = omega arith in
    let number : 1 + (128 * k + i) ≡ 128 * k + i + 1 = omega arith in
    ap (λ (n : ℕ). slice_range whole n (n + 32)) place
    ∙ padded_cell (Option Row) row_bytes 32 None row_cells (drop 1 rows) (128 * k + i) (omega (arith, rows_within rows k lt))
    ∙ ap row_bytes (get_or-drop 1 rows (128 * k + i) None ∙ ap (λ (n : ℕ). get_or rows n None) number)

-- the first rows of a page are written
abbrev pub RowsWritten : List (Option Row) → ℕ → List ℕ → ℕ → Type 0
RowsWritten rows k bytes i = Front bytes (slice_range (padded_to_pages (shadow_bytes rows)) (4096 * k) (4096 * k + 32 * i)) (32 * i) 4096

pub row_more : (rows : List (Option Row)) (k i : ℕ) (bytes : List ℕ) → 128 * k + 1 < length rows → i < 128 → RowsWritten rows k bytes i
    → RowsWritten rows k (with_part (32 * i) (row_bytes (row_in rows (128 * k + i + 1))) bytes) (i + 1)
row_more rows k i bytes lt small front =
    let row : Option Row = row_in rows (128 * k + i + 1) in
    cell_written (padded_to_pages (shadow_bytes rows)) (4096 * k) 32 i (row_bytes row) bytes front (row_there rows k i lt small) (length-row_bytes row) (omega arith)

-- ---- comparing rows

row_of_page : (rows : List (Option Row)) (k i : ℕ) → 128 * k + 1 < length rows → i < 128 → HasRow rows k (page_at k (padded_to_pages (shadow_bytes rows))) i
row_of_page rows k i lt small =
    let whole : List ℕ = padded_to_pages (shadow_bytes rows) in
    let end : 4096 * k + (32 * i + 32) ≡ 4096 * k + 32 * i + 32 = omega arith in
    slice-page_at k (32 * i) (32 * i + 32) whole (omega arith) (omega arith) ∙ ap (slice_range whole (4096 * k + 32 * i)) end ∙ row_there rows k i lt small

pub same_rows : (rows : List (Option Row)) (k : ℕ) (page : List ℕ) → 128 * k + 1 < length rows → length page ≡ 4096
    → ((i : ℕ) → i < 128 → HasRow rows k page i) → page ≡ page_at k (padded_to_pages (shadow_bytes rows))
same_rows rows k page lt len same =
    same_cells 32 128 page (page_at k (padded_to_pages (shadow_bytes rows))) len (length-page_at k (padded_to_pages (shadow_bytes rows)) (rows_within rows k lt))
    (λ i small. same i small ∙ sym (row_of_page rows k i lt small))

pub rows_of_same : (rows : List (Option Row)) (k : ℕ) (page : List ℕ) (i : ℕ) → 128 * k + 1 < length rows → i < 128
    → page ≡ page_at k (padded_to_pages (shadow_bytes rows)) → HasRow rows k page i
rows_of_same rows k page i lt small is = subst (λ (x : List ℕ). HasRow rows k x i) (sym is) (row_of_page rows k i lt small)

-- ---- owners

owner_cells : AreCells ℕ (to_le_bytes w32) 4 0
unfolding zeros
owner_cells = record { sized = length-to_le_bytes w32; blank = refl }

length-owner_bytes : (owners : List ℕ) → length (owner_bytes owners) ≡ 4 * length owners
unfolding owner_bytes
length-owner_bytes owners = length-cells ℕ (to_le_bytes w32) 4 0 owner_cells owners

pub owner_pages : (owners : List ℕ) → length (padded_to_pages (owner_bytes owners)) ≡ 4096 * ((4 * length owners + 4095) / 4096)
owner_pages owners = length-padded (owner_bytes owners) ∙ ap (λ (n : ℕ). 4096 * ((n + 4095) / 4096)) (length-owner_bytes owners)

owners_within : (owners : List ℕ) (k : ℕ) → 1024 * k < length owners → 4096 * k + 4096 ≤ length (padded_to_pages (owner_bytes owners))
owners_within owners k lt = omega (arith, length-padded (owner_bytes owners), length-owner_bytes owners)

owner_there : (owners : List ℕ) (k i : ℕ) → 1024 * k < length owners → i < 1024
    → slice_range (padded_to_pages (owner_bytes owners)) (4096 * k + 4 * i) (4096 * k + 4 * i + 4) ≡ to_le_bytes w32 (get_or owners (1024 * k + i) 0)
unfolding owner_bytes
owner_there owners k i lt small =
    let whole : List ℕ = padded_to_pages (owner_bytes owners) in
    let place : 4096 * k + 4 * i ≡ 4 * (1024 * k + i) = omega arith in
    ap (λ (n : ℕ). slice_range whole n (n + 4)) place
    ∙ padded_cell ℕ (to_le_bytes w32) 4 0 owner_cells owners (1024 * k + i) (omega (arith, owners_within owners k lt))

-- the first owners of a page are written
abbrev pub OwnersWritten : List ℕ → ℕ → List ℕ → ℕ → Type 0
OwnersWritten owners k bytes i = Front bytes (slice_range (padded_to_pages (owner_bytes owners)) (4096 * k) (4096 * k + 4 * i)) (4 * i) 4096

pub owner_more : (owners : List ℕ) (k i : ℕ) (bytes : List ℕ) → 1024 * k < length owners → i < 1024 → OwnersWritten owners k bytes i
    → OwnersWritten owners k (with_number w32 (4 * i) (get_or owners (1024 * k + i) 0) bytes) (i + 1)
unfolding with_number
owner_more owners k i bytes lt small front =
    let owner : ℕ = get_or owners (1024 * k + i) 0 in
    cell_written (padded_to_pages (owner_bytes owners)) (4096 * k) 4 i (to_le_bytes w32 owner) bytes front (owner_there owners k i lt small) (length-to_le_bytes w32 owner) (omega arith)

-- ---- comparing owners

owner_of_page : (owners : List ℕ) (k i : ℕ) → 1024 * k < length owners → i < 1024 → HasOwner owners k (page_at k (padded_to_pages (owner_bytes owners))) i
owner_of_page owners k i lt small =
    let whole : List ℕ = padded_to_pages (owner_bytes owners) in
    let end : 4096 * k + (4 * i + 4) ≡ 4096 * k + 4 * i + 4 = omega arith in
    slice-page_at k (4 * i) (4 * i + 4) whole (omega arith) (omega arith) ∙ ap (slice_range whole (4096 * k + 4 * i)) end ∙ owner_there owners k i lt small

pub same_owners : (owners : List ℕ) (k : ℕ) (page : List ℕ) → 1024 * k < length owners → length page ≡ 4096
    → ((i : ℕ) → i < 1024 → HasOwner owners k page i) → page ≡ page_at k (padded_to_pages (owner_bytes owners))
same_owners owners k page lt len same =
    same_cells 4 1024 page (page_at k (padded_to_pages (owner_bytes owners))) len (length-page_at k (padded_to_pages (owner_bytes owners)) (owners_within owners k lt))
    (λ i small. same i small ∙ sym (owner_of_page owners k i lt small))

pub owners_of_same : (owners : List ℕ) (k : ℕ) (page : List ℕ) (i : ℕ) → 1024 * k < length owners → i < 1024
    → page ≡ page_at k (padded_to_pages (owner_bytes owners)) → HasOwner owners k page i
owners_of_same owners k page i lt small is = subst (λ (x : List ℕ). HasOwner owners k x i) (sym is) (owner_of_page owners k i lt small)
