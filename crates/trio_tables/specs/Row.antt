-- A row of the shadow table as bytes: a spelling, a test of what may be spelled, and reading as the inverse.
use Rattle.std.specs.Prelude.{ℕ, ◌≡◌, ◌<◌, ◌^◌, nat_lt, Bool, true, ◌&&◌, if◌then◌else◌, IsTrue, List, [], ◌∷◌, ◌++◌, Option, Some, None, IfSome, slice_index, slice_range}
use Rattle.std.specs.Int.{w16, w32, to_le_bytes}
use Rattle.std.specs.Str.{bytes_eq}
use Rattle.trio_page.specs.Field.{number_at, zeros}
use Rattle.trio_rights.specs.declared.kind.Kind.{Kind}
use Rattle.trio_rights.specs.Kind.{kind_byte, kind_from}
use Rattle.trio_rights.specs.Row.{Row}
use Rattle.trio_tables.specs.declared.row.Row.{Row as RowData}
use Rattle.trio_tables.specs.declared.row.RowRead.{RowRead}
use Rattle.trio_tables.specs.declared.row.RowRead.TheVariants.{Free, Live, Bad}

-- the record by which the definitions speak of a row
abbrev pub as_row : RowData → Row
as_row r = record { kind = r.kind; mode = r.mode; uid = r.uid; gid = r.gid; parent = r.parent; page = r.page; slot = r.slot }

-- what the table says of an inode number: the row of its file, or None where the number is not live
abbrev pub TableRow : Type 0
TableRow = Option Row

-- live: the byte 1, kind, mode, uid, gid, parent, page and slot of its place, and ten zeros; not live: all zeros
unfoldable pub row_bytes : Option Row → List ℕ
row_bytes None = zeros 32
row_bytes (Some r) =
    1 ∷ kind_byte r.kind ∷ [] ++ to_le_bytes w16 r.mode.0 ++ to_le_bytes w32 r.uid ++ to_le_bytes w32 r.gid
    ++ to_le_bytes w32 r.parent ++ to_le_bytes w32 r.page ++ to_le_bytes w16 r.slot ++ zeros 10

-- a directory page has 16 slots
abbrev pub row_fits : Option Row → Bool
row_fits None = true
row_fits (Some r) = nat_lt r.slot 16

-- each number is within its field
pub record IsNarrowRow (r : Row) : Type 0 where
  pub mode : r.mode.0 < 2 ^ 16
  pub uid : r.uid < 2 ^ 32
  pub gid : r.gid < 2 ^ 32
  pub parent : r.parent < 2 ^ 32
  pub page : r.page < 2 ^ 32

-- the bytes are this row's: its spelling, of numbers within their fields that fit
pub record IsRow (bytes : List ℕ) (row : Option Row) : Type 0 where
  pub spelled : bytes ≡ row_bytes row
  pub narrow : IfSome row IsNarrowRow
  pub fits : IsTrue (row_fits row)

-- the numbers at the places of the fields, as a row of this kind
abbrev pub row_with : Kind → List ℕ → Row
row_with kind bytes = record {
  kind = kind;
  mode = record { 0 = number_at w16 2 bytes };
  uid = number_at w32 4 bytes;
  gid = number_at w32 8 bytes;
  parent = number_at w32 12 bytes;
  page = number_at w32 16 bytes;
  slot = number_at w16 20 bytes;
}

-- what stands at the places of the fields
abbrev pub row_at : List ℕ → Row
row_at bytes = row_with (kind_from (slice_index bytes 1)) bytes

-- the row that the bytes spell, if they spell one
unfoldable pub row_spelled : List ℕ → Option (Option Row)
row_spelled bytes =
    let r = Some (row_at bytes) in
    if bytes_eq bytes (row_bytes None) then Some None
    else (if bytes_eq bytes (row_bytes r) && row_fits r then Some r else None)

-- the row that was read, if one was
abbrev pub row_read : RowRead → Option (Option Row)
row_read Free = Some None
row_read (Live r) = Some (Some (as_row r))
row_read Bad = None

-- all but the kind is as in a live row; cited by private functions alone
pub record IsFramedRow (bytes : List ℕ) : Type 0 where
  pub live : slice_index bytes 0 ≡ 1
  pub slot : number_at w16 20 bytes < 16
  pub tail : slice_range bytes 22 32 ≡ zeros 10
