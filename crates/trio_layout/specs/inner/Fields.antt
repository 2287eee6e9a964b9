-- What readers test beside the fields: reserved bytes and constants. Cited by private functions alone.
use Rattle.std.specs.Prelude.{ℕ, ◌≡◌, ◌+◌, ◌-◌, ◌*◌, ◌^◌, ◌<◌, ◌≤◌, IsTrue, List, take, drop, codes, slice_index, slice_range}
use Rattle.std.specs.Int.{w16, w32, w64}
use Rattle.trio_page.specs.Field.{number_at, zeros}
use Rattle.trio_layout.specs.declared.range.CoreRange.{CoreRange}
use Rattle.trio_layout.specs.Range.{is_core}

-- the bytes of a body that are no field, and a guard of 0 or 1
abbrev pub HasBodyZeros : List ℕ → Type 0
HasBodyZeros bytes = (number_at w16 2 bytes ≡ 0) × (slice_index bytes 24 ≤ 1) × (drop 25 bytes ≡ zeros 39)

-- the bytes of a slot's entry part that are no field
pub record HasSlotZeros (bytes : List ℕ) : Type 0 where
  pub len : slice_index bytes 5 ≤ 184
  pub gap : number_at w16 6 bytes ≡ 0
  pub tail : slice_range bytes (8 + slice_index bytes 5) 192 ≡ zeros (184 - slice_index bytes 5)

-- a number of an index page at a place: of a core page where it is in use, else 0
abbrev pub IsNumber : ℕ → CoreRange → ℕ → ℕ → Type 0
IsNumber used range i n = (i < used → IsTrue (is_core range n)) × (used ≤ i → n ≡ 0)

-- the numbers of an index page: those in use are of core pages, the others 0
abbrev pub AreNumbers : ℕ → CoreRange → List ℕ → Type 0
AreNumbers used range bytes = (i : ℕ) → i < 511 → IsNumber used range i (number_at w64 (8 * i) bytes)

-- what the first page has beside its fields, in the version of this number
pub record HasConstants (number : ℕ) (bytes : List ℕ) : Type 0 where
  pub magic : take 8 bytes ≡ codes "ARCKTRIO"
  pub version : number_at w32 8 bytes ≡ number
  pub page_size : number_at w32 12 bytes ≡ 4096
  pub first_shadow : number_at w32 24 bytes ≡ 1
  pub root : number_at w32 36 bytes ≡ 1
  pub tail : drop 104 bytes ≡ zeros 3992

-- each number that is in use, and the link, is within 32 bits
pub record AreNarrow (used : ℕ) (bytes : List ℕ) : Type 0 where
  pub room : used ≤ 511
  pub numbers : (i : ℕ) → i < used → number_at w64 (8 * i) bytes < 2 ^ 32
  pub next : number_at w64 4088 bytes < 2 ^ 32
