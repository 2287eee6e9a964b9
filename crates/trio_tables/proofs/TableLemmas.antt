-- Rows as the code has them, against the rows that the definitions speak of.
use Rattle.std.proofs.Common.{◌≡◌, ℕ, zero, suc, List, ◌∷◌, Option, map, refl, ap}
use Rattle.std.specs.Prelude.{replicate, slice_set}
use Rattle.std.specs.Option.{option_map}
use Rattle.std.proofs.lemmas.List.{map-set}
use Rattle.trio_tables.specs.declared.row.Row.{Row as RowData}
use Rattle.trio_rights.specs.Row.{Row}
use Rattle.trio_tables.specs.Row.{as_row}

pub rows_set : (rows : List (Option RowData)) (i : ℕ) (row : Option RowData) → map (option_map as_row) (slice_set rows i row) ≡ slice_set (map (option_map as_row) rows) i (option_map as_row row)
rows_set rows i row = map-set (option_map as_row) rows i row

pub rows_same : (n : ℕ) (row : Option RowData) → map (option_map as_row) (replicate n row) ≡ replicate n (option_map as_row row)
rows_same zero row = refl
rows_same (suc n) row = ap (λ (rows : List (Option Row)). option_map as_row row ∷ rows) (rows_same n row)
