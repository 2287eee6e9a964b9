-- Which core pages were looked at. Cited by private functions alone.
use Rattle.std.specs.Prelude.{◌≡◌, ℕ, ◌+◌, ◌-◌, ◌≤◌, List, Option, None, Some, is_some, count_by, length, if◌then◌else◌, unwrap_or, slice_index_or}
use Rattle.trio_layout.specs.declared.range.CoreRange.{CoreRange}
use Rattle.trio_layout.specs.Range.{core_count, is_core}

-- how many core pages were looked at
abbrev pub kept_count : List (Option (Option (List ℕ))) → ℕ
kept_count kept = count_by is_some kept

-- what a page is by what is kept of it
abbrev pub kept_page : CoreRange → List (Option (Option (List ℕ))) → ℕ → Option (List ℕ)
kept_page range kept page =
    if is_core range page then unwrap_or (slice_index_or kept (page - range.first) None) None else None

-- there are no places but for core pages, and each page that was looked at is kept as it is at home
pub record Keeps (range : CoreRange) (pages : List (Option (List ℕ))) (kept : List (Option (Option (List ℕ)))) : Type 0 where
  pub room : length kept ≤ core_count range
  pub each : (place : ℕ) (page : Option (List ℕ)) → slice_index_or kept place None ≡ Some page
      → page ≡ slice_index_or pages (range.first + place) None
