-- The pages that store an image, in order. Cited by private functions alone.
use Rattle.std.specs.Prelude.{◌≡◌, ℕ, ◌+◌, ◌-◌, ◌<◌, nat_lt, List, ◌++◌, length, Option, Some, None, if◌then◌else◌, slice_index_or}
use Rattle.trio_page.specs.Field.{zeros}
use Rattle.trio_rights.specs.Row.{Row}
use Rattle.trio_layout.specs.declared.superblock.Superblock.{Superblock}
use Rattle.trio_lists.specs.Lists.{tabulated}
use Rattle.trio_image.specs.Front.{front_pages}
use Rattle.trio_ctl.specs.Ctl.{or_zero}

-- n pages from `first` on, all zero where one is absent
abbrev pub pages_from : List (Option (List ℕ)) → ℕ → ℕ → List (Option (List ℕ))
pages_from pages first n = tabulated (λ k. or_zero (slice_index_or pages (first + k) None)) n

-- the superblock, the stored tables and the core
abbrev pub stored_pages : Superblock → List (Option (List ℕ)) → List (Option Row) → List ℕ → List (Option (List ℕ))
stored_pages s pages rows owners = front_pages s rows owners ++ pages_from pages s.first_core (s.pages - s.first_core)

-- what is to stand in the place of a page: all zeros where it is absent, else nothing yet
abbrev pub filling : Option (List ℕ) → Option (List ℕ)
filling None = Some (zeros 4096)
filling (Some bytes) = None

-- the same for n pages from `first` on
abbrev pub fillings_from : List (Option (List ℕ)) → ℕ → ℕ → List (Option (List ℕ))
fillings_from pages first n = tabulated (λ k. filling (slice_index_or pages (first + k) None)) n

-- a page, or else another
abbrev pub page_or : Option (List ℕ) → Option (List ℕ) → Option (List ℕ)
page_or (Some bytes) other = Some bytes
page_or None other = other

-- the pages at home from `first` on stand in a list, from `front` on; where one is absent there, and before that, what stood there
abbrev pub AreMoved : (home : List (Option (List ℕ))) (first front : ℕ) (old new : List (Option (List ℕ))) → Type 0
AreMoved home first front old new =
    (k : ℕ) → k < length old → slice_index_or new k None
    ≡ (if nat_lt k front then slice_index_or old k None else page_or (slice_index_or home (first + (k - front)) None) (slice_index_or old k None))
