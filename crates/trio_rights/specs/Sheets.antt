-- Pages that are put in place of others.
use Rattle.std.specs.Prelude.{ℕ, List, [], ◌∷◌, map, Option, None, Some, slice_set}

-- a page with its number
pub record Sheet : Type 0 where
  pub page : ℕ
  pub bytes : List ℕ

-- the numbers of pages
abbrev pub sheet_numbers : List Sheet → List ℕ
sheet_numbers sheets = map (λ x. x.page) sheets

-- the pages with these in place
abbrev pub with_pages : List Sheet → List (Option (List ℕ)) → List (Option (List ℕ))
with_pages [] pages = pages
with_pages (x ∷ xs) pages = with_pages xs (slice_set pages x.page (Some x.bytes))

-- the pages without these
abbrev pub without_pages : List ℕ → List (Option (List ℕ)) → List (Option (List ℕ))
without_pages [] pages = pages
without_pages (n ∷ ns) pages = without_pages ns (slice_set pages n None)
