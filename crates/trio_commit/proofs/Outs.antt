-- What is out by allotment, in the words of a bundle and in those of the table.
use Rattle.trio_commit.proofs.Words.{◌∷◌, ◌≡◌, List, Option, Some, [], ap, fresh_sheet, map, page_numbers, refl, set, sheet_numbers, with_pages, ℕ}
use Rattle.trio_lease.specs.declared.parts.FreshParts.{FreshParts}
use Rattle.trio_allot.specs.Out.{with_pages as with_fresh}

pub fresh_is : (fs : List FreshParts) (pages : List (Option (List ℕ))) → with_pages (map fresh_sheet fs) pages ≡ with_fresh fs pages
fresh_is [] pages = refl
fresh_is (f ∷ fs) pages = fresh_is fs (set pages f.no.0 (Some f.page))

-- the numbers of allotted pages, as a bundle has them
pub fresh_numbers : (fs : List FreshParts) → sheet_numbers (map fresh_sheet fs) ≡ page_numbers fs
fresh_numbers [] = refl
fresh_numbers (f ∷ fs) = ap (λ ns. f.no.0 ∷ ns) (fresh_numbers fs)
