-- What is out by allotment, in the words of the steps and in those of the table.
use Rattle.trio_ctl.proofs.Words.{◌∷◌, ◌≡◌, LibNo, List, None, Option, [], ap, fresh_page, map, refl, set, with_all, without_pages, ℕ}
use Rattle.trio_allot.specs.Out.{page_numbers}

pub without_is : (ns : List ℕ) (pages : List (Option (List ℕ))) → without_pages ns pages ≡ with_all None ns pages
without_is [] pages = refl
without_is (n ∷ ns) pages = without_is ns (set pages n None)

pub pages_given : (lib : LibNo) (ns : List ℕ) → page_numbers (map (fresh_page lib) ns) ≡ ns
pages_given lib [] = refl
pages_given lib (n ∷ ns) = ap (λ ms. n ∷ ms) (pages_given lib ns)
