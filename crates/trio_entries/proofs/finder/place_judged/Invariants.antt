use Rattle.trio_entries.proofs.Words.{◌≡◌, In, length, map, own_numbers, place_of, take, ℕ}
use Rattle.trio_case.specs.declared.listing.ListedFile.{ListedFile}
use Rattle.trio_entries.specs.inner.Finding.{judged_place}
use Rattle.trio_entries.proofs.finder.place_judged.Given as goal

abbrev pub invariant-loop-at : goal.invariant-loop-at
invariant-loop-at l =
    (length l.judged.items ≡ length l.fn.judged.items)
    × ((n : ℕ) → In n (own_numbers l.case) → judged_place l.case l.judged.items n ≡ place_of n (map (λ (f : ListedFile). f.ino) (take l.at l.files)))
