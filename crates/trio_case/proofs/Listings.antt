-- The pages that files list, within a bundle.
use Rattle.trio_case.proofs.Words.{◌+◌, ◌∷◌, ◌≡◌, Case, Err, List, ListedFile, Location, Met, Ok, Result, [], ap, append-nil, arith, flat_map, flat_map-append, length, length-append, ℕ}
use Rattle.trio_layout.specs.Survey.{FileRead, pages_in}
use Rattle.trio_layout.specs.Case.{file_in}
use Rattle.trio_layout.specs.JudgedFiles.{pages_within}
use Rattle.trio_layout.specs.Listing.{file_listed}

-- the lists of the files passed have just these pages
listed_step : (m : Met) (r : Result FileRead Location) → length (flat_map (λ (f : ListedFile). f.index) (file_listed m r)) + length (flat_map (λ (f : ListedFile). f.blocks) (file_listed m r)) ≡ length (pages_in r)
listed_step m (Ok f) = omega (arith, ap length (append-nil f.chain.index), ap length (append-nil f.chain.blocks), length-append f.chain.index f.chain.blocks)
listed_step m (Err p) = omega arith

pub listed_pages : (c : Case) (ms : List Met) → length (flat_map (λ (f : ListedFile). f.index) (flat_map (λ m. file_listed m (file_in c m)) ms)) + length (flat_map (λ (f : ListedFile). f.blocks) (flat_map (λ m. file_listed m (file_in c m)) ms)) ≡ length (flat_map (pages_within c) ms)
listed_pages c [] = omega arith
listed_pages c (m ∷ ms) =
    let l : List ListedFile = file_listed m (file_in c m) in
    let ls : List ListedFile = flat_map (λ m. file_listed m (file_in c m)) ms in
    let i : ListedFile → List ℕ = λ f. f.index in
    let b : ListedFile → List ℕ = λ f. f.blocks in
    omega (arith, listed_step m (file_in c m), listed_pages c ms, ap length (flat_map-append i l ls), ap length (flat_map-append b l ls), length-append (flat_map i l) (flat_map i ls), length-append (flat_map b l) (flat_map b ls), length-append (pages_within c m) (flat_map (pages_within c) ms))
