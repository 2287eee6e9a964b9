-- A bundle as it was handed in is the bundle.
use Rattle.trio_ctl.proofs.Words.{◌∙◌, ◌∷◌, ◌≡◌, Bundle, Bundled, LentFile, List, Sheet, Shown, Written, [], ap, block_in, bundle_in, file_in, fresh_in, handed_in, index_in, lent_sheet, map, map-map, refl, written_in}
use Rattle.trio_laws.specs.history.Entries.{bundle_handed, sheet_handed, written_handed}

file_is : (f : Shown) → written_handed (file_in f) ≡ written_in f
file_is f =
    let W : List Sheet → List Sheet → Written = λ i b. record { ino = f.ino; kind = f.kind; body = f.body; index = i; blocks = b } in
    ap (λ i. W i (map sheet_handed (map block_in f.blocks))) (map-map sheet_handed index_in f.index) ∙ ap (W (map lent_sheet f.index)) (map-map sheet_handed block_in f.blocks)

files_are : (fs : List LentFile) → map written_handed (map (λ f. file_in f.stands) fs) ≡ map (λ f. written_in f.stands) fs
files_are [] = refl
files_are (f ∷ fs) = ap (λ w. w ∷ map written_handed (map (λ f. file_in f.stands) fs)) (file_is f.stands) ∙ ap (λ l. written_in f.stands ∷ l) (files_are fs)

pub handed_is : (b : Bundled) → bundle_handed (handed_in b) ≡ bundle_in b
handed_is b =
    let B : List Written → List Sheet → Bundle = λ ws ps. record { writes = ws; holds = map (λ h. h.ino) b.holds; pages = ps; numbers = map (λ n. n.no) b.inodes } in
    ap (λ ws. B ws (map sheet_handed (map fresh_in b.pages))) (files_are b.writes) ∙ ap (B (map (λ f. written_in f.stands) b.writes)) (map-map sheet_handed fresh_in b.pages)
