-- The pages of all files in one list.
use Rattle.std.proofs.Common.{◌≡◌, ℕ, ◌+◌, List, [], ◌∷◌, ◌++◌, length, map, take, drop, refl, sym, ap, ◌∙◌, arith}
use Rattle.std.specs.List.{flat_map, sum_by}
use Rattle.std.proofs.Math.Seq.{drop-append_seam, take-append_seam}
use Rattle.std.proofs.lemmas.List.{append_assoc, drop_at, drop-drop, length-append, take-append-drop}
use Rattle.std.proofs.lemmas.List.Sums.{sum_by-cons}
use Rattle.trio_nodes.specs.Handed.{HandedFile, HasPages, all_pages, file_from, files_from, handed_from, head_of, head_pages, pages_left}
use Rattle.trio_nodes.specs.declared.entry.HandedHead.{HandedHead}
use Rattle.trio_nodes.specs.declared.entry.HandedPage.{HandedPage}

-- what the files take and what is left are all pages
pub files-left : (hs : List HandedHead) (pages : List HandedPage) → flat_map (λ (f : HandedFile). f.index ++ f.blocks) (files_from hs pages) ++ pages_left hs pages ≡ pages
files-left [] pages = refl
files-left (h ∷ hs) pages =
    let index = take h.index pages in
    let blocks = take h.blocks (drop h.index pages) in
    let rest = drop (h.index + h.blocks) pages in
    append_assoc (index ++ blocks) (flat_map (λ (f : HandedFile). f.index ++ f.blocks) (files_from hs rest)) (pages_left hs rest)
    ∙ ap (λ ps. (index ++ blocks) ++ ps) (files-left hs rest)
    ∙ append_assoc index blocks rest
    ∙ ap (λ ps. index ++ (blocks ++ ps)) (sym (drop-drop h.blocks h.index pages))
    ∙ ap (λ ps. index ++ ps) (take-append-drop h.blocks (drop h.index pages))
    ∙ take-append-drop h.index pages

pub all-from : (hs : List HandedHead) (holds : List ℕ) (pages : List HandedPage) (numbers : List ℕ) → all_pages (handed_from hs holds pages numbers) ≡ pages
all-from hs holds pages numbers = files-left hs pages

-- ---- files whose pages were put into one list

abbrev pages_of : List HandedFile → List HandedPage
pages_of fs = flat_map (λ (f : HandedFile). f.index ++ f.blocks) fs

front : (f : HandedFile) (rest : List HandedPage) → drop (length f.index + length f.blocks) ((f.index ++ f.blocks) ++ rest) ≡ rest
front f rest = drop_at (f.index ++ f.blocks) rest (length f.index + length f.blocks) (length-append f.index f.blocks)

one : (f : HandedFile) (rest : List HandedPage) → file_from (head_of f) ((f.index ++ f.blocks) ++ rest) ≡ f
one f rest =
    let apart = append_assoc f.index f.blocks rest in
    let index : take (length f.index) ((f.index ++ f.blocks) ++ rest) ≡ f.index = ap (take (length f.index)) apart ∙ take-append_seam f.index (f.blocks ++ rest) in
    let behind : drop (length f.index) ((f.index ++ f.blocks) ++ rest) ≡ f.blocks ++ rest = ap (drop (length f.index)) apart ∙ drop-append_seam f.index (f.blocks ++ rest) in
    let blocks : take (length f.blocks) (drop (length f.index) ((f.index ++ f.blocks) ++ rest)) ≡ f.blocks = ap (take (length f.blocks)) behind ∙ take-append_seam f.blocks rest in
    ap (λ xs. record { ino = f.ino; kind = f.kind; body = f.body; index = xs; blocks = take (length f.blocks) (drop (length f.index) ((f.index ++ f.blocks) ++ rest)) }) index
    ∙ ap (λ xs. record { ino = f.ino; kind = f.kind; body = f.body; index = f.index; blocks = xs }) blocks

-- they are found there again
pub files-joined : (fs : List HandedFile) (rest : List HandedPage) → files_from (map head_of fs) (pages_of fs ++ rest) ≡ fs
files-joined [] rest = refl
files-joined (f ∷ fs) rest =
    let apart : pages_of (f ∷ fs) ++ rest ≡ (f.index ++ f.blocks) ++ (pages_of fs ++ rest) = append_assoc (f.index ++ f.blocks) (pages_of fs) rest in
    ap (λ ps. file_from (head_of f) ps ∷ files_from (map head_of fs) (drop (length f.index + length f.blocks) ps)) apart
    ∙ ap (λ g. g ∷ files_from (map head_of fs) (drop (length f.index + length f.blocks) ((f.index ++ f.blocks) ++ (pages_of fs ++ rest)))) (one f (pages_of fs ++ rest))
    ∙ ap (λ ps. f ∷ files_from (map head_of fs) ps) (front f (pages_of fs ++ rest))
    ∙ ap (λ gs. f ∷ gs) (files-joined fs rest)

-- and what stood behind them is left
pub left-joined : (fs : List HandedFile) (rest : List HandedPage) → pages_left (map head_of fs) (pages_of fs ++ rest) ≡ rest
left-joined [] rest = refl
left-joined (f ∷ fs) rest =
    let apart : pages_of (f ∷ fs) ++ rest ≡ (f.index ++ f.blocks) ++ (pages_of fs ++ rest) = append_assoc (f.index ++ f.blocks) (pages_of fs) rest in
    ap (λ ps. pages_left (map head_of fs) (drop (length f.index + length f.blocks) ps)) apart
    ∙ ap (pages_left (map head_of fs)) (front f (pages_of fs ++ rest))
    ∙ left-joined fs rest

-- all of them are there
pub pages-joined : (fs : List HandedFile) (rest : List HandedPage) → HasPages (map head_of fs) (pages_of fs ++ rest)
pages-joined fs rest =
    let n = count fs in omega (arith, n, length-append (pages_of fs) rest)
  where
    count : (fs : List HandedFile) → sum_by head_pages (map head_of fs) ≡ length (pages_of fs)
    count [] = refl
    count (f ∷ fs) =
        let c = sum_by-cons head_pages (head_of f) (map head_of fs) in
        omega (arith, c, count fs, length-append (f.index ++ f.blocks) (pages_of fs), length-append f.index f.blocks)
