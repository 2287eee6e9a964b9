-- Outlines of which the pages of all files stand in one list.
use Rattle.trio_entries.proofs.Words.{◌++◌, ◌+◌, ◌<◌, ◌↔◌, ◌∙◌, ◌∷◌, ◌≡◌, ◌≤◌, Bool, Bundled, FileOutline, FreshParts, Kind, LentFile, LentPage, List, Outline, Sheet, [], ap, append_assoc, arith, bundle_in, bundle_numbers, bundle_pages, drop, file_numbers, file_outline, flat_map, flat_map-append, get_or, head_in, length, length-append, length-map, length-take-le, lent_sheet, map, outline_of, outline_pages, refl, subst, sym, take, take-append-drop, take_all, true, written_in, ℕ}
use Rattle.std.specs.List.{sum_by}
use Rattle.std.proofs.Math.Seq.{drop-append_seam, take-append_seam}
use Rattle.std.proofs.lemmas.List.{append_cancel_left, drop_at, drop-drop, length-drop}
use Rattle.std.proofs.lemmas.List.Sums.{sum_by-cons}
use Rattle.trio_entries.specs.declared.outline.FileHead.{FileHead}
use Rattle.trio_entries.specs.inner.Outlined.{HasPages, file_from, files_from, head_of, head_pages, outline_from, pages_left}
use Rattle.trio_entries.proofs.Few.{pages_outlined}
use Rattle.trio_entries.proofs.FlatPlaces.{drop_file}

abbrev pages_in : List FileOutline → List ℕ
pages_in fs = flat_map (λ (f : FileOutline). f.index ++ f.blocks) fs

-- what the files take and what is left are all pages
files-left : (hs : List FileHead) (pages : List ℕ) → pages_in (files_from hs pages) ++ pages_left hs pages ≡ pages
files-left [] pages = refl
files-left (h ∷ hs) pages =
    let index = take h.index pages in
    let blocks = take h.blocks (drop h.index pages) in
    let rest = drop (h.index + h.blocks) pages in
    append_assoc (index ++ blocks) (pages_in (files_from hs rest)) (pages_left hs rest)
    ∙ ap (λ ps. (index ++ blocks) ++ ps) (files-left hs rest)
    ∙ append_assoc index blocks rest
    ∙ ap (λ ps. index ++ (blocks ++ ps)) (sym (drop-drop h.blocks h.index pages))
    ∙ ap (λ ps. index ++ ps) (take-append-drop h.blocks (drop h.index pages))
    ∙ take-append-drop h.index pages

front : (f : FileOutline) (rest : List ℕ) → drop (length f.index + length f.blocks) ((f.index ++ f.blocks) ++ rest) ≡ rest
front f rest = drop_at (f.index ++ f.blocks) rest (length f.index + length f.blocks) (length-append f.index f.blocks)

one : (f : FileOutline) (rest : List ℕ) → file_from (head_of f) ((f.index ++ f.blocks) ++ rest) ≡ f
one f rest =
    let apart = append_assoc f.index f.blocks rest in
    let index : take (length f.index) ((f.index ++ f.blocks) ++ rest) ≡ f.index = ap (take (length f.index)) apart ∙ take-append_seam f.index (f.blocks ++ rest) in
    let behind : drop (length f.index) ((f.index ++ f.blocks) ++ rest) ≡ f.blocks ++ rest = ap (drop (length f.index)) apart ∙ drop-append_seam f.index (f.blocks ++ rest) in
    let blocks : take (length f.blocks) (drop (length f.index) ((f.index ++ f.blocks) ++ rest)) ≡ f.blocks = ap (take (length f.blocks)) behind ∙ take-append_seam f.blocks rest in
    ap (λ xs. record { ino = f.ino; kind = f.kind; index = xs; blocks = take (length f.blocks) (drop (length f.index) ((f.index ++ f.blocks) ++ rest)) }) index
    ∙ ap (λ xs. record { ino = f.ino; kind = f.kind; index = f.index; blocks = xs }) blocks

-- files whose pages were put into one list are found there again
files-joined : (fs : List FileOutline) (rest : List ℕ) → files_from (map head_of fs) (pages_in fs ++ rest) ≡ fs
files-joined [] rest = refl
files-joined (f ∷ fs) rest =
    let apart : pages_in (f ∷ fs) ++ rest ≡ (f.index ++ f.blocks) ++ (pages_in fs ++ rest) = append_assoc (f.index ++ f.blocks) (pages_in fs) rest in
    ap (λ ps. file_from (head_of f) ps ∷ files_from (map head_of fs) (drop (length f.index + length f.blocks) ps)) apart
    ∙ ap (λ g. g ∷ files_from (map head_of fs) (drop (length f.index + length f.blocks) ((f.index ++ f.blocks) ++ (pages_in fs ++ rest)))) (one f (pages_in fs ++ rest))
    ∙ ap (λ ps. f ∷ files_from (map head_of fs) ps) (front f (pages_in fs ++ rest))
    ∙ ap (λ gs. f ∷ gs) (files-joined fs rest)

-- and what stood behind them is left
left-joined : (fs : List FileOutline) (rest : List ℕ) → pages_left (map head_of fs) (pages_in fs ++ rest) ≡ rest
left-joined [] rest = refl
left-joined (f ∷ fs) rest =
    let apart : pages_in (f ∷ fs) ++ rest ≡ (f.index ++ f.blocks) ++ (pages_in fs ++ rest) = append_assoc (f.index ++ f.blocks) (pages_in fs) rest in
    ap (λ ps. pages_left (map head_of fs) (drop (length f.index + length f.blocks) ps)) apart
    ∙ ap (pages_left (map head_of fs)) (front f (pages_in fs ++ rest))
    ∙ left-joined fs rest

-- all of them are there
pages-joined : (fs : List FileOutline) (rest : List ℕ) → HasPages (map head_of fs) (pages_in fs ++ rest)
pages-joined fs rest =
    let n = count fs in omega (arith, n, length-append (pages_in fs) rest)
  where
    count : (fs : List FileOutline) → sum_by head_pages (map head_of fs) ≡ length (pages_in fs)
    count [] = refl
    count (f ∷ fs) =
        let c = sum_by-cons head_pages (head_of f) (map head_of fs) in
        omega (arith, c, count fs, length-append (f.index ++ f.blocks) (pages_in fs), length-append f.index f.blocks)

-- the heads by which files were made are theirs
heads_kept : (hs : List FileHead) (pages : List ℕ) → HasPages hs pages → map head_of (files_from hs pages) ≡ hs
heads_kept [] pages has = refl
heads_kept (h ∷ hs) pages has =
    let sum = sum_by-cons head_pages h hs in
    let rest = length-drop (h.index + h.blocks) pages in
    let behind = length-drop h.index pages in
    let index : length (take h.index pages) ≡ h.index = length-take-le h.index pages (omega (arith, has, sum)) in
    let blocks : length (take h.blocks (drop h.index pages)) ≡ h.blocks = length-take-le h.blocks (drop h.index pages) (omega (arith, has, sum, behind)) in
    let more : HasPages hs (drop (h.index + h.blocks) pages) = omega (arith, has, sum, rest) in
    ap (λ n. let one : FileHead = record { ino = h.ino; kind = h.kind; index = n; blocks = length (take h.blocks (drop h.index pages)) } in one ∷ map head_of (files_from hs (drop (h.index + h.blocks) pages))) index
    ∙ ap (λ n. let one : FileHead = record { ino = h.ino; kind = h.kind; index = h.index; blocks = n } in one ∷ map head_of (files_from hs (drop (h.index + h.blocks) pages))) blocks
    ∙ ap (λ xs. h ∷ xs) (heads_kept hs (drop (h.index + h.blocks) pages) more)

-- ---- the outline of a bundle

pages_count : (ps : List LentPage) → length ps ≡ length (map (λ (x : Sheet). x.page) (map lent_sheet ps))
pages_count ps = sym (length-map (map lent_sheet ps) (λ (x : Sheet). x.page) ∙ length-map ps lent_sheet)

heads_made : (fs : List LentFile) → map (λ (f : LentFile). head_in f.stands) fs ≡ map head_of (map file_outline (map (λ (f : LentFile). written_in f.stands) fs))
heads_made [] = refl
heads_made (f ∷ fs) =
    let H : ℕ → Kind → ℕ → ℕ → FileHead = λ ino kind index blocks. record { ino = ino; kind = kind; index = index; blocks = blocks } in
    let rest = map (λ (f : LentFile). head_in f.stands) fs in
    ap (λ n. H f.stands.ino f.stands.kind n (length f.stands.blocks) ∷ rest) (pages_count f.stands.index)
    ∙ ap (λ n. H f.stands.ino f.stands.kind (length (file_outline (written_in f.stands)).index) n ∷ rest) (pages_count f.stands.blocks)
    ∙ ap (λ hs. head_of (file_outline (written_in f.stands)) ∷ hs) (heads_made fs)

module _ (b : Bundled) (heads : List FileHead) (pages : List ℕ) where
  -- the heads and the pages are the bundle's
  abbrev pub AreLeases : Type 0
  AreLeases = (heads ≡ map (λ (f : LentFile). head_in f.stands) b.writes) × (pages ≡ bundle_pages (bundle_in b))

  -- there are just as many pages
  pub outline_has : AreLeases → HasPages heads pages
  outline_has are =
      let o = outline_of (bundle_in b) in
      subst (λ hs. HasPages hs pages) (sym (are.0 ∙ heads_made b.writes))
      (subst (HasPages (map head_of o.writes)) (sym (are.1 ∙ sym (pages_outlined (bundle_in b)))) (pages-joined o.writes o.pages))

  pub outline_is : (holds numbers : List ℕ) → AreLeases → holds ≡ (bundle_in b).holds → numbers ≡ (bundle_in b).numbers → outline_from heads holds pages numbers ≡ outline_of (bundle_in b)
  outline_is holds numbers are os ns =
      let o = outline_of (bundle_in b) in
      let all = outline_pages o in
      ap (λ xs. outline_from xs holds pages numbers) (are.0 ∙ heads_made b.writes)
      ∙ ap (λ xs. outline_from (map head_of o.writes) holds xs numbers) (are.1 ∙ sym (pages_outlined (bundle_in b)))
      ∙ ap (λ xs. outline_from (map head_of o.writes) xs all numbers) os
      ∙ ap (λ xs. outline_from (map head_of o.writes) o.holds all xs) ns
      ∙ ap (λ (fs : List FileOutline). let x : Outline = record { writes = fs; holds = o.holds; pages = pages_left (map head_of o.writes) all; numbers = o.numbers } in x) (files-joined o.writes o.pages)
      ∙ ap (λ (xs : List ℕ). let x : Outline = record { writes = o.writes; holds = o.holds; pages = xs; numbers = o.numbers } in x) (left-joined o.writes o.pages)

  pub outline_leases : (holds numbers : List ℕ) → HasPages heads pages → outline_from heads holds pages numbers ≡ outline_of (bundle_in b) → AreLeases
  outline_leases holds numbers has e =
      let o = outline_of (bundle_in b) in
      let writes : files_from heads pages ≡ o.writes = ap (λ (x : Outline). x.writes) e in
      let left : pages_left heads pages ≡ o.pages = ap (λ (x : Outline). x.pages) e in (
        sym (heads_kept heads pages has) ∙ ap (map head_of) writes ∙ sym (heads_made b.writes),
        sym (files-left heads pages) ∙ ap (λ fs. pages_in fs ++ pages_left heads pages) writes ∙ ap (λ ps. pages_in o.writes ++ ps) left ∙ pages_outlined (bundle_in b),
      )

module _ (xs ys pages r : List ℕ) (all : pages ≡ (xs ++ ys) ++ r) where
  apart : pages ≡ xs ++ (ys ++ r)
  apart = all ∙ append_assoc xs ys r

abbrev fresh_numbers : Bundled → List ℕ
fresh_numbers b = map (λ (p : FreshParts). p.no.0) b.pages

pub not_behind : (b : Bundled) (i : ℕ) (f : LentFile) (pages rest : List ℕ) → i < length b.writes → f ≡ get_or b.writes i f → pages ≡ flat_map file_numbers (take i b.writes) ++ rest → ((r : List ℕ) → rest ≡ file_numbers f ++ r → ⊥) → pages ≡ bundle_pages (bundle_in b) → ⊥
not_behind b i f pages rest within here before none all =
    let fs = b.writes in
    let before_it = flat_map file_numbers (take i fs) in
    let back = flat_map file_numbers (drop (i + 1) fs) in
    let fresh = fresh_numbers b in
    let split : flat_map file_numbers fs ≡ before_it ++ (file_numbers f ++ back) =
    ap (flat_map file_numbers) (sym (take-append-drop i fs)) ∙ flat_map-append file_numbers (take i fs) (drop i fs) ∙ ap (λ xs. before_it ++ flat_map file_numbers xs) (drop_file fs i f within here) in
    none (back ++ fresh)
    (append_cancel_left before_it rest (file_numbers f ++ (back ++ fresh))
    (sym before ∙ all ∙ bundle_numbers b ∙ ap (λ ps. ps ++ fresh) split ∙ append_assoc before_it (file_numbers f ++ back) fresh ∙ ap (λ ps. before_it ++ ps) (append_assoc (file_numbers f) back fresh)))

pub all_behind : (b : Bundled) (i : ℕ) (pages rest : List ℕ) (t : Bool) → length b.writes ≤ i → pages ≡ flat_map file_numbers (take i b.writes) ++ rest → (t ≡ true) ↔ (rest ≡ map (λ (p : FreshParts). p.no.0) b.pages) → (t ≡ true) ↔ (pages ≡ bundle_pages (bundle_in b))
all_behind b i pages rest t far before test =
    let files = flat_map file_numbers b.writes in
    let whole : pages ≡ files ++ rest = before ∙ ap (λ (fs : List LentFile). flat_map file_numbers fs ++ rest) (take_all i b.writes far) in (
      λ on. whole ∙ ap (λ ps. files ++ ps) (test.0 on) ∙ sym (bundle_numbers b),
      λ same. test.1 (append_cancel_left files rest (fresh_numbers b) (sym whole ∙ same ∙ bundle_numbers b)),
    )
