-- Pages in one list: those of the files, one file after another, and then the allotted ones.
use Rattle.trio_ctl.proofs.Words.{◌++◌, ◌+◌, ◌<◌, ◌↔◌, ◌∙◌, ◌∷◌, ◌≡◌, ◌≤◌, Bool, Bundled, Handed, HandedFile, HandedPage, LentFile, List, [], ap, append_assoc, arith, drop, file_in, file_pages, flat_map, fresh_in, get_or, handed_in, head_of, length, map, refl, sum_by-cons, sym, take, take-append-drop, true, ℕ}
use Rattle.std.proofs.Math.Seq.{drop-append_seam, take-append_seam}
use Rattle.std.proofs.lemmas.Grind.{flat_map-append}
use Rattle.std.proofs.lemmas.List.{append_cancel_left, length-append, length-drop, length-take-le, take_all}
use Rattle.trio_nodes.specs.Handed.{HasPages, all_pages, files_from, head_pages}
use Rattle.trio_nodes.specs.declared.entry.HandedHead.{HandedHead}
use Rattle.trio_nodes.proofs.HandedPages.{files-joined}
use Rattle.trio_entries.proofs.FlatPlaces.{all_of, drop_file, heads_made}
use Rattle.trio_entries.proofs.Turns.{told_more}

-- ---- the pages of one file

-- what begins with these two has them in front
pub joined : (xs ys pages index behind blocks rest : List HandedPage) (n m : ℕ) → index ≡ take n pages → behind ≡ drop n pages → blocks ≡ take m behind → rest ≡ drop m behind → index ≡ xs → blocks ≡ ys → pages ≡ (xs ++ ys) ++ rest
joined xs ys pages index behind blocks rest n m i b t r is_xs is_ys =
    let parts : behind ≡ ys ++ rest = sym (take-append-drop m behind) ∙ ap (λ ps. ps ++ drop m behind) (sym t ∙ is_ys) ∙ ap (λ ps. ys ++ ps) (sym r) in
    sym (take-append-drop n pages) ∙ ap (λ ps. ps ++ drop n pages) (sym i ∙ is_xs) ∙ ap (λ ps. xs ++ ps) (sym b ∙ parts)
    ∙ sym (append_assoc xs ys rest)

module _ (xs ys pages r : List HandedPage) (all : pages ≡ (xs ++ ys) ++ r) where
  apart : pages ≡ xs ++ (ys ++ r)
  apart = all ∙ append_assoc xs ys r

  pub has_first : length xs ≤ length pages
  has_first = let count = ap length apart in omega (arith, count, length-append xs (ys ++ r))

  pub is_first : take (length xs) pages ≡ xs
  is_first = ap (take (length xs)) apart ∙ take-append_seam xs (ys ++ r)

  pub is_behind : drop (length xs) pages ≡ ys ++ r
  is_behind = ap (drop (length xs)) apart ∙ drop-append_seam xs (ys ++ r)

  pub has_second : length ys ≤ length (drop (length xs) pages)
  has_second = let count = ap length is_behind in omega (arith, count, length-append ys r)

  pub is_second : take (length ys) (drop (length xs) pages) ≡ ys
  is_second = ap (take (length ys)) is_behind ∙ take-append_seam ys r

-- ---- file by file

pub behind_more : (fs : List LentFile) (i : ℕ) (f : LentFile) (pages rest new : List HandedPage) → i < length fs → f ≡ get_or fs i f → pages ≡ flat_map file_pages (take i fs) ++ rest → rest ≡ file_pages f ++ new → pages ≡ flat_map file_pages (take (i + 1) fs) ++ new
behind_more fs i f pages rest new within here before is =
    let front = flat_map file_pages (take i fs) in
    before ∙ ap (λ ps. front ++ ps) is ∙ sym (append_assoc front (file_pages f) new)
    ∙ ap (λ ps. ps ++ new) (told_more file_pages fs i f front (front ++ file_pages f) within here refl refl)

pub not_behind : (b : Bundled) (i : ℕ) (f : LentFile) (pages rest : List HandedPage) → i < length b.writes → f ≡ get_or b.writes i f → pages ≡ flat_map file_pages (take i b.writes) ++ rest → ((r : List HandedPage) → rest ≡ file_pages f ++ r → ⊥) → pages ≡ all_pages (handed_in b) → ⊥
not_behind b i f pages rest within here before none all =
    let fs = b.writes in
    let front = flat_map file_pages (take i fs) in
    let back = flat_map file_pages (drop (i + 1) fs) in
    let fresh = map fresh_in b.pages in
    let split : flat_map file_pages fs ≡ front ++ (file_pages f ++ back) =
    ap (flat_map file_pages) (sym (take-append-drop i fs)) ∙ flat_map-append file_pages (take i fs) (drop i fs) ∙ ap (λ xs. front ++ flat_map file_pages xs) (drop_file fs i f within here) in
    none (back ++ fresh)
    (append_cancel_left front rest (file_pages f ++ (back ++ fresh))
    (sym before ∙ all ∙ all_of b ∙ ap (λ ps. ps ++ fresh) split ∙ append_assoc front (file_pages f ++ back) fresh ∙ ap (λ ps. front ++ ps) (append_assoc (file_pages f) back fresh)))

pub all_behind : (b : Bundled) (i : ℕ) (pages rest : List HandedPage) (t : Bool) → length b.writes ≤ i → pages ≡ flat_map file_pages (take i b.writes) ++ rest → (t ≡ true) ↔ (rest ≡ map fresh_in b.pages) → (t ≡ true) ↔ (pages ≡ all_pages (handed_in b))
all_behind b i pages rest t far before test =
    let front = flat_map file_pages b.writes in
    let whole : pages ≡ front ++ rest = before ∙ ap (λ (fs : List LentFile). flat_map file_pages fs ++ rest) (take_all i b.writes far) in (
      λ on. whole ∙ ap (λ ps. front ++ ps) (test.0 on) ∙ sym (all_of b),
      λ same. test.1 (append_cancel_left front rest (map fresh_in b.pages) (sym whole ∙ same ∙ all_of b)),
    )

-- ---- the bundle

-- the heads by which files were made are theirs
heads_kept : (hs : List HandedHead) (pages : List HandedPage) → HasPages hs pages → map head_of (files_from hs pages) ≡ hs
heads_kept [] pages has = refl
heads_kept (h ∷ hs) pages has =
    let sum = sum_by-cons head_pages h hs in
    let rest = length-drop (h.index + h.blocks) pages in
    let behind = length-drop h.index pages in
    let index : length (take h.index pages) ≡ h.index = length-take-le h.index pages (omega (arith, has, sum)) in
    let blocks : length (take h.blocks (drop h.index pages)) ≡ h.blocks = length-take-le h.blocks (drop h.index pages) (omega (arith, has, sum, behind)) in
    let more : HasPages hs (drop (h.index + h.blocks) pages) = omega (arith, has, sum, rest) in
    ap (λ n. let one : HandedHead = record { ino = h.ino; kind = h.kind; body = h.body; index = n; blocks = length (take h.blocks (drop h.index pages)) } in one ∷ map head_of (files_from hs (drop (h.index + h.blocks) pages))) index
    ∙ ap (λ n. let one : HandedHead = record { ino = h.ino; kind = h.kind; body = h.body; index = h.index; blocks = n } in one ∷ map head_of (files_from hs (drop (h.index + h.blocks) pages))) blocks
    ∙ ap (λ xs. h ∷ xs) (heads_kept hs (drop (h.index + h.blocks) pages) more)

-- by its heads and all its pages
pub same_files : (h : Handed) (b : Bundled) (heads : List HandedHead) → files_from heads (all_pages h) ≡ h.writes → HasPages heads (all_pages h) → ((heads ≡ map (λ (f : LentFile). head_of (file_in f.stands)) b.writes) × (all_pages h ≡ all_pages (handed_in b))) ↔ ((h.writes ≡ (handed_in b).writes) × (h.pages ≡ (handed_in b).pages))
same_files h b heads files has =
    let theirs = (handed_in b).writes in
    let pages_of : List HandedFile → List HandedPage = λ fs. flat_map (λ (f : HandedFile). f.index ++ f.blocks) fs in
    let made = heads_made b.writes in (
      λ same.
          let writes : h.writes ≡ theirs = sym files ∙ ap (λ xs. files_from heads xs) same.1 ∙ ap (λ hs. files_from hs (all_pages (handed_in b))) (same.0 ∙ made) ∙ files-joined theirs (map fresh_in b.pages) in
          let front : pages_of theirs ++ h.pages ≡ pages_of theirs ++ map fresh_in b.pages = ap (λ fs. pages_of fs ++ h.pages) (sym writes) ∙ same.1 in
          (writes, append_cancel_left (pages_of theirs) h.pages (map fresh_in b.pages) front),
      λ same. (
        sym (heads_kept heads (all_pages h) has) ∙ ap (map head_of) (files ∙ same.0) ∙ sym made,
        ap (λ fs. pages_of fs ++ h.pages) same.0 ∙ ap (λ ps. pages_of theirs ++ ps) same.1,
      ),
    )
