-- The pages of a bundle's files in one list.
use Rattle.trio_entries.proofs.Words.{◌&&◌, ◌++◌, ◌+◌, ◌<◌, ◌||◌, ◌∙◌, ◌∷◌, ◌≡◌, ◌≤◌, Bool, Bundled, CaseShown, Handed, HandedHead, In, IsRoom, LentFile, LentPage, List, None, Option, Room, Sheet, Some, Written, [], all_pages, and_parts, ap, are_new, are_new-first, arith, bundle_core, bundle_in, bundle_length, bundle_pages, case_in, cond, drop, drop-cons, eqb, false, false≢true, file_in, file_pages, flat_map, fresh_in, get_or, get_or-In, get_or-set_other, get_or-set_same, handed_in, has_mark, head_of, index_in, is_among, is_among-not, is_marked, is_some, length, length-append, length-map, length-replicate, lent_sheet, list_all-In, list_any, map, map-append, nat_le, nat_tests, option_map, page_of, place_has, place_of, refl, replicate, set, sheet_numbers, slice_get, subst, suc, sym, take, take_more, true, written_in, zero, ℕ}
use Rattle.std.proofs.Common.{nat_lt}
use Rattle.std.proofs.lemmas.Bool.{ltb-true}
use Rattle.std.proofs.lemmas.List.{get_or-map, length-set}
use Rattle.std.proofs.lemmas.List.Folds.{flat_map-map, list_any-append}
use Rattle.std.proofs.lemmas.Option.{slice_get-get_or, slice_get-map, slice_get_past}
use Rattle.trio_rights.specs.Bundle.{bundle_sheets}
use Rattle.trio_rights.specs.Sheets.{with_pages}
use Rattle.trio_layout.specs.Range.{is_core}
use Rattle.trio_lease.specs.Views.{fresh_sheet}
use Rattle.trio_case.specs.Cases.{IsCase}
use Rattle.trio_case.proofs.Counted.{place_some}
use Rattle.trio_case.proofs.Making.{file_numbers}
use Rattle.trio_nodes.specs.Handed.{HandedFile, HasPages, handed_from, pages_left}
use Rattle.trio_nodes.specs.Told.{page_in}
use Rattle.trio_nodes.specs.declared.entry.HandedPage.{HandedPage}
use Rattle.trio_nodes.proofs.HandedPages.{files-joined, left-joined, pages-joined}
use Rattle.trio_entries.specs.Handed.{block_in}

-- ---- how many there are

pub file_count : (f : LentFile) → length (file_pages f) ≡ length f.stands.index + length f.stands.blocks
file_count f =
    omega (arith, length-append (map index_in f.stands.index) (map block_in f.stands.blocks), length-map f.stands.index index_in, length-map f.stands.blocks block_in)

same_count : (fs : List LentFile) → length (flat_map file_pages fs) ≡ length (flat_map file_numbers fs)
same_count [] = refl
same_count (f ∷ fs) =
    let number : LentPage → ℕ = λ p. p.no.0 in
    let same : length (file_numbers f) ≡ length f.stands.index + length f.stands.blocks = omega (arith, length-append (map number f.stands.index) (map number f.stands.blocks), length-map f.stands.index number, length-map f.stands.blocks number) in
    omega (arith, same, same_count fs, file_count f, length-append (file_pages f) (flat_map file_pages fs), length-append (file_numbers f) (flat_map file_numbers fs))

pub bundle_count : (b : Bundled) → length (bundle_pages (bundle_in b)) ≡ length (flat_map file_pages b.writes) + length b.pages
bundle_count b = omega (arith, bundle_length b, same_count b.writes)

-- one more that is made of a list's next
pub mapped_more : {X Y : Type 0} (g : X → Y) (xs : List X) (i : ℕ) (x : X) → i < length xs → x ≡ get_or xs i x → map g (take (i + 1) xs) ≡ map g (take i xs) ++ g x ∷ []
mapped_more g xs i x within here =
    ap (map g) (take_more xs i x within) ∙ map-append g (take i xs) (get_or xs i x ∷ []) ∙ ap (λ y. map g (take i xs) ++ g y ∷ []) (sym here)

-- memory for more is memory for less
pub room_less : (n m : ℕ) (r : Room) → m ≤ n → IsRoom n r → IsRoom m r
room_less n m r le h = record { count = omega (arith, le, h.count); buffers = h.buffers; places = omega (arith, le, h.places) }

-- what stands from a file on
pub drop_file : (fs : List LentFile) (i : ℕ) (f : LentFile) → i < length fs → f ≡ get_or fs i f → drop i fs ≡ f ∷ drop (i + 1) fs
drop_file fs i f within here =
    let one : suc i ≡ i + 1 = omega arith in
    drop-cons fs i f within ∙ ap (λ (x : LentFile). x ∷ drop (suc i) fs) (sym here) ∙ ap (λ k. f ∷ drop k fs) one

-- ---- what stands at a place

pub all_of : (b : Bundled) → all_pages (handed_in b) ≡ flat_map file_pages b.writes ++ map fresh_in b.pages
all_of b =
    ap (λ ps. ps ++ map fresh_in b.pages) (flat_map-map (λ (f : HandedFile). f.index ++ f.blocks) (λ (f : LentFile). file_in f.stands) b.writes)

pub all_count : (b : Bundled) → length (all_pages (handed_in b)) ≡ length (bundle_pages (bundle_in b))
all_count b =
    let all = ap length (all_of b) in
    omega (arith, all, bundle_count b, length-append (flat_map file_pages b.writes) (map fresh_in b.pages), length-map b.pages fresh_in)

-- no page stands past all
pub none_past : (b : Bundled) (k : ℕ) → length (bundle_pages (bundle_in b)) ≤ k → page_in (handed_in b) k ≡ None
none_past b k far = slice_get_past (all_pages (handed_in b)) k (omega (arith, far, all_count b))

-- their bytes are those of the bundle's pages
all_bytes : (b : Bundled) → map (λ (p : HandedPage). p.bytes) (all_pages (handed_in b)) ≡ map (λ (x : Sheet). x.bytes) (bundle_sheets (bundle_in b))
all_bytes b =
    ap (map bytes) (all_of b) ∙ map-append bytes (flat_map file_pages b.writes) (map fresh_in b.pages)
    ∙ ap (λ l. l ++ map bytes (map fresh_in b.pages)) (files b.writes)
    ∙ ap (λ l. map sheet_bytes (flat_map written (map (λ (f : LentFile). written_in f.stands) b.writes)) ++ l) (each fresh_in fresh_sheet b.pages (λ p. refl))
    ∙ sym (map-append sheet_bytes (flat_map written (map (λ (f : LentFile). written_in f.stands) b.writes)) (map fresh_sheet b.pages))
  where
    bytes : HandedPage → List ℕ
    bytes p = p.bytes

    sheet_bytes : Sheet → List ℕ
    sheet_bytes x = x.bytes

    written : Written → List Sheet
    written w = w.index ++ w.blocks

    each : {X : Type 0} (g : X → HandedPage) (h : X → Sheet) (xs : List X) → ((x : X) → (g x).bytes ≡ (h x).bytes) → map bytes (map g xs) ≡ map sheet_bytes (map h xs)
    each g h [] same = refl
    each g h (x ∷ xs) same = ap (λ n. n ∷ map bytes (map g xs)) (same x) ∙ ap (λ l. (h x).bytes ∷ l) (each g h xs same)

    file : (f : LentFile) → map bytes (file_pages f) ≡ map sheet_bytes (written (written_in f.stands))
    file f =
        map-append bytes (map index_in f.stands.index) (map block_in f.stands.blocks)
        ∙ ap (λ l. l ++ map bytes (map block_in f.stands.blocks)) (each index_in lent_sheet f.stands.index (λ p. refl))
        ∙ ap (λ l. map sheet_bytes (map lent_sheet f.stands.index) ++ l) (each block_in lent_sheet f.stands.blocks (λ p. refl))
        ∙ sym (map-append sheet_bytes (map lent_sheet f.stands.index) (map lent_sheet f.stands.blocks))

    files : (fs : List LentFile) → map bytes (flat_map file_pages fs) ≡ map sheet_bytes (flat_map written (map (λ (f : LentFile). written_in f.stands) fs))
    files [] = refl
    files (f ∷ fs) =
        map-append bytes (file_pages f) (flat_map file_pages fs) ∙ ap (λ l. l ++ map bytes (flat_map file_pages fs)) (file f)
        ∙ ap (λ l. map sheet_bytes (written (written_in f.stands)) ++ l) (files fs)
        ∙ sym (map-append sheet_bytes (written (written_in f.stands)) (flat_map written (map (λ (g : LentFile). written_in g.stands) fs)))

-- a page that none of these stands for is as it was
sheet_none : (ss : List Sheet) (pages : List (Option (List ℕ))) (n : ℕ) → is_among n (sheet_numbers ss) ≡ false → get_or (with_pages ss pages) n None ≡ get_or pages n None
sheet_none [] pages n h = refl
sheet_none (x ∷ xs) pages n h =
    let apart = not_either (eqb x.page n) (is_among n (sheet_numbers xs)) h in
    let other : n ≡ x.page → ⊥ = λ e. false≢true (sym apart.0 ∙ (let t : eqb x.page n ≡ true = grind (arith, nat_tests) in t)) in
    sheet_none xs (set pages x.page (Some x.bytes)) n apart.1 ∙ get_or-set_other pages x.page n (Some x.bytes) None other
  where
    not_either : (a b : Bool) → (a || b) ≡ false → (a ≡ false) × (b ≡ false)
    not_either true b e = absurd (false≢true (sym e))
    not_either false b e = (refl, e)

none_at : (n i : ℕ) → get_or (replicate {A = Option (List ℕ)} n None) i None ≡ None
none_at zero i = refl
none_at (suc n) zero = refl
none_at (suc n) (suc i) = none_at n i

-- of different pages that stand in place of others each is there
sheet_here : (ss : List Sheet) (pages : List (Option (List ℕ))) (at : ℕ) (x : Sheet) → are_new [] (sheet_numbers ss) ≡ true → slice_get ss at ≡ Some x → x.page < length pages → get_or (with_pages ss pages) x.page None ≡ Some x.bytes
sheet_here [] pages at x new here small = absurd cc
sheet_here (y ∷ ys) pages zero x new here small =
    let same : y ≡ x = cc in
    let first = are_new-first y.page (sheet_numbers ys) new in
    let none : is_among x.page (sheet_numbers ys) ≡ false = is_among-not x.page (sheet_numbers ys) (subst (λ (z : Sheet). In z.page (sheet_numbers ys) → ⊥) same first.0) in
    ap (λ (z : Sheet). get_or (with_pages ys (set pages z.page (Some z.bytes))) x.page None) same
    ∙ sheet_none ys (set pages x.page (Some x.bytes)) x.page none ∙ get_or-set_same pages x.page (Some x.bytes) None small
sheet_here (y ∷ ys) pages (suc at) x new here small =
    sheet_here ys (set pages y.page (Some y.bytes)) at x (are_new-first y.page (sheet_numbers ys) new).1 here (omega (arith, small, length-set pages y.page (Some y.bytes)))

module _ (k : CaseShown) (is : IsCase k.bundle k.range k.inodes) (page : ℕ) where
  abbrev own : List ℕ
  own = bundle_pages (bundle_in k.bundle)

  abbrev sheets : List Sheet
  sheets = bundle_sheets (bundle_in k.bundle)

  -- a page at its place among all
  pub page_placed : (at : ℕ) → Some at ≡ place_of page own → option_map (λ (p : HandedPage). p.bytes) (page_in (handed_in k.bundle) at) ≡ page_of (bundle_core (case_in k)) page
  page_placed at there =
      let has = place_has page own at (sym there) in
      let none : Sheet = record { page = 0; bytes = [] } in
      let within : at < length sheets = omega (arith, has.0, length-map sheets (λ (x : Sheet). x.page)) in
      let x = get_or sheets at none in
      let here : slice_get sheets at ≡ Some x = slice_get-get_or sheets at none within in
      let number : x.page ≡ page = sym (get_or-map (λ (y : Sheet). y.page) sheets at none 0 within) ∙ has.1 in
      let core : is_core k.range page ≡ true = list_all-In (is_core k.range) page own is.core (subst (λ n. In n own) has.1 (get_or-In own at 0 has.0)) in
      let below : page < k.range.end = ltb-true page k.range.end (and_parts (nat_le k.range.first page) (nat_lt page k.range.end) core).1 in
      let blanks : List (Option (List ℕ)) = replicate k.range.end None in
      let put = sheet_here sheets blanks at x is.pages here (omega (arith, below, number, length-replicate {A = Option (List ℕ)} k.range.end None)) in
      sym (slice_get-map (λ (p : HandedPage). p.bytes) (all_pages (handed_in k.bundle)) at)
      ∙ ap (λ l. slice_get l at) (all_bytes k.bundle) ∙ slice_get-map (λ (y : Sheet). y.bytes) sheets at ∙ ap (option_map (λ (y : Sheet). y.bytes)) here
      ∙ sym put ∙ ap (λ n. get_or (with_pages sheets blanks) n None) number
      ∙ sym (ap (λ t. cond t (get_or (with_pages sheets blanks) page None) None) core)

  -- where it is none of the bundle's
  pub page_absent : (at : ℕ) → length own ≤ at → None ≡ place_of page own → option_map (λ (p : HandedPage). p.bytes) (page_in (handed_in k.bundle) at) ≡ page_of (bundle_core (case_in k)) page
  page_absent at far there =
      let out : is_among page own ≡ false = sym (place_some page own) ∙ ap is_some (sym there) in
      let blank = sheet_none sheets (replicate k.range.end None) page out ∙ none_at k.range.end page in
      ap (option_map (λ (p : HandedPage). p.bytes)) (none_past k.bundle at far) ∙ sym (either (is_core k.range page) _ blank)
    where
      either : (t : Bool) (o : Option (List ℕ)) → o ≡ None → cond t o None ≡ None
      either true o e = e
      either false o e = refl

-- ---- marks

-- only lent blocks are marked
pub marks_in : (b : Bundled) (n : ℕ) → has_mark n (all_pages (handed_in b)) ≡ is_marked (handed_in b) n
marks_in b n =
    list_any-append marked (flat_map (λ (f : HandedFile). f.index ++ f.blocks) (handed_in b).writes) (map fresh_in b.pages)
    ∙ ap (λ t. list_any marked (flat_map (λ (f : HandedFile). f.index ++ f.blocks) (handed_in b).writes) || t) (never fresh_in b.pages (λ p. refl))
    ∙ or_false (list_any marked (flat_map (λ (f : HandedFile). f.index ++ f.blocks) (handed_in b).writes))
    ∙ files b.writes
  where
    marked : HandedPage → Bool
    marked p = eqb p.no n && p.touched

    and_false : (s t : Bool) → t ≡ false → (s && t) ≡ false
    and_false true t e = e
    and_false false t e = refl

    or_false : (t : Bool) → (t || false) ≡ t
    or_false true = refl
    or_false false = refl

    never : {X : Type 0} (g : X → HandedPage) (xs : List X) → ((x : X) → (g x).touched ≡ false) → list_any marked (map g xs) ≡ false
    never g [] h = refl
    never g (x ∷ xs) h = ap (λ t. t || list_any marked (map g xs)) (and_false (eqb (g x).no n) (g x).touched (h x)) ∙ never g xs h

    files : (fs : List LentFile) → list_any marked (flat_map (λ (f : HandedFile). f.index ++ f.blocks) (map (λ (f : LentFile). file_in f.stands) fs)) ≡ list_any (λ (w : HandedFile). list_any marked w.blocks) (map (λ (f : LentFile). file_in f.stands) fs)
    files [] = refl
    files (f ∷ fs) =
        let rest = flat_map (λ (x : HandedFile). x.index ++ x.blocks) (map (λ (x : LentFile). file_in x.stands) fs) in
        list_any-append marked (map index_in f.stands.index ++ map block_in f.stands.blocks) rest
        ∙ ap (λ t. t || list_any marked rest) (list_any-append marked (map index_in f.stands.index) (map block_in f.stands.blocks) ∙ ap (λ t. t || list_any marked (map block_in f.stands.blocks)) (never index_in f.stands.index (λ p. refl)))
        ∙ ap (λ t. list_any marked (map block_in f.stands.blocks) || t) (files fs)

-- ---- a copy

pub heads_made : (fs : List LentFile) → map (λ (f : LentFile). head_of (file_in f.stands)) fs ≡ map head_of (map (λ (f : LentFile). file_in f.stands) fs)
heads_made [] = refl
heads_made (f ∷ fs) = ap (λ hs. head_of (file_in f.stands) ∷ hs) (heads_made fs)

module _ (b : Bundled) (heads : List HandedHead) (pages : List HandedPage) (hs : heads ≡ map (λ (f : LentFile). head_of (file_in f.stands)) b.writes) (ps : pages ≡ flat_map file_pages b.writes ++ map fresh_in b.pages) where
  heads_are : heads ≡ map head_of (handed_in b).writes
  heads_are = hs ∙ heads_made b.writes

  pages_are : pages ≡ all_pages (handed_in b)
  pages_are = ps ∙ sym (all_of b)

  -- its heads have just as many pages
  pub copy_has : HasPages heads pages
  copy_has =
      subst (λ xs. HasPages xs pages) (sym heads_are) (subst (λ xs. HasPages (map head_of (handed_in b).writes) xs) (sym pages_are) (pages-joined (handed_in b).writes (map fresh_in b.pages)))

  -- and it is the bundle as it was handed in
  pub copy_is : (holds numbers : List ℕ) → holds ≡ (handed_in b).holds → numbers ≡ (handed_in b).numbers → handed_from heads holds pages numbers ≡ handed_in b
  copy_is holds numbers os ns =
      let files = (handed_in b).writes in
      let all = all_pages (handed_in b) in
      ap (λ xs. handed_from xs holds pages numbers) heads_are ∙ ap (λ xs. handed_from (map head_of files) holds xs numbers) pages_are
      ∙ ap (λ xs. handed_from (map head_of files) xs all numbers) os
      ∙ ap (λ xs. handed_from (map head_of files) (handed_in b).holds all xs) ns
      ∙ ap (λ (fs : List HandedFile). let h : Handed = record { writes = fs; holds = (handed_in b).holds; pages = pages_left (map head_of files) all; numbers = (handed_in b).numbers } in h) (files-joined files (map fresh_in b.pages))
      ∙ ap (λ (xs : List HandedPage). let h : Handed = record { writes = files; holds = (handed_in b).holds; pages = xs; numbers = (handed_in b).numbers } in h) (left-joined files (map fresh_in b.pages))
