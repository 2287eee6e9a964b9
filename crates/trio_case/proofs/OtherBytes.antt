-- A case with other bytes in one of its pages, or with touched blocks: its files, numbers and pages are the same.
use Rattle.trio_case.proofs.Words.{◌++◌, ◌||◌, ◌∙◌, ◌∷◌, ◌≡◌, Block, Bundled, CaseShown, CoreRange, Fresh, FreshParts, HoldParts, InoParts, IsCase, IsRoomFor, IsUnread, LentFile, LentPage, List, None, Numbers, Option, PagePlace, PageRoom, Row, Sheet, Some, Tells, Written, [], ap, bundle_in, bundle_pages, flat_map, fresh_sheet, is_directory, lent_sheet, list_any, map, map-append, no_at, number_at, option_and_then, option_map, refl, row_in, sheet_numbers, slice_get, slice_get-map, suc, sym, writes_directory, written_in, zero, ℕ}
use Rattle.trio_page.specs.declared.page.PageNo.{PageNo}
use Rattle.trio_lease.specs.Places.{with_block, with_bytes, with_index}
use Rattle.trio_lease.specs.Shown.{all_touched, as_touched, with_page, with_touched}
use Rattle.trio_lease.proofs.OtherBytes.{page_map, pages_same, rest_same, touched_map, writes_same}
use Rattle.trio_layout.specs.JudgedFiles.{written_at}
use Rattle.trio_case.specs.Rooms.{HasSpace}
use Rattle.trio_case.specs.declared.places.PagePlace.TheVariants.{Index}

-- ---- the numbers of pages

sheets-numbered : (ps : List LentPage) → sheet_numbers (map lent_sheet ps) ≡ map (λ (p : LentPage). p.no.0) ps
sheets-numbered [] = refl
sheets-numbered (p ∷ ps) = ap (λ ns. p.no.0 ∷ ns) (sheets-numbered ps)

fresh-numbered : (ps : List FreshParts) → sheet_numbers (map fresh_sheet ps) ≡ map (λ (p : FreshParts). p.no.0) ps
fresh-numbered [] = refl
fresh-numbered (p ∷ ps) = ap (λ ns. p.no.0 ∷ ns) (fresh-numbered ps)

abbrev numbers_of_file : LentFile → List ℕ
numbers_of_file f = map (λ (p : LentPage). p.no.0) f.stands.index ++ map (λ (p : LentPage). p.no.0) f.stands.blocks

files-numbered : (fs : List LentFile) → sheet_numbers (flat_map (λ (w : Written). w.index ++ w.blocks) (map (λ (f : LentFile). written_in f.stands) fs)) ≡ flat_map (λ (ns : List ℕ). ns) (map numbers_of_file fs)
files-numbered [] = refl
files-numbered (f ∷ fs) =
    let page : Sheet → ℕ = λ s. s.page in
    let here : sheet_numbers (map lent_sheet f.stands.index ++ map lent_sheet f.stands.blocks) ≡ numbers_of_file f =
    map-append page (map lent_sheet f.stands.index) (map lent_sheet f.stands.blocks) ∙ rw (sheets-numbered f.stands.index, sheets-numbered f.stands.blocks) refl in
    map-append page (map lent_sheet f.stands.index ++ map lent_sheet f.stands.blocks) (flat_map (λ (w : Written). w.index ++ w.blocks) (map (λ (g : LentFile). written_in g.stands) fs)) ∙ rw (here, files-numbered fs) refl

pages-numbered : (b : Bundled) → bundle_pages (bundle_in b) ≡ flat_map (λ (ns : List ℕ). ns) (map numbers_of_file b.writes) ++ map (λ (p : FreshParts). p.no.0) b.pages
pages-numbered b =
    let page : Sheet → ℕ = λ s. s.page in
    map-append page (flat_map (λ (w : Written). w.index ++ w.blocks) (bundle_in b).writes) (map fresh_sheet b.pages) ∙ rw (files-numbered b.writes, fresh-numbered b.pages) refl

-- ---- a bundle with other bytes in a page

-- what is asked of files is the same of these, and each number of a page stands at the same place
pub record Alike (b b' : Bundled) : Type 0 where
  pub files : map (λ (f : LentFile). f.stands.ino) b'.writes ≡ map (λ (f : LentFile). f.stands.ino) b.writes
  pub mets : (rows : List (Option Row)) → map (λ (f : LentFile). written_at (written_in f.stands) (row_in rows f.stands.ino)) b'.writes ≡ map (λ (f : LentFile). written_at (written_in f.stands) (row_in rows f.stands.ino)) b.writes
  pub pages : bundle_pages (bundle_in b') ≡ bundle_pages (bundle_in b)
  pub places : (place : PagePlace) → number_at b' place ≡ number_at b place
  pub holds : b'.holds ≡ b.holds
  pub inodes : b'.inodes ≡ b.inodes
  pub kinds : map (λ (f : LentFile). f.stands.kind) b'.writes ≡ map (λ (f : LentFile). f.stands.kind) b.writes

met-same : (w w' : Written) (o : Option Row) → w'.ino ≡ w.ino → w'.kind ≡ w.kind → w'.body ≡ w.body → written_at w' o ≡ written_at w o
met-same w w' None i k b = rw (i, k, b) refl
met-same w w' (Some r) i k b = rw (i, k, b) refl

-- the number at a place of a list of pages, by the numbers alone
place-number : (pages : List LentPage) (at : ℕ) → option_map (λ (no : PageNo). no.0) (no_at pages at) ≡ option_map (λ (no : PageNo). no.0) (slice_get (map (λ (p : LentPage). p.no) pages) at)
place-number pages at = ap (option_map (λ (no : PageNo). no.0)) (sym (slice_get-map (λ (p : LentPage). p.no) pages at))

place-same : (pages pages' : List LentPage) (at : ℕ) → map (λ (p : LentPage). p.no) pages' ≡ map (λ (p : LentPage). p.no) pages → option_map (λ (no : PageNo). no.0) (no_at pages' at) ≡ option_map (λ (no : PageNo). no.0) (no_at pages at)
place-same pages pages' at h =
    place-number pages' at ∙ ap (λ ns. option_map (λ (no : PageNo). no.0) (slice_get ns at)) h ∙ sym (place-number pages at)

-- what is asked of the file at a place, by what is asked of each
file-at : {Y : Type 0} (h : LentFile → Option Y) (fs : List LentFile) (i : ℕ) → option_and_then h (slice_get fs i) ≡ option_and_then (λ (o : Option Y). o) (slice_get (map h fs) i)
file-at h [] i = refl
file-at h (f ∷ fs) zero = refl
file-at h (f ∷ fs) (suc i) = file-at h fs i

file-same : {Y : Type 0} (h : LentFile → Option Y) (fs fs' : List LentFile) (i : ℕ) → map h fs' ≡ map h fs → option_and_then h (slice_get fs' i) ≡ option_and_then h (slice_get fs i)
file-same h fs fs' i e = file-at h fs' i ∙ ap (λ os. option_and_then (λ o. o) (slice_get os i)) e ∙ sym (file-at h fs i)

module _ (b : Bundled) (no : PageNo) (bytes : List ℕ) where
  abbrev other_bytes : Bundled
  other_bytes = with_bytes b no bytes

  places_same : (place : PagePlace) → number_at other_bytes place ≡ number_at b place
  places_same (Index file i) =
      let h : LentFile → Option ℕ = λ f. option_map (λ no. no.0) (no_at f.stands.index i) in
      file-same h b.writes other_bytes.writes file
      (writes_same h (λ f at w. place-same f.stands.index (with_page f.stands.index at w) i (page_map (λ p. p.no) (λ p v. (refl, refl)) f.stands.index at w)) (λ f at w. refl) b no bytes)
  places_same (Block file i) =
      let h : LentFile → Option ℕ = λ f. option_map (λ no. no.0) (no_at f.stands.blocks i) in
      file-same h b.writes other_bytes.writes file
      (writes_same h (λ f at w. refl) (λ f at w. place-same f.stands.blocks (with_touched f.stands.blocks at w) i (touched_map (λ p. p.no) (λ p v. (refl, refl)) f.stands.blocks at w)) b no bytes)
  places_same (Fresh i) =
      let number : FreshParts → ℕ = λ p. p.no.0 in
      sym (slice_get-map number other_bytes.pages i) ∙ ap (λ ns. slice_get ns i) (pages_same b no bytes) ∙ slice_get-map number b.pages i

  numbers_same : bundle_pages (bundle_in other_bytes) ≡ bundle_pages (bundle_in b)
  numbers_same =
      let number : LentPage → ℕ = λ p. p.no.0 in
      let files = writes_same numbers_of_file
      (λ f at w. ap (λ ns. ns ++ map number f.stands.blocks) (page_map number (λ p v. (refl, refl)) f.stands.index at w))
      (λ f at w. ap (λ ns. map number f.stands.index ++ ns) (touched_map number (λ p v. (refl, refl)) f.stands.blocks at w)) b no bytes in
      pages-numbered other_bytes ∙ ap (λ ns. flat_map (λ (l : List ℕ). l) ns ++ map (λ (p : FreshParts). p.no.0) other_bytes.pages) files
      ∙ ap (λ ns. flat_map (λ (l : List ℕ). l) (map numbers_of_file b.writes) ++ ns) (pages_same b no bytes) ∙ sym (pages-numbered b)

  pub alike : Alike b other_bytes
  alike = record {
    files = writes_same (λ f. f.stands.ino) (λ f at w. refl) (λ f at w. refl) b no bytes;
    mets = λ rows. writes_same (λ f. written_at (written_in f.stands) (row_in rows f.stands.ino))
        (λ f at w. met-same (written_in f.stands) (written_in (with_index at w f).stands) (row_in rows f.stands.ino) refl refl refl)
        (λ f at w. met-same (written_in f.stands) (written_in (with_block at w f).stands) (row_in rows f.stands.ino) refl refl refl) b no bytes;
    pages = numbers_same;
    places = places_same;
    holds = (rest_same b no bytes).0;
    inodes = (rest_same b no bytes).1;
    kinds = writes_same (λ f. f.stands.kind) (λ f at w. refl) (λ f at w. refl) b no bytes;
  }

-- ---- a bundle with all its blocks marked as touched

abbrev pub touched : Bundled → Bundled
touched b = record b { writes = map all_touched b.writes }

-- what doesn't speak of the marks of a file's blocks
touched-map : {Y : Type 0} (g : LentFile → Y) → ((f : LentFile) → g (all_touched f) ≡ g f) → (fs : List LentFile) → map g (map all_touched fs) ≡ map g fs
touched-map g same [] = refl
touched-map g same (f ∷ fs) = rw (same f, touched-map g same fs) refl

-- nor of those of pages
marked-map : {Y : Type 0} (v : LentPage → Y) → ((p : LentPage) → v (as_touched p) ≡ v p) → (ps : List LentPage) → map v (map as_touched ps) ≡ map v ps
marked-map v same [] = refl
marked-map v same (p ∷ ps) = rw (same p, marked-map v same ps) refl

module _ (b : Bundled) where
  places_touched : (place : PagePlace) → number_at (touched b) place ≡ number_at b place
  places_touched (Index file i) =
      let h : LentFile → Option ℕ = λ f. option_map (λ no. no.0) (no_at f.stands.index i) in
      file-same h b.writes (touched b).writes file (touched-map h (λ f. refl) b.writes)
  places_touched (Block file i) =
      let h : LentFile → Option ℕ = λ f. option_map (λ no. no.0) (no_at f.stands.blocks i) in
      file-same h b.writes (touched b).writes file
      (touched-map h (λ f. place-same f.stands.blocks (map as_touched f.stands.blocks) i (marked-map (λ p. p.no) (λ p. refl) f.stands.blocks)) b.writes)
  places_touched (Fresh i) = refl

  numbers_touched : bundle_pages (bundle_in (touched b)) ≡ bundle_pages (bundle_in b)
  numbers_touched =
      let number : LentPage → ℕ = λ p. p.no.0 in
      let files = touched-map numbers_of_file (λ f. ap (λ ns. map number f.stands.index ++ ns) (marked-map number (λ p. refl) f.stands.blocks)) b.writes in
      pages-numbered (touched b) ∙ ap (λ ns. flat_map (λ (l : List ℕ). l) ns ++ map (λ (p : FreshParts). p.no.0) b.pages) files ∙ sym (pages-numbered b)

  pub alike_touched : Alike b (touched b)
  alike_touched = record {
    files = touched-map (λ f. f.stands.ino) (λ f. refl) b.writes;
    mets = λ rows. touched-map (λ f. written_at (written_in f.stands) (row_in rows f.stands.ino))
        (λ f. met-same (written_in f.stands) (written_in (all_touched f).stands) (row_in rows f.stands.ino) refl refl refl) b.writes;
    pages = numbers_touched;
    places = places_touched;
    holds = refl;
    inodes = refl;
    kinds = touched-map (λ f. f.stands.kind) (λ f. refl) b.writes;
  }

-- ---- what is true of a case

pub is_case : (b b' : Bundled) (range : CoreRange) (inodes : ℕ) → Alike b b' → IsCase b range inodes → IsCase b' range inodes
is_case b b' range inodes a h = record {
  core = rw a.pages h.core;
  pages = rw a.pages h.pages;
  first = h.first;
  once = rw (a.files, a.holds) h.once;
  lent = rw (a.files, a.holds) h.lent;
  numbers = rw a.inodes h.numbers;
  apart = rw a.inodes h.apart;
}

pub tells : (t : Numbers) (b b' : Bundled) → Alike b b' → Tells t b → Tells t b'
tells t b b' same h = record {
  writes = h.writes ∙ sym same.files;
  holds = h.holds ∙ ap (map (λ (x : HoldParts). x.ino)) (sym same.holds);
  held_order = h.held_order;
  fresh = h.fresh ∙ ap (map (λ (x : InoParts). x.no)) (sym same.inodes);
}

-- ---- the room of its pages

lists_by_kind : (fs : List LentFile) → list_any (λ (f : LentFile). is_directory f.stands.kind) fs ≡ list_any is_directory (map (λ (f : LentFile). f.stands.kind) fs)
lists_by_kind [] = refl
lists_by_kind (f ∷ fs) = ap (λ b. is_directory f.stands.kind || b) (lists_by_kind fs)

pub lists_alike : (b b' : Bundled) → Alike b b' → writes_directory b' ≡ writes_directory b
lists_alike b b' a = lists_by_kind b'.writes ∙ ap (list_any is_directory) a.kinds ∙ sym (lists_by_kind b.writes)

space_alike : (k : CaseShown) (b' : Bundled) → Alike k.bundle b' → (room : PageRoom) → HasSpace k room → HasSpace (record k { bundle = b' }) room
space_alike k b' a room h = record {
  pages = rw (lists_alike k.bundle b' a) h.pages;
  index = h.index;
  blocks = h.blocks;
  named = rw (lists_alike k.bundle b' a) h.named;
}

pub pages_alike : (k : CaseShown) (b' : Bundled) → Alike k.bundle b' → (room : PageRoom) → IsRoomFor k room → IsRoomFor (record k { bundle = b' }) room
pages_alike k b' a room h = record {
  order = rw a.pages h.order;
  numbers = h.numbers;
  each = λ p i. (let u : IsUnread k.bundle p = h.each p i in record { place = a.places p.place ∙ u.place; entries = u.entries; index = u.index });
  space = space_alike k b' a room h.space;
}
