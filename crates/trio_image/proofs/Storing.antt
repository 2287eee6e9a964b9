-- The pages before a core, and any core behind them: they store the tables that they were made of.
use Rattle.trio_image.proofs.Words.{◌*◌, ◌++◌, ◌+◌, ◌-◌, ◌<◌, ◌∙◌, ◌∷◌, ◌≡◌, ◌≤◌, Bool, FillsPages, HasSuperblock, IsWholeImage, List, None, Option, Row, Some, StoresTables, Superblock, [], ap, arith, eq-eqb, get_or, get_or-append-add, get_or_append_left, is_whole_page, length, length-append, length-zeros, list_all, list_all-append, owner_bytes, owner_count, padded_to_pages, refl, shadow_bytes, shadow_count, suc, superblock_facts, superblock_fits, sym, table_pages, tabulated, tabulated-get, tabulated-length, true, zero, ℕ}
use Rattle.std.proofs.Common.{◌==◌, IsTrue}
use Rattle.trio_page.proofs.Fields.{length-slice}
use Rattle.trio_tables.specs.Stored.{page_at}
use Rattle.trio_layout.specs.Superblock.{page_count, superblock_bytes, superblock_bytes_of}
use Rattle.trio_image.specs.Front.{front_pages, owner_pages, shadow_pages}

-- each element of a table by number passes a test
pub tabulated-all : {X : Type 0} (p : X → Bool) (f : ℕ → X) (n : ℕ) → ((k : ℕ) → k < n → p (f k) ≡ true) → list_all p (tabulated f n) ≡ true
tabulated-all p f zero h = refl
tabulated-all p f (suc n) h =
    list_all-append p (tabulated f n) (f n ∷ [])
    ∙ rw (tabulated-all p f n (λ k lt. h k (omega arith)), h n (omega arith)) refl

length-superblock : (s : Superblock) → length s.root ≡ 64 → length (superblock_bytes s) ≡ 4096
unfolding superblock_bytes_of
length-superblock s root = simp (length-append, length-zeros) (omega (arith, root))

length-page : (k : ℕ) (bytes : List ℕ) → 4096 * k + 4096 ≤ length bytes → length (page_at k bytes) ≡ 4096
length-page k bytes le = omega (arith, length-slice bytes (4096 * k) (4096 * k + 4096) le)

-- each page of a stored table is whole
table_whole : (bytes : List ℕ) (n : ℕ) → length bytes ≡ 4096 * n → list_all is_whole_page (table_pages bytes n) ≡ true
table_whole bytes n len =
    tabulated-all is_whole_page (λ k. Some (page_at k bytes)) n (λ k lt. eq-eqb (length (page_at k bytes)) 4096 (length-page k bytes (omega (arith, len))))

-- a superblock that fits, tables of its sizes, and a core of its size
pub record IsLaid (s : Superblock) (rows : List (Option Row)) (owners : List ℕ) (core : List (Option (List ℕ))) : Type 0 where
  pub fits : IsTrue (superblock_fits s)
  pub root : length s.root ≡ 64
  pub many_rows : length rows ≡ s.inodes + 1
  pub many_owners : length owners ≡ s.pages
  pub many_pages : length core ≡ s.pages - s.first_core

module _ (s : Superblock) (rows : List (Option Row)) (owners : List ℕ) (core : List (Option (List ℕ))) (k : IsLaid s rows owners core) where
  abbrev front : List (Option (List ℕ))
  front = front_pages s rows owners

  abbrev laid : List (Option (List ℕ))
  laid = front ++ core

  shadow_end : s.first_owner ≡ 1 + shadow_count rows
  shadow_end =
      let e : length rows - 1 ≡ s.inodes = omega (arith, k.many_rows) in
      (superblock_facts s k.fits).first_owner ∙ ap (λ (n : ℕ). 1 + page_count (32 * n)) (sym e)

  owner_end : s.first_core ≡ s.first_owner + owner_count owners
  owner_end = (superblock_facts s k.fits).first_core ∙ ap (λ (n : ℕ). s.first_owner + page_count (4 * n)) (sym k.many_owners)

  length-shadow_pages : length (shadow_pages rows) ≡ shadow_count rows
  length-shadow_pages = tabulated-length (λ n. Some (page_at n (padded_to_pages (shadow_bytes rows)))) (shadow_count rows)

  length-owner_pages : length (owner_pages owners) ≡ owner_count owners
  length-owner_pages = tabulated-length (λ n. Some (page_at n (padded_to_pages (owner_bytes owners)))) (owner_count owners)

  length-front : length front ≡ s.first_core
  unfolding front_pages
  length-front =
      let a = length-append (shadow_pages rows) (owner_pages owners) in
      let one : length (Some (superblock_bytes s) ∷ (shadow_pages rows ++ owner_pages owners)) ≡ suc (length (shadow_pages rows ++ owner_pages owners)) = refl in
      one ∙ omega (arith, a, length-shadow_pages, length-owner_pages, shadow_end, owner_end)

  pub laid_count : length laid ≡ s.pages
  laid_count = omega (arith, length-append front core, length-front, k.many_pages, (superblock_facts s k.fits).core)

  pub laid_first : get_or laid 0 None ≡ Some (superblock_bytes s)
  unfolding front_pages
  laid_first = refl

  front_behind : (n : ℕ) → get_or front (1 + n) None ≡ get_or (shadow_pages rows ++ owner_pages owners) n None
  unfolding front_pages
  front_behind n = get_or-append-add (Some (superblock_bytes s) ∷ []) (shadow_pages rows ++ owner_pages owners) n None

  laid_behind : (n : ℕ) → 1 + n < s.first_core → get_or laid (1 + n) None ≡ get_or (shadow_pages rows ++ owner_pages owners) n None
  laid_behind n lt = get_or_append_left front core None (1 + n) (omega (arith, length-front, lt)) ∙ front_behind n

  laid_shadow : (n : ℕ) → 1 + n < s.first_owner → get_or laid (1 + n) None ≡ Some (page_at n (padded_to_pages (shadow_bytes rows)))
  laid_shadow n lt =
      let below : n < shadow_count rows = omega (arith, shadow_end) in
      let inside : n < length (shadow_pages rows) = omega (arith, length-shadow_pages, below) in
      laid_behind n (omega (arith, owner_end))
      ∙ get_or_append_left (shadow_pages rows) (owner_pages owners) None n inside
      ∙ tabulated-get (λ n. Some (page_at n (padded_to_pages (shadow_bytes rows)))) (shadow_count rows) n None below

  laid_owner : (n : ℕ) → s.first_owner + n < s.first_core → get_or laid (s.first_owner + n) None ≡ Some (page_at n (padded_to_pages (owner_bytes owners)))
  laid_owner n lt =
      let below : n < owner_count owners = omega (arith, owner_end) in
      let place : s.first_owner + n ≡ 1 + (length (shadow_pages rows) + n) = omega (arith, shadow_end, length-shadow_pages) in
      ap (λ (i : ℕ). get_or laid i None) place
      ∙ laid_behind (length (shadow_pages rows) + n) (omega (arith, place, lt))
      ∙ get_or-append-add (shadow_pages rows) (owner_pages owners) n None
      ∙ tabulated-get (λ n. Some (page_at n (padded_to_pages (owner_bytes owners)))) (owner_count owners) n None below

  -- the core stands behind them
  pub laid_core : (n : ℕ) → get_or laid (s.first_core + n) None ≡ get_or core n None
  laid_core n =
      let place : s.first_core + n ≡ length front + n = omega (arith, length-front) in
      ap (λ (i : ℕ). get_or laid i None) place ∙ get_or-append-add front core n None

  pub laid_tables : StoresTables s laid rows owners
  laid_tables = record { shadow = laid_shadow; owner = laid_owner }

  pub laid_superblock : HasSuperblock s laid
  laid_superblock = record { bytes = superblock_bytes s; here = laid_first; read = record { spelled = refl; root = k.root; fits = k.fits } }

  -- where the core's pages are whole, they are an image's
  module _ (shadow_full : FillsPages (shadow_bytes rows) (shadow_count rows)) (owner_full : FillsPages (owner_bytes owners) (owner_count owners)) (whole : list_all is_whole_page core ≡ true) where
    front_whole : list_all is_whole_page front ≡ true
    unfolding front_pages
    front_whole =
        let first : length (superblock_bytes s) == 4096 ≡ true = eq-eqb (length (superblock_bytes s)) 4096 (length-superblock s k.root) in
        let a = table_whole (padded_to_pages (shadow_bytes rows)) (shadow_count rows) shadow_full in
        let b = table_whole (padded_to_pages (owner_bytes owners)) (owner_count owners) owner_full in
        rw (first, list_all-append is_whole_page (shadow_pages rows) (owner_pages owners), a, b) refl

    pub laid_whole : IsWholeImage s laid
    laid_whole = record {
      count = laid_count;
      whole = list_all-append is_whole_page front core ∙ rw (front_whole, whole) refl;
      superblock = laid_superblock;
    }
