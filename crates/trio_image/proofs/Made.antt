-- A core whose root is an empty directory: the root is the one file met, and the tables have just its row.
use Rattle.trio_image.proofs.Words.{if◌then◌else◌, ◌*◌, ◌++◌, ◌+◌, ◌-◌, ◌<◌, ◌==◌, ◌∙◌, ◌∷◌, ◌≡◌, ◌≢◌, ◌≤◌, Body, Bool, Core, CoreRange, FillsPages, HasPage, IsMade, List, None, Ok, Option, PagesVerify, Row, Some, StoresTables, Superblock, TablesAre, [], ap, arith, body_at, bytes_eq, chain_of, core_in, counts_of, eq-eqb, get_or, get_or-append-add, get_or_append_left, image_in, inl, inr, is_whole_page, length, length-append, length-zeros, list_all, new_counts, owned_count, owner_bytes, owner_count, refl, shadow_bytes, shadow_count, subst, suc, superblock_fits, sym, tabulated, tabulated-get, tabulated-length, true, true-bytes_eq, zero, zero_pages, zeros, ℕ}
use Rattle.std.proofs.Common.{◌&&◌, false, cond, replicate}
use Rattle.std.specs.Prelude.{nat_lt, is_some, slice_set, IsTrue}
use Rattle.std.specs.List.{count_by}
use Rattle.std.proofs.lemmas.Bool.{cases_eq, cases_lt, le-leb, le-ltb, lt-ltb}
use Rattle.std.proofs.lemmas.Bool.Decides.{eqb_tells}
use Rattle.std.proofs.lemmas.List.{ext_get_or, length-replicate, length-set, get_or-replicate, get_or-set_other, get_or-set_same}
use Rattle.std.proofs.lemmas.List.Folds.{sum_by-replicate}
use Rattle.std.proofs.lemmas.List.Sums.{sum_by-append}
use Rattle.trio_rights.specs.declared.kind.Kind.TheVariants.{Directory}
use Rattle.trio_tables.specs.Tables.{free_count, free_owners, live_count, no_rows}
use Rattle.trio_layout.specs.Range.{core_count}
use Rattle.trio_layout.specs.Body.{body_bytes, body_fits, body_of}
use Rattle.trio_layout.specs.Core.{nowhere}
use Rattle.trio_layout.specs.Sound.{is_sound, owners_table, rows_table}
use Rattle.trio_layout.specs.Survey.{FileRead, Front, Met, children, descend, file_of, file_with, levels, owner_of, plain, root_of, row_of, survey}
use Rattle.trio_layout.proofs.Bodies.{is_read}
use Rattle.trio_lists.specs.Lists.{result_then, there_or}
use Rattle.trio_image.specs.Counts.{is_file}
use Rattle.trio_image.specs.Front.{front_pages}
use Rattle.trio_image.specs.Made.{empty_directory, new_superblock, Fits}
use Rattle.trio_image.proofs.Storing.{laid_core, laid_count, laid_tables, laid_whole, IsLaid}
use Rattle.trio_image.specs.inner.NewTables.{root_row, root_rows}

-- ---- one file

-- an empty root as it is read
abbrev root_read : FileRead
root_read = record { body = empty_directory; chain = record { index = []; blocks = [] }; entries = [] }

body_fits_here : (range : CoreRange) → body_fits Directory range empty_directory ≡ true
body_fits_here range = rw (le-leb 0 (core_count range) (omega arith)) refl

body_read : (range : CoreRange) → body_of Directory range (body_bytes empty_directory) ≡ Some empty_directory
unfolding body_of
body_read range =
    let bytes : List ℕ = body_bytes empty_directory in
    let again : body_at bytes ≡ empty_directory = is_read empty_directory (omega arith) (record { uid = omega arith; gid = omega arith; head = omega arith; size = omega arith }) in
    let P : Body → Type 0 = λ b. (if bytes_eq bytes (body_bytes b) && body_fits Directory range b then Some b else None) ≡ Some empty_directory in
    subst P (sym again) (rw (true-bytes_eq bytes bytes refl, body_fits_here range) refl)

-- the levels of a root that lists nothing
levels_alone : (kids : Met → List Met) (root : Met) (n : ℕ) → kids root ≡ [] → levels kids root (suc n) ≡ record { passed = root ∷ []; level = [] }
levels_alone kids root zero e = rw e refl
levels_alone kids root (suc n) e = ap (descend kids) (levels_alone kids root n e)

-- ---- the tables as lists

replicate-all : {X : Type 0} (p : X → Bool) (n : ℕ) (x : X) → p x ≡ true → list_all p (replicate n x) ≡ true
replicate-all p zero x e = refl
replicate-all p (suc n) x e = rw (e, replicate-all p n x e) refl

count_by-append : {X : Type 0} (p : X → Bool) (xs ys : List X) → count_by p (xs ++ ys) ≡ count_by p xs + count_by p ys
count_by-append p xs ys = sum_by-append (λ x. cond (p x) 1 0) xs ys

count_by-none : {X : Type 0} (p : X → Bool) (n : ℕ) (x : X) → p x ≡ false → count_by p (replicate n x) ≡ 0
count_by-none p n x e = sum_by-replicate (λ x. cond (p x) 1 0) n x ∙ ap (λ b. n * cond b 1 0) e ∙ omega arith

count_by-every : {X : Type 0} (p : X → Bool) (n : ℕ) (x : X) → p x ≡ true → count_by p (replicate n x) ≡ n
count_by-every p n x e = sum_by-replicate (λ x. cond (p x) 1 0) n x ∙ ap (λ b. n * cond b 1 0) e ∙ omega arith

module _ (core : Core) (root : core.root ≡ body_bytes empty_directory) where
  root_file : file_of core (root_of core) ≡ Ok root_read
  unfolding file_of
  root_file =
      let body : body_of Directory core.range core.root ≡ Some empty_directory = ap (body_of Directory core.range) root ∙ body_read core.range in
      ap (λ o. result_then (λ b. result_then (file_with core Directory b) (chain_of core b)) (there_or nowhere o)) body

  no_kids : children core plain (root_of core) ≡ []
  no_kids = rw root_file refl

  pub alone : survey core plain ≡ root_of core ∷ []
  unfolding survey
  alone = ap (λ (f : Front). f.passed) (levels_alone (children core plain) (root_of core) core.inodes no_kids)

  pub alone_sound : is_sound core plain ≡ true
  alone_sound = rw (alone, root_file) refl

  row_elsewhere : (n : ℕ) → n ≢ 1 → row_of core (root_of core ∷ []) n ≡ None
  row_elsewhere n other =
      elim (eqb_tells 1 n) [
        | inl same ↦ absurd (other (sym same.1))
        | inr differ ↦ rw differ.0 refl
      ]

  row_there : row_of core (root_of core ∷ []) 1 ≡ Some root_row
  row_there = rw root_file refl

  owner_none : (page : ℕ) → owner_of core (root_of core ∷ []) page ≡ 0
  owner_none page = rw root_file refl

  pub alone_rows : 1 ≤ core.inodes → root_rows core.inodes ≡ rows_table core (survey core plain)
  alone_rows some =
      let n : ℕ = core.inodes + 1 in
      let many : length (no_rows core.inodes) ≡ n = length-replicate n None in
      let length_is : length (root_rows core.inodes) ≡ n = length-set (no_rows core.inodes) 1 (Some root_row) ∙ many in
      let each : (i : ℕ) → i < length (root_rows core.inodes) → get_or (root_rows core.inodes) i None ≡ get_or (rows_table core (root_of core ∷ [])) i None = λ i lt.
      let below : i < n = omega (arith, length_is, lt) in
      let there = tabulated-get (row_of core (root_of core ∷ [])) n i None below in
      elim (cases_eq i 1) [
        | inl same ↦
            ap (λ (k : ℕ). get_or (root_rows core.inodes) k None) same
            ∙ get_or-set_same (no_rows core.inodes) 1 (Some root_row) None (omega (arith, many))
            ∙ sym row_there
            ∙ ap (row_of core (root_of core ∷ [])) (sym same)
            ∙ sym there
        | inr other ↦
            get_or-set_other (no_rows core.inodes) 1 i (Some root_row) None other
            ∙ get_or-replicate n i None None below
            ∙ sym (row_elsewhere i other)
            ∙ sym there
      ] in
      ext_get_or None (root_rows core.inodes) (rows_table core (root_of core ∷ [])) (length_is ∙ sym (tabulated-length (row_of core (root_of core ∷ [])) n)) each
      ∙ ap (rows_table core) (sym alone)

  abbrev controller : ℕ
  controller = 0xFFFFFFFF

  abbrev owner_here : ℕ → ℕ
  owner_here page = if nat_lt page core.range.first then 0xFFFFFFFF else owner_of core (root_of core ∷ []) page

  owner_below : (page : ℕ) → page < core.range.first → owner_here page ≡ 0xFFFFFFFF
  owner_below page lt = rw (lt-ltb page core.range.first lt) refl

  owner_behind : (page : ℕ) → core.range.first ≤ page → owner_here page ≡ 0
  owner_behind page le = rw (le-ltb page core.range.first le) (owner_none page)

  length-before : length (replicate core.range.first controller) ≡ core.range.first
  length-before = length-replicate core.range.first controller

  free_below : (page : ℕ) → page < core.range.first → get_or (free_owners core.range.end core.range.first) page 0 ≡ 0xFFFFFFFF
  free_below page lt =
      let before : List ℕ = replicate core.range.first 0xFFFFFFFF in
      get_or_append_left before (replicate (core.range.end - core.range.first) 0) 0 page (omega (arith, length-before, lt))
      ∙ get_or-replicate core.range.first page 0xFFFFFFFF 0 lt

  free_behind : (page : ℕ) → core.range.first ≤ page → page < core.range.end → get_or (free_owners core.range.end core.range.first) page 0 ≡ 0
  free_behind page le lt =
      let before : List ℕ = replicate core.range.first 0xFFFFFFFF in
      let behind : List ℕ = replicate (core.range.end - core.range.first) 0 in
      let place : page ≡ length before + (page - core.range.first) = omega (arith, length-before, le) in
      ap (λ (k : ℕ). get_or (before ++ behind) k 0) place
      ∙ get_or-append-add before behind (page - core.range.first) 0
      ∙ get_or-replicate (core.range.end - core.range.first) (page - core.range.first) 0 0 (omega arith)

  length-free : core.range.first ≤ core.range.end → length (free_owners core.range.end core.range.first) ≡ core.range.end
  length-free order =
      let before : List ℕ = replicate core.range.first 0xFFFFFFFF in
      let behind : List ℕ = replicate (core.range.end - core.range.first) 0 in
      let rest : length behind ≡ core.range.end - core.range.first = length-replicate (core.range.end - core.range.first) 0 in
      omega (arith, length-append before behind, length-before, rest, order)

  pub alone_owners : core.range.first ≤ core.range.end → free_owners core.range.end core.range.first ≡ owners_table core (survey core plain)
  alone_owners order =
      let owners : List ℕ = free_owners core.range.end core.range.first in
      let each : (i : ℕ) → i < length owners → get_or owners i 0 ≡ get_or (tabulated owner_here core.range.end) i 0 = λ i lt.
      let below : i < core.range.end = omega (arith, length-free order, lt) in
      let same : get_or owners i 0 ≡ owner_here i = elim (cases_lt i core.range.first) [
        | inl low ↦ free_below i low ∙ sym (owner_below i low)
        | inr high ↦ free_behind i high below ∙ sym (owner_behind i high)
      ] in
      same ∙ sym (tabulated-get owner_here core.range.end i 0 below) in
      ext_get_or 0 owners (tabulated owner_here core.range.end) (length-free order ∙ sym (tabulated-length owner_here core.range.end)) each
      ∙ ap (owners_table core) (sym alone)

-- ---- what the tables count

live_root : (inodes : ℕ) → 1 ≤ inodes → live_count (root_rows inodes) ≡ 1
live_root inodes some =
    let n : inodes + 1 ≡ suc (suc (inodes - 1)) = omega arith in
    let rows : ℕ → List (Option Row) = λ n. replicate n None in
    ap (λ (k : ℕ). live_count (slice_set (rows k) 1 (Some root_row))) n
    ∙ count_by-append is_some (None ∷ Some root_row ∷ []) (rows (inodes - 1))
    ∙ ap (λ (k : ℕ). 1 + k) (count_by-none is_some (inodes - 1) None refl)

owned_none : (pages first : ℕ) → owned_count (free_owners pages first) ≡ 0
owned_none pages first =
    count_by-append is_file (replicate first 0xFFFFFFFF) (replicate (pages - first) 0)
    ∙ rw (count_by-none is_file first 0xFFFFFFFF refl, count_by-none is_file (pages - first) 0 refl) refl

free_all : (pages first : ℕ) → free_count (free_owners pages first) ≡ pages - first
free_all pages first =
    let none : ℕ → Bool = λ owner. owner == 0 in
    omega (arith, count_by-append none (replicate first 0xFFFFFFFF) (replicate (pages - first) 0), count_by-none none first 0xFFFFFFFF refl, count_by-every none (pages - first) 0 refl)

-- ---- a new image

length-body : length (body_bytes empty_directory) ≡ 64
unfolding body_bytes
length-body = simp (length-zeros) refl

module _ (pages inodes : ℕ) (fits : Fits pages inodes) where
  abbrev s : Superblock
  s = new_superblock pages inodes

  abbrev rows : List (Option Row)
  rows = root_rows inodes

  abbrev owners : List ℕ
  owners = free_owners pages s.first_core

  abbrev behind : List (Option (List ℕ))
  behind = zero_pages (pages - s.first_core)

  abbrev stored : List (Option (List ℕ))
  stored = front_pages s rows owners ++ behind

  abbrev core : Core
  core = core_in s stored

  sizes_fit : IsTrue (superblock_fits s)
  sizes_fit =
      rw (le-leb 16 pages fits.some_pages, le-leb pages 8192 fits.few_pages, le-leb 16 inodes fits.some_inodes, le-leb inodes 16384 fits.few_inodes, eq-eqb s.first_owner s.first_owner refl, eq-eqb s.first_core s.first_core refl, lt-ltb s.first_core pages fits.core) refl

  rows_are : rows ≡ rows_table core (survey core plain)
  rows_are = alone_rows core refl (omega (arith, fits.some_inodes))

  owners_are : owners ≡ owners_table core (survey core plain)
  owners_are = alone_owners core refl (omega (arith, fits.core))

  laid : IsLaid s rows owners behind
  laid = record {
    fits = sizes_fit;
    root = length-body;
    many_rows = ap length rows_are ∙ tabulated-length (row_of core (survey core plain)) (inodes + 1);
    many_owners = ap length owners_are ∙ tabulated-length _ pages;
    many_pages = length-replicate (pages - s.first_core) (Some (zeros 4096));
  }

  pages_verify : PagesVerify s stored
  pages_verify = record {
    sound = alone_sound core refl;
    tables = subst (λ rs. StoresTables s stored rs (image_in s stored).owners) rows_are (subst (λ os. StoresTables s stored rows os) owners_are (laid_tables s rows owners behind laid));
  }

  zero_core : (p : ℕ) → s.first_core ≤ p → p < pages → HasPage stored p (zeros 4096)
  zero_core p le lt =
      let place : p ≡ s.first_core + (p - s.first_core) = omega arith in
      ap (λ (i : ℕ). get_or stored i None) place
      ∙ laid_core s rows owners behind laid (p - s.first_core)
      ∙ get_or-replicate (pages - s.first_core) (p - s.first_core) (Some (zeros 4096)) None (omega arith)

  pub new_count : length stored ≡ pages
  new_count = laid_count s rows owners behind laid

  pub new_tables : TablesAre s stored rows owners
  new_tables = record { rows_are = rows_are; owners_are = owners_are }

  pub counts_new : counts_of (image_in s stored) ≡ new_counts pages inodes
  counts_new =
      rw (← rows_are, ← owners_are) (rw (live_root inodes (omega (arith, fits.some_inodes)), owned_none pages s.first_core, free_all pages s.first_core) refl)

  module _ (shadow_full : FillsPages (shadow_bytes rows) (shadow_count rows)) (owner_full : FillsPages (owner_bytes owners) (owner_count owners)) where
    pub is_made : IsMade pages inodes s stored
    is_made =
        let whole : list_all is_whole_page behind ≡ true = replicate-all is_whole_page (pages - s.first_core) (Some (zeros 4096)) (eq-eqb (length (zeros 4096)) 4096 (length-zeros 4096)) in
        record {
          superblock = refl;
          files = alone core refl;
          core = zero_core;
          verified = record { whole = laid_whole s rows owners behind laid shadow_full owner_full whole; verify = pages_verify };
        }

-- a superblock, tables and pages that are a new image's
pub record IsNew (pages inodes : ℕ) (s : Superblock) (rows : List (Option Row)) (owners : List ℕ) (all : List (Option (List ℕ))) : Type 0 where
  pub count : length all ≡ pages
  pub made : IsMade pages inodes s all
  pub tables : TablesAre s all rows owners
  pub counts : counts_of (image_in s all) ≡ new_counts pages inodes

-- so are those that are laid out
pub is_new : (pages inodes : ℕ) → Fits pages inodes → (s : Superblock) (rows : List (Option Row)) (owners : List ℕ) (made : List (Option (List ℕ)))
    → s ≡ new_superblock pages inodes → rows ≡ root_rows inodes → owners ≡ free_owners pages s.first_core
    → made ≡ front_pages s rows owners ++ zero_pages (s.pages - s.first_core)
    → FillsPages (shadow_bytes rows) (shadow_count rows) → FillsPages (owner_bytes owners) (owner_count owners)
    → IsNew pages inodes s rows owners made
is_new pages inodes fits s rows owners made es er eo em shadow_full owner_full =
    let s' : Superblock = new_superblock pages inodes in
    let rows' : List (Option Row) = root_rows inodes in
    let owners' : List ℕ = free_owners pages s'.first_core in
    let N : Superblock → List (Option Row) → List ℕ → List (Option (List ℕ)) → Type 0 = λ s rows owners made. FillsPages (shadow_bytes rows) (shadow_count rows) → FillsPages (owner_bytes owners) (owner_count owners) → IsNew pages inodes s rows owners made in
    let there : owners ≡ owners' = eo ∙ ap (λ (x : Superblock). free_owners pages x.first_core) es in
    let laid_out : made ≡ front_pages s' rows' owners' ++ zero_pages (pages - s'.first_core) =
    em
    ∙ ap (λ (x : Superblock). front_pages x rows owners ++ zero_pages (x.pages - x.first_core)) es
    ∙ ap (λ (x : List (Option Row)). front_pages s' x owners ++ zero_pages (pages - s'.first_core)) er
    ∙ ap (λ (x : List ℕ). front_pages s' rows' x ++ zero_pages (pages - s'.first_core)) there in
    let base : N s' rows' owners' (front_pages s' rows' owners' ++ zero_pages (pages - s'.first_core)) = λ shadow owner. record {
      count = new_count pages inodes fits;
      made = is_made pages inodes fits shadow owner;
      tables = new_tables pages inodes fits;
      counts = counts_new pages inodes fits;
    } in
    subst (λ (x : Superblock). N x rows owners made) (sym es)
    (subst (λ (x : List (Option Row)). N s' x owners made) (sym er)
    (subst (λ (x : List ℕ). N s' rows' x made) (sym there)
    (subst (λ (x : List (Option (List ℕ))). N s' rows' owners' x) (sym laid_out) base))) shadow_full owner_full
