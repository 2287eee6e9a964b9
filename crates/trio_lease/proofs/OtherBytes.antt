-- A bundle with other bytes in one of its pages: all else that it has is the same.
use Rattle.trio_lease.proofs.Words.{◌∙◌, ◌∷◌, ◌≡◌, LentFile, LentPage, List, None, Option, PageNo, Some, [], ap, lent_at, map, refl, slice_get, slice_set, suc, true, with_touched, zero, ℕ}
use Rattle.std.specs.Option.{option_map_or}
use Rattle.trio_lease.specs.Bundles.{Bundled}
use Rattle.trio_lease.specs.Places.{changed_at, place_in, with_block, with_bytes, with_bytes_at, with_index}
use Rattle.trio_lease.specs.Shown.{with_page}
use Rattle.trio_lease.specs.declared.bundle.PagePlace.{PagePlace}
use Rattle.trio_lease.specs.declared.bundle.PagePlace.TheVariants.{Index, Block, Fresh}
use Rattle.trio_lease.specs.declared.parts.FreshParts.{FreshParts}

-- ---- an element changed in what isn't asked for

changed-more : {X Y : Type 0} (g : X → Y) (change : X → X) (x : X) (xs : List X) (i : ℕ) (o : Option X) → map g (option_map_or (λ y. x ∷ slice_set xs i (change y)) o (x ∷ xs)) ≡ g x ∷ map g (option_map_or (λ y. slice_set xs i (change y)) o xs)
changed-more g change x xs i None = refl
changed-more g change x xs i (Some y) = refl

changed-map : {X Y : Type 0} (g : X → Y) (change : X → X) → ((x : X) → g (change x) ≡ g x) → (xs : List X) (i : ℕ) → map g (changed_at change i xs) ≡ map g xs
changed-map g change same [] i = refl
changed-map g change same (x ∷ xs) zero = ap (λ y. y ∷ map g xs) (same x)
changed-map g change same (x ∷ xs) (suc i) =
    changed-more g change x xs i (slice_get xs i) ∙ ap (λ ys. g x ∷ ys) (changed-map g change same xs i)

set-map : {Y : Type 0} (v : LentPage → Y) (pages : List LentPage) (i : ℕ) (p : LentPage) → v p ≡ v (lent_at pages i) → map v (slice_set pages i p) ≡ map v pages
set-map v [] i p h = refl
set-map v (q ∷ qs) zero p h = ap (λ y. y ∷ map v qs) h
set-map v (q ∷ qs) (suc i) p h = ap (λ ys. v q ∷ ys) (set-map v qs i p h)

-- ---- what is the same

-- of the pages of a file, what doesn't speak of bytes and marks
module _ {Y : Type 0} (v : LentPage → Y) (same : (p : LentPage) (bytes : List ℕ) → (v (record p { page = bytes }) ≡ v p) × (v (record p { page = bytes; touched = true }) ≡ v p)) (pages : List LentPage) (at : ℕ) (bytes : List ℕ) where
  pub page_map : map v (with_page pages at bytes) ≡ map v pages
  page_map = set-map v pages at (record (lent_at pages at) { page = bytes }) (same (lent_at pages at) bytes).0

  pub touched_map : map v (with_touched pages at bytes) ≡ map v pages
  touched_map = set-map v pages at (record (lent_at pages at) { page = bytes; touched = true }) (same (lent_at pages at) bytes).1

-- of the write leases, what is the same of a file with other bytes in an index page or a block
module _ {Y : Type 0} (g : LentFile → Y) (index : (f : LentFile) (at : ℕ) (bytes : List ℕ) → g (with_index at bytes f) ≡ g f) (block : (f : LentFile) (at : ℕ) (bytes : List ℕ) → g (with_block at bytes f) ≡ g f) (b : Bundled) (no : PageNo) (bytes : List ℕ) where
  writes_at : (o : Option PagePlace) → map g (option_map_or (λ place. with_bytes_at b place bytes) o b).writes ≡ map g b.writes
  writes_at None = refl
  writes_at (Some (Index file at)) = changed-map g (with_index at bytes) (λ f. index f at bytes) b.writes file
  writes_at (Some (Block file at)) = changed-map g (with_block at bytes) (λ f. block f at bytes) b.writes file
  writes_at (Some (Fresh at)) = refl

  pub writes_same : map g (with_bytes b no bytes).writes ≡ map g b.writes
  writes_same = writes_at (place_in b no)

module _ (b : Bundled) (no : PageNo) (bytes : List ℕ) where
  pages_at : (o : Option PagePlace) → map (λ (p : FreshParts). p.no.0) (option_map_or (λ place. with_bytes_at b place bytes) o b).pages ≡ map (λ (p : FreshParts). p.no.0) b.pages
  pages_at None = refl
  pages_at (Some (Index file at)) = refl
  pages_at (Some (Block file at)) = refl
  pages_at (Some (Fresh at)) = changed-map (λ (p : FreshParts). p.no.0) (λ (p : FreshParts). record p { page = bytes }) (λ p. refl) b.pages at

  -- the numbers of the allotted pages
  pub pages_same : map (λ (p : FreshParts). p.no.0) (with_bytes b no bytes).pages ≡ map (λ (p : FreshParts). p.no.0) b.pages
  pages_same = pages_at (place_in b no)

  rest_at : (o : Option PagePlace) → ((option_map_or (λ place. with_bytes_at b place bytes) o b).holds ≡ b.holds) × ((option_map_or (λ place. with_bytes_at b place bytes) o b).inodes ≡ b.inodes)
  rest_at None = (refl, refl)
  rest_at (Some (Index file at)) = (refl, refl)
  rest_at (Some (Block file at)) = (refl, refl)
  rest_at (Some (Fresh at)) = (refl, refl)

  -- the holds and the inode numbers
  pub rest_same : ((with_bytes b no bytes).holds ≡ b.holds) × ((with_bytes b no bytes).inodes ≡ b.inodes)
  rest_same = rest_at (place_in b no)
