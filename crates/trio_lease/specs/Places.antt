-- Where the pages of a bundle stand, by their numbers in the image.
use Rattle.std.specs.Prelude.{ℕ, ◌+◌, ◌==◌, List, [], ◌∷◌, Option, None, slice_get, slice_set}
use Rattle.std.specs.List.{position}
use Rattle.std.specs.Option.{option_map, option_map_or, option_and_then, option_or}
use Rattle.trio_page.specs.declared.page.PageNo.{PageNo}
use Rattle.trio_lease.specs.declared.bundle.PagePlace.{PagePlace}
use Rattle.trio_lease.specs.declared.bundle.PagePlace.TheVariants.{Index, Block, Fresh}
use Rattle.trio_lease.specs.declared.parts.LentPage.{LentPage}
use Rattle.trio_lease.specs.Shown.{Shown, LentFile, page_at, with_page, with_touched}
use Rattle.trio_lease.specs.Bundles.{Bundled}

-- the place of the first page of this number in a list of lent pages; None where none has it
abbrev pub place_among : List LentPage → PageNo → Option ℕ
place_among pages number = position (λ p. p.no.0 == number.0) pages

-- the same in write lease `file`: among its index pages, else among its blocks
abbrev pub place_in_file : ℕ → Shown → PageNo → Option PagePlace
place_in_file file f number = option_or (option_map (Index file) (place_among f.index number)) (option_map (Block file) (place_among f.blocks number))

-- the same in these write leases, of which the first is number `file`
abbrev pub place_in_files : ℕ → List LentFile → PageNo → Option PagePlace
place_in_files file [] number = None
place_in_files file (f ∷ fs) number = option_or (place_in_file file f.stands number) (place_in_files (file + 1) fs number)

-- the same in a bundle: in its write leases, else among its allotted pages
abbrev pub place_in : Bundled → PageNo → Option PagePlace
place_in b number = option_or (place_in_files 0 b.writes number) (option_map Fresh (position (λ p. p.no.0 == number.0) b.pages))

-- the bytes of the page at a place; None where there is none
abbrev pub bytes_at : Bundled → PagePlace → Option (List ℕ)
bytes_at b (Index file at) = option_and_then (λ f. page_at f.stands.index at) (slice_get b.writes file)
bytes_at b (Block file at) = option_and_then (λ f. page_at f.stands.blocks at) (slice_get b.writes file)
bytes_at b (Fresh at) = option_map (λ p. p.page) (slice_get b.pages at)

-- the bytes of the page of this number; None where the bundle has none
abbrev pub bytes_of : Bundled → PageNo → Option (List ℕ)
bytes_of b number = option_and_then (bytes_at b) (place_in b number)

-- the list with the element at a place changed; the same list past its end
abbrev pub changed_at : {X : Type 0} → (X → X) → ℕ → List X → List X
changed_at f i xs = option_map_or (λ x. slice_set xs i (f x)) (slice_get xs i) xs

-- the file with other bytes in an index page
abbrev pub with_index : ℕ → List ℕ → LentFile → LentFile
with_index at bytes f = record f { stands = record f.stands { index = with_page f.stands.index at bytes } }

-- the file with other bytes in a block, which is then marked as touched
abbrev pub with_block : ℕ → List ℕ → LentFile → LentFile
with_block at bytes f = record f { stands = record f.stands { blocks = with_touched f.stands.blocks at bytes } }

-- the bundle with other bytes in the page at a place, a block then marked as touched
abbrev pub with_bytes_at : Bundled → PagePlace → List ℕ → Bundled
with_bytes_at b (Index file at) bytes = record b { writes = changed_at (with_index at bytes) file b.writes }
with_bytes_at b (Block file at) bytes = record b { writes = changed_at (with_block at bytes) file b.writes }
with_bytes_at b (Fresh at) bytes = record b { pages = changed_at (λ p. record p { page = bytes }) at b.pages }

-- the same in the page of this number; the bundle as it is where it has none
abbrev pub with_bytes : Bundled → PageNo → List ℕ → Bundled
with_bytes b number bytes = option_map_or (λ place. with_bytes_at b place bytes) (place_in b number) b
