-- What a listing must be for its bundle to be put in place.
use Rattle.std.specs.Prelude.{◌≡◌, ◌<◌, ℕ, List, ◌++◌, length, map, slice_index}
use Rattle.std.specs.List.{flat_map}
use Rattle.trio_lists.specs.Lists.{In, is_among}
use Rattle.trio_rights.specs.Bundle.{Bundle}
use Rattle.trio_rights.specs.Sheets.{sheet_numbers}
use Rattle.trio_layout.specs.Listing.{Listing, ListedFile, ListedEntry}
use Rattle.trio_layout.specs.Edges.{has_file}

-- its numbers are those of a table of so many places, 0 counted in, and no entry names the root
pub record HasNumbersBelow (numbers : ℕ) (l : Listing) : Type 0 where
  pub held : (n : ℕ) → In n l.held → (0 < n) × (n < numbers)
  pub files : (f : ListedFile) → In f l.files → (0 < f.ino) × (f.ino < numbers)
  pub entries : (e : ListedEntry) → In e l.entries → (1 < e.ino) × (e.ino < numbers)

-- each entry stands in a slot of a directory page
abbrev pub StandsInSlots : List ListedEntry → Type 0
StandsInSlots entries = (e : ListedEntry) → In e entries → e.slot < 16

-- the pages that its files list are below this number
abbrev pub HasPagesBelow : ℕ → Listing → Type 0
HasPagesBelow pages l = (f : ListedFile) (page : ℕ) → In f l.files → In page (f.index ++ f.blocks) → page < pages

-- the pages of the written files
abbrev pub written_pages : Bundle → List ℕ
written_pages b = sheet_numbers (flat_map (λ w. w.index ++ w.blocks) b.writes)

-- the pages that the table of owners gives to judged files are just those of the written files' leases
abbrev pub OwnersAreHanded : Listing → List ℕ → Bundle → Type 0
OwnersAreHanded l owners b =
    (page : ℕ) → page < length owners → has_file l (slice_index owners page) ≡ is_among page (written_pages b)

-- the numbers of the judged files
abbrev pub file_numbers : Listing → List ℕ
file_numbers l = map (λ f. f.ino) l.files
