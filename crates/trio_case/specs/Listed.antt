-- What contracts see of a listing.
use Rattle.std.specs.Prelude.{ℕ, List, []}
use Rattle.std.specs.List.{flat_map}
use Rattle.trio_layout.specs.Listing.{Listing, ListedEntry}
use Rattle.trio_case.specs.declared.listing.ListedEntry.{ListedEntry as EntryData}
use Rattle.trio_case.specs.declared.listing.ListingRoom.{ListingRoom}

-- the listing, and how much it has places for
pub record Listed : Type 0 where
  pub listing : Listing
  pub room : ListingRoom

-- an entry, in the words of the rules
abbrev pub entry_seen : EntryData → ListedEntry
entry_seen e = record { ino = e.ino; kind = e.kind; dir = e.dir; page = e.page; slot = e.slot; kept = e.kept }

-- nothing is held, no file is judged
abbrev pub no_listing : Listing
no_listing = record { held = []; files = []; entries = [] }

-- the index pages of all judged files, one file after another
abbrev pub index_listed : Listing → List ℕ
index_listed l = flat_map (λ f. f.index) l.files

-- the blocks of all judged files, one file after another
abbrev pub blocks_listed : Listing → List ℕ
blocks_listed l = flat_map (λ f. f.blocks) l.files
