-- One file among those that are written and those that were made, found by its number, and what an edit makes of it. Cited by private
-- functions alone.
use Rattle.std.specs.Prelude.{◌≡◌, ◌≢◌, ◌⊎◌, ℕ, ◌+◌, ◌-◌, ◌<◌, ◌≤◌, ◌++◌, ◌==◌, IsTrue, List, [], ◌∷◌, take, drop, length, slice_get, slice_set, Option, None, Some, Result, OnOk, replicate}
use Rattle.std.specs.List.{position, remove}
use Rattle.std.specs.Option.{is_some}
use Rattle.trio_lists.specs.Counting.{count_up}
use Rattle.trio_layout.specs.Body.{block_count}
use Rattle.trio_layout.specs.Chain.{index_count}
use Rattle.trio_desk.specs.Out.{Parcel, page_numbers}
use Rattle.trio_session.specs.Layout.{chain_cut, chain_grown, cut_file, grown_file, growth, new_index, size_in}
use Rattle.trio_session.specs.inner.Places.{HasChain, IsFile, IsWholeAt, body_at, chain_at, home_at, room_laid}
use Rattle.trio_session.specs.inner.Made.{file_of}
use Rattle.trio_session.specs.declared.laid.FilePlace.{FilePlace}
use Rattle.trio_session.specs.declared.laid.FilePlace.TheVariants.{Leased}
use Rattle.trio_session.specs.declared.laid.Laid.{Laid}
use Rattle.trio_rights.specs.declared.kind.Kind.{Kind}
use Rattle.trio_rights.specs.declared.kind.Kind.TheVariants.{Directory}
use Rattle.trio_session.specs.declared.made.Made.{Made}
use Rattle.trio_session.specs.declared.indexes.IndexedDir.{IndexedDir}
use Rattle.trio_auxdir.specs.Directory.{HasRoom, NoRoomLost}

-- the place of the file of this number, and where its pages stand: one that was made comes first
pub data FoundAt (b : Parcel) (ls : List Laid) (ms : List Made) (ino : ℕ) (file : FilePlace) (l : Laid) : Type 0 where
  AmongMade : (at : ℕ) (m : Made) → position (λ x. x.ino == ino) ms ≡ Some at → slice_get ms at ≡ Some m → file ≡ file_of m → l ≡ m.laid
      → FoundAt b ls ms ino file l
  AmongWritten : (at : ℕ) → position (λ x. x.ino == ino) ms ≡ None → position (λ f. f.stands.ino == ino) b.writes ≡ Some at
      → slice_get ls at ≡ Some l → file ≡ Leased at → FoundAt b ls ms ino file l

-- there is none
pub record IsNowhere (b : Parcel) (ms : List Made) (ino : ℕ) : Type 0 where
  pub made : position (λ x. x.ino == ino) ms ≡ None
  pub written : position (λ f. f.stands.ino == ino) b.writes ≡ None

-- it is found, or there is none
abbrev pub Finds : Parcel → List Laid → List Made → ℕ → Option (FilePlace × Laid) → Type 0
Finds b ls ms ino None = IsNowhere b ms ino
Finds b ls ms ino (Some o) = FoundAt b ls ms ino o.0 o.1

-- there is one
abbrev pub IsThere : Parcel → List Made → ℕ → Type 0
IsThere b ms ino = IsTrue (is_some (position (λ x. x.ino == ino) ms)) ⊎ IsTrue (is_some (position (λ f. f.stands.ino == ino) b.writes))

-- after an edit this file is laid anew, and all others are as they were
pub data IsRelaid (done : FilePlace → Laid → Laid → Type 0) (b : Parcel) (ls : List Laid) (ms : List Made) (ino : ℕ) (ls' : List Laid) (ms' : List Made) : Type 0 where
  MadeAnew : (at : ℕ) (m : Made) (l' : Laid) → position (λ x. x.ino == ino) ms ≡ Some at → slice_get ms at ≡ Some m → done (file_of m) m.laid l'
      → ls' ≡ ls → ms' ≡ slice_set ms at (record m { laid = l' }) → IsRelaid done b ls ms ino ls' ms'
  WrittenAnew : (at : ℕ) (l l' : Laid) → position (λ x. x.ino == ino) ms ≡ None → position (λ f. f.stands.ino == ino) b.writes ≡ Some at
      → slice_get ls at ≡ Some l → done (Leased at) l l' → ls' ≡ slice_set ls at l' → ms' ≡ ms → IsRelaid done b ls ms ino ls' ms'

-- ---- a growth

-- a file at a place may grow to a size, by the allotted pages from a place on
pub record MayGrowAt (b : Parcel) (size from : ℕ) (file : FilePlace) (l : Laid) : Type 0 where
  pub laid : IsFile b file l
  pub has : HasChain b file l
  pub more : size_in (body_at b file) ≤ size
  pub pages : from + growth (length (chain_at b file l).blocks) (block_count size) ≤ length b.pages
  pub room : block_count size ≤ room_laid l

-- the pages that it takes
abbrev pub taken_from : Parcel → ℕ → ℕ → FilePlace → Laid → List ℕ
taken_from b size from file l = take (growth (length (chain_at b file l).blocks) (block_count size)) (drop from (page_numbers b.pages))

-- and what it makes of the file
pub record GrowDone (b b' : Parcel) (size from next : ℕ) (file : FilePlace) (l l' : Laid) : Type 0 where
  pub edit : b' ≡ grown_file (home_at b file) (chain_at b file l) (body_at b file) size (taken_from b size from file l) b
  pub chain : chain_at b' file l' ≡ chain_grown (chain_at b file l) (block_count size) (taken_from b size from file l)
  pub laid : IsFile b' file l'
  pub has : HasChain b' file l'
  pub sized : size_in (body_at b' file) ≡ size
  pub full : length (body_at b file) ≡ 64
  pub whole : IsWholeAt b file
  pub ends : next ≡ from + growth (length (chain_at b file l).blocks) (block_count size)
  pub index : l'.index_more.items ≡ l.index_more.items ++ count_up from (new_index (length (chain_at b file l).blocks) (block_count size))
  pub blocks : l'.blocks_more.items ≡ l.blocks_more.items
      ++ count_up (from + new_index (length (chain_at b file l).blocks) (block_count size)) (block_count size - length (chain_at b file l).blocks)
  pub others : (i : ℕ) → Leased i ≢ file → body_at b' (Leased i) ≡ body_at b (Leased i)

-- ---- a cut

-- what a cut to a size makes of a file at a place
pub record CutDone (b b' : Parcel) (size : ℕ) (file : FilePlace) (l l' : Laid) : Type 0 where
  pub edit : b' ≡ cut_file (home_at b file) (chain_at b file l) (body_at b file) size b
  pub chain : chain_at b' file l' ≡ chain_cut (chain_at b file l) (block_count size)
  pub laid : IsFile b' file l'
  pub has : HasChain b' file l'
  pub sized : size_in (body_at b' file) ≡ size
  pub full : length (body_at b file) ≡ 64
  pub whole : IsWholeAt b file
  pub index : l'.index_more.items ≡ take (index_count (block_count size) - l.index_kept) l.index_more.items
  pub blocks : l'.blocks_more.items ≡ take (block_count size - l.blocks_kept) l.blocks_more.items
  pub others : (i : ℕ) → Leased i ≢ file → body_at b' (Leased i) ≡ body_at b (Leased i)

-- what may be cut
pub record MayCutAt (b : Parcel) (size : ℕ) (file : FilePlace) (l : Laid) : Type 0 where
  pub laid : IsFile b file l
  pub has : HasChain b file l
  pub less : size ≤ size_in (body_at b file)

-- ---- room

-- the same places, and no less room; with it that which was asked
pub record Roomier {E : Type 0} (blocks : ℕ) (result : Result Unit E) (file : FilePlace) (l l' : Laid) : Type 0 where
  pub index_kept : l'.index_kept ≡ l.index_kept
  pub blocks_kept : l'.blocks_kept ≡ l.blocks_kept
  pub index : l'.index_more.items ≡ l.index_more.items
  pub blocks_more : l'.blocks_more.items ≡ l.blocks_more.items
  pub more : room_laid l ≤ room_laid l'
  pub room : OnOk result (blocks ≤ room_laid l')

-- the same index, and no less room; with it a place for one block and one name more
pub record RoomierDir {E : Type 0} (result : Result Unit E) (d d' : IndexedDir) : Type 0 where
  pub ino : d'.ino ≡ d.ino
  pub inodes : d'.dir.inodes ≡ d.dir.inodes
  pub slots : d'.dir.slots ≡ d.dir.slots
  pub more : NoRoomLost d.dir.room d'.dir.room
  pub room : OnOk result (HasRoom d'.dir)

-- the index of this number, if there is one, has more room
pub data IsRoomier {E : Type 0} (result : Result Unit E) (ds : List IndexedDir) (ino : ℕ) (ds' : List IndexedDir) : Type 0 where
  NoIndex : position (λ d. d.ino == ino) ds ≡ None → ds' ≡ ds → IsRoomier result ds ino ds'
  AnIndex : (at : ℕ) (d d' : IndexedDir) → position (λ x. x.ino == ino) ds ≡ Some at → slice_get ds at ≡ Some d → RoomierDir result d d' → ds' ≡ slice_set ds at d'
      → IsRoomier result ds ino ds'

-- no page is laid
pub record IsBlank (l : Laid) : Type 0 where
  pub index_kept : l.index_kept ≡ 0
  pub blocks_kept : l.blocks_kept ≡ 0
  pub index : l.index_more.items ≡ []
  pub blocks : l.blocks_more.items ≡ []

-- the pages of a file that is cleared, which is then none of these any more; or none
pub data TakesLaid (cs : List Made) (ino : ℕ) (l : Laid) (cs' : List Made) : Type 0 where
  Kept : (at : ℕ) (m : Made) → position (λ x. x.ino == ino) cs ≡ Some at → slice_get cs at ≡ Some m → l ≡ m.laid → cs' ≡ remove cs at → TakesLaid cs ino l cs'
  Fresh : position (λ x. x.ino == ino) cs ≡ None → l.index_kept ≡ 0 → l.blocks_kept ≡ 0 → l.index_more.items ≡ [] → l.blocks_more.items ≡ [] → cs' ≡ cs → TakesLaid cs ino l cs'

-- the index of this number is told of one block more, where the file is a directory that has got one
pub record ToldBlock (d d' : IndexedDir) : Type 0 where
  pub ino : d'.ino ≡ d.ino
  pub grown : d'.dir ≡ record d.dir { slots = d.dir.slots ++ replicate 16 None }

pub data TellsGrowth (kind : Kind) (more : ℕ) (ds : List IndexedDir) (ino : ℕ) (ds' : List IndexedDir) : Type 0 where
  Untold : (kind ≡ Directory → more ≡ 0) → ds' ≡ ds → TellsGrowth kind more ds ino ds'
  ToldGrowth : kind ≡ Directory → 0 < more → (at : ℕ) (d d' : IndexedDir) → position (λ x. x.ino == ino) ds ≡ Some at → slice_get ds at ≡ Some d → ToldBlock d d' → ds' ≡ slice_set ds at d'
      → TellsGrowth kind more ds ino ds'

-- a file that was made is none of these any more, but one whose slot is cleared; if it is one
pub data RemovesMade (ms cs : List Made) (ino : ℕ) (ms' cs' : List Made) : Type 0 where
  Removed : (at : ℕ) (m : Made) → position (λ x. x.ino == ino) ms ≡ Some at → slice_get ms at ≡ Some m → ms' ≡ remove ms at → cs' ≡ cs ++ m ∷ [] → RemovesMade ms cs ino ms' cs'
  NotMade : position (λ x. x.ino == ino) ms ≡ None → ms' ≡ ms → cs' ≡ cs → RemovesMade ms cs ino ms' cs'
