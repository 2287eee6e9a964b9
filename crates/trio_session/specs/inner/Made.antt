-- What a session keeps of the files that it made, and of the indexes of directories. Cited by its view and its invariant, and by private
-- functions alone.
use Rattle.std.specs.Prelude.{◌≡◌, ◌≢◌, ◌⊎◌, ℕ, ◌+◌, ◌-◌, ◌%◌, ◌<◌, ◌≤◌, ◌==◌, ◌&&◌, Bool, IsTrue, List, [], ◌++◌, map, length, min, slice_get, leb, ltb, vec_capacity, Option, None, Some}
use Rattle.std.specs.Global.{Vec}
use Rattle.std.specs.List.{filter}
use Rattle.std.specs.Option.{is_some, option_map}
use Rattle.trio_lists.specs.Lists.{In, are_new}
use Rattle.trio_page.specs.Field.{zeros}
use Rattle.trio_rights.specs.declared.kind.Kind.{Kind}
use Rattle.trio_rights.specs.declared.kind.Kind.TheVariants.{Directory}
use Rattle.trio_layout.specs.Chain.{index_count}
use Rattle.trio_layout.specs.Entries.{body_in_slot, slot_bytes}
use Rattle.trio_layout.specs.Slot.{slot_of}
use Rattle.trio_layout.specs.declared.slot.EntryPart.{EntryPart}
use Rattle.trio_lease.specs.Shown.{LentFile, Shown}
use Rattle.trio_lease.specs.declared.parts.FreshParts.{FreshParts}
use Rattle.trio_desk.specs.Out.{Parcel, file_numbers, ino_numbers}
use Rattle.trio_auxdir.specs.Slots.{slots_of}
use Rattle.trio_session.specs.Layout.{page_in, size_in}
use Rattle.trio_session.specs.Seen.{MadeFile, MayBeMade, SessionSeen, body_in, chain_in, entry_in, every_number, home_in, is_allotted, open_kind}
use Rattle.trio_session.specs.inner.Places.{AreApart, HasChain, IsFile, body_at, chain_at, home_at, number_at, sheet_at}
use Rattle.trio_session.specs.inner.Indexes.{AreRead, IsIndexed}
use Rattle.trio_session.specs.declared.indexes.IndexedDir.{IndexedDir}
use Rattle.trio_session.specs.declared.laid.FilePlace.{FilePlace}
use Rattle.trio_session.specs.declared.laid.FilePlace.TheVariants.{Leased, InSlot}
use Rattle.trio_session.specs.declared.laid.Laid.{Laid}
use Rattle.trio_session.specs.declared.laid.PagePlace.{PagePlace}
use Rattle.trio_session.specs.declared.made.Made.{Made}

-- its place
abbrev pub file_of : Made → FilePlace
file_of m = InSlot m.page m.slot

-- a made file as contracts see it
abbrev pub made_seen : Parcel → Made → MadeFile
made_seen b m = record { ino = m.ino; kind = m.kind; page = number_at b m.page; slot = m.slot; chain = chain_at b (file_of m) m.laid }

-- how many files may be made: each has a place among those that were made, and one among those whose slot is cleared
abbrev pub made_room : Vec Made → Vec Made → ℕ
made_room made cleared = min (vec_capacity made) (vec_capacity cleared - length cleared.items)

-- the index has a place for one block more, or for one name more
abbrev pub has_slots : IndexedDir → Bool
has_slots d = leb (length d.dir.slots + 16) d.dir.room.slots

abbrev pub has_names : IndexedDir → Bool
has_names d = ltb 0 d.dir.room.names

-- the directories of these indexes
abbrev pub dir_numbers : List IndexedDir → List ℕ
dir_numbers dirs = map (λ d. d.ino) dirs

-- ---- the files of a session

-- the files that are written or were made, also those whose slot is cleared
pub record Files : Type 0 where
  pub parcel : Parcel
  pub laid : List Laid
  pub made : List Made
  pub cleared : List Made

-- a file of the session: its place, its number and kind, and where its pages stand
pub record OneFile : Type 0 where
  pub file : FilePlace
  pub ino : ℕ
  pub kind : Kind
  pub laid : Laid

abbrev pub of_made : Made → OneFile
of_made m = record { file = file_of m; ino = m.ino; kind = m.kind; laid = m.laid }

abbrev pub of_written : ℕ → LentFile → Laid → OneFile
of_written at f l = record { file = Leased at; ino = f.stands.ino; kind = f.stands.kind; laid = l }

pub data IsOne (fs : Files) (x : OneFile) : Type 0 where
  Written : (at : ℕ) (f : LentFile) (l : Laid) → slice_get fs.parcel.writes at ≡ Some f → slice_get fs.laid at ≡ Some l → x ≡ of_written at f l → IsOne fs x
  WasMade : (m : Made) → In m (fs.made ++ fs.cleared) → x ≡ of_made m → IsOne fs x

-- the places of its allotted pages
abbrev pub fresh_places : Laid → List ℕ
fresh_places l = l.index_more.items ++ l.blocks_more.items

-- No allotted page stands at two places of files, and each is one of the first.
pub record AreSpread (placed : ℕ) (fs : Files) : Type 0 where
  pub once : (x : OneFile) → IsOne fs x → IsTrue (are_new [] (fresh_places x.laid))
  pub apart : (x y : OneFile) (at : ℕ) → IsOne fs x → IsOne fs y → In at (fresh_places x.laid) → In at (fresh_places y.laid) → x.ino ≡ y.ino
  pub below : (x : OneFile) (at : ℕ) → IsOne fs x → In at (fresh_places x.laid) → at < placed

-- The numbers of files that were made are allotted ones, all different, and none of a file that is lent; nor is a file lent for reading
-- and for writing.
pub record AreNumbered (reads : List Shown) (fs : Files) : Type 0 where
  pub allotted : (m : Made) → In m (fs.made ++ fs.cleared) → In m.ino (ino_numbers fs.parcel.inodes)
  pub once : IsTrue (are_new [] (map (λ m. m.ino) (fs.made ++ fs.cleared)))
  pub new : (m : Made) → In m (fs.made ++ fs.cleared) → In m.ino (file_numbers fs.parcel.writes ++ map (λ f. f.ino) reads) → ⊥
  pub read : (f : Shown) → In f reads → In f.ino (file_numbers fs.parcel.writes) → ⊥

-- a block of one of the session's directories has this number
pub record IsBlock (fs : Files) (n : ℕ) : Type 0 where
  pub dir : OneFile
  pub one : IsOne fs dir
  pub directory : dir.kind ≡ Directory
  pub block : In n (chain_at fs.parcel dir.file dir.laid).blocks

-- the entry in a slot of a page in hand
abbrev pub entry_at : Parcel → ℕ → ℕ → Option EntryPart
entry_at b page slot = entry_in (slot_of every_number (slot_bytes slot (page_in b page)))

-- A file that was made is in its slot: the slot is on a block of a directory and names the file, whose chain is as long as its body says.
pub record IsMade (fs : Files) (m : Made) : Type 0 where
  pub file : IsFile fs.parcel (file_of m) m.laid
  pub chain : HasChain fs.parcel (file_of m) m.laid
  pub home : IsBlock fs (number_at fs.parcel m.page)
  pub entry : option_map (λ e. e.ino) (entry_at fs.parcel (number_at fs.parcel m.page) m.slot) ≡ Some m.ino
  pub whole : m.kind ≡ Directory → size_in (body_at fs.parcel (file_of m)) % 4096 ≡ 0

-- a file whose slot was cleared has its pages still
pub record IsCleared (fs : Files) (m : Made) : Type 0 where
  pub file : IsFile fs.parcel (file_of m) m.laid
  pub chain : length (chain_at fs.parcel (file_of m) m.laid).index ≡ index_count (length (chain_at fs.parcel (file_of m) m.laid).blocks)

-- the pages that aren't put in place are zero
abbrev pub AreZero : ℕ → List FreshParts → Type 0
AreZero placed pages = (at : ℕ) (p : FreshParts) → placed ≤ at → slice_get pages at ≡ Some p → p.page ≡ zeros 4096

-- a written directory has whole blocks
abbrev pub AreWholeDirs : List LentFile → Type 0
AreWholeDirs files = (f : LentFile) → In f files → f.stands.kind ≡ Directory → size_in f.stands.body % 4096 ≡ 0

pub record AreMade (placed : ℕ) (reads : List Shown) (fs : Files) : Type 0 where
  pub apart : AreApart fs.parcel
  pub spread : AreSpread placed fs
  pub numbered : AreNumbered reads fs
  pub made : (m : Made) → In m fs.made → IsMade fs m
  pub cleared : (m : Made) → In m fs.cleared → IsCleared fs m
  pub zero : AreZero placed fs.parcel.pages
  pub whole : AreWholeDirs fs.parcel.writes

-- ---- indexes

-- the blocks of a file of the session, as they stand
abbrev pub pages_of : Parcel → OneFile → List (List ℕ)
pages_of b x = map (page_in b) (chain_at b x.file x.laid).blocks

-- it is the index of a directory that is written or was made
pub record IsIndexHere (fs : Files) (d : IndexedDir) : Type 0 where
  pub dir : OneFile
  pub one : IsOne fs dir
  pub number : dir.ino ≡ d.ino
  pub directory : dir.kind ≡ Directory
  pub inodes : d.dir.inodes ≡ every_number
  pub slots : d.dir.slots ≡ slots_of every_number (pages_of fs.parcel dir)

-- Each index is that of another directory, as it stands or as it was lent for reading; and a directory that has none yet is in the grammar.
pub record AreDirs (reads : List Shown) (fs : Files) (dirs : List IndexedDir) : Type 0 where
  pub once : IsTrue (are_new [] (dir_numbers dirs))
  pub indexed : (d : IndexedDir) → In d dirs → IsIndexHere fs d ⊎ IsIndexed reads d
  pub readable : (x : OneFile) → IsOne fs x → x.kind ≡ Directory → In x.ino (dir_numbers dirs) ⊎ AreRead (pages_of fs.parcel x)

-- ---- what private functions find

-- the file that a session has for writing, or made: where it stands, with its chain and its body, as the session shows them
pub record IsFileOn (s : SessionSeen) (ino : ℕ) (file : FilePlace) (l : Laid) : Type 0 where
  pub is_open : IsTrue (is_some (open_kind s ino))
  pub is_file : IsFile s.parcel file l
  pub chain : chain_at s.parcel file l ≡ chain_in s ino
  pub body : body_at s.parcel file ≡ body_in s ino
  pub home : home_at s.parcel file ≡ home_in s ino
  pub has : HasChain s.parcel file l

-- it is found, or there is none
abbrev pub FindsFile : SessionSeen → ℕ → Option (FilePlace × Laid) → Type 0
FindsFile s ino None = open_kind s ino ≡ None
FindsFile s ino (Some o) = IsFileOn s ino o.0 o.1

-- An allotted number that isn't in use stands in a slot of a block of a directory, with a body that says as many blocks as its chain has;
-- and there is a place for one file more.
pub record IsMadeAt (s : SessionSeen) (ino : ℕ) (kind : Kind) (page : PagePlace) (slot : ℕ) : Type 0 where
  pub allotted : IsTrue (is_allotted s ino)
  pub may : MayBeMade s ino kind (body_in_slot slot (page_in s.parcel (number_at s.parcel page)))
  pub there : IsTrue (is_some (sheet_at s.parcel page))
  pub below : slot < 16
  pub dir : ℕ
  pub is_open : open_kind s dir ≡ Some Directory
  pub home : In (number_at s.parcel page) (chain_in s dir).blocks
  pub entry : option_map (λ e. e.ino) (entry_at s.parcel (number_at s.parcel page) slot) ≡ Some ino
