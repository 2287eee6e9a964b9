-- What a session's edits of files come to, written or made, and what it reads of them.
use Rattle.std.specs.Prelude.{◌≡◌, ◌≢◌, Bool, false, ℕ, ◌+◌, ◌<◌, ◌≤◌, List, ◌++◌, length, replicate, Option, None, Some}
use Rattle.std.specs.Option.{option_map}
use Rattle.trio_page.specs.Field.{zeros}
use Rattle.trio_rights.specs.Row.{Row}
use Rattle.trio_rights.specs.declared.kind.Kind.{Kind}
use Rattle.trio_rights.specs.ByKind.{is_directory}
use Rattle.trio_lists.specs.Lists.{In}
use Rattle.trio_layout.specs.Body.{block_count}
use Rattle.trio_auxdir.specs.declared.place.Place.{Place}
use Rattle.trio_nodes.specs.Nodes.{Nodes, node_at}
use Rattle.trio_nodes.specs.Apply.{largest_size, put_at, resized}
use Rattle.trio_desk.specs.Agrees.{HasRights}
use Rattle.trio_desk.specs.Call.{DeskSeen}
use Rattle.trio_desk.specs.Contents.{AreWithinLimits, rights_in}
use Rattle.trio_desk.specs.Ready.{ArePossible}
use Rattle.trio_desk.specs.Edits.{MayShow}
use Rattle.trio_laws.specs.session.Takes.{Becomes}
use Rattle.trio_laws.specs.session.FileEdits.{with_content, with_guarded}
use Rattle.trio_edit_laws.specs.session.Listed.{listed_in_hand}
use Rattle.trio_session.specs.Layout.{growth, page_in, size_in}
use Rattle.trio_session.specs.Seen.{SessionSeen, IsOpenDir, IsOpenFile, body_in, chain_in, cut, entry_shown, grown, in_hand, open_kind, put, set_guard, slots_shown, spare_numbers, spare_pages}
use Rattle.trio_edit_laws.specs.Written.{MayEdit, bytes_in, chained}

-- An edit of one file leaves this of all else: which files are open, of every other its chain, its body, its slots and their entries; the
-- numbers that are spare, what is held and what is read, and which directories have their index.
pub record LeavesOthers (s s' : SessionSeen) (ino : ℕ) : Type 0 where
  pub opens : (n : ℕ) → open_kind s' n ≡ open_kind s n
  pub chains : (n : ℕ) → n ≢ ino → chain_in s' n ≡ chain_in s n
  pub bodies : (n : ℕ) → n ≢ ino → body_in s' n ≡ body_in s n
  pub slots : (n : ℕ) → n ≢ ino → slots_shown s' n ≡ slots_shown s n
  pub entries : (n : ℕ) (place : Place) → n ≢ ino → entry_shown s' n place ≡ entry_shown s n place
  pub numbers : spare_numbers s' ≡ spare_numbers s
  pub inodes : s'.parcel.inodes ≡ s.parcel.inodes
  pub holds : s'.parcel.holds ≡ s.parcel.holds
  pub reads : s'.reads ≡ s.reads
  pub indexed : s'.indexed ≡ s.indexed

-- By an edit a regular file gets these bytes: of the nodes that are shown it alone changes, and so it reads; and the session may go on.
pub record GetsBytes (desk : DeskSeen) (s s' : SessionSeen) (ino : ℕ) (new : List ℕ) : Type 0 where
  pub becomes : Becomes desk (in_hand s) (in_hand s') (with_content ino new)
  pub may : MayEdit desk s'
  pub writable : IsOpenFile s' ino
  pub bytes : bytes_in s' ino ≡ new
  pub size : size_in (body_in s' ino) ≡ length new
  pub others : LeavesOthers s s' ino

-- Bytes are put within the size of a file.
abbrev pub PutShows : Type 0
PutShows =
    (desk : DeskSeen) (s : SessionSeen) (ino at : ℕ) (new : List ℕ)
    → MayEdit desk s → IsOpenFile s ino → at + length new ≤ size_in (body_in s ino)
    → GetsBytes desk s (put ino at new s) ino (put_at at new (bytes_in s ino))

-- a page is all zero, and none that a file lists: it stands in no chain, and no file in hand lists it, as long as any nodes are possible
pub record IsSpare (desk : DeskSeen) (s : SessionSeen) (page : ℕ) : Type 0 where
  pub zero : page_in s.parcel page ≡ zeros 4096
  pub unchained : In page (chained s) → ⊥
  pub unlisted :
      (nodes : Nodes) (rows : List (Option Row)) → ArePossible desk s.parcel s.reads nodes rows
      → In page (listed_in_hand desk (in_hand s)) → ⊥

-- the pages that are not in place yet are such
abbrev pub AreSpare : DeskSeen → SessionSeen → Type 0
AreSpare desk s = (n : ℕ) → In n (spare_pages s) → IsSpare desk s n

-- A file grows by the pages that are spare.
abbrev pub GrowShows : Type 0
GrowShows =
    (desk : DeskSeen) (s : SessionSeen) (ino size : ℕ)
    → AreWithinLimits desk.sizes → MayEdit desk s → AreSpare desk s → IsOpenFile s ino
    → size_in (body_in s ino) ≤ size → size ≤ largest_size
    → growth (length (chain_in s ino).blocks) (block_count size) ≤ length (spare_pages s)
    → GetsBytes desk s (grown ino size s) ino (resized size (bytes_in s ino))

-- A file is cut.
abbrev pub CutShows : Type 0
CutShows =
    (desk : DeskSeen) (s : SessionSeen) (ino size : ℕ)
    → MayEdit desk s → IsOpenFile s ino → size ≤ size_in (body_in s ino)
    → GetsBytes desk s (cut ino size s) ino (resized size (bytes_in s ino))

-- By an edit a regular file gets this guard: of the nodes that are shown it alone changes; it reads as before, and the session may go on.
pub record GetsGuard (desk : DeskSeen) (s s' : SessionSeen) (ino : ℕ) (on : Bool) : Type 0 where
  pub becomes : Becomes desk (in_hand s) (in_hand s') (with_guarded ino on)
  pub may : MayEdit desk s'
  pub writable : IsOpenFile s' ino
  pub bytes : bytes_in s' ino ≡ bytes_in s ino
  pub others : LeavesOthers s s' ino

-- The guard of a file is set.
abbrev pub GuardShows : Type 0
GuardShows =
    (desk : DeskSeen) (s : SessionSeen) (ino : ℕ) (on : Bool)
    → MayEdit desk s → IsOpenFile s ino → GetsGuard desk s (set_guard ino on s) ino on

-- A file that is open, and no directory, has, as a node that is shown, the rights of its body and the bytes that the session reads.
abbrev pub SeesBytes : Type 0
SeesBytes =
    (desk : DeskSeen) (s : SessionSeen) (ino : ℕ) (kind : Kind) (nodes nodes' : Nodes) (rows : List (Option Row))
    → MayEdit desk s → open_kind s ino ≡ Some kind → is_directory kind ≡ false → MayShow desk (in_hand s) (in_hand s) nodes nodes' rows
    → HasRights (rights_in kind (body_in s ino)) (node_at nodes' ino)
    × (option_map (λ x. x.bytes) (node_at nodes' ino) ≡ Some (bytes_in s ino))
    × (length (bytes_in s ino) ≡ size_in (body_in s ino))

-- ---- directories

-- A directory has 16 empty slots more, behind those that it had, and shows the same nodes; the session may go on, with the pages that are
-- spare still. All else is as it was.
pub record GetsSlots (desk : DeskSeen) (s s' : SessionSeen) (dir : ℕ) : Type 0 where
  pub becomes : Becomes desk (in_hand s) (in_hand s') (λ nodes. nodes)
  pub may : MayEdit desk s'
  pub spare : AreSpare desk s'
  pub opens : IsOpenDir s' dir
  pub slots : slots_shown s' dir ≡ slots_shown s dir ++ replicate 16 None
  pub entries :
      (place : Place) → place.block < length (chain_in s dir).blocks → entry_shown s' dir place ≡ entry_shown s dir place
  pub others : LeavesOthers s s' dir

-- So it is where a directory grows by a block.
abbrev pub GrowDirShows : Type 0
GrowDirShows =
    (desk : DeskSeen) (s : SessionSeen) (dir : ℕ)
    → let size = size_in (body_in s dir) + 4096 in
    AreWithinLimits desk.sizes → MayEdit desk s → AreSpare desk s → IsOpenDir s dir
    → growth (length (chain_in s dir).blocks) (block_count size) ≤ length (spare_pages s)
    → GetsSlots desk s (grown dir size s) dir
