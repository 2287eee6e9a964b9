-- What a file reads, by its index pages and its blocks: what stays of a chain that grows or is cut, and of bytes that are put.
use Rattle.std.specs.Prelude.{◌≡◌, false, ℕ, suc, ◌-◌, ◌*◌, ◌<◌, ◌≤◌, ◌==◌, min, List, [], ◌++◌, length, take, drop, slice_index_or, Some, is_some, Ok, IsTrue}
use Rattle.trio_rights.specs.ByKind.{is_directory}
use Rattle.trio_lists.specs.Lists.{In, are_new}
use Rattle.trio_layout.specs.declared.body.Body.{Body}
use Rattle.trio_layout.specs.Body.{block_count, body_of}
use Rattle.trio_layout.specs.Chain.{index_count}
use Rattle.trio_layout.specs.Core.{Core, page_of}
use Rattle.trio_layout.specs.Index.{index_of}
use Rattle.trio_layout.specs.Survey.{FileRead, Met}
use Rattle.trio_layout.specs.Within.{file_within}
use Rattle.trio_desk.specs.Shows.{pages_bytes}

-- ---- index pages

-- Index page k of a chain of these index pages and blocks is there, and names its share of the blocks and the next index page.
pub record NamesShare (core : Core) (index blocks : List ℕ) (k : ℕ) : Type 0 where
  pub bytes : List ℕ
  pub there : page_of core (slice_index_or index k 0) ≡ Some bytes
  pub names :
      index_of (min (length blocks - 511 * k) 511) (suc k == length index) core.range bytes
      ≡ Some (record { numbers = take 511 (drop (511 * k) blocks); next = slice_index_or index (suc k) 0 })

-- So does each of them, and there are as many as the blocks want.
pub record IsNamed (core : Core) (index blocks : List ℕ) : Type 0 where
  pub many : length index ≡ index_count (length blocks)
  pub each : (k : ℕ) → k < length index → NamesShare core index blocks k

-- A file that is no directory, of these index pages and blocks, reads so.
abbrev pub ReadsNamed : Type 0
ReadsNamed =
    (core : Core) (m : Met) (body : Body) (index blocks : List ℕ)
    → is_directory m.kind ≡ false → body_of m.kind core.range m.body ≡ Some body
    → block_count body.size ≡ length blocks → body.head ≡ slice_index_or index 0 0 → IsNamed core index blocks
    → file_within core m ≡ Ok (record { body = body; chain = record { index = index; blocks = blocks }; entries = [] })

-- And a file that reads, whose index pages are all there, is of such.
abbrev pub NamedReads : Type 0
NamedReads =
    (core : Core) (m : Met) (f : FileRead)
    → file_within core m ≡ Ok f → ((page : ℕ) → In page f.chain.index → IsTrue (is_some (page_of core page)))
    → IsNamed core f.chain.index f.chain.blocks
    × (block_count f.body.size ≡ length f.chain.blocks) × (f.body.head ≡ slice_index_or f.chain.index 0 0)

-- An index page whose bytes and whose share are as before names it as before, however the chain grew or was cut behind it.
abbrev pub SharesStay : Type 0
SharesStay =
    (core core' : Core) (index index' blocks blocks' : List ℕ) (k : ℕ)
    → core'.range ≡ core.range → page_of core' (slice_index_or index' k 0) ≡ page_of core (slice_index_or index k 0)
    → (suc k == length index') ≡ (suc k == length index) → slice_index_or index' (suc k) 0 ≡ slice_index_or index (suc k) 0
    → 511 * suc k ≤ length blocks → 511 * suc k ≤ length blocks' → take (511 * suc k) blocks' ≡ take (511 * suc k) blocks
    → NamesShare core index blocks k → NamesShare core' index' blocks' k

-- ---- bytes of blocks

-- each of these pages is there, whole
abbrev pub AreThere : Core → List ℕ → Type 0
AreThere core pages = (page : ℕ) → In page pages → (bytes : List ℕ) × (page_of core page ≡ Some bytes) × (length bytes ≡ 4096)

-- they have 4096 bytes each
abbrev pub BytesMany : Type 0
BytesMany = (core : Core) (blocks : List ℕ) → AreThere core blocks → length (pages_bytes core blocks) ≡ 4096 * length blocks

-- the bytes of the first of them come first
abbrev pub BytesCut : Type 0
BytesCut =
    (core : Core) (blocks : List ℕ) (n : ℕ) → AreThere core blocks
    → pages_bytes core (take n blocks) ≡ take (4096 * n) (pages_bytes core blocks)

-- the bytes of further ones come behind
abbrev pub BytesGrow : Type 0
BytesGrow =
    (core : Core) (blocks more : List ℕ) → pages_bytes core (blocks ++ more) ≡ pages_bytes core blocks ++ pages_bytes core more

-- Of different blocks one gets other bytes: these stand at its place, and all else is as it was.
abbrev pub BytesPut : Type 0
BytesPut =
    (core core' : Core) (blocks : List ℕ) (k : ℕ) (bytes : List ℕ)
    → IsTrue (are_new [] blocks) → AreThere core blocks → k < length blocks
    → page_of core' (slice_index_or blocks k 0) ≡ Some bytes
    → ((page : ℕ) → In page blocks → (page ≡ slice_index_or blocks k 0 → ⊥) → page_of core' page ≡ page_of core page)
    → let old = pages_bytes core blocks in
    pages_bytes core' blocks ≡ take (4096 * k) old ++ bytes ++ drop (4096 * suc k) old
