-- Files whose chain is that of one that was passed. Cited by private functions alone.
use Rattle.std.specs.Prelude.{◌≡◌, ℕ, ◌<◌, Bool, true, false, List, Some, Ok, slice_index_or, slice_set}
use Rattle.trio_rights.specs.ByKind.{is_directory}
use Rattle.trio_lists.specs.Lists.{In}
use Rattle.trio_layout.specs.declared.body.Body.{Body}
use Rattle.trio_layout.specs.declared.range.CoreRange.{CoreRange}
use Rattle.trio_layout.specs.Body.{block_count, body_of}
use Rattle.trio_layout.specs.Core.{Core}
use Rattle.trio_layout.specs.Survey.{Met, FileRead, file_of}
use Rattle.trio_survey.specs.declared.again.Heads.{Heads}

-- a file among these, a directory or not, whose chain begins at this index page and has so many blocks
pub record WasPassed (core : Core) (done : List Met) (directory : Bool) (head blocks : ℕ) : Type 0 where
  pub met : Met
  pub file : FileRead
  pub among : In met done
  pub kind_is : is_directory met.kind ≡ directory
  pub read : file_of core met ≡ Ok file
  pub head_is : file.body.head ≡ head
  pub blocks_are : block_count file.body.size ≡ blocks

-- where the chains of passed directories begin, or those of other files: by page number, the count of blocks of one, or 0
abbrev pub KnowsHeads : Core → List Met → Bool → List ℕ → Type 0
KnowsHeads core done directory heads =
    (head : ℕ) → 0 < slice_index_or heads head 0 → WasPassed core done directory head (slice_index_or heads head 0)

abbrev pub heads_of : Heads → Bool → List ℕ
heads_of heads true = heads.directory.items
heads_of heads false = heads.other.items

-- the same of directories and of other files
abbrev pub KnowsAllHeads : Core → List Met → Heads → Type 0
KnowsAllHeads core done heads = (directory : Bool) → KnowsHeads core done directory (heads_of heads directory)

-- those of directories, or of other files, with one file more, a directory or not
abbrev pub heads_after : Bool → List ℕ → Bool → Body → List ℕ
heads_after true heads true b = slice_set heads b.head (block_count b.size)
heads_after true heads false b = heads
heads_after false heads true b = heads
heads_after false heads false b = slice_set heads b.head (block_count b.size)

-- the file has this body, and one of the same chain was passed
pub record IsListedBefore (range : CoreRange) (heads : List ℕ) (m : Met) (b : Body) : Type 0 where
  pub body : body_of m.kind range m.body ≡ Some b
  pub some : 0 < block_count b.size
  pub passed : slice_index_or heads b.head 0 ≡ block_count b.size
