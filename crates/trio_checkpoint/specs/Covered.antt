-- What a checkpoint has, and what becomes of it.
use Rattle.std.specs.Prelude.{ℕ, ◌==◌, Bool, List, [], ◌++◌, map, Option, is_some, if◌then◌else◌, Result}
use Rattle.std.specs.List.{list_all, find}
use Rattle.std.specs.Option.{option_map}
use Rattle.trio_rights.specs.declared.kind.Kind.{Kind}
use Rattle.trio_rights.specs.ByKind.{covers_blocks}
use Rattle.trio_layout.specs.declared.range.CoreRange.{CoreRange}
use Rattle.trio_layout.specs.Body.{body_of}
use Rattle.trio_lists.specs.Lists.{result_then, there_or}
use Rattle.trio_layout.specs.Core.{Core, Location, nowhere, page_of}
use Rattle.trio_layout.specs.Chain.{Chain, chain_of}
use Rattle.trio_layout.specs.Entries.{body_in_slot}
use Rattle.trio_rights.specs.Sheets.{Sheet}
use Rattle.trio_layout.specs.Accept.{with_body_in}

-- A checkpoint of a file that is lent for writing: the inode number, the body, the numbers of all its index pages and blocks, and what the pages
-- are that the checkpoint covers, which are the index pages and the blocks of a directory or of a guarded file.
pub record Checkpointed : Type 0 where
  pub ino : ℕ
  pub body : List ℕ
  pub chain : Chain
  pub index : List Sheet
  pub blocks : List Sheet

-- all pages that it covers
abbrev pub covered_pages : Checkpointed → List Sheet
covered_pages c = c.index ++ c.blocks

-- A core of these pages. It says nothing of the root and of inode numbers, which no chain goes by.
abbrev pub core_of : List (Option (List ℕ)) → CoreRange → Core
core_of pages range = record { pages = pages; root = []; range = range; inodes = 0 }

-- the chain of a file of this kind that has this body
abbrev pub chain_in : Core → Kind → List ℕ → Result Chain Location
chain_in core kind body = result_then (chain_of core) (there_or nowhere (body_of kind core.range body))

-- of the numbers of a file's blocks, those of blocks that are covered, where the file is of this kind and guarded or not
abbrev pub covered_numbers : Kind → Bool → List ℕ → List ℕ
covered_numbers kind guarded numbers = if covers_blocks kind guarded then numbers else []

-- each of these pages is there
abbrev pub are_there : Core → List ℕ → Bool
are_there core numbers = list_all (λ page. is_some (page_of core page)) numbers

-- the body in a slot of the page of this number, if it is one of these
abbrev pub body_on : ℕ → ℕ → List Sheet → Option (List ℕ)
body_on page slot sheets = option_map (λ x. body_in_slot slot x.bytes) (find (λ x. x.page == page) sheets)

-- a page with this body in the slot, if it has this number
abbrev pub renewed : ℕ → ℕ → List ℕ → Sheet → Sheet
renewed page slot body x = if x.page == page then record { page = x.page; bytes = with_body_in slot body x.bytes } else x

-- these pages, with this body in the slot of the page of this number
abbrev pub with_body : ℕ → ℕ → List ℕ → List Sheet → List Sheet
with_body page slot body sheets = map (renewed page slot body) sheets
