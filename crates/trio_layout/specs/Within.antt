-- A file as far as its pages are there: what is read of it where some of its pages may be absent.
use Rattle.std.specs.Prelude.{ℕ, zero, suc, ◌-◌, ◌==◌, if◌then◌else◌, Bool, min, List, [], ◌∷◌, Option, None, Some, Result, Ok}
use Rattle.trio_rights.specs.declared.kind.Kind.{Kind}
use Rattle.trio_rights.specs.ByKind.{is_directory}
use Rattle.trio_lists.specs.Lists.{result_map, result_then, gathered, there_or}
use Rattle.trio_layout.specs.declared.body.Body.{Body}
use Rattle.trio_layout.specs.Body.{body_of, block_count}
use Rattle.trio_layout.specs.Index.{Index, index_of}
use Rattle.trio_layout.specs.Core.{Core, Location, nowhere, at_page, page_of}
use Rattle.trio_layout.specs.Chain.{Chain, with_index, index_count}
use Rattle.trio_layout.specs.Entries.{Listed, entries_on, with_names_apart}
use Rattle.trio_layout.specs.Survey.{Met, FileRead}

-- One index page with the chain behind it. Of a page that is absent nothing is said, nor of what lies behind it.
abbrev pub index_within : Core → ℕ → ℕ → Bool → (Index → Result Chain Location) → Option (List ℕ) → Result Chain Location
index_within core page used last rest None = Ok (record { index = page ∷ []; blocks = [] })
index_within core page used last rest (Some bytes) =
    result_then (λ i. result_map (with_index page i) (rest i))
    (there_or (at_page page) (index_of used last core.range bytes))

-- So many index pages from `page` on, for so many blocks, up to the first that is absent. The fault is the first
-- index page that leaves the grammar.
abbrev pub chain_within : Core → ℕ → ℕ → ℕ → Result Chain Location
chain_within core zero blocks page = Ok (record { index = []; blocks = [] })
chain_within core (suc more) blocks page =
    index_within core page (min blocks 511) (more == 0) (λ i. chain_within core more (blocks - 511) i.next)
    (page_of core page)

-- the chain of a body, up to the first index page that is absent
abbrev pub chain_of_within : Core → Body → Result Chain Location
chain_of_within core b = let blocks = block_count b.size in chain_within core (index_count blocks) blocks b.head

-- the entries on one directory page, none where it is absent
abbrev pub entries_where : ℕ → ℕ → Option (List ℕ) → Result (List Listed) Location
entries_where inodes page None = Ok []
entries_where inodes page (Some bytes) = entries_on inodes page bytes

-- The entries on those of a directory's blocks that are there; a bad slot and a repeated name are faults. What is no directory has none.
abbrev pub entries_within : Core → Kind → List ℕ → Result (List Listed) Location
entries_within core kind blocks =
    if is_directory kind
    then result_then with_names_apart (gathered (λ page. entries_where core.inodes page (page_of core page)) blocks)
    else Ok []

-- what a file of this body and chain says
abbrev pub file_with_within : Core → Kind → Body → Chain → Result FileRead Location
file_with_within core kind b c =
    result_map (λ es. record { body = b; chain = c; entries = es }) (entries_within core kind c.blocks)

-- A file read as far as its pages are there. Else the first place at which it leaves the grammar.
unfoldable pub file_within : Core → Met → Result FileRead Location
file_within core m =
    result_then (λ b. result_then (file_with_within core m.kind b) (chain_of_within core b))
    (there_or nowhere (body_of m.kind core.range m.body))
