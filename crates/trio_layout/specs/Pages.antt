-- The pages of a live file, with their bytes.
use Rattle.std.specs.Prelude.{ℕ, Bool, List, [], ◌++◌, if◌then◌else◌, Result, Ok, Err}
use Rattle.std.specs.List.{filter_map}
use Rattle.std.specs.Option.{option_map}
use Rattle.trio_rights.specs.declared.kind.Kind.{Kind}
use Rattle.trio_rights.specs.ByKind.{covers_blocks}
use Rattle.trio_layout.specs.Body.{body_of}
use Rattle.trio_lists.specs.Lists.{result_then, there_or}
use Rattle.trio_layout.specs.Core.{Core, Location, nowhere, page_of}
use Rattle.trio_layout.specs.Chain.{Chain, chain_of}
use Rattle.trio_rights.specs.Sheets.{Sheet}
use Rattle.trio_layout.specs.Image.{Image, settled_body}

-- the pages of these numbers
abbrev pub sheets_of : Core → List ℕ → List Sheet
sheets_of core pages =
    filter_map (λ page. option_map (λ bytes. record { page = page; bytes = bytes }) (page_of core page)) pages

-- what a checkpoint covers of a file beside its body: the index pages, and the blocks of a directory and of a guarded file
abbrev pub covered_of : Kind → Bool → List Sheet → List Sheet → List Sheet
covered_of kind guarded index blocks = if covers_blocks kind guarded then index ++ blocks else index

-- the chain of a live file
abbrev pub settled_chain : Image → Kind → ℕ → Result Chain Location
settled_chain image kind ino =
    result_then (chain_of image.core) (there_or nowhere (body_of kind image.core.range (settled_body image ino)))

-- the index pages of a chain that could be read
abbrev pub index_sheets : Core → Result Chain Location → List Sheet
index_sheets core (Ok c) = sheets_of core c.index
index_sheets core (Err place) = []

-- the blocks of a chain that could be read
abbrev pub block_sheets : Core → Result Chain Location → List Sheet
block_sheets core (Ok c) = sheets_of core c.blocks
block_sheets core (Err place) = []
