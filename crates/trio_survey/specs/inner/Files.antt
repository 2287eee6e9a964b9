-- A file by what is kept of it. Cited by private functions alone.
use Rattle.std.specs.Prelude.{ℕ, List, [], if◌then◌else◌}
use Rattle.std.specs.List.{flat_map}
use Rattle.trio_rights.specs.declared.kind.Kind.{Kind}
use Rattle.trio_rights.specs.ByKind.{is_directory}
use Rattle.trio_layout.specs.declared.range.CoreRange.{CoreRange}
use Rattle.trio_layout.specs.Survey.{FileRead}
use Rattle.trio_survey.specs.Seen.{chain_seen}
use Rattle.trio_survey.specs.declared.blocks.KeptBlocks.{KeptBlocks}
use Rattle.trio_survey.specs.declared.file.FilePages.{FilePages}
use Rattle.trio_survey.specs.inner.Blocks.{entries_kept}

-- the blocks of a file in which entries stand: none of what is no directory
abbrev pub listing_blocks : Kind → List ℕ → List ℕ
listing_blocks kind blocks = if is_directory kind then blocks else []

-- a file of this kind, with its entries
abbrev pub file_kept : CoreRange → KeptBlocks → Kind → FilePages → FileRead
file_kept range kept kind f = record {
  body = f.body;
  chain = chain_seen f.chain;
  entries = flat_map (entries_kept range kept) (listing_blocks kind f.chain.blocks.items);
}
