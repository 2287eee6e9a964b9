-- How what the code holds is seen by the definitions of a survey.
use Rattle.std.specs.Prelude.{ℕ, List, [], map, Option, Result}
use Rattle.trio_lists.specs.Lists.{result_map}
use Rattle.trio_layout.specs.declared.range.CoreRange.{CoreRange}
use Rattle.trio_layout.specs.Core.{Core, Location}
use Rattle.trio_layout.specs.Chain.{Chain}
use Rattle.trio_layout.specs.Entries.{Listed}
use Rattle.trio_layout.specs.Survey.{Met, FileRead}
use Rattle.trio_survey.specs.declared.chain.ChainParts.{ChainParts}
use Rattle.trio_survey.specs.declared.file.MetFile.{MetFile}
use Rattle.trio_survey.specs.declared.file.EntryRead.{EntryRead}
use Rattle.trio_survey.specs.declared.file.FileParts.{FileParts}

-- A core of these pages. Of the root, whose body a file that is met brings along, it says nothing.
abbrev pub core_with : List (Option (List ℕ)) → CoreRange → ℕ → Core
core_with pages range inodes = record { pages = pages; root = []; range = range; inodes = inodes }

-- a file that is met
abbrev pub met_seen : MetFile → Met
met_seen m = record { ino = m.ino; kind = m.kind; parent = m.parent; page = m.page; slot = m.slot; body = m.body }

-- an entry at its place
abbrev pub listed_seen : EntryRead → Listed
listed_seen l = record { entry = l.entry; page = l.page; slot = l.slot; body = l.body }

-- what a file says
abbrev pub file_seen : FileParts → FileRead
file_seen f = record {
  body = f.body;
  chain = record { index = f.index.items; blocks = f.blocks.items };
  entries = map listed_seen f.entries.items;
}

-- the index pages and blocks of a file
abbrev pub chain_seen : ChainParts → Chain
chain_seen c = record { index = c.index.items; blocks = c.blocks.items }

-- what reading a file answers
abbrev pub read_seen : Result FileParts Location → Result FileRead Location
read_seen r = result_map file_seen r
