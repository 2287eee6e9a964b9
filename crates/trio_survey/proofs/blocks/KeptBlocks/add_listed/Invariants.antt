use Rattle.trio_survey.proofs.Words.{◌++◌, ◌≡◌, entry_seen, listed_seen, map, take}
use Rattle.trio_survey.proofs.blocks.KeptBlocks.add_listed.Given as goal

abbrev pub invariant-loop-entry : goal.invariant-loop-entry
invariant-loop-entry l =
    map listed_seen l.listed.items
    ≡ map listed_seen l.initial.listed.items ++ map (entry_seen l.self.names.names.items) (take l.entry-index l.entries)
