use Rattle.trio_survey.proofs.Words.{◌≡◌, None, entries_kept, flat_map, take}
use Rattle.trio_survey.specs.OldVersion.{first_link}
use Rattle.trio_survey.proofs.old.first_link.Given as goal

abbrev pub invariant-loop-block : goal.invariant-loop-block
invariant-loop-block l = first_link (flat_map (entries_kept l.range l.kept) (take l.block-index l.blocks)) ≡ None
