use Rattle.trio_survey.proofs.Words.{◌≡◌, List, None, entry_seen, map, take, ℕ}
use Rattle.trio_survey.specs.OldVersion.{first_link}
use Rattle.trio_survey.proofs.old.link_among.Given as goal

abbrev pub invariant-loop-entry : goal.invariant-loop-entry
invariant-loop-entry l = (names : List (List ℕ)) → first_link (map (entry_seen names) (take l.entry-index l.entries)) ≡ None
