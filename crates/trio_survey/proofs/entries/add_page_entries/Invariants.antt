use Rattle.trio_survey.proofs.Words.{◌≡◌, Ok, both, gathered_below, listed_seen, map, slot_entries}
use Rattle.trio_survey.proofs.entries.add_page_entries.Given as goal

abbrev pub invariant-loop-slot : goal.invariant-loop-slot
invariant-loop-slot l =
    both (Ok (map listed_seen l.initial.entries.items)) (gathered_below (slot_entries l.inodes l.no l.page) l.slot)
    ≡ Ok (map listed_seen l.entries.items)
