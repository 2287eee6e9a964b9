use Rattle.trio_entries.proofs.Words.{◌++◌, ◌+◌, ◌≡◌, ◌≤◌, filter_map, take, told_gone, vec_capacity, vec_len, whole_case}
use Rattle.trio_entries.proofs.files.add_gone.Given as goal

abbrev pub invariant-loop-ino : goal.invariant-loop-ino
invariant-loop-ino l =
    (l.files.items ≡ l.fn.files.items ++ filter_map (told_gone (whole_case l.case l.rows) l.listing.listing l.notes) (take l.ino-index l.ino-items))
    × ((vec_len l.files ≤ vec_len l.fn.files + l.ino-index) × (vec_capacity l.files ≡ vec_capacity l.fn.files))
