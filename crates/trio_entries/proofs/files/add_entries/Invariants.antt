use Rattle.trio_entries.proofs.Words.{◌++◌, ◌+◌, ◌≡◌, ◌≤◌, entry_seen, filter_map, take, told_entry, vec_capacity, vec_len, whole_case}
use Rattle.trio_entries.proofs.files.add_entries.Given as goal

abbrev pub invariant-loop-entry : goal.invariant-loop-entry
invariant-loop-entry l =
    (l.files.items ≡ l.fn.files.items ++ filter_map (λ e. told_entry (whole_case l.case l.rows) l.listing.listing l.notes (entry_seen e)) (take l.entry-index l.entry-items))
    × ((vec_len l.files ≤ vec_len l.fn.files + l.entry-index) × (vec_capacity l.files ≡ vec_capacity l.fn.files))
