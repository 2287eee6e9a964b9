use Rattle.trio_entries.proofs.Words.{◌++◌, ◌+◌, ◌≡◌, ◌≤◌, filter_map, take, told_same, vec_capacity, vec_len, whole_case}
use Rattle.trio_entries.proofs.files.add_same_held.Given as goal

abbrev pub invariant-loop-hold : goal.invariant-loop-hold
invariant-loop-hold l =
    (l.files.items ≡ l.fn.files.items ++ filter_map (λ h. told_same (whole_case l.case l.rows) l.notes h.ino) (take l.hold-index l.hold-items))
    × ((vec_len l.files ≤ vec_len l.fn.files + l.hold-index) × (vec_capacity l.files ≡ vec_capacity l.fn.files))
