use Rattle.trio_entries.proofs.Words.{◌++◌, ◌+◌, ◌≡◌, ◌≤◌, filter_map, take, told_same, vec_capacity, vec_len, whole_case}
use Rattle.trio_entries.proofs.files.add_same_written.Given as goal

abbrev pub invariant-loop-lease : goal.invariant-loop-lease
invariant-loop-lease l =
    (l.files.items ≡ l.fn.files.items ++ filter_map (λ f. told_same (whole_case l.case l.rows) l.notes f.stands.ino) (take l.lease-index l.lease-items))
    × ((vec_len l.files ≤ vec_len l.fn.files + l.lease-index) × (vec_capacity l.files ≡ vec_capacity l.fn.files))
