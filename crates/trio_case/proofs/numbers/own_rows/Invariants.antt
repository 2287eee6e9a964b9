use Rattle.trio_case.proofs.Words.{◌++◌, ◌+◌, ◌≡◌, ◌≤◌, length, map, row_in, rows_seen, take, vec_capacity, vec_len}
use Rattle.trio_case.proofs.numbers.own_rows.Given as goal

abbrev pub invariant-loop-lease : goal.invariant-loop-lease
invariant-loop-lease l = record {
  rows : rows_seen l.few.items ≡ map (row_in l.rows) (map (λ f. f.stands.ino) (take l.lease-index l.bundle.writes));
  len : vec_len l.few ≡ l.lease-index;
  places : length l.bundle.writes + length l.bundle.holds ≤ vec_capacity l.few;
}

abbrev pub invariant-loop-hold : goal.invariant-loop-hold
invariant-loop-hold l = record {
  rows : rows_seen l.few.items ≡ map (row_in l.rows) (map (λ f. f.stands.ino) l.bundle.writes ++ map (λ h. h.ino) (take l.hold-index l.bundle.holds));
  len : vec_len l.few ≡ length l.bundle.writes + l.hold-index;
  places : length l.bundle.writes + length l.bundle.holds ≤ vec_capacity l.few;
}
