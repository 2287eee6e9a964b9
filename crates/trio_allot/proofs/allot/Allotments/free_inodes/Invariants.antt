use Rattle.trio_allot.proofs.Words.{◌+◌, ◌≡◌, ◌≤◌, free_numbers, is_free_number, length, numbers_where}
use Rattle.trio_allot.proofs.allot.Allotments.free_inodes.Given as goal

-- those counted, and those from here on, are all
abbrev pub invariant-loop-ino : goal.invariant-loop-ino
invariant-loop-ino l = record {
  counted : l.free + length (numbers_where (is_free_number l.rows l.self.numbers) l.ino (length l.rows)) ≡ length (free_numbers l.rows l.self.numbers);
  few : l.free ≤ l.ino;
}
