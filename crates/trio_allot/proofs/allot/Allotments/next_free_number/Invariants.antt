use Rattle.trio_allot.proofs.Words.{◌≡◌, ◌≤◌, is_free_number, length, numbers_where}
use Rattle.trio_allot.proofs.allot.Allotments.next_free_number.Given as goal

-- none is free from the start up to here
abbrev pub invariant-loop-ino : goal.invariant-loop-ino
invariant-loop-ino l = record {
  same : numbers_where (is_free_number l.rows l.self.numbers) l.ino (length l.rows) ≡ numbers_where (is_free_number l.rows l.self.numbers) l.from (length l.rows);
  after : l.from ≤ l.ino;
}
