use Rattle.trio_allot.proofs.Words.{◌+◌, ◌≡◌, free_numbers, is_free_number, length, numbers_where}
use Rattle.trio_allot.proofs.allot.Allotments.free_inodes_to.Given as goal

-- those passed, and those from here on, are all
abbrev pub invariant-loop-i : goal.invariant-loop-i
invariant-loop-i l = l.i + length (numbers_where (is_free_number l.rows l.self.numbers) l.from (length l.rows)) ≡ length (free_numbers l.rows l.self.numbers)
