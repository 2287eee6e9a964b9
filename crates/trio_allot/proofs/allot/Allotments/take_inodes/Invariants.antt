use Rattle.trio_allot.proofs.Words.{◌≡◌, ◌≤◌, Some, drop, free_numbers, fresh_number, is_free_number, length, lib_at, map, numbers_where, take, vec_capacity, vec_len, with_all, ℕ}
use Rattle.trio_allot.proofs.allot.Allotments.take_inodes.Given as goal

-- the first i free numbers are out; the others are those from `from` on, where all is as it was
abbrev pub invariant-loop-i : goal.invariant-loop-i
invariant-loop-i l =
    let free = free_numbers l.rows l.fn.self.numbers in
    record {
      left : numbers_where (is_free_number l.rows l.fn.self.numbers) l.from (length l.rows) ≡ drop l._i free;
      given : l.given.items ≡ map (fresh_number l.lib) (take l._i free);
      out : l.self.numbers ≡ with_all (Some l.lib) (take l._i free) l.fn.self.numbers;
      pages : l.self.pages ≡ l.fn.self.pages;
      out_later : (n : ℕ) → l.from ≤ n → lib_at l.self.numbers n ≡ lib_at l.fn.self.numbers n;
      sizes : length l.self.numbers ≡ length l.rows;
      room : l.n ≤ vec_capacity l.given;
      count : vec_len l.given ≡ l._i;
    }
