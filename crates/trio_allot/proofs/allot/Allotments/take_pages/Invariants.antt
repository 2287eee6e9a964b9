use Rattle.trio_allot.proofs.Words.{◌≡◌, ◌≤◌, None, Some, drop, free_pages, fresh_page, is_free_page, length, lib_at, map, numbers_where, raised_by, slice_index_or, take, vec_capacity, vec_len, with_all, ℕ}
use Rattle.trio_allot.proofs.allot.Allotments.take_pages.Given as goal

-- the first i free pages are out; the others are those from `from` on, where all is as it was
abbrev pub invariant-loop-i : goal.invariant-loop-i
invariant-loop-i l =
    let free = free_pages l.owners l.fn.self.pages in
    record {
      left : numbers_where (is_free_page l.owners l.fn.self.pages) l.from (length l.owners) ≡ drop l._i free;
      given : l.given.items ≡ map (fresh_page l.lib) (take l._i free);
      out : l.self.pages ≡ with_all (Some l.lib) (take l._i free) l.fn.self.pages;
      numbers : l.self.numbers ≡ l.fn.self.numbers;
      home : l.home.pages ≡ with_all None (take l._i free) l.fn.home.pages;
      looked : l.home.looked ≡ raised_by l._i l.fn.home.looked;
      reads : l.reads ≡ raised_by l._i l.fn.reads;
      out_later : (n : ℕ) → l.from ≤ n → lib_at l.self.pages n ≡ lib_at l.fn.self.pages n;
      home_later : (n : ℕ) → l.from ≤ n → slice_index_or l.home.pages n None ≡ slice_index_or l.fn.home.pages n None;
      sizes : length l.self.pages ≡ length l.owners;
      room : l.n ≤ vec_capacity l.given;
      count : vec_len l.given ≡ l._i;
    }
