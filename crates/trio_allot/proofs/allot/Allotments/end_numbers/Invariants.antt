use Rattle.trio_allot.proofs.Words.{◌<◌, ◌≡◌, All, None, inode_numbers, length, vec_len, with_all}
use Rattle.trio_allot.proofs.allot.Allotments.end_numbers.Given as goal

-- with the numbers that are left ended too, all is as after all of them
abbrev pub invariant-loop-number : goal.invariant-loop-number
invariant-loop-number l = record {
  ended : with_all None (inode_numbers l.inodes.items) l.self.numbers ≡ with_all None (inode_numbers l.fn.inodes.items) l.fn.self.numbers;
  pages : l.self.pages ≡ l.fn.self.pages;
  within : All (λ n. n < length l.self.numbers) (inode_numbers l.inodes.items);
}

abbrev pub decreases-loop-number : goal.decreases-loop-number
decreases-loop-number l = vec_len l.inodes
