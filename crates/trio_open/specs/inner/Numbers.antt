-- Lists for the numbers of an allotment. Cited by functions that the controller alone calls.
use Rattle.std.specs.Prelude.{◌≡◌, ◌≤◌, ℕ, [], vec_capacity}
use Rattle.trio_open.specs.declared.numbers.Numbers.{Numbers}

-- both lists are empty and have room for so many
pub record HasRoomFor (pages' inodes' : ℕ) (n : Numbers) : Type 0 where
  pub no_pages : n.pages.items ≡ []
  pub no_inodes : n.inodes.items ≡ []
  pub pages : pages' ≤ vec_capacity n.pages
  pub inodes : inodes' ≤ vec_capacity n.inodes
