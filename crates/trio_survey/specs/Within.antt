-- The numbers that a file lists are numbers of its image.
use Rattle.std.specs.Prelude.{ℕ, ◌≡◌, ◌+◌, nat_lt, Bool, true, List, map}
use Rattle.std.specs.List.{list_all}
use Rattle.trio_layout.specs.declared.range.CoreRange.{CoreRange}
use Rattle.trio_lists.specs.Marked.{all_below}
use Rattle.trio_survey.specs.declared.file.EntryRead.{EntryRead}

-- the inode numbers of entries, in order
abbrev pub inos : List EntryRead → List ℕ
inos es = map (λ l. l.entry.ino) es

-- none of the numbers is 0
abbrev pub all_some : List ℕ → Bool
all_some ns = list_all (λ n. nat_lt 0 n) ns

-- index pages and blocks below the end of the core, and inode numbers from 1 up to the last
pub record IsWithin (range : CoreRange) (inodes : ℕ) (index blocks numbers : List ℕ) : Type 0 where
  pub index_below : all_below range.end index ≡ true
  pub blocks_below : all_below range.end blocks ≡ true
  pub numbers_below : all_below (inodes + 1) numbers ≡ true
  pub numbers_some : all_some numbers ≡ true
