-- A new image, whose one file is an empty root.
use Rattle.std.specs.Prelude.{◌≡◌, ℕ, ◌+◌, ◌-◌, ◌*◌, ◌<◌, ◌≤◌, false, List, [], ◌∷◌, Option}
use Rattle.trio_page.specs.Field.{zeros}
use Rattle.trio_layout.specs.declared.body.Body.{Body}
use Rattle.trio_layout.specs.declared.superblock.Superblock.{Superblock}
use Rattle.trio_layout.specs.Body.{body_bytes}
use Rattle.trio_layout.specs.Superblock.{page_count}
use Rattle.trio_layout.specs.Survey.{plain, root_of, survey}
use Rattle.trio_survey.specs.Stored.{core_in, HasPage}
use Rattle.trio_image.specs.Image.{IsVerified}
use Rattle.trio_image.specs.declared.counts.Counts.{Counts}

-- an empty directory of mode 0o755, which is 493, uid 0 and gid 0
abbrev pub empty_directory : Body
empty_directory = record { mode = record { 0 = 493 }; uid = 0; gid = 0; head = 0; size = 0; guard = false }

-- the superblock of so many pages and inode numbers, with an empty root
abbrev pub new_superblock : ℕ → ℕ → Superblock
new_superblock pages inodes = record {
  pages = pages;
  inodes = inodes;
  first_owner = 1 + page_count (32 * inodes);
  first_core = 1 + page_count (32 * inodes) + page_count (4 * pages);
  root = body_bytes empty_directory;
}

-- the limits: 16 to 8192 pages, 16 to 16384 inode numbers, and one core page at least
pub record Fits (pages inodes : ℕ) : Type 0 where
  pub some_pages : 16 ≤ pages
  pub few_pages : pages ≤ 8192
  pub some_inodes : 16 ≤ inodes
  pub few_inodes : inodes ≤ 16384
  pub core : (new_superblock pages inodes).first_core < pages

-- A new image of so many pages and inode numbers: its first page says just these, and an empty root; the root is its one file;
-- each core page is all zero; and it verifies.
pub record IsMade (pages inodes : ℕ) (s : Superblock) (image : List (Option (List ℕ))) : Type 0 where
  pub superblock : s ≡ new_superblock pages inodes
  pub files : survey (core_in s image) plain ≡ root_of (core_in s image) ∷ []
  pub core : (p : ℕ) → s.first_core ≤ p → p < pages → HasPage image p (zeros 4096)
  pub verified : IsVerified s image

-- what a new image has in use: the root's number, and no core page
abbrev pub new_counts : ℕ → ℕ → Counts
new_counts pages inodes = record { inodes = 1; pages = 0; free = pages - (new_superblock pages inodes).first_core }
