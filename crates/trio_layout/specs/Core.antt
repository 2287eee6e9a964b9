-- The pages of a core, some of which are lent or allotted and so absent, and the body of the root.
use Rattle.std.specs.Prelude.{ℕ, List, Option, None, if◌then◌else◌, slice_index_or}
use Rattle.trio_layout.specs.declared.range.CoreRange.{CoreRange}
use Rattle.trio_layout.specs.declared.refusal.Location.{Location as Place}
use Rattle.trio_layout.specs.Range.{is_core}

-- pages by number, the root's 64 bytes, which pages are core pages, and how many inode numbers there are
pub record Core : Type 0 where
  pub pages : List (Option (List ℕ))
  pub root : List ℕ
  pub range : CoreRange
  pub inodes : ℕ

-- the bytes of a core page that is there
abbrev pub page_of : Core → ℕ → Option (List ℕ)
page_of core page = if is_core core.range page then slice_index_or core.pages page None else None

-- a page and a slot on it; 0 where there is none to name
abbrev pub Location : Type 0
Location = Place

-- no page and no slot
abbrev pub nowhere : Location
nowhere = record { page = 0; slot = 0 }

-- a page as a whole
abbrev pub at_page : ℕ → Location
at_page page = record { page = page; slot = 0 }
