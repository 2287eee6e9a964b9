-- What a lease shows of its file.
use Rattle.std.specs.Prelude.{◌≡◌, ◌⊎◌, ℕ, Bool, true, false, List, [], map, Option, slice_get, slice_index_or, slice_set}
use Rattle.std.specs.Option.{option_map}
use Rattle.trio_lists.specs.Lists.{In}
use Rattle.trio_page.specs.declared.page.PageNo.{PageNo}
use Rattle.trio_rights.specs.declared.rights.LibNo.{LibNo}
use Rattle.trio_rights.specs.declared.kind.Kind.{Kind}
use Rattle.trio_lease.specs.declared.parts.LentPage.{LentPage}
use Rattle.trio_lease.specs.declared.parts.WriteParts.{WriteParts}

-- the library, the file's inode number and kind, the entry of the history that opened the grant, and the file's bytes: its body, its index pages in the order of the chain, and the pages that they list
pub record Shown : Type 0 where
  pub lib : LibNo
  pub ino : ℕ
  pub kind : Kind
  pub entry : ℕ
  pub body : List ℕ
  pub index : List LentPage
  pub blocks : List LentPage

-- a file lent for writing: as it stands in its lease now, and as it was lent
pub record LentFile : Type 0 where
  pub stands : Shown
  pub lent : Shown

-- each block that isn't marked as touched is as it was lent
abbrev pub KeepsUntouched : LentFile → Type 0
KeepsUntouched f = (p : LentPage) → In p f.stands.blocks → (p.touched ≡ true) ⊎ In p f.lent.blocks

-- what the parts of a lease show
abbrev pub shown : WriteParts → Shown
shown p = record { lib = p.lib; ino = p.ino; kind = p.kind; entry = p.entry; body = p.body; index = p.index.items; blocks = p.blocks.items }

-- the bytes of page i of the list; None past its end
abbrev pub page_at : List LentPage → ℕ → Option (List ℕ)
page_at pages i = option_map (λ p. p.page) (slice_get pages i)

-- the number in the image of page i of the list; None past its end
abbrev pub no_at : List LentPage → ℕ → Option PageNo
no_at pages i = option_map (λ p. p.no) (slice_get pages i)

-- whether page i of the list is marked as touched; None past its end
abbrev pub touched_at : List LentPage → ℕ → Option Bool
touched_at pages i = option_map (λ p. p.touched) (slice_get pages i)

-- page i of the list; what it says past the end means nothing
abbrev pub lent_at : List LentPage → ℕ → LentPage
lent_at pages i = slice_index_or pages i (record { no = record { 0 = 0 }; page = []; touched = false })

-- the list with other bytes in page i, its number and mark as before; the same list past its end
abbrev pub with_page : List LentPage → ℕ → List ℕ → List LentPage
with_page pages i bytes = slice_set pages i (record (lent_at pages i) { page = bytes })

-- the same, with page i marked as touched
abbrev pub with_touched : List LentPage → ℕ → List ℕ → List LentPage
with_touched pages i bytes = slice_set pages i (record (lent_at pages i) { page = bytes; touched = true })

-- a page marked as touched, its bytes and its number as before
abbrev pub as_touched : LentPage → LentPage
as_touched p = record p { touched = true }

-- the file with each of its blocks marked as touched
abbrev pub all_touched : LentFile → LentFile
all_touched f = record f { stands = record f.stands { blocks = map as_touched f.stands.blocks } }
