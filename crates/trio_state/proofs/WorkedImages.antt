-- A small image, evaluated: the definitions give what a person expects of it.
use Rattle.trio_state.proofs.Words.{◌++◌, ◌∷◌, ◌≡◌, Body, Core, Directory, Image, List, None, Regular, Some, Verifies, [], false, numbers, owners_table, plain, refl, rows_table, ℕ}
use Rattle.std.specs.Prelude.{Ok, Err}
use Rattle.trio_page.specs.Field.{number_at, zeros}
use Rattle.trio_layout.specs.declared.slot.EntryPart.{EntryPart}
use Rattle.trio_layout.specs.Body.{body_bytes, body_of}
use Rattle.trio_layout.specs.Slot.{entry_bytes, slot_of}
use Rattle.trio_layout.specs.Index.{index_bytes, index_of}
use Rattle.trio_layout.specs.Chain.{chain_of}
use Rattle.trio_layout.specs.Entries.{entries_on}
use Rattle.trio_layout.specs.Survey.{survey, file_of, root_of, owner_of}

abbrev pub directory_body : ℕ → Body
directory_body head = record { mode = record { 0 = 493 }; uid = 0; gid = 0; head = head; size = 4096; guard = false }

abbrev pub empty_body : ℕ → Body
empty_body uid = record { mode = record { 0 = 420 }; uid = uid; gid = 5; head = 0; size = 0; guard = false }

-- one block of this file is used
abbrev pub short_body : ℕ → Body
short_body head = record { mode = record { 0 = 420 }; uid = 5; gid = 5; head = head; size = 5; guard = false }

abbrev pub file_entry : ℕ → ℕ → EntryPart
file_entry ino letter = record { ino = ino; kind = Regular; name = letter ∷ [] }

abbrev pub directory_entry : ℕ → ℕ → EntryPart
directory_entry ino letter = record { ino = ino; kind = Directory; name = letter ∷ [] }

unfoldable pub one_number : ℕ → List ℕ
one_number page = index_bytes (record { numbers = page ∷ []; next = 0 })

-- a directory page with these slots at its front
unfoldable pub slots_page : List ℕ → ℕ → List ℕ
slots_page slots left = slots ++ zeros left

-- Pages 0 to 3 are the controller's. The root lists, on page 5, the file `a` of inode number 2, which is empty, and the file `b`
-- of inode number 3, whose block is page 7. Pages 8 and 9 are free, and so is number 4.
abbrev pub core : Core
core = record {
  pages =
      None ∷ None ∷ None ∷ None ∷ Some (one_number 5)
      ∷ Some (slots_page (entry_bytes (file_entry 2 97) ++ body_bytes (empty_body 5) ++ entry_bytes (file_entry 3 98) ++ body_bytes (short_body 6)) 3584)
      ∷ Some (one_number 7) ∷ Some (zeros 4096) ∷ Some (zeros 4096) ∷ Some (zeros 4096) ∷ [];
  root = body_bytes (directory_body 4);
  range = record { first = 4; end = 10 };
  inodes = 4;
}

abbrev pub image : Image
image = record { core = core; rows = rows_table core (survey core plain); owners = owners_table core (survey core plain) }

root_is_read : body_of Directory core.range core.root ≡ Some (directory_body 4)
unfolding body_of body_bytes number_at zeros
root_is_read = refl

root_chain : chain_of core (directory_body 4) ≡ Ok (record { index = 4 ∷ []; blocks = 5 ∷ [] })
unfolding index_of index_bytes one_number number_at zeros
root_chain = refl

three_files : numbers (survey core plain) ≡ 1 ∷ 2 ∷ 3 ∷ []
unfolding body_of slot_of index_of entries_on file_of survey body_bytes entry_bytes index_bytes one_number slots_page number_at zeros
three_files = refl

owner_of_block : owner_of core (survey core plain) 7 ≡ 3
unfolding body_of slot_of index_of entries_on file_of survey body_bytes entry_bytes index_bytes one_number slots_page number_at zeros
owner_of_block = refl

image_verifies : Verifies image
unfolding body_of slot_of index_of entries_on file_of survey body_bytes entry_bytes index_bytes one_number slots_page number_at zeros
image_verifies = record { sound = refl; rows = refl; owners = refl }

-- without the block of the root, the place is named
abbrev without_block : Core
without_block = record {
  pages = None ∷ None ∷ None ∷ None ∷ Some (one_number 5) ∷ [];
  root = core.root;
  range = core.range;
  inodes = 4;
}

absent_block : file_of without_block (root_of without_block) ≡ Err (record { page = 5; slot = 0 })
unfolding body_of slot_of index_of entries_on file_of body_bytes index_bytes one_number number_at zeros
absent_block = refl
