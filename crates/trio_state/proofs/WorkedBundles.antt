-- Bundles over the small image, evaluated: what is to be accepted is, and each way to break the image is refused.
use Rattle.trio_state.proofs.Words.{◌++◌, ◌∷◌, ◌≡◌, Bundle, Directory, List, Regular, Sheet, Written, [], false, is_accepted, refl, true, ℕ}
use Rattle.trio_page.specs.Field.{number_at, zeros}
use Rattle.trio_rights.specs.declared.rights.Creds.{Creds}
use Rattle.trio_layout.specs.Body.{body_bytes, body_of}
use Rattle.trio_layout.specs.Slot.{entry_bytes, slot_of}
use Rattle.trio_layout.specs.Index.{index_bytes, index_of}
use Rattle.trio_layout.specs.Entries.{entries_on}
use Rattle.trio_layout.specs.Survey.{survey, file_of}
use Rattle.trio_layout.specs.Accept.{next}
use Rattle.trio_state.proofs.WorkedImages.{directory_body, empty_body, short_body, file_entry, directory_entry, one_number, slots_page, image}

abbrev pub root_user : Creds
root_user = record { uid = 0; gid = 0 }

abbrev pub user : Creds
user = record { uid = 5; gid = 5 }

abbrev pub sheet : ℕ → List ℕ → Sheet
sheet page bytes = record { page = page; bytes = bytes }

abbrev nothing : Bundle
nothing = record { writes = []; holds = []; pages = []; numbers = [] }

-- the root's lease, with these bytes in its block
abbrev pub root_with : List ℕ → Written
root_with block = record {
  ino = 1;
  kind = Directory;
  body = body_bytes (directory_body 4);
  index = sheet 4 (one_number 5) ∷ [];
  blocks = sheet 5 block ∷ [];
}

abbrev pub slot_a : List ℕ
slot_a = entry_bytes (file_entry 2 97) ++ body_bytes (empty_body 5)

abbrev pub slot_b : List ℕ
slot_b = entry_bytes (file_entry 3 98) ++ body_bytes (short_body 6)

-- the lease of `b`, with this body and this number of its block
abbrev pub file_with : List ℕ → ℕ → Written
file_with body block = record {
  ino = 3;
  kind = Regular;
  body = body;
  index = sheet 6 (one_number block) ∷ [];
  blocks = sheet 7 (zeros 4096) ∷ [];
}

abbrev pub writes : List Written → Bundle
writes files = record { writes = files; holds = []; pages = []; numbers = [] }

nothing_is_accepted : is_accepted image root_user nothing ≡ true
unfolding body_of slot_of index_of entries_on file_of survey body_bytes entry_bytes index_bytes one_number slots_page number_at zeros
nothing_is_accepted = refl

nothing_keeps_the_rows : (next image nothing).rows ≡ image.rows
unfolding body_of slot_of index_of entries_on file_of survey body_bytes entry_bytes index_bytes one_number slots_page number_at zeros
nothing_keeps_the_rows = refl

an_unchanged_file : is_accepted image root_user (writes (file_with (body_bytes (short_body 6)) 7 ∷ [])) ≡ true
unfolding body_of slot_of index_of entries_on file_of survey body_bytes entry_bytes index_bytes one_number slots_page number_at zeros
an_unchanged_file = refl

-- a size of two blocks with one
a_hostile_size : is_accepted image root_user (writes (file_with (body_bytes (record { mode = record { 0 = 420 }; uid = 5; gid = 5; head = 6; size = 4097; guard = false })) 7 ∷ [])) ≡ false
unfolding body_of slot_of index_of entries_on file_of survey body_bytes entry_bytes index_bytes one_number slots_page number_at zeros
a_hostile_size = refl

-- the root's block as the file's
a_foreign_page : is_accepted image root_user (writes (file_with (body_bytes (short_body 6)) 5 ∷ [])) ≡ false
unfolding body_of slot_of index_of entries_on file_of survey body_bytes entry_bytes index_bytes one_number slots_page number_at zeros
a_foreign_page = refl

-- a free page that wasn't handed in
a_free_page : is_accepted image root_user (writes (file_with (body_bytes (short_body 6)) 8 ∷ [])) ≡ false
unfolding body_of slot_of index_of entries_on file_of survey body_bytes entry_bytes index_bytes one_number slots_page number_at zeros
a_free_page = refl

-- the same page, handed in
a_page_handed_in : is_accepted image root_user (record { writes = file_with (body_bytes (short_body 6)) 8 ∷ []; holds = []; pages = sheet 8 (zeros 4096) ∷ []; numbers = [] }) ≡ true
unfolding body_of slot_of index_of entries_on file_of survey body_bytes entry_bytes index_bytes one_number slots_page number_at zeros
a_page_handed_in = refl

another_uid : is_accepted image root_user (writes (file_with (body_bytes (record { mode = record { 0 = 420 }; uid = 6; gid = 5; head = 6; size = 5; guard = false })) 7 ∷ [])) ≡ false
unfolding body_of slot_of index_of entries_on file_of survey body_bytes entry_bytes index_bytes one_number slots_page number_at zeros
another_uid = refl

-- what the directory's holder writes over a child's body has no effect
a_body_written_over : is_accepted image root_user (writes (root_with (slots_page (slot_a ++ entry_bytes (file_entry 3 98) ++ zeros 64) 3584) ∷ [])) ≡ true
unfolding body_of slot_of index_of entries_on file_of survey body_bytes entry_bytes index_bytes one_number slots_page number_at zeros
a_body_written_over = refl

a_lost_file : is_accepted image root_user (writes (root_with (slots_page slot_b 3840) ∷ [])) ≡ false
unfolding body_of slot_of index_of entries_on file_of survey body_bytes entry_bytes index_bytes one_number slots_page number_at zeros
a_lost_file = refl

-- a held file may go
a_held_file : is_accepted image root_user (record { writes = root_with (slots_page (slot_a ++ zeros 256) 3584) ∷ []; holds = 3 ∷ []; pages = []; numbers = [] }) ≡ true
unfolding body_of slot_of index_of entries_on file_of survey body_bytes entry_bytes index_bytes one_number slots_page number_at zeros
a_held_file = refl

-- two entries of one number
a_number_twice : is_accepted image root_user (writes (root_with (slots_page (slot_a ++ slot_b ++ entry_bytes (file_entry 3 99) ++ body_bytes (short_body 6)) 3328) ∷ [])) ≡ false
unfolding body_of slot_of index_of entries_on file_of survey body_bytes entry_bytes index_bytes one_number slots_page number_at zeros
a_number_twice = refl

-- an entry of the root itself
a_cycle : is_accepted image root_user (writes (root_with (slots_page (slot_a ++ slot_b ++ entry_bytes (directory_entry 1 99) ++ body_bytes (directory_body 4)) 3328) ∷ [])) ≡ false
unfolding body_of slot_of index_of entries_on file_of survey body_bytes entry_bytes index_bytes one_number slots_page number_at zeros
a_cycle = refl

-- a new file of number 4 with this name and uid, where the number was handed in or not
abbrev adds : ℕ → ℕ → List ℕ → Bundle
adds letter uid numbers = record {
  writes = root_with (slots_page (slot_a ++ slot_b ++ entry_bytes (file_entry 4 letter) ++ body_bytes (record { mode = record { 0 = 420 }; uid = uid; gid = 5; head = 0; size = 0; guard = false })) 3328) ∷ [];
  holds = [];
  pages = [];
  numbers = numbers;
}

a_new_file : is_accepted image user (adds 99 5 (4 ∷ [])) ≡ true
unfolding body_of slot_of index_of entries_on file_of survey body_bytes entry_bytes index_bytes one_number slots_page number_at zeros
a_new_file = refl

a_new_file_of_a_known_name : is_accepted image user (adds 98 5 (4 ∷ [])) ≡ false
unfolding body_of slot_of index_of entries_on file_of survey body_bytes entry_bytes index_bytes one_number slots_page number_at zeros
a_new_file_of_a_known_name = refl

a_new_file_of_a_foreign_owner : is_accepted image user (adds 99 0 (4 ∷ [])) ≡ false
unfolding body_of slot_of index_of entries_on file_of survey body_bytes entry_bytes index_bytes one_number slots_page number_at zeros
a_new_file_of_a_foreign_owner = refl

a_number_not_handed_in : is_accepted image user (adds 99 5 []) ≡ false
unfolding body_of slot_of index_of entries_on file_of survey body_bytes entry_bytes index_bytes one_number slots_page number_at zeros
a_number_not_handed_in = refl
