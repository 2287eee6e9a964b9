-- The rules on bundles over small images, evaluated: each way to break the image is refused by the rule that is to name it.
use Rattle.trio_state.proofs.Words.{◌++◌, ◌∷◌, ◌≡◌, Body, Bundle, Case, Core, Directory, Image, List, None, Some, [], false, is_accepted, listing, map, meets_edges, meets_grammar, meets_owning, meets_rights, numbers, owners_table, plain, refl, rows_table, true, ℕ}
use Rattle.trio_page.specs.Field.{number_at, zeros}
use Rattle.trio_layout.specs.Body.{body_bytes, body_of}
use Rattle.trio_layout.specs.Case.{case_of}
use Rattle.trio_layout.specs.Entries.{entries_on}
use Rattle.trio_layout.specs.Index.{index_bytes, index_of}
use Rattle.trio_layout.specs.JudgedFiles.{judged_files}
use Rattle.trio_layout.specs.Listing.{ListedEntry}
use Rattle.trio_layout.specs.Rules.{meets_rules}
use Rattle.trio_layout.specs.Slot.{entry_bytes, slot_of}
use Rattle.trio_layout.specs.Survey.{file_of, survey}
use Rattle.trio_layout.specs.Within.{file_within}
use Rattle.trio_state.proofs.WorkedImages.{directory_body, short_body, file_entry, directory_entry, one_number, slots_page, image}
use Rattle.trio_state.proofs.WorkedBundles.{root_user, user, sheet, root_with, slot_a, slot_b, file_with, writes}

abbrev by_root : Bundle → Case
by_root b = case_of image root_user b

nothing_meets : meets_rules (by_root (writes [])) ≡ true
unfolding body_of slot_of index_of entries_on file_of survey file_within judged_files body_bytes entry_bytes index_bytes one_number slots_page number_at zeros
nothing_meets = refl

an_unchanged_file : meets_rules (by_root (writes (file_with (body_bytes (short_body 6)) 7 ∷ []))) ≡ true
unfolding body_of slot_of index_of entries_on file_of survey file_within judged_files body_bytes entry_bytes index_bytes one_number slots_page number_at zeros
an_unchanged_file = refl

-- a size of two blocks with one: I1
a_hostile_size : meets_grammar (by_root (writes (file_with (body_bytes (record { mode = record { 0 = 420 }; uid = 5; gid = 5; head = 6; size = 4097; guard = false })) 7 ∷ []))) ≡ false
unfolding body_of slot_of index_of entries_on file_of survey file_within judged_files body_bytes entry_bytes index_bytes one_number slots_page number_at zeros
a_hostile_size = refl

-- the root's block as the file's: I1 says nothing of it, I2 refuses it
abbrev foreign_page : Case
foreign_page = by_root (writes (file_with (body_bytes (short_body 6)) 5 ∷ []))

a_foreign_page_is_grammar : meets_grammar foreign_page ≡ true
unfolding body_of slot_of index_of entries_on file_of survey file_within judged_files body_bytes entry_bytes index_bytes one_number slots_page number_at zeros
a_foreign_page_is_grammar = refl

a_foreign_page : meets_owning foreign_page ≡ false
unfolding body_of slot_of index_of entries_on file_of survey file_within judged_files body_bytes entry_bytes index_bytes one_number slots_page number_at zeros
a_foreign_page = refl

-- another uid: I4, and none before it
abbrev other_uid : Case
other_uid = by_root (writes (file_with (body_bytes (record { mode = record { 0 = 420 }; uid = 6; gid = 5; head = 6; size = 5; guard = false })) 7 ∷ []))

another_uid_is_grammar : meets_grammar other_uid ≡ true
unfolding body_of slot_of index_of entries_on file_of survey file_within judged_files body_bytes entry_bytes index_bytes one_number slots_page number_at zeros
another_uid_is_grammar = refl

another_uid_is_own : meets_owning other_uid ≡ true
unfolding body_of slot_of index_of entries_on file_of survey file_within judged_files body_bytes entry_bytes index_bytes one_number slots_page number_at zeros
another_uid_is_own = refl

another_uid_has_edges : meets_edges (listing other_uid) other_uid.rows ≡ true
unfolding body_of slot_of index_of entries_on file_of survey file_within judged_files body_bytes entry_bytes index_bytes one_number slots_page number_at zeros
another_uid_has_edges = refl

another_uid : meets_rights other_uid ≡ false
unfolding body_of slot_of index_of entries_on file_of survey file_within judged_files body_bytes entry_bytes index_bytes one_number slots_page number_at zeros
another_uid = refl

-- what the directory's holder writes over a child's body has no effect
a_body_written_over : meets_rules (by_root (writes (root_with (slots_page (slot_a ++ entry_bytes (file_entry 3 98) ++ zeros 64) 3584) ∷ []))) ≡ true
unfolding body_of slot_of index_of entries_on file_of survey file_within judged_files body_bytes entry_bytes index_bytes one_number slots_page number_at zeros
a_body_written_over = refl

-- a lost file: I3, and none before it
abbrev lost_file : Case
lost_file = by_root (writes (root_with (slots_page slot_b 3840) ∷ []))

a_lost_file_is_grammar : meets_grammar lost_file ≡ true
unfolding body_of slot_of index_of entries_on file_of survey file_within judged_files body_bytes entry_bytes index_bytes one_number slots_page number_at zeros
a_lost_file_is_grammar = refl

-- file `b` is in the slot of `a`, which isn't its own, and isn't held: I2
a_lost_file : meets_owning lost_file ≡ false
unfolding body_of slot_of index_of entries_on file_of survey file_within judged_files body_bytes entry_bytes index_bytes one_number slots_page number_at zeros
a_lost_file = refl

-- `a` is cleared alone: I3
abbrev cleared_file : Case
cleared_file = by_root (writes (root_with (slots_page (zeros 256 ++ slot_b) 3584) ∷ []))

a_cleared_file_is_own : meets_owning cleared_file ≡ true
unfolding body_of slot_of index_of entries_on file_of survey file_within judged_files body_bytes entry_bytes index_bytes one_number slots_page number_at zeros
a_cleared_file_is_own = refl

a_cleared_file : meets_edges (listing cleared_file) cleared_file.rows ≡ false
unfolding body_of slot_of index_of entries_on file_of survey file_within judged_files body_bytes entry_bytes index_bytes one_number slots_page number_at zeros
a_cleared_file = refl

-- a held file may go
a_held_file : meets_rules (by_root (record { writes = root_with (slots_page (slot_a ++ zeros 256) 3584) ∷ []; holds = 3 ∷ []; pages = []; numbers = [] })) ≡ true
unfolding body_of slot_of index_of entries_on file_of survey file_within judged_files body_bytes entry_bytes index_bytes one_number slots_page number_at zeros
a_held_file = refl

-- a held file that moves to another slot has its lent body there: else I4
abbrev moved_file : List ℕ → Case
moved_file body = by_root (record {
  writes = root_with (slots_page (slot_a ++ zeros 256 ++ entry_bytes (file_entry 3 98) ++ body) 3328) ∷ [];
  holds = 3 ∷ [];
  pages = [];
  numbers = [];
})

a_moved_file : meets_rules (moved_file (body_bytes (short_body 6))) ≡ true
unfolding body_of slot_of index_of entries_on file_of survey file_within judged_files body_bytes entry_bytes index_bytes one_number slots_page number_at zeros
a_moved_file = refl

a_moved_file_of_another_body : meets_rights (moved_file (body_bytes (record { mode = record { 0 = 511 }; uid = 5; gid = 5; head = 6; size = 5; guard = false }))) ≡ false
unfolding body_of slot_of index_of entries_on file_of survey file_within judged_files body_bytes entry_bytes index_bytes one_number slots_page number_at zeros
a_moved_file_of_another_body = refl

-- two entries of one number: I2
a_number_twice : meets_owning (by_root (writes (root_with (slots_page (slot_a ++ slot_b ++ entry_bytes (file_entry 3 99) ++ body_bytes (short_body 6)) 3328) ∷ []))) ≡ false
unfolding body_of slot_of index_of entries_on file_of survey file_within judged_files body_bytes entry_bytes index_bytes one_number slots_page number_at zeros
a_number_twice = refl

-- a new file of number 4 with this name and uid, where the number was handed in or not
abbrev adds : ℕ → ℕ → List ℕ → Case
adds letter uid numbers = case_of image user (record {
  writes = root_with (slots_page (slot_a ++ slot_b ++ entry_bytes (file_entry 4 letter) ++ body_bytes (record { mode = record { 0 = 420 }; uid = uid; gid = 5; head = 0; size = 0; guard = false })) 3328) ∷ [];
  holds = [];
  pages = [];
  numbers = numbers;
})

a_new_file : meets_rules (adds 99 5 (4 ∷ [])) ≡ true
unfolding body_of slot_of index_of entries_on file_of survey file_within judged_files body_bytes entry_bytes index_bytes one_number slots_page number_at zeros
a_new_file = refl

-- it is judged after the written file
a_new_file_is_judged : numbers (judged_files (adds 99 5 (4 ∷ []))) ≡ 1 ∷ 4 ∷ []
unfolding body_of slot_of index_of entries_on file_of survey file_within judged_files body_bytes entry_bytes index_bytes one_number slots_page number_at zeros
a_new_file_is_judged = refl

which_are_kept : map (λ (e : ListedEntry). e.kept) (listing (adds 99 5 (4 ∷ []))).entries ≡ true ∷ true ∷ false ∷ []
unfolding body_of slot_of index_of entries_on file_of survey file_within judged_files body_bytes entry_bytes index_bytes one_number slots_page number_at zeros
which_are_kept = refl

a_new_file_of_a_known_name : meets_grammar (adds 98 5 (4 ∷ [])) ≡ false
unfolding body_of slot_of index_of entries_on file_of survey file_within judged_files body_bytes entry_bytes index_bytes one_number slots_page number_at zeros
a_new_file_of_a_known_name = refl

a_new_file_of_a_foreign_owner : meets_rights (adds 99 0 (4 ∷ [])) ≡ false
unfolding body_of slot_of index_of entries_on file_of survey file_within judged_files body_bytes entry_bytes index_bytes one_number slots_page number_at zeros
a_new_file_of_a_foreign_owner = refl

a_number_not_handed_in : meets_owning (adds 99 5 []) ≡ false
unfolding body_of slot_of index_of entries_on file_of survey file_within judged_files body_bytes entry_bytes index_bytes one_number slots_page number_at zeros
a_number_not_handed_in = refl

-- ---- directories: the root lists `d` of number 2, which lists `e` of number 3, which is empty

abbrev empty_directory : Body
empty_directory = record { mode = record { 0 = 493 }; uid = 0; gid = 0; head = 0; size = 0; guard = false }

abbrev slot_d : List ℕ
slot_d = entry_bytes (directory_entry 2 100) ++ body_bytes (directory_body 6)

abbrev slot_e : List ℕ
slot_e = entry_bytes (directory_entry 3 101) ++ body_bytes empty_directory

abbrev nested_core : Core
nested_core = record {
  pages =
      None ∷ None ∷ None ∷ None ∷ Some (one_number 5) ∷ Some (slots_page slot_d 3840)
      ∷ Some (one_number 7) ∷ Some (slots_page slot_e 3840) ∷ Some (zeros 4096) ∷ Some (zeros 4096) ∷ [];
  root = body_bytes (directory_body 4);
  range = record { first = 4; end = 10 };
  inodes = 4;
}

abbrev nested : Image
nested = record { core = nested_core; rows = rows_table nested_core (survey nested_core plain); owners = owners_table nested_core (survey nested_core plain) }

-- `d` is held and dropped, and `e` with it: I3
abbrev dropped : Case
dropped = case_of nested root_user (record { writes = root_with (zeros 4096) ∷ []; holds = 2 ∷ []; pages = []; numbers = [] })

a_dropped_directory_is_own : meets_owning dropped ≡ true
unfolding body_of slot_of index_of entries_on file_of survey file_within judged_files body_bytes entry_bytes index_bytes one_number slots_page number_at zeros
a_dropped_directory_is_own = refl

a_dropped_directory : meets_edges (listing dropped) dropped.rows ≡ false
unfolding body_of slot_of index_of entries_on file_of survey file_within judged_files body_bytes entry_bytes index_bytes one_number slots_page number_at zeros
a_dropped_directory = refl

-- `d` is held and moved into `e`, which lies in it: I3, and no other rule
abbrev moved_bundle : Bundle
moved_bundle = record {
  writes =
      root_with (zeros 4096)
      ∷ record { ino = 3; kind = Directory; body = body_bytes (directory_body 8); index = []; blocks = [] } ∷ [];
  holds = 2 ∷ [];
  pages = sheet 8 (one_number 9) ∷ sheet 9 (slots_page slot_d 3840) ∷ [];
  numbers = [];
}

abbrev moved : Case
moved = case_of nested root_user moved_bundle

moved_below_itself_is_grammar : meets_grammar moved ≡ true
unfolding body_of slot_of index_of entries_on file_of survey file_within judged_files body_bytes entry_bytes index_bytes one_number slots_page number_at zeros
moved_below_itself_is_grammar = refl

moved_below_itself_is_own : meets_owning moved ≡ true
unfolding body_of slot_of index_of entries_on file_of survey file_within judged_files body_bytes entry_bytes index_bytes one_number slots_page number_at zeros
moved_below_itself_is_own = refl

moved_below_itself_has_rights : meets_rights moved ≡ true
unfolding body_of slot_of index_of entries_on file_of survey file_within judged_files body_bytes entry_bytes index_bytes one_number slots_page number_at zeros
moved_below_itself_has_rights = refl

moved_below_itself : meets_edges (listing moved) moved.rows ≡ false
unfolding body_of slot_of index_of entries_on file_of survey file_within judged_files body_bytes entry_bytes index_bytes one_number slots_page number_at zeros
moved_below_itself = refl

moved_below_itself_is_refused : is_accepted nested root_user moved_bundle ≡ false
unfolding body_of slot_of index_of entries_on file_of survey file_within judged_files body_bytes entry_bytes index_bytes one_number slots_page number_at zeros
moved_below_itself_is_refused = refl

-- ---- a file that is handed in twice: accepted, but I2 refuses it, so what is given stands in a bundle once

abbrev file_twice : Bundle
file_twice = writes (file_with (body_bytes (short_body 6)) 7 ∷ file_with (body_bytes (short_body 6)) 7 ∷ [])

a_file_twice_is_accepted : is_accepted image root_user file_twice ≡ true
unfolding body_of slot_of index_of entries_on file_of survey file_within judged_files body_bytes entry_bytes index_bytes one_number slots_page number_at zeros
a_file_twice_is_accepted = refl

a_file_twice : meets_owning (by_root file_twice) ≡ false
unfolding body_of slot_of index_of entries_on file_of survey file_within judged_files body_bytes entry_bytes index_bytes one_number slots_page number_at zeros
a_file_twice = refl
