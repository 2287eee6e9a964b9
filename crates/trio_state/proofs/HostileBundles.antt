-- Hostile bundles, evaluated: each is what a raw library wrote at which offset of what it was lent. Rules and whole
-- image say of each what is expected from outside.
use Rattle.trio_state.proofs.Words.{◌++◌, ◌∷◌, ◌≡◌, Body, Case, Directory, Image, List, None, Regular, Sheet, Some, Verifies, Written, [], false, is_accepted, listing, map, meets_edges, meets_grammar, meets_owning, meets_rights, refl, ℕ}
use Rattle.std.specs.Prelude.{◌+◌, ◌==◌, replicate, Option, not, if◌then◌else◌}
use Rattle.trio_page.specs.Field.{number_at, with_part, zeros}
use Rattle.trio_rights.specs.Row.{Row}
use Rattle.trio_rights.specs.declared.kind.Kind.{Kind}
use Rattle.trio_layout.specs.Body.{body_bytes, body_of}
use Rattle.trio_layout.specs.Slot.{entry_bytes, slot_of}
use Rattle.trio_layout.specs.Index.{index_bytes, index_of}
use Rattle.trio_layout.specs.Entries.{entries_on}
use Rattle.trio_layout.specs.Survey.{file_of, survey}
use Rattle.trio_layout.specs.Case.{Held}
use Rattle.trio_layout.specs.Within.{file_within}
use Rattle.trio_layout.specs.JudgedFiles.{judged_files}
use Rattle.trio_state.proofs.WorkedImages.{file_entry, directory_entry, one_number, slots_page}
use Rattle.trio_state.proofs.WorkedBundles.{sheet}

-- the number of the lowest rule that a bundle breaks, or 0
abbrev lowest_rule : Case → ℕ
lowest_rule c =
    if not (meets_grammar c) then 1 else
    (if not (meets_owning c) then 2 else
    (if not (meets_edges (listing c) c.rows) then 3 else
    (if meets_rights c then 0 else 4)))

-- ---- the image

-- It has 32 pages, of which 3 is the first core page, and 64 inode numbers. The root lists the directory `a`, of number 2,
-- on page 4, and that lists the file `f`, of number 3, on page 6. `f` has 5 bytes, on page 8.

abbrev body_with : ℕ → ℕ → ℕ → Body
body_with mode head size = record { mode = record { 0 = mode }; uid = 0; gid = 0; head = head; size = size; guard = false }

abbrev row_with : Kind → ℕ → ℕ → ℕ → Option Row
row_with kind mode parent page =
    Some (record { kind = kind; mode = record { 0 = mode }; uid = 0; gid = 0; parent = parent; page = page; slot = 0 })

abbrev rows : List (Option Row)
rows = None ∷ row_with Directory 493 0 0 ∷ row_with Directory 493 1 4 ∷ row_with Regular 420 2 6 ∷ replicate 61 None

abbrev root_body : List ℕ
root_body = body_bytes (body_with 493 3 4096)

abbrev a_body : List ℕ
a_body = body_bytes (body_with 493 5 4096)

abbrev f_body : List ℕ
f_body = body_bytes (body_with 420 7 5)

abbrev root_page : List ℕ
root_page = slots_page (entry_bytes (directory_entry 2 97) ++ a_body) 3840

abbrev a_page : List ℕ
a_page = slots_page (entry_bytes (file_entry 3 102) ++ f_body) 3840

-- bytes that were written at an offset of a body, an index page or a block
pub record Poke : Type 0 where
  pub at : ℕ
  pub bytes : List ℕ

abbrev poke : ℕ → List ℕ → Poke
poke at bytes = record { at = at; bytes = bytes }

-- what stands after they were written, one after another
abbrev after : List Poke → List ℕ → List ℕ
after [] bytes = bytes
after (p ∷ ps) bytes = after ps (with_part p.at p.bytes bytes)

-- a lease with one index page and one block, after what was written into its body, its index page and its block
abbrev lease : ℕ → Kind → ℕ → List Poke → List Poke → List Poke → List ℕ → List ℕ → Written
lease ino kind page body index block bytes content = record {
  ino = ino;
  kind = kind;
  body = after body bytes;
  index = sheet page (after index (one_number (page + 1))) ∷ [];
  blocks = sheet (page + 1) (after block content) ∷ [];
}

abbrev w1 : List Poke → List Poke → List Poke → Written
w1 body index block = lease 1 Directory 3 body index block root_body root_page

abbrev w2 : List Poke → List Poke → List Poke → Written
w2 body index block = lease 2 Directory 5 body index block a_body a_page

abbrev w3 : List Poke → List Poke → List Poke → Written
w3 body index block = lease 3 Regular 7 body index block f_body (zeros 4096)

-- the case of a bundle of a library of uid 0 on this image
abbrev judged : List Written → List Held → List Sheet → List ℕ → Case
judged writes held pages numbers = record {
  bundle = record { writes = writes; holds = map (λ h. h.ino) held; pages = pages; numbers = numbers };
  lent = held;
  rows = rows;
  creds = record { uid = 0; gid = 0 };
  range = record { first = 3; end = 32 };
  inodes = 64;
}

abbrev alone : Written → Case
alone w = judged (w ∷ []) [] [] []

abbrev with_f_held : Written → Case
with_f_held w = judged (w ∷ []) (record { ino = 3; body = f_body } ∷ []) [] []

-- bytes are written into the body or the index page of `f`, or into the page of `a`
abbrev in_body : ℕ → List ℕ → Case
in_body at bytes = alone (w3 (poke at bytes ∷ []) [] [])

abbrev in_index : ℕ → List ℕ → Case
in_index at bytes = alone (w3 [] (poke at bytes ∷ []) [])

abbrev in_block : ℕ → List ℕ → Case
in_block at bytes = alone (w2 [] [] (poke at bytes ∷ []))

-- an entry `h` of the number of `f` in slot 1 of the page of `a`, and in its slot a mode alone, or the body of `f`
abbrev entry_h : Poke
entry_h = poke 256 (3 ∷ 0 ∷ 0 ∷ 0 ∷ 1 ∷ 1 ∷ 0 ∷ 0 ∷ 104 ∷ [])

abbrev mode_h : Poke
mode_h = poke 448 (164 ∷ 1 ∷ [])

abbrev body_h : Poke
body_h = poke 448 (164 ∷ 1 ∷ zeros 10 ++ 7 ∷ 0 ∷ 0 ∷ 0 ∷ 5 ∷ zeros 7)

-- the entry in slot 0 is cleared
abbrev cleared : Poke
cleared = poke 0 (zeros 4)

-- each bundle, and the rule that is to refuse it
abbrev hostile : List Case
hostile =
    -- a mode above nine bits: I1
    (in_body 0 (0 ∷ 2 ∷ []))
    -- a reserved byte of the body: I1
    ∷ (in_body 2 (1 ∷ []))
    -- a byte behind its size: I1
    ∷ (in_body 25 (1 ∷ []))
    -- no bytes, but a head: I1
    ∷ (in_body 16 (zeros 8))
    -- neither bytes nor a head: all pages are given up: accepted
    ∷ (in_body 12 (zeros 12))
    -- more blocks than there are core pages: I1
    ∷ (in_body 16 (replicate 8 255))
    -- a block of number 0: I1
    ∷ (in_index 0 (zeros 8))
    -- a page below the core as a block: I1
    ∷ (in_index 0 (2 ∷ zeros 7))
    -- another file's block: I2
    ∷ (in_index 0 (6 ∷ zeros 7))
    -- its own index page as its block: I2
    ∷ (in_index 0 (7 ∷ zeros 7))
    -- a number behind those in use: I1
    ∷ (in_index 8 (8 ∷ zeros 7))
    -- another mode: I4
    ∷ (in_body 0 (255 ∷ 1 ∷ []))
    -- another gid: I4
    ∷ (in_body 8 (5 ∷ 0 ∷ 0 ∷ 0 ∷ []))
    -- another kind in a child's entry: I4
    ∷ (in_block 4 (2 ∷ []))
    -- a name without bytes: I1
    ∷ (in_block 5 (0 ∷ []))
    -- a slash as a name: I1
    ∷ (in_block 8 (47 ∷ []))
    -- another name in its slot: accepted
    ∷ (in_block 8 (103 ∷ []))
    -- the directory as its own entry: I2
    ∷ (in_block 0 (2 ∷ 0 ∷ 0 ∷ 0 ∷ []))
    -- a number above the last: I1
    ∷ (in_block 0 (65 ∷ 0 ∷ 0 ∷ 0 ∷ []))
    -- a child that is lost: I3
    ∷ (in_block 0 (zeros 4))
    -- a directory cut down over its child: I3
    ∷ (alone (w2 (poke 12 (zeros 12) ∷ []) [] []))
    -- a child listed a second time: I2
    ∷ (alone (w2 [] [] (entry_h ∷ mode_h ∷ [])))
    -- the same where it is held: I2
    ∷ (with_f_held (w2 [] [] (entry_h ∷ mode_h ∷ [])))
    -- a held file that moves to another slot, with its body: accepted
    ∷ (with_f_held (w2 [] [] (cleared ∷ entry_h ∷ body_h ∷ [])))
    -- with another size in that body: I4
    ∷ (with_f_held (w2 [] [] (cleared ∷ entry_h ∷ body_h ∷ poke 464 (6 ∷ []) ∷ [])))
    -- a held file that goes: accepted
    ∷ (with_f_held (w2 [] [] (cleared ∷ [])))
    -- a kind that there is not: I1
    ∷ (judged (w2 [] [] (poke 256 (4 ∷ 0 ∷ 0 ∷ 0 ∷ 4 ∷ 1 ∷ 0 ∷ 0 ∷ 104 ∷ []) ∷ []) ∷ []) [] [] (4 ∷ []))
    -- another mode of the root's: I4
    ∷ (alone (w1 (poke 0 (255 ∷ 1 ∷ []) ∷ []) [] []))
    -- a file that is guarded from now on: accepted
    ∷ (in_body 24 (1 ∷ []))
    -- a guard that is neither on nor off: I1
    ∷ (in_body 24 (2 ∷ []))
    -- a guarded directory: I1
    ∷ (alone (w2 (poke 24 (1 ∷ []) ∷ []) [] []))
    -- a child that is a link from now on: I4
    ∷ (in_block 4 (3 ∷ []))
    -- a new link without a text: I1
    ∷ (judged (w2 [] [] (poke 256 (4 ∷ 0 ∷ 0 ∷ 0 ∷ 3 ∷ 1 ∷ 0 ∷ 0 ∷ 104 ∷ []) ∷ mode_h ∷ []) ∷ []) [] [] (4 ∷ []))
    ∷ []

-- the rule that is to refuse each; 0 where it is to be accepted
abbrev expected : List ℕ
expected =
    1 ∷ 1 ∷ 1 ∷ 1 ∷ 0 ∷ 1 ∷ 1 ∷ 1 ∷ 2 ∷ 2 ∷ 1 ∷ 4 ∷ 4 ∷ 4
    ∷ 1 ∷ 1 ∷ 0 ∷ 2 ∷ 1 ∷ 3 ∷ 3 ∷ 2 ∷ 2 ∷ 0 ∷ 4 ∷ 0 ∷ 1 ∷ 4 ∷ 0 ∷ 1 ∷ 1 ∷ 4 ∷ 1 ∷ []

hostile_bundles : map lowest_rule hostile ≡ expected
unfolding body_of slot_of index_of entries_on file_within judged_files body_bytes entry_bytes index_bytes one_number slots_page with_part number_at zeros
hostile_bundles = refl

-- the image, with its data block and all its free pages zero
abbrev image : Image
image = record {
  core = record {
    pages =
        replicate 3 None ++ Some (one_number 4) ∷ Some root_page ∷ Some (one_number 6) ∷ Some a_page
        ∷ Some (one_number 8) ∷ replicate 24 (Some (zeros 4096));
    root = root_body;
    range = record { first = 3; end = 32 };
    inodes = 64;
  };
  rows = rows;
  owners = replicate 3 0xFFFFFFFF ++ 1 ∷ 1 ∷ 2 ∷ 2 ∷ 3 ∷ 3 ∷ replicate 23 0;
}

image_verifies : Verifies image
unfolding body_of slot_of index_of entries_on file_of survey body_bytes entry_bytes index_bytes one_number slots_page number_at zeros
image_verifies = record { sound = refl; rows = refl; owners = refl }

-- the whole image with each bundle's bytes is sound by an allowed change just where no rule refuses it
whole_image : map (λ (c : Case). is_accepted image c.creds c.bundle) hostile ≡ map (λ (rule : ℕ). rule == 0) expected
unfolding body_of slot_of index_of entries_on file_of survey body_bytes entry_bytes index_bytes one_number slots_page with_part number_at zeros
whole_image = refl

-- ---- releases of new files and of several libraries

-- the case of a bundle of a library whose uid and gid are this number, on these rows
abbrev judged_on : ℕ → List (Option Row) → List Written → List Held → List Sheet → List ℕ → Case
judged_on user table writes held pages numbers = record {
  bundle = record { writes = writes; holds = map (λ h. h.ino) held; pages = pages; numbers = numbers };
  lent = held;
  rows = table;
  creds = record { uid = user; gid = user };
  range = record { first = 3; end = 32 };
  inodes = 64;
}

-- an allotted page, all zero but for what was written into it
abbrev fresh : ℕ → List Poke → Sheet
fresh page pokes = sheet page (after pokes (zeros 4096))

-- the lease of an empty directory, into whose body a head and a size of one block were written
abbrev grown : ℕ → ℕ → ℕ → Written
grown ino mode head = record {
  ino = ino;
  kind = Directory;
  body = after (poke 12 (head ∷ 0 ∷ 0 ∷ 0 ∷ 0 ∷ 16 ∷ zeros 6) ∷ []) (body_bytes (body_with mode 0 0));
  index = [];
  blocks = [];
}

-- the size of `f` is 4097 bytes, and its index page has the second number 9
abbrev second_block : List Sheet → Case
second_block pages =
    judged (w3 (poke 16 (1 ∷ 16 ∷ zeros 6) ∷ []) (poke 8 (9 ∷ zeros 7) ∷ []) [] ∷ []) [] pages []

-- an entry of the new number 4 in slot 1 of the page of `a`, with this name
abbrev new_in_a : List ℕ → Case
new_in_a entry =
    judged (w2 [] [] (poke 256 entry ∷ mode_h ∷ []) ∷ []) [] [] (4 ∷ [])

-- a row in slot 1 of the root's page
abbrev row_beside : Option Row
row_beside =
    Some (record { kind = Directory; mode = record { 0 = 493 }; uid = 0; gid = 0; parent = 1; page = 4; slot = 1 })

-- the rows of the first image with the directory `b`, of number 4, beside `a`; and those of an image with the
-- directory `t` of mode 777 alone
abbrev rows_b : List (Option Row)
rows_b =
    None ∷ row_with Directory 493 0 0 ∷ row_with Directory 493 1 4 ∷ row_with Regular 420 2 6 ∷ row_beside
    ∷ replicate 60 None

abbrev rows_t : List (Option Row)
rows_t = None ∷ row_with Directory 493 0 0 ∷ row_with Directory 511 1 4 ∷ replicate 62 None

-- a new page of an empty directory, with one entry and the body in its slot
abbrev first_entry : ℕ → List ℕ → List ℕ → List Sheet
first_entry page entry body =
    fresh page (poke 0 ((page + 1) ∷ []) ∷ []) ∷ fresh (page + 1) (poke 0 entry ∷ poke 192 body ∷ []) ∷ []

-- such an entry of the number 3, for a regular file of this name, whose body is a mode alone
abbrev new_file : ℕ → ℕ → List Sheet
new_file page letter = first_entry page (3 ∷ 0 ∷ 0 ∷ 0 ∷ 1 ∷ 1 ∷ 0 ∷ 0 ∷ letter ∷ []) (164 ∷ 1 ∷ [])

-- the root lists `a` and `b`, of numbers 2 and 3; `a` lists `p` (4) and that `p1` (5); `b` lists `q` (6) and that
-- `q1` (7); `p` may have moved to the directory and the page that are given
abbrev crossed_rows : ℕ → ℕ → List (Option Row)
crossed_rows parent page =
    None ∷ row_with Directory 493 0 0 ∷ row_with Directory 493 1 4 ∷ row_beside ∷ row_with Directory 493 parent page
    ∷ row_with Directory 493 4 8 ∷ row_with Directory 493 3 10 ∷ row_with Directory 493 6 12 ∷ replicate 57 None

-- a held directory is cleared from the one page of its parent, and stands in a new page of an empty directory
abbrev moves : List (Option Row) → ℕ → ℕ → ℕ → ℕ → ℕ → ℕ → ℕ → Case
moves table parent page ino letter head to new =
    let body = body_bytes (body_with 493 head 4096) in
    let listed = slots_page (entry_bytes (directory_entry ino letter) ++ body) 3840 in
    judged_on 0 table
    (lease parent Directory page [] [] (cleared ∷ []) (body_bytes (body_with 493 page 4096)) listed
    ∷ grown to 493 new ∷ [])
    (record { ino = ino; body = body } ∷ []) (first_entry new (ino ∷ 0 ∷ 0 ∷ 0 ∷ 2 ∷ 1 ∷ 0 ∷ 0 ∷ letter ∷ []) body) []

-- each release, and the rule that is to refuse it
abbrev releases : List Case
releases =
    -- a size of two blocks with one block: I1
    (alone (w3 (poke 16 (1 ∷ 16 ∷ zeros 6) ∷ []) [] (poke 0 (74 ∷ []) ∷ [])))
    -- a page that was allotted and is not handed in: I2
    ∷ (second_block [])
    -- the same page, handed in: accepted
    ∷ (second_block (fresh 9 [] ∷ []))
    -- a second entry of one name: I1
    ∷ (new_in_a (4 ∷ 0 ∷ 0 ∷ 0 ∷ 1 ∷ 1 ∷ 0 ∷ 0 ∷ 102 ∷ []))
    -- an entry of another name: accepted
    ∷ (new_in_a (4 ∷ 0 ∷ 0 ∷ 0 ∷ 1 ∷ 2 ∷ 0 ∷ 0 ∷ 102 ∷ 102 ∷ []))
    -- an entry of another directory's file: I2
    ∷ (judged_on 0 rows_b (grown 4 493 9 ∷ []) [] (new_file 9 103) [])
    -- a new file of uid 0, by a library of uid 5: I4
    ∷ (judged_on 5 rows_t (grown 2 511 5 ∷ []) [] (new_file 5 120) (3 ∷ []))
    -- `p` moves below `q1`: accepted
    ∷ (moves (crossed_rows 2 6) 2 5 4 112 7 7 13)
    -- then `q` below `p1`: each lies below the other: I3
    ∷ (moves (crossed_rows 7 14) 3 9 6 113 11 5 15)
    -- the body in a kept child's slot is written over: accepted
    ∷ (in_block 208 (replicate 8 255))
    -- a held directory is dropped over its child: I3
    ∷ (judged (w1 [] [] (cleared ∷ []) ∷ []) (record { ino = 2; body = a_body } ∷ []) [] [])
    -- a link where the chain ends: I1
    ∷ (alone (w3 [] (poke 4088 (7 ∷ zeros 7) ∷ []) []))
    ∷ []

which_rules : map lowest_rule releases ≡ 1 ∷ 2 ∷ 0 ∷ 1 ∷ 0 ∷ 2 ∷ 4 ∷ 0 ∷ 3 ∷ 0 ∷ 3 ∷ 1 ∷ []
unfolding body_of slot_of index_of entries_on file_within judged_files body_bytes entry_bytes index_bytes one_number slots_page with_part number_at zeros
which_rules = refl
