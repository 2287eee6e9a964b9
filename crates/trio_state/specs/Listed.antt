-- What a release tells of its files and blocks, by the bundle and its listing alone: no page is looked at but the bundle's. What is told
-- of a file that the release leaves as it was comes from what is noted of each live file: its name, its size and its guard.
use Rattle.std.specs.Prelude.{ℕ, ◌+◌, ◌*◌, ◌==◌, nat_lt, min, Bool, true, false, not, ◌&&◌, ◌||◌, List, [], ◌∷◌, ◌++◌, map, Option, None, Some, if◌then◌else◌, drop, slice_get, slice_index_or, slice_set, unwrap_or}
use Rattle.std.specs.List.{filter_map, find, flat_map, list_any}
use Rattle.std.specs.Option.{option_map, option_map_or}
use Rattle.std.specs.Str.{bytes_eq}
use Rattle.trio_lists.specs.Lists.{is_among}
use Rattle.trio_lists.specs.Sorting.{sorted_by}
use Rattle.trio_rights.specs.ByKind.{is_directory, covers_blocks}
use Rattle.trio_rights.specs.Row.{Row, row_in}
use Rattle.trio_rights.specs.Bundle.{Bundle, Written, is_written}
use Rattle.trio_rights.specs.Sheets.{sheet_numbers}
use Rattle.trio_layout.specs.Body.{body_at, guard_in}
use Rattle.trio_layout.specs.Slot.{entry_at}
use Rattle.trio_layout.specs.Core.{page_of}
use Rattle.trio_layout.specs.Entries.{slot_bytes}
use Rattle.trio_layout.specs.Case.{Case, bundle_core}
use Rattle.trio_layout.specs.Edges.{is_listed}
use Rattle.trio_layout.specs.Listing.{Listing, ListedEntry}
use Rattle.trio_layout.specs.Tables.{row_after}
use Rattle.trio_nodes.specs.declared.note.Note.{Note}
use Rattle.trio_nodes.specs.Handed.{Handed}
use Rattle.trio_nodes.specs.Told.{ToldBlock}
use Rattle.trio_nodes.specs.declared.entry.RawFile.{RawFile}

-- notes by inode number, from 0 on; None of a number that isn't live
abbrev pub Notes : Type 0
Notes = List (Option Note)

-- the name that is noted of a number, the size and the guard; nothing, 0 and none of a number that isn't live
abbrev pub noted_name : Notes → ℕ → List ℕ
noted_name notes n = option_map_or (λ x. x.name) (slice_index_or notes n None) []

abbrev pub noted_size : Notes → ℕ → ℕ
noted_size notes n = option_map_or (λ x. x.size) (slice_index_or notes n None) 0

abbrev pub noted_guard : Notes → ℕ → Bool
noted_guard notes n = option_map_or (λ x. x.guard) (slice_index_or notes n None) false

-- ---- files

-- the bundle has a write lease or a hold on the file
abbrev pub is_handed : Bundle → ℕ → Bool
is_handed b n = is_written b n || is_among n b.holds

-- the size that a body says
abbrev pub size_in : List ℕ → ℕ
size_in body = (body_at body).size

-- a file as it is told: by its row, with a name, a size and a guard
abbrev pub told_row : Bundle → ℕ → Bool → List ℕ → ℕ → Bool → Row → RawFile
told_row b n gone name size guarded r = record {
  ino = n;
  given = is_handed b n;
  gone = gone;
  parent = r.parent;
  name = name;
  kind = r.kind;
  mode = r.mode;
  uid = r.uid;
  gid = r.gid;
  size = size;
  guard = guarded;
}

-- the bytes of the slot in which an entry stands, on the bundle's page
abbrev pub entry_slot : Case → ListedEntry → List ℕ
entry_slot c e = option_map_or (slot_bytes e.slot) (page_of (bundle_core c) e.page) []

-- the name of an entry
abbrev pub entry_name : Case → ListedEntry → List ℕ
entry_name c e = (entry_at (entry_slot c e)).name

-- the size that the lease of a written file says
abbrev pub written_size : Bundle → ℕ → Option ℕ
written_size b n = option_map (λ w. size_in w.body) (find (λ w. w.ino == n) b.writes)

-- the guard that the lease of a written file says
abbrev pub written_guard : Bundle → ℕ → Option Bool
written_guard b n = option_map (λ w. guard_in w.body) (find (λ w. w.ino == n) b.writes)

-- the size of the file of an entry: as its lease says, where it is new as the slot says, else as it was
abbrev pub entry_size : Case → Notes → ListedEntry → ℕ
entry_size c notes e =
    unwrap_or (written_size c.bundle e.ino)
    (if is_among e.ino c.bundle.numbers then size_in (drop 192 (entry_slot c e)) else noted_size notes e.ino)

-- the guard of the file of an entry, found likewise
abbrev pub entry_guard : Case → Notes → ListedEntry → Bool
entry_guard c notes e =
    unwrap_or (written_guard c.bundle e.ino)
    (if is_among e.ino c.bundle.numbers then guard_in (drop 192 (entry_slot c e)) else noted_guard notes e.ino)

-- the entry is of a kept child that is neither written nor held, and has its name still
abbrev pub is_untold : Case → Notes → ListedEntry → Bool
is_untold c notes e = e.kept && not (is_handed c.bundle e.ino) && bytes_eq (noted_name notes e.ino) (entry_name c e)

-- what an entry of a judged directory tells
abbrev pub told_entry : Case → Listing → Notes → ListedEntry → Option RawFile
told_entry c l notes e =
    if is_untold c notes e then None
    else option_map (told_row c.bundle e.ino false (entry_name c e) (entry_size c notes e) (entry_guard c notes e)) (row_after l c.rows e.ino)

-- what a written file tells that no judged directory lists: it has its name still
abbrev pub told_written : Case → Listing → Notes → Written → Option RawFile
told_written c l notes w =
    if is_listed l w.ino then None
    else option_map (told_row c.bundle w.ino false (noted_name notes w.ino) (size_in w.body) (guard_in w.body)) (row_after l c.rows w.ino)

-- what a held file tells that is listed nowhere: it is gone
abbrev pub told_gone : Case → Listing → Notes → ℕ → Option RawFile
told_gone c l notes n =
    if is_listed l n then None
    else option_map (told_row c.bundle n true (noted_name notes n) (noted_size notes n) (noted_guard notes n)) (row_in c.rows n)

-- The files of a release that is accepted, in the order of their numbers.
abbrev pub accepted_files : Case → Listing → Notes → List RawFile
accepted_files c l notes =
    sorted_by (λ f. f.ino)
    (filter_map (told_entry c l notes) l.entries
    ++ filter_map (told_written c l notes) c.bundle.writes
    ++ filter_map (told_gone c l notes) l.held)

-- what a file of a refused release tells: that it stands as before
abbrev pub told_same : Case → Notes → ℕ → Option RawFile
told_same c notes n =
    option_map (told_row c.bundle n false (noted_name notes n) (noted_size notes n) (noted_guard notes n)) (row_in c.rows n)

-- The files of a release that is refused, in the order of their numbers: the written and the held ones.
abbrev pub refused_files : Case → Notes → List RawFile
refused_files c notes = sorted_by (λ f. f.ino) (filter_map (told_same c notes) (map (λ w. w.ino) c.bundle.writes ++ c.bundle.holds))

-- ---- blocks

-- the page is a lent block that is marked as touched
abbrev pub is_marked : Handed → ℕ → Bool
is_marked h page = list_any (λ w. list_any (λ p. p.no == page && p.touched) w.blocks) h.writes

-- the page numbers of the blocks that a file was lent with; none of a file that isn't written
abbrev pub lent_blocks : Bundle → ℕ → List ℕ
lent_blocks b n = option_map_or (λ w. sheet_numbers w.blocks) (find (λ w. w.ino == n) b.writes) []

-- The block at a position of a judged file is told: its writer may have changed it, another page stood for it, or the size counts
-- bytes of it that the one before didn't.
abbrev pub is_block_changed : Case → Notes → Handed → RawFile → ℕ → ℕ → Bool
is_block_changed c notes h f at page =
    is_marked h page
    || not (option_map_or (λ q. q == page) (slice_get (lent_blocks c.bundle f.ino) at) false)
    || nat_lt (noted_size notes f.ino) (min f.size (4096 * at + 4096))

-- a block with the bytes that the bundle has for its page
abbrev pub block_told : Case → ℕ → ℕ → ℕ → ToldBlock
block_told c n at page = record { ino = n; at = at; bytes = unwrap_or (page_of (bundle_core c) page) [] }

-- those of a file's blocks from one position on that are told
abbrev pub changed_blocks : Case → Notes → Handed → RawFile → ℕ → List ℕ → List ToldBlock
changed_blocks c notes h f at [] = []
changed_blocks c notes h f at (page ∷ pages) =
    let rest = changed_blocks c notes h f (at + 1) pages in
    if is_block_changed c notes h f at page then block_told c f.ino at page ∷ rest else rest

-- those of a file whose blocks are these, where blocks of such a file are told at all
abbrev pub blocks_of_kind : Case → Notes → Handed → RawFile → Bool → List ℕ → List ToldBlock
blocks_of_kind c notes h f told pages = if told then changed_blocks c notes h f 0 pages else []

-- the blocks of a judged file, as the listing has them
abbrev pub blocks_listed_of : Listing → ℕ → List ℕ
blocks_listed_of l n = option_map_or (λ f. f.blocks) (find (λ f. f.ino == n) l.files) []

-- The blocks of a release that is accepted; of a directory none is told.
abbrev pub accepted_blocks : Case → Listing → Notes → Handed → List RawFile → List ToldBlock
accepted_blocks c l notes h files = flat_map (λ f. blocks_of_kind c notes h f (not (is_directory f.kind)) (blocks_listed_of l f.ino)) files

-- The blocks of a release that is refused: those of written files that are marked as touched. Of a directory and of a guarded file
-- none is told, since their blocks return.
abbrev pub refused_blocks : Case → Notes → Handed → List RawFile → List ToldBlock
refused_blocks c notes h files = flat_map (λ f. blocks_of_kind c notes h f (not (covers_blocks f.kind f.guard)) (lent_blocks c.bundle f.ino)) files

-- ---- notes

-- what is noted of a file once it is told
abbrev pub note_told : RawFile → Option Note
note_told f = if f.gone then None else Some (record { name = f.name; size = f.size; guard = f.guard })

-- the notes after the files of a release
abbrev pub notes_after : List RawFile → Notes → Notes
notes_after [] notes = notes
notes_after (f ∷ fs) notes = notes_after fs (slice_set notes f.ino (note_told f))
