-- An edit of a slot of a directory: the slot, the directory's index, and what the session shows after it.
use Rattle.trio_session.proofs.Words.{if◌then◌else◌, ◌*◌, ◌+◌, ◌<◌, ◌∙◌, ◌≡◌, ◌≢◌, ◌≤◌, AreLaid, AreRead, Chain, Directory, EntryPart, FilePlace, IfSome, In, IndexedDir, Inside, IsAt, IsFileOn, IsOne, Laid, List, None, OneFile, Option, PagePlace, Parcel, Place, SessionSeen, Shown, Some, Vec, [], ap, block_number, chain_at, chain_in, dir_numbers, dir_pages, entry_in, entry_shown, eqb, eqb-true, every_number, filter, find, has_names, has_slots, inl, inr, is_some, kind_shown, length, lent_bytes, map, number_at, open_kind, option_and_then, option_map, option_map_or, option_or, page_in, position, read_file, refl, slice_get, slice_get-get_or, slice_set, slot_bytes, slot_number, slot_of, slot_on, slots_of, slots_shown, subst, sym, true, with_page, with_part, ℕ}
use Rattle.trio_session.specs.Seen.{LeavesRoom}
use Rattle.trio_session.specs.contracts.session.Session.{the_invariant, the_view}
use Rattle.trio_session.proofs.Chained.{there_found}
use Rattle.trio_session.proofs.Found.{find-position, position-passes}
use Rattle.trio_session.proofs.Indexed.{index_shown, open_shown}
use Rattle.trio_session.proofs.Insides.{files_in}
use Rattle.trio_session.proofs.Kept.{IsSlotOf, slot_on-entry_on}
use Rattle.trio_session.proofs.Opens.{has_file, is_there, pages_left, shows_view, view_left}
use Rattle.trio_session.proofs.Rooms.{index_there, room_beside}
use Rattle.trio_session.proofs.Sessions.{laid_left}
use Rattle.trio_session.proofs.SlotEdits.{block_within, entry_on, entry_on-named, slot_on-slots_of, whole_at}
use Rattle.trio_session.proofs.Stays.{LeavesFiles, body_stays, page_leaves}

module _ (v : SessionSeen) (s : Inside) (dir : ℕ) (view : the_view s ≡ v) (is : the_invariant s) (directory : open_kind v dir ≡ Some Directory) where
  -- the directory
  pub dir_one : (x : OneFile) × (IsOne (files_in s) x) × (x.ino ≡ dir) × (x.kind ≡ Directory) × (chain_at s.stock x.file x.laid ≡ chain_in v dir)
  dir_one =
      let at = there_found (files_in s) dir is.0 (is_there v (files_in s) dir (shows_view v s view) (ap is_some directory)) in
      let here = has_file v s dir at.0 at.1 view is at.2 in
      let x = here.found.one in (
        x,
        here.found.is,
        here.found.ino,
        (let t : Some x.kind ≡ Some Directory = sym here.found.kind ∙ directory in cc t),
        ap (λ f. chain_at s.stock f x.laid) here.found.place ∙ ap (chain_at s.stock at.0) here.found.laid ∙ here.chain,
      )

  -- its slots
  pub dir_shown : slots_shown v dir ≡ slots_of every_number (map (page_in s.stock) (chain_in v dir).blocks)
  dir_shown =
      ap (λ o. slots_of every_number (if is_some o then map (page_in v.parcel) (chain_in v dir).blocks else option_map_or dir_pages (read_file v dir) [])) directory
      ∙ ap (λ (x : SessionSeen). slots_of every_number (map (page_in x.parcel) (chain_in v dir).blocks)) (sym view)

  -- a slot that is there is on a block
  pub slot_within : (k slot : ℕ) (x : Option (List ℕ)) → slot < 16 → slice_get (slots_shown v dir) (16 * k + slot) ≡ Some x → k < length (chain_in v dir).blocks
  slot_within k slot x lt e = block_within s.stock (chain_in v dir).blocks k slot x lt (subst (λ xs. slice_get xs (16 * k + slot) ≡ Some x) dir_shown e)

  pub block_there : (k : ℕ) → k < length (chain_in v dir).blocks → slice_get (chain_in v dir).blocks k ≡ Some (block_number v dir k)
  block_there k lt = slice_get-get_or (chain_in v dir).blocks k 0 lt

  -- its index
  pub dir_index_at : (at : ℕ) (d : IndexedDir) → position (λ x. eqb x.ino dir) s.dirs.items ≡ Some at → slice_get s.dirs.items at ≡ Some d → (d.ino ≡ dir) × (d.dir.slots ≡ slots_shown v dir)
  dir_index_at at d e there = (
    eqb-true d.ino dir (position-passes (λ (x : IndexedDir). eqb x.ino dir) s.dirs.items at d e there),
    index_shown v s.placed s.reads.items (files_in s) s.dirs.items dir d (shows_view v s view) (sym (ap (λ (x : SessionSeen). x.reads) view)) is.0 is.3 is.4 (open_shown v dir directory)
        ((find-position (λ (x : IndexedDir). eqb x.ino dir) s.dirs.items at e).0 ∙ there),
  )

  pub index_is_there : In dir v.indexed → is_some (position (λ x. eqb x.ino dir) s.dirs.items) ≡ true
  index_is_there i = index_there s.dirs.items dir (subst (λ (x : SessionSeen). In dir x.indexed) (sym view) i)

  -- the page of a block, inside
  pub page_at_block : (page : PagePlace) (k : ℕ) → IsAt v.parcel page (block_number v dir k) → IsAt s.stock page (block_number v dir k)
  page_at_block page k at = subst (λ (x : SessionSeen). IsAt x.parcel page (block_number v dir k)) (sym view) at

  -- the slot
  pub slot_is : (k slot at : ℕ) (d : IndexedDir) (page : PagePlace) → k < length (chain_in v dir).blocks → slot < 16 → IsAt s.stock page (block_number v dir k)
      → length (page_in s.stock (block_number v dir k)) ≡ 4096 → position (λ x. eqb x.ino dir) s.dirs.items ≡ Some at → slice_get s.dirs.items at ≡ Some d
      → IsSlotOf s.placed s.reads.items (files_in s) s.dirs.items dir_one.0 k (block_number v dir k) slot at d
  slot_is k slot at d page within lt place whole e there = record {
    laid = is.0;
    made = is.3;
    are = is.4;
    one = dir_one.1;
    directory = dir_one.3;
    block = ap (λ (ch : Chain). slice_get ch.blocks k) dir_one.4 ∙ block_there k within;
    whole = whole_at s.stock page (block_number v dir k) place whole;
    below = lt;
    once = is.4.once;
    there = there;
    number = (dir_index_at at d e there).0 ∙ sym dir_one.2;
  }

  -- an entry is that in its slot
  pub entry_shown_on : (place : Place) → place.block < length (chain_in v dir).blocks → entry_shown v dir place ≡ entry_on (page_in s.stock (block_number v dir place.block)) place.slot
  entry_shown_on place within =
      ap (λ o. option_and_then (λ bytes. entry_in (slot_of every_number (slot_bytes place.slot bytes))) (if is_some o then option_map (page_in v.parcel) (slice_get (chain_in v dir).blocks place.block)
      else option_and_then (λ f. lent_bytes f.blocks place.block) (read_file v dir))) directory
      ∙ ap (λ o. option_and_then (λ bytes. entry_in (slot_of every_number (slot_bytes place.slot bytes))) (option_map (page_in v.parcel) o)) (block_there place.block within)
      ∙ ap (λ (x : SessionSeen). entry_on (page_in x.parcel (block_number v dir place.block)) place.slot) (sym view)

  -- the entry of a name that is there
  pub entry_named : (place : Place) (name : List ℕ) → place.slot < 16 → slice_get (slots_shown v dir) (16 * place.block + place.slot) ≡ Some (Some name)
      → (e : EntryPart) × (entry_on (page_in s.stock (block_number v dir place.block)) place.slot ≡ Some e) × (e.name ≡ name) × (0 < e.ino)
  entry_named place name lt e =
      let within = slot_within place.block place.slot (Some name) lt e in
      entry_on-named (page_in s.stock (block_number v dir place.block)) place.slot name
      (slot_on-slots_of s.stock (chain_in v dir).blocks place.block place.slot (block_number v dir place.block) (Some name) lt (block_there place.block within)
      (subst (λ xs. slice_get xs (16 * place.block + place.slot) ≡ Some (Some name)) dir_shown e))

-- what the session shows after an edit of a page and of an index
pub slot_view : (v : SessionSeen) (s : Inside) (b' p' : Parcel) (ds : Vec IndexedDir) → the_view s ≡ v → LeavesFiles s.stock b' → b' ≡ p' → dir_numbers ds.items ≡ dir_numbers s.dirs.items
    → the_view (record s { stock = b'; dirs = ds }) ≡ record v { parcel = p'; room = (the_view (record s { stock = b'; dirs = ds })).room }
slot_view v s b' p' ds view leaves edit same =
    let room = (the_view (record s { stock = b'; dirs = ds })).room in
    ap (λ (x : SessionSeen). record x { indexed = dir_numbers ds.items; room = room }) (view_left s b' leaves)
    ∙ ap (λ ns. record (the_view s) { parcel = b'; indexed = ns; room = room }) same
    ∙ ap (λ p. record (the_view s) { parcel = p; room = room }) edit
    ∙ ap (λ (x : SessionSeen). record x { parcel = p'; room = room }) view

-- the files stay laid, and as many pages stay
pub slot_laid : (s : Inside) (b' : Parcel) (n : ℕ) (w : List ℕ) → the_invariant s → b' ≡ with_page n w s.stock → AreLaid b' s.laid.items × (s.placed ≤ length b'.pages)
slot_laid s b' n w is e = subst (λ x. AreLaid x s.laid.items × (s.placed ≤ length x.pages)) (sym e)
    (laid_left s.stock (with_page n w s.stock) s.laid.items (page_leaves n w s.stock) (body_stays n w s.stock) is.0, rw (pages_left s.stock (with_page n w s.stock) (page_leaves n w s.stock)) is.1)

-- other indexes keep their room
pub slot_room : (v : SessionSeen) (s : Inside) (dir at : ℕ) (d d' : IndexedDir) (b' : Parcel) (ds : Vec IndexedDir) → the_view s ≡ v → slice_get s.dirs.items at ≡ Some d → d.ino ≡ dir
    → ds.items ≡ slice_set s.dirs.items at d' → LeavesRoom dir v (the_view (record s { stock = b'; dirs = ds }))
slot_room v s dir at d d' b' ds view there number same = record {
  calls = ap (λ (x : SessionSeen). x.room.calls) view;
  slots = λ n apart i. subst (λ xs. In n (dir_numbers (filter has_slots xs))) (sym same)
      (room_beside has_slots s.dirs.items n dir at d d' there number apart (subst (λ (x : SessionSeen). In n x.room.slots) (sym view) i));
  names = λ n apart i. subst (λ xs. In n (dir_numbers (filter has_names xs))) (sym same)
      (room_beside has_names s.dirs.items n dir at d d' there number apart (subst (λ (x : SessionSeen). In n x.room.names) (sym view) i));
}

-- a slot without a name has no entry
pub none_on : (page : List ℕ) (slot : ℕ) → slot_on every_number page slot ≡ None → entry_on page slot ≡ None
none_on page slot e = by (entry_on page slot) refl
  where
    by : (o : Option EntryPart) → entry_on page slot ≡ o → entry_on page slot ≡ None
    by None k = k
    by (Some x) k = absurd (let t : Some x.name ≡ None = sym (slot_on-entry_on page slot ∙ ap (option_map (λ (y : EntryPart). y.name)) k) ∙ e in cc t)

-- the place that was found
pub found_slot : (o : Option Place) (place : Place) → IfSome o (λ p. p.slot < 16) → o ≡ Some place → place.slot < 16
found_slot o place has e = subst (λ q. IfSome q (λ (p : Place). p.slot < 16)) e has

pub found_there : (slots : List (Option (List ℕ))) (name : List ℕ) (o : Option Place) (place : Place) → IfSome o (λ p. slice_get slots (slot_number p) ≡ Some (Some name)) → o ≡ Some place
    → slice_get slots (slot_number place) ≡ Some (Some name)
found_there slots name o place has e = subst (λ q. IfSome q (λ (p : Place). slice_get slots (slot_number p) ≡ Some (Some name))) e has

-- a directory without an index is in the grammar
pub readable_open : (v : SessionSeen) (s : Inside) (ino : ℕ) (file : FilePlace) (l : Laid) → the_view s ≡ v → the_invariant s → IsFileOn v ino file l → kind_shown v ino ≡ Some Directory
    → (In ino v.indexed → ⊥) → AreRead (map (page_in s.stock) (chain_at s.stock file l).blocks)
readable_open v s ino file l view is on kind new =
    let there = there_found (files_in s) ino is.0 (is_there v (files_in s) ino (shows_view v s view) on.is_open) in
    let here = has_file v s ino there.0 there.1 view is there.2 in
    let x = here.found.one in
    let dir : x.kind ≡ Directory = (let t : Some x.kind ≡ Some Directory = sym (ap (λ o. option_or o (option_map (λ (f : Shown). f.kind) (read_file v ino))) here.found.kind) ∙ kind in cc t) in
    let chain : chain_at s.stock x.file x.laid ≡ chain_at s.stock file l =
    ap (λ f. chain_at s.stock f x.laid) here.found.place ∙ ap (chain_at s.stock there.0) here.found.laid ∙ here.chain ∙ sym on.chain ∙ ap (λ (y : SessionSeen). chain_at y.parcel file l) (sym view) in
    elim (is.4.readable x here.found.is dir) [
      | inl i ↦ absurd (new (subst (λ n. In n v.indexed) here.found.ino (subst (λ (y : SessionSeen). In x.ino y.indexed) view i)))
      | inr read ↦ subst (λ (ch : Chain). AreRead (map (page_in s.stock) ch.blocks)) chain read
    ]
