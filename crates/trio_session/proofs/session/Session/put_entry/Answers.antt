use Rattle.trio_session.proofs.Words.{◌*◌, ◌++◌, ◌+◌, ◌<◌, ◌∙◌, ◌≡◌, Bool, EntryPart, In, IndexedDir, List, None, Parcel, SessionSeen, Some, Vec, ap, block_number, chain_in, dir_numbers, entry_bytes, eqb, every_number, filled, has_names, is_some, length, number_at, page_in, place_at_name, place_of, position, refl, slice_get, slots_of, slots_shown, subst, sym, with_item, with_part, ℕ}
use Rattle.trio_auxdir.specs.Directory.{Directory as Index}
use Rattle.trio_session.proofs.Found.{position-same, slice_get-found}
use Rattle.trio_session.proofs.Indexed.{open_shown}
use Rattle.trio_session.proofs.Kept.{kept_filled, map_set, slot_on-entry_on}
use Rattle.trio_session.proofs.Rooms.{names_room, room_at}
use Rattle.trio_session.proofs.SlotEdits.{entry_on, slot_on-slots_of}
use Rattle.trio_session.proofs.Slotted.{block_there, dir_index_at, dir_shown, index_is_there, none_on, page_at_block, slot_is, slot_laid, slot_room, slot_view, slot_within}
use Rattle.trio_session.proofs.Stays.{LeavesFiles, at_number, page_leaves}
use Rattle.trio_session.proofs.session.Session.put_entry.Goals as goal

pub slot_page-page-requires-clause-block : goal.slot_page-page-requires-clause-block
slot_page-page-requires-clause-block c =
    let s = c.self.inside in
    let v = c.args.self.now in
    let dir = c.args.dir in
    let view = c.self.view_is in
    let is = c.self.invariant in
    let directory = c.requires.open.directory in
    slot_within v s dir view is directory c.args.place.block c.args.place.slot None c.requires.slot c.requires.empty

pub unwrap-at-requires : goal.unwrap-at-requires
unwrap-at-requires c =
    let s = c.self.inside in
    let v = c.args.self.now in
    let dir = c.args.dir in
    let view = c.self.view_is in
    let is = c.self.invariant in
    let directory = c.requires.open.directory in
    ap is_some (c.index_place.ensures ∙ ap (position (λ (x : IndexedDir). eqb x.ino dir)) c.deref.ensures.value) ∙ index_is_there v s dir view is directory c.requires.open.index

pub add-requires-clause-new : goal.add-requires-clause-new
add-requires-clause-new c =
    let s = c.self.inside in
    let v = c.args.self.now in
    let dir = c.args.dir in
    let view = c.self.view_is in
    let is = c.self.invariant in
    let directory = c.requires.open.directory in
    let p : IndexedDir → Bool = λ x. eqb x.ino dir in
    let at = position-same p s.dirs.items c.deref.result.now c.index_place.result (Some c.unwrap-at.result) c.deref.ensures.value c.index_place.ensures c.unwrap-at.ensures in
    let d = c.index_mut.result.now in
    let there = slice_get-found p s.dirs.items c.unwrap-at.result d at c.index_mut.ensures.value in
    let index = dir_index_at v s dir view is directory c.unwrap-at.result d at there in
    ap (place_at_name c.args.entry.now.name) index.1 ∙ sym (ap (λ k. place_of k (slots_shown v dir) c.args.entry.now.name) (open_shown v dir directory)) ∙ c.requires.new

pub add-requires-clause-empty : goal.add-requires-clause-empty
add-requires-clause-empty c =
    let s = c.self.inside in
    let v = c.args.self.now in
    let dir = c.args.dir in
    let view = c.self.view_is in
    let is = c.self.invariant in
    let directory = c.requires.open.directory in
    let p : IndexedDir → Bool = λ x. eqb x.ino dir in
    let at = position-same p s.dirs.items c.deref.result.now c.index_place.result (Some c.unwrap-at.result) c.deref.ensures.value c.index_place.ensures c.unwrap-at.ensures in
    let d = c.index_mut.result.now in
    let there = slice_get-found p s.dirs.items c.unwrap-at.result d at c.index_mut.ensures.value in
    let index = dir_index_at v s dir view is directory c.unwrap-at.result d at there in
    ap (λ xs. slice_get xs (16 * c.args.place.block + c.args.place.slot)) index.1 ∙ c.requires.empty

pub add-requires-clause-room : goal.add-requires-clause-room
add-requires-clause-room c =
    let s = c.self.inside in
    let v = c.args.self.now in
    let dir = c.args.dir in
    let view = c.self.view_is in
    let is = c.self.invariant in
    let directory = c.requires.open.directory in
    let p : IndexedDir → Bool = λ x. eqb x.ino dir in
    let at = position-same p s.dirs.items c.deref.result.now c.index_place.result (Some c.unwrap-at.result) c.deref.ensures.value c.index_place.ensures c.unwrap-at.ensures in
    let d = c.index_mut.result.now in
    let there = slice_get-found p s.dirs.items c.unwrap-at.result d at c.index_mut.ensures.value in
    let index = dir_index_at v s dir view is directory c.unwrap-at.result d at there in
    names_room d (room_at has_names s.dirs.items dir c.unwrap-at.result d is.4.once (subst (λ (x : SessionSeen). In dir x.room.names) (sym view) c.requires.room) there index.0)

pub invariant_of-self : goal.invariant_of-self
invariant_of-self c =
    let s = c.self.inside in
    let v = c.args.self.now in
    let dir = c.args.dir in
    let view = c.self.view_is in
    let is = c.self.invariant in
    let directory = c.requires.open.directory in
    let p : IndexedDir → Bool = λ x. eqb x.ino dir in
    let at = position-same p s.dirs.items c.deref.result.now c.index_place.result (Some c.unwrap-at.result) c.deref.ensures.value c.index_place.ensures c.unwrap-at.ensures in
    let d = c.index_mut.result.now in
    let there = slice_get-found p s.dirs.items c.unwrap-at.result d at c.index_mut.ensures.value in
    let index = dir_index_at v s dir view is directory c.unwrap-at.result d at there in
    let k = c.args.place.block in
    let n = block_number v dir k in
    let within = slot_within v s dir view is directory c.args.place.block c.args.place.slot None c.requires.slot c.requires.empty in
    let place = page_at_block v s dir view is directory c.slot_page-page.result k c.slot_page-page.ensures in
    let number : number_at s.stock c.slot_page-page.result ≡ n = at_number s.stock c.slot_page-page.result n place in
    let whole : length (page_in s.stock n) ≡ 4096 = subst (λ m. length (page_in s.stock m) ≡ 4096) number c.fill_slot.ensures.whole in
    let slot_in = slot_is v s dir view is directory k c.args.place.slot c.unwrap-at.result d c.slot_page-page.result within c.requires.slot place whole at there in
    let e = c.args.entry.now in
    let body = c.args.body.now in
    let slot = c.args.place.slot in
    let b' = c.fill_slot.new.stock in
    let d' : IndexedDir = record d { dir = c.add.new.self } in
    let edit : b' ≡ filled n slot e body s.stock =
    c.fill_slot.ensures.filled ∙ ap (λ m. filled m c.from.result e body s.stock) number ∙ ap (λ m. filled n m e body s.stock) c.from.ensures in
    let empty : entry_on (page_in s.stock n) slot ≡ None =
    none_on (page_in s.stock n) slot (slot_on-slots_of s.stock (chain_in v dir).blocks k slot n None c.requires.slot (block_there v s dir view is directory k within)
    (subst (λ xs. slice_get xs (16 * k + slot) ≡ Some None) (dir_shown v s dir view is directory) c.requires.empty)) in
    let kept = kept_filled s.placed s.reads.items s.stock b' s.laid.items s.made.items s.cleared.items s.dirs.items _ k n slot c.unwrap-at.result d d' e body slot_in empty
    (c.fill_slot.ensures.fits c.requires.number) c.told-body edit
    (record { ino = refl; inodes = ap (λ (x : Index). x.inodes) c.add.ensures.added; slots = ap (λ (x : Index). x.slots) c.add.ensures.added }) in
    let laid = slot_laid s b' n (with_part (256 * slot) (entry_bytes e ++ body) (page_in s.stock n)) is edit in
    (laid.0, laid.1, is.2, kept.0, kept.1, is.5, is.6)

pub returns-clause-kept : goal.returns-clause-kept
returns-clause-kept c =
    let s = c.self.inside in
    let v = c.args.self.now in
    let dir = c.args.dir in
    let view = c.self.view_is in
    let is = c.self.invariant in
    let directory = c.requires.open.directory in
    let p : IndexedDir → Bool = λ x. eqb x.ino dir in
    let at = position-same p s.dirs.items c.deref.result.now c.index_place.result (Some c.unwrap-at.result) c.deref.ensures.value c.index_place.ensures c.unwrap-at.ensures in
    let d = c.index_mut.result.now in
    let there = slice_get-found p s.dirs.items c.unwrap-at.result d at c.index_mut.ensures.value in
    let index = dir_index_at v s dir view is directory c.unwrap-at.result d at there in
    let k = c.args.place.block in
    let n = block_number v dir k in
    let within = slot_within v s dir view is directory c.args.place.block c.args.place.slot None c.requires.slot c.requires.empty in
    let place = page_at_block v s dir view is directory c.slot_page-page.result k c.slot_page-page.ensures in
    let number : number_at s.stock c.slot_page-page.result ≡ n = at_number s.stock c.slot_page-page.result n place in
    let whole : length (page_in s.stock n) ≡ 4096 = subst (λ m. length (page_in s.stock m) ≡ 4096) number c.fill_slot.ensures.whole in
    let slot_in = slot_is v s dir view is directory k c.args.place.slot c.unwrap-at.result d c.slot_page-page.result within c.requires.slot place whole at there in
    let e = c.args.entry.now in
    let body = c.args.body.now in
    let slot = c.args.place.slot in
    let b' = c.fill_slot.new.stock in
    let d' : IndexedDir = record d { dir = c.add.new.self } in
    let edit : b' ≡ filled n slot e body s.stock =
    c.fill_slot.ensures.filled ∙ ap (λ m. filled m c.from.result e body s.stock) number ∙ ap (λ m. filled n m e body s.stock) c.from.ensures in
    let leaves : LeavesFiles s.stock b' = subst (LeavesFiles s.stock) (sym edit) (page_leaves n (with_part (256 * slot) (entry_bytes e ++ body) (page_in s.stock n)) s.stock) in
    slot_view v s b' (filled n slot e body v.parcel) (with_item s.dirs c.unwrap-at.result d') view leaves (edit ∙ ap (λ (x : SessionSeen). filled n slot e body x.parcel) view)
    (map_set (λ (x : IndexedDir). x.ino) s.dirs.items c.unwrap-at.result d' d there refl)

pub returns-clause-room : goal.returns-clause-room
returns-clause-room c =
    let s = c.self.inside in
    let v = c.args.self.now in
    let dir = c.args.dir in
    let view = c.self.view_is in
    let is = c.self.invariant in
    let directory = c.requires.open.directory in
    let p : IndexedDir → Bool = λ x. eqb x.ino dir in
    let at = position-same p s.dirs.items c.deref.result.now c.index_place.result (Some c.unwrap-at.result) c.deref.ensures.value c.index_place.ensures c.unwrap-at.ensures in
    let d = c.index_mut.result.now in
    let there = slice_get-found p s.dirs.items c.unwrap-at.result d at c.index_mut.ensures.value in
    let index = dir_index_at v s dir view is directory c.unwrap-at.result d at there in
    let d' : IndexedDir = record d { dir = c.add.new.self } in
    slot_room v s dir c.unwrap-at.result d d' c.fill_slot.new.stock (with_item s.dirs c.unwrap-at.result d') view there index.0 refl

pub returns-clause-fits : goal.returns-clause-fits
returns-clause-fits c = c.fill_slot.ensures.fits c.requires.number

pub returns-clause-whole : goal.returns-clause-whole
returns-clause-whole c =
    let s = c.self.inside in
    let v = c.args.self.now in
    let n = block_number v c.args.dir c.args.place.block in
    let place = page_at_block v s c.args.dir c.self.view_is c.self.invariant c.requires.open.directory c.slot_page-page.result c.args.place.block c.slot_page-page.ensures in
    let number = at_number s.stock c.slot_page-page.result n place in
    subst (λ (x : SessionSeen). length (page_in x.parcel n) ≡ 4096) c.self.view_is (subst (λ m. length (page_in s.stock m) ≡ 4096) number c.fill_slot.ensures.whole)
