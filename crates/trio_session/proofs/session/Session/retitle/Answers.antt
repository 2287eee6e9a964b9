use Rattle.trio_session.proofs.Words.{◌*◌, ◌+◌, ◌<◌, ◌∙◌, ◌≡◌, Bool, EntryPart, In, IndexedDir, List, None, Option, Place, SessionSeen, Some, ap, block_number, entry_bytes, entry_shown, eqb, has_names, is_some, length, number_at, option_map_or, page_in, place_at_name, place_of, place_shown, position, refl, renamed, retitled, slice_get, slots_shown, subst, sym, with_item, with_part, with_slot, ℕ}
use Rattle.trio_auxdir.specs.Directory.{Directory as Index}
use Rattle.trio_session.specs.Seen.{retitle}
use Rattle.trio_session.specs.contracts.session.Session.{the_view}
use Rattle.trio_session.proofs.Found.{position-same, slice_get-found}
use Rattle.trio_session.proofs.Indexed.{open_shown}
use Rattle.trio_session.proofs.Kept.{kept_retitled, map_set}
use Rattle.trio_session.proofs.Rooms.{names_room, room_at}
use Rattle.trio_session.proofs.SlotEdits.{entry_on}
use Rattle.trio_session.proofs.Slotted.{dir_index_at, entry_named, entry_shown_on, found_slot, found_there, index_is_there, page_at_block, slot_is, slot_laid, slot_room, slot_view, slot_within}
use Rattle.trio_session.proofs.Stays.{LeavesFiles, at_number, page_leaves}
use Rattle.trio_session.proofs.session.Session.retitle.Goals as goal

pub unwrap-entry-requires : goal.unwrap-entry-requires
unwrap-entry-requires c =
    let s = c.self.inside in
    let v = c.args.self.now in
    let dir = c.args.dir in
    let view = c.self.view_is in
    let is = c.self.invariant in
    let directory = c.requires.open.directory in
    let place = c.unwrap-place.result in
    let lt = found_slot c.place_of.result place c.place_of.ensures.slot c.unwrap-place.ensures in
    let named = found_there (slots_shown v dir) c.args.old.now c.place_of.result place c.place_of.ensures.there c.unwrap-place.ensures in
    let within = slot_within v s dir view is directory place.block place.slot (Some c.args.old.now) lt named in
    let entry = entry_named v s dir view is directory place c.args.old.now lt named in
    ap is_some (c.entry.ensures ∙ entry_shown_on v s dir view is directory place within ∙ entry.1)

pub slot_page-page-requires-clause-block : goal.slot_page-page-requires-clause-block
slot_page-page-requires-clause-block c =
    let s = c.self.inside in
    let v = c.args.self.now in
    let dir = c.args.dir in
    let view = c.self.view_is in
    let is = c.self.invariant in
    let directory = c.requires.open.directory in
    let place = c.unwrap-place.result in
    let lt = found_slot c.place_of.result place c.place_of.ensures.slot c.unwrap-place.ensures in
    let named = found_there (slots_shown v dir) c.args.old.now c.place_of.result place c.place_of.ensures.there c.unwrap-place.ensures in
    let within = slot_within v s dir view is directory place.block place.slot (Some c.args.old.now) lt named in
    within

pub unwrap-at-requires : goal.unwrap-at-requires
unwrap-at-requires c =
    let s = c.self.inside in
    let v = c.args.self.now in
    let dir = c.args.dir in
    let view = c.self.view_is in
    let is = c.self.invariant in
    let directory = c.requires.open.directory in
    ap is_some (c.index_place.ensures ∙ ap (position (λ (x : IndexedDir). eqb x.ino dir)) c.deref.ensures.value) ∙ index_is_there v s dir view is directory c.requires.open.index

pub rename-requires-clause-there : goal.rename-requires-clause-there
rename-requires-clause-there c =
    let s = c.self.inside in
    let v = c.args.self.now in
    let dir = c.args.dir in
    let view = c.self.view_is in
    let is = c.self.invariant in
    let directory = c.requires.open.directory in
    let p : IndexedDir → Bool = λ x. eqb x.ino dir in
    let at = position-same p s.dirs.items c.deref.result.now c.index_place.result (Some c.unwrap-at.result) c.deref.ensures.value c.index_place.ensures c.unwrap-at.ensures in
    let d = c.index_mut.result.now in
    let there = slice_get-found p s.dirs.items c.unwrap-at.result d at c.index_mut.ensures.value in
    let index = dir_index_at v s dir view is directory c.unwrap-at.result d at there in
    ap is_some (ap (place_at_name c.args.old.now) index.1 ∙ sym (ap (λ k. place_of k (slots_shown v dir) c.args.old.now) (open_shown v dir directory))) ∙ c.requires.there

pub rename-requires-clause-new : goal.rename-requires-clause-new
rename-requires-clause-new c =
    let s = c.self.inside in
    let v = c.args.self.now in
    let dir = c.args.dir in
    let view = c.self.view_is in
    let is = c.self.invariant in
    let directory = c.requires.open.directory in
    let p : IndexedDir → Bool = λ x. eqb x.ino dir in
    let at = position-same p s.dirs.items c.deref.result.now c.index_place.result (Some c.unwrap-at.result) c.deref.ensures.value c.index_place.ensures c.unwrap-at.ensures in
    let d = c.index_mut.result.now in
    let there = slice_get-found p s.dirs.items c.unwrap-at.result d at c.index_mut.ensures.value in
    let index = dir_index_at v s dir view is directory c.unwrap-at.result d at there in
    ap (place_at_name c.args.new.now) index.1 ∙ sym (ap (λ k. place_of k (slots_shown v dir) c.args.new.now) (open_shown v dir directory)) ∙ c.requires.new

pub rename-requires-clause-room : goal.rename-requires-clause-room
rename-requires-clause-room c =
    let s = c.self.inside in
    let v = c.args.self.now in
    let dir = c.args.dir in
    let view = c.self.view_is in
    let is = c.self.invariant in
    let directory = c.requires.open.directory in
    let p : IndexedDir → Bool = λ x. eqb x.ino dir in
    let at = position-same p s.dirs.items c.deref.result.now c.index_place.result (Some c.unwrap-at.result) c.deref.ensures.value c.index_place.ensures c.unwrap-at.ensures in
    let d = c.index_mut.result.now in
    let there = slice_get-found p s.dirs.items c.unwrap-at.result d at c.index_mut.ensures.value in
    let index = dir_index_at v s dir view is directory c.unwrap-at.result d at there in
    names_room d (room_at has_names s.dirs.items dir c.unwrap-at.result d is.4.once (subst (λ (x : SessionSeen). In dir x.room.names) (sym view) c.requires.room) there index.0)

pub invariant_of-self : goal.invariant_of-self
invariant_of-self c =
    let s = c.self.inside in
    let v = c.args.self.now in
    let dir = c.args.dir in
    let view = c.self.view_is in
    let is = c.self.invariant in
    let directory = c.requires.open.directory in
    let p : IndexedDir → Bool = λ x. eqb x.ino dir in
    let at = position-same p s.dirs.items c.deref.result.now c.index_place.result (Some c.unwrap-at.result) c.deref.ensures.value c.index_place.ensures c.unwrap-at.ensures in
    let d = c.index_mut.result.now in
    let there = slice_get-found p s.dirs.items c.unwrap-at.result d at c.index_mut.ensures.value in
    let index = dir_index_at v s dir view is directory c.unwrap-at.result d at there in
    let place = c.unwrap-place.result in
    let lt = found_slot c.place_of.result place c.place_of.ensures.slot c.unwrap-place.ensures in
    let named = found_there (slots_shown v dir) c.args.old.now c.place_of.result place c.place_of.ensures.there c.unwrap-place.ensures in
    let within = slot_within v s dir view is directory place.block place.slot (Some c.args.old.now) lt named in
    let k = place.block in
    let slot = place.slot in
    let n = block_number v dir k in
    let page = page_at_block v s dir view is directory c.slot_page-page.result k c.slot_page-page.ensures in
    let number : number_at s.stock c.slot_page-page.result ≡ n = at_number s.stock c.slot_page-page.result n page in
    let whole : length (page_in s.stock n) ≡ 4096 = subst (λ m. length (page_in s.stock m) ≡ 4096) number c.retitle_slot.ensures.whole in
    let slot_in = slot_is v s dir view is directory k slot c.unwrap-at.result d c.slot_page-page.result within lt page whole at there in
    let e = c.unwrap-entry.result in
    let e' : EntryPart = record { ino = e.ino; kind = e.kind; name = c.args.new.now } in
    let entry = entry_named v s dir view is directory place c.args.old.now lt named in
    let one : entry_on (page_in s.stock n) slot ≡ Some e = sym (entry_shown_on v s dir view is directory place within) ∙ sym c.entry.ensures ∙ c.unwrap-entry.ensures in
    let same : entry.0 ≡ e = (let t : Some entry.0 ≡ Some e = sym entry.1 ∙ one in cc t) in
    let positive : 0 < e.ino = subst (λ (x : EntryPart). 0 < x.ino) same entry.3 in
    let b' = c.retitle_slot.new.stock in
    let d' : IndexedDir = record d { dir = c.rename.new.self } in
    let edit : b' ≡ retitled n slot e' s.stock =
    c.retitle_slot.ensures.retitled ∙ ap (λ m. retitled m c.from.result e' s.stock) number ∙ ap (λ m. retitled n m e' s.stock) c.from.ensures in
    let spot : place_at_name c.args.old.now d.dir.slots ≡ Some place =
    ap (place_at_name c.args.old.now) index.1 ∙ sym (ap (λ k. place_of k (slots_shown v dir) c.args.old.now) (open_shown v dir directory)) ∙ sym c.place_of.ensures.place ∙ c.unwrap-place.ensures in
    let kept = kept_retitled s.placed s.reads.items s.stock b' s.laid.items s.made.items s.cleared.items s.dirs.items _ k n slot c.unwrap-at.result d d' e e' slot_in one refl
    (c.retitle_slot.ensures.fits positive) edit
    (record {
      ino = refl;
      inodes = ap (λ (x : Index). x.inodes) c.rename.ensures.renamed;
      slots = ap (λ (x : Index). x.slots) c.rename.ensures.renamed ∙ ap (λ o. with_slot o (Some c.args.new.now) d.dir.slots) spot;
    }) in
    let laid = slot_laid s b' n (with_part (256 * slot) (entry_bytes e') (page_in s.stock n)) is edit in
    (laid.0, laid.1, is.2, kept.0, kept.1, is.5, is.6)

pub returns-clause-kept : goal.returns-clause-kept
unfolding retitle
returns-clause-kept c =
    let s = c.self.inside in
    let v = c.args.self.now in
    let dir = c.args.dir in
    let view = c.self.view_is in
    let is = c.self.invariant in
    let directory = c.requires.open.directory in
    let p : IndexedDir → Bool = λ x. eqb x.ino dir in
    let at = position-same p s.dirs.items c.deref.result.now c.index_place.result (Some c.unwrap-at.result) c.deref.ensures.value c.index_place.ensures c.unwrap-at.ensures in
    let d = c.index_mut.result.now in
    let there = slice_get-found p s.dirs.items c.unwrap-at.result d at c.index_mut.ensures.value in
    let index = dir_index_at v s dir view is directory c.unwrap-at.result d at there in
    let place = c.unwrap-place.result in
    let lt = found_slot c.place_of.result place c.place_of.ensures.slot c.unwrap-place.ensures in
    let named = found_there (slots_shown v dir) c.args.old.now c.place_of.result place c.place_of.ensures.there c.unwrap-place.ensures in
    let within = slot_within v s dir view is directory place.block place.slot (Some c.args.old.now) lt named in
    let k = place.block in
    let slot = place.slot in
    let n = block_number v dir k in
    let page = page_at_block v s dir view is directory c.slot_page-page.result k c.slot_page-page.ensures in
    let number : number_at s.stock c.slot_page-page.result ≡ n = at_number s.stock c.slot_page-page.result n page in
    let whole : length (page_in s.stock n) ≡ 4096 = subst (λ m. length (page_in s.stock m) ≡ 4096) number c.retitle_slot.ensures.whole in
    let slot_in = slot_is v s dir view is directory k slot c.unwrap-at.result d c.slot_page-page.result within lt page whole at there in
    let e = c.unwrap-entry.result in
    let e' : EntryPart = record { ino = e.ino; kind = e.kind; name = c.args.new.now } in
    let entry = entry_named v s dir view is directory place c.args.old.now lt named in
    let one : entry_on (page_in s.stock n) slot ≡ Some e = sym (entry_shown_on v s dir view is directory place within) ∙ sym c.entry.ensures ∙ c.unwrap-entry.ensures in
    let same : entry.0 ≡ e = (let t : Some entry.0 ≡ Some e = sym entry.1 ∙ one in cc t) in
    let positive : 0 < e.ino = subst (λ (x : EntryPart). 0 < x.ino) same entry.3 in
    let b' = c.retitle_slot.new.stock in
    let d' : IndexedDir = record d { dir = c.rename.new.self } in
    let edit : b' ≡ retitled n slot e' s.stock =
    c.retitle_slot.ensures.retitled ∙ ap (λ m. retitled m c.from.result e' s.stock) number ∙ ap (λ m. retitled n m e' s.stock) c.from.ensures in
    let leaves : LeavesFiles s.stock b' = subst (LeavesFiles s.stock) (sym edit) (page_leaves n (with_part (256 * slot) (entry_bytes e') (page_in s.stock n)) s.stock) in
    let ds = with_item s.dirs c.unwrap-at.result d' in
    let step : EntryPart → Place → SessionSeen = λ x q. record v { parcel = retitled (block_number v dir q.block) q.slot (renamed c.args.new.now x) v.parcel } in
    let shown : retitle dir c.args.old.now c.args.new.now v ≡ record v { parcel = retitled n slot e' v.parcel } =
    ap (λ o. option_map_or (λ q. option_map_or (λ x. step x q) (entry_shown v dir q) v) o v) (sym c.place_of.ensures.place ∙ c.unwrap-place.ensures)
    ∙ ap (λ o. option_map_or (λ x. step x place) o v) (sym c.entry.ensures ∙ c.unwrap-entry.ensures) in
    slot_view v s b' (retitled n slot e' v.parcel) ds view leaves (edit ∙ ap (λ (x : SessionSeen). retitled n slot e' x.parcel) view)
    (map_set (λ (x : IndexedDir). x.ino) s.dirs.items c.unwrap-at.result d' d there refl)
    ∙ sym (ap (λ (x : SessionSeen). record x { room = (the_view (record s { stock = b'; dirs = ds })).room }) shown)

pub returns-clause-room : goal.returns-clause-room
returns-clause-room c =
    let s = c.self.inside in
    let v = c.args.self.now in
    let dir = c.args.dir in
    let view = c.self.view_is in
    let is = c.self.invariant in
    let directory = c.requires.open.directory in
    let p : IndexedDir → Bool = λ x. eqb x.ino dir in
    let at = position-same p s.dirs.items c.deref.result.now c.index_place.result (Some c.unwrap-at.result) c.deref.ensures.value c.index_place.ensures c.unwrap-at.ensures in
    let d = c.index_mut.result.now in
    let there = slice_get-found p s.dirs.items c.unwrap-at.result d at c.index_mut.ensures.value in
    let index = dir_index_at v s dir view is directory c.unwrap-at.result d at there in
    let d' : IndexedDir = record d { dir = c.rename.new.self } in
    slot_room v s dir c.unwrap-at.result d d' c.retitle_slot.new.stock (with_item s.dirs c.unwrap-at.result d') view there index.0 refl
