use Rattle.trio_session.proofs.Words.{◌*◌, ◌++◌, ◌+◌, ◌<◌, ◌∙◌, ◌≡◌, ◌≤◌, Bool, EntryPart, In, IndexedDir, List, None, Option, Place, SessionSeen, Some, ap, arith, block_number, cleared, dir_numbers, entry_shown, eqb, filter, has_names, is_some, length, length-map, made_room, made_seen, map, number_at, number_shown, option_map_or, page_in, place_at_name, place_of, position, refl, slice_get, slice_set, slots_shown, subst, sym, true, vec_capacity, with_item, with_part, with_slot, without_made, zeros, ℕ}
use Rattle.trio_auxdir.specs.Directory.{Directory as Index}
use Rattle.trio_session.specs.Seen.{clear}
use Rattle.trio_session.specs.contracts.session.Session.{the_view}
use Rattle.trio_session.proofs.Found.{position-same, slice_get-found}
use Rattle.trio_session.proofs.Indexed.{open_shown}
use Rattle.trio_session.proofs.Kept.{IsSlotOf, files_of, get_set, kept_cleared, map_set}
use Rattle.trio_session.proofs.Removing.{is_removed}
use Rattle.trio_session.proofs.Rooms.{names_more, room_at, room_In}
use Rattle.trio_session.proofs.Lists.{slice_get-In}
use Rattle.trio_session.proofs.SlotEdits.{entry_on}
use Rattle.trio_session.proofs.Slotted.{dir_index_at, entry_named, entry_shown_on, found_slot, found_there, index_is_there, page_at_block, slot_is, slot_laid, slot_room, slot_view, slot_within}
use Rattle.trio_session.proofs.Stays.{LeavesFiles, at_number, page_leaves}
use Rattle.trio_session.proofs.session.Session.clear.Goals as goal

pub unwrap-ino-requires : goal.unwrap-ino-requires
unwrap-ino-requires c =
    let s = c.self.inside in
    let v = c.args.self.now in
    let dir = c.args.dir in
    let view = c.self.view_is in
    let is = c.self.invariant in
    let directory = c.requires.open.directory in
    let place = c.unwrap-place.result in
    let lt = found_slot c.place_of.result place c.place_of.ensures.slot c.unwrap-place.ensures in
    let named = found_there (slots_shown v dir) c.args.name.now c.place_of.result place c.place_of.ensures.there c.unwrap-place.ensures in
    let within = slot_within v s dir view is directory place.block place.slot (Some c.args.name.now) lt named in
    let entry = entry_named v s dir view is directory place c.args.name.now lt named in
    ap is_some (c.entry.ensures ∙ entry_shown_on v s dir view is directory place within ∙ entry.1)

pub slot_page-page-requires-clause-block : goal.slot_page-page-requires-clause-block
slot_page-page-requires-clause-block c =
    let s = c.self.inside in
    let v = c.args.self.now in
    let dir = c.args.dir in
    let view = c.self.view_is in
    let is = c.self.invariant in
    let directory = c.requires.open.directory in
    let place = c.unwrap-place.result in
    let lt = found_slot c.place_of.result place c.place_of.ensures.slot c.unwrap-place.ensures in
    let named = found_there (slots_shown v dir) c.args.name.now c.place_of.result place c.place_of.ensures.there c.unwrap-place.ensures in
    let within = slot_within v s dir view is directory place.block place.slot (Some c.args.name.now) lt named in
    within

pub unwrap-at-requires : goal.unwrap-at-requires
unwrap-at-requires c =
    let s = c.self.inside in
    let v = c.args.self.now in
    let dir = c.args.dir in
    let view = c.self.view_is in
    let is = c.self.invariant in
    let directory = c.requires.open.directory in
    ap is_some (c.index_place.ensures ∙ ap (position (λ (x : IndexedDir). eqb x.ino dir)) c.deref.ensures.value) ∙ index_is_there v s dir view is directory c.requires.open.index

pub remove-requires : goal.remove-requires
remove-requires c =
    let s = c.self.inside in
    let v = c.args.self.now in
    let dir = c.args.dir in
    let view = c.self.view_is in
    let is = c.self.invariant in
    let directory = c.requires.open.directory in
    let p : IndexedDir → Bool = λ x. eqb x.ino dir in
    let at = position-same p s.dirs.items c.deref.result.now c.index_place.result (Some c.unwrap-at.result) c.deref.ensures.value c.index_place.ensures c.unwrap-at.ensures in
    let d = c.index_mut.result.now in
    let there = slice_get-found p s.dirs.items c.unwrap-at.result d at c.index_mut.ensures.value in
    let index = dir_index_at v s dir view is directory c.unwrap-at.result d at there in
    record { there = ap is_some (ap (place_at_name c.args.name.now) index.1 ∙ sym (ap (λ k. place_of k (slots_shown v dir) c.args.name.now) (open_shown v dir directory))) ∙ c.requires.there }

pub invariant_of-self : goal.invariant_of-self
invariant_of-self c =
    let s = c.self.inside in
    let v = c.args.self.now in
    let dir = c.args.dir in
    let view = c.self.view_is in
    let is = c.self.invariant in
    let directory = c.requires.open.directory in
    let p : IndexedDir → Bool = λ x. eqb x.ino dir in
    let at = position-same p s.dirs.items c.deref.result.now c.index_place.result (Some c.unwrap-at.result) c.deref.ensures.value c.index_place.ensures c.unwrap-at.ensures in
    let d = c.index_mut.result.now in
    let there = slice_get-found p s.dirs.items c.unwrap-at.result d at c.index_mut.ensures.value in
    let index = dir_index_at v s dir view is directory c.unwrap-at.result d at there in
    let place = c.unwrap-place.result in
    let lt = found_slot c.place_of.result place c.place_of.ensures.slot c.unwrap-place.ensures in
    let named = found_there (slots_shown v dir) c.args.name.now c.place_of.result place c.place_of.ensures.there c.unwrap-place.ensures in
    let within = slot_within v s dir view is directory place.block place.slot (Some c.args.name.now) lt named in
    let k = place.block in
    let slot = place.slot in
    let n = block_number v dir k in
    let page = page_at_block v s dir view is directory c.slot_page-page.result k c.slot_page-page.ensures in
    let number : number_at s.stock c.slot_page-page.result ≡ n = at_number s.stock c.slot_page-page.result n page in
    let whole : length (page_in s.stock n) ≡ 4096 = subst (λ m. length (page_in s.stock m) ≡ 4096) number c.clear_slot.ensures.whole in
    let slot_in = slot_is v s dir view is directory k slot c.unwrap-at.result d c.slot_page-page.result within lt page whole at there in
    let e : EntryPart = c.unwrap-ino.result in
    let ino = e.ino in
    let entry = entry_named v s dir view is directory place c.args.name.now lt named in
    let one : entry_on (page_in s.stock n) slot ≡ Some e = sym (entry_shown_on v s dir view is directory place within) ∙ sym c.entry.ensures ∙ c.unwrap-ino.ensures in
    let b' = c.clear_slot.new.stock in
    let d' : IndexedDir = record d { dir = c.remove.new.self } in
    let edit : b' ≡ cleared n slot s.stock =
    c.clear_slot.ensures.cleared ∙ ap (λ m. cleared m c.from.result s.stock) number ∙ ap (λ m. cleared n m s.stock) c.from.ensures in
    let ms' = c.remove_made.new.made in
    let cs' = c.remove_made.new.cleared in
    let gone = is_removed s.placed s.reads.items s.stock s.laid.items s.made.items s.cleared.items ms'.items cs'.items ino s.dirs.items is.3 is.4 c.remove_made.ensures.removed in
    let spot : place_at_name c.args.name.now d.dir.slots ≡ Some place =
    ap (place_at_name c.args.name.now) index.1 ∙ sym (ap (λ k. place_of k (slots_shown v dir) c.args.name.now) (open_shown v dir directory)) ∙ sym c.place_of.ensures.place ∙ c.unwrap-place.ensures in
    let x = slot_in in
    let after : IsSlotOf s.placed s.reads.items (files_of s.stock s.laid.items ms'.items cs'.items) s.dirs.items _ k n slot c.unwrap-at.result d = record {
      laid = x.laid;
      made = gone.made;
      are = gone.are;
      one = gone.one _ x.one;
      directory = x.directory;
      block = x.block;
      whole = x.whole;
      below = x.below;
      once = x.once;
      there = x.there;
      number = x.number;
    } in
    let kept = kept_cleared s.placed s.reads.items s.stock b' s.laid.items ms'.items cs'.items s.dirs.items _ k n slot c.unwrap-at.result d d' e after one gone.apart edit
    (record {
      ino = refl;
      inodes = ap (λ (y : Index). y.inodes) c.remove.ensures.removed;
      slots = ap (λ (y : Index). y.slots) c.remove.ensures.removed ∙ ap (λ o. with_slot o None d.dir.slots) spot;
    }) in
    let laid = slot_laid s b' n (with_part (256 * slot) (zeros 4) (page_in s.stock n)) is edit in
    let places : length ms'.items + length cs'.items ≤ vec_capacity cs' = (let le = is.5 in let m = gone.many in let q = c.remove_made.ensures.places in omega (arith, le, m, q)) in
    (laid.0, laid.1, is.2, kept.0, kept.1, places, is.6)

pub returns-clause-kept : goal.returns-clause-kept
unfolding clear
returns-clause-kept c =
    let s = c.self.inside in
    let v = c.args.self.now in
    let dir = c.args.dir in
    let view = c.self.view_is in
    let is = c.self.invariant in
    let directory = c.requires.open.directory in
    let p : IndexedDir → Bool = λ x. eqb x.ino dir in
    let at = position-same p s.dirs.items c.deref.result.now c.index_place.result (Some c.unwrap-at.result) c.deref.ensures.value c.index_place.ensures c.unwrap-at.ensures in
    let d = c.index_mut.result.now in
    let there = slice_get-found p s.dirs.items c.unwrap-at.result d at c.index_mut.ensures.value in
    let index = dir_index_at v s dir view is directory c.unwrap-at.result d at there in
    let place = c.unwrap-place.result in
    let lt = found_slot c.place_of.result place c.place_of.ensures.slot c.unwrap-place.ensures in
    let named = found_there (slots_shown v dir) c.args.name.now c.place_of.result place c.place_of.ensures.there c.unwrap-place.ensures in
    let within = slot_within v s dir view is directory place.block place.slot (Some c.args.name.now) lt named in
    let k = place.block in
    let slot = place.slot in
    let n = block_number v dir k in
    let page = page_at_block v s dir view is directory c.slot_page-page.result k c.slot_page-page.ensures in
    let number : number_at s.stock c.slot_page-page.result ≡ n = at_number s.stock c.slot_page-page.result n page in
    let whole : length (page_in s.stock n) ≡ 4096 = subst (λ m. length (page_in s.stock m) ≡ 4096) number c.clear_slot.ensures.whole in
    let slot_in = slot_is v s dir view is directory k slot c.unwrap-at.result d c.slot_page-page.result within lt page whole at there in
    let e : EntryPart = c.unwrap-ino.result in
    let ino = e.ino in
    let entry = entry_named v s dir view is directory place c.args.name.now lt named in
    let one : entry_on (page_in s.stock n) slot ≡ Some e = sym (entry_shown_on v s dir view is directory place within) ∙ sym c.entry.ensures ∙ c.unwrap-ino.ensures in
    let b' = c.clear_slot.new.stock in
    let d' : IndexedDir = record d { dir = c.remove.new.self } in
    let edit : b' ≡ cleared n slot s.stock =
    c.clear_slot.ensures.cleared ∙ ap (λ m. cleared m c.from.result s.stock) number ∙ ap (λ m. cleared n m s.stock) c.from.ensures in
    let ms' = c.remove_made.new.made in
    let cs' = c.remove_made.new.cleared in
    let gone = is_removed s.placed s.reads.items s.stock s.laid.items s.made.items s.cleared.items ms'.items cs'.items ino s.dirs.items is.3 is.4 c.remove_made.ensures.removed in
    let leaves : LeavesFiles s.stock b' = subst (LeavesFiles s.stock) (sym edit) (page_leaves n (with_part (256 * slot) (zeros 4) (page_in s.stock n)) s.stock) in
    let ds = with_item s.dirs c.unwrap-at.result d' in
    let s1 = record s { made = ms'; cleared = cs' } in
    let u = the_view s in
    let room = (the_view (record s1 { stock = b'; dirs = ds })).room in
    let step : Place → SessionSeen = λ q. record (without_made (number_shown v dir q) v) { parcel = cleared (block_number v dir q.block) q.slot v.parcel } in
    let shown : clear dir c.args.name.now v ≡ record (without_made ino v) { parcel = cleared n slot v.parcel } =
    ap (λ o. option_map_or step o v) (sym c.place_of.ensures.place ∙ c.unwrap-place.ensures)
    ∙ ap (λ o. record (without_made (option_map_or (λ (x : EntryPart). x.ino) o 0) v) { parcel = cleared n slot v.parcel }) (sym c.entry.ensures ∙ c.unwrap-ino.ensures) in
    slot_view (the_view s1) s1 b' (cleared n slot s.stock) ds refl leaves edit (map_set (λ (x : IndexedDir). x.ino) s.dirs.items c.unwrap-at.result d' d there refl)
    ∙ ap (λ ms. record u { parcel = cleared n slot s.stock; made = ms; cleared = map (made_seen s.stock) cs'.items; room = room }) gone.rest
    ∙ ap (λ cs. record u { parcel = cleared n slot s.stock; made = (without_made ino u).made; cleared = cs; room = room }) gone.gone
    ∙ ap (λ (x : SessionSeen). record (without_made ino x) { parcel = cleared n slot x.parcel; room = room }) view
    ∙ sym (ap (λ (x : SessionSeen). record x { room = room }) shown)

pub returns-clause-room : goal.returns-clause-room
returns-clause-room c =
    let s = c.self.inside in
    let v = c.args.self.now in
    let dir = c.args.dir in
    let view = c.self.view_is in
    let is = c.self.invariant in
    let directory = c.requires.open.directory in
    let p : IndexedDir → Bool = λ x. eqb x.ino dir in
    let at = position-same p s.dirs.items c.deref.result.now c.index_place.result (Some c.unwrap-at.result) c.deref.ensures.value c.index_place.ensures c.unwrap-at.ensures in
    let d = c.index_mut.result.now in
    let there = slice_get-found p s.dirs.items c.unwrap-at.result d at c.index_mut.ensures.value in
    let index = dir_index_at v s dir view is directory c.unwrap-at.result d at there in
    let d' : IndexedDir = record d { dir = c.remove.new.self } in
    let s1 = record s { made = c.remove_made.new.made; cleared = c.remove_made.new.cleared } in
    let ds = with_item s.dirs c.unwrap-at.result d' in
    let r = slot_room v s dir c.unwrap-at.result d d' c.clear_slot.new.stock ds view there index.0 refl in
    record { calls = r.calls; slots = r.slots; names = r.names }

pub returns-clause-names : goal.returns-clause-names
returns-clause-names c =
    let s = c.self.inside in
    let v = c.args.self.now in
    let dir = c.args.dir in
    let view = c.self.view_is in
    let is = c.self.invariant in
    let directory = c.requires.open.directory in
    let p : IndexedDir → Bool = λ x. eqb x.ino dir in
    let at = position-same p s.dirs.items c.deref.result.now c.index_place.result (Some c.unwrap-at.result) c.deref.ensures.value c.index_place.ensures c.unwrap-at.ensures in
    let d = c.index_mut.result.now in
    let there = slice_get-found p s.dirs.items c.unwrap-at.result d at c.index_mut.ensures.value in
    let index = dir_index_at v s dir view is directory c.unwrap-at.result d at there in
    let d' : IndexedDir = record d { dir = c.remove.new.self } in
    λ i.
    let has : has_names d ≡ true = room_at has_names s.dirs.items dir c.unwrap-at.result d is.4.once (subst (λ (x : SessionSeen). In dir x.room.names) (sym view) i) there index.0 in
    let still : has_names d' ≡ true = names_more d d' c.remove.ensures.names has in
    subst (λ m. In m (dir_numbers (filter has_names (slice_set s.dirs.items c.unwrap-at.result d')))) index.0
    (room_In has_names (slice_set s.dirs.items c.unwrap-at.result d') d' (slice_get-In (slice_set s.dirs.items c.unwrap-at.result d') c.unwrap-at.result d' (get_set s.dirs.items c.unwrap-at.result d' d there)) still)

pub returns-clause-place : goal.returns-clause-place
returns-clause-place c = λ lt.
    let s = c.self.inside in
    let ms' = c.remove_made.new.made in
    let cs' = c.remove_made.new.cleared in
    let gone = is_removed s.placed s.reads.items s.stock s.laid.items s.made.items s.cleared.items ms'.items cs'.items c.unwrap-ino.result.ino s.dirs.items c.self.invariant.3 c.self.invariant.4 c.remove_made.ensures.removed in
    let was : length (map (made_seen s.stock) s.made.items) < made_room s.made s.cleared = subst (λ (x : SessionSeen). length x.made < x.room.made) (sym c.self.view_is) lt in
    let old = length-map s.made.items (made_seen s.stock) in
    let new = length-map ms'.items (made_seen c.clear_slot.new.stock) in
    (let many = gone.many in let fewer = gone.fewer in let q = c.remove_made.ensures.places in let r = c.remove_made.ensures.made_places in omega (arith, was, old, new, many, fewer, q, r))
