use Rattle.trio_session.proofs.Words.{◌*◌, ◌++◌, ◌+◌, ◌<◌, ◌∙◌, ◌≡◌, Bool, EntryPart, In, IsMadeAt, List, None, Parcel, SessionSeen, Some, ap, block_number, chain_in, empty_shown, entry_bytes, false, filled, filled_at, ino_numbers, is_allotted, is_among, length, number_at, option_map_or, page_in, refl, slice_get, slice_get-get_or, slot_number, slots_shown, subst, sym, true, with_made, with_part, ℕ, false≢true}
use Rattle.trio_session.specs.Seen.{body_in, cleared_file, fill}
use Rattle.trio_session.proofs.Filling.{filled_body, filled_made, first_empty-there, grant_unmade, with_made-else, with_made-filled, within_shown}
use Rattle.trio_session.proofs.Lists.{slice_get-In}
use Rattle.trio_session.proofs.Places.{number_at-map}
use Rattle.trio_session.proofs.SlotEdits.{whole_at}
use Rattle.trio_session.proofs.Stays.{LeavesFiles, at_number, page_leaves}
use Rattle.trio_session.proofs.session.Session.fill.Goals as goal

pub slot_page-page-requires-clause-block : goal.slot_page-page-requires-clause-block
slot_page-page-requires-clause-block c =
    let v = c.args.self.now in
    let place = c.unwrap-place.result in
    let at = first_empty-there (slots_shown v c.args.dir) place (sym c.first_empty.ensures ∙ c.unwrap-place.ensures) in
    within_shown v c.args.dir place.block place.slot None c.requires.open.directory at.0 at.1

pub put_entry-requires-clause-empty : goal.put_entry-requires-clause-empty
put_entry-requires-clause-empty c = (first_empty-there (slots_shown c.args.self.now c.args.dir) c.unwrap-place.result (sym c.first_empty.ensures ∙ c.unwrap-place.ensures)).1

pub add_made-requires : goal.add_made-requires
add_made-requires c =
    let v = c.args.self.now in
    let dir = c.args.dir in
    let place = c.unwrap-place.result in
    let page = c.slot_page-page.result in
    let e : EntryPart = record { ino = c.args.ino; kind = c.args.kind; name = c.args.name.now } in
    let body = c.args.body.now in
    let n = block_number v dir place.block in
    let slot = place.slot in
    let w = with_part (256 * slot) (entry_bytes e ++ body) (page_in v.parcel n) in
    let leaves : LeavesFiles v.parcel (filled n slot e body v.parcel) = page_leaves n w v.parcel in
    let at = first_empty-there (slots_shown v dir) place (sym c.first_empty.ensures ∙ c.unwrap-place.ensures) in
    let within = within_shown v dir place.block slot None c.requires.open.directory at.0 at.1 in
    let block : In n (chain_in v dir).blocks = slice_get-In (chain_in v dir).blocks place.block n (slice_get-get_or (chain_in v dir).blocks place.block 0 within) in
    let whole = whole_at v.parcel page n c.slot_page-page.ensures c.put_entry.ensures.whole in
    let now = c.self.view_is ∙ c.put_entry.ensures.kept in
    let allotted : is_allotted v c.args.ino ≡ true =
    sym (ap (λ (x : SessionSeen). is_among c.args.ino (ino_numbers x.parcel.inodes)) now ∙ ap (λ ns. is_among c.args.ino (ino_numbers ns)) leaves.inodes) ∙ sym c.has_ino.ensures ∙ c.if-has_ino.true in
    let it = filled_made v dir n slot e body c.put_entry.new.self.room page whole at.0 c.put_entry.ensures.fits c.told-body c.requires.open.directory block c.slot_page-page.ensures
    c.put_entry.ensures.made allotted (c.requires.made allotted) in
    subst (IsMadeAt c.put_entry.new.self c.args.ino c.args.kind page) (sym c.from.ensures)
    (subst (λ x. IsMadeAt x c.args.ino c.args.kind page slot) (sym c.put_entry.ensures.kept) it)

pub returns-then-has_ino-clause-kept : goal.returns-then-has_ino-clause-kept
unfolding fill
returns-then-has_ino-clause-kept c =
    let v = c.args.self.now in
    let dir = c.args.dir in
    let place = c.unwrap-place.result in
    let page = c.slot_page-page.result in
    let ino = c.args.ino in
    let kind = c.args.kind in
    let e : EntryPart = record { ino = ino; kind = kind; name = c.args.name.now } in
    let body = c.args.body.now in
    let n = block_number v dir place.block in
    let slot = place.slot in
    let w = with_part (256 * slot) (entry_bytes e ++ body) (page_in v.parcel n) in
    let p = filled n slot e body v.parcel in
    let leaves : LeavesFiles v.parcel p = page_leaves n w v.parcel in
    let number : number_at p page ≡ n = number_at-map v.parcel p page (leaves.numbers page) ∙ at_number v.parcel page n c.slot_page-page.ensures in
    let r = c.put_entry.new.self.room in
    let room = c.add_made.new.self.room in
    let v1 : SessionSeen = record v { parcel = p; room = r } in
    let shown : fill dir c.args.name.now ino kind body v ≡ record (with_made ino kind n slot v) { parcel = p } =
    ap (λ o. option_map_or (λ q. filled_at dir q e body v) o v) (sym c.first_empty.ensures ∙ c.unwrap-place.ensures) in
    c.add_made.ensures.kept
    ∙ ap (λ (x : SessionSeen). record (with_made ino kind (number_at x.parcel page) c.from.result x) { room = room }) c.put_entry.ensures.kept
    ∙ ap (λ m. record (with_made ino kind m c.from.result v1) { room = room }) number
    ∙ ap (λ m. record (with_made ino kind n m v1) { room = room }) c.from.ensures
    ∙ with_made-filled v p r room ino kind n slot leaves.inodes
    ∙ sym (ap (λ (x : SessionSeen). record x { room = room }) shown)

pub returns-then-has_ino-clause-body : goal.returns-then-has_ino-clause-body
returns-then-has_ino-clause-body c = λ allotted.
    let v = c.args.self.now in
    let dir = c.args.dir in
    let place = c.unwrap-place.result in
    let page = c.slot_page-page.result in
    let ino = c.args.ino in
    let kind = c.args.kind in
    let e : EntryPart = record { ino = ino; kind = kind; name = c.args.name.now } in
    let body = c.args.body.now in
    let n = block_number v dir place.block in
    let slot = place.slot in
    let w = with_part (256 * slot) (entry_bytes e ++ body) (page_in v.parcel n) in
    let p = filled n slot e body v.parcel in
    let leaves : LeavesFiles v.parcel p = page_leaves n w v.parcel in
    let number : number_at p page ≡ n = number_at-map v.parcel p page (leaves.numbers page) ∙ at_number v.parcel page n c.slot_page-page.ensures in
    let room = c.add_made.new.self.room in
    let v1 : SessionSeen = record v { parcel = p; room = c.put_entry.new.self.room } in
    let at = first_empty-there (slots_shown v dir) place (sym c.first_empty.ensures ∙ c.unwrap-place.ensures) in
    let whole = whole_at v.parcel page n c.slot_page-page.ensures c.put_entry.ensures.whole in
    let now : c.add_made.new.self ≡ record (with_made ino kind n slot v) { parcel = p; room = room } =
    c.add_made.ensures.kept
    ∙ ap (λ (x : SessionSeen). record (with_made ino kind (number_at x.parcel page) c.from.result x) { room = room }) c.put_entry.ensures.kept
    ∙ ap (λ m. record (with_made ino kind m c.from.result v1) { room = room }) number
    ∙ ap (λ m. record (with_made ino kind n m v1) { room = room }) c.from.ensures
    ∙ with_made-filled v p c.put_entry.new.self.room room ino kind n slot leaves.inodes in
    ap (λ (x : SessionSeen). body_in x ino) now
    ∙ filled_body v n slot e body room whole at.0 c.put_entry.ensures.fits c.told-body allotted (grant_unmade v ino (c.requires.made allotted).nothing)

pub returns-then-has_ino-clause-room : goal.returns-then-has_ino-clause-room
returns-then-has_ino-clause-room c =
    let r = c.put_entry.ensures.room in
    record {
      calls = c.add_made.ensures.calls ∙ r.calls;
      slots = λ n apart i. subst (In n) (sym c.add_made.ensures.slots) (r.slots n apart i);
      names = λ n apart i. subst (In n) (sym c.add_made.ensures.names) (r.names n apart i);
    }

pub returns-then-has_ino-clause-next : goal.returns-then-has_ino-clause-next
returns-then-has_ino-clause-next c = λ allotted new.
    c.add_made.ensures.next (ap (λ (x : SessionSeen). cleared_file x c.args.ino) c.put_entry.ensures.kept ∙ new) ∙ c.put_entry.ensures.next

pub returns-else-has_ino-clause-next : goal.returns-else-has_ino-clause-next
returns-else-has_ino-clause-next c = λ allotted new.
    let v = c.args.self.now in
    let place = c.unwrap-place.result in
    let e : EntryPart = record { ino = c.args.ino; kind = c.args.kind; name = c.args.name.now } in
    let n = block_number v c.args.dir place.block in
    let w = with_part (256 * place.slot) (entry_bytes e ++ c.args.body.now) (page_in v.parcel n) in
    let leaves : LeavesFiles v.parcel (filled n place.slot e c.args.body.now v.parcel) = page_leaves n w v.parcel in
    let now = c.self.view_is ∙ c.put_entry.ensures.kept in
    let none : is_allotted v c.args.ino ≡ false =
    sym (ap (λ (x : SessionSeen). is_among c.args.ino (ino_numbers x.parcel.inodes)) now ∙ ap (λ ns. is_among c.args.ino (ino_numbers ns)) leaves.inodes) ∙ sym c.has_ino.ensures ∙ c.if-has_ino.false in
    absurd (false≢true (sym none ∙ allotted))

pub returns-else-has_ino-clause-body : goal.returns-else-has_ino-clause-body
returns-else-has_ino-clause-body c = λ allotted.
    let v = c.args.self.now in
    let place = c.unwrap-place.result in
    let e : EntryPart = record { ino = c.args.ino; kind = c.args.kind; name = c.args.name.now } in
    let n = block_number v c.args.dir place.block in
    let w = with_part (256 * place.slot) (entry_bytes e ++ c.args.body.now) (page_in v.parcel n) in
    let leaves : LeavesFiles v.parcel (filled n place.slot e c.args.body.now v.parcel) = page_leaves n w v.parcel in
    let now = c.self.view_is ∙ c.put_entry.ensures.kept in
    let none : is_allotted v c.args.ino ≡ false =
    sym (ap (λ (x : SessionSeen). is_among c.args.ino (ino_numbers x.parcel.inodes)) now ∙ ap (λ ns. is_among c.args.ino (ino_numbers ns)) leaves.inodes) ∙ sym c.has_ino.ensures ∙ c.if-has_ino.false in
    absurd (false≢true (sym none ∙ allotted))

pub returns-else-has_ino-clause-kept : goal.returns-else-has_ino-clause-kept
unfolding fill
returns-else-has_ino-clause-kept c =
    let v = c.args.self.now in
    let dir = c.args.dir in
    let place = c.unwrap-place.result in
    let ino = c.args.ino in
    let kind = c.args.kind in
    let e : EntryPart = record { ino = ino; kind = kind; name = c.args.name.now } in
    let body = c.args.body.now in
    let n = block_number v dir place.block in
    let slot = place.slot in
    let w = with_part (256 * slot) (entry_bytes e ++ body) (page_in v.parcel n) in
    let p = filled n slot e body v.parcel in
    let leaves : LeavesFiles v.parcel p = page_leaves n w v.parcel in
    let room = c.put_entry.new.self.room in
    let now = c.self.view_is ∙ c.put_entry.ensures.kept in
    let none : is_allotted v ino ≡ false =
    sym (ap (λ (x : SessionSeen). is_among ino (ino_numbers x.parcel.inodes)) now ∙ ap (λ ns. is_among ino (ino_numbers ns)) leaves.inodes) ∙ sym c.has_ino.ensures ∙ c.if-has_ino.false in
    let shown : fill dir c.args.name.now ino kind body v ≡ record (with_made ino kind n slot v) { parcel = p } =
    ap (λ o. option_map_or (λ q. filled_at dir q e body v) o v) (sym c.first_empty.ensures ∙ c.unwrap-place.ensures) in
    c.put_entry.ensures.kept
    ∙ sym (ap (λ (x : SessionSeen). record x { parcel = p; room = room }) (with_made-else v ino kind n slot none))
    ∙ sym (ap (λ (x : SessionSeen). record x { room = room }) shown)
