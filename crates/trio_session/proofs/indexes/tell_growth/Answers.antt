use Rattle.trio_session.proofs.Words.{◌+◌, ◌∙◌, ◌≡◌, ◌≤◌, Bool, In, In-map, IndexedDir, List, ToldGrowth, ap, dir_numbers, eqb, eqb-true, has_slots, is_some, length, position, refl, subst, sym, is_directory-true}
use Rattle.std.specs.Prelude.{None, Some}
use Rattle.trio_session.proofs.Found.{position-passes, position-same, slice_get-found}
use Rattle.trio_session.proofs.Rooms.{index_there, room_at, slots_room, with_room}
use Rattle.trio_session.proofs.indexes.tell_growth.Goals as goal

pub unwrap-at-requires : goal.unwrap-at-requires
unwrap-at-requires c =
    let ds = c.args.dirs.now.items in
    let d = with_room has_slots ds c.args.ino (c.requires.place (is_directory-true c.args.kind (sym c.is_directory.ensures ∙ c.if-is_directory.true)) c.if-more-gt0.true) in
    let there : In c.args.ino (dir_numbers ds) = subst (λ n. In n (dir_numbers ds)) d.3 (In-map (λ (x : IndexedDir). x.ino) d.0 ds d.1) in
    ap is_some (c.index_place.ensures ∙ ap (position (λ (x : IndexedDir). eqb x.ino c.args.ino)) c.deref.ensures.value) ∙ index_there ds c.args.ino there

pub grow-requires : goal.grow-requires
grow-requires c =
    let ds = c.args.dirs.now.items in
    let p : IndexedDir → Bool = λ x. eqb x.ino c.args.ino in
    let at = position-same p ds c.deref.result.now c.index_place.result (Some c.unwrap-at.result) c.deref.ensures.value c.index_place.ensures c.unwrap-at.ensures in
    let d = c.index_mut.result.now in
    let there = slice_get-found p ds c.unwrap-at.result d at c.index_mut.ensures.value in
    let number = eqb-true d.ino c.args.ino (position-passes p ds c.unwrap-at.result d at there) in
    record { room = slots_room d (room_at has_slots ds c.args.ino c.unwrap-at.result d c.requires.once (c.requires.place (is_directory-true c.args.kind (sym c.is_directory.ensures ∙ c.if-is_directory.true)) c.if-more-gt0.true) there number) }

pub returns-then-more-gt0 : goal.returns-then-more-gt0
returns-then-more-gt0 c =
    let ds = c.args.dirs.now.items in
    let p : IndexedDir → Bool = λ x. eqb x.ino c.args.ino in
    let at = position-same p ds c.deref.result.now c.index_place.result (Some c.unwrap-at.result) c.deref.ensures.value c.index_place.ensures c.unwrap-at.ensures in
    let d = c.index_mut.result.now in
    let d' : IndexedDir = record d { dir = c.grow.new.self } in
    ToldGrowth (is_directory-true c.args.kind (sym c.is_directory.ensures ∙ c.if-is_directory.true)) c.if-more-gt0.true c.unwrap-at.result d d' at (slice_get-found p ds c.unwrap-at.result d at c.index_mut.ensures.value) (record { ino = refl; grown = c.grow.ensures.grown }) refl
