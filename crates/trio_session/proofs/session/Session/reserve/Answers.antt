use Rattle.trio_session.proofs.Words.{◌≤◌, Err, In, Ok, OnOk, SessionSeen, dir_numbers, filter, has_names, has_slots, refl, subst}
use Rattle.std.proofs.Common.{Result}
use Rattle.trio_session.proofs.Insides.{files_in}
use Rattle.trio_session.proofs.Opens.{is_there, shows_view}
use Rattle.trio_session.proofs.Reserved.{dirs_reserved, names_enough, names_roomier, numbers_roomier, slots_enough, slots_roomier}
use Rattle.trio_session.proofs.Reserving.{inside_reserved, keeps_reserved, room_enough, view_reserved}
use Rattle.trio_session.proofs.session.Session.reserve.Goals as goal

-- what holds, holds where it succeeds
on_ok : {E X : Type 0} (r : Result Unit E) → X → OnOk r X
on_ok (Ok u) x = x
on_ok (Err e) x = tt

pub reserve_one-requires-clause-there : goal.reserve_one-requires-clause-there
reserve_one-requires-clause-there c =
    let s = c.self.inside in
    is_there c.args.self.now (files_in s) c.args.ino (shows_view c.args.self.now s c.self.view_is) c.requires

pub invariant_of-self : goal.invariant_of-self
invariant_of-self c =
    let s = c.self.inside in
    let one = c.reserve_one in
    inside_reserved c.args.self.now s c.args.ino c.args.blocks one.result one.new.laid one.new.made s.dirs c.self.view_is c.self.invariant one.ensures.relaid c.self.invariant.4

pub returns-in_err-reserve_one-clause-kept : goal.returns-in_err-reserve_one-clause-kept
returns-in_err-reserve_one-clause-kept c =
    let s = c.self.inside in
    let one = c.reserve_one in
    view_reserved c.args.self.now s c.args.ino c.args.blocks one.result one.new.laid one.new.made s.dirs c.self.view_is c.self.invariant one.ensures.relaid refl

pub returns-in_err-reserve_one-clause-keeps : goal.returns-in_err-reserve_one-clause-keeps
returns-in_err-reserve_one-clause-keeps c =
    let s = c.self.inside in
    let one = c.reserve_one in
    keeps_reserved c.args.self.now s c.args.ino c.args.blocks one.result one.new.laid one.new.made s.dirs c.self.view_is c.self.invariant one.ensures.relaid one.ensures.places (λ n i. i) (λ n i. i)

pub invariant_of-self-2 : goal.invariant_of-self-2
invariant_of-self-2 c =
    let s = c.self.inside in
    let one = c.reserve_one in
    inside_reserved c.args.self.now s c.args.ino c.args.blocks one.result one.new.laid one.new.made c.reserve_index.new.dirs c.self.view_is c.self.invariant one.ensures.relaid
    (dirs_reserved s.reads.items (files_in s) c.reserve_index.result s.dirs.items c.reserve_index.new.dirs.items c.args.ino c.reserve_index.ensures c.self.invariant.4)

pub returns-clause-kept : goal.returns-clause-kept
returns-clause-kept c =
    let s = c.self.inside in
    let one = c.reserve_one in
    view_reserved c.args.self.now s c.args.ino c.args.blocks one.result one.new.laid one.new.made c.reserve_index.new.dirs c.self.view_is c.self.invariant one.ensures.relaid
    (numbers_roomier c.reserve_index.result s.dirs.items c.reserve_index.new.dirs.items c.args.ino c.reserve_index.ensures)

pub returns-clause-room : goal.returns-clause-room
returns-clause-room c =
    let s = c.self.inside in
    let one = c.reserve_one in
    on_ok c.reserve_index.result
    (room_enough c.args.self.now s c.args.ino c.args.blocks one.result one.new.laid one.new.made c.reserve_index.new.dirs c.self.view_is c.self.invariant one.ensures.relaid
    c.in_ok-reserve_one.field-0 c.in_ok-reserve_one.was)

pub returns-clause-slots : goal.returns-clause-slots
returns-clause-slots c =
    let ds' = c.reserve_index.new.dirs.items in
    subst (λ (x : SessionSeen). OnOk c.reserve_index.result (In c.args.ino x.indexed → In c.args.ino (dir_numbers (filter has_slots ds')))) c.self.view_is
    (slots_enough c.reserve_index.result c.self.inside.dirs.items ds' c.args.ino c.reserve_index.ensures)

pub returns-clause-names : goal.returns-clause-names
returns-clause-names c =
    let ds' = c.reserve_index.new.dirs.items in
    subst (λ (x : SessionSeen). OnOk c.reserve_index.result (In c.args.ino x.indexed → In c.args.ino (dir_numbers (filter has_names ds')))) c.self.view_is
    (names_enough c.reserve_index.result c.self.inside.dirs.items ds' c.args.ino c.reserve_index.ensures)

pub returns-clause-keeps : goal.returns-clause-keeps
returns-clause-keeps c =
    let s = c.self.inside in
    let one = c.reserve_one in
    let ds' = c.reserve_index.new.dirs.items in
    keeps_reserved c.args.self.now s c.args.ino c.args.blocks one.result one.new.laid one.new.made c.reserve_index.new.dirs c.self.view_is c.self.invariant one.ensures.relaid one.ensures.places
    (λ n i. slots_roomier c.reserve_index.result s.dirs.items ds' c.args.ino n c.reserve_index.ensures i)
    (λ n i. names_roomier c.reserve_index.result s.dirs.items ds' c.args.ino n c.reserve_index.ensures i)
