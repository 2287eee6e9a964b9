use Rattle.trio_judge.proofs.Words.{◌∙◌, ◌≡◌, arith, case_in, false, file_met, files_of, get_or_default, is_among, is_new, map_push, numbers, refl, rules, sym, true}
use Rattle.trio_judge.proofs.Noting.{find_again, find_first, find_old, mark_at, mark_within, none_is, place_left, ready_more, unfound_new, unplaced_old}
use Rattle.trio_judge.proofs.Starting.{own_place}
use Rattle.trio_judge.proofs.walk.Walk.find.Goals as goal

pub returns-in_default-clause-grows : goal.returns-in_default-clause-grows
returns-in_default-clause-grows c =
    let k = case_in c.args.case.now in
    let e = file_met c.args.entry.now in
    let none = own_place c.args.case.now e.ino ∙ sym c.own_place.ensures ∙ none_is _ c.in_default.not-Some in
    find_old k (files_of c.args.self.now) e (unplaced_old k e.ino none)

pub index-requires : goal.index-requires
index-requires c =
    let k = c.args.case.now in
    let place = own_place k c.args.entry.now.ino ∙ sym c.own_place.ensures ∙ c.in-Some.is in
    omega (arith, mark_within (case_in k) c.args.self.now c.args.entry.now.ino c.in-Some.at c.requires.ready place)

pub returns-then-index-clause-grows : goal.returns-then-index-clause-grows
returns-then-index-clause-grows c =
    let k = c.args.case.now in
    let w = c.args.self.now in
    let e = file_met c.args.entry.now in
    let place = own_place k e.ino ∙ sym c.own_place.ensures ∙ c.in-Some.is in
    let found : is_among e.ino (numbers (files_of w)) ≡ true = sym (mark_at (case_in k) w e.ino c.in-Some.at c.requires.ready place) ∙ get_or_default w.found.items c.in-Some.at false c.index.result.now (mark_within (case_in k) w e.ino c.in-Some.at c.requires.ready place) ∙ sym c.index.ensures ∙ c.if-index.true in
    find_again (case_in k) (files_of w) e found

pub index_mut-requires : goal.index_mut-requires
index_mut-requires c =
    let k = c.args.case.now in
    let place = own_place k c.args.entry.now.ino ∙ sym c.own_place.ensures ∙ c.in-Some.is in
    omega (arith, mark_within (case_in k) c.args.self.now c.args.entry.now.ino c.in-Some.at c.requires.ready place)

pub add-requires : goal.add-requires
add-requires c =
    let k = c.args.case.now in
    let w = c.args.self.now in
    let e = file_met c.args.entry.now in
    let place = own_place k e.ino ∙ sym c.own_place.ensures ∙ c.in-Some.is in
    let unfound : is_among e.ino (numbers (files_of w)) ≡ false = sym (mark_at (case_in k) w e.ino c.in-Some.at c.requires.ready place) ∙ search rules in
    let new : is_new (case_in k) e ≡ true = unfound_new (case_in k) w e.ino c.in-Some.at c.requires.ready place unfound in
    record { room = omega (arith, place_left (case_in k) w e c.requires.ready unfound new) }

pub returns-clause-grows : goal.returns-clause-grows
returns-clause-grows c =
    let k = c.args.case.now in
    let w = c.args.self.now in
    let e = file_met c.args.entry.now in
    let place = own_place k e.ino ∙ sym c.own_place.ensures ∙ c.in-Some.is in
    let unfound : is_among e.ino (numbers (files_of w)) ≡ false = sym (mark_at (case_in k) w e.ino c.in-Some.at c.requires.ready place) ∙ search rules in
    let new : is_new (case_in k) e ≡ true = unfound_new (case_in k) w e.ino c.in-Some.at c.requires.ready place unfound in
    rw (c.add.ensures.added, map_push file_met) (find_first (case_in k) (files_of w) e new unfound)

pub returns-clause-ready : goal.returns-clause-ready
returns-clause-ready c =
    let k = c.args.case.now in
    let w = c.args.self.now in
    let e = file_met c.args.entry.now in
    let place = own_place k e.ino ∙ sym c.own_place.ensures ∙ c.in-Some.is in
    let unfound : is_among e.ino (numbers (files_of w)) ≡ false = sym (mark_at (case_in k) w e.ino c.in-Some.at c.requires.ready place) ∙ search rules in
    let new : is_new (case_in k) e ≡ true = unfound_new (case_in k) w e.ino c.in-Some.at c.requires.ready place unfound in
    ready_more (case_in k) w _ e c.in-Some.at c.requires.ready (rw (c.add.ensures.added, map_push file_met) refl) unfound new place refl c.add.ensures.room refl refl c.requires.lists
