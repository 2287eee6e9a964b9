use Rattle.trio_runner.proofs.Words.{◌+◌, ◌≤◌, AreSeated, List, Share, Took, arith, course, courses_from, length-map, line_turns, map, none_still, round_of, slice_get, subst, sym, table, take_all, turn_list}
use Rattle.std.specs.Prelude.{slice_set, take}
use Rattle.std.proofs.lemmas.List.{map-set}
use Rattle.trio_runner.specs.inner.Ready.{Table}
use Rattle.trio_runner.proofs.Seats.{all_count, courses_length, lib_within, placed_at, round_more, seat_closed, seat_goes, seat_library, seat_next, seat_suits, seated_after, took_more}
use Rattle.trio_runner.proofs.rounds.play_round.Goals as goal

pub index_mut-requires : goal.index_mut-requires
index_mut-requires g c =
    let share = g.K.Kinds.share in
    let count = all_count c.args.libs.now (map share c.loop-at.all.items) c.loop-at.tolds.items c.loop-at.invariant.1 in
    let many = length-map c.loop-at.all.items share in
    omega (arith, count, many, c.loop-at-test.true, c.loop-at.all.ok.0)

pub play_turn-requires-clause-within : goal.play_turn-requires-clause-within
play_turn-requires-clause-within g c = lib_within c.args.libs.now c.loop-at.at c.index-libs-at.result c.loop-at-test.true c.index-libs-at.is c.requires.within

pub play_turn-requires-clause-suits : goal.play_turn-requires-clause-suits
play_turn-requires-clause-suits g c =
    let share = g.K.Kinds.share in
    let libs = c.args.libs.now in
    let all = c.loop-at.all.items in
    let player = c.index_mut.result.now in
    let there = placed_at share libs all c.loop-at.tolds.items c.loop-at.invariant.1 c.loop-at.at c.loop-at-test.true player c.index_mut.ensures.value in
    seat_suits libs (map share all) c.loop-at.tolds.items c.loop-at.invariant.1 c.loop-at.at c.loop-at-test.true c.index-libs-at.result c.index-libs-at.is
    (share player) there c.index_mut-in-loop-at.result.now c.index_mut-in-loop-at.ensures.value

pub play_turn-requires-clause-library : goal.play_turn-requires-clause-library
play_turn-requires-clause-library g c =
    let share = g.K.Kinds.share in
    let libs = c.args.libs.now in
    let all = c.loop-at.all.items in
    let player = c.index_mut.result.now in
    let there = placed_at share libs all c.loop-at.tolds.items c.loop-at.invariant.1 c.loop-at.at c.loop-at-test.true player c.index_mut.ensures.value in
    seat_library libs (map share all) c.loop-at.tolds.items c.loop-at.invariant.1 c.loop-at.at c.loop-at-test.true c.index-libs-at.result c.index-libs-at.is
    (share player) there c.index_mut-in-loop-at.result.now c.index_mut-in-loop-at.ensures.value c.loop-at.ctl c.loop-at.invariant.0.ready

pub play_turn-requires-clause-goes : goal.play_turn-requires-clause-goes
play_turn-requires-clause-goes g c =
    let share = g.K.Kinds.share in
    let libs = c.args.libs.now in
    let all = c.loop-at.all.items in
    let player = c.index_mut.result.now in
    let there = placed_at share libs all c.loop-at.tolds.items c.loop-at.invariant.1 c.loop-at.at c.loop-at-test.true player c.index_mut.ensures.value in
    seat_goes libs (map share all) c.loop-at.tolds.items c.loop-at.invariant.1 c.loop-at.at c.loop-at-test.true c.index-libs-at.result c.index-libs-at.is
    (share player) there c.index_mut-in-loop-at.result.now c.index_mut-in-loop-at.ensures.value c.loop-at.ctl c.loop-at.invariant.0.ready

pub play_turn-requires-clause-closed : goal.play_turn-requires-clause-closed
play_turn-requires-clause-closed g c =
    let share = g.K.Kinds.share in
    let libs = c.args.libs.now in
    let all = c.loop-at.all.items in
    let player = c.index_mut.result.now in
    let there = placed_at share libs all c.loop-at.tolds.items c.loop-at.invariant.1 c.loop-at.at c.loop-at-test.true player c.index_mut.ensures.value in
    seat_closed libs (map share all) c.loop-at.tolds.items c.loop-at.invariant.1 c.loop-at.at c.loop-at-test.true c.index-libs-at.result c.index-libs-at.is
    (share player) there c.index_mut-in-loop-at.result.now c.index_mut-in-loop-at.ensures.value c.loop-at.ctl c.loop-at.invariant.0.ready

pub play_turn-requires-clause-idle : goal.play_turn-requires-clause-idle
play_turn-requires-clause-idle g c = none_still c.args.ctl.now c.loop-at.ctl c.loop-at.invariant.0.begun c.requires.idle

pub loop-at-preserved : goal.loop-at-preserved
loop-at-preserved g c =
    let share = g.K.Kinds.share in
    let libs = c.args.libs.now in
    let all = c.loop-at.all.items in
    let tolds = c.loop-at.tolds.items in
    let at = c.loop-at.at in
    let player = c.index_mut.result.now in
    let told = c.index_mut-in-loop-at.result.now in
    let script = c.index-libs-at.result in
    let turns = line_turns script.lines in
    let then' = c.play_turn.new in
    let after_turn = c.in_ok-play_turn.ensures in
    let there = placed_at share libs all tolds c.loop-at.invariant.1 at c.loop-at-test.true player c.index_mut.ensures.value in
    let took = seat_next libs (map share all) tolds c.loop-at.invariant.1 at c.loop-at-test.true script c.index-libs-at.is (share player) there told c.index_mut-in-loop-at.ensures.value
    c.loop-at.ctl c.loop-at.invariant.0.ready then'.ctl (share then'.player) then'.told turns c.args.round after_turn.turn in
    let seated = seated_after libs (map share all) tolds c.loop-at.invariant.1 at c.loop-at-test.true script c.index-libs-at.is (share player) there told c.index_mut-in-loop-at.ensures.value
    c.loop-at.ctl c.loop-at.invariant.0.ready then'.ctl (share then'.player) then'.told after_turn.suits in
    let start = table c.args.ctl.now (map share c.args.all.now.items) c.args.tolds.now.items in
    let after : List Share → Table = λ shares. table then'.ctl shares (slice_set tolds at then'.told) in
    let kept = sym (map-set share all at then'.player) in (
      subst (λ shares. Took start (round_of c.args.round (take (at + 1) (courses_from 1 libs))) (after shares)) kept
          (subst (λ ts. Took start ts (after (slice_set (map share all) at (share then'.player))))
          (sym (round_more c.args.round at libs script c.loop-at-test.true c.index-libs-at.is))
          (took_more start (round_of c.args.round (take at (courses_from 1 libs))) (table c.loop-at.ctl (map share all) tolds) (turn_list (slice_get (course (at + 1) turns) c.args.round)) (after (slice_set (map share all) at (share then'.player))) c.loop-at.invariant.0 took)),
      subst (λ shares. AreSeated libs shares (slice_set tolds at then'.told)) kept seated,
    )

pub returns-clause-took : goal.returns-clause-took
returns-clause-took g c =
    let share = g.K.Kinds.share in
    let courses = courses_from 1 c.args.libs.now in
    let past = subst (λ n. n ≤ c.loop-at.at) (sym (courses_length 1 c.args.libs.now)) c.loop-at-test.false in
    subst (λ l. Took (table c.args.ctl.now (map share c.args.all.now.items) c.args.tolds.now.items) (round_of c.args.round l) (table c.loop-at.ctl (map share c.loop-at.all.items) c.loop-at.tolds.items)) (take_all c.loop-at.at courses past) c.loop-at.invariant.0
