use Rattle.trio_runner.proofs.Words.{◌+◌, ◌∙◌, ◌∷◌, AreNew, [], ap, arith, length, length-append, map, map-append, subst, sym, take}
use Rattle.trio_runner.proofs.Seats.{new_next}
use Rattle.trio_runner.proofs.rounds.new_players.Goals as goal

pub loop-n-preserved : goal.loop-n-preserved
loop-n-preserved g c =
    let share = g.K.Kinds.share in
    let libs = c.args.libs.now in
    let n = c.loop-n.n in
    let old = c.loop-n.players.items in
    let count = ap length c.push_reserved.ensures.items in
    let more = length-append old (c.begin.result ∷ []) in (
      subst (AreNew 1 (take (n + 1) libs)) (sym (ap (map share) c.push_reserved.ensures.items ∙ map-append share old (c.begin.result ∷ [])))
          (new_next libs (map share old) n c.index-libs-n.result (share c.begin.result) c.loop-n-test.true c.index-libs-n.is c.loop-n.invariant.0 c.begin.ensures),
      omega (arith, count, more, c.loop-n.invariant.1),
      omega (arith, c.push_reserved.ensures.capacity, c.loop-n.invariant.2),
    )
