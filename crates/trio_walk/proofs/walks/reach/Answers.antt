use Rattle.trio_walk.proofs.Words.{◌+◌, ◌∙◌, ◌≡◌, At, Entered, Err, LooksUp, Met, Need, None, NotFound, Ok, Option, Reply, SessionSeen, Some, Walked, Walks, ap, arith, get_or, need_at, raised, subst, sym, take}
use Rattle.trio_walk.specs.Walks.{shows_root}
use Rattle.trio_walk.proofs.Walking.{OnWay, begins, ends_at, found_walk, missed_walk, stopped_walk}
use Rattle.trio_walk.proofs.walks.reach.Goals as goal

pub loop-i-init : goal.loop-i-init
loop-i-init g c =
    subst (λ (m : Met). OnWay g.D.Desk.called g.D.Desk.seen c.args.desk.now c.args.session.now c.args.writes.now c.names-names.result.now 0 c.args.desk.now c.args.session.now m) (sym c.root_met-at.ensures) (begins g.D.Desk.called g.D.Desk.seen c.args.desk.now c.args.session.now c.args.writes.now c.names-names.result.now c.requires)

pub enter-requires-clause-may : goal.enter-requires-clause-may
enter-requires-clause-may g c = c.loop-i.invariant.may

pub enter-requires-clause-met : goal.enter-requires-clause-met
enter-requires-clause-met g c = (shows_root c.args.session.now, c.loop-i.invariant.met)

pub returns-in-Err-clause-walked : goal.returns-in-Err-clause-walked
returns-in-Err-clause-walked g c =
    let entered : Entered g.D.Desk.called g.D.Desk.seen c.loop-i.desk c.loop-i.session c.loop-i.at (need_at c.args.writes.now (take c.loop-i.i c.names-names.result.now)) (Err c.in-Err.end) c.enter.new.desk c.enter.new.session =
    subst (λ (q : Need). Entered g.D.Desk.called g.D.Desk.seen c.loop-i.desk c.loop-i.session c.loop-i.at q (Err c.in-Err.end) c.enter.new.desk c.enter.new.session) c.need_at.ensures c.in-Err.ensures in
    subst (λ p. Walked g.D.Desk.called g.D.Desk.seen c.args.desk.now c.args.session.now (Walks (g.D.Desk.seen c.enter.new.desk) c.args.session.now c.args.writes.now p (c.in-Err.end)) (c.in-Err.end) c.enter.new.desk c.enter.new.session) c.names-names.ensures.names (stopped_walk g.D.Desk.called g.D.Desk.seen c.args.desk.now c.args.session.now c.args.writes.now c.names-names.result.now c.loop-i.i c.loop-i.desk c.loop-i.session c.loop-i.at c.loop-i.invariant (omega arith) c.index-names-i.result c.enter.new.desk c.enter.new.session c.in-Err.end entered)

pub returns-in-None-clause-may : goal.returns-in-None-clause-may
returns-in-None-clause-may g c = c.look_up.ensures.may (g.D.Desk.seen c.enter.new.desk) c.enter.ensures.may

pub returns-in-None-clause-walked : goal.returns-in-None-clause-walked
returns-in-None-clause-walked g c =
    let entered : Entered g.D.Desk.called g.D.Desk.seen c.loop-i.desk c.loop-i.session c.loop-i.at (need_at c.args.writes.now (take c.loop-i.i c.names-names.result.now)) (Ok tt) c.enter.new.desk c.enter.new.session =
    subst (λ (q : Need). Entered g.D.Desk.called g.D.Desk.seen c.loop-i.desk c.loop-i.session c.loop-i.at q (Ok tt) c.enter.new.desk c.enter.new.session) c.need_at.ensures c.in-Ok.ensures in
    let name : c.index-names-i.result ≡ get_or c.names-names.result.now c.loop-i.i c.index-names-i.result = c.index-names-i.is in
    let looked : LooksUp (g.D.Desk.seen c.enter.new.desk) (record c.enter.new.session { finds = raised c.enter.new.session.finds }) c.loop-i.at.ino (get_or c.names-names.result.now c.loop-i.i c.index-names-i.result) (None) =
    subst (λ q. LooksUp (g.D.Desk.seen c.enter.new.desk) (record c.enter.new.session { finds = raised c.enter.new.session.finds }) c.loop-i.at.ino q (None)) name
    (subst (λ (o : Option Met). LooksUp (g.D.Desk.seen c.enter.new.desk) (record c.enter.new.session { finds = raised c.enter.new.session.finds }) c.loop-i.at.ino c.index-names-i.result o) (c.in-None.is)
    (subst (λ (x : SessionSeen). LooksUp (g.D.Desk.seen c.enter.new.desk) x c.loop-i.at.ino c.index-names-i.result c.look_up.result) c.look_up.ensures.kept
    (c.look_up.ensures.looked (g.D.Desk.seen c.enter.new.desk) entered.may entered.has.1))) in
    let walked = missed_walk g.D.Desk.called g.D.Desk.seen c.args.desk.now c.args.session.now c.args.writes.now c.names-names.result.now c.loop-i.i c.loop-i.desk c.loop-i.session c.loop-i.at c.loop-i.invariant (omega arith) c.index-names-i.result c.enter.new.desk c.enter.new.session entered (raised c.enter.new.session.finds) looked in
    let ended = subst (λ (x : SessionSeen). Walked g.D.Desk.called g.D.Desk.seen c.args.desk.now c.args.session.now (Walks (g.D.Desk.seen c.enter.new.desk) c.args.session.now c.args.writes.now c.names-names.result.now (Reply NotFound)) (Reply NotFound) c.enter.new.desk x) (sym c.look_up.ensures.kept) walked in
    subst (λ p. Walked g.D.Desk.called g.D.Desk.seen c.args.desk.now c.args.session.now (Walks (g.D.Desk.seen c.enter.new.desk) c.args.session.now c.args.writes.now p (Reply NotFound)) (Reply NotFound) c.enter.new.desk c.look_up.new.session) c.names-names.ensures.names ended

pub loop-i-preserved : goal.loop-i-preserved
loop-i-preserved g c =
    let entered : Entered g.D.Desk.called g.D.Desk.seen c.loop-i.desk c.loop-i.session c.loop-i.at (need_at c.args.writes.now (take c.loop-i.i c.names-names.result.now)) (Ok tt) c.enter.new.desk c.enter.new.session =
    subst (λ (q : Need). Entered g.D.Desk.called g.D.Desk.seen c.loop-i.desk c.loop-i.session c.loop-i.at q (Ok tt) c.enter.new.desk c.enter.new.session) c.need_at.ensures c.in-Ok.ensures in
    let name : c.index-names-i.result ≡ get_or c.names-names.result.now c.loop-i.i c.index-names-i.result = c.index-names-i.is in
    let looked : LooksUp (g.D.Desk.seen c.enter.new.desk) (record c.enter.new.session { finds = raised c.enter.new.session.finds }) c.loop-i.at.ino (get_or c.names-names.result.now c.loop-i.i c.index-names-i.result) (Some c.in-Some.child) =
    subst (λ q. LooksUp (g.D.Desk.seen c.enter.new.desk) (record c.enter.new.session { finds = raised c.enter.new.session.finds }) c.loop-i.at.ino q (Some c.in-Some.child)) name
    (subst (λ (o : Option Met). LooksUp (g.D.Desk.seen c.enter.new.desk) (record c.enter.new.session { finds = raised c.enter.new.session.finds }) c.loop-i.at.ino c.index-names-i.result o) (c.in-Some.is)
    (subst (λ (x : SessionSeen). LooksUp (g.D.Desk.seen c.enter.new.desk) x c.loop-i.at.ino c.index-names-i.result c.look_up.result) c.look_up.ensures.kept
    (c.look_up.ensures.looked (g.D.Desk.seen c.enter.new.desk) entered.may entered.has.1))) in
    subst (λ (x : SessionSeen). OnWay g.D.Desk.called g.D.Desk.seen c.args.desk.now c.args.session.now c.args.writes.now c.names-names.result.now (c.loop-i.i + 1) c.enter.new.desk x c.in-Some.child) (sym c.look_up.ensures.kept)
    (found_walk g.D.Desk.called g.D.Desk.seen c.args.desk.now c.args.session.now c.args.writes.now c.names-names.result.now c.loop-i.i c.loop-i.desk c.loop-i.session c.loop-i.at c.loop-i.invariant (omega arith) c.index-names-i.result c.enter.new.desk c.enter.new.session entered (raised c.enter.new.session.finds) c.in-Some.child looked)

pub returns-clause-may : goal.returns-clause-may
returns-clause-may g c = c.loop-i.invariant.may

pub returns-clause-walked : goal.returns-clause-walked
returns-clause-walked g c =
    subst (λ p. Walked g.D.Desk.called g.D.Desk.seen c.args.desk.now c.args.session.now (Walks (g.D.Desk.seen c.loop-i.desk) c.args.session.now c.args.writes.now p (At c.loop-i.at.ino)) (At c.loop-i.at.ino) c.loop-i.desk c.loop-i.session) c.names-names.ensures.names (ends_at g.D.Desk.called g.D.Desk.seen c.args.desk.now c.args.session.now c.args.writes.now c.names-names.result.now c.loop-i.i c.loop-i.desk c.loop-i.session c.loop-i.at c.loop-i.invariant (omega arith))

pub returns-clause-met : goal.returns-clause-met
returns-clause-met g c = c.loop-i.invariant.met

pub returns-in-Err-clause-reading : goal.returns-in-Err-clause-reading
returns-in-Err-clause-reading g c =
    let entered : Entered g.D.Desk.called g.D.Desk.seen c.loop-i.desk c.loop-i.session c.loop-i.at (need_at c.args.writes.now (take c.loop-i.i c.names-names.result.now)) (Err c.in-Err.end) c.enter.new.desk c.enter.new.session =
    subst (λ (q : Need). Entered g.D.Desk.called g.D.Desk.seen c.loop-i.desk c.loop-i.session c.loop-i.at q (Err c.in-Err.end) c.enter.new.desk c.enter.new.session) c.need_at.ensures c.in-Err.ensures in
    λ none. entered.reading (ap (λ ws. need_at ws (take c.loop-i.i c.names-names.result.now)) none) ∙ c.loop-i.invariant.reading none

pub returns-in-None-clause-reading : goal.returns-in-None-clause-reading
returns-in-None-clause-reading g c =
    let entered : Entered g.D.Desk.called g.D.Desk.seen c.loop-i.desk c.loop-i.session c.loop-i.at (need_at c.args.writes.now (take c.loop-i.i c.names-names.result.now)) (Ok tt) c.enter.new.desk c.enter.new.session =
    subst (λ (q : Need). Entered g.D.Desk.called g.D.Desk.seen c.loop-i.desk c.loop-i.session c.loop-i.at q (Ok tt) c.enter.new.desk c.enter.new.session) c.need_at.ensures c.in-Ok.ensures in
    λ none. ap (λ (x : SessionSeen). x.parcel) c.look_up.ensures.kept ∙ entered.reading (ap (λ ws. need_at ws (take c.loop-i.i c.names-names.result.now)) none) ∙ c.loop-i.invariant.reading none

pub returns-clause-reading : goal.returns-clause-reading
returns-clause-reading g c = c.loop-i.invariant.reading
