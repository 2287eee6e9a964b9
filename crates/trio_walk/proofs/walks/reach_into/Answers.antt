use Rattle.trio_walk.proofs.Words.{◌∙◌, ◌≡◌, Entered, Err, Need, Ok, ap, need_at, subst}
use Rattle.trio_walk.proofs.Walking.{met_into, stopped_before, walked_into}
use Rattle.trio_walk.proofs.walks.reach_into.Goals as goal

pub returns-in-Ok-enter-clause-walked : goal.returns-in-Ok-enter-clause-walked
returns-in-Ok-enter-clause-walked g c =
    let need : c.need_at.result ≡ need_at c.args.writes.now c.args.path.now = c.need_at.ensures ∙ ap (need_at c.args.writes.now) c.names.ensures.names in
    let entered : Entered g.D.Desk.called g.D.Desk.seen c.reach.new.desk c.reach.new.session c.in-Ok.met (need_at c.args.writes.now c.args.path.now) (Ok tt) c.enter.new.desk c.enter.new.session =
    subst (λ (q : Need). Entered g.D.Desk.called g.D.Desk.seen c.reach.new.desk c.reach.new.session c.in-Ok.met q (Ok tt) c.enter.new.desk c.enter.new.session) need c.in-Ok-enter.ensures in
    walked_into g.D.Desk.called g.D.Desk.seen c.args.desk.now c.args.session.now c.args.writes.now c.args.path.now c.reach.new.desk c.reach.new.session c.in-Ok.met c.in-Ok.ensures.walked c.reach.ensures.may c.in-Ok.ensures.met c.enter.new.desk c.enter.new.session (Ok tt) entered

pub returns-in-Ok-enter-clause-met : goal.returns-in-Ok-enter-clause-met
returns-in-Ok-enter-clause-met g c =
    let need : c.need_at.result ≡ need_at c.args.writes.now c.args.path.now = c.need_at.ensures ∙ ap (need_at c.args.writes.now) c.names.ensures.names in
    let entered : Entered g.D.Desk.called g.D.Desk.seen c.reach.new.desk c.reach.new.session c.in-Ok.met (need_at c.args.writes.now c.args.path.now) (Ok tt) c.enter.new.desk c.enter.new.session =
    subst (λ (q : Need). Entered g.D.Desk.called g.D.Desk.seen c.reach.new.desk c.reach.new.session c.in-Ok.met q (Ok tt) c.enter.new.desk c.enter.new.session) need c.in-Ok-enter.ensures in
    met_into g.D.Desk.called g.D.Desk.seen c.args.desk.now c.args.session.now c.args.writes.now c.args.path.now c.reach.new.desk c.reach.new.session c.in-Ok.met c.in-Ok.ensures.walked c.reach.ensures.may c.in-Ok.ensures.met c.enter.new.desk c.enter.new.session (Ok tt) entered

pub returns-in-Err-enter-clause-walked : goal.returns-in-Err-enter-clause-walked
returns-in-Err-enter-clause-walked g c =
    let need : c.need_at.result ≡ need_at c.args.writes.now c.args.path.now = c.need_at.ensures ∙ ap (need_at c.args.writes.now) c.names.ensures.names in
    let entered : Entered g.D.Desk.called g.D.Desk.seen c.reach.new.desk c.reach.new.session c.in-Ok.met (need_at c.args.writes.now c.args.path.now) (Err c.in-Err-enter.end) c.enter.new.desk c.enter.new.session =
    subst (λ (q : Need). Entered g.D.Desk.called g.D.Desk.seen c.reach.new.desk c.reach.new.session c.in-Ok.met q (Err c.in-Err-enter.end) c.enter.new.desk c.enter.new.session) need c.in-Err-enter.ensures in
    walked_into g.D.Desk.called g.D.Desk.seen c.args.desk.now c.args.session.now c.args.writes.now c.args.path.now c.reach.new.desk c.reach.new.session c.in-Ok.met c.in-Ok.ensures.walked c.reach.ensures.may c.in-Ok.ensures.met c.enter.new.desk c.enter.new.session (Err c.in-Err-enter.end) entered

pub returns-in-Err-clause-walked : goal.returns-in-Err-clause-walked
returns-in-Err-clause-walked g c = stopped_before g.D.Desk.called g.D.Desk.seen c.args.desk.now c.args.session.now c.args.writes.now c.args.path.now c.reach.new.desk c.reach.new.session c.in-Err.end c.in-Err.ensures.walked c.in-Err.ensures.stopped

pub returns-in-Ok-enter-clause-reading : goal.returns-in-Ok-enter-clause-reading
returns-in-Ok-enter-clause-reading g c =
    let need : c.need_at.result ≡ need_at c.args.writes.now c.args.path.now = c.need_at.ensures ∙ ap (need_at c.args.writes.now) c.names.ensures.names in
    let entered : Entered g.D.Desk.called g.D.Desk.seen c.reach.new.desk c.reach.new.session c.in-Ok.met (need_at c.args.writes.now c.args.path.now) (Ok tt) c.enter.new.desk c.enter.new.session =
    subst (λ (q : Need). Entered g.D.Desk.called g.D.Desk.seen c.reach.new.desk c.reach.new.session c.in-Ok.met q (Ok tt) c.enter.new.desk c.enter.new.session) need c.in-Ok-enter.ensures in
    λ none. entered.reading (ap (λ ws. need_at ws c.args.path.now) none) ∙ c.reach.ensures.reading none

pub returns-in-Err-enter-clause-reading : goal.returns-in-Err-enter-clause-reading
returns-in-Err-enter-clause-reading g c =
    let need : c.need_at.result ≡ need_at c.args.writes.now c.args.path.now = c.need_at.ensures ∙ ap (need_at c.args.writes.now) c.names.ensures.names in
    let entered : Entered g.D.Desk.called g.D.Desk.seen c.reach.new.desk c.reach.new.session c.in-Ok.met (need_at c.args.writes.now c.args.path.now) (Err c.in-Err-enter.end) c.enter.new.desk c.enter.new.session =
    subst (λ (q : Need). Entered g.D.Desk.called g.D.Desk.seen c.reach.new.desk c.reach.new.session c.in-Ok.met q (Err c.in-Err-enter.end) c.enter.new.desk c.enter.new.session) need c.in-Err-enter.ensures in
    λ none. entered.reading (ap (λ ws. need_at ws c.args.path.now) none) ∙ c.reach.ensures.reading none
