use Rattle.trio_runner.proofs.Words.{◌∙◌, IsClosed, OnList, ap, subst, sym, whole_parcel}
use Rattle.trio_raw.specs.Has.{Held}
use Rattle.trio_runner.specs.Players.{EndCalled}
use Rattle.trio_runner.proofs.Calling.{if_ok, nothing_on_list}
use Rattle.trio_runner.proofs.raw.RawPlayer.end.Goals as goal

pub play_end-requires-clause-stands : goal.play_end-requires-clause-stands
play_end-requires-clause-stands g c = subst (λ (h : Held). OnList (g.D.Desk.seen c.args.desk.now).out h.has) (sym c.replace-ending.ensures.value) c.requires.goes

pub play_end-requires-clause-closed : goal.play_end-requires-clause-closed
play_end-requires-clause-closed g c = subst (λ (h : Held). IsClosed (g.D.Desk.seen c.args.desk.now).out (whole_parcel h.has)) (sym c.replace-ending.ensures.value) c.requires.closed

pub returns-clause-ended : goal.returns-clause-ended
returns-clause-ended g c =
    if_ok c.play_end.result _ _
    (λ end called. (subst (λ (h : Held). EndCalled g.D.Desk.called c.args.desk.now h.has end c.play_end.new.desk) c.replace-ending.ensures.value called, ap (λ (h : Held). h.has) (c.replace-ending.ensures.after ∙ c.new.ensures)))
    c.play_end.ensures

pub returns-clause-goes : goal.returns-clause-goes
returns-clause-goes g c =
    let out = (g.D.Desk.seen c.play_end.new.desk).out in
    subst (λ (h : Held). OnList out h.has) (sym (c.replace-ending.ensures.after ∙ c.new.ensures)) (nothing_on_list out)
