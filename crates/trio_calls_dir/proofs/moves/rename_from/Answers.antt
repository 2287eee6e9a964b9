use Rattle.trio_calls_dir.proofs.Words.{◌∙◌, ◌∷◌, At, Path, [], ap, dir_of, inl, number_made, refl, try_ends}
use Rattle.trio_calls_dir.proofs.Ends.{lacks}
use Rattle.trio_calls_dir.proofs.MovesBusy.{out_others}
use Rattle.trio_calls_dir.proofs.MovesWalk.{had_both, is_out, out_goes, out_stops, walked_both}
use Rattle.trio_calls_dir.proofs.Others.{stop_others}
use Rattle.trio_calls_dir.proofs.moves.rename_from.Goals as goal
use Rattle.trio_calls_dir.proofs.Walkable.{may_walk}

pub returns-in_default-clause-goes : goal.returns-in_default-clause-goes
returns-in_default-clause-goes g c = lacks g.D.Desk.called g.D.Desk.seen c.args.desk.now c.args.session.now c.args.session.now c.args.call.now _ c.requires.may refl

pub returns-in_default-parent-clause-goes : goal.returns-in_default-parent-clause-goes
returns-in_default-parent-clause-goes g c = lacks g.D.Desk.called g.D.Desk.seen c.args.desk.now c.args.session.now c.args.session.now c.args.call.now _ c.requires.may refl

pub reach_into-requires : goal.reach_into-requires
reach_into-requires g c = may_walk (g.D.Desk.seen c.args.desk.now) c.args.session.now c.requires.may

pub rename_to-requires-clause-out : goal.rename_to-requires-clause-out
rename_to-requires-clause-out g c =
    is_out c.args.call.now c.args.from.now c.args.to.now c.requires.rename g.D.Desk.called g.D.Desk.seen c.args.desk.now c.args.session.now c.requires.may c.reach_into.new.desk c.reach_into.new.session c.reach_into.ensures.may c.in-Ok-reach_into.met.ino
    (walked_both g.D.Desk.called g.D.Desk.seen c.args.desk.now c.args.session.now c.reach_into.new.desk c.reach_into.new.session c.args.from.now c.args.to.now _ _ _ (ap (λ (p : Path). p ∷ (c.in-Ok-parent.new ∷ [])) c.in-Ok.ensures ∙ ap (λ (p : Path). dir_of c.args.from.now ∷ (p ∷ [])) c.in-Ok-parent.ensures) c.in-Ok.ensures (At c.in-Ok-reach_into.met.ino) c.in-Ok-reach_into.ensures.walked)
    (had_both c.reach_into.new.session c.args.from.now c.args.to.now _ _ _ (ap (λ (p : Path). p ∷ (c.in-Ok-parent.new ∷ [])) c.in-Ok.ensures ∙ ap (λ (p : Path). dir_of c.args.from.now ∷ (p ∷ [])) c.in-Ok-parent.ensures) c.in-Ok.ensures (inl refl) c.in-Ok-reach_into.met.ino c.in-Ok-reach_into.ensures.had)
    c.in-Ok-reach_into.ensures.list

pub returns-in-Ok-reach_into-clause-goes : goal.returns-in-Ok-reach_into-clause-goes
returns-in-Ok-reach_into-clause-goes g c =
    out_goes c.args.call.now c.args.from.now c.args.to.now c.requires.rename g.D.Desk.called g.D.Desk.seen c.args.desk.now c.args.session.now c.requires.may c.reach_into.new.desk c.reach_into.new.session c.reach_into.ensures.may c.in-Ok-reach_into.met.ino
    (walked_both g.D.Desk.called g.D.Desk.seen c.args.desk.now c.args.session.now c.reach_into.new.desk c.reach_into.new.session c.args.from.now c.args.to.now _ _ _ (ap (λ (p : Path). p ∷ (c.in-Ok-parent.new ∷ [])) c.in-Ok.ensures ∙ ap (λ (p : Path). dir_of c.args.from.now ∷ (p ∷ [])) c.in-Ok-parent.ensures) c.in-Ok.ensures (At c.in-Ok-reach_into.met.ino) c.in-Ok-reach_into.ensures.walked)
    (try_ends c.rename_to.result) (number_made c.rename_to.result) c.rename_to.new.desk c.rename_to.new.session c.rename_to.ensures.goes

pub returns-in-Ok-reach_into-clause-others : goal.returns-in-Ok-reach_into-clause-others
returns-in-Ok-reach_into-clause-others g c none =
    out_others c.args.call.now c.args.from.now c.args.to.now c.requires.rename g.D.Desk.called g.D.Desk.seen c.args.desk.now c.args.session.now c.reach_into.new.desk c.reach_into.new.session c.reach_into.ensures.may c.in-Ok-reach_into.met.ino
    (walked_both g.D.Desk.called g.D.Desk.seen c.args.desk.now c.args.session.now c.reach_into.new.desk c.reach_into.new.session c.args.from.now c.args.to.now _ _ _ (ap (λ (p : Path). p ∷ (c.in-Ok-parent.new ∷ [])) c.in-Ok.ensures ∙ ap (λ (p : Path). dir_of c.args.from.now ∷ (p ∷ [])) c.in-Ok-parent.ensures) c.in-Ok.ensures (At c.in-Ok-reach_into.met.ino) c.in-Ok-reach_into.ensures.walked)
    none (try_ends c.rename_to.result) c.rename_to.ensures.busy

pub returns-clause-goes : goal.returns-clause-goes
returns-clause-goes g c =
    out_stops c.args.call.now c.args.from.now c.args.to.now c.requires.rename g.D.Desk.called g.D.Desk.seen c.args.desk.now c.args.session.now c.requires.may c.reach_into.new.desk c.reach_into.new.session c.reach_into.ensures.may c.in-Err.end
    (walked_both g.D.Desk.called g.D.Desk.seen c.args.desk.now c.args.session.now c.reach_into.new.desk c.reach_into.new.session c.args.from.now c.args.to.now _ _ _ (ap (λ (p : Path). p ∷ (c.in-Ok-parent.new ∷ [])) c.in-Ok.ensures ∙ ap (λ (p : Path). dir_of c.args.from.now ∷ (p ∷ [])) c.in-Ok-parent.ensures) c.in-Ok.ensures c.in-Err.end c.in-Err.ensures.walked)
    c.stopped.new.session c.stopped.ensures.kept c.in-Err.ensures.stopped c.stopped.result c.stopped.ensures.stops

pub returns-clause-others : goal.returns-clause-others
returns-clause-others g c none =
    stop_others g.D.Desk.called g.D.Desk.seen c.args.desk.now c.args.session.now _ c.in-Err.end c.reach_into.new.desk c.reach_into.new.session c.in-Err.ensures.walked c.in-Err.ensures.stopped c.stopped.result c.stopped.new.session c.stopped.ensures.stops none
