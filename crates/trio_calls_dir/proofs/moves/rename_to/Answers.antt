use Rattle.trio_calls_dir.proofs.Words.{At, ap, inl, inr, number_made, refl, try_ends}
use Rattle.std.proofs.Common.{get_or}
use Rattle.trio_calls_dir.proofs.MovesBusy.{to_busy, to_stop_busy}
use Rattle.trio_calls_dir.proofs.MovesWalk.{had_both, is_across, to_goes, to_stops, walked_both}
use Rattle.trio_calls_dir.proofs.moves.rename_to.Goals as goal
use Rattle.trio_calls_dir.proofs.Walkable.{may_walk}

pub reach_into-requires : goal.reach_into-requires
reach_into-requires g c = may_walk (g.D.Desk.seen c.args.desk.now) c.args.session.now c.requires.out.may

pub rename_across-requires-clause-across : goal.rename_across-requires-clause-across
rename_across-requires-clause-across g c =
    is_across c.args.call.now c.args.from.now c.args.to.now c.requires.rename g.D.Desk.called g.D.Desk.seen c.args.desk.now c.args.session.now c.args.dir c.requires.out c.reach_into.new.desk c.reach_into.new.session c.reach_into.ensures.may c.in-Ok.met.ino
    (walked_both g.D.Desk.called g.D.Desk.seen c.args.desk.now c.args.session.now c.reach_into.new.desk c.reach_into.new.session c.args.from.now c.args.to.now _ _ _ c.requires.writes (ap (λ l. get_or l 1 c.index-writes-1.result) c.requires.writes) (At c.in-Ok.met.ino) c.in-Ok.ensures.walked)
    (had_both c.reach_into.new.session c.args.from.now c.args.to.now _ _ _ c.requires.writes (ap (λ l. get_or l 1 c.index-writes-1.result) c.requires.writes) (inr (inl refl)) c.in-Ok.met.ino c.in-Ok.ensures.had)
    c.in-Ok.ensures.list

pub returns-in-Ok-clause-goes : goal.returns-in-Ok-clause-goes
returns-in-Ok-clause-goes g c =
    to_goes c.args.call.now c.args.from.now c.args.to.now c.requires.rename g.D.Desk.called g.D.Desk.seen c.args.desk.now c.args.session.now c.args.dir c.requires.out c.reach_into.new.desk c.reach_into.new.session c.reach_into.ensures.may c.in-Ok.met.ino
    (walked_both g.D.Desk.called g.D.Desk.seen c.args.desk.now c.args.session.now c.reach_into.new.desk c.reach_into.new.session c.args.from.now c.args.to.now _ _ _ c.requires.writes (ap (λ l. get_or l 1 c.index-writes-1.result) c.requires.writes) (At c.in-Ok.met.ino) c.in-Ok.ensures.walked)
    (try_ends c.rename_across.result) (number_made c.rename_across.result) c.rename_across.new.desk c.rename_across.new.session c.rename_across.ensures.goes

pub returns-in-Ok-clause-busy : goal.returns-in-Ok-clause-busy
returns-in-Ok-clause-busy g c =
    to_busy c.args.call.now c.args.from.now c.args.to.now c.requires.rename g.D.Desk.called g.D.Desk.seen c.args.desk.now c.args.session.now c.args.dir c.requires.out c.reach_into.new.desk c.reach_into.new.session c.reach_into.ensures.may c.in-Ok.met.ino
    (walked_both g.D.Desk.called g.D.Desk.seen c.args.desk.now c.args.session.now c.reach_into.new.desk c.reach_into.new.session c.args.from.now c.args.to.now _ _ _ c.requires.writes (ap (λ l. get_or l 1 c.index-writes-1.result) c.requires.writes) (At c.in-Ok.met.ino) c.in-Ok.ensures.walked)
    (try_ends c.rename_across.result) c.rename_across.ensures.busy

pub returns-in-Err-clause-goes : goal.returns-in-Err-clause-goes
returns-in-Err-clause-goes g c =
    to_stops c.args.call.now c.args.from.now c.args.to.now c.requires.rename g.D.Desk.called g.D.Desk.seen c.args.desk.now c.args.session.now c.args.dir c.requires.out c.reach_into.new.desk c.reach_into.new.session c.reach_into.ensures.may c.in-Err.end
    (walked_both g.D.Desk.called g.D.Desk.seen c.args.desk.now c.args.session.now c.reach_into.new.desk c.reach_into.new.session c.args.from.now c.args.to.now _ _ _ c.requires.writes (ap (λ l. get_or l 1 c.index-writes-1.result) c.requires.writes) c.in-Err.end c.in-Err.ensures.walked)
    c.stopped.new.session c.stopped.ensures.kept c.in-Err.ensures.stopped c.stopped.result c.stopped.ensures.stops

pub returns-in-Err-clause-busy : goal.returns-in-Err-clause-busy
returns-in-Err-clause-busy g c =
    to_stop_busy c.args.call.now c.args.from.now c.args.to.now c.requires.rename g.D.Desk.called g.D.Desk.seen c.args.desk.now c.args.session.now c.args.dir c.requires.out c.reach_into.new.desk c.reach_into.new.session c.reach_into.ensures.may c.in-Err.end
    (walked_both g.D.Desk.called g.D.Desk.seen c.args.desk.now c.args.session.now c.reach_into.new.desk c.reach_into.new.session c.args.from.now c.args.to.now _ _ _ c.requires.writes (ap (λ l. get_or l 1 c.index-writes-1.result) c.requires.writes) c.in-Err.end c.in-Err.ensures.walked)
    c.in-Err.ensures.stopped c.stopped.result c.stopped.new.session c.stopped.ensures.stops
