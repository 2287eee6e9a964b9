use Rattle.trio_calls_dir.proofs.Words.{◌∙◌, Goes, IsNotBusy, MayPut, PutFile, [], ap, is_some, name_of, not, number_made, refl, subst, sym, try_ends}
use Rattle.trio_calls_dir.proofs.Ends.{lacks, never_busy}
use Rattle.trio_calls_dir.proofs.MovesRoom.{lacked_goes, may_put1, put_goes}
use Rattle.trio_calls_dir.proofs.moves.move_held.Goals as goal

pub returns-then-is_none-clause-goes : goal.returns-then-is_none-clause-goes
returns-then-is_none-clause-goes g c = lacks g.D.Desk.called g.D.Desk.seen c.args.desk.now c.args.session.now c.args.session.now c.args.call.now _ c.requires.moves.may refl

pub move_file-requires : goal.move_file-requires
move_file-requires g c =
    subst (λ o. MayPut c.make_room.new.session o c.name_of-in-Ok.result.now c.args.dir c.args.new_dir c.args.file.ino) (sym c.name_of.ensures.last)
    (subst (λ n. MayPut c.make_room.new.session (name_of c.args.from.now) n c.args.dir c.args.new_dir c.args.file.ino) (sym c.name_of-in-Ok.ensures.last)
    (may_put1 g.D.Desk.called g.D.Desk.seen c.args.desk.now c.args.session.now c.args.call.now c.args.from.now c.args.to.now c.args.dir c.args.new_dir c.args.file c.requires.rename c.requires.moves c.make_room.new.desk c.make_room.new.session c.make_room.result c.make_room.ensures.room
    c.in-Ok.is (ap is_some (sym c.moving.ensures) ∙ c.is_none.ensures ∙ ap not c.if-is_none.false)))

pub returns-in-Ok-clause-goes : goal.returns-in-Ok-clause-goes
returns-in-Ok-clause-goes g c =
    put_goes g.D.Desk.called g.D.Desk.seen c.args.desk.now c.args.session.now c.args.call.now c.args.from.now c.args.to.now c.args.dir c.args.new_dir c.args.file c.requires.rename c.requires.moves c.make_room.new.desk c.make_room.new.session c.make_room.result c.make_room.ensures.room
    c.in-Ok.is c.move_file.new.session
    (subst (λ o. PutFile c.make_room.new.session o (name_of c.args.to.now) c.args.dir c.args.new_dir c.args.file.ino c.move_file.new.session) c.name_of.ensures.last
    (subst (λ n. PutFile c.make_room.new.session c.name_of.result.now n c.args.dir c.args.new_dir c.args.file.ino c.move_file.new.session) c.name_of-in-Ok.ensures.last c.move_file.ensures))

pub returns-in-Err-clause-goes : goal.returns-in-Err-clause-goes
returns-in-Err-clause-goes g c =
    subst (λ r. Goes g.D.Desk.called g.D.Desk.seen c.args.desk.now c.args.session.now c.args.call.now (λ now. []) (try_ends r) (number_made r) c.make_room.new.desk c.make_room.new.session) (sym c.unmade.ensures)
    (lacked_goes g.D.Desk.called g.D.Desk.seen c.args.desk.now c.args.session.now c.args.call.now c.args.from.now c.args.to.now c.args.dir c.args.new_dir c.args.file c.requires.rename c.requires.moves c.make_room.new.desk c.make_room.new.session c.make_room.result c.make_room.ensures.room
    c.in-Err.fault c.in-Err.is)

pub returns-in-Err-clause-idle : goal.returns-in-Err-clause-idle
returns-in-Err-clause-idle g c = subst (λ r. IsNotBusy (try_ends r)) (sym c.unmade.ensures) (never_busy c.in-Err.fault)
