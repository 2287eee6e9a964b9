use Rattle.trio_calls_dir.proofs.Words.{◌∙◌, ◌≡◌, ◌≤◌, Call, CoreRange, Creds, Goes, IsDone, IsNotBusy, IsReplied, Replied, Some, [], ap, arith, body_made, body_of, false, is_name, is_root, length, largest_size, makes_file, name_of, new_body, new_bytes, new_kind, new_mode, new_number, new_pages, new_path, number_made, put_new, subst, sym, true, try_ends}
use Rattle.trio_deeds.specs.Slots.{MayMakeFile}
use Rattle.trio_calls_dir.specs.Asks.{IsEntryCall}
use Rattle.trio_calls_dir.proofs.Ends.{never_busy}
use Rattle.trio_calls_dir.proofs.MakesRoom.{MayMake, blocks_room, few_it, lacked_goes, made_goes, makes_it, may_make, pages_spare, path_it}
use Rattle.trio_calls_dir.proofs.makes.make_in.Goals as goal

pub make_room-requires-clause-new : goal.make_room-requires-clause-new
make_room-requires-clause-new g c =
    subst (λ n. n ≤ largest_size) (sym (c.new_size.ensures ∙ ap (λ k. length (new_bytes k)) c.requires.makes.is))
    (few_it c.requires.makes.what c.args.path.now (subst (λ (k : Call). IsEntryCall k) c.requires.makes.is c.requires.makes.fits))

pub put_new-made-requires : goal.put_new-made-requires
put_new-made-requires g c =
    let what = c.requires.makes.what in
    let is = c.requires.makes.is in
    let m : MayMake (g.D.Desk.seen c.args.desk.now) c.args.session.now c.args.call.now what c.args.path.now c.args.dir =
    record { may = c.requires.may; call = is; fits = subst (λ (k : Call). IsEntryCall k) is c.requires.makes.fits; root = c.requires.root; opens = c.requires.open; new = c.requires.new; comes = c.requires.comes; free = c.requires.free } in
    let path : new_path c.args.call.now ≡ c.args.path.now = ap new_path is ∙ path_it what c.args.path.now in
    record {
      entry = c.requires.makes.fits;
      makes = ap makes_file is ∙ makes_it what c.args.path.now;
      root = ap is_root path ∙ c.requires.root;
      may =
          subst (λ p. MayMakeFile c.make_room.new.session (name_of p) c.args.dir) (sym path)
          (may_make g.D.Desk.called g.D.Desk.seen c.args.desk.now c.args.session.now c.args.call.now what c.args.path.now c.args.dir c.new_size.result m c.new_size.ensures c.make_room.new.desk c.make_room.new.session c.make_room.result c.make_room.ensures.room c.in-Ok.is);
      pages = pages_spare g.D.Desk.called g.D.Desk.seen c.args.desk.now c.args.session.now c.args.call.now what c.args.path.now c.args.dir c.new_size.result m c.new_size.ensures c.make_room.new.desk c.make_room.new.session c.make_room.result c.make_room.ensures.room c.in-Ok.is;
      room = blocks_room g.D.Desk.called g.D.Desk.seen c.args.desk.now c.args.session.now c.args.call.now what c.args.path.now c.args.dir c.new_size.result m c.new_size.ensures c.make_room.new.desk c.make_room.new.session c.make_room.result c.make_room.ensures.room c.in-Ok.is;
    }

pub returns-in-Ok-clause-goes : goal.returns-in-Ok-clause-goes
returns-in-Ok-clause-goes g c =
    let what = c.requires.makes.what in
    let is = c.requires.makes.is in
    let m : MayMake (g.D.Desk.seen c.args.desk.now) c.args.session.now c.args.call.now what c.args.path.now c.args.dir =
    record { may = c.requires.may; call = is; fits = subst (λ (k : Call). IsEntryCall k) is c.requires.makes.fits; root = c.requires.root; opens = c.requires.open; new = c.requires.new; comes = c.requires.comes; free = c.requires.free } in
    let path : new_path c.args.call.now ≡ c.args.path.now = ap new_path is ∙ path_it what c.args.path.now in
    let creds : c.creds-creds.result ≡ (g.D.Desk.seen c.make_room.new.desk).creds = c.creds-creds.ensures.creds ∙ sym c.make_room.ensures.room.wanted.same.creds in
    let call = c.args.call.now in
    let read = subst (λ (k : Creds). (range : CoreRange) → body_of (new_kind call) range (new_body k (new_mode call)) ≡ Some (body_made k (new_mode call))) creds c.put_new-made.ensures.body in
    let s1 = c.make_room.new.session in
    let s2 = c.put_new-made.new.session in
    let kept = subst (λ (k : Creds). s2 ≡ record (put_new k call c.args.dir (new_number s1) s1) { room = s2.room }) creds c.put_new-made.ensures.kept in
    subst (λ n. Goes g.D.Desk.called g.D.Desk.seen c.args.desk.now c.args.session.now c.args.call.now (λ now. []) (Replied (IsReplied IsDone)) n c.make_room.new.desk s2) (sym c.put_new-made.ensures.number)
    (made_goes g.D.Desk.called g.D.Desk.seen c.args.desk.now c.args.session.now c.args.call.now what c.args.path.now c.args.dir c.new_size.result m c.new_size.ensures c.make_room.new.desk s1 c.make_room.result c.make_room.ensures.room
    c.in-Ok.is c.creds-creds.ensures.limits (subst (λ p. is_name (name_of p) ≡ true) path c.put_new-made.ensures.name) read s2 kept c.put_new-made.ensures.calls)

pub returns-in-Err-clause-goes : goal.returns-in-Err-clause-goes
returns-in-Err-clause-goes g c =
    let what = c.requires.makes.what in
    let is = c.requires.makes.is in
    let m : MayMake (g.D.Desk.seen c.args.desk.now) c.args.session.now c.args.call.now what c.args.path.now c.args.dir =
    record { may = c.requires.may; call = is; fits = subst (λ (k : Call). IsEntryCall k) is c.requires.makes.fits; root = c.requires.root; opens = c.requires.open; new = c.requires.new; comes = c.requires.comes; free = c.requires.free } in
    subst (λ r. Goes g.D.Desk.called g.D.Desk.seen c.args.desk.now c.args.session.now c.args.call.now (λ now. []) (try_ends r) (number_made r) c.make_room.new.desk c.make_room.new.session) (sym c.unmade.ensures)
    (lacked_goes g.D.Desk.called g.D.Desk.seen c.args.desk.now c.args.session.now c.args.call.now what c.args.path.now c.args.dir c.new_size.result m c.new_size.ensures c.make_room.new.desk c.make_room.new.session c.make_room.result c.make_room.ensures.room
    c.in-Err.fault c.in-Err.is)

pub returns-in-Err-clause-idle : goal.returns-in-Err-clause-idle
returns-in-Err-clause-idle g c = subst (λ r. IsNotBusy (try_ends r)) (sym c.unmade.ensures) (never_busy c.in-Err.fault)
