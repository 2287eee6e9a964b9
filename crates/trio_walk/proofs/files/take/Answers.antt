use Rattle.trio_walk.proofs.Words.{Busy, Err, GrantFault, NoMemory, Ok, Result, Took, cond, inl, inr, subst, sym, true}
use Rattle.trio_walk.proofs.Taking.{Needing, fault_as, fault_end, had_as, never}
use Rattle.trio_walk.proofs.files.take.Goals as goal

pub unreachable-requires : goal.unreachable-requires
unreachable-requires g c =
    let e = c.need.ensures in
    let raw : Needing g.D.Desk.called g.D.Desk.seen c.args.desk.now c.need.new.desk c.args.session.now c.need.new.self c.args.met c.args.kind c.requires.may c.requires.met c.requires.fits c.need.result = record { call = e.call; indexed = e.indexed; served = e.served; on = e.on } in
    let need : Needing g.D.Desk.called g.D.Desk.seen c.args.desk.now c.need.new.desk c.args.session.now c.need.new.self c.args.met c.args.kind c.requires.may c.requires.met c.requires.fits (Err c.in-Err-NotLive.field-0) = subst (λ (r : Result (Unit {0}) GrantFault). Needing g.D.Desk.called g.D.Desk.seen c.args.desk.now c.need.new.desk c.args.session.now c.need.new.self c.args.met c.args.kind c.requires.may c.requires.met c.requires.fits r) (c.in-Err-NotLive.is) raw in
    never g.D.Desk.called g.D.Desk.seen c.args.desk.now c.need.new.desk c.args.session.now c.need.new.self c.args.met c.args.kind c.requires.may c.requires.met c.requires.fits c.in-Err-NotLive.field-0 need (inl c.in-Err-NotLive.field-0-is)

pub unreachable-requires-in-Err-NoParent : goal.unreachable-requires-in-Err-NoParent
unreachable-requires-in-Err-NoParent g c =
    let e = c.need.ensures in
    let raw : Needing g.D.Desk.called g.D.Desk.seen c.args.desk.now c.need.new.desk c.args.session.now c.need.new.self c.args.met c.args.kind c.requires.may c.requires.met c.requires.fits c.need.result = record { call = e.call; indexed = e.indexed; served = e.served; on = e.on } in
    let need : Needing g.D.Desk.called g.D.Desk.seen c.args.desk.now c.need.new.desk c.args.session.now c.need.new.self c.args.met c.args.kind c.requires.may c.requires.met c.requires.fits (Err c.in-Err-NoParent.field-0) = subst (λ (r : Result (Unit {0}) GrantFault). Needing g.D.Desk.called g.D.Desk.seen c.args.desk.now c.need.new.desk c.args.session.now c.need.new.self c.args.met c.args.kind c.requires.may c.requires.met c.requires.fits r) (c.in-Err-NoParent.is) raw in
    never g.D.Desk.called g.D.Desk.seen c.args.desk.now c.need.new.desk c.args.session.now c.need.new.self c.args.met c.args.kind c.requires.may c.requires.met c.requires.fits c.in-Err-NoParent.field-0 need (inr c.in-Err-NoParent.field-0-is)

pub returns-in-Ok : goal.returns-in-Ok
returns-in-Ok g c =
    let e = c.need.ensures in
    let raw : Needing g.D.Desk.called g.D.Desk.seen c.args.desk.now c.need.new.desk c.args.session.now c.need.new.self c.args.met c.args.kind c.requires.may c.requires.met c.requires.fits c.need.result = record { call = e.call; indexed = e.indexed; served = e.served; on = e.on } in
    let need : Needing g.D.Desk.called g.D.Desk.seen c.args.desk.now c.need.new.desk c.args.session.now c.need.new.self c.args.met c.args.kind c.requires.may c.requires.met c.requires.fits (Ok tt) = subst (λ (r : Result (Unit {0}) GrantFault). Needing g.D.Desk.called g.D.Desk.seen c.args.desk.now c.need.new.desk c.args.session.now c.need.new.self c.args.met c.args.kind c.requires.may c.requires.met c.requires.fits r) (c.in-Ok.is) raw in
    let ends = had_as g.D.Desk.called g.D.Desk.seen c.args.desk.now c.need.new.desk c.args.session.now c.need.new.self c.args.met c.args.kind c.requires.may c.requires.met c.requires.fits need c.shows.result c.shows.ensures in
    subst (λ b. Took g.D.Desk.called g.D.Desk.seen c.args.desk.now c.args.session.now c.args.met c.args.kind (cond b (Ok true) (Err NoMemory)) c.need.new.desk c.need.new.self) c.if-shows.true ends

pub returns-in-Ok-2 : goal.returns-in-Ok-2
returns-in-Ok-2 g c =
    let e = c.need.ensures in
    let raw : Needing g.D.Desk.called g.D.Desk.seen c.args.desk.now c.need.new.desk c.args.session.now c.need.new.self c.args.met c.args.kind c.requires.may c.requires.met c.requires.fits c.need.result = record { call = e.call; indexed = e.indexed; served = e.served; on = e.on } in
    let need : Needing g.D.Desk.called g.D.Desk.seen c.args.desk.now c.need.new.desk c.args.session.now c.need.new.self c.args.met c.args.kind c.requires.may c.requires.met c.requires.fits (Ok tt) = subst (λ (r : Result (Unit {0}) GrantFault). Needing g.D.Desk.called g.D.Desk.seen c.args.desk.now c.need.new.desk c.args.session.now c.need.new.self c.args.met c.args.kind c.requires.may c.requires.met c.requires.fits r) (c.in-Ok.is) raw in
    let ends = had_as g.D.Desk.called g.D.Desk.seen c.args.desk.now c.need.new.desk c.args.session.now c.need.new.self c.args.met c.args.kind c.requires.may c.requires.met c.requires.fits need c.shows.result c.shows.ensures in
    subst (λ b. Took g.D.Desk.called g.D.Desk.seen c.args.desk.now c.args.session.now c.args.met c.args.kind (cond b (Ok true) (Err NoMemory)) c.need.new.desk c.need.new.self) c.if-shows.false ends

pub returns-in-Err-Denied : goal.returns-in-Err-Denied
returns-in-Err-Denied g c =
    let e = c.need.ensures in
    let raw : Needing g.D.Desk.called g.D.Desk.seen c.args.desk.now c.need.new.desk c.args.session.now c.need.new.self c.args.met c.args.kind c.requires.may c.requires.met c.requires.fits c.need.result = record { call = e.call; indexed = e.indexed; served = e.served; on = e.on } in
    let need : Needing g.D.Desk.called g.D.Desk.seen c.args.desk.now c.need.new.desk c.args.session.now c.need.new.self c.args.met c.args.kind c.requires.may c.requires.met c.requires.fits (Err c.in-Err-Denied.field-0) = subst (λ (r : Result (Unit {0}) GrantFault). Needing g.D.Desk.called g.D.Desk.seen c.args.desk.now c.need.new.desk c.args.session.now c.need.new.self c.args.met c.args.kind c.requires.may c.requires.met c.requires.fits r) (c.in-Err-Denied.is) raw in
    subst (λ f. Took g.D.Desk.called g.D.Desk.seen c.args.desk.now c.args.session.now c.args.met c.args.kind (fault_end g.D.Desk.called g.D.Desk.seen c.args.desk.now c.need.new.desk c.args.session.now c.need.new.self c.args.met c.args.kind c.requires.may c.requires.met c.requires.fits f) c.need.new.desk c.need.new.self) c.in-Err-Denied.field-0-is (fault_as g.D.Desk.called g.D.Desk.seen c.args.desk.now c.need.new.desk c.args.session.now c.need.new.self c.args.met c.args.kind c.requires.may c.requires.met c.requires.fits c.in-Err-Denied.field-0 need)

pub returns-in-Err-Busy : goal.returns-in-Err-Busy
returns-in-Err-Busy g c =
    let e = c.need.ensures in
    let raw : Needing g.D.Desk.called g.D.Desk.seen c.args.desk.now c.need.new.desk c.args.session.now c.need.new.self c.args.met c.args.kind c.requires.may c.requires.met c.requires.fits c.need.result = record { call = e.call; indexed = e.indexed; served = e.served; on = e.on } in
    let need : Needing g.D.Desk.called g.D.Desk.seen c.args.desk.now c.need.new.desk c.args.session.now c.need.new.self c.args.met c.args.kind c.requires.may c.requires.met c.requires.fits (Err c.in-Err-Busy.field-0) = subst (λ (r : Result (Unit {0}) GrantFault). Needing g.D.Desk.called g.D.Desk.seen c.args.desk.now c.need.new.desk c.args.session.now c.need.new.self c.args.met c.args.kind c.requires.may c.requires.met c.requires.fits r) (c.in-Err-Busy.is) raw in
    let ends = subst (λ f. Took g.D.Desk.called g.D.Desk.seen c.args.desk.now c.args.session.now c.args.met c.args.kind (fault_end g.D.Desk.called g.D.Desk.seen c.args.desk.now c.need.new.desk c.args.session.now c.need.new.self c.args.met c.args.kind c.requires.may c.requires.met c.requires.fits f) c.need.new.desk c.need.new.self) c.in-Err-Busy.field-0-is (fault_as g.D.Desk.called g.D.Desk.seen c.args.desk.now c.need.new.desk c.args.session.now c.need.new.self c.args.met c.args.kind c.requires.may c.requires.met c.requires.fits c.in-Err-Busy.field-0 need) in
    subst (λ h. Took g.D.Desk.called g.D.Desk.seen c.args.desk.now c.args.session.now c.args.met c.args.kind (Err (Busy h)) c.need.new.desk c.need.new.self) (sym c.in-Err-Busy.holder-is) ends

pub returns-in-Err-NoMemory : goal.returns-in-Err-NoMemory
returns-in-Err-NoMemory g c =
    let e = c.need.ensures in
    let raw : Needing g.D.Desk.called g.D.Desk.seen c.args.desk.now c.need.new.desk c.args.session.now c.need.new.self c.args.met c.args.kind c.requires.may c.requires.met c.requires.fits c.need.result = record { call = e.call; indexed = e.indexed; served = e.served; on = e.on } in
    let need : Needing g.D.Desk.called g.D.Desk.seen c.args.desk.now c.need.new.desk c.args.session.now c.need.new.self c.args.met c.args.kind c.requires.may c.requires.met c.requires.fits (Err c.in-Err-NoMemory.field-0) = subst (λ (r : Result (Unit {0}) GrantFault). Needing g.D.Desk.called g.D.Desk.seen c.args.desk.now c.need.new.desk c.args.session.now c.need.new.self c.args.met c.args.kind c.requires.may c.requires.met c.requires.fits r) (c.in-Err-NoMemory.is) raw in
    subst (λ f. Took g.D.Desk.called g.D.Desk.seen c.args.desk.now c.args.session.now c.args.met c.args.kind (fault_end g.D.Desk.called g.D.Desk.seen c.args.desk.now c.need.new.desk c.args.session.now c.need.new.self c.args.met c.args.kind c.requires.may c.requires.met c.requires.fits f) c.need.new.desk c.need.new.self) c.in-Err-NoMemory.field-0-is (fault_as g.D.Desk.called g.D.Desk.seen c.args.desk.now c.need.new.desk c.args.session.now c.need.new.self c.args.met c.args.kind c.requires.may c.requires.met c.requires.fits c.in-Err-NoMemory.field-0 need)
