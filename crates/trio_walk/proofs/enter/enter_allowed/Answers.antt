use Rattle.trio_walk.proofs.Words.{◌&&◌, ◌∙◌, ◌≡◌, Bool, Err, GrantKind, Ok, Result, Took, WalkEnd, ap, body_refuses, false, kind_for, subst, sym, true}
use Rattle.std.proofs.Common.{not, is_some}
use Rattle.std.proofs.lemmas.Bool.{and_parts}
use Rattle.trio_walk.proofs.Entering.{broken_off, entered_either, refused_then, root_refused}
use Rattle.trio_walk.proofs.enter.enter_allowed.Goals as goal

pub returns-in-Ok-true : goal.returns-in-Ok-true
returns-in-Ok-true g c =
    let k : Took g.D.Desk.called g.D.Desk.seen c.args.desk.now c.args.session.now c.args.at (kind_for c.args.need) (Ok true) c.take.new.desk c.take.new.session =
    subst (λ (r : Result Bool WalkEnd). Took g.D.Desk.called g.D.Desk.seen c.args.desk.now c.args.session.now c.args.at (kind_for c.args.need) (r) c.take.new.desk c.take.new.session) (c.in-Ok-true.is ∙ ap (λ b. Ok b) c.in-Ok-true.field-0-test)
    (subst (λ (q : GrantKind). Took g.D.Desk.called g.D.Desk.seen c.args.desk.now c.args.session.now c.args.at q c.take.result c.take.new.desk c.take.new.session) c.kind_for.ensures c.take.ensures) in
    let e : (not (is_some c.args.at.rights) && body_refuses c.take.new.session (g.D.Desk.seen c.take.new.desk).creds c.args.need c.args.at.ino) ≡ true =
    ap (λ q. not (is_some c.args.at.rights) && body_refuses c.take.new.session q c.args.need c.args.at.ino) (sym c.creds.ensures.creds) ∙ sym c.refuses_now.ensures ∙ c.if-refuses_now.true in
    refused_then g.D.Desk.called g.D.Desk.seen c.args.desk.now c.args.session.now c.args.at c.args.need c.requires.may c.requires.met c.requires.directory c.requires.gives c.take.new.desk c.take.new.session k
    (and_parts (not (is_some c.args.at.rights)) _ e).1

pub returns-in-Ok-true-2 : goal.returns-in-Ok-true-2
returns-in-Ok-true-2 g c =
    let k : Took g.D.Desk.called g.D.Desk.seen c.args.desk.now c.args.session.now c.args.at (kind_for c.args.need) (Ok true) c.take.new.desk c.take.new.session =
    subst (λ (r : Result Bool WalkEnd). Took g.D.Desk.called g.D.Desk.seen c.args.desk.now c.args.session.now c.args.at (kind_for c.args.need) (r) c.take.new.desk c.take.new.session) (c.in-Ok-true.is ∙ ap (λ b. Ok b) c.in-Ok-true.field-0-test)
    (subst (λ (q : GrantKind). Took g.D.Desk.called g.D.Desk.seen c.args.desk.now c.args.session.now c.args.at q c.take.result c.take.new.desk c.take.new.session) c.kind_for.ensures c.take.ensures) in
    let e : (not (is_some c.args.at.rights) && body_refuses c.take.new.session (g.D.Desk.seen c.take.new.desk).creds c.args.need c.args.at.ino) ≡ false =
    ap (λ q. not (is_some c.args.at.rights) && body_refuses c.take.new.session q c.args.need c.args.at.ino) (sym c.creds.ensures.creds) ∙ sym c.refuses_now.ensures ∙ c.if-refuses_now.false in
    entered_either g.D.Desk.called g.D.Desk.seen c.args.desk.now c.args.session.now c.args.at c.args.need c.requires.may c.requires.met c.requires.directory c.requires.gives c.take.new.desk c.take.new.session k e

pub returns-in-Ok-false : goal.returns-in-Ok-false
returns-in-Ok-false g c =
    let k : Took g.D.Desk.called g.D.Desk.seen c.args.desk.now c.args.session.now c.args.at (kind_for c.args.need) (Ok false) c.take.new.desk c.take.new.session =
    subst (λ (r : Result Bool WalkEnd). Took g.D.Desk.called g.D.Desk.seen c.args.desk.now c.args.session.now c.args.at (kind_for c.args.need) (r) c.take.new.desk c.take.new.session) (c.in-Ok-false.is ∙ ap (λ b. Ok b) c.in-Ok-false.field-0-test)
    (subst (λ (q : GrantKind). Took g.D.Desk.called g.D.Desk.seen c.args.desk.now c.args.session.now c.args.at q c.take.result c.take.new.desk c.take.new.session) c.kind_for.ensures c.take.ensures) in
    root_refused g.D.Desk.called g.D.Desk.seen c.args.desk.now c.args.session.now c.args.at c.args.need c.requires.may c.requires.met c.requires.directory c.requires.gives c.take.new.desk c.take.new.session k

pub returns-in-Err : goal.returns-in-Err
returns-in-Err g c =
    let k : Took g.D.Desk.called g.D.Desk.seen c.args.desk.now c.args.session.now c.args.at (kind_for c.args.need) (Err c.in-Err.end) c.take.new.desk c.take.new.session =
    subst (λ (r : Result Bool WalkEnd). Took g.D.Desk.called g.D.Desk.seen c.args.desk.now c.args.session.now c.args.at (kind_for c.args.need) (r) c.take.new.desk c.take.new.session) (c.in-Err.is)
    (subst (λ (q : GrantKind). Took g.D.Desk.called g.D.Desk.seen c.args.desk.now c.args.session.now c.args.at q c.take.result c.take.new.desk c.take.new.session) c.kind_for.ensures c.take.ensures) in
    broken_off g.D.Desk.called g.D.Desk.seen c.args.desk.now c.args.session.now c.args.at c.args.need c.requires.may c.requires.met c.requires.directory c.requires.gives c.take.new.desk c.take.new.session c.in-Err.end k
