use Rattle.trio_session.proofs.Words.{◌∙◌, ◌≡◌, AfterGrant, Err, Grant, IsTrue, NoGrant, NoGrantMemory, NotMade, Ok, OneCall, TellsGrant, inr, refl, serves, sym}
use Rattle.trio_desk.specs.Calls.{Made}
use Rattle.trio_session.proofs.Desks.{but_indexed, indexed_or_not, may_read, need_denied, need_granted, on_indexed, same_but}
use Rattle.trio_session.proofs.Serves.{serves-but, serves-granted}
use Rattle.trio_session.proofs.session.Session.need.Goals as goal

pub index-requires : goal.index-requires
index-requires g c = may_read (g.D.Desk.seen c.args.desk.now) c.args.self.now c.args.ino c.requires

pub index_dir-requires-clause-read : goal.index_dir-requires-clause-read
index_dir-requires-clause-read g c = may_read (g.D.Desk.seen c.args.desk.now) c.args.self.now c.args.ino c.requires

pub returns-then-is_directory-clause-on : goal.returns-then-is_directory-clause-on
returns-then-is_directory-clause-on g c = on_indexed (g.D.Desk.seen c.args.desk.now) c.args.self.now c.index_dir.new.self c.index_dir.ensures.kept c.requires

pub index-requires-in-Ok : goal.index-requires-in-Ok
index-requires-in-Ok g c = may_read (g.D.Desk.seen c.lend.new.desk) c.lend.new.self c.args.ino c.lend.ensures.on

pub returns-then-serves-clause-on : goal.returns-then-serves-clause-on
returns-then-serves-clause-on g c = on_indexed (g.D.Desk.seen c.args.desk.now) c.args.self.now c.index.new.self c.index.ensures.kept c.requires

pub returns-in-Ok-clause-on : goal.returns-in-Ok-clause-on
returns-in-Ok-clause-on g c = on_indexed (g.D.Desk.seen c.lend.new.desk) c.lend.new.self c.index-in-Ok.new.self c.index-in-Ok.ensures.kept c.lend.ensures.on

pub returns-in-Ok-clause-call : goal.returns-in-Ok-clause-call
returns-in-Ok-clause-call g c =
    let s = c.args.self.now in
    let t = c.lend.new.self in
    let s' = c.index-in-Ok.new.self in
    let call : OneCall g.D.Desk.called c.args.desk.now (Grant c.args.ino c.args.kind) c.lend.new.desk (λ told. TellsGrant (g.D.Desk.seen c.args.desk.now) c.args.ino c.args.kind told (g.D.Desk.seen c.lend.new.desk) × AfterGrant s (Ok tt) t told) (NoGrant s (Ok tt) t) = c.in-Ok.ensures.call in
    elim call [
      | Made told called after ↦ Made told called (after.0, need_granted s t s' c.index-in-Ok.result told after.1 c.index-in-Ok.ensures.kept c.index-in-Ok.ensures.more (indexed_or_not c.index-in-Ok.result c.index-in-Ok.ensures.fault), sym c.serves.ensures ∙ c.if-serves.false)
      | NotMade same none ↦ absurd (let e : Ok tt ≡ Err NoGrantMemory = none.0 in cc e)
    ]

pub returns-in-Err-clause-call : goal.returns-in-Err-clause-call
returns-in-Err-clause-call g c =
    let s = c.args.self.now in
    let t = c.lend.new.self in
    let why = c.in-Err.fault in
    let call : OneCall g.D.Desk.called c.args.desk.now (Grant c.args.ino c.args.kind) c.lend.new.desk (λ told. TellsGrant (g.D.Desk.seen c.args.desk.now) c.args.ino c.args.kind told (g.D.Desk.seen c.lend.new.desk) × AfterGrant s (Err why) t told) (NoGrant s (Err why) t) = c.in-Err.ensures.call in
    elim call [
      | Made told called after ↦ Made told called (after.0, need_denied s t why told after.1, sym c.serves.ensures ∙ c.if-serves.false)
      | NotMade same none ↦ NotMade same (inr none.0, same_but s t none.1)
    ]

pub returns-then-serves-clause-served : goal.returns-then-serves-clause-served
returns-then-serves-clause-served g c =
    let s = c.args.self.now in
    let s' = c.index.new.self in
    λ ok. serves-but s s' c.args.ino c.args.kind (but_indexed s s s' refl c.index.ensures.kept c.index.ensures.more) ∙ sym c.serves.ensures ∙ c.if-serves.true

pub returns-in-Ok-clause-served : goal.returns-in-Ok-clause-served
returns-in-Ok-clause-served g c =
    let s = c.args.self.now in
    let t = c.lend.new.self in
    let s' = c.index-in-Ok.new.self in
    let d = g.D.Desk.seen c.args.desk.now in
    let d' = g.D.Desk.seen c.lend.new.desk in
    let call : OneCall g.D.Desk.called c.args.desk.now (Grant c.args.ino c.args.kind) c.lend.new.desk (λ told. TellsGrant d c.args.ino c.args.kind told d' × AfterGrant s (Ok tt) t told) (NoGrant s (Ok tt) t) = c.in-Ok.ensures.call in
    let lent : IsTrue (serves t c.args.ino c.args.kind) = (elim call [
      | Made told called after ↦ serves-granted d d' s t c.args.ino c.args.kind told after.0 after.1
      | NotMade same none ↦ absurd (let e : Ok tt ≡ Err NoGrantMemory = none.0 in cc e)
    ]) in
    λ ok. serves-but t s' c.args.ino c.args.kind (but_indexed t t s' refl c.index-in-Ok.ensures.kept c.index-in-Ok.ensures.more) ∙ lent
