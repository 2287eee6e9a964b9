use Rattle.trio_calls_file.proofs.Words.{◌∙◌, ◌≡◌, Call, ComesHere, Creds, Goes, Guard, IsFileCall, None, Truncate, Write, ap, checked, grant_for, path_of, refl, serves, subst, sym, true, try_ends, wants_pages_for}
use Rattle.trio_calls_file.proofs.AtFile.{read_regular}
use Rattle.trio_calls_file.proofs.AtTaken.{edit_goes, read_goes, stat_goes, text_goes, write_open}
use Rattle.trio_calls_file.proofs.Guards.{guard_goes}
use Rattle.trio_calls_file.proofs.files.at_taken.Goals as goal

pub write-requires-clause-open : goal.write-requires-clause-open
write-requires-clause-open g c =
    let e = c.in-Write.is ∙ ap (Write c.in-Write.path c.in-Write.at) (sym c.as_slice.ensures) in
    write_open g.D.Desk.called g.D.Desk.seen c.args.desk.now c.args.session.now c.args.met c.requires.may c.requires.met c.requires.had c.args.call.now (Write c.in-Write.path c.in-Write.at c.as_slice.result.now) e c.requires.file c.requires.unrefused refl c.requires.taken c.requires.shown

pub truncate-requires-clause-open : goal.truncate-requires-clause-open
truncate-requires-clause-open g c =
    write_open g.D.Desk.called g.D.Desk.seen c.args.desk.now c.args.session.now c.args.met c.requires.may c.requires.met c.requires.had c.args.call.now (Truncate c.in-Truncate.path c.in-Truncate.size) c.in-Truncate.is c.requires.file c.requires.unrefused refl c.requires.taken c.requires.shown

pub returns-in-Write-clause-goes : goal.returns-in-Write-clause-goes
returns-in-Write-clause-goes g c =
    let e = c.in-Write.is ∙ ap (Write c.in-Write.path c.in-Write.at) (sym c.as_slice.ensures) in
    edit_goes g.D.Desk.called g.D.Desk.seen c.args.desk.now c.args.session.now c.args.met c.requires.may c.requires.met c.requires.had c.args.call.now (Write c.in-Write.path c.in-Write.at c.as_slice.result.now) e c.requires.file c.requires.comes c.requires.unrefused refl (try_ends c.write.result) c.write.new.desk c.write.new.session (c.write.ensures.goes c.in-Write.path)

pub returns-in-Truncate-clause-goes : goal.returns-in-Truncate-clause-goes
returns-in-Truncate-clause-goes g c =
    edit_goes g.D.Desk.called g.D.Desk.seen c.args.desk.now c.args.session.now c.args.met c.requires.may c.requires.met c.requires.had c.args.call.now (Truncate c.in-Truncate.path c.in-Truncate.size) c.in-Truncate.is c.requires.file c.requires.comes c.requires.unrefused refl (try_ends c.truncate.result) c.truncate.new.desk c.truncate.new.session (c.truncate.ensures.goes c.in-Truncate.path)

pub guard-requires : goal.guard-requires
guard-requires g c = record {
  «open» = write_open g.D.Desk.called g.D.Desk.seen c.args.desk.now c.args.session.now c.args.met c.requires.may c.requires.met c.requires.had c.args.call.now (Guard c.in-Guard.path c.in-Guard.on) c.in-Guard.is c.requires.file c.requires.unrefused refl c.requires.taken c.requires.shown;
}

pub returns-in-Guard-clause-goes : goal.returns-in-Guard-clause-goes
returns-in-Guard-clause-goes g c =
    let on = c.in-Guard.on in
    let o = write_open g.D.Desk.called g.D.Desk.seen c.args.desk.now c.args.session.now c.args.met c.requires.may c.requires.met c.requires.had c.args.call.now (Guard c.in-Guard.path on) c.in-Guard.is c.requires.file c.requires.unrefused refl c.requires.taken c.requires.shown in
    edit_goes g.D.Desk.called g.D.Desk.seen c.args.desk.now c.args.session.now c.args.met c.requires.may c.requires.met c.requires.had c.args.call.now (Guard c.in-Guard.path on) c.in-Guard.is c.requires.file c.requires.comes c.requires.unrefused refl (try_ends c.guard.result) c.args.desk.now c.guard.new.session (λ u.
    guard_goes g.D.Desk.called g.D.Desk.seen c.args.desk.now c.args.session.now c.args.met.ino c.in-Guard.path on c.requires.may o u c.guard.new.session c.guard.result c.guard.ensures.ends)

pub returns-in-Readlink-clause-goes : goal.returns-in-Readlink-clause-goes
returns-in-Readlink-clause-goes g c =
    let e = c.in-Readlink.is in
    let creds : Creds = (g.D.Desk.seen c.args.desk.now).creds in
    let unrefused = subst (λ (k : Call). checked creds c.args.met k ≡ None) e c.requires.unrefused in
    let comes = subst (λ (k : Call). ComesHere (g.D.Desk.seen c.args.desk.now) c.args.session.now (path_of k) c.args.met.ino) e c.requires.comes in
    let served = subst (λ (k : Call). serves c.args.session.now c.args.met.ino (grant_for k) ≡ true) e c.requires.taken in
    subst (λ (k : Call). Goes g.D.Desk.called g.D.Desk.seen c.args.desk.now c.args.session.now k c.args.met.ino (wants_pages_for creds k) (try_ends c.read_text.result) c.args.desk.now c.read_text.new.session) (sym e)
    (text_goes g.D.Desk.called g.D.Desk.seen c.args.desk.now c.args.session.now c.args.met c.requires.may c.requires.met c.requires.had c.in-Readlink.path comes unrefused served c.read_text.new.session c.read_text.ensures.kept c.read_text.result c.read_text.ensures.ends)

pub returns-in-Read-clause-goes : goal.returns-in-Read-clause-goes
returns-in-Read-clause-goes g c =
    let e = c.in-Read.is in
    let creds : Creds = (g.D.Desk.seen c.args.desk.now).creds in
    let file = subst (λ (k : Call). IsFileCall k) e c.requires.file in
    let unrefused = subst (λ (k : Call). checked creds c.args.met k ≡ None) e c.requires.unrefused in
    let comes = subst (λ (k : Call). ComesHere (g.D.Desk.seen c.args.desk.now) c.args.session.now (path_of k) c.args.met.ino) e c.requires.comes in
    let served = subst (λ (k : Call). serves c.args.session.now c.args.met.ino (grant_for k) ≡ true) e c.requires.taken in
    subst (λ (k : Call). Goes g.D.Desk.called g.D.Desk.seen c.args.desk.now c.args.session.now k c.args.met.ino (wants_pages_for creds k) (try_ends c.read.result) c.args.desk.now c.read.new.session) (sym e)
    (read_goes g.D.Desk.called g.D.Desk.seen c.args.desk.now c.args.session.now c.args.met c.requires.may c.requires.met c.requires.had c.in-Read.path c.in-Read.at c.in-Read.len comes file unrefused served (read_regular creds c.args.met c.in-Read.path c.in-Read.at c.in-Read.len unrefused) c.read.new.session c.read.ensures.kept c.read.result c.read.ensures.ends)

pub returns-in-Stat-clause-goes : goal.returns-in-Stat-clause-goes
returns-in-Stat-clause-goes g c =
    let e = c.in-Stat.is in
    let creds : Creds = (g.D.Desk.seen c.args.desk.now).creds in
    let comes = subst (λ (k : Call). ComesHere (g.D.Desk.seen c.args.desk.now) c.args.session.now (path_of k) c.args.met.ino) e c.requires.comes in
    let served = subst (λ (k : Call). serves c.args.session.now c.args.met.ino (grant_for k) ≡ true) e c.requires.taken in
    subst (λ (k : Call). Goes g.D.Desk.called g.D.Desk.seen c.args.desk.now c.args.session.now k c.args.met.ino (wants_pages_for creds k) (try_ends c.stat.result) c.args.desk.now c.stat.new.session) (sym e)
    (stat_goes g.D.Desk.called g.D.Desk.seen c.args.desk.now c.args.session.now c.args.met c.requires.may c.requires.met c.requires.had c.in-Stat.path comes served c.stat.new.session c.stat.ensures.kept c.stat.result (rw c.creds.ensures.creds at c.stat.ensures.ends))
