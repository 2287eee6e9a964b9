use Rattle.trio_shared.proofs.Words.{◌≡◌, handed_in, seated, sym}
use Rattle.std.proofs.Common.{rules}
use Rattle.std.proofs.lemmas.Result.{IfOk-weaker}
use Rattle.trio_shared.proofs.Releases.{marks_back, may_end, waits_back, waits_none}
use Rattle.trio_shared.proofs.pool_desk.end_with.Goals as goal

pub finish-requires-clause-marked : goal.finish-requires-clause-marked
finish-requires-clause-marked g c mine =
    let same : c.args.copy.now ≡ handed_in c.args.judged.case.bundle = search rules in
    may_end (seated c.args.seat.now) c.args.judged.case c.args.copy.now same c.requires.marks

pub returns-clause-ends : goal.returns-clause-ends
returns-clause-ends g c =
    let same : c.args.copy.now ≡ handed_in c.args.judged.case.bundle = search rules in
    IfOk-weaker c.finish.result _ _ (λ answer ends. (c.args.judged.case, sym same, ends)) c.finish.ensures.ends

pub returns-clause-waits : goal.returns-clause-waits
returns-clause-waits g c =
    let e = c.finish.ensures in waits_back (seated c.args.seat.now) (seated c.finish.new.seat) c.args.judged.case c.finish.result e.looked e.begun e.seen

pub returns-clause-marks : goal.returns-clause-marks
returns-clause-marks g c =
    let e = c.finish.ensures in
    marks_back (seated c.args.seat.now) (seated c.finish.new.seat) c.args.judged.case c.finish.result e.looked e.seen c.args.copy.now c.requires.marks

pub returns-then-not-is-clause-waits : goal.returns-then-not-is-clause-waits
returns-then-not-is-clause-waits g c = waits_none (seated c.args.seat.now)
