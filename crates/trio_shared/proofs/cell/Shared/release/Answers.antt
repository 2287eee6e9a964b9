use Rattle.trio_shared.proofs.Words.{handed_in, seated, sym}
use Rattle.trio_shared.proofs.Releases.{call_back, handed_same, has_begun, marks_begun, may_end, one_call, seen_one}
use Rattle.trio_shared.proofs.cell.Shared.release.Goals as goal

pub returns-in-Err-clause-called : goal.returns-in-Err-clause-called
returns-in-Err-clause-called g c = call_back (seated c.args.seat.now) (seated c.begin.new.seat) c.args.bundle c.in-Err.back.1 c.in-Err.ensures.looked c.requires.given

pub end_here-requires-clause-begun : goal.end_here-requires-clause-begun
end_here-requires-clause-begun g c = has_begun (seated c.args.seat.now) (seated c.begin.new.seat) c.args.bundle c.in-Ok.pending c.in-Ok.ensures.looked c.requires.given c.in-Ok.ensures.begun c.begin.ensures.seen

pub end_here-requires-clause-marked : goal.end_here-requires-clause-marked
end_here-requires-clause-marked g c =
    let old = seated c.args.seat.now in
    let mid = seated c.begin.new.seat in
    may_end mid c.in-Ok.pending (handed_in c.args.bundle) (sym (handed_same old mid c.args.bundle c.in-Ok.pending c.in-Ok.ensures.looked))
    (marks_begun old mid c.args.bundle c.in-Ok.pending c.in-Ok.ensures.looked c.requires.given c.lent_is_marked.ensures.law c.keeps_untouched.ensures)

pub returns-in-Ok-clause-called : goal.returns-in-Ok-clause-called
returns-in-Ok-clause-called g c =
    let old = seated c.args.seat.now in
    let mid = seated c.begin.new.seat in
    one_call old mid c.args.bundle c.in-Ok.pending c.in-Ok.ensures.looked (handed_same old mid c.args.bundle c.in-Ok.pending c.in-Ok.ensures.looked) c.requires.given c.end_here.result (seated c.end_here.new.seat) c.end_here.ensures.ends

pub returns-in-Ok-clause-seen : goal.returns-in-Ok-clause-seen
returns-in-Ok-clause-seen g c =
    let old = seated c.args.seat.now in
    let mid = seated c.begin.new.seat in
    seen_one old mid c.args.bundle c.in-Ok.pending c.in-Ok.ensures.looked (handed_same old mid c.args.bundle c.in-Ok.pending c.in-Ok.ensures.looked) c.requires.given c.end_here.result (seated c.end_here.new.seat) c.end_here.ensures.ends
