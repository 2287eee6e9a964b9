use Rattle.trio_judge.proofs.Words.{◌<◌, ◌≡◌, arith, bundle_in, bundle_pages, is_among, length, mark_more, sym, true}
use Rattle.trio_case.specs.Order.{in_order}
use Rattle.trio_judge.proofs.pages.mark.Goals as goal

pub returns-clause-marked : goal.returns-clause-marked
returns-clause-marked c = λ other.
    let own = bundle_pages (bundle_in c.args.case.now.bundle) in
    let marks = c.args.marks.now.items in
    let some : is_among c.args.page own ≡ true = sym c.in-Some.ensures.own in
    let small : c.in-Some.at < length marks = omega (arith, c.in-Some.ensures.within, c.requires.places) in
    rw some (mark_more (in_order own) marks c.args.page c.in-Some.at (sym c.in-Some.ensures.place) small other)
