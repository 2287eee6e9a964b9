use Rattle.trio_judge.proofs.Words.{◌∙◌, and_parts, arith, bundle_in, bundle_pages, get_or, is_among, is_marked, not, refl, sym, take_all}
use Rattle.std.proofs.lemmas.Bool.{not-true}
use Rattle.trio_judge.proofs.Owned.{foreign_here, own_more, own_none, unmarked}
use Rattle.trio_judge.proofs.pages.mark_own.Goals as goal

pub loop-page-init : goal.loop-page-init
loop-page-init c = record { own = λ before m. own_none (bundle_pages (bundle_in c.args.case.now.bundle)) before c.args.marks.now.items m; len = refl }

pub loop-page-preserved : goal.loop-page-preserved
loop-page-preserved c =
    let ps = c.args.pages.now in
    let own = bundle_pages (bundle_in c.args.case.now.bundle) in
    let i = c.loop-page.page-index in
    let page = get_or ps i 0 in
    let new = and_parts (is_among page own) (not (is_marked own c.loop-page.marks.items page)) (sym c.mark.ensures.new ∙ c.if-not-mark.false) in
    record {
      own = λ before m. own_more own before ps c.loop-page.marks.items _ i (omega arith) new.0 (not-true _ new.1) c.mark.ensures.marked (c.loop-page.invariant.own before m);
      len = c.mark.ensures.len ∙ c.loop-page.invariant.len;
    }

pub returns-then-not-mark-clause-first : goal.returns-then-not-mark-clause-first
returns-then-not-mark-clause-first c = λ before m.
    let ps = c.args.pages.now in
    let own = bundle_pages (bundle_in c.args.case.now.bundle) in
    let i = c.loop-page.page-index in
    foreign_here own before ps i (omega arith) (unmarked own before ps c.loop-page.marks.items i (c.loop-page.invariant.own before m) (sym c.mark.ensures.new ∙ c.if-not-mark.true))

pub returns-clause-first : goal.returns-clause-first
returns-clause-first c = λ before m. rw (sym (take_all c.loop-page.page-index c.args.pages.now (omega arith))) (c.loop-page.invariant.own before m)
