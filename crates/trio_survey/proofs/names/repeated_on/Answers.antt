use Rattle.trio_survey.proofs.Words.{◌++◌, ◌+◌, ◌∙◌, ◌≡◌, MarksNames, ap, arith, entry_seen, length, length-set, map, subst, sym, take, take_all, true}
use Rattle.trio_survey.proofs.Naming.{IsAt, comes_again, goes_on, is_in, marks_on}
use Rattle.trio_survey.proofs.names.repeated_on.Goals as goal

pub set-requires : goal.set-requires
set-requires c =
    let es = c.args.entries.now in
    let i = c.loop-listed.listed-index in
    let l = c.listed-item.result in
    omega (arith, c.requires l (is_in es i l (omega arith, c.listed-item.is)), c.loop-listed.invariant.room)

pub returns-then-not-set-clause-repeated : goal.returns-then-not-set-clause-repeated
returns-then-not-set-clause-repeated c = λ names seen named h.
    let turn = c.loop-listed.invariant in
    let es = c.args.entries.now in
    let i = c.loop-listed.listed-index in
    comes_again names es i (c.listed-item.result) (omega arith, c.listed-item.is) seen c.loop-listed.named named (turn.marks names seen named h) c.set.result c.set.ensures.new _ (turn.rest names seen named h) c.if-not-set.true

pub loop-listed-preserved : goal.loop-listed-preserved
loop-listed-preserved c =
    let turn = c.loop-listed.invariant in
    let es = c.args.entries.now in
    let i = c.loop-listed.listed-index in
    let marks = c.loop-listed.named in
    let l = c.listed-item.result in
    let at : IsAt es i l = (omega arith, c.listed-item.is) in
    record {
      room = ap length c.set.ensures.marked ∙ length-set marks l.name true ∙ turn.room;
      marks = λ names seen named h.
          subst (λ m. MarksNames names m (seen ++ map (entry_seen names) (take (i + 1) es))) (sym c.set.ensures.marked) (marks_on names es i l at seen marks named (turn.marks names seen named h) c.set.result c.set.ensures.new);
      rest = λ names seen named h.
          goes_on names es i l at seen marks named (turn.marks names seen named h) c.set.result c.set.ensures.new _ (turn.rest names seen named h) c.if-not-set.false;
    }

pub returns-clause-marked : goal.returns-clause-marked
returns-clause-marked c = λ names seen named h.
    let es = c.args.entries.now in
    let all : take c.loop-listed.listed-index es ≡ es = take_all c.loop-listed.listed-index es (omega arith) in
    subst (λ ls. MarksNames names c.loop-listed.named (seen ++ map (entry_seen names) ls)) all (c.loop-listed.invariant.marks names seen named h)
