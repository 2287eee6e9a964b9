use Rattle.trio_case.proofs.Words.{◌++◌, ◌+◌, ◌∙◌, ◌≡◌, MarksNames, ap, arith, get_or, length, length-set, listed_seen, map, subst, sym, take, take_all, true}
use Rattle.trio_case.proofs.Naming.{blank, comes_again, goes_on, is_in, marks_on, stands}
use Rattle.trio_case.proofs.names.repeated_on.Goals as goal

pub set-requires : goal.set-requires
set-requires c =
    let es = c.args.entries.now in
    let i = c.loop-listed.listed-index in
    let l = get_or es i blank in
    omega (arith, c.requires l (is_in es i l (stands es i (omega arith))), c.loop-listed.invariant.room)

pub returns-then-not-set-clause-repeated : goal.returns-then-not-set-clause-repeated
returns-then-not-set-clause-repeated c = λ names seen named h.
    let turn = c.loop-listed.invariant in
    let es = c.args.entries.now in
    let i = c.loop-listed.listed-index in
    comes_again names es i (get_or es i blank) (stands es i (omega arith)) seen c.loop-listed.named named (turn.marks names seen named h) c.set.result c.set.ensures.new _ (turn.rest names seen named h) c.if-not-set.true

pub loop-listed-preserved : goal.loop-listed-preserved
loop-listed-preserved c =
    let turn = c.loop-listed.invariant in
    let es = c.args.entries.now in
    let i = c.loop-listed.listed-index in
    let marks = c.loop-listed.named in
    let l = get_or es i blank in
    let at = stands es i (omega arith) in
    record {
      room = ap length c.set.ensures.marked ∙ length-set marks l.name true ∙ turn.room;
      marks = λ names seen named h.
          subst (λ m. MarksNames names m (seen ++ map (listed_seen names) (take (i + 1) es))) (sym c.set.ensures.marked) (marks_on names es i l at seen marks named (turn.marks names seen named h) c.set.result c.set.ensures.new);
      rest = λ names seen named h.
          goes_on names es i l at seen marks named (turn.marks names seen named h) c.set.result c.set.ensures.new _ (turn.rest names seen named h) c.if-not-set.false;
    }

pub returns-clause-marked : goal.returns-clause-marked
returns-clause-marked c = λ names seen named h.
    let es = c.args.entries.now in
    let all : take c.loop-listed.listed-index es ≡ es = take_all c.loop-listed.listed-index es (omega arith) in
    subst (λ ls. MarksNames names c.loop-listed.named (seen ++ map (listed_seen names) ls)) all (c.loop-listed.invariant.marks names seen named h)
