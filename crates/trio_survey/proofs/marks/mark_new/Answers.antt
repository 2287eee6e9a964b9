use Rattle.trio_survey.proofs.Words.{◌++◌, ◌+◌, ◌<◌, ◌∙◌, ◌∷◌, ◌≡◌, [], arith, below_at, false, get_or, get_or_read, length, sym, take, take_all, take_more, vec_len}
use Rattle.trio_lists.proofs.Marked.{MarksJust-more}
use Rattle.trio_survey.proofs.Repeats.{first_marked, first_unmarked}
use Rattle.trio_survey.proofs.marks.mark_new.Goals as goal
use Rattle.trio_survey.proofs.marks.mark_new.Goals.{then-index, else-index}

pub loop-n-preserved : goal.loop-n-preserved
loop-n-preserved c =
    let these = c.args.these.now in
    let i = c.loop-n.n-index in
    let marks = c.loop-n.marks.items in
    let n = get_or these i 0 in
    let below : n < length marks = omega (arith, below_at (vec_len c.args.marks.now) these i (omega arith) c.requires) in
    let was = sym (get_or_read marks n c.index.result.now below c.index.ensures false) in
    let more : take (i + 1) these ≡ take i these ++ n ∷ [] = take_more these i 0 (omega arith) in
    record {
      marked = λ before m. MarksJust-more marks before these i (omega arith) below (c.loop-n.invariant.marked before m);
      first = λ before m.
          let seen = sym (c.loop-n.invariant.marked before m n below) ∙ was in
          elim c.if-index.branch [
            | then-index w ↦ rw (w.repeated-is, w.or-repeated.ensures, more) (first_marked before (take i these) n c.loop-n.repeated (seen ∙ w.if-index.true) (c.loop-n.invariant.first before m))
            | else-index w ↦ rw (w.repeated-is, more) (first_unmarked before (take i these) n c.loop-n.repeated (seen ∙ w.if-index.false) (c.loop-n.invariant.first before m))
          ];
      len = c.loop-n.invariant.len;
    }

pub returns-clause-marked : goal.returns-clause-marked
returns-clause-marked c = λ before m. rw (sym (take_all c.loop-n.n-index c.args.these.now (omega arith))) (c.loop-n.invariant.marked before m)

pub returns-clause-first : goal.returns-clause-first
returns-clause-first c = λ before m. rw (sym (take_all c.loop-n.n-index c.args.these.now (omega arith))) (c.loop-n.invariant.first before m)
