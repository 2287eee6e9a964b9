use Rattle.trio_judge.proofs.Words.{◌++◌, ◌∙◌, ap, arith, false, length, replicate}
use Rattle.trio_judge.proofs.verdict.Room.of.Goals as goal

pub of-walk-requires-clause-count : goal.of-walk-requires-clause-count
of-walk-requires-clause-count c = c.page_count-count.ensures

pub add_marks-requires : goal.add_marks-requires
add_marks-requires c = record { places = omega (arith, c.page_count-count.ensures, c.requires.heads, ap length c.requires.no_heads) }

pub returns : goal.returns
returns c = record {
  pages = c.fill.ensures;
  walk = c.of-walk.ensures;
  heads = c.add_marks.ensures.items ∙ ap (λ xs. xs ++ replicate c.page_count-count.result false) c.requires.no_heads ∙ ap (λ n. replicate n false) c.page_count-count.ensures;
}
