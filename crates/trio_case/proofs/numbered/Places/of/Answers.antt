use Rattle.trio_case.proofs.Words.{◌∙◌, ap, in_order}
use Rattle.trio_case.proofs.numbered.Places.of.Goals as goal

pub invariant_of-result : goal.invariant_of-result
invariant_of-result c = record {
  differ = c.requires.differ;
  rising = c.sort_places.ensures.numbers ∙ ap in_order (c.set_places.ensures.numbers ∙ c.deref.ensures.value);
  counted = λ p i. rw c.deref.ensures.value at (c.set_places.ensures.counted p (c.sort_places.ensures.each p i));
}
