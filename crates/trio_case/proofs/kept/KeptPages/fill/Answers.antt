use Rattle.trio_case.proofs.Words.{◌∙◌, ◌≡◌, KeptPage, ap, arith, bundle_in, bundle_pages, in_order, length, length-map, numbers_of, sym}
use Rattle.trio_case.proofs.Ordered.{order_length}
use Rattle.trio_case.proofs.kept.KeptPages.fill.Goals as goal

pub set_numbers-requires : goal.set_numbers-requires
set_numbers-requires c =
    let own = bundle_pages (bundle_in c.args.bundle.now) in
    let pages = c.sort_pages.new.pages.items in
    let many : length pages ≡ length own =
    sym (length-map pages (λ (p : KeptPage). p.no)) ∙ ap length (c.sort_pages.ensures.numbers ∙ ap in_order c.set_pages.ensures.numbers) ∙ order_length own in
    omega (arith, many, c.requires.order)

pub returns-clause-made : goal.returns-clause-made
returns-clause-made c = record {
  order = c.set_numbers.ensures ∙ ap numbers_of c.deref.ensures.value ∙ c.sort_pages.ensures.numbers ∙ ap in_order c.set_pages.ensures.numbers;
  numbers = sym (c.set_numbers.ensures ∙ ap numbers_of c.deref.ensures.value);
  each = λ p i. c.set_pages.ensures.unread p (c.sort_pages.ensures.each p i);
}

pub returns-clause-counted : goal.returns-clause-counted
returns-clause-counted c = λ p i. c.set_pages.ensures.counted p (c.sort_pages.ensures.each p i)
