use Rattle.trio_case.proofs.Words.{◌∙◌, ◌≡◌, KeptPage, ap, arith, bundle_in, bundle_pages, length, length-map, sym, unread_blocks, unread_index, vec_capacity}
use Rattle.std.specs.Prelude.{vec_len}
use Rattle.trio_nameset.specs.Names.{Names}
use Rattle.trio_case.proofs.Making.{all_unread, all_unread_index}
use Rattle.trio_case.proofs.Ordered.{order_length}
use Rattle.trio_case.proofs.room.PageRoom.fill.Goals as goal

pub returns : goal.returns
returns c =
    let kept = c.fill.new.self in
    let own = bundle_pages (bundle_in c.args.case.now.bundle) in
    let made = rw c.bundle.ensures.bundle at c.fill.ensures.made in
    let pages = kept.pages.items in
    let many : length pages ≡ length own = sym (length-map pages (λ (p : KeptPage). p.no)) ∙ ap length (made.numbers ∙ made.order) ∙ order_length own in
    let blocks : unread_blocks kept ≡ length pages = all_unread pages (λ p i. (made.each p i).entries) in
    let index : unread_index kept ≡ length pages = all_unread_index pages (λ p i. (made.each p i).index) in
    let m = c.requires in
    let no_entries : vec_len kept.entries ≡ 0 = ap vec_len c.fill.ensures.entries ∙ m.kept.no_entries in
    let no_names : length kept.names.names ≡ 0 = ap (λ (s : Names). length s.names) c.fill.ensures.names ∙ m.kept.no_names in
    let no_numbers : vec_len kept.numbers ≡ 0 = ap vec_len c.fill.ensures.numbers ∙ m.kept.no_numbers in
    record {
      order = made.order;
      numbers = made.numbers;
      each = made.each;
      space = record {
        pages = record {
          entries = omega (arith, many, blocks, no_entries, ap vec_capacity c.fill.ensures.entries, m.kept.entries);
          numbers = omega (arith, many, index, no_numbers, ap vec_capacity c.fill.ensures.numbers, m.kept.numbers);
          names = omega (arith, many, blocks, no_names, ap (λ (s : Names). s.room) c.fill.ensures.names, m.kept.names);
        };
        index = m.index;
        blocks = m.blocks;
        named = omega (arith, many, blocks, no_names, m.named);
      };
    }
