use Rattle.trio_case.proofs.Words.{◌∙◌, ◌≡◌, FreshParts, IsUnread, KeptPage, Some, ap, arith, numbers_of, option_map, refl, slice_get, slice_get_read, sym}
use Rattle.trio_case.proofs.Making.{more_numbers, one_counted, one_unread}
use Rattle.trio_case.proofs.kept.add_fresh.Goals as goal

pub loop-at-preserved : goal.loop-at-preserved
loop-at-preserved c =
    let at = c.loop-at.at in
    let turn = c.loop-at.invariant in
    let page : FreshParts = c.index-fresh-at.result in
    let there : slice_get c.args.fresh.now at ≡ Some page = slice_get_read c.args.fresh.now _ at page refl (omega arith) c.index-fresh-at.is in
    let own : c.unread.result.no ≡ page.no.0 = ap (λ q. q.no) c.unread.ensures ∙ ap (λ n. n.0) c.no.ensures in
    record {
      numbers = more_numbers (λ (q : FreshParts). q.no.0) c.args.fresh.now at page (numbers_of c.args.pages.now.items) c.loop-at.pages.items c.push.new.list.items c.unread.result there own c.push.ensures.items turn.numbers;
      unread = λ b file before.
          let here : IsUnread b c.unread.result = rw c.unread.ensures (record {
            place = ap (λ ps. option_map (λ (q : FreshParts). q.no.0) (slice_get ps at)) file ∙ ap (option_map (λ (q : FreshParts). q.no.0)) there ∙ ap (λ n. Some n.0) (sym c.no.ensures);
            entries = refl;
            index = refl;
          }) in
          one_unread b c.loop-at.pages.items c.push.new.list.items c.unread.result c.push.ensures.items here (turn.unread b file before);
      counted = λ h. one_counted c.loop-at.pages.items c.push.new.list.items c.unread.result c.push.ensures.items (omega (arith, ap (λ (q : KeptPage). q.nth) c.unread.ensures, c.len-nth.ensures)) (turn.counted h);
      len = omega (arith, c.push.ensures.len, turn.len);
      capacity = omega (arith, c.push.ensures.capacity, turn.capacity);
    }
