use Rattle.trio_case.proofs.Words.{◌∙◌, ◌≡◌, IsUnread, KeptPage, LentFile, LentPage, ap, arith, no_at, numbers_of, option_and_then, option_map, refl, sym}
use Rattle.trio_case.proofs.Making.{more_numbers, one_counted, one_unread, there_of}
use Rattle.trio_case.proofs.kept.add_blocks.Goals as goal

pub loop-at-preserved : goal.loop-at-preserved
loop-at-preserved c =
    let at = c.loop-at.at in
    let turn = c.loop-at.invariant in
    let p = there_of (λ (q : LentPage). q.no) _ c.in-Some.no c.in-Some.ensures in
    let own : c.unread.result.no ≡ p.0.no.0 = ap (λ q. q.no) c.unread.ensures ∙ ap (λ n. n.0) (sym p.2) in
    record {
      numbers = more_numbers (λ (q : LentPage). q.no.0) c.args.lease.now.stands.blocks at p.0 (numbers_of c.args.pages.now.items) c.loop-at.pages.items c.push.new.list.items c.unread.result p.1 own c.push.ensures.items turn.numbers;
      unread = λ b file before.
          let here : IsUnread b c.unread.result = rw c.unread.ensures (record {
            place = ap (option_and_then (λ (f : LentFile). option_map (λ n. n.0) (no_at f.stands.blocks at))) file ∙ ap (option_map (λ n. n.0)) (sym c.in-Some.ensures);
            entries = refl;
            index = refl;
          }) in
          one_unread b c.loop-at.pages.items c.push.new.list.items c.unread.result c.push.ensures.items here (turn.unread b file before);
      counted = λ h. one_counted c.loop-at.pages.items c.push.new.list.items c.unread.result c.push.ensures.items (omega (arith, ap (λ (q : KeptPage). q.nth) c.unread.ensures, c.len-nth.ensures)) (turn.counted h);
      len = omega (arith, c.push.ensures.len, turn.len);
      capacity = omega (arith, c.push.ensures.capacity, turn.capacity);
    }
