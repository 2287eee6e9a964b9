use Rattle.trio_judge.proofs.Words.{◌∙◌, ap, arith, sym}
use Rattle.trio_judge.proofs.Starting.{directory_lent, own_count}
use Rattle.trio_judge.proofs.start.WalkMemory.with.Goals as goal

pub returns : goal.returns
returns c = λ k fits.
    let own = own_count k in
    let made = c.in_ok-with.ensures in
    record {
      files = omega (arith, own, fits.values, c.in_ok-with_capacity.ensures.capacity);
      no_files = c.in_ok-with_capacity.ensures.items;
      found = omega (arith, own, fits.values, c.in_ok-with_capacity-2.ensures.capacity);
      no_found = c.in_ok-with_capacity-2.ensures.items;
      pages = omega (arith, fits.pages, c.in_ok-with_capacity-3.ensures.capacity);
      no_pages = c.in_ok-with_capacity-3.ensures.items;
      listing = ap (λ l. l.listing) made;
      held = omega (arith, fits.holds, ap (λ l. l.room.held) made);
      room = record {
        files = omega (arith, own, fits.values, ap (λ l. l.room.files) made);
        index = omega (arith, fits.pages, ap (λ l. l.room.index) made);
        blocks = omega (arith, fits.pages, ap (λ l. l.room.blocks) made);
        entries = λ lists.
            let some = fits.lists (sym (directory_lent k) ∙ lists) in
            let all = rw some at c.in_ok-entries.ensures in
            omega (arith, fits.pages, all, ap (λ l. l.room.entries) made);
      };
    }
