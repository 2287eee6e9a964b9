use Rattle.trio_open.proofs.Words.{◌∙◌, arith, get_or, get_or_default}
use Rattle.trio_open.proofs.LendLemmas.{next_copied}
use Rattle.trio_open.proofs.read.copies.Goals as goal

pub loop-number-preserved : goal.loop-number-preserved
loop-number-preserved c =
    let ns = c.args.numbers.now in
    let i = c.loop-number.number-index in
    let inv = c.loop-number.invariant in
    let is = get_or_default ns i 0 (get_or ns i 0) (omega arith) in
    record {
      home = c.copied.ensures.pages ∙ inv.home;
      floor = omega (arith, inv.floor, c.copied.ensures.floor);
      lent =
          next_copied c.args.home.now.pages c.loop-number.home.pages c.args.range ns i (get_or ns i 0) c.in_ok-page.page.page c.loop-number.copies.items c.push.new.self.items c.in_ok-page.page (omega arith) is c.requires.there inv.home
          c.in_ok-page.ensures.copy c.in_ok-page.ensures.number inv.lent c.in_ok-push.ensures.items;
    }
