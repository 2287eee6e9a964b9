use Rattle.trio_open.proofs.Words.{arith, get_or, get_or_default, rules}
use Rattle.trio_open.proofs.LendLemmas.{next_there, next_lent, next_gone}
use Rattle.trio_open.proofs.lend.take_pages.Goals as goal

pub taken-page-requires : goal.taken-page-requires
taken-page-requires c =
    let ns = c.args.numbers.now in
    let i = c.loop-number.number-index in
    let inv = c.loop-number.invariant in
    next_there c.args.home.now.pages c.loop-number.home.pages c.args.range ns i (get_or ns i 0) (omega arith) (get_or_default ns i 0 (get_or ns i 0) (omega arith)) c.requires.there c.requires.once inv.home

pub loop-number-preserved : goal.loop-number-preserved
loop-number-preserved c =
    let ns = c.args.numbers.now in
    let i = c.loop-number.number-index in
    let inv = c.loop-number.invariant in
    let n = get_or ns i 0 in
    let is = get_or_default ns i 0 (get_or ns i 0) (omega arith) in
    let put = c.in-Ok.ensures in
    record {
      home = next_gone c.args.home.now.pages c.loop-number.home.pages c.taken-page.new.home.pages ns i n (omega arith) is inv.home c.taken-page.ensures.pages;
      lent =
          next_lent c.args.home.now.pages c.loop-number.home.pages c.args.range ns i n c.taken-page.result.page c.loop-number.to.items c.push.new.self.items c.taken-page.result (omega arith) is c.requires.there c.requires.once inv.home
          c.taken-page.ensures.lent c.taken-page.ensures.number inv.lent put.items;
      floor = omega (arith, inv.floor, c.taken-page.ensures.floor);
      many = search rules;
      room = search rules;
    }
