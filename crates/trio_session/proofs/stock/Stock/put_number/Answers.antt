use Rattle.trio_session.proofs.Words.{◌∙◌, ap, number_at, page_in, with_page, with_part}
use Rattle.trio_page.specs.Field.{with_number}
use Rattle.trio_session.proofs.stock.Stock.put_number.Goals as goal

pub returns : goal.returns
unfolding with_number
returns c =
    let n = number_at c.args.self.now c.args.place in
    c.put_part.ensures ∙ ap (λ bytes. with_page n (with_part c.args.offset bytes (page_in c.args.self.now n)) c.args.self.now) c.to_le_bytes.ensures
