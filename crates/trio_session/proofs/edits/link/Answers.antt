use Rattle.trio_session.proofs.Words.{◌∙◌, ap, chain_at, slice_index, with_number_in}
use Rattle.trio_session.proofs.Stays.{at_number}
use Rattle.trio_session.proofs.edits.link.Goals as goal

pub returns : goal.returns
returns c =
    let b = c.args.stock.now in
    let n = slice_index (chain_at b c.args.file c.args.laid.now).index c.args.i in
    let number = at_number b c.index_place-place.result n (c.index_place-place.ensures b c.requires.file) in
    c.put_number.ensures
    ∙ ap (λ m. with_number_in m 4088 c.from.result b) number
    ∙ ap (λ v. with_number_in n 4088 v b) c.from.ensures
