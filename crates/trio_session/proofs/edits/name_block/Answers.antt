use Rattle.trio_session.proofs.Words.{◌%◌, ◌*◌, ◌/◌, ◌∙◌, ap, chain_at, slice_index, with_number_in}
use Rattle.trio_session.proofs.Stays.{at_number}
use Rattle.trio_session.proofs.edits.name_block.Goals as goal

pub returns : goal.returns
returns c =
    let b = c.args.stock.now in
    let k = c.args.k in
    let n = slice_index (chain_at b c.args.file c.args.laid.now).index (k / 511) in
    let number = at_number b c.index_place-place.result n (c.index_place-place.ensures b c.requires.file) in
    c.put_number.ensures
    ∙ ap (λ m. with_number_in m (8 * (k % 511)) c.from.result b) number
    ∙ ap (λ v. with_number_in n (8 * (k % 511)) v b) c.from.ensures
