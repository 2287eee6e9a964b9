use Rattle.trio_session.proofs.Words.{◌*◌, ◌+◌, ◌-◌, ◌∙◌, ◌≡◌, ap, arith, chain_at, length, min, page_in, slice_index, slice_range, with_page, with_part}
use Rattle.std.proofs.Common.{max}
use Rattle.trio_session.proofs.Stays.{at_number}
use Rattle.trio_session.proofs.edits.put_block.Goals as goal

pub returns : goal.returns
returns c =
    let b = c.args.stock.now in
    let k = c.args.k in
    let at = c.args.at in
    let bytes = c.args.bytes.now in
    let n = slice_index (chain_at b c.args.file c.args.laid.now).blocks k in
    let number = at_number b c.block_place-place.result n (c.block_place-place.ensures b c.requires.file) in
    let end : c.min.result + 4096 * k - at ≡ min (at + length bytes) (4096 * k + 4096) - at = omega (arith, c.min.ensures, c.requires.end) in
    c.put_part.ensures
    ∙ ap (λ m. with_page m (with_part (c.max-from.result - 4096 * k) (slice_range bytes (c.max-from.result - at) (c.min.result + 4096 * k - at)) (page_in b m)) b) number
    ∙ ap (λ from. with_page n (with_part (from - 4096 * k) (slice_range bytes (from - at) (c.min.result + 4096 * k - at)) (page_in b n)) b) c.max-from.ensures
    ∙ ap (λ e. with_page n (with_part (max at (4096 * k) - 4096 * k) (slice_range bytes (max at (4096 * k) - at) e) (page_in b n)) b) end
