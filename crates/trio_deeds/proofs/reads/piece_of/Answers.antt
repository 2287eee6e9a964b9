use Rattle.std.proofs.Common.{◌*◌, ◌≤◌, length, ◌∙◌, arith}
use Rattle.trio_session.specs.Layout.{size_in}
use Rattle.trio_session.specs.Seen.{pages_shown}
use Rattle.trio_session.specs.Deeds.{body_had}
use Rattle.trio_deeds.proofs.Reading.{piece_in-page}
use Rattle.trio_deeds.proofs.reads.piece_of.Goals as goal

pub returns : goal.returns
returns c =
    let s = c.args.session.now in
    let long : size_in (body_had s c.args.ino) ≤ 4096 * length (pages_shown s c.args.ino) = omega (arith, c.requires.had.blocks) in
    piece_in-page (pages_shown s c.args.ino) (size_in (body_had s c.args.ino)) c.args.from c.args.count c.bytes.result.now c.requires.had.whole long
    c.requires.within c.requires.some c.requires.inside (c.bytes.ensures.bytes ∙ c.page_of-page.ensures)
