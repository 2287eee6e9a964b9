use Rattle.trio_proposal.proofs.Placing.{placed_is}
use Rattle.trio_proposal.proofs.place.put_body.Goals as goal

pub returns-in-Some : goal.returns-in-Some
returns-in-Some c =
    let bytes = rw c.bytes_mut.ensures.bytes at c.put_bytes_in.ensures in
    rw (c.put.ensures, c.take.ensures.home)
    (placed_is c.args.home.now.pages c.args.page.0 c.args.slot c.body_offset.result c.args.body.now c.in-Some.taken c.put_bytes_in.new.bytes c.in-Some.ensures.page c.body_offset.ensures bytes)
