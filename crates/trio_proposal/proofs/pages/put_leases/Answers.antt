use Rattle.trio_proposal.proofs.Words.{◌∙◌, AreWithin, arith, flat_map, lease_sheets, length, lent_sheet, map, subst, sym, take}
use Rattle.trio_proposal.proofs.Puts.{blocks_within, index_within, leases_more, put_both, put_long}
use Rattle.trio_proposal.proofs.pages.put_leases.Goals as goal

pub put_index-requires : goal.put_index-requires
put_index-requires c =
    let leases = c.args.leases.now in
    let turn = c.loop-lease in
    let x = c.lease-item.result in
    let long = put_long (flat_map lease_sheets (take turn.lease-index leases)) c.args.home.now.pages turn.home.pages c.args.marks.now.items turn.marks.items turn.invariant in
    index_within (length turn.home.pages) leases turn.lease-index x (omega arith) c.lease-item.is
    (subst (λ n. AreWithin n (flat_map lease_sheets leases)) (sym long) c.requires)

pub put_blocks-requires : goal.put_blocks-requires
put_blocks-requires c =
    let leases = c.args.leases.now in
    let turn = c.loop-lease in
    let x = c.lease-item.result in
    let long = put_long (flat_map lease_sheets (take turn.lease-index leases)) c.args.home.now.pages turn.home.pages c.args.marks.now.items turn.marks.items turn.invariant in
    let long' = put_long (map lent_sheet x.stands.index) turn.home.pages c.put_index.new.home.pages turn.marks.items c.put_index.new.marks.items c.in_ok-put_index.ensures in
    blocks_within (length c.put_index.new.home.pages) leases turn.lease-index x (omega arith) c.lease-item.is
    (subst (λ n. AreWithin n (flat_map lease_sheets leases)) (sym (long' ∙ long)) c.requires)

pub loop-lease-preserved : goal.loop-lease-preserved
loop-lease-preserved c =
    let leases = c.args.leases.now in
    let turn = c.loop-lease in
    let x = c.lease-item.result in
    let index = map lent_sheet x.stands.index in
    let blocks = map lent_sheet x.stands.blocks in
    let before = flat_map lease_sheets (take turn.lease-index leases) in
    let both = put_both index blocks turn.home.pages c.put_index.new.home.pages c.put_blocks.new.home.pages turn.marks.items c.put_index.new.marks.items c.put_blocks.new.marks.items c.in_ok-put_index.ensures c.in_ok-put_blocks.ensures in
    rw (leases_more leases turn.lease-index x (omega arith) c.lease-item.is)
    (put_both before (lease_sheets x) c.args.home.now.pages turn.home.pages c.put_blocks.new.home.pages c.args.marks.now.items turn.marks.items c.put_blocks.new.marks.items turn.invariant both)
