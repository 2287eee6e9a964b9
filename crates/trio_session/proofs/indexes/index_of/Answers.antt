use Rattle.trio_session.proofs.Words.{◌∙◌, Some, ap, dir_pages, option_copied, sym}
use Rattle.trio_session.proofs.Scanned.{page_apart, page_read, page_there, page_told, pages_end}
use Rattle.trio_session.proofs.indexes.index_of.Goals as goal

pub scan-requires-clause-read : goal.scan-requires-clause-read
scan-requires-clause-read c =
    let at = page_there c.args.lease.now c.loop-k.k (Some c.in-Some.page.now) (sym c.block.ensures ∙ ap option_copied c.in-Some.is) in
    page_read (dir_pages c.args.lease.now) c.loop-k.dir c.loop-k.k c.in-Some.page.now c.requires c.loop-k.invariant.inodes at

pub scan-requires-clause-differ : goal.scan-requires-clause-differ
scan-requires-clause-differ c =
    let at = page_there c.args.lease.now c.loop-k.k (Some c.in-Some.page.now) (sym c.block.ensures ∙ ap option_copied c.in-Some.is) in
    page_apart (dir_pages c.args.lease.now) c.loop-k.dir c.loop-k.k c.in-Some.page.now c.requires c.loop-k.invariant.inodes c.loop-k.invariant.slots at

pub returns-in-None : goal.returns-in-None
returns-in-None c =
    pages_end c.args.lease.now c.loop-k.dir c.loop-k.k c.loop-k.invariant.inodes c.loop-k.invariant.slots (sym c.block.ensures ∙ ap option_copied c.in-None.is)

pub loop-k-preserved : goal.loop-k-preserved
loop-k-preserved c =
    let at = page_there c.args.lease.now c.loop-k.k (Some c.in-Some.page.now) (sym c.block.ensures ∙ ap option_copied c.in-Some.is) in
    record {
      inodes = ap (λ d. d.inodes) c.in_ok-scan-in-Some.ensures.told ∙ c.loop-k.invariant.inodes;
      slots = ap (λ d. d.slots) c.in_ok-scan-in-Some.ensures.told
          ∙ page_told (dir_pages c.args.lease.now) c.loop-k.dir c.loop-k.k c.in-Some.page.now c.loop-k.invariant.inodes c.loop-k.invariant.slots at;
    }
