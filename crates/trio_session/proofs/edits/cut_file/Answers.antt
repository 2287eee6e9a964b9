use Rattle.trio_session.proofs.Words.{◌-◌, ◌∙◌, ◌≡◌, CutDone, FilePlace, IsFile, Laid, List, Parcel, ap, arith, block_count, body_at, body_sized, chain_at, drop, home_at, index_count, is_some, length, shown_at, subst, sym, unlinked, unnamed, with_body_at, ℕ}
use Rattle.std.specs.Prelude.{IsTrue}
use Rattle.trio_session.proofs.Chains.{there_some}
use Rattle.trio_session.proofs.Edited.{keeps_file}
use Rattle.trio_session.proofs.Cuts.{IsCut, cut_done, file_cut, links_keep, named_keeps}
use Rattle.trio_session.proofs.edits.cut_file.Goals as goal

pub body-requires-clause-there : goal.body-requires-clause-there
body-requires-clause-there c = there_some c.args.stock.now c.args.file c.args.laid.now c.requires.laid

pub unlink_from-requires : goal.unlink_from-requires
unlink_from-requires c =
    let b = c.args.stock.now in
    let chain = chain_at b c.args.file c.args.laid.now in
    let blocks = c.div_ceil-blocks.result in
    keeps_file b c.unname_from.new.stock c.args.file c.args.laid.now (named_keeps b c.unname_from.new.stock chain.index blocks (length chain.blocks - blocks) c.unname_from.ensures) c.requires.laid

pub head_of-head-requires : goal.head_of-head-requires
head_of-head-requires c =
    let b = c.args.stock.now in
    let chain = chain_at b c.args.file c.args.laid.now in
    let blocks = c.div_ceil-blocks.result in
    let named = c.unname_from.new.stock in
    let keeps = links_keep b named c.unlink_from.new.stock chain.index (drop c.saturating_sub.result (chain_at named c.args.file c.args.laid.now).index) blocks (length chain.blocks - blocks)
    c.unname_from.ensures c.unlink_from.ensures in
    let places : IsCut blocks c.args.laid.now c.cut.new.self = record {
      index_kept = c.cut.ensures.index_kept;
      blocks_kept = c.cut.ensures.blocks_kept;
      index = c.cut.ensures.index;
      blocks = c.cut.ensures.blocks;
    } in
    keeps_file b c.unlink_from.new.stock c.args.file c.cut.new.self keeps (file_cut blocks b c.args.file c.args.laid.now c.cut.new.self c.requires.laid places)

pub put_body-requires-clause-there : goal.put_body-requires-clause-there
put_body-requires-clause-there c =
    let b = c.args.stock.now in
    let chain = chain_at b c.args.file c.args.laid.now in
    let blocks = c.div_ceil-blocks.result in
    let named = c.unname_from.new.stock in
    let keeps = links_keep b named c.unlink_from.new.stock chain.index (drop c.saturating_sub.result (chain_at named c.args.file c.args.laid.now).index) blocks (length chain.blocks - blocks)
    c.unname_from.ensures c.unlink_from.ensures in
    there_some c.unlink_from.new.stock c.args.file c.args.laid.now (keeps_file b c.unlink_from.new.stock c.args.file c.args.laid.now keeps c.requires.laid)

pub returns : goal.returns
returns c =
    let b = c.args.stock.now in
    let chain = chain_at b c.args.file c.args.laid.now in
    let named = c.unname_from.new.stock in
    let links = c.unlink_from.new.stock in
    let size = c.args.size in
    let head = c.head_of-head.result in
    let blocks : c.div_ceil-blocks.result ≡ block_count size = omega (arith, c.div_ceil-blocks.ensures) in
    let from : c.saturating_sub.result ≡ index_count (block_count size) - 1 =
    c.saturating_sub.ensures ∙ ap (λ n. n - 1) (c.index_count.ensures ∙ ap index_count blocks) in
    let places : IsCut c.div_ceil-blocks.result c.args.laid.now c.cut.new.self = record {
      index_kept = c.cut.ensures.index_kept;
      blocks_kept = c.cut.ensures.blocks_kept;
      index = c.cut.ensures.index;
      blocks = c.cut.ensures.blocks;
    } in
    let sized : c.with_sizes.result ≡ body_sized head size (body_at b c.args.file) = c.with_sizes.ensures ∙ ap (body_sized head size) c.body.ensures.body in
    cut_done b named links c.put_body.new.self size head c.args.file c.args.laid.now c.cut.new.self
    (record { laid = c.requires.laid; has = c.requires.has; less = c.requires.less }) c.ranges.size.fits
    (record {
      names = c.unname_from.ensures ∙ ap (λ n. unnamed chain.index n (length chain.blocks - n) b) blocks;
      ends = c.unlink_from.ensures ∙ ap (λ n. unlinked (drop n (chain_at named c.args.file c.args.laid.now).index) named) from;
      places = subst (λ n. IsCut n c.args.laid.now c.cut.new.self) blocks places;
      first = c.head_of-head.ensures;
      body = c.put_body.ensures.written ∙ ap (λ w. with_body_at (home_at links c.args.file) w links) sized;
      has_body = c.put_body.ensures.has ∙ sized;
      whole = c.body.ensures.len;
      page = c.body.ensures.whole;
      others = c.put_body.ensures.others;
    })
