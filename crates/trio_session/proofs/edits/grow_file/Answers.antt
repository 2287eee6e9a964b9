use Rattle.trio_session.proofs.Words.{◌+◌, ◌-◌, ◌∙◌, ◌≡◌, List, ap, arith, block_count, body_at, body_sized, chain_at, drop, gap, home_at, index_count, length, linked, numbered, put_bytes, size_in, subst, sym, with_body_at, zeros, ℕ}
use Rattle.trio_session.proofs.Chains.{blocks_length, index_length, there_some}
use Rattle.trio_session.proofs.Edited.{keeps_file}
use Rattle.trio_session.proofs.Grows.{IsGrown, bytes_keep, grow_done, grown_enough, grown_is_file, index_enough, links_grown, names_grown, next_place}
use Rattle.trio_session.proofs.edits.grow_file.Goals as goal

pub body-requires-clause-there : goal.body-requires-clause-there
body-requires-clause-there c = there_some c.args.stock.now c.args.file c.args.laid.now c.requires.laid

pub link_from-requires : goal.link_from-requires
link_from-requires c =
    let b = c.args.stock.now in
    let l = c.args.laid.now in
    let l' = c.take_pages-next.new.self in
    let blocks : c.div_ceil.result ≡ block_count c.args.size = omega (arith, c.div_ceil.ensures) in
    let places : IsGrown c.args.from c.div_ceil.result l l' = record {
      index_kept = c.take_pages-next.ensures.index_kept;
      blocks_kept = c.take_pages-next.ensures.blocks_kept;
      index = c.take_pages-next.ensures.index;
      blocks = c.take_pages-next.ensures.blocks;
    } in
    keeps_file b c.put_zeros.new.stock c.args.file l' (bytes_keep b c.put_zeros.new.stock (chain_at b c.args.file l).blocks c.u64_in-old.result (zeros c.min-gap.result) c.put_zeros.ensures)
    (grown_is_file b c.args.size c.args.from c.args.file l l' c.requires c.ranges.size.fits (subst (λ n. IsGrown c.args.from n l l') blocks places))

pub name_from-requires-clause-file : goal.name_from-requires-clause-file
name_from-requires-clause-file c =
    let b = c.args.stock.now in
    let l = c.args.laid.now in
    let l' = c.take_pages-next.new.self in
    let blocks : c.div_ceil.result ≡ block_count c.args.size = omega (arith, c.div_ceil.ensures) in
    let places : IsGrown c.args.from c.div_ceil.result l l' = record {
      index_kept = c.take_pages-next.ensures.index_kept;
      blocks_kept = c.take_pages-next.ensures.blocks_kept;
      index = c.take_pages-next.ensures.index;
      blocks = c.take_pages-next.ensures.blocks;
    } in
    let first = bytes_keep b c.put_zeros.new.stock (chain_at b c.args.file l).blocks c.u64_in-old.result (zeros c.min-gap.result) c.put_zeros.ensures in
    let links = links_grown b c.put_zeros.new.stock c.link_from.new.stock (drop (c.index_len-index.result - 1) (chain_at c.put_zeros.new.stock c.args.file l').index) first c.link_from.ensures in
    keeps_file b c.link_from.new.stock c.args.file l' links (grown_is_file b c.args.size c.args.from c.args.file l l' c.requires c.ranges.size.fits (subst (λ n. IsGrown c.args.from n l l') blocks places))

pub name_from-requires-clause-index : goal.name_from-requires-clause-index
name_from-requires-clause-index c =
    let b = c.args.stock.now in
    let l = c.args.laid.now in
    let l' = c.take_pages-next.new.self in
    let blocks : c.div_ceil.result ≡ block_count c.args.size = omega (arith, c.div_ceil.ensures) in
    let places : IsGrown c.args.from c.div_ceil.result l l' = record {
      index_kept = c.take_pages-next.ensures.index_kept;
      blocks_kept = c.take_pages-next.ensures.blocks_kept;
      index = c.take_pages-next.ensures.index;
      blocks = c.take_pages-next.ensures.blocks;
    } in
    let first = bytes_keep b c.put_zeros.new.stock (chain_at b c.args.file l).blocks c.u64_in-old.result (zeros c.min-gap.result) c.put_zeros.ensures in
    let links = links_grown b c.put_zeros.new.stock c.link_from.new.stock (drop (c.index_len-index.result - 1) (chain_at c.put_zeros.new.stock c.args.file l').index) first c.link_from.ensures in
    grown_enough b c.link_from.new.stock c.args.size c.args.from c.args.file l l' c.requires c.ranges.size.fits (subst (λ n. IsGrown c.args.from n l l') blocks places) links

pub head_of-head-requires : goal.head_of-head-requires
head_of-head-requires c =
    let b = c.args.stock.now in
    let l = c.args.laid.now in
    let l' = c.take_pages-next.new.self in
    let blocks : c.div_ceil.result ≡ block_count c.args.size = omega (arith, c.div_ceil.ensures) in
    let places : IsGrown c.args.from c.div_ceil.result l l' = record {
      index_kept = c.take_pages-next.ensures.index_kept;
      blocks_kept = c.take_pages-next.ensures.blocks_kept;
      index = c.take_pages-next.ensures.index;
      blocks = c.take_pages-next.ensures.blocks;
    } in
    let first = bytes_keep b c.put_zeros.new.stock (chain_at b c.args.file l).blocks c.u64_in-old.result (zeros c.min-gap.result) c.put_zeros.ensures in
    let links = links_grown b c.put_zeros.new.stock c.link_from.new.stock (drop (c.index_len-index.result - 1) (chain_at c.put_zeros.new.stock c.args.file l').index) first c.link_from.ensures in
    let here = chain_at c.link_from.new.stock c.args.file l' in
    let names = names_grown b c.link_from.new.stock c.name_from.new.stock here.index c.blocks_len-blocks.result (drop c.blocks_len-blocks.result here.blocks) links c.name_from.ensures in
    keeps_file b c.name_from.new.stock c.args.file l' names (grown_is_file b c.args.size c.args.from c.args.file l l' c.requires c.ranges.size.fits (subst (λ n. IsGrown c.args.from n l l') blocks places))

pub put_body-requires-clause-there : goal.put_body-requires-clause-there
put_body-requires-clause-there c =
    let b = c.args.stock.now in
    let l = c.args.laid.now in
    let l' = c.take_pages-next.new.self in
    let first = bytes_keep b c.put_zeros.new.stock (chain_at b c.args.file l).blocks c.u64_in-old.result (zeros c.min-gap.result) c.put_zeros.ensures in
    let links = links_grown b c.put_zeros.new.stock c.link_from.new.stock (drop (c.index_len-index.result - 1) (chain_at c.put_zeros.new.stock c.args.file l').index) first c.link_from.ensures in
    let here = chain_at c.link_from.new.stock c.args.file l' in
    let names = names_grown b c.link_from.new.stock c.name_from.new.stock here.index c.blocks_len-blocks.result (drop c.blocks_len-blocks.result here.blocks) links c.name_from.ensures in
    there_some c.name_from.new.stock c.args.file l (keeps_file b c.name_from.new.stock c.args.file l names c.requires.laid)

pub returns : goal.returns
returns c =
    let b = c.args.stock.now in
    let file = c.args.file in
    let size = c.args.size in
    let l = c.args.laid.now in
    let l' = c.take_pages-next.new.self in
    let blocks : c.div_ceil.result ≡ block_count size = omega (arith, c.div_ceil.ensures) in
    let places : IsGrown c.args.from c.div_ceil.result l l' = record {
      index_kept = c.take_pages-next.ensures.index_kept;
      blocks_kept = c.take_pages-next.ensures.blocks_kept;
      index = c.take_pages-next.ensures.index;
      blocks = c.take_pages-next.ensures.blocks;
    } in
    let zeroed = c.put_zeros.new.stock in
    let links = c.link_from.new.stock in
    let named = c.name_from.new.stock in
    let head = c.head_of-head.result in
    let old : c.u64_in-old.result ≡ size_in (body_at b file) = c.u64_in-old.ensures ∙ ap size_in c.body.ensures.body in
    let zero : c.min-gap.result ≡ gap (size_in (body_at b file)) size = c.min-gap.ensures ∙ ap (λ n. gap n size) old in
    let index : c.index_len-index.result ≡ length (chain_at b file l).index = c.index_len-index.ensures ∙ sym (index_length b file l c.requires.laid) in
    let count : c.blocks_len-blocks.result ≡ length (chain_at b file l).blocks = c.blocks_len-blocks.ensures ∙ sym (blocks_length b file l c.requires.laid) in
    let sized : c.with_sizes.result ≡ body_sized head size (body_at b file) = c.with_sizes.ensures ∙ ap (body_sized head size) c.body.ensures.body in
    grow_done b zeroed links named c.put_body.new.self size c.args.from head c.take_pages-next.result file l l' c.requires c.ranges.size.fits
    (record {
      gap = c.put_zeros.ensures
          ∙ ap (λ n. put_bytes (chain_at b file l).blocks n (zeros c.min-gap.result) b) old
          ∙ ap (λ n. put_bytes (chain_at b file l).blocks (size_in (body_at b file)) (zeros n) b) zero;
      places = subst (λ n. IsGrown c.args.from n l l') blocks places;
      ends = c.link_from.ensures ∙ ap (λ n. linked (drop (n - 1) (chain_at zeroed file l').index) zeroed) index;
      names = c.name_from.ensures ∙ ap (λ n. numbered (chain_at links file l').index n (drop n (chain_at links file l').blocks) links) count;
      first = c.head_of-head.ensures;
      body = c.put_body.ensures.written ∙ ap (λ w. with_body_at (home_at named file) w named) sized;
      has_body = c.put_body.ensures.has ∙ sized;
      whole = c.body.ensures.len;
      page = c.body.ensures.whole;
      behind = c.take_pages-next.ensures.next
          ∙ ap (λ n. c.args.from + (index_count n - (l.index_kept + length l.index_more.items)) + (n - (l.blocks_kept + length l.blocks_more.items))) blocks
          ∙ next_place c.args.from (block_count size) b file l c.requires.laid (index_enough b file l c.requires.has);
      others = c.put_body.ensures.others;
    })
