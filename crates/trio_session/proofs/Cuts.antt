-- The places of a file's pages after a cut.
use Rattle.trio_session.proofs.Words.{◌++◌, ◌+◌, ◌-◌, ◌/◌, ◌<◌, ◌∙◌, ◌≡◌, ◌≢◌, ◌≤◌, Chain, CutDone, FilePlace, HasChain, In, IsFile, IsWholeAt, Laid, Leased, List, Parcel, [], ap, arith, block_count, body_at, body_sized, chain_at, chain_cut, drop, fresh_number, get_or, home_at, index_count, length, length-map, length-take, length-take-le, lent_numbers, map, min, size_in, subst, sym, take, unlinked, unnamed, with_body_at, ℕ}
use Rattle.std.proofs.lemmas.List.{take-map}
use Rattle.trio_session.specs.inner.Found.{MayCutAt}
use Rattle.trio_session.proofs.Lists.{In-take, take-kept}
use Rattle.trio_session.proofs.Stays.{body_leaves, chain_left, file_left, home_left}
use Rattle.trio_session.proofs.Chains.{chain_there}
use Rattle.trio_session.proofs.Edited.{Keeps, keeps_chain, keeps_file, keeps_then, size_sized, unlinked_keep, unnamed_keep}

-- the places of the first c blocks, and of the index pages that name them
pub record IsCut (c : ℕ) (l l' : Laid) : Type 0 where
  pub index_kept : l'.index_kept ≡ min l.index_kept (index_count c)
  pub blocks_kept : l'.blocks_kept ≡ min l.blocks_kept c
  pub index : l'.index_more.items ≡ take (index_count c - l.index_kept) l.index_more.items
  pub blocks : l'.blocks_more.items ≡ take (c - l.blocks_kept) l.blocks_more.items

numbers_cut : (ns : List ℕ) (g : ℕ → ℕ) (kept kept' n : ℕ) (more more' : List ℕ) → kept ≤ length ns → kept' ≡ min kept n → more' ≡ take (n - kept) more
    → take kept' ns ++ map g more' ≡ take n (take kept ns ++ map g more)
numbers_cut ns g kept kept' n more more' le ek em =
    ap (λ k. take k ns ++ map g more') ek
    ∙ ap (λ m. take (min kept n) ns ++ map g m) em
    ∙ ap (λ m. take (min kept n) ns ++ m) (sym (take-map g (n - kept) more))
    ∙ sym (take-kept n kept ns (map g more) le)

pub chain_at_cut : (c : ℕ) (b : Parcel) (file : FilePlace) (l l' : Laid) → IsFile b file l → IsCut c l l' → chain_at b file l' ≡ chain_cut (chain_at b file l) c
chain_at_cut c b file l l' is done =
    let f = is.shown in
    let chain : List ℕ → List ℕ → Chain = λ i m. record { index = i; blocks = m } in
    let ei = numbers_cut (lent_numbers f.index) (fresh_number b.pages) l.index_kept l'.index_kept (index_count c) l.index_more.items l'.index_more.items
    (rw length-map is.laid.index) done.index_kept done.index in
    let eb = numbers_cut (lent_numbers f.blocks) (fresh_number b.pages) l.blocks_kept l'.blocks_kept c l.blocks_more.items l'.blocks_more.items
    (rw length-map is.laid.blocks) done.blocks_kept done.blocks in
    chain_there b file l' is.shown is.there
    ∙ ap (λ i. chain i (take l'.blocks_kept (lent_numbers f.blocks) ++ map (fresh_number b.pages) l'.blocks_more.items)) ei
    ∙ ap (chain (take (index_count c) (take l.index_kept (lent_numbers f.index) ++ map (fresh_number b.pages) l.index_more.items))) eb
    ∙ sym (ap (λ (ch : Chain). chain_cut ch c) (chain_there b file l is.shown is.there))

pub file_cut : (c : ℕ) (b : Parcel) (file : FilePlace) (l l' : Laid) → IsFile b file l → IsCut c l l' → IsFile b file l'
file_cut c b file l l' is done =
    let index_fewer = ap (λ (xs : List ℕ). length xs) done.index ∙ length-take (index_count c - l.index_kept) l.index_more.items in
    let blocks_fewer = ap (λ (xs : List ℕ). length xs) done.blocks ∙ length-take (c - l.blocks_kept) l.blocks_more.items in
    record {
      shown = is.shown;
      there = is.there;
      slot = is.slot;
      laid = record {
        index = omega (arith, done.index_kept, is.laid.index);
        blocks = omega (arith, done.blocks_kept, is.laid.blocks);
        narrow_index = omega (arith, done.index_kept, index_fewer, is.laid.narrow_index);
        narrow_blocks = omega (arith, done.blocks_kept, blocks_fewer, is.laid.narrow_blocks);
        index_there = λ at h. is.laid.index_there at (In-take (index_count c - l.index_kept) at l.index_more.items (subst (In at) done.index h));
        blocks_there = λ at h. is.laid.blocks_there at (In-take (c - l.blocks_kept) at l.blocks_more.items (subst (In at) done.blocks h));
      };
    }

-- the chain of the first blocks is as long as a smaller size says
pub has_cut : (b b' : Parcel) (file : FilePlace) (size : ℕ) (l l' : Laid) → HasChain b file l → size ≤ size_in (body_at b file) → chain_at b' file l' ≡ chain_cut (chain_at b file l) (block_count size)
    → size_in (body_at b' file) ≡ size → HasChain b' file l'
has_cut b b' file size l l' has le chain is =
    let c = block_count size in
    let blocks = (chain_at b file l).blocks in
    let index = (chain_at b file l).index in
    let many : length blocks ≡ (size_in (body_at b file) + 4095) / 4096 = has.blocks in
    let pages : length index ≡ ((size_in (body_at b file) + 4095) / 4096 + 510) / 511 = has.index in
    let blocks_le : c ≤ length blocks = omega (arith, many, le) in
    let index_le : index_count c ≤ length index = omega (arith, pages, le) in
    record {
      blocks = ap (λ (ch : Chain). length ch.blocks) chain ∙ length-take-le c blocks blocks_le ∙ ap block_count (sym is);
      index = ap (λ (ch : Chain). length ch.index) chain ∙ length-take-le (index_count c) index index_le ∙ ap (λ n. index_count (block_count n)) (sym is);
    }

-- ---- a cut as a whole

-- what its steps make of what was in hand
pub record CutSteps (b named links b' : Parcel) (size head : ℕ) (file : FilePlace) (l l' : Laid) : Type 0 where
  pub names : named ≡ unnamed (chain_at b file l).index (block_count size) (length (chain_at b file l).blocks - block_count size) b
  pub ends : links ≡ unlinked (drop (index_count (block_count size) - 1) (chain_at named file l).index) named
  pub places : IsCut (block_count size) l l'
  pub first : head ≡ get_or (chain_at links file l').index 0 0
  pub body : b' ≡ with_body_at (home_at links file) (body_sized head size (body_at b file)) links
  pub has_body : body_at b' file ≡ body_sized head size (body_at b file)
  pub whole : length (body_at b file) ≡ 64
  pub page : IsWholeAt b file
  pub others : (i : ℕ) → Leased i ≢ file → body_at b' (Leased i) ≡ body_at links (Leased i)

pub named_keeps : (b named : Parcel) (index : List ℕ) (k more : ℕ) → named ≡ unnamed index k more b → Keeps b named
named_keeps b named index k more e = subst (Keeps b) (sym e) (unnamed_keep index k more b)

pub links_keep : (b named links : Parcel) (index xs : List ℕ) (k more : ℕ) → named ≡ unnamed index k more b → links ≡ unlinked xs named → Keeps b links
links_keep b named links index xs k more e e' =
    keeps_then b named links (named_keeps b named index k more e) (subst (Keeps named) (sym e') (unlinked_keep xs named))

pub cut_done : (b named links b' : Parcel) (size head : ℕ) (file : FilePlace) (l l' : Laid) → MayCutAt b size file l → size < 18446744073709551616
    → CutSteps b named links b' size head file l l' → CutDone b b' size file l l'
cut_done b named links b' size head file l l' may lt steps =
    let c = block_count size in
    let chain = chain_at b file l in
    let more = length chain.blocks - c in
    let from = index_count c - 1 in
    let first = named_keeps b named chain.index c more steps.names in
    let keeps = links_keep b named links chain.index (drop from (chain_at named file l).index) c more steps.names steps.ends in
    let places : chain_at links file l' ≡ chain_cut chain c = keeps_chain b links file l' keeps ∙ chain_at_cut c b file l l' may.laid steps.places in
    let head_is : head ≡ get_or (chain_cut chain c).index 0 0 = steps.first ∙ ap (λ (ch : Chain). get_or ch.index 0 0) places in
    let links_is : links ≡ unlinked (drop from chain.index) (unnamed chain.index c more b) =
    steps.ends ∙ ap (λ (ch : Chain). unlinked (drop from ch.index) named) (keeps_chain b named file l first) ∙ ap (unlinked (drop from chain.index)) steps.names in
    let home = home_at b file in
    let body = body_at b file in
    let w = body_sized head size body in
    let chain_is : chain_at b' file l' ≡ chain_cut chain c = ap (λ x. chain_at x file l') steps.body ∙ chain_left links (with_body_at (home_at links file) w links) file l' (body_leaves (home_at links file) w links) ∙ places in
    let size_is : size_in (body_at b' file) ≡ size = ap size_in steps.has_body ∙ size_sized head size body steps.whole lt in
    record {
      edit = steps.body
          ∙ ap (λ h. with_body_at h w links) (home_left b links file keeps.leaves)
          ∙ ap (λ h. with_body_at home (body_sized h size body) links) head_is
          ∙ ap (with_body_at home (body_sized (get_or (chain_cut chain c).index 0 0) size body)) links_is;
      chain = chain_is;
      laid = subst (λ x. IsFile x file l') (sym steps.body) (file_left links (with_body_at (home_at links file) w links) file l' (body_leaves (home_at links file) w links)
          (keeps_file b links file l' keeps (file_cut c b file l l' may.laid steps.places)));
      has = has_cut b b' file size l l' may.has may.less chain_is size_is;
      sized = size_is;
      full = steps.whole;
      whole = steps.page;
      index = steps.places.index;
      blocks = steps.places.blocks;
      others = λ i ne. steps.others i ne ∙ keeps.body i;
    }
