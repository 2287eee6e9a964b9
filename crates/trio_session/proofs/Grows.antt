-- The places of a file's pages after a growth, and a growth as a whole.
use Rattle.trio_session.proofs.Words.{◌*◌, ◌++◌, ◌+◌, ◌-◌, ◌/◌, ◌<◌, ◌∙◌, ◌≡◌, ◌≢◌, ◌≤◌, Chain, FilePlace, GrowDone, HasChain, In, In-cases, IsFile, IsWholeAt, Laid, Leased, List, MayGrowAt, Parcel, [], ap, append_assoc, arith, block_count, blocks_under, body_at, body_sized, chain_at, chain_grown, count_from, count_up, drop, drop-drop, fresh_number, gap, get_or, growth, home_at, index_count, inl, inr, length, length-append, length-drop, length-map, lent_numbers, linked, map, map-append, new_index, numbered, page_numbers, put_bytes, size_in, subst, sym, take, take-take, taken_from, with_body_at, zeros, ℕ}
use Rattle.std.proofs.Math.Seq.{drop-append_seam}
use Rattle.std.proofs.lemmas.List.{drop-take}
use Rattle.trio_session.proofs.Lists.{count_take, length-count_up}
use Rattle.trio_session.proofs.Stays.{body_leaves, chain_left, file_left, home_left}
use Rattle.trio_session.proofs.Chains.{chain_there, index_length, blocks_length}
use Rattle.trio_session.proofs.Edited.{Keeps, blocks_keep, keeps_chain, keeps_file, keeps_then, linked_keep, numbered_keep, size_sized}

-- the places of c blocks and of the index pages that name them: behind those that are there, allotted pages from a place on
pub record IsGrown (from c : ℕ) (l l' : Laid) : Type 0 where
  pub index_kept : l'.index_kept ≡ l.index_kept
  pub blocks_kept : l'.blocks_kept ≡ l.blocks_kept
  pub index : l'.index_more.items ≡ l.index_more.items ++ count_up from (index_count c - (l.index_kept + length l.index_more.items))
  pub blocks : l'.blocks_more.items ≡ l.blocks_more.items
      ++ count_up (from + (index_count c - (l.index_kept + length l.index_more.items))) (c - (l.blocks_kept + length l.blocks_more.items))

numbers_grown : (ns pages : List ℕ) (kept kept' from n : ℕ) (more more' : List ℕ) → from + n ≤ length pages → kept' ≡ kept → more' ≡ more ++ count_up from n
    → take kept' ns ++ map (λ at. get_or pages at 0) more' ≡ (take kept ns ++ map (λ at. get_or pages at 0) more) ++ take n (drop from pages)
numbers_grown ns pages kept kept' from n more more' le ek em =
    let g : ℕ → ℕ = λ at. get_or pages at 0 in
    ap (λ k. take k ns ++ map g more') ek
    ∙ ap (λ m. take kept ns ++ map g m) em
    ∙ ap (λ m. take kept ns ++ m) (map-append g more (count_up from n) ∙ ap (λ m. map g more ++ m) (count_take pages from n le))
    ∙ sym (append_assoc (take kept ns) (map g more) (take n (drop from pages)))

pub chain_at_grown : (from c : ℕ) (b : Parcel) (file : FilePlace) (l l' : Laid) → IsFile b file l → length (chain_at b file l).index ≡ index_count (length (chain_at b file l).blocks)
    → from + growth (length (chain_at b file l).blocks) c ≤ length b.pages → IsGrown from c l l'
    → chain_at b file l' ≡ chain_grown (chain_at b file l) c (take (growth (length (chain_at b file l).blocks) c) (drop from (page_numbers b.pages)))
chain_at_grown from c b file l l' is has le done =
    let f = is.shown in
    let pages = page_numbers b.pages in
    let old = chain_at b file l in
    let mi = index_count c - (l.index_kept + length l.index_more.items) in
    let mb = c - (l.blocks_kept + length l.blocks_more.items) in
    let more = new_index (length old.blocks) c in
    let taken = take (growth (length old.blocks) c) (drop from pages) in
    let index_len = index_length b file l is in
    let blocks_len = blocks_length b file l is in
    let ei : mi ≡ more = ap (λ n. index_count c - n) (sym index_len ∙ has) in
    let eb : mb ≡ c - length old.blocks = ap (λ n. c - n) (sym blocks_len) in
    let all : length pages ≡ length b.pages = length-map b.pages (λ p. p.no.0) in
    let index_le : from + mi ≤ length pages = omega (arith, all, ei, le) in
    let blocks_le : (from + mi) + mb ≤ length pages = omega (arith, all, ei, eb, le) in
    let first : take mi (drop from pages) ≡ take more taken =
    ap (λ n. take n (drop from pages)) ei ∙ sym (take-take more (growth (length old.blocks) c) (drop from pages) (omega arith)) in
    let other : growth (length old.blocks) c ≡ more + (c - length old.blocks) = omega arith in
    let rest : take mb (drop (from + mi) pages) ≡ drop more taken =
    ap (λ n. take n (drop (from + mi) pages)) eb
    ∙ ap (λ n. take (c - length old.blocks) (drop (from + n) pages)) ei
    ∙ sym (ap (λ n. drop more (take n (drop from pages))) other
    ∙ drop-take more (c - length old.blocks) (drop from pages)
    ∙ ap (take (c - length old.blocks)) (drop-drop more from pages)) in
    let chain : List ℕ → List ℕ → Chain = λ i m. record { index = i; blocks = m } in
    let index = take l.index_kept (lent_numbers f.index) ++ map (fresh_number b.pages) l.index_more.items in
    let blocks = take l.blocks_kept (lent_numbers f.blocks) ++ map (fresh_number b.pages) l.blocks_more.items in
    let index' = numbers_grown (lent_numbers f.index) pages l.index_kept l'.index_kept from mi l.index_more.items l'.index_more.items index_le done.index_kept done.index in
    let blocks' = numbers_grown (lent_numbers f.blocks) pages l.blocks_kept l'.blocks_kept (from + mi) mb l.blocks_more.items l'.blocks_more.items blocks_le done.blocks_kept done.blocks in
    chain_there b file l' is.shown is.there
    ∙ ap (λ i. chain i (take l'.blocks_kept (lent_numbers f.blocks) ++ map (fresh_number b.pages) l'.blocks_more.items)) (index' ∙ ap (λ m. index ++ m) first)
    ∙ ap (chain (index ++ take more taken)) (blocks' ∙ ap (λ m. blocks ++ m) rest)
    ∙ sym (ap (λ (ch : Chain). chain (ch.index ++ take more taken) (ch.blocks ++ drop more taken)) (chain_there b file l is.shown is.there))

-- how many places there are after a growth
index_grown : (from c : ℕ) (l l' : Laid) → IsGrown from c l l' → l'.index_kept + length l'.index_more.items ≡ (l.index_kept + length l.index_more.items) + (index_count c - (l.index_kept + length l.index_more.items))
index_grown from c l l' done =
    let n = index_count c - (l.index_kept + length l.index_more.items) in
    let len = ap (λ (xs : List ℕ). length xs) done.index ∙ length-append l.index_more.items (count_up from n) ∙ ap (λ m. length l.index_more.items + m) (length-count_up from n) in
    omega (arith, len, done.index_kept)

blocks_grown : (from c : ℕ) (l l' : Laid) → IsGrown from c l l' → l'.blocks_kept + length l'.blocks_more.items ≡ (l.blocks_kept + length l.blocks_more.items) + (c - (l.blocks_kept + length l.blocks_more.items))
blocks_grown from c l l' done =
    let at = from + (index_count c - (l.index_kept + length l.index_more.items)) in
    let n = c - (l.blocks_kept + length l.blocks_more.items) in
    let len = ap (λ (xs : List ℕ). length xs) done.blocks ∙ length-append l.blocks_more.items (count_up at n) ∙ ap (λ m. length l.blocks_more.items + m) (length-count_up at n) in
    omega (arith, len, done.blocks_kept)

pub file_grown : (from c : ℕ) (b : Parcel) (file : FilePlace) (l l' : Laid) → IsFile b file l → length (chain_at b file l).index ≡ index_count (length (chain_at b file l).blocks)
    → from + growth (length (chain_at b file l).blocks) c ≤ length b.pages → c < 18446744073709551616 → IsGrown from c l l' → IsFile b file l'
file_grown from c b file l l' is has le lt done =
    let mi = index_count c - (l.index_kept + length l.index_more.items) in
    let mb = c - (l.blocks_kept + length l.blocks_more.items) in
    let ei : mi ≡ new_index (length (chain_at b file l).blocks) c = ap (λ n. index_count c - n) (sym (index_length b file l is) ∙ has) in
    let eb : mb ≡ c - length (chain_at b file l).blocks = ap (λ n. c - n) (sym (blocks_length b file l is)) in
    let within : from + mi + mb ≤ length b.pages = omega (arith, ei, eb, le) in
    let index_many = index_grown from c l l' done in
    let blocks_many = blocks_grown from c l l' done in
    record {
      shown = is.shown;
      there = is.there;
      slot = is.slot;
      laid = record {
        index = rw done.index_kept is.laid.index;
        blocks = rw done.blocks_kept is.laid.blocks;
        narrow_index = omega (arith, index_many, lt, is.laid.narrow_index);
        narrow_blocks = omega (arith, blocks_many, lt, is.laid.narrow_blocks);
        index_there = λ at h. elim (In-cases at l.index_more.items (count_up from mi) (subst (In at) done.index h)) [
          | inl k ↦ is.laid.index_there at k
          | inr k ↦ (let r = count_from from mi at k in omega (arith, r.0, r.1, within))
        ];
        blocks_there = λ at h. elim (In-cases at l.blocks_more.items (count_up (from + mi) mb) (subst (In at) done.blocks h)) [
          | inl k ↦ is.laid.blocks_there at k
          | inr k ↦ (let r = count_from (from + mi) mb at k in omega (arith, r.0, r.1, within))
        ];
      };
    }

-- the chain after a growth is as long as the new size says
pub has_grown : (b b' : Parcel) (file : FilePlace) (size from : ℕ) (l l' : Laid) → IsFile b file l → IsFile b file l' → HasChain b file l → IsGrown from (block_count size) l l'
    → size_in (body_at b file) ≤ size → chain_at b' file l' ≡ chain_at b file l' → size_in (body_at b' file) ≡ size → HasChain b' file l'
has_grown b b' file size from l l' is is' has done le chain size_is =
    let c = block_count size in
    let index_many = index_grown from c l l' done in
    let blocks_many = blocks_grown from c l l' done in
    let index_len = index_length b file l is in
    let blocks_len = blocks_length b file l is in
    let many : length (chain_at b file l).blocks ≡ (size_in (body_at b file) + 4095) / 4096 = has.blocks in
    let pages : length (chain_at b file l).index ≡ ((size_in (body_at b file) + 4095) / 4096 + 510) / 511 = has.index in
    let blocks_le : l.blocks_kept + length l.blocks_more.items ≤ c = omega (arith, many, blocks_len, le) in
    let index_le : l.index_kept + length l.index_more.items ≤ index_count c = omega (arith, pages, index_len, le) in
    record {
      blocks = ap (λ (ch : Chain). length ch.blocks) chain ∙ blocks_length b file l' is' ∙ blocks_many ∙ omega (arith, blocks_le) ∙ ap block_count (sym size_is);
      index = ap (λ (ch : Chain). length ch.index) chain ∙ index_length b file l' is' ∙ index_many ∙ omega (arith, index_le) ∙ ap (λ n. index_count (block_count n)) (sym size_is);
    }

-- ---- a growth as a whole

-- what its steps make of what was in hand
pub record GrowSteps (b zeroed links named b' : Parcel) (size from head next : ℕ) (file : FilePlace) (l l' : Laid) : Type 0 where
  pub gap : zeroed ≡ put_bytes (chain_at b file l).blocks (size_in (body_at b file)) (zeros (gap (size_in (body_at b file)) size)) b
  pub places : IsGrown from (block_count size) l l'
  pub ends : links ≡ linked (drop (length (chain_at b file l).index - 1) (chain_at zeroed file l').index) zeroed
  pub names : named ≡ numbered (chain_at links file l').index (length (chain_at b file l).blocks) (drop (length (chain_at b file l).blocks) (chain_at links file l').blocks) links
  pub first : head ≡ get_or (chain_at named file l').index 0 0
  pub body : b' ≡ with_body_at (home_at named file) (body_sized head size (body_at b file)) named
  pub has_body : body_at b' file ≡ body_sized head size (body_at b file)
  pub whole : length (body_at b file) ≡ 64
  pub page : IsWholeAt b file
  pub behind : next ≡ from + growth (length (chain_at b file l).blocks) (block_count size)
  pub others : (i : ℕ) → Leased i ≢ file → body_at b' (Leased i) ≡ body_at named (Leased i)

pub bytes_keep : (b zeroed : Parcel) (blocks : List ℕ) (at : ℕ) (new : List ℕ) → zeroed ≡ put_bytes blocks at new b → Keeps b zeroed
bytes_keep b zeroed blocks at new e = subst (Keeps b) (sym e) (blocks_keep blocks (at / 4096) (blocks_under at (length new)) at new b)

pub links_grown : (b zeroed links : Parcel) (xs : List ℕ) → Keeps b zeroed → links ≡ linked xs zeroed → Keeps b links
links_grown b zeroed links xs keeps e = keeps_then b zeroed links keeps (subst (Keeps zeroed) (sym e) (linked_keep xs zeroed))

pub names_grown : (b links named : Parcel) (index : List ℕ) (k : ℕ) (xs : List ℕ) → Keeps b links → named ≡ numbered index k xs links → Keeps b named
names_grown b links named index k xs keeps e = keeps_then b links named keeps (subst (Keeps links) (sym e) (numbered_keep index k xs links))

-- as many index pages as the blocks take
pub index_enough : (b : Parcel) (file : FilePlace) (l : Laid) → HasChain b file l → length (chain_at b file l).index ≡ index_count (length (chain_at b file l).blocks)
index_enough b file l has = has.index ∙ ap index_count (sym has.blocks)

pub grown_is_file : (b : Parcel) (size from : ℕ) (file : FilePlace) (l l' : Laid) → MayGrowAt b size from file l → size < 18446744073709551616 → IsGrown from (block_count size) l l' → IsFile b file l'
grown_is_file b size from file l l' may lt places =
    file_grown from (block_count size) b file l l' may.laid (index_enough b file l may.has) may.pages (omega (arith, lt)) places

pub grow_done : (b zeroed links named b' : Parcel) (size from head next : ℕ) (file : FilePlace) (l l' : Laid) → MayGrowAt b size from file l → size < 18446744073709551616
    → GrowSteps b zeroed links named b' size from head next file l l' → GrowDone b b' size from next file l l'
grow_done b zeroed links named b' size from head next file l l' may lt steps =
    let c = block_count size in
    let chain = chain_at b file l in
    let taken = taken_from b size from file l in
    let chain' = chain_grown chain c taken in
    let home = home_at b file in
    let body = body_at b file in
    let count = length chain.blocks in
    let back = length chain.index - 1 in
    let is' = grown_is_file b size from file l l' may lt steps.places in
    let zeros_keep = bytes_keep b zeroed chain.blocks (size_in body) (zeros (gap (size_in body) size)) steps.gap in
    let ends_keep = links_grown b zeroed links (drop back (chain_at zeroed file l').index) zeros_keep steps.ends in
    let keeps = names_grown b links named (chain_at links file l').index count (drop count (chain_at links file l').blocks) ends_keep steps.names in
    let grown_is : chain_at b file l' ≡ chain' = chain_at_grown from c b file l l' may.laid (index_enough b file l may.has) may.pages steps.places in
    let places : chain_at named file l' ≡ chain' = keeps_chain b named file l' keeps ∙ grown_is in
    let head_is : head ≡ get_or chain'.index 0 0 = steps.first ∙ ap (λ (ch : Chain). get_or ch.index 0 0) places in
    let gap_filled = put_bytes chain.blocks (size_in body) (zeros (gap (size_in body) size)) b in
    let links_is : links ≡ linked (drop back chain'.index) gap_filled =
    steps.ends ∙ ap (λ (ch : Chain). linked (drop back ch.index) zeroed) (keeps_chain b zeroed file l' zeros_keep ∙ grown_is) ∙ ap (linked (drop back chain'.index)) steps.gap in
    let rest : drop count chain'.blocks ≡ drop (new_index count c) taken = drop-append_seam chain.blocks (drop (new_index count c) taken) in
    let named_is : named ≡ numbered chain'.index count (drop (new_index count c) taken) (linked (drop back chain'.index) gap_filled) =
    steps.names
    ∙ ap (λ (ch : Chain). numbered ch.index count (drop count ch.blocks) links) (keeps_chain b links file l' ends_keep ∙ grown_is)
    ∙ ap (λ xs. numbered chain'.index count xs links) rest
    ∙ ap (numbered chain'.index count (drop (new_index count c) taken)) links_is in
    let w = body_sized head size body in
    let left = body_leaves (home_at named file) w named in
    let chain_is : chain_at b' file l' ≡ chain_at b file l' =
    ap (λ x. chain_at x file l') steps.body ∙ chain_left named (with_body_at (home_at named file) w named) file l' left ∙ keeps_chain b named file l' keeps in
    let size_is : size_in (body_at b' file) ≡ size = ap size_in steps.has_body ∙ size_sized head size body steps.whole lt in
    let index_len = index_length b file l may.laid in
    let blocks_len = blocks_length b file l may.laid in
    let mi : index_count c - (l.index_kept + length l.index_more.items) ≡ new_index count c = ap (λ n. index_count c - n) (sym index_len ∙ index_enough b file l may.has) in
    let mb : c - (l.blocks_kept + length l.blocks_more.items) ≡ c - count = ap (λ n. c - n) (sym blocks_len) in
    record {
      edit = steps.body
          ∙ ap (λ h. with_body_at h w named) (home_left b named file keeps.leaves)
          ∙ ap (λ h. with_body_at home (body_sized h size body) named) head_is
          ∙ ap (with_body_at home (body_sized (get_or chain'.index 0 0) size body)) named_is;
      chain = chain_is ∙ grown_is;
      laid = subst (λ x. IsFile x file l') (sym steps.body) (file_left named (with_body_at (home_at named file) w named) file l' left (keeps_file b named file l' keeps is'));
      has = has_grown b b' file size from l l' may.laid is' may.has steps.places may.more chain_is size_is;
      sized = size_is;
      full = steps.whole;
      whole = steps.page;
      ends = steps.behind;
      index = steps.places.index ∙ ap (λ n. l.index_more.items ++ count_up from n) mi;
      blocks = steps.places.blocks ∙ ap (λ n. l.blocks_more.items ++ count_up (from + n) (c - (l.blocks_kept + length l.blocks_more.items))) mi
          ∙ ap (λ n. l.blocks_more.items ++ count_up (from + new_index count c) n) mb;
      others = λ i ne. steps.others i ne ∙ keeps.body i;
    }

-- after a growth there are index pages enough for the blocks
pub grown_enough : (b x : Parcel) (size from : ℕ) (file : FilePlace) (l l' : Laid) → MayGrowAt b size from file l → size < 18446744073709551616 → IsGrown from (block_count size) l l' → Keeps b x
    → length (chain_at x file l').blocks ≤ 511 * length (chain_at x file l').index
grown_enough b x size from file l l' may lt places keeps =
    let is' = grown_is_file b size from file l l' may lt places in
    let index_many = ap (λ (ch : Chain). length ch.index) (keeps_chain b x file l' keeps) ∙ index_length b file l' is' ∙ index_grown from (block_count size) l l' places in
    let blocks_many = ap (λ (ch : Chain). length ch.blocks) (keeps_chain b x file l' keeps) ∙ blocks_length b file l' is' ∙ blocks_grown from (block_count size) l l' places in
    let index_len = index_length b file l may.laid in
    let blocks_len = blocks_length b file l may.laid in
    let many : length (chain_at b file l).blocks ≡ (size_in (body_at b file) + 4095) / 4096 = may.has.blocks in
    let pages : length (chain_at b file l).index ≡ ((size_in (body_at b file) + 4095) / 4096 + 510) / 511 = may.has.index in
    let more = may.more in
    omega (arith, index_many, blocks_many, index_len, blocks_len, many, pages, more)

-- the place behind the pages that a growth takes
pub next_place : (from c : ℕ) (b : Parcel) (file : FilePlace) (l : Laid) → IsFile b file l → length (chain_at b file l).index ≡ index_count (length (chain_at b file l).blocks)
    → from + (index_count c - (l.index_kept + length l.index_more.items)) + (c - (l.blocks_kept + length l.blocks_more.items)) ≡ from + growth (length (chain_at b file l).blocks) c
next_place from c b file l is has =
    let mi = index_count c - (l.index_kept + length l.index_more.items) in
    let mb = c - (l.blocks_kept + length l.blocks_more.items) in
    let ei : mi ≡ new_index (length (chain_at b file l).blocks) c = ap (λ n. index_count c - n) (sym (index_length b file l is) ∙ has) in
    let eb : mb ≡ c - length (chain_at b file l).blocks = ap (λ n. c - n) (sym (blocks_length b file l is)) in
    omega (arith, ei, eb)

-- as many pages as are not put in place are within the allotted ones
pub within_spare : (b : Parcel) (placed wanted : ℕ) → placed ≤ length b.pages → wanted ≤ length (drop placed (page_numbers b.pages)) → placed + wanted ≤ length b.pages
within_spare b placed wanted le enough =
    let all : length (page_numbers b.pages) ≡ length b.pages = length-map b.pages (λ p. p.no.0) in
    let spare = length-drop placed (page_numbers b.pages) in
    omega (arith, all, spare, le, enough)
