-- What a file reads, by its index pages and its blocks.
use Rattle.trio_edit_laws.proofs.Words.{◌*◌, ◌++◌, ◌+◌, ◌-◌, ◌<◌, ◌∙◌, ◌∷◌, ◌≡◌, ◌≤◌, ◌⊎◌, Body, Bool, Chain, Core, CoreRange, In, Index, Kind, List, None, Ok, Option, Some, [], and_parts, ap, append-nil, append_assoc, are_new-first, arith, at_page, block_count, cases_lt, chain_within, cond_some, drop, drop-drop, drop-take, drop_all, entries_within, eq-eqb, eqb, eqb-true, false≢true, flat_map-append, flat_map-same, get_or-In, index_count, index_within, inl, inr, is_some, length, length-append, length-drop, min, nat_tests, nil_from_length, page_of, pages_bytes, refl, rest_of, result_map, result_map-Ok, result_then, result_then-Ok, slice_index_or, subst, suc, sym, take, take-append-add, take-append-drop, take_all, there_or, there_or-Ok, true, unwrap_or, with_index, within_from, within_to, zero, ℕ, cond}
use Rattle.std.proofs.Math.Seq.{drop-append-add, take-append_seam}
use Rattle.trio_layout.specs.Body.{body_of}
use Rattle.trio_layout.specs.Entries.{with_names_apart}
use Rattle.trio_layout.specs.Within.{entries_where}
use Rattle.trio_lists.specs.Lists.{gathered}
use Rattle.trio_layout.specs.Index.{index_of, link_fits}
use Rattle.trio_edit_laws.specs.session.Chains.{BytesCut, BytesGrow, BytesMany, BytesPut, NamedReads, NamesShare, ReadsNamed, SharesStay}

-- ---- from index pages to what is read

-- the share of an index page that isn't the first, of the chain behind the first
share_behind : (core : Core) (page : ℕ) (index blocks : List ℕ) (k : ℕ) → NamesShare core (page ∷ index) blocks (suc k) → NamesShare core index (drop 511 blocks) k
share_behind core page index blocks k s =
    let used : min (length (drop 511 blocks) - 511 * k) 511 ≡ min (length blocks - 511 * suc k) 511 = omega (arith, length-drop 511 blocks) in
    let at : 511 + 511 * k ≡ 511 * suc k = omega arith in
    let last : eqb (suc k) (length index) ≡ eqb (suc (suc k)) (length (page ∷ index)) = grind (arith, nat_tests) in
    let numbers : take 511 (drop (511 * k) (drop 511 blocks)) ≡ take 511 (drop (511 * suc k) blocks) =
    ap (take 511) (drop-drop (511 * k) 511 blocks ∙ ap (λ n. drop n blocks) at) in
    let of : List ℕ → Option Index = λ l. Some (record { numbers = l; next = slice_index_or index (suc k) 0 }) in
    record {
      bytes = s.bytes;
      there = s.there;
      names = search (arith, min);
    }

pub named_chain : (core : Core) (index blocks : List ℕ) → length blocks ≤ 511 * length index → ((k : ℕ) → k < length index → NamesShare core index blocks k)
    → chain_within core (length index) (length blocks) (slice_index_or index 0 0) ≡ Ok (record { index = index; blocks = blocks })
named_chain core [] [] l each = refl
named_chain core [] (x ∷ xs) l each = absurd (omega arith)
named_chain core (page ∷ index) blocks l each =
    let s = each 0 (omega arith) in
    let more : length (drop 511 blocks) ≤ 511 * length index = omega (arith, l, length-drop 511 blocks) in
    let ih = named_chain core index (drop 511 blocks) more (λ k h. share_behind core page index blocks k (each (suc k) (omega arith))) in
    let used : min (length blocks) 511 ≡ min (length blocks - 511 * 0) 511 = omega arith in
    let last : eqb (length index) 0 ≡ eqb 1 (length (page ∷ index)) = grind (arith, nat_tests) in
    let i : Index = record { numbers = take 511 blocks; next = slice_index_or index 0 0 } in
    let reads : index_of (min (length blocks) 511) (eqb (length index) 0) core.range s.bytes ≡ Some i =
    ap (λ u. index_of u (eqb (length index) 0) core.range s.bytes) used ∙ ap (λ t. index_of (min (length blocks - 511 * 0) 511) t core.range s.bytes) last ∙ s.names in
    let left : length blocks - 511 ≡ length (drop 511 blocks) = omega (arith, length-drop 511 blocks) in
    ap (index_within core page (min (length blocks) 511) (eqb (length index) 0) (rest_of core (length index) (length blocks))) s.there
    ∙ ap (λ o. result_then (λ i. result_map (with_index page i) (rest_of core (length index) (length blocks) i)) (there_or (at_page page) o)) reads
    ∙ ap (λ n. result_map (with_index page i) (chain_within core (length index) n i.next)) left
    ∙ ap (result_map (with_index page i)) ih
    ∙ ap (λ b. Ok (record { index = page ∷ index; blocks = b })) (take-append-drop 511 blocks)

pub reads_named : ReadsNamed
reads_named core m body index blocks kind reads count head named =
    let many = named.many in
    let fits : length blocks ≤ 511 * length index = omega (arith, many) in
    let chain = named_chain core index blocks fits named.each in
    let pages : index_count (block_count body.size) ≡ length index = ap index_count count ∙ sym many in
    within_to core m (record { body = body; chain = record { index = index; blocks = blocks }; entries = [] }) (record {
      body = reads;
      chain = search arith;
      entries = ap (λ t. cond t (result_then with_names_apart (gathered (λ page. entries_where core.inodes page (page_of core page)) blocks)) (Ok [])) kind;
    })

-- ---- bytes of blocks

pub bytes_grow : BytesGrow
bytes_grow core blocks more = flat_map-append (λ page. unwrap_or (page_of core page) []) blocks more

page_bytes : (core : Core) (page : ℕ) (pages : List ℕ) (bytes : List ℕ) → page_of core page ≡ Some bytes → pages_bytes core (page ∷ pages) ≡ bytes ++ pages_bytes core pages
page_bytes core page pages bytes e = ap (λ o. unwrap_or o [] ++ pages_bytes core pages) e

pub bytes_many : BytesMany
bytes_many core [] there = refl
bytes_many core (page ∷ pages) there =
    let t = there page (inl refl) in
    let one : length t.0 ≡ 4096 = t.2 in
    let ih : length (pages_bytes core pages) ≡ 4096 * length pages = bytes_many core pages (λ p i. there p (inr i)) in
    ap length (page_bytes core page pages t.0 t.1) ∙ length-append t.0 (pages_bytes core pages) ∙ omega (arith, one, ih)

pub bytes_cut : BytesCut
bytes_cut core [] n there = search (arith, take_all, page_bytes, take-append-add)
bytes_cut core (page ∷ pages) zero there = refl
bytes_cut core (page ∷ pages) (suc n) there =
    let t = there page (inl refl) in
    let one : length t.0 ≡ 4096 = t.2 in
    let at : 4096 * suc n ≡ length t.0 + 4096 * n = omega (arith, one) in
    page_bytes core page (take n pages) t.0 t.1
    ∙ ap (λ l. t.0 ++ l) (bytes_cut core pages n (λ p i. there p (inr i)))
    ∙ sym (take-append-add t.0 (pages_bytes core pages) (4096 * n))
    ∙ ap (λ k. take k (t.0 ++ pages_bytes core pages)) (sym at)
    ∙ ap (take (4096 * suc n)) (sym (page_bytes core page pages t.0 t.1))

pub bytes_put : BytesPut
bytes_put core core' [] k bytes once there l now same = absurd (omega arith)
bytes_put core core' (page ∷ pages) zero bytes once there l now same =
    let t = there page (inl refl) in
    let first = are_new-first page pages once in
    let one : 4096 * 1 ≡ length t.0 + 0 = (let q : length t.0 ≡ 4096 = t.2 in omega (arith, q)) in
    let rest : pages_bytes core' pages ≡ pages_bytes core pages =
    flat_map-same (λ p. unwrap_or (page_of core' p) []) (λ p. unwrap_or (page_of core p) []) pages (λ p i. ap (λ o. unwrap_or o []) (same p (inr i) (λ e. first.0 (subst (λ n. In n pages) e i)))) in
    page_bytes core' page pages bytes now
    ∙ ap (λ r. bytes ++ r) (rest ∙ sym (drop-append-add t.0 (pages_bytes core pages) 0) ∙ ap (λ k. drop k (t.0 ++ pages_bytes core pages)) (sym one) ∙ ap (drop (4096 * 1)) (sym (page_bytes core page pages t.0 t.1)))
bytes_put core core' (page ∷ pages) (suc k) bytes once there l now same =
    let t = there page (inl refl) in
    let first = are_new-first page pages once in
    let k' : k < length pages = omega arith in
    let other : page ≡ slice_index_or pages k 0 → ⊥ = λ e. first.0 (subst (λ n. In n pages) (sym e) (get_or-In pages k 0 k')) in
    let ih = bytes_put core core' pages k bytes first.1 (λ p i. there p (inr i)) k' now (λ p i d. same p (inr i) d) in
    let one : length t.0 ≡ 4096 = t.2 in
    let a : 4096 * suc k ≡ length t.0 + 4096 * k = omega (arith, one) in
    let b : 4096 * suc (suc k) ≡ length t.0 + 4096 * suc k = omega (arith, one) in
    let old : List ℕ = pages_bytes core pages in
    let front : take (4096 * suc k) (pages_bytes core (page ∷ pages)) ≡ t.0 ++ take (4096 * k) old =
    ap (take (4096 * suc k)) (page_bytes core page pages t.0 t.1) ∙ ap (λ n. take n (t.0 ++ old)) a ∙ take-append-add t.0 old (4096 * k) in
    let back : drop (4096 * suc (suc k)) (pages_bytes core (page ∷ pages)) ≡ drop (4096 * suc k) old =
    ap (drop (4096 * suc (suc k))) (page_bytes core page pages t.0 t.1) ∙ ap (λ n. drop n (t.0 ++ old)) b ∙ drop-append-add t.0 old (4096 * suc k) in
    search (arith, page_bytes, append_assoc)

-- ---- shares that stay

full_share : (blocks : List ℕ) (k : ℕ) → 511 * suc k ≤ length blocks → min (length blocks - 511 * k) 511 ≡ 511
full_share blocks k l = omega (arith, l)

share_front : (blocks : List ℕ) (k : ℕ) → take 511 (drop (511 * k) blocks) ≡ drop (511 * k) (take (511 * suc k) blocks)
share_front blocks k =
    let at : 511 * k + 511 ≡ 511 * suc k = omega arith in
    sym (ap (λ n. drop (511 * k) (take n blocks)) (sym at) ∙ drop-take (511 * k) 511 blocks)

pub shares_stay : SharesStay
shares_stay core core' index index' blocks blocks' k range page last next l l' same s = search (arith, min, full_share, share_front)

-- ---- from what is read to index pages

-- the first 511 of a list in two parts, of which the first is full or the second is empty
parts : (count : ℕ) (xs ys : List ℕ) → length xs ≡ min count 511 → length ys ≡ count - 511 → (take 511 (xs ++ ys) ≡ xs) × (drop 511 (xs ++ ys) ≡ ys)
parts count xs ys a b =
    elim (cases_lt count 511) [
      | inl few ↦
          let none : ys ≡ [] = nil_from_length ys (omega (arith, b, few)) in
          let l : length xs ≤ 511 = omega (arith, a) in
          let whole : xs ++ ys ≡ xs = ap (λ z. xs ++ z) none ∙ append-nil xs in
          (ap (take 511) whole ∙ take_all 511 xs l, ap (drop 511) whole ∙ drop_all 511 xs l ∙ sym none)
      | inr full ↦
          let l : length xs ≡ 511 = omega (arith, a, full) in
          let m : length xs + 0 ≡ 511 = omega (arith, l) in (
            ap (λ n. take n (xs ++ ys)) (sym l) ∙ take-append_seam xs ys,
            ap (λ n. drop n (xs ++ ys)) (sym m) ∙ drop-append-add xs ys 0,
          )
    ]

-- an index page has as many numbers as are wanted, and the last one no link
index_has : (range : CoreRange) (used : ℕ) (last : Bool) (bytes : List ℕ) (i : Index) → index_of used last range bytes ≡ Some i → (length i.numbers ≡ used) × (link_fits last range i.next ≡ true)
unfolding index_of
index_has range used last bytes i e = search (arith, cond_some, and_parts, eqb-true)

-- a file without blocks has no head
no_head : (kind : Kind) (range : CoreRange) (bytes : List ℕ) (b : Body) → body_of kind range bytes ≡ Some b → block_count b.size ≡ 0 → b.head ≡ 0
unfolding body_of
no_head kind range bytes b e none = search (arith, cond_some, and_parts, eqb-true, eq-eqb)

-- the share of an index page, with one index page more in front
share_ahead : (core : Core) (page : ℕ) (index blocks : List ℕ) (k : ℕ) → NamesShare core index (drop 511 blocks) k → NamesShare core (page ∷ index) blocks (suc k)
share_ahead core page index blocks k s =
    let used : min (length blocks - 511 * suc k) 511 ≡ min (length (drop 511 blocks) - 511 * k) 511 = omega (arith, length-drop 511 blocks) in
    let at : 511 + 511 * k ≡ 511 * suc k = omega arith in
    let last : eqb (suc (suc k)) (length (page ∷ index)) ≡ eqb (suc k) (length index) = grind (arith, nat_tests) in
    let numbers : take 511 (drop (511 * k) (drop 511 blocks)) ≡ take 511 (drop (511 * suc k) blocks) =
    ap (take 511) (drop-drop (511 * k) 511 blocks ∙ ap (λ n. drop n blocks) at) in
    let of : List ℕ → Option Index = λ l. Some (record { numbers = l; next = slice_index_or index (suc k) 0 }) in
    record {
      bytes = s.bytes;
      there = s.there;
      names = search (arith, min);
    }

-- what a chain that reads says of its pages
record Says (core : Core) (n count at : ℕ) (c : Chain) : Type 0 where
  pages : length c.index ≡ n
  blocks : length c.blocks ≡ count
  head : (n ≡ 0) ⊎ (slice_index_or c.index 0 0 ≡ at)
  each : (k : ℕ) → k < length c.index → NamesShare core c.index c.blocks k

says_step : (core : Core) (n count at : ℕ) (bytes : List ℕ) (i : Index) (r : Chain) → count ≤ 511 * suc n → page_of core at ≡ Some bytes → index_of (min count 511) (eqb n 0) core.range bytes ≡ Some i → Says core n (count - 511) i.next r
    → Says core (suc n) count at (record { index = at ∷ r.index; blocks = i.numbers ++ r.blocks })
says_step core n count at bytes i r fits there reads s =
    let has = index_has core.range (min count 511) (eqb n 0) bytes i reads in
    let many : length i.numbers ≡ min count 511 = has.0 in
    let left = s.blocks in
    let deep = s.pages in
    let p = parts count i.numbers r.blocks many left in
    let all : length (i.numbers ++ r.blocks) ≡ count = omega (arith, length-append i.numbers r.blocks, many, left) in
    let used : min (length (i.numbers ++ r.blocks) - 511 * 0) 511 ≡ min count 511 = omega (arith, all) in
    let last : eqb 1 (length (at ∷ r.index)) ≡ eqb n 0 = grind (arith, nat_tests) in
    let next : i.next ≡ slice_index_or r.index 0 0 = search (arith, eqb-true, eq-eqb, nil_from_length) in
    let of : List ℕ → ℕ → Option Index = λ l x. Some (record { numbers = l; next = x }) in
    let first : NamesShare core (at ∷ r.index) (i.numbers ++ r.blocks) 0 = search (arith, min) in
    let later : (k : ℕ) → k < length r.index → NamesShare core (at ∷ r.index) (i.numbers ++ r.blocks) (suc k) =
    λ k h. share_ahead core at r.index (i.numbers ++ r.blocks) k (subst (λ l. NamesShare core r.index l k) (sym p.1) (s.each k h)) in
    record { pages = omega (arith, deep); blocks = all; head = inr refl; each = shares first later }
  where
    shares : NamesShare core (at ∷ r.index) (i.numbers ++ r.blocks) 0 → ((k : ℕ) → k < length r.index → NamesShare core (at ∷ r.index) (i.numbers ++ r.blocks) (suc k))
        → (k : ℕ) → k < length (at ∷ r.index) → NamesShare core (at ∷ r.index) (i.numbers ++ r.blocks) k
    shares f l zero h = f
    shares f l (suc k) h = l k (omega arith)

chain_says : (core : Core) (n count at : ℕ) (c : Chain) → count ≤ 511 * n → chain_within core n count at ≡ Ok c → ((page : ℕ) → In page c.index → is_some (page_of core page) ≡ true) → Says core n count at c
chain_says core zero count at c fits e there = search (arith, Says, min, false≢true, result_then-Ok, result_map-Ok, says_step, there_or-Ok)
chain_says core (suc n) count at c fits e there = by (page_of core at) refl (λ i r fits' k t. chain_says core n (count - 511) i.next r fits' k t) e
  where
    by : (o : Option (List ℕ)) → page_of core at ≡ o → ((i : Index) (r : Chain) → count - 511 ≤ 511 * n → rest_of core n count i ≡ Ok r → ((page : ℕ) → In page r.index → is_some (page_of core page) ≡ true) → Says core n (count - 511) i.next r)
        → index_within core at (min count 511) (eqb n 0) (rest_of core n count) o ≡ Ok c → Says core (suc n) count at c
    by None p again k =
        let one : Ok (record { index = at ∷ []; blocks = [] }) ≡ Ok c = k in
        let same : record { index = at ∷ []; blocks = [] } ≡ c = cc one in
        let is : is_some (page_of core at) ≡ true = there at (subst (λ (x : Chain). In at x.index) same (inl refl)) in
        absurd (false≢true (sym (ap is_some p) ∙ is))
    by (Some bytes) p again k =
        let s1 = result_then-Ok (λ i. result_map (with_index at i) (rest_of core n count i)) (there_or (at_page at) (index_of (min count 511) (eqb n 0) core.range bytes)) c k in
        let i : Index = s1.0 in
        let s2 = result_map-Ok (with_index at i) (rest_of core n count i) c s1.2 in
        let r : Chain = s2.0 in
        let index : at ∷ r.index ≡ c.index = ap (λ (y : Chain). y.index) s2.2 in
        let fits' : count - 511 ≤ 511 * n = omega (arith, fits) in
        let ih = again i r fits' s2.1 (λ q j. there q (subst (λ l. In q l) index (inr j))) in
        subst (λ x. Says core (suc n) count at x) s2.2 (says_step core n count at bytes i r fits p (there_or-Ok (at_page at) (index_of (min count 511) (eqb n 0) core.range bytes) i s1.1) ih)

pub named_reads : NamedReads
named_reads core m f e there =
    let r = within_from core m f e in
    let count : ℕ = block_count f.body.size in
    let fits : count ≤ 511 * index_count count = omega arith in
    let s = chain_says core (index_count count) count f.body.head f.chain fits r.chain there in
    let pages = s.pages in
    let head : f.body.head ≡ slice_index_or f.chain.index 0 0 = search (arith, nil_from_length, no_head) in
    (record { many = s.pages ∙ ap index_count (sym s.blocks); each = s.each }, sym s.blocks, head)
