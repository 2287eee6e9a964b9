-- A growth or a cut of a regular file keeps a session's files and indexes.
use Rattle.trio_session.proofs.Words.{◌*◌, ◌++◌, ◌+◌, ◌-◌, ◌<◌, ◌∙◌, ◌∷◌, ◌≡◌, ◌≤◌, ◌⊎◌, AreApart, AreDirs, AreLaid, AreMade, Chain, CutDone, Fresh, FreshParts, GrowDone, HasChain, Home, In, In-cases, In-left, In-right, InSlot, IndexedDir, IsOne, IsRelaid, Laid, Leased, List, Made, MadeAnew, OneFile, Parcel, Regular, Shown, WasMade, Written, WrittenAnew, [], ap, are_new, are_new-beside, are_new-first, arith, block_count, body_at, chain_at, chain_grown, count_from, count_up, cut_file, drop, drop-drop, file_of, fresh_places, fresh_sheet, gap, get_or, grown_file, growth, home_at, index_count, inl, inr, length, length-append, length-take, linked, new_index, numbered, page_numbers, put_bytes, refl, size_in, slice_get-get_or, subst, suc, sym, take, take-append-drop, take-append_seam, taken_from, true, unlinked, unnamed, zero, zeros, ℕ, is_directory, is_directory-false, false}
use Rattle.trio_lists.proofs.New.{are_new-take}
use Rattle.trio_session.proofs.Edited.{linked_keep, numbered_keep, unlinked_keep, unnamed_keep}
use Rattle.trio_session.proofs.Grows.{bytes_keep}
use Rattle.trio_session.proofs.Places.{fresh_at, map_at}
use Rattle.trio_session.proofs.Kept.{IsFile-one, files_of}
use Rattle.trio_session.proofs.Lists.{In-take}
use Rattle.trio_session.proofs.Owners.{are_new-differ, are_new-parts, blocks_apart, index_apart, same_one, spare_apart}
use Rattle.trio_session.proofs.Relaid.{AreDirs-relaid, AreMade-relaid, EditsOne, FromLease, FromMade, Relays, drop_more, relays}
use Rattle.trio_session.proofs.Stays.{LeavesFiles, body_leaves, leaves_then}
use Rattle.trio_session.proofs.Untouched.{EditsFile, edits_cut, edits_grown}

-- ---- numbers that stand once

-- two lists that have none in common
pub are_new-join : (xs ys : List ℕ) → are_new [] xs ≡ true → are_new [] ys ≡ true → ((n : ℕ) → In n xs → In n ys → ⊥) → are_new [] (xs ++ ys) ≡ true
are_new-join [] ys new new' apart = new'
are_new-join (x ∷ xs) ys new new' apart =
    let first = are_new-first x xs new in
    are_new-beside (x ∷ []) [] (xs ++ ys) (are_new-join xs ys first.1 new' (λ n i j. apart n (inr i) j))
    (λ m i one. elim one [
      | inr none ↦ none
      | inl same ↦ elim (In-cases m xs ys i) [
        | inl h ↦ first.0 (subst (λ n. In n xs) same h)
        | inr h ↦ apart x (inl refl) (subst (λ n. In n ys) same h)
      ]
    ])

pub are_new-front : (xs ys : List ℕ) → are_new [] (xs ++ ys) ≡ true → are_new [] xs ≡ true
are_new-front xs ys new = ap (are_new []) (sym (take-append_seam xs ys)) ∙ are_new-take (length xs) [] (xs ++ ys) new

-- the first of each of two
are_new-takes : (i j : ℕ) (xs ys : List ℕ) → are_new [] (xs ++ ys) ≡ true → are_new [] (take i xs ++ take j ys) ≡ true
are_new-takes i j xs ys new =
    let parts = are_new-parts xs ys new in
    are_new-join (take i xs) (take j ys) (are_new-take i [] xs (are_new-front xs ys new)) (are_new-take j [] ys parts.0)
    (λ n a c. parts.1 n (In-take i n xs a) (In-take j n ys c))

-- ---- the chain of each file

pub HasChain-one : (placed : ℕ) (reads : List Shown) (b b' : Parcel) (ls ls' : List Laid) (ms ms' cs : List Made) (x : OneFile) (l' : Laid) → AreLaid b ls → AreMade placed reads (files_of b ls ms cs)
    → Relays b b' ls ls' ms ms' cs x l' → HasChain b x.file x.laid
HasChain-one placed reads b b' ls ls' ms ms' cs x l' laid made relays = elim relays.source [
  | FromMade m i e ↦ subst (λ (y : OneFile). HasChain b y.file y.laid) (sym e) (made.made m i).chain
  | FromLease at e ↦ elim relays.old [
    | Written i f l there el is ↦ subst (λ (y : OneFile). HasChain b y.file y.laid) (sym is) (laid.chains i l el)
    | WasMade m i is ↦ absurd (let no : Leased at ≡ InSlot m.page m.slot = sym e ∙ ap (λ (y : OneFile). y.file) is in cc no)
  ]
]

-- ---- a cut

cut_leaves : (home : Home) (chain : Chain) (body : List ℕ) (size : ℕ) (b : Parcel) → LeavesFiles b (cut_file home chain body size b)
cut_leaves home chain body size b =
    let c = block_count size in
    let named = unnamed chain.index c (length chain.blocks - c) b in
    let links = unlinked (drop (index_count c - 1) chain.index) named in
    let one = unnamed_keep chain.index c (length chain.blocks - c) b in
    let two = unlinked_keep (drop (index_count c - 1) chain.index) named in
    leaves_then b named (cut_file home chain body size b) one.leaves
    (leaves_then named links (cut_file home chain body size b) two.leaves (body_leaves home _ links))

pub cut_leaves_files : (b b' : Parcel) (size : ℕ) (ls ls' : List Laid) (ms ms' : List Made) (ino : ℕ) → IsRelaid (CutDone b b' size) b ls ms ino ls' ms' → LeavesFiles b b'
cut_leaves_files b b' size ls ls' ms ms' ino (MadeAnew at m l' first there is els ems) =
    subst (LeavesFiles b) (sym is.edit) (cut_leaves (home_at b (file_of m)) (chain_at b (file_of m) m.laid) (body_at b (file_of m)) size b)
cut_leaves_files b b' size ls ls' ms ms' ino (WrittenAnew at l l' none first there is els ems) =
    subst (LeavesFiles b) (sym is.edit) (cut_leaves (home_at b (Leased at)) (chain_at b (Leased at) l) (body_at b (Leased at)) size b)

pub kept_cut : (placed : ℕ) (reads : List Shown) (b b' : Parcel) (ls ls' : List Laid) (ms ms' cs : List Made) (dirs : List IndexedDir) (size ino : ℕ)
    → AreLaid b ls → AreMade placed reads (files_of b ls ms cs) → AreDirs reads (files_of b ls ms cs) dirs → IsRelaid (CutDone b b' size) b ls ms ino ls' ms'
    → ((x : OneFile) → IsOne (files_of b ls ms cs) x → x.ino ≡ ino → is_directory x.kind ≡ false)
    → AreMade placed reads (files_of b' ls' ms' cs) × AreDirs reads (files_of b' ls' ms' cs) dirs
kept_cut placed reads b b' ls ls' ms ms' cs dirs size ino laid made are relaid kind =
    let fs = files_of b ls ms cs in
    let leaves = cut_leaves_files b b' size ls ls' ms ms' ino relaid in
    let r = relays placed reads b b' ls ms cs leaves made (CutDone b b' size) ino ls' ms' relaid in
    let x = r.0 in
    let l' = r.1 in
    let done = r.3 in
    let regular : is_directory x.kind ≡ false = kind x r.2.old r.4 in
    let chain = chain_at b x.file x.laid in
    let file = IsFile-one placed reads fs x laid made r.2.old in
    let has = HasChain-one placed reads b b' ls ls' ms ms' cs x l' laid made r.2 in
    let c = block_count size in
    let len : length (take c chain.blocks) ≡ c = sym (ap (λ (ch : Chain). length ch.blocks) done.chain) ∙ done.has.blocks ∙ ap block_count done.sized in
    let less : c ≤ length chain.blocks = omega (arith, len, length-take c chain.blocks) in
    let enough : length chain.blocks ≤ 511 * length chain.index = omega (arith, has.blocks, has.index) in
    let edit : EditsFile chain.index (home_at b x.file) b b' =
    subst (EditsFile chain.index (home_at b x.file) b) (sym done.edit) (edits_cut (home_at b x.file) chain (body_at b x.file) size b done.full less enough) in
    let i = index_count c - x.laid.index_kept in
    let j = c - x.laid.blocks_kept in
    let places : fresh_places l' ≡ take i x.laid.index_more.items ++ take j x.laid.blocks_more.items =
    ap (λ xs. xs ++ l'.blocks_more.items) done.index ∙ ap (λ ys. take i x.laid.index_more.items ++ ys) done.blocks in
    let had : (at : ℕ) → In at (fresh_places l') → In at (fresh_places x.laid) = λ at h.
    elim (In-cases at (take i x.laid.index_more.items) (take j x.laid.blocks_more.items) (subst (In at) places h)) [
      | inl k ↦ In-left at x.laid.index_more.items x.laid.blocks_more.items (In-take i at x.laid.index_more.items k)
      | inr k ↦ In-right at x.laid.index_more.items x.laid.blocks_more.items (In-take j at x.laid.blocks_more.items k)
    ] in
    let all : EditsOne placed placed reads b b' ls ls' ms ms' cs x l' chain.index = record {
      are_laid = laid;
      made = made;
      leaves = leaves;
      relays = r.2;
      is_file = file;
      edit = edit;
      whole_home = done.whole;
      new_file = done.laid;
      has = done.has;
      others = done.others;
      more = omega arith;
      once = ap (are_new []) places ∙ are_new-takes i j x.laid.index_more.items x.laid.blocks_more.items (made.spread.once x r.2.old);
      places = λ at h. inl (had at h);
      below = λ at h. made.spread.below x at r.2.old (had at h);
      out = λ y n one dir h k. index_apart placed reads fs made.apart made.numbered made.spread x y n r.2.old file one (IsFile-one placed reads fs y laid made one) k h;
      spare = λ n h k. spare_apart placed reads fs made.apart made.numbered made.spread x n r.2.old file h (In-left n chain.index chain.blocks k);
      grows = λ dir. absurd (is_directory-false x.kind regular dir);
      whole = λ dir. absurd (is_directory-false x.kind regular dir);
    } in (
      AreMade-relaid placed placed reads b b' ls ls' ms ms' cs x l' chain.index all,
      AreDirs-relaid placed placed reads b b' ls ls' ms ms' cs x l' chain.index all dirs are regular,
    )

-- ---- a growth

grown_leaves : (home : Home) (chain : Chain) (body : List ℕ) (size : ℕ) (taken : List ℕ) (b : Parcel) → LeavesFiles b (grown_file home chain body size taken b)
grown_leaves home chain body size taken b =
    let old = size_in body in
    let chain' = chain_grown chain (block_count size) taken in
    let zeroed = put_bytes chain.blocks old (zeros (gap old size)) b in
    let links = linked (drop (length chain.index - 1) chain'.index) zeroed in
    let rest = drop (new_index (length chain.blocks) (block_count size)) taken in
    let named = numbered chain'.index (length chain.blocks) rest links in
    let one = bytes_keep b zeroed chain.blocks old (zeros (gap old size)) refl in
    let two = linked_keep (drop (length chain.index - 1) chain'.index) zeroed in
    let three = numbered_keep chain'.index (length chain.blocks) rest links in
    leaves_then b zeroed (grown_file home chain body size taken b) one.leaves
    (leaves_then zeroed links (grown_file home chain body size taken b) two.leaves
    (leaves_then links named (grown_file home chain body size taken b) three.leaves (body_leaves home _ named)))

pub grown_leaves_files : (b b' : Parcel) (size from next : ℕ) (ls ls' : List Laid) (ms ms' : List Made) (ino : ℕ) → IsRelaid (GrowDone b b' size from next) b ls ms ino ls' ms' → LeavesFiles b b'
grown_leaves_files b b' size from next ls ls' ms ms' ino (MadeAnew at m l' first there is els ems) =
    subst (LeavesFiles b) (sym is.edit)
    (grown_leaves (home_at b (file_of m)) (chain_at b (file_of m) m.laid) (body_at b (file_of m)) size (taken_from b size from (file_of m) m.laid) b)
grown_leaves_files b b' size from next ls ls' ms ms' ino (WrittenAnew at l l' none first there is els ems) =
    subst (LeavesFiles b) (sym is.edit)
    (grown_leaves (home_at b (Leased at)) (chain_at b (Leased at) l) (body_at b (Leased at)) size (taken_from b size from (Leased at) l) b)

are_new-count : (from k : ℕ) → are_new [] (count_up from k) ≡ true
are_new-count from zero = refl
are_new-count from (suc k) =
    are_new-beside (from ∷ []) [] (count_up (suc from) k) (are_new-count (suc from) k)
    (λ m i one. elim one [ inr none ↦ none | inl same ↦ (let r = (count_from (suc from) k m i).0 in omega (arith, r, same)) ])

pub In-drop : (k n : ℕ) (xs : List ℕ) → In n (drop k xs) → In n xs
In-drop k n xs i = subst (In n) (take-append-drop k xs) (In-right n (take k xs) (drop k xs) i)

-- places that a file had, and new ones behind all
module _ (placed ni nb : ℕ) (im bm : List ℕ) (new : are_new [] (im ++ bm) ≡ true) (early : (at : ℕ) → In at (im ++ bm) → at < placed) where
  abbrev grown_places : List ℕ
  grown_places = (im ++ count_up placed ni) ++ (bm ++ count_up (placed + ni) nb)

  pub places_cases : (at : ℕ) → In at grown_places → In at (im ++ bm) ⊎ ((placed ≤ at) × (at < placed + ni + nb))
  places_cases at h = elim (In-cases at (im ++ count_up placed ni) (bm ++ count_up (placed + ni) nb) h) [
    | inl a ↦ elim (In-cases at im (count_up placed ni) a) [
      | inl i ↦ inl (In-left at im bm i)
      | inr i ↦ (let r = count_from placed ni at i in let r0 = r.0 in let r1 = r.1 in inr (r0, omega (arith, r1)))
    ]
    | inr a ↦ elim (In-cases at bm (count_up (placed + ni) nb) a) [
      | inl i ↦ inl (In-right at im bm i)
      | inr i ↦ (let r = count_from (placed + ni) nb at i in let r0 = r.0 in let r1 = r.1 in inr (omega (arith, r0), omega (arith, r1)))
    ]
  ]

  pub places_once : are_new [] grown_places ≡ true
  places_once =
      let parts = are_new-parts im bm new in
      let index = are_new-join im (count_up placed ni) (are_new-front im bm new) (are_new-count placed ni)
      (λ n i j. let lt = early n (In-left n im bm i) in let r = (count_from placed ni n j).0 in absurd (omega (arith, lt, r))) in
      let blocks = are_new-join bm (count_up (placed + ni) nb) parts.0 (are_new-count (placed + ni) nb)
      (λ n i j. let lt = early n (In-right n im bm i) in let r = (count_from (placed + ni) nb n j).0 in absurd (omega (arith, lt, r))) in
      are_new-join (im ++ count_up placed ni) (bm ++ count_up (placed + ni) nb) index blocks
      (λ n h k. elim (In-cases n im (count_up placed ni) h) [
        | inl a ↦ elim (In-cases n bm (count_up (placed + ni) nb) k) [
          | inl c ↦ parts.1 n a c
          | inr c ↦ (let lt = early n (In-left n im bm a) in let r = (count_from (placed + ni) nb n c).0 in absurd (omega (arith, lt, r)))
        ]
        | inr a ↦ elim (In-cases n bm (count_up (placed + ni) nb) k) [
          | inl c ↦ (let lt = early n (In-right n im bm c) in let r = (count_from placed ni n a).0 in absurd (omega (arith, lt, r)))
          | inr c ↦ (let r = (count_from placed ni n a).1 in let q = (count_from (placed + ni) nb n c).0 in absurd (omega (arith, r, q)))
        ]
      ])

-- allotted pages have numbers that stand once
are_new-fresh : (b : Parcel) → AreApart b → are_new [] (page_numbers b.pages) ≡ true
are_new-fresh b apart = are_new-differ (page_numbers b.pages) (λ i j lt within same.
    let ns = page_numbers b.pages in
    let ei = slice_get-get_or ns i 0 (omega (arith, lt, within)) in
    let ej = slice_get-get_or ns j 0 within in
    let p = map_at (λ (p : FreshParts). p.no.0) b.pages i (get_or ns i 0) ei in
    let q = map_at (λ (p : FreshParts). p.no.0) b.pages j (get_or ns j 0) ej in
    let places : Fresh i ≡ Fresh j = apart.pages (Fresh i) (Fresh j) (fresh_sheet p.0) (fresh_sheet q.0) (fresh_at b i p.0 p.1) (fresh_at b j q.0 q.1) (p.2 ∙ same ∙ sym q.2) in
    let at : i ≡ j = cc places in
    omega (arith, at, lt))

-- and so have those that are taken
pub are_new-taken : (b : Parcel) (placed wanted : ℕ) → AreApart b → are_new [] (take wanted (drop placed (page_numbers b.pages))) ≡ true
are_new-taken b placed wanted apart =
    let ns = page_numbers b.pages in
    are_new-take wanted [] (drop placed ns) (are_new-parts (take placed ns) (drop placed ns) (ap (are_new []) (take-append-drop placed ns) ∙ are_new-fresh b apart)).0

-- allotted pages at two places have two numbers
pub fresh_differ : (b : Parcel) (placed next n : ℕ) (wanted : ℕ) → AreApart b → next ≡ placed + wanted → In n (take wanted (drop placed (page_numbers b.pages))) → In n (drop next (page_numbers b.pages)) → ⊥
fresh_differ b placed next n wanted apart e i j =
    let ns = page_numbers b.pages in
    let once = are_new-fresh b apart in
    let split : drop placed ns ≡ take wanted (drop placed ns) ++ drop next ns =
    sym (take-append-drop wanted (drop placed ns)) ∙ ap (λ ys. take wanted (drop placed ns) ++ ys) (drop-drop wanted placed ns ∙ ap (λ k. drop k ns) (sym e)) in
    (are_new-parts (take wanted (drop placed ns)) (drop next ns) (ap (are_new []) (sym split) ∙ (are_new-parts (take placed ns) (drop placed ns) (ap (are_new []) (take-append-drop placed ns) ∙ once)).0)).1 n i j

pub kept_grow : (placed next : ℕ) (reads : List Shown) (b b' : Parcel) (ls ls' : List Laid) (ms ms' cs : List Made) (dirs : List IndexedDir) (size ino : ℕ)
    → AreLaid b ls → AreMade placed reads (files_of b ls ms cs) → AreDirs reads (files_of b ls ms cs) dirs → IsRelaid (GrowDone b b' size placed next) b ls ms ino ls' ms'
    → ((x : OneFile) → IsOne (files_of b ls ms cs) x → x.ino ≡ ino → is_directory x.kind ≡ false)
    → AreMade next reads (files_of b' ls' ms' cs) × AreDirs reads (files_of b' ls' ms' cs) dirs
kept_grow placed next reads b b' ls ls' ms ms' cs dirs size ino laid made are relaid kind =
    let fs = files_of b ls ms cs in
    let leaves = grown_leaves_files b b' size placed next ls ls' ms ms' ino relaid in
    let r = relays placed reads b b' ls ms cs leaves made (GrowDone b b' size placed next) ino ls' ms' relaid in
    let x = r.0 in
    let l' = r.1 in
    let done = r.3 in
    let regular : is_directory x.kind ≡ false = kind x r.2.old r.4 in
    let chain = chain_at b x.file x.laid in
    let file = IsFile-one placed reads fs x laid made r.2.old in
    let has = HasChain-one placed reads b b' ls ls' ms ms' cs x l' laid made r.2 in
    let c = block_count size in
    let taken = taken_from b size placed x.file x.laid in
    let wanted = growth (length chain.blocks) c in
    let chain' = chain_grown chain c taken in
    let rest = drop (new_index (length chain.blocks) c) taken in
    let more = take (new_index (length chain.blocks) c) taken in
    let blocks_len : length chain.blocks + length rest ≡ c = sym (length-append chain.blocks rest) ∙ sym (ap (λ (ch : Chain). length ch.blocks) done.chain) ∙ done.has.blocks ∙ ap block_count done.sized in
    let index_len : length chain'.index ≡ index_count c = sym (ap (λ (ch : Chain). length ch.index) done.chain) ∙ done.has.index ∙ ap (λ n. index_count (block_count n)) done.sized in
    let enough : length chain.blocks + length rest ≤ 511 * length chain'.index = omega (arith, blocks_len, index_len) in
    let own = chain'.index ++ chain.blocks in
    let edit : EditsFile own (home_at b x.file) b b' =
    subst (EditsFile own (home_at b x.file) b) (sym done.edit) (edits_grown (home_at b x.file) chain (body_at b x.file) size taken b done.full has.blocks enough) in
    let ni = new_index (length chain.blocks) c in
    let nb = c - length chain.blocks in
    let im = x.laid.index_more.items in
    let bm = x.laid.blocks_more.items in
    let places : fresh_places l' ≡ (im ++ count_up placed ni) ++ (bm ++ count_up (placed + ni) nb) =
    ap (λ xs. xs ++ l'.blocks_more.items) done.index ∙ ap (λ ys. (im ++ count_up placed ni) ++ ys) done.blocks in
    let once = made.spread.once x r.2.old in
    let early = λ (at : ℕ) (h : In at (im ++ bm)). made.spread.below x at r.2.old h in
    let cases = λ (at : ℕ) (h : In at (fresh_places l')). places_cases placed ni nb im bm once early at (subst (In at) places h) in
    let ends : next ≡ placed + ni + nb = (let e : next ≡ placed + wanted = done.ends in omega (arith, e)) in
    let own_cases : (n : ℕ) → In n own → In n (chain.index ++ chain.blocks) ⊎ In n taken = λ n h.
    elim (In-cases n chain'.index chain.blocks h) [
      | inr k ↦ inl (In-right n chain.index chain.blocks k)
      | inl k ↦ elim (In-cases n chain.index more k) [
        | inl q ↦ inl (In-left n chain.index chain.blocks q)
        | inr q ↦ inr (In-take ni n taken q)
      ]
    ] in
    let all : EditsOne placed next reads b b' ls ls' ms ms' cs x l' own = record {
      are_laid = laid;
      made = made;
      leaves = leaves;
      relays = r.2;
      is_file = file;
      edit = edit;
      whole_home = done.whole;
      new_file = done.laid;
      has = done.has;
      others = done.others;
      more = omega (arith, ends);
      once = ap (are_new []) places ∙ places_once placed ni nb im bm once early;
      places = λ at h. elim (cases at h) [ inl k ↦ inl k | inr k ↦ inr k.0 ];
      below = λ at h. elim (cases at h) [
        | inl k ↦ (let lt = early at k in omega (arith, lt, ends))
        | inr k ↦ (let lt = k.1 in omega (arith, lt, ends))
      ];
      out = λ y n one dir h k.
          let there = IsFile-one placed reads fs y laid made one in
          elim (own_cases n k) [
            | inr q ↦ spare_apart placed reads fs made.apart made.numbered made.spread y n one there (In-take wanted n (drop placed (page_numbers b.pages)) q)
                (In-right n (chain_at b y.file y.laid).index (chain_at b y.file y.laid).blocks h)
            | inl q ↦ elim (In-cases n chain.index chain.blocks q) [
              | inl u ↦ index_apart placed reads fs made.apart made.numbered made.spread x y n r.2.old file one there u h
              | inr u ↦
                  let number : y.ino ≡ x.ino = blocks_apart placed reads fs made.apart made.numbered made.spread y x n one there r.2.old file h u in
                  let it : y ≡ x = same_one reads fs y x made.apart made.numbered one r.2.old number in
                  is_directory-false x.kind regular (ap (λ (z : OneFile). z.kind) (sym it) ∙ dir)
            ]
          ];
      spare = λ n h k. elim (own_cases n k) [
        | inl q ↦ spare_apart placed reads fs made.apart made.numbered made.spread x n r.2.old file
            (drop_more placed next n (page_numbers b.pages) (omega (arith, ends)) h) q
        | inr q ↦ fresh_differ b placed next n wanted made.apart done.ends q h
      ];
      grows = λ dir. absurd (is_directory-false x.kind regular dir);
      whole = λ dir. absurd (is_directory-false x.kind regular dir);
    } in (
      AreMade-relaid placed next reads b b' ls ls' ms ms' cs x l' own all,
      AreDirs-relaid placed next reads b b' ls ls' ms ms' cs x l' own all dirs are regular,
    )
