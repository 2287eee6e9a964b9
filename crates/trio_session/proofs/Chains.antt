-- The chain of a file, by the places of its pages.
use Rattle.trio_session.proofs.Words.{◌++◌, ◌+◌, ◌-◌, ◌<◌, ◌∙◌, ◌∷◌, ◌≡◌, ◌≤◌, Block, Chain, FilePlace, Fresh, FreshParts, In, InSlot, Index, IsAt, IsFile, Laid, Leased, LentPage, List, PagePlace, Parcel, Shown, Some, [], ap, arith, chain_at, chain_laid, false, fresh_number, fresh_sheet, get_or, get_or-In, get_or_append_left, get_or_from_slice_get, is_some, lease_of, length, length-append, length-map, length-take-le, lent_numbers, lent_sheet, map, option_map, option_map_or, page_numbers, refl, shown_at, slice_get, slice_get-map, subst, suc, sym, take, true, zero, ℕ}
use Rattle.std.proofs.lemmas.List.{get_or-map, get_or-append-add, get_or-take}
use Rattle.trio_session.proofs.Places.{index_at, block_at, fresh_at, lent_parts, slot_parts}

-- numbers behind the first of others
pub kept_number : (ns ms : List ℕ) (kept k : ℕ) → kept ≤ length ns → k < kept → get_or (take kept ns ++ ms) k 0 ≡ get_or ns k 0
kept_number ns ms kept k le lt =
    let len : length (take kept ns) ≡ kept = length-take-le kept ns le in
    let within : k < length (take kept ns) = omega (arith, len) in
    get_or_append_left (take kept ns) ms 0 k within ∙ get_or-take kept ns k 0 lt

pub more_number : (ns ms : List ℕ) (kept k : ℕ) → kept ≤ length ns → kept ≤ k → get_or (take kept ns ++ ms) k 0 ≡ get_or ms (k - kept) 0
more_number ns ms kept k le ge =
    let len : length (take kept ns) ≡ kept = length-take-le kept ns le in
    let at : k ≡ length (take kept ns) + (k - kept) = omega (arith, len) in
    ap (λ i. get_or (take kept ns ++ ms) i 0) at ∙ get_or-append-add (take kept ns) ms (k - kept) 0

-- the numbers of lent pages and of allotted ones, by place
lent_number : (ps : List LentPage) (k : ℕ) (p : LentPage) → slice_get ps k ≡ Some p → get_or (lent_numbers ps) k 0 ≡ p.no.0
lent_number ps k p e = get_or_from_slice_get (lent_numbers ps) k p.no.0 0 (slice_get-map (λ (q : LentPage). q.no.0) ps k ∙ ap (option_map (λ (q : LentPage). q.no.0)) e)

fresh_number-at : (ps : List FreshParts) (k : ℕ) (p : FreshParts) → slice_get ps k ≡ Some p → fresh_number ps k ≡ p.no.0
fresh_number-at ps k p e = get_or_from_slice_get (page_numbers ps) k p.no.0 0 (slice_get-map (λ (q : FreshParts). q.no.0) ps k ∙ ap (option_map (λ (q : FreshParts). q.no.0)) e)

no_lent : LentPage
no_lent = record { no = record { 0 = 0 }; page = []; touched = false }

-- the chain of a file that is there
pub chain_there : (b : Parcel) (file : FilePlace) (l : Laid) (f : Shown) → shown_at b file ≡ Some f → chain_at b file l ≡ chain_laid f b.pages l
chain_there b file l f e = ap (λ o. option_map_or (λ (g : Shown). chain_laid g b.pages l) o (record { index = []; blocks = [] })) e

-- a file in a slot has no page that was lent
pub none_lent : (b : Parcel) (page : PagePlace) (slot : ℕ) (l : Laid) (is : IsFile b (InSlot page slot) l) → (l.index_kept ≡ 0) × (l.blocks_kept ≡ 0)
none_lent b page slot l is =
    let s = slot_parts b page slot is.shown is.there in
    let index : l.index_kept ≤ 0 = subst (λ (f : Shown). l.index_kept ≤ length f.index) (sym s.2) is.laid.index in
    let blocks : l.blocks_kept ≤ 0 = subst (λ (f : Shown). l.blocks_kept ≤ length f.blocks) (sym s.2) is.laid.blocks in
    (omega (arith, index), omega (arith, blocks))

-- an element within a list
in_list : {X : Type 0} (xs : List X) (i : ℕ) → i < length xs → (x : X) × (slice_get xs i ≡ Some x)
in_list [] i lt = absurd (omega arith)
in_list (x ∷ xs) zero lt = (x, refl)
in_list (x ∷ xs) (suc i) lt = in_list xs i (omega arith)

-- an allotted page by its number among the places
fresh_is : (b : Parcel) (ats : List ℕ) (i at : ℕ) → i < length ats → at ≡ get_or ats i at → ((x : ℕ) → In x ats → x < length b.pages)
    → IsAt b (Fresh at) (get_or (map (fresh_number b.pages) ats) i 0)
fresh_is b ats i at lt e' all =
    let x = in_list ats i lt in
    let e : at ≡ get_or ats i 0 = e' ∙ get_or_from_slice_get ats i x.0 at x.1 ∙ sym (get_or_from_slice_get ats i x.0 0 x.1) in
    let within : at < length b.pages = all at (subst (λ x. In x ats) (sym e) (get_or-In ats i 0 lt)) in
    let r = in_list b.pages at within in
    record {
      sheet = fresh_sheet r.0;
      there = fresh_at b at r.0 r.1;
      number = sym (get_or-map (fresh_number b.pages) ats i 0 0 lt ∙ ap (fresh_number b.pages) (sym e) ∙ fresh_number-at b.pages at r.0 r.1);
    }

-- where block k of a file stands, and its index page i
pub block_kept : (b : Parcel) (file : FilePlace) (l : Laid) (k : ℕ) → IsFile b file l → k < l.blocks_kept → IsAt b (Block (lease_of file) k) (get_or (chain_at b file l).blocks k 0)
block_kept b (InSlot page slot) l k is lt = absurd (let none = (none_lent b page slot l is).1 in omega (arith, none, lt))
block_kept b (Leased at) l k is lt =
    let f = is.shown in
    let lent = lent_parts b at f is.there in
    let within : k < length f.blocks = (let le = is.laid.blocks in omega (arith, le)) in
    let r = in_list f.blocks k within in
    let page : slice_get lent.0.stands.blocks k ≡ Some r.0 = ap (λ (g : Shown). slice_get g.blocks k) lent.2 ∙ r.1 in
    let ns = lent_numbers f.blocks in
    let le : l.blocks_kept ≤ length ns = rw length-map is.laid.blocks in
    record {
      sheet = lent_sheet r.0;
      there = block_at b at k lent.0 r.0 lent.1 page;
      number = sym (ap (λ (c : Chain). get_or c.blocks k 0) (chain_there b (Leased at) l f is.there) ∙ kept_number ns (map (fresh_number b.pages) l.blocks_more.items) l.blocks_kept k le lt ∙ lent_number f.blocks k r.0 r.1);
    }

pub block_more : (b : Parcel) (file : FilePlace) (l : Laid) (k at : ℕ) → IsFile b file l → l.blocks_kept ≤ k → k < l.blocks_kept + length l.blocks_more.items
    → at ≡ get_or l.blocks_more.items (k - l.blocks_kept) at → IsAt b (Fresh at) (get_or (chain_at b file l).blocks k 0)
block_more b file l k at is ge lt e =
    let f = is.shown in
    let ns = lent_numbers f.blocks in
    let le : l.blocks_kept ≤ length ns = rw length-map is.laid.blocks in
    let within : k - l.blocks_kept < length l.blocks_more.items = omega arith in
    let number : get_or (chain_at b file l).blocks k 0 ≡ get_or (map (fresh_number b.pages) l.blocks_more.items) (k - l.blocks_kept) 0 =
    ap (λ (c : Chain). get_or c.blocks k 0) (chain_there b file l f is.there) ∙ more_number ns (map (fresh_number b.pages) l.blocks_more.items) l.blocks_kept k le ge in
    subst (IsAt b (Fresh at)) (sym number) (fresh_is b l.blocks_more.items (k - l.blocks_kept) at within e is.laid.blocks_there)

pub index_kept : (b : Parcel) (file : FilePlace) (l : Laid) (k : ℕ) → IsFile b file l → k < l.index_kept → IsAt b (Index (lease_of file) k) (get_or (chain_at b file l).index k 0)
index_kept b (InSlot page slot) l k is lt = absurd (let none = (none_lent b page slot l is).0 in omega (arith, none, lt))
index_kept b (Leased at) l k is lt =
    let f = is.shown in
    let lent = lent_parts b at f is.there in
    let within : k < length f.index = (let le = is.laid.index in omega (arith, le)) in
    let r = in_list f.index k within in
    let page : slice_get lent.0.stands.index k ≡ Some r.0 = ap (λ (g : Shown). slice_get g.index k) lent.2 ∙ r.1 in
    let ns = lent_numbers f.index in
    let le : l.index_kept ≤ length ns = rw length-map is.laid.index in
    record {
      sheet = lent_sheet r.0;
      there = index_at b at k lent.0 r.0 lent.1 page;
      number = sym (ap (λ (c : Chain). get_or c.index k 0) (chain_there b (Leased at) l f is.there) ∙ kept_number ns (map (fresh_number b.pages) l.index_more.items) l.index_kept k le lt ∙ lent_number f.index k r.0 r.1);
    }

pub index_more : (b : Parcel) (file : FilePlace) (l : Laid) (k at : ℕ) → IsFile b file l → l.index_kept ≤ k → k < l.index_kept + length l.index_more.items
    → at ≡ get_or l.index_more.items (k - l.index_kept) at → IsAt b (Fresh at) (get_or (chain_at b file l).index k 0)
index_more b file l k at is ge lt e =
    let f = is.shown in
    let ns = lent_numbers f.index in
    let le : l.index_kept ≤ length ns = rw length-map is.laid.index in
    let within : k - l.index_kept < length l.index_more.items = omega arith in
    let number : get_or (chain_at b file l).index k 0 ≡ get_or (map (fresh_number b.pages) l.index_more.items) (k - l.index_kept) 0 =
    ap (λ (c : Chain). get_or c.index k 0) (chain_there b file l f is.there) ∙ more_number ns (map (fresh_number b.pages) l.index_more.items) l.index_kept k le ge in
    subst (IsAt b (Fresh at)) (sym number) (fresh_is b l.index_more.items (k - l.index_kept) at within e is.laid.index_there)

-- how long the chain is
pub blocks_length : (b : Parcel) (file : FilePlace) (l : Laid) → IsFile b file l → length (chain_at b file l).blocks ≡ l.blocks_kept + length l.blocks_more.items
blocks_length b file l is =
    let f = is.shown in
    let ns = lent_numbers f.blocks in
    let le : l.blocks_kept ≤ length ns = rw length-map is.laid.blocks in
    ap (λ (c : Chain). length c.blocks) (chain_there b file l f is.there)
    ∙ length-append (take l.blocks_kept ns) (map (fresh_number b.pages) l.blocks_more.items)
    ∙ ap (λ n. n + length (map (fresh_number b.pages) l.blocks_more.items)) (length-take-le l.blocks_kept ns le)
    ∙ ap (λ n. l.blocks_kept + n) (length-map l.blocks_more.items (fresh_number b.pages))

pub index_length : (b : Parcel) (file : FilePlace) (l : Laid) → IsFile b file l → length (chain_at b file l).index ≡ l.index_kept + length l.index_more.items
index_length b file l is =
    let f = is.shown in
    let ns = lent_numbers f.index in
    let le : l.index_kept ≤ length ns = rw length-map is.laid.index in
    ap (λ (c : Chain). length c.index) (chain_there b file l f is.there)
    ∙ length-append (take l.index_kept ns) (map (fresh_number b.pages) l.index_more.items)
    ∙ ap (λ n. n + length (map (fresh_number b.pages) l.index_more.items)) (length-take-le l.index_kept ns le)
    ∙ ap (λ n. l.index_kept + n) (length-map l.index_more.items (fresh_number b.pages))

-- a file that is laid is there
pub there_some : (b : Parcel) (file : FilePlace) (l : Laid) → IsFile b file l → is_some (shown_at b file) ≡ true
there_some b file l is = ap is_some is.there
