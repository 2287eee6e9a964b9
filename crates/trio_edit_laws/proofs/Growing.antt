-- A file that grows, regular or a directory, written or made.
use Rattle.trio_edit_laws.proofs.Words.{◌%◌, ◌*◌, ◌++◌, ◌+◌, ◌-◌, ◌<◌, ◌^◌, ◌∙◌, ◌≡◌, ◌≤◌, ◌⊎◌, AreSpare, AreWithinLimits, Body, DeskSeen, Directory, GetsBytes, In, In-cases, In-left, In-right, In-take, IsOpenFile, Kind, List, MadeFile, MayEdit, Parcel, Regular, SessionSeen, Sheet, Some, [], ap, are_new, are_new-take, arith, block_count, body_in, bundle_of, bundle_pages, bytes_in, cases_lt, chain_in, drop, eqb-true, flat_map, flat_map-append, flat_map-same, fresh_sheet, gap, get_or, get_or-In, get_or_past, growth, in_hand, index_count, inl, inr, length, length-append, length-drop, length-map, length-take-le, length-zeros, made_file, map-map, new_index, open_kind, page_in, page_numbers, pages_in_hand, put_bytes, refl, resized, size_fits, size_in, spare_pages, subst, suc, sym, take, take-append-drop, true, with_part, zeros, ℕ, Link}
use Rattle.trio_nodes.specs.Apply.{largest_size}
use Rattle.trio_laws.proofs.Accepting.{allotted_in}
use Rattle.trio_session.specs.Seen.{grown}
use Rattle.trio_edit_laws.proofs.Chained.{AreApart, apart_from, apart_to}
use Rattle.trio_edit_laws.proofs.Gets.{edit_gets}
use Rattle.trio_edit_laws.proofs.Grown.{chain_named, kept-grown, says-grown}
use Rattle.trio_edit_laws.proofs.Hand.{hand_is_core}
use Rattle.trio_edit_laws.proofs.IndexFields.{In-drop, IndexSays, says-same}
use Rattle.trio_edit_laws.proofs.Keeps.{GrowsBlank, IsEdit, IsFree, index_is_none, made_at, slot_chained}
use Rattle.trio_edit_laws.proofs.Links.{Kept}
use Rattle.trio_edit_laws.proofs.OpenChain.{OpenChain, open_chain, plain_is_none}
use Rattle.trio_edit_laws.proofs.Opens.{pages_of_chain, with_chain-beside}
use Rattle.trio_edit_laws.proofs.Pages.{length-page_in}
use Rattle.trio_edit_laws.proofs.Put.{HasPut, put_done, put_none}
use Rattle.trio_edit_laws.proofs.Reading.{length-blocks}
use Rattle.trio_edit_laws.proofs.Relaid.{IsBodied, IsRelaid, edit_relaid, page_now}
use Rattle.trio_edit_laws.proofs.Sized.{guard_in-sized, length-body_of, size_fits-body_of}
use Rattle.trio_edit_laws.proofs.Resized.{core_at, flat_map-zeros, length-resized, resized-grown}
use Rattle.trio_edit_laws.proofs.Touches.{Touches, alters_more, bare_files, touches_nothing, touches_then}

-- an allotted page is a page in hand
allotted_in_hand : (b : Parcel) (n : ℕ) → In n (page_numbers b.pages) → In n (bundle_pages (bundle_of b))
allotted_in_hand b n i = allotted_in (bundle_of b) n (subst (λ l. In n l) (sym (map-map (λ (x : Sheet). x.page) fresh_sheet b.pages)) i)

-- different numbers, without the first of them
pub new-drop : (k : ℕ) (ns : List ℕ) → are_new [] ns ≡ true → are_new [] (drop k ns) ≡ true
new-drop k ns once = (apart_from (take k ns) (drop k ns) (ap (are_new []) (take-append-drop k ns) ∙ once)).right

module _ (desk : DeskSeen) (s : SessionSeen) (ino : ℕ) (kind : Kind) (size : ℕ) (limits : AreWithinLimits desk.sizes) (m : MayEdit desk s) (spare : AreSpare desk s) (o : open_kind s ino ≡ Some kind) (le : size_in (body_in s ino) ≤ size)
    (narrow : size < 2 ^ 64) (fits_kind : size_fits kind size ≡ true) (room : growth (length (chain_in s ino).blocks) (block_count size) ≤ length (spare_pages s)) where
  abbrev index : List ℕ
  index = (chain_in s ino).index

  abbrev blocks : List ℕ
  blocks = (chain_in s ino).blocks

  abbrev old : ℕ
  old = size_in (body_in s ino)

  abbrev more : ℕ
  more = new_index (length (chain_in s ino).blocks) (block_count size)

  abbrev taken : List ℕ
  taken = take (growth (length (chain_in s ino).blocks) (block_count size)) (spare_pages s)

  abbrev index_more : List ℕ
  index_more = take (new_index (length (chain_in s ino).blocks) (block_count size)) taken

  abbrev blocks_more : List ℕ
  blocks_more = drop (new_index (length (chain_in s ino).blocks) (block_count size)) taken

  abbrev pub index_now : List ℕ
  index_now = index ++ index_more

  abbrev pub blocks_now : List ℕ
  blocks_now = blocks ++ blocks_more

  abbrev zeroed : Parcel
  zeroed = put_bytes blocks old (zeros (gap old size)) s.parcel

  abbrev written : Parcel
  written = chain_named index index_more blocks blocks_more zeroed

  c : OpenChain desk s ino kind
  c = open_chain desk s ino kind m o

  -- ---- how many

  no_fewer : length blocks ≤ block_count size
  no_fewer = (let k = c.count in omega (arith, k, le))

  taken_many : length taken ≡ growth (length (chain_in s ino).blocks) (block_count size)
  taken_many = length-take-le (growth (length blocks) (block_count size)) (spare_pages s) room

  index_more_many : length index_more ≡ more
  index_more_many = length-take-le more taken (let k = taken_many in omega (arith, k))

  pub blocks_more_many : length blocks_more ≡ block_count size - length blocks
  blocks_more_many = (let k = taken_many in omega (arith, k, length-drop more taken))

  index_many : length index_now ≡ index_count (block_count size)
  index_many = (let a = c.named.many in let b = index_more_many in let c = no_fewer in omega (arith, a, b, c, length-append index index_more))

  blocks_many : block_count size ≡ length blocks_now
  blocks_many = (let b = blocks_more_many in let c = no_fewer in omega (arith, b, c, length-append blocks blocks_more))

  -- ---- the pages that are taken

  taken_spare : (n : ℕ) → In n taken → In n (spare_pages s)
  taken_spare n i = In-take (growth (length blocks) (block_count size)) n (spare_pages s) i

  taken_held : (n : ℕ) → In n taken → In n (pages_in_hand (in_hand s))
  taken_held n i = allotted_in_hand s.parcel n (In-drop s.placed n (page_numbers s.parcel.pages) (taken_spare n i))

  free : (n : ℕ) → In n taken → IsFree desk s n
  free n i = record { held = taken_held n i; unchained = (spare n (taken_spare n i)).unchained; unlisted = (spare n (taken_spare n i)).unlisted }

  pub in_index : (n : ℕ) → In n index_more → In n taken
  in_index n i = In-take more n taken i

  pub in_blocks : (n : ℕ) → In n blocks_more → In n taken
  in_blocks n i = In-drop more n taken i

  from : (n : ℕ) → In n (index_now ++ blocks_now) → In n (pages_of_chain (chain_in s ino)) ⊎ IsFree desk s n
  from n i =
      elim (In-cases n index_now blocks_now i) [
        | inl a ↦ elim (In-cases n index index_more a) [ inl x ↦ inl (In-left n index blocks x) | inr x ↦ inr (free n (in_index n x)) ]
        | inr b ↦ elim (In-cases n blocks blocks_more b) [ inl x ↦ inl (In-right n index blocks x) | inr x ↦ inr (free n (in_blocks n x)) ]
      ]

  held : (n : ℕ) → In n (index_now ++ blocks_now) → In n (pages_in_hand (in_hand s))
  held n i = elim (from n i) [ inl x ↦ c.held n x | inr x ↦ x.held ]

  -- no page of the chain is taken
  apart_taken : (n : ℕ) → In n (pages_of_chain (chain_in s ino)) → In n taken → ⊥
  apart_taken n i j = (free n j).unchained (c.chained n i)

  apart : AreApart index blocks
  apart = apart_from index blocks c.once

  apart_more : AreApart index_more blocks_more
  apart_more = search (arith, apart_from, take-append-drop, are_new-take, new-drop)

  index_once : are_new [] index_now ≡ true
  index_once = apart_to index index_more (record { left = apart.left; right = apart_more.left; apart = λ n i j. apart_taken n (In-left n index blocks i) (in_index n j) })

  once : are_new [] (index_now ++ blocks_now) ≡ true
  once = apart_to index_now blocks_now (record {
    left = index_once;
    right = apart_to blocks blocks_more (record { left = apart.right; right = apart_more.right; apart = λ n i j. apart_taken n (In-right n index blocks i) (in_blocks n j) });
    apart = λ n i j. elim (In-cases n index index_more i) [
      | inl x ↦ elim (In-cases n blocks blocks_more j) [ inl y ↦ apart.apart n x y | inr y ↦ apart_taken n (In-left n index blocks x) (in_blocks n y) ]
      | inr x ↦ elim (In-cases n blocks blocks_more j) [ inl y ↦ apart_taken n (In-right n index blocks y) (in_index n x) | inr y ↦ apart_more.apart n x y ]
    ];
  })

  small : (n : ℕ) → In n (index_now ++ blocks_now) → n < 8192
  small n i =
      let c = core_at desk.sizes.range n (hand_is_core desk s n m (held n i)) in
      let below : n < desk.sizes.range.end = c.1 in
      let end = limits.pages in omega (arith, below, end)

  -- ---- zeros up to the end of the last block

  gap_long : length (zeros (gap old size)) ≡ gap (size_in (body_in s ino)) size
  gap_long = length-zeros (gap old size)

  filled : HasPut blocks old (zeros (gap old size)) s.parcel zeroed
  filled = put_done desk.out s.parcel m.all.given blocks old (zeros (gap old size)) apart.right (λ n i. c.held n (In-right n index blocks i)) (let k = c.count in let g = gap_long in omega (arith, k, g))

  zeroed_other : (n : ℕ) → (In n blocks → ⊥) → page_in zeroed n ≡ page_in s.parcel n
  zeroed_other n out = filled.touches.other n out

  clear : (n : ℕ) → In n taken → page_in zeroed n ≡ zeros 4096
  clear n i = zeroed_other n (λ j. apart_taken n (In-right n index blocks j) i) ∙ (spare n (taken_spare n i)).zero

  zeroed_held : (n : ℕ) → In n index_now → In n (bundle_pages (bundle_of zeroed))
  zeroed_held n i = subst (λ l. In n l) (sym filled.touches.pages) (held n (In-left n index_now blocks_now i))

  -- ---- the index pages

  fits : length blocks + length blocks_more ≤ 511 * length index_now
  fits = (let a = index_many in let b = blocks_more_many in let c = no_fewer in omega (arith, a, b, c))

  says : IndexSays (page_in written) index_now (λ j. get_or blocks_now j 0) (λ k. get_or index_now (suc k) 0)
  says =
      says-grown zeroed index index_more blocks blocks_more
      (says-same (page_in s.parcel) (page_in zeroed) index (λ j. get_or blocks j 0) (λ k. get_or index (suc k) 0) (λ n i. zeroed_other n (λ j. apart.apart n i j)) c.says)
      (λ n i. clear n (in_index n i)) index_once zeroed_held (let k = c.named.many in omega (arith, k)) fits
      (λ n i. let l = small n (In-left n index_now blocks_now i) in omega (arith, l))
      (λ n i. let l = small n (In-right n index_now blocks_now (In-right n blocks blocks_more i)) in omega (arith, l))

  kept : Kept index_now zeroed written
  kept =
      kept-grown zeroed index index_more blocks blocks_more zeroed_held
      (λ n i. length-page_in desk.out zeroed n (filled.touches.given desk.out m.all.given) (zeroed_held n i)) fits

  block_stays : (n : ℕ) → In n blocks_now → page_in written n ≡ page_in zeroed n
  block_stays n i = kept.touches.other n (λ j. (apart_from index_now blocks_now once).apart n j i)

  -- ---- what is written

  -- a directory ends at the end of a block, and so has no bytes to be zeroed
  no_gap : kind ≡ Directory → zeroed ≡ s.parcel
  no_gap is =
      let whole : size_fits Directory c.body.size ≡ true = subst (λ k. size_fits k c.body.size ≡ true) is (size_fits-body_of kind desk.sizes.range (body_in s ino) c.body c.read) in
      let even : c.body.size % 4096 ≡ 0 = eqb-true (c.body.size % 4096) 0 whole in
      let same : old ≡ c.body.size = ap (λ (b : Body). b.size) c.at in
      let none : gap old size ≡ 0 = omega (arith, even, same) in
      ap (λ n. put_bytes blocks old (zeros n) s.parcel) none ∙ put_none blocks old s.parcel

  abbrev gap_pages : Kind → List ℕ
  gap_pages Regular = blocks
  gap_pages Link = blocks
  gap_pages Directory = []

  abbrev pub touched : List ℕ
  touched = gap_pages kind ++ index_now

  gap_touches : (k : Kind) → kind ≡ k → Touches (λ n. In n (gap_pages k)) s.parcel zeroed
  gap_touches Regular is = filled.touches
  gap_touches Link is = filled.touches
  gap_touches Directory is = subst (λ b. Touches (λ n. In n (gap_pages Directory)) s.parcel b) (sym (no_gap is)) (touches_nothing (λ n. In n (gap_pages Directory)) s.parcel)

  touches_all : Touches (λ n. In n (gap_pages kind ++ index_now)) s.parcel written
  touches_all =
      let P : ℕ → Type 0 = λ n. In n (gap_pages kind ++ index_now) in
      touches_then P s.parcel zeroed written
      (alters_more (λ n. In n (gap_pages kind)) P (bare_files s.parcel) s.parcel zeroed (λ n i. In-left n (gap_pages kind) index_now i) (gap_touches kind refl))
      (alters_more (λ n. In n index_now) P (bare_files zeroed) zeroed written (λ n i. In-right n (gap_pages kind) index_now i) kept.touches)

  gap_own : (k : Kind) (n : ℕ) → In n (gap_pages k) → In n blocks
  gap_own Regular n i = i
  gap_own Link n i = i
  gap_own Directory n i = absurd i

  -- no slot of a file that was made is on a page that is taken
  taken_no_slot : (mf : MadeFile) → In mf s.made → In mf.page taken → ⊥
  taken_no_slot mf i j = (free mf.page j).unchained (slot_chained desk s mf m i)

  gap_no_slot : (k : Kind) (mf : MadeFile) → kind ≡ k → In mf s.made → In mf.page (gap_pages k) → ⊥
  gap_no_slot Regular mf is i j = plain_is_none desk s ino Regular mf m (o ∙ ap Some is) refl i (In-right mf.page index blocks j)
  gap_no_slot Link mf is i j = plain_is_none desk s ino Link mf m (o ∙ ap Some is) refl i (In-right mf.page index blocks j)
  gap_no_slot Directory mf is i j = j

  index_no_slot : (mf : MadeFile) → In mf s.made → In mf.page index_now → ⊥
  index_no_slot mf i j = elim (In-cases mf.page index index_more j) [
    | inl a ↦ index_is_none desk s ino kind mf m o i a
    | inr b ↦ taken_no_slot mf i (in_index mf.page b)
  ]

  pub relaid : IsRelaid desk s ino kind size index_now blocks_now touched written
  relaid = record {
    touches = touches_all;
    own = λ n i. elim (In-cases n (gap_pages kind) index_now i) [
      | inl a ↦ inl (In-right n index blocks (gap_own kind n a))
      | inr b ↦ inr (In-left n index_now blocks_now b)
    ];
    apart = λ mf found i.
        let j = (made_at s ino mf found).0 in
        elim i [
          | inr b ↦ index_no_slot mf j b
          | inl a ↦ elim (In-cases mf.page (gap_pages kind) index_now a) [ inl x ↦ gap_no_slot kind mf refl j x | inr y ↦ index_no_slot mf j y ]
        ];
    says = says;
    index_many = index_many;
    blocks_many = blocks_many;
    once = once;
    from = from;
    small_head = elim (cases_lt 0 (length index_now)) [
      | inl some ↦ (let l = small (get_or index_now 0 0) (In-left (get_or index_now 0 0) index_now blocks_now (get_or-In index_now 0 0 some)) in omega (arith, l))
      | inr none ↦ (let e : get_or index_now 0 0 ≡ 0 = get_or_past index_now 0 0 none in omega (arith, e))
    ];
    small_size = narrow;
    whole_size = fits_kind;
  }

  pub bodied : IsBodied s (grown ino size s) ino size index_now blocks_now written
  unfolding grown
  bodied = search (arith, with_chain-beside, length-map, length-drop)

  -- a page that is no slot's is as it was written
  pub page_after : (n : ℕ) → ((mf : MadeFile) → made_file s ino ≡ Some mf → n ≡ mf.page → ⊥) → page_in (grown ino size s).parcel n ≡ page_in written n
  page_after n none = page_now desk s (grown ino size s) ino kind size index_now blocks_now touched written m o relaid bodied n none

  -- the new blocks are all zero
  pub blank_after : (n : ℕ) → In n blocks_more → page_in (grown ino size s).parcel n ≡ zeros 4096
  blank_after n i =
      page_after n (λ mf found same. taken_no_slot mf (made_at s ino mf found).0 (subst (λ k. In k taken) same (in_blocks n i)))
      ∙ block_stays n (In-right n blocks blocks_more i) ∙ clear n (in_blocks n i)

  pub grows : kind ≡ Directory → GrowsBlank s (grown ino size s) ino (record { index = index_now; blocks = blocks_now }) touched
  grows is = record {
    more = blocks_more;
    are = refl;
    blank = blank_after;
    out = λ n t i. elim (In-cases n (gap_pages kind) index_now t) [
      | inl a ↦ subst (λ k. In n (gap_pages k)) is a
      | inr b ↦ (apart_from index_now blocks_now once).apart n b (In-left n blocks blocks_more i)
    ];
  }

  abbrev pub edit_grown : IsEdit desk s (grown ino size s) ino kind
  edit_grown = edit_relaid desk s (grown ino size s) ino kind size index_now blocks_now touched written m o relaid bodied grows

-- ---- regular files

block_no_slot : (desk : DeskSeen) (s : SessionSeen) (ino size : ℕ) (limits : AreWithinLimits desk.sizes) (m : MayEdit desk s) (spare : AreSpare desk s) (o : IsOpenFile s ino) (le : size_in (body_in s ino) ≤ size)
    (narrow : size < 2 ^ 64) (room : growth (length (chain_in s ino).blocks) (block_count size) ≤ length (spare_pages s)) (mf : MadeFile)
    → In mf s.made → In mf.page (blocks_now desk s ino Regular size limits m spare o le narrow refl room) → ⊥
block_no_slot desk s ino size limits m spare o le narrow room mf i j =
    let taken : List ℕ = take (growth (length (chain_in s ino).blocks) (block_count size)) (spare_pages s) in
    let more : List ℕ = drop (new_index (length (chain_in s ino).blocks) (block_count size)) taken in
    elim (In-cases mf.page (chain_in s ino).blocks more j) [
      | inl a ↦ plain_is_none desk s ino Regular mf m o refl i (In-right mf.page (chain_in s ino).index (chain_in s ino).blocks a)
      | inr b ↦ taken_no_slot desk s ino Regular size limits m spare o le narrow refl room mf i (in_blocks desk s ino Regular size limits m spare o le narrow refl room mf.page b)
    ]

module _ (desk : DeskSeen) (s : SessionSeen) (ino size : ℕ) (limits : AreWithinLimits desk.sizes) (m : MayEdit desk s) (spare : AreSpare desk s) (o : IsOpenFile s ino) (le : size_in (body_in s ino) ≤ size)
    (largest : size ≤ largest_size) (room : growth (length (chain_in s ino).blocks) (block_count size) ≤ length (spare_pages s)) where
  narrow_size : size < 2 ^ 64
  narrow_size = omega (arith, largest)

  -- the bytes of the blocks then
  bytes_grown : take size (flat_map (page_in (grown ino size s).parcel) (blocks_now desk s ino Regular size limits m spare o le narrow_size refl room)) ≡ resized size (bytes_in s ino)
  bytes_grown =
      let c = open_chain desk s ino Regular m o in
      let blocks : List ℕ = (chain_in s ino).blocks in
      let old : ℕ = size_in (body_in s ino) in
      let taken : List ℕ = take (growth (length (chain_in s ino).blocks) (block_count size)) (spare_pages s) in
      let more : List ℕ = drop (new_index (length (chain_in s ino).blocks) (block_count size)) taken in
      let zeroed : Parcel = put_bytes (chain_in s ino).blocks (size_in (body_in s ino)) (zeros (gap (size_in (body_in s ino)) size)) s.parcel in
      let xs : List ℕ = flat_map (page_in s.parcel) (chain_in s ino).blocks in
      let f = filled desk s ino Regular size limits m spare o le narrow_size refl room in
      let len : length xs ≡ 4096 * length blocks = length-blocks desk s ino Regular m o in
      let many : length xs ≡ 4096 * block_count old = len ∙ ap (λ n. 4096 * n) (sym c.count) in
      ap (take size)
      (flat_map-same (page_in (grown ino size s).parcel) (page_in zeroed) (blocks ++ more)
      (λ n i. page_after desk s ino Regular size limits m spare o le narrow_size refl room n
      (λ mf found same. block_no_slot desk s ino size limits m spare o le narrow_size room mf (made_at s ino mf found).0 (subst (λ k. In k (blocks ++ more)) same i))
      ∙ block_stays desk s ino Regular size limits m spare o le narrow_size refl room n i)
      ∙ flat_map-append (page_in zeroed) blocks more
      ∙ ap (λ l. l ++ flat_map (page_in zeroed) more) f.bytes
      ∙ ap (λ l. with_part old (zeros (gap old size)) xs ++ l) (flat_map-zeros (page_in zeroed) more (λ n i. clear desk s ino Regular size limits m spare o le narrow_size refl room n (in_blocks desk s ino Regular size limits m spare o le narrow_size refl room n i))))
      ∙ resized-grown xs old size (length more) many le
      (let a = c.count in let b = blocks_more_many desk s ino Regular size limits m spare o le narrow_size refl room in let d = no_fewer desk s ino Regular size limits m spare o le narrow_size refl room in omega (arith, a, b, d))

  pub grow_gets : GetsBytes desk s (grown ino size s) ino (resized size (bytes_in s ino))
  grow_gets =
      edit_gets desk s (grown ino size s) ino (resized size (bytes_in s ino)) m o (edit_grown desk s ino Regular size limits m spare o le narrow_size refl room) bytes_grown (sym (length-resized size (bytes_in s ino)))
      (let c = open_chain desk s ino Regular m o in guard_in-sized _ size (body_in s ino) (length-body_of Regular desk.sizes.range (body_in s ino) c.body c.read))
