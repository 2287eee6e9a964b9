-- Whose pages are whose: no page is of two files, nor an index page of one file a block of another.
use Rattle.trio_session.proofs.Words.{◌++◌, ◌+◌, ◌-◌, ◌<◌, ◌∙◌, ◌∷◌, ◌≡◌, ◌≢◌, ◌≤◌, AreApart, AreNumbered, AreSpread, Block, FilePlace, Files, Fresh, FreshParts, In, In-cases, In-left, In-map, In-right, InSlot, Index, IsAt, IsFile, IsOne, Laid, Leased, LentFile, List, Made, OneFile, PagePlace, Parcel, Shown, Some, WasMade, Written, [], ap, are_new, are_new-beside, are_new-first, arith, cases_lt, chain_at, drop, file_numbers, fresh_places, fresh_sheet, get_or, get_or_from_slice_get, inl, inr, lease_of, length, map, of_made, of_written, page_numbers, refl, slice_get, slice_get-get_or, slice_get_within, subst, suc, sym, true, zero, ℕ}
use Rattle.trio_session.proofs.Chains.{block_kept, block_more, blocks_length, index_kept, index_length, index_more, none_lent}
use Rattle.trio_session.proofs.Lists.{In-slice_get, once_at, slice_get-In}
use Rattle.trio_session.proofs.Places.{fresh_at, map_at}

-- ---- numbers that stand once

-- numbers of which no two are the same
pub are_new-differ : (xs : List ℕ) → ((i j : ℕ) → i < j → j < length xs → get_or xs i 0 ≢ get_or xs j 0) → are_new [] xs ≡ true
are_new-differ [] differ = refl
are_new-differ (n ∷ xs) differ =
    are_new-beside (n ∷ []) [] xs (are_new-differ xs (λ i j lt within. differ (suc i) (suc j) (omega (arith, lt)) (omega (arith, within))))
    (λ m i first. elim first [
      | inr none ↦ none
      | inl same ↦
          let at = In-slice_get m xs i in
          let within : at.0 < length xs = slice_get_within xs at.0 m at.1 in
          differ zero (suc at.0) (omega arith) (omega (arith, within)) (sym same ∙ sym (get_or_from_slice_get xs at.0 m 0 at.1))
    ])

-- of two lists, the second stands once, and has none of the first
pub are_new-parts : (xs ys : List ℕ) → are_new [] (xs ++ ys) ≡ true → (are_new [] ys ≡ true) × ((n : ℕ) → In n xs → In n ys → ⊥)
are_new-parts [] ys new = (new, λ n i j. i)
are_new-parts (x ∷ xs) ys new =
    let first = are_new-first x (xs ++ ys) new in
    let rest = are_new-parts xs ys first.1 in
    (rest.0, λ n i j. elim i [ inl same ↦ first.0 (In-right x xs ys (subst (λ m. In m ys) same j)) | inr k ↦ rest.1 n k j ])

map-same : (xs : List ℕ) → map (λ i. i) xs ≡ xs
map-same [] = refl
map-same (x ∷ xs) = ap (λ ys. x ∷ ys) (map-same xs)

-- ---- the files of a session

-- a written file has the number and the kind of its lease
pub written_number : (fs : Files) (x : OneFile) (at : ℕ) → IsOne fs x → x.file ≡ Leased at
    → (f : LentFile) × (slice_get fs.parcel.writes at ≡ Some f) × (x.ino ≡ f.stands.ino) × (x.kind ≡ f.stands.kind)
written_number fs x at (Written i f l there laid is) e =
    let same : Leased i ≡ Leased at = ap (λ (y : OneFile). y.file) (sym is) ∙ e in
    let i_is : i ≡ at = cc same in
    (f, subst (λ k. slice_get fs.parcel.writes k ≡ Some f) i_is there, ap (λ (y : OneFile). y.ino) is, ap (λ (y : OneFile). y.kind) is)
written_number fs x at (WasMade m i is) e = absurd (let same : InSlot m.page m.slot ≡ Leased at = ap (λ (y : OneFile). y.file) (sym is) ∙ e in cc same)

made_apart : (reads : List Shown) (fs : Files) (at : ℕ) (f : LentFile) (m : Made) → AreNumbered reads fs → slice_get fs.parcel.writes at ≡ Some f → In m (fs.made ++ fs.cleared) → m.ino ≡ f.stands.ino → ⊥
made_apart reads fs at f m are there i same =
    are.new m i (In-left m.ino (file_numbers fs.parcel.writes) (map (λ g. g.ino) reads)
    (subst (λ n. In n (file_numbers fs.parcel.writes)) (sym same) (In-map (λ (g : LentFile). g.stands.ino) f fs.parcel.writes (slice_get-In fs.parcel.writes at f there))))

-- a file is known by its number
pub same_one : (reads : List Shown) (fs : Files) (x y : OneFile) → AreApart fs.parcel → AreNumbered reads fs → IsOne fs x → IsOne fs y → x.ino ≡ y.ino → x ≡ y
same_one reads fs x y apart are (Written i f l there laid is) (Written j g k there' laid' is') same =
    let inos : f.stands.ino ≡ g.stands.ino = sym (ap (λ (z : OneFile). z.ino) is) ∙ same ∙ ap (λ (z : OneFile). z.ino) is' in
    let at : i ≡ j = once_at (λ (h : LentFile). h.stands.ino) fs.parcel.writes i j f g apart.files there there' inos in
    let files : Some f ≡ Some g = sym there ∙ ap (slice_get fs.parcel.writes) at ∙ there' in
    let laids : Some l ≡ Some k = sym laid ∙ ap (slice_get fs.laid) at ∙ laid' in
    let file : f ≡ g = cc files in
    let lay : l ≡ k = cc laids in
    is ∙ ap (λ n. of_written n f l) at ∙ ap (λ h. of_written j h l) file ∙ ap (of_written j g) lay ∙ sym is'
same_one reads fs x y apart are (WasMade m i is) (WasMade w j is') same =
    let inos : m.ino ≡ w.ino = sym (ap (λ (z : OneFile). z.ino) is) ∙ same ∙ ap (λ (z : OneFile). z.ino) is' in
    let all = fs.made ++ fs.cleared in
    let a = In-slice_get m all i in
    let c = In-slice_get w all j in
    let at : a.0 ≡ c.0 = once_at (λ (z : Made). z.ino) all a.0 c.0 m w are.once a.1 c.1 inos in
    let both : Some m ≡ Some w = sym a.1 ∙ ap (slice_get all) at ∙ c.1 in
    let one : m ≡ w = cc both in
    is ∙ ap of_made one ∙ sym is'
same_one reads fs x y apart are (Written i f l there laid is) (WasMade m j is') same =
    absurd (made_apart reads fs i f m are there j (sym (ap (λ (z : OneFile). z.ino) is') ∙ sym same ∙ ap (λ (z : OneFile). z.ino) is))
same_one reads fs x y apart are (WasMade m i is) (Written j g k there' laid' is') same =
    absurd (made_apart reads fs j g m are there' i (sym (ap (λ (z : OneFile). z.ino) is) ∙ same ∙ ap (λ (z : OneFile). z.ino) is'))

-- ---- where a page of a file stands

-- Block k of a file was lent with it, or is an allotted page.
pub data BlockSpot (b : Parcel) (file : FilePlace) (l : Laid) (k n : ℕ) : Type 0 where
  KeptBlock : file ≡ Leased (lease_of file) → IsAt b (Block (lease_of file) k) n → BlockSpot b file l k n
  MoreBlock : (at : ℕ) → l.blocks_kept ≤ k → slice_get l.blocks_more.items (k - l.blocks_kept) ≡ Some at → IsAt b (Fresh at) n → BlockSpot b file l k n

-- and so index page k
data IndexSpot (b : Parcel) (file : FilePlace) (l : Laid) (k n : ℕ) : Type 0 where
  KeptIndex : IsAt b (Index (lease_of file) k) n → IndexSpot b file l k n
  MoreIndex : (at : ℕ) → In at l.index_more.items → IsAt b (Fresh at) n → IndexSpot b file l k n

leased : (b : Parcel) (file : FilePlace) (l : Laid) (k : ℕ) → IsFile b file l → k < l.blocks_kept → file ≡ Leased (lease_of file)
leased b (Leased at) l k is lt = refl
leased b (InSlot page slot) l k is lt = absurd (let none = (none_lent b page slot l is).1 in omega (arith, none, lt))

pub block_spot : (b : Parcel) (file : FilePlace) (l : Laid) (k n : ℕ) → IsFile b file l → slice_get (chain_at b file l).blocks k ≡ Some n → BlockSpot b file l k n
block_spot b file l k n is e =
    let blocks = (chain_at b file l).blocks in
    let number : get_or blocks k 0 ≡ n = get_or_from_slice_get blocks k n 0 e in
    let within : k < length blocks = slice_get_within blocks k n e in
    let len = blocks_length b file l is in
    elim (cases_lt k l.blocks_kept) [
      | inl lt ↦ KeptBlock (leased b file l k is lt) (subst (IsAt b (Block (lease_of file) k)) number (block_kept b file l k is lt))
      | inr ge ↦
          let i = k - l.blocks_kept in
          let at = get_or l.blocks_more.items i 0 in
          let few : i < length l.blocks_more.items = omega (arith, within, len, ge) in
          let there : slice_get l.blocks_more.items i ≡ Some at = slice_get-get_or l.blocks_more.items i 0 few in
          MoreBlock at ge there
          (subst (IsAt b (Fresh at)) number (block_more b file l k at is ge (omega (arith, within, len)) (sym (get_or_from_slice_get l.blocks_more.items i at at there))))
    ]

index_spot : (b : Parcel) (file : FilePlace) (l : Laid) (k n : ℕ) → IsFile b file l → slice_get (chain_at b file l).index k ≡ Some n → IndexSpot b file l k n
index_spot b file l k n is e =
    let index = (chain_at b file l).index in
    let number : get_or index k 0 ≡ n = get_or_from_slice_get index k n 0 e in
    let within : k < length index = slice_get_within index k n e in
    let len = index_length b file l is in
    elim (cases_lt k l.index_kept) [
      | inl lt ↦ KeptIndex (subst (IsAt b (Index (lease_of file) k)) number (index_kept b file l k is lt))
      | inr ge ↦
          let i = k - l.index_kept in
          let at = get_or l.index_more.items i 0 in
          let few : i < length l.index_more.items = omega (arith, within, len, ge) in
          let there : slice_get l.index_more.items i ≡ Some at = slice_get-get_or l.index_more.items i 0 few in
          MoreIndex at (slice_get-In l.index_more.items i at there)
          (subst (IsAt b (Fresh at)) number (index_more b file l k at is ge (omega (arith, within, len)) (sym (get_or_from_slice_get l.index_more.items i at at there))))
    ]

-- a page stands at one place
pub one_place : (b : Parcel) (p q : PagePlace) (n : ℕ) → AreApart b → IsAt b p n → IsAt b q n → p ≡ q
one_place b p q n apart x y = apart.pages p q x.sheet y.sheet x.there y.there (x.number ∙ sym y.number)

-- ---- whose a page is

module _ (placed : ℕ) (reads : List Shown) (fs : Files) (apart : AreApart fs.parcel) (are : AreNumbered reads fs) (spread : AreSpread placed fs) where
  -- two blocks of the same number
  same_block : (x y : OneFile) (i j n : ℕ) → IsOne fs x → IsOne fs y → BlockSpot fs.parcel x.file x.laid i n → BlockSpot fs.parcel y.file y.laid j n → x.ino ≡ y.ino
  same_block x y i j n one other (KeptBlock lx ax) (KeptBlock ly ay) =
      let same : Block (lease_of x.file) i ≡ Block (lease_of y.file) j = one_place fs.parcel (Block (lease_of x.file) i) (Block (lease_of y.file) j) n apart ax ay in
      let lease : lease_of x.file ≡ lease_of y.file = cc same in
      let f = written_number fs x (lease_of x.file) one lx in
      let g = written_number fs y (lease_of y.file) other ly in
      let files : Some f.0 ≡ Some g.0 = sym f.1 ∙ ap (slice_get fs.parcel.writes) lease ∙ g.1 in
      let file : f.0 ≡ g.0 = cc files in
      f.2 ∙ ap (λ (h : LentFile). h.stands.ino) file ∙ sym g.2
  same_block x y i j n one other (KeptBlock lx ax) (MoreBlock at ge there ay) =
      absurd (let same : Block (lease_of x.file) i ≡ Fresh at = one_place fs.parcel (Block (lease_of x.file) i) (Fresh at) n apart ax ay in cc same)
  same_block x y i j n one other (MoreBlock at ge there ax) (KeptBlock ly ay) =
      absurd (let same : Fresh at ≡ Block (lease_of y.file) j = one_place fs.parcel (Fresh at) (Block (lease_of y.file) j) n apart ax ay in cc same)
  same_block x y i j n one other (MoreBlock at ge there ax) (MoreBlock at' ge' there' ay) =
      let same : Fresh at ≡ Fresh at' = one_place fs.parcel (Fresh at) (Fresh at') n apart ax ay in
      let e : at ≡ at' = cc same in
      let mine : In at (fresh_places x.laid) = In-right at x.laid.index_more.items x.laid.blocks_more.items (slice_get-In x.laid.blocks_more.items (i - x.laid.blocks_kept) at there) in
      let its : In at' (fresh_places y.laid) = In-right at' y.laid.index_more.items y.laid.blocks_more.items (slice_get-In y.laid.blocks_more.items (j - y.laid.blocks_kept) at' there') in
      spread.apart x y at one other mine (subst (λ k. In k (fresh_places y.laid)) (sym e) its)

  -- a page is a block of one file alone
  pub blocks_apart : (x y : OneFile) (n : ℕ) → IsOne fs x → IsFile fs.parcel x.file x.laid → IsOne fs y → IsFile fs.parcel y.file y.laid
      → In n (chain_at fs.parcel x.file x.laid).blocks → In n (chain_at fs.parcel y.file y.laid).blocks → x.ino ≡ y.ino
  blocks_apart x y n one file other file' i j =
      let p = In-slice_get n (chain_at fs.parcel x.file x.laid).blocks i in
      let q = In-slice_get n (chain_at fs.parcel y.file y.laid).blocks j in
      same_block x y p.0 q.0 n one other (block_spot fs.parcel x.file x.laid p.0 n file p.1) (block_spot fs.parcel y.file y.laid q.0 n file' q.1)

  -- an index page is no block
  index_not_block : (x y : OneFile) (i j n : ℕ) → IsOne fs x → IsOne fs y → IndexSpot fs.parcel x.file x.laid i n → BlockSpot fs.parcel y.file y.laid j n → ⊥
  index_not_block x y i j n one other (KeptIndex ax) (KeptBlock ly ay) =
      absurd (let same : Index (lease_of x.file) i ≡ Block (lease_of y.file) j = one_place fs.parcel (Index (lease_of x.file) i) (Block (lease_of y.file) j) n apart ax ay in cc same)
  index_not_block x y i j n one other (KeptIndex ax) (MoreBlock at ge there ay) =
      absurd (let same : Index (lease_of x.file) i ≡ Fresh at = one_place fs.parcel (Index (lease_of x.file) i) (Fresh at) n apart ax ay in cc same)
  index_not_block x y i j n one other (MoreIndex at mine ax) (KeptBlock ly ay) =
      absurd (let same : Fresh at ≡ Block (lease_of y.file) j = one_place fs.parcel (Fresh at) (Block (lease_of y.file) j) n apart ax ay in cc same)
  index_not_block x y i j n one other (MoreIndex at mine ax) (MoreBlock at' ge there ay) =
      let same : Fresh at ≡ Fresh at' = one_place fs.parcel (Fresh at) (Fresh at') n apart ax ay in
      let e : at ≡ at' = cc same in
      let block : In at y.laid.blocks_more.items = subst (λ k. In k y.laid.blocks_more.items) (sym e) (slice_get-In y.laid.blocks_more.items (j - y.laid.blocks_kept) at' there) in
      let number : x.ino ≡ y.ino =
      spread.apart x y at one other (In-left at x.laid.index_more.items x.laid.blocks_more.items mine) (In-right at y.laid.index_more.items y.laid.blocks_more.items block) in
      let it : x ≡ y = same_one reads fs x y apart are one other number in
      let here : In at y.laid.index_more.items = subst (λ (z : OneFile). In at z.laid.index_more.items) it mine in
      (are_new-parts y.laid.index_more.items y.laid.blocks_more.items (spread.once y other)).1 at here block

  pub index_apart : (x y : OneFile) (n : ℕ) → IsOne fs x → IsFile fs.parcel x.file x.laid → IsOne fs y → IsFile fs.parcel y.file y.laid
      → In n (chain_at fs.parcel x.file x.laid).index → In n (chain_at fs.parcel y.file y.laid).blocks → ⊥
  index_apart x y n one file other file' i j =
      let p = In-slice_get n (chain_at fs.parcel x.file x.laid).index i in
      let q = In-slice_get n (chain_at fs.parcel y.file y.laid).blocks j in
      index_not_block x y p.0 q.0 n one other (index_spot fs.parcel x.file x.laid p.0 n file p.1) (block_spot fs.parcel y.file y.laid q.0 n file' q.1)

  -- two blocks of one file have two numbers
  once_block : (x : OneFile) (i j n : ℕ) → i < j → IsOne fs x → BlockSpot fs.parcel x.file x.laid i n → BlockSpot fs.parcel x.file x.laid j n → ⊥
  once_block x i j n lt one (KeptBlock lx ax) (KeptBlock ly ay) =
      let same : Block (lease_of x.file) i ≡ Block (lease_of x.file) j = one_place fs.parcel (Block (lease_of x.file) i) (Block (lease_of x.file) j) n apart ax ay in
      let e : i ≡ j = cc same in
      omega (arith, e, lt)
  once_block x i j n lt one (KeptBlock lx ax) (MoreBlock at ge there ay) =
      absurd (let same : Block (lease_of x.file) i ≡ Fresh at = one_place fs.parcel (Block (lease_of x.file) i) (Fresh at) n apart ax ay in cc same)
  once_block x i j n lt one (MoreBlock at ge there ax) (KeptBlock ly ay) =
      absurd (let same : Fresh at ≡ Block (lease_of x.file) j = one_place fs.parcel (Fresh at) (Block (lease_of x.file) j) n apart ax ay in cc same)
  once_block x i j n lt one (MoreBlock at ge there ax) (MoreBlock at' ge' there' ay) =
      let same : Fresh at ≡ Fresh at' = one_place fs.parcel (Fresh at) (Fresh at') n apart ax ay in
      let e : at ≡ at' = cc same in
      let kept = x.laid.blocks_kept in
      let more = x.laid.blocks_more.items in
      let once = (are_new-parts x.laid.index_more.items more (spread.once x one)).0 in
      let number : i - kept ≡ j - kept = once_at (λ k. k) more (i - kept) (j - kept) at at' (ap (are_new []) (map-same more) ∙ once) there there' e in
      omega (arith, number, lt, ge, ge')

  pub blocks_once : (x : OneFile) → IsOne fs x → IsFile fs.parcel x.file x.laid → are_new [] (chain_at fs.parcel x.file x.laid).blocks ≡ true
  blocks_once x one file =
      let blocks = (chain_at fs.parcel x.file x.laid).blocks in
      are_new-differ blocks (λ i j lt within same.
      let first : i < length blocks = omega (arith, lt, within) in
      let n = get_or blocks j 0 in
      let at : slice_get blocks i ≡ Some n = slice_get-get_or blocks i 0 first ∙ ap Some same in
      once_block x i j n lt one (block_spot fs.parcel x.file x.laid i n file at) (block_spot fs.parcel x.file x.laid j n file (slice_get-get_or blocks j 0 within)))

  -- ---- pages that aren't put in place

  -- the place of such a page
  pub spare_at : (n : ℕ) → In n (drop placed (page_numbers fs.parcel.pages)) → (at : ℕ) × (placed ≤ at) × IsAt fs.parcel (Fresh at) n
  spare_at n i =
      let q = In-slice_get n (drop placed (page_numbers fs.parcel.pages)) i in
      let at : slice_get (page_numbers fs.parcel.pages) (placed + q.0) ≡ Some n = sym (slice_get-drop placed (page_numbers fs.parcel.pages) q.0) ∙ q.1 in
      let p = map_at (λ (p : FreshParts). p.no.0) fs.parcel.pages (placed + q.0) n at in
      (placed + q.0, omega arith, record { sheet = fresh_sheet p.0; there = fresh_at fs.parcel (placed + q.0) p.0 p.1; number = p.2 })
    where
      slice_get-drop : (k : ℕ) (xs : List ℕ) (j : ℕ) → slice_get (drop k xs) j ≡ slice_get xs (k + j)
      slice_get-drop zero xs j = (let e : j ≡ 0 + j = omega arith in ap (slice_get xs) e)
      slice_get-drop (suc k) [] j = refl
      slice_get-drop (suc k) (x ∷ xs) j = (let e : suc k + j ≡ suc (k + j) = omega arith in slice_get-drop k xs j ∙ sym (ap (slice_get (x ∷ xs)) e))

  spare_not_fresh : (y : OneFile) (n at : ℕ) → IsOne fs y → In at (fresh_places y.laid) → IsAt fs.parcel (Fresh at) n → In n (drop placed (page_numbers fs.parcel.pages)) → ⊥
  spare_not_fresh y n at one mine ay i =
      let s = spare_at n i in
      let same : Fresh s.0 ≡ Fresh at = one_place fs.parcel (Fresh s.0) (Fresh at) n apart s.2 ay in
      let e : s.0 ≡ at = cc same in
      let below : at < placed = spread.below y at one mine in
      omega (arith, e, below, s.1)

  spare_not_block : (y : OneFile) (j n : ℕ) → IsOne fs y → BlockSpot fs.parcel y.file y.laid j n → In n (drop placed (page_numbers fs.parcel.pages)) → ⊥
  spare_not_block y j n one (KeptBlock ly ay) i =
      let s = spare_at n i in
      absurd (let same : Fresh s.0 ≡ Block (lease_of y.file) j = one_place fs.parcel (Fresh s.0) (Block (lease_of y.file) j) n apart s.2 ay in cc same)
  spare_not_block y j n one (MoreBlock at ge there ay) i =
      spare_not_fresh y n at one (In-right at y.laid.index_more.items y.laid.blocks_more.items (slice_get-In y.laid.blocks_more.items (j - y.laid.blocks_kept) at there)) ay i

  spare_not_index : (y : OneFile) (j n : ℕ) → IsOne fs y → IndexSpot fs.parcel y.file y.laid j n → In n (drop placed (page_numbers fs.parcel.pages)) → ⊥
  spare_not_index y j n one (KeptIndex ay) i =
      let s = spare_at n i in
      absurd (let same : Fresh s.0 ≡ Index (lease_of y.file) j = one_place fs.parcel (Fresh s.0) (Index (lease_of y.file) j) n apart s.2 ay in cc same)
  spare_not_index y j n one (MoreIndex at mine ay) i =
      spare_not_fresh y n at one (In-left at y.laid.index_more.items y.laid.blocks_more.items mine) ay i

  -- they are pages of no file
  pub spare_apart : (y : OneFile) (n : ℕ) → IsOne fs y → IsFile fs.parcel y.file y.laid → In n (drop placed (page_numbers fs.parcel.pages))
      → In n ((chain_at fs.parcel y.file y.laid).index ++ (chain_at fs.parcel y.file y.laid).blocks) → ⊥
  spare_apart y n one file i j =
      let index = (chain_at fs.parcel y.file y.laid).index in
      let blocks = (chain_at fs.parcel y.file y.laid).blocks in
      elim (In-cases n index blocks j) [
        | inl k ↦ let q = In-slice_get n index k in spare_not_index y q.0 n one (index_spot fs.parcel y.file y.laid q.0 n file q.1) i
        | inr k ↦ let q = In-slice_get n blocks k in spare_not_block y q.0 n one (block_spot fs.parcel y.file y.laid q.0 n file q.1) i
      ]
