-- Growths, cuts and writes of one file leave the bytes of every page but its own: of directories that other files are, their slots, and of
-- a directory that it stands in, all slots but its body.
use Rattle.trio_session.proofs.Words.{◌%◌, ◌*◌, ◌++◌, ◌+◌, ◌-◌, ◌/◌, ◌<◌, ◌∙◌, ◌∷◌, ◌≡◌, ◌≢◌, ◌≤◌, ◌⊎◌, AreRead, Bool, Chain, Home, In, In-left, In-right, List, None, Parcel, [], ap, arith, block_count, blocks_under, body_in_slot, body_sized, bundle_of, bundle_pages, cases_eq, chain_cut, chain_grown, cond, cut_file, drop, eqb, every_number, false, gap, get_or, get_or-In, grown_file, index_count, inl, inr, length, length-with_number, length-zeros, linked, map, new_index, numbered, page_in, put_blocks, put_bytes, refl, replicate, sheet_numbers, size_in, slots_of, subst, suc, sym, take, take-append-drop, true, unlinked, unnamed, w32, w64, with_block_number, with_body_at, with_number, with_number_in, with_page, written_on, zero, zeros, ℕ}
use Rattle.trio_session.specs.Layout.{InSlot, Leased, with_body}
use Rattle.trio_session.proofs.Lists.{slice_get-In}
use Rattle.trio_session.proofs.Pages.{page_in-with_body, page_in-with_page_else, pages-with_page, sheets_of-with_body}
use Rattle.trio_session.proofs.SlotEdits.{AreRead-body, IsWhole, body-else, edits_body, entry_on, entry_on-body, entry_on-else, map_alike_at, slots_of-body, slots_of-zeros}

-- ---- pages that stay

-- The same pages are in hand, and those that are none of these have the bytes that they had.
pub record Spares (own : List ℕ) (b b' : Parcel) : Type 0 where
  pub hand : bundle_pages (bundle_of b') ≡ bundle_pages (bundle_of b)
  pub pages : (m : ℕ) → (In m own → ⊥) → page_in b' m ≡ page_in b m

pub spares_same : (own : List ℕ) (b : Parcel) → Spares own b b
spares_same own b = record { hand = refl; pages = λ m out. refl }

pub spares_then : (own : List ℕ) (a b c : Parcel) → Spares own a b → Spares own b c → Spares own a c
spares_then own a b c x y = record { hand = y.hand ∙ x.hand; pages = λ m out. y.pages m out ∙ x.pages m out }

pub spares_more : (own more : List ℕ) (b b' : Parcel) → ((n : ℕ) → In n own → In n more) → Spares own b b' → Spares more b b'
spares_more own more b b' are x = record { hand = x.hand; pages = λ m out. x.pages m (λ i. out (are m i)) }

pub spares_page : (own : List ℕ) (n : ℕ) (w : List ℕ) (b : Parcel) → In n own → Spares own b (with_page n w b)
spares_page own n w b i = record {
  hand = pages-with_page n w b;
  pages = λ m out. page_in-with_page_else n m w b (λ same. out (subst (λ k. In k own) (sym same) i));
}

-- ---- parts of edits

pub spares_linked : (own xs : List ℕ) (b : Parcel) → ((n : ℕ) → In n xs → In n own) → Spares own b (linked xs b)
spares_linked own [] b are = spares_same own b
spares_linked own (n ∷ []) b are = spares_same own b
spares_linked own (n ∷ (m ∷ rest)) b are =
    spares_then own b (with_number_in n 4088 m b) (linked (n ∷ (m ∷ rest)) b) (spares_page own n (with_number w64 4088 m (page_in b n)) b (are n (inl refl)))
    (spares_linked own (m ∷ rest) (with_number_in n 4088 m b) (λ x i. are x (inr i)))

pub spares_unlinked : (own xs : List ℕ) (b : Parcel) → ((n : ℕ) → In n xs → In n own) → Spares own b (unlinked xs b)
spares_unlinked own [] b are = spares_same own b
spares_unlinked own (n ∷ rest) b are =
    spares_then own b (with_number_in n 4088 0 b) (unlinked (n ∷ rest) b) (spares_page own n (with_number w64 4088 0 (page_in b n)) b (are n (inl refl)))
    (spares_unlinked own rest (with_number_in n 4088 0 b) (λ x i. are x (inr i)))

pub spares_numbered : (own index : List ℕ) (k : ℕ) (rest : List ℕ) (b : Parcel) → k + length rest ≤ 511 * length index → ((n : ℕ) → In n index → In n own)
    → Spares own b (numbered index k rest b)
spares_numbered own index k [] b le are = spares_same own b
spares_numbered own index k (n ∷ rest) b le are =
    let at = get_or index (k / 511) 0 in
    let i : In at own = are at (get_or-In index (k / 511) 0 (omega arith)) in
    spares_then own b (with_block_number index k n b) (numbered index k (n ∷ rest) b) (spares_page own at (with_number w64 (8 * (k % 511)) n (page_in b at)) b i)
    (spares_numbered own index (suc k) rest (with_block_number index k n b) (omega arith) are)

pub spares_unnamed : (own index : List ℕ) (k more : ℕ) (b : Parcel) → k + more ≤ 511 * length index → ((n : ℕ) → In n index → In n own)
    → Spares own b (unnamed index k more b)
spares_unnamed own index k zero b le are = spares_same own b
spares_unnamed own index k (suc more) b le are =
    let at = get_or index (k / 511) 0 in
    let i : In at own = are at (get_or-In index (k / 511) 0 (omega arith)) in
    spares_then own b (with_block_number index k 0 b) (unnamed index k (suc more) b) (spares_page own at (with_number w64 (8 * (k % 511)) 0 (page_in b at)) b i)
    (spares_unnamed own index (suc k) more (with_block_number index k 0 b) (omega arith) are)

pub spares_put_blocks : (own blocks : List ℕ) (k more at : ℕ) (new : List ℕ) (b : Parcel) → k + more ≤ length blocks → ((n : ℕ) → In n blocks → In n own)
    → Spares own b (put_blocks blocks k more at new b)
spares_put_blocks own blocks k zero at new b le are = spares_same own b
spares_put_blocks own blocks k (suc more) at new b le are =
    let n = get_or blocks k 0 in
    let w = written_on k at new (page_in b n) in
    let i : In n own = are n (get_or-In blocks k 0 (omega arith)) in
    spares_then own b (with_page n w b) (put_blocks blocks k (suc more) at new b) (spares_page own n w b i)
    (spares_put_blocks own blocks (suc k) more at new (with_page n w b) (omega arith) are)

-- the blocks under some bytes are of the file
under_within : (blocks at count : ℕ) → at + count ≤ 4096 * blocks → (b : Bool) → eqb count 0 ≡ b → at / 4096 + cond b 0 (block_count (at + count) - at / 4096) ≤ blocks ⊎ (cond b 0 (block_count (at + count) - at / 4096) ≡ 0)
under_within blocks at count le true e = inr refl
under_within blocks at count le false e = inl (omega (arith, le))

pub spares_put_bytes : (own blocks : List ℕ) (at : ℕ) (new : List ℕ) (b : Parcel) → at + length new ≤ 4096 * length blocks → ((n : ℕ) → In n blocks → In n own)
    → Spares own b (put_bytes blocks at new b)
spares_put_bytes own blocks at new b le are = elim (under_within (length blocks) at (length new) le (eqb (length new) 0) refl) [
  | inl within ↦ spares_put_blocks own blocks (at / 4096) (blocks_under at (length new)) at new b within are
  | inr none ↦ subst (λ k. Spares own b (put_blocks blocks (at / 4096) k at new b)) (sym none) (spares_same own b)
]

-- ---- an edit of one file

-- The file's own pages are written, and its body then.
pub record EditsFile (own : List ℕ) (home : Home) (b b' : Parcel) : Type 0 where
  pub written : Parcel
  pub body : List ℕ
  pub edit : b' ≡ with_body_at home body written
  pub spares : Spares own b written
  pub sized : length body ≡ 64

length-body_sized : (head size : ℕ) (body : List ℕ) → length body ≡ 64 → length (body_sized head size body) ≡ 64
length-body_sized head size body len =
    let one : length (with_number w32 12 head body) ≡ length body = length-with_number w32 12 head body (omega (arith, len)) in
    length-with_number w64 16 size (with_number w32 12 head body) (omega (arith, one, len)) ∙ one ∙ len

-- an element behind the first ones
In-drop : (k n : ℕ) (xs : List ℕ) → In n (drop k xs) → In n xs
In-drop k n xs i = subst (In n) (take-append-drop k xs) (In-right n (take k xs) (drop k xs) i)

pub edits_grown : (home : Home) (chain : Chain) (body : List ℕ) (size : ℕ) (taken : List ℕ) (b : Parcel) → length body ≡ 64
    → length chain.blocks ≡ block_count (size_in body)
    → length chain.blocks + length (drop (new_index (length chain.blocks) (block_count size)) taken) ≤ 511 * length (chain_grown chain (block_count size) taken).index
    → EditsFile ((chain_grown chain (block_count size) taken).index ++ chain.blocks) home b (grown_file home chain body size taken b)
edits_grown home chain body size taken b len full enough =
    let old = size_in body in
    let chain' = chain_grown chain (block_count size) taken in
    let own = chain'.index ++ chain.blocks in
    let zeroed = put_bytes chain.blocks old (zeros (gap old size)) b in
    let links = linked (drop (length chain.index - 1) chain'.index) zeroed in
    let rest = drop (new_index (length chain.blocks) (block_count size)) taken in
    let named = numbered chain'.index (length chain.blocks) rest links in
    let within : old + length (zeros (gap old size)) ≤ 4096 * length chain.blocks = omega (arith, full, length-zeros (gap old size)) in
    let one = spares_put_bytes own chain.blocks old (zeros (gap old size)) b within (λ n i. In-right n chain'.index chain.blocks i) in
    let two = spares_linked own (drop (length chain.index - 1) chain'.index) zeroed (λ n i. In-left n chain'.index chain.blocks (In-drop (length chain.index - 1) n chain'.index i)) in
    let three = spares_numbered own chain'.index (length chain.blocks) rest links enough (λ n i. In-left n chain'.index chain.blocks i) in
    record {
      written = named;
      body = body_sized (get_or chain'.index 0 0) size body;
      edit = refl;
      spares = spares_then own b links named (spares_then own b zeroed links one two) three;
      sized = length-body_sized (get_or chain'.index 0 0) size body len;
    }

-- where the file has whole blocks, these stay too
pub edits_grown_whole : (home : Home) (chain : Chain) (body : List ℕ) (size : ℕ) (taken : List ℕ) (b : Parcel) → length body ≡ 64 → size_in body % 4096 ≡ 0
    → length chain.blocks + length (drop (new_index (length chain.blocks) (block_count size)) taken) ≤ 511 * length (chain_grown chain (block_count size) taken).index
    → EditsFile (chain_grown chain (block_count size) taken).index home b (grown_file home chain body size taken b)
edits_grown_whole home chain body size taken b len whole enough =
    let old = size_in body in
    let chain' = chain_grown chain (block_count size) taken in
    let own = chain'.index in
    let zeroed = put_bytes chain.blocks old (zeros (gap old size)) b in
    let links = linked (drop (length chain.index - 1) chain'.index) zeroed in
    let rest = drop (new_index (length chain.blocks) (block_count size)) taken in
    let named = numbered chain'.index (length chain.blocks) rest links in
    let none : length (zeros (gap old size)) ≡ 0 = omega (arith, whole, length-zeros (gap old size)) in
    let one : Spares own b zeroed = subst (λ k. Spares own b (put_blocks chain.blocks (old / 4096) (cond (eqb k 0) 0 (block_count (old + k) - old / 4096)) old (zeros (gap old size)) b)) (sym none) (spares_same own b) in
    let two = spares_linked own (drop (length chain.index - 1) chain'.index) zeroed (λ n i. In-drop (length chain.index - 1) n chain'.index i) in
    let three = spares_numbered own chain'.index (length chain.blocks) rest links enough (λ n i. i) in
    record {
      written = named;
      body = body_sized (get_or chain'.index 0 0) size body;
      edit = refl;
      spares = spares_then own b links named (spares_then own b zeroed links one two) three;
      sized = length-body_sized (get_or chain'.index 0 0) size body len;
    }

pub edits_cut : (home : Home) (chain : Chain) (body : List ℕ) (size : ℕ) (b : Parcel) → length body ≡ 64 → block_count size ≤ length chain.blocks
    → length chain.blocks ≤ 511 * length chain.index → EditsFile chain.index home b (cut_file home chain body size b)
edits_cut home chain body size b len less enough =
    let c = block_count size in
    let own = chain.index in
    let named = unnamed chain.index c (length chain.blocks - c) b in
    let links = unlinked (drop (index_count c - 1) chain.index) named in
    let one = spares_unnamed own chain.index c (length chain.blocks - c) b (omega (arith, less, enough)) (λ n i. i) in
    let two = spares_unlinked own (drop (index_count c - 1) chain.index) named (λ n i. In-drop (index_count c - 1) n chain.index i) in
    record {
      written = links;
      body = body_sized (get_or (chain_cut chain c).index 0 0) size body;
      edit = refl;
      spares = spares_then own b named links one two;
      sized = length-body_sized (get_or (chain_cut chain c).index 0 0) size body len;
    }

-- ---- what it leaves

-- The body stands with a lease, or in a slot of a whole page that is none of the file's own.
abbrev pub IsHome : Parcel → List ℕ → Home → Type 0
IsHome b own (Leased ino) = Unit {0}
IsHome b own (InSlot page slot) = IsWhole b page × (slot < 16) × (In page own → ⊥)

-- a slot that isn't the body's
abbrev pub IsBeside : Home → ℕ → ℕ → Type 0
IsBeside (Leased ino) n k = Unit {0}
IsBeside (InSlot page slot) n k = n ≡ page → k ≢ slot

-- pages that aren't written are whole still
pub spared_whole : (own : List ℕ) (b b' : Parcel) (n : ℕ) → Spares own b b' → (In n own → ⊥) → IsWhole b n → IsWhole b' n
spared_whole own b b' n x out is = record {
  hand = subst (In n) (sym x.hand) is.hand;
  whole = ap (λ (p : List ℕ). length p) (x.pages n out) ∙ is.whole;
}

-- blocks of another file
pub spared_pages : (own : List ℕ) (b b' : Parcel) (blocks : List ℕ) → Spares own b b' → ((n : ℕ) → In n blocks → In n own → ⊥) → map (page_in b') blocks ≡ map (page_in b) blocks
spared_pages own b b' blocks x apart = map_alike_at (page_in b) (page_in b') blocks (λ j n e. x.pages n (apart n (slice_get-In blocks j n e)))

-- a directory that has none of the file's own pages has its slots
pub slots_of-file : (own : List ℕ) (home : Home) (b b' : Parcel) (blocks : List ℕ) → EditsFile own home b b' → IsHome b own home → ((n : ℕ) → In n blocks → In n own → ⊥)
    → slots_of every_number (map (page_in b') blocks) ≡ slots_of every_number (map (page_in b) blocks)
slots_of-file own (Leased ino) b b' blocks x is apart =
    ap (λ c. slots_of every_number (map (page_in c) blocks)) x.edit
    ∙ ap (slots_of every_number) (map_alike_at (page_in x.written) (page_in (with_body ino x.body x.written)) blocks (λ j n e. page_in-with_body ino n x.body x.written))
    ∙ ap (slots_of every_number) (spared_pages own b x.written blocks x.spares apart)
slots_of-file own (InSlot page slot) b b' blocks x is apart =
    ap (λ c. slots_of every_number (map (page_in c) blocks)) x.edit
    ∙ slots_of-body x.written blocks page slot x.body (spared_whole own b x.written page x.spares is.2 is.0) is.1 x.sized
    ∙ ap (slots_of every_number) (spared_pages own b x.written blocks x.spares apart)

-- and stays in the grammar
pub AreRead-file : (own : List ℕ) (home : Home) (b b' : Parcel) (blocks : List ℕ) → EditsFile own home b b' → IsHome b own home → ((n : ℕ) → In n blocks → In n own → ⊥)
    → AreRead (map (page_in b) blocks) → AreRead (map (page_in b') blocks)
AreRead-file own (Leased ino) b b' blocks x is apart are =
    subst AreRead (sym (ap (λ c. map (page_in c) blocks) x.edit
    ∙ map_alike_at (page_in x.written) (page_in (with_body ino x.body x.written)) blocks (λ j n e. page_in-with_body ino n x.body x.written)
    ∙ spared_pages own b x.written blocks x.spares apart)) are
AreRead-file own (InSlot page slot) b b' blocks x is apart are =
    subst (λ c. AreRead (map (page_in c) blocks)) (sym x.edit)
    (AreRead-body x.written blocks page slot x.body (spared_whole own b x.written page x.spares is.2 is.0) is.1 x.sized
    (subst AreRead (sym (spared_pages own b x.written blocks x.spares apart)) are))

-- each slot of a page that isn't its own has its entry
pub entry_on-file : (own : List ℕ) (home : Home) (b b' : Parcel) (n k : ℕ) → EditsFile own home b b' → IsHome b own home → (In n own → ⊥)
    → entry_on (page_in b' n) k ≡ entry_on (page_in b n) k
entry_on-file own (Leased ino) b b' n k x is out =
    ap (λ c. entry_on (page_in c n) k) x.edit ∙ ap (λ p. entry_on p k) (page_in-with_body ino n x.body x.written ∙ x.spares.pages n out)
entry_on-file own (InSlot page slot) b b' n k x is out =
    let whole = spared_whole own b x.written page x.spares is.2 is.0 in
    let c' = with_body_at (InSlot page slot) x.body x.written in
    let edits = edits_body x.written page slot x.body whole is.1 x.sized in
    ap (λ c. entry_on (page_in c n) k) x.edit
    ∙ elim (cases_eq n page) [
      | inr apart ↦ entry_on-else x.written c' page slot n k edits (λ same. absurd (apart same))
      | inl here ↦ elim (cases_eq k slot) [
        | inr other ↦ entry_on-else x.written c' page slot n k edits (λ same. other)
        | inl it ↦
            ap (λ m. entry_on (page_in c' m) k) here ∙ ap (entry_on (page_in c' page)) it ∙ entry_on-body x.written page slot x.body whole is.1 x.sized
            ∙ ap (entry_on (page_in x.written page)) (sym it) ∙ ap (λ m. entry_on (page_in x.written m) k) (sym here)
      ]
    ]
    ∙ ap (λ p. entry_on p k) (x.spares.pages n out)

-- and its body, but for the file's own
pub body-file : (own : List ℕ) (home : Home) (b b' : Parcel) (n k : ℕ) → EditsFile own home b b' → IsHome b own home → (In n own → ⊥) → IsBeside home n k
    → body_in_slot k (page_in b' n) ≡ body_in_slot k (page_in b n)
body-file own (Leased ino) b b' n k x is out beside =
    ap (λ c. body_in_slot k (page_in c n)) x.edit ∙ ap (body_in_slot k) (page_in-with_body ino n x.body x.written ∙ x.spares.pages n out)
body-file own (InSlot page slot) b b' n k x is out beside =
    let whole = spared_whole own b x.written page x.spares is.2 is.0 in
    ap (λ c. body_in_slot k (page_in c n)) x.edit
    ∙ body-else x.written (with_body_at (InSlot page slot) x.body x.written) page slot n k (edits_body x.written page slot x.body whole is.1 x.sized) beside
    ∙ ap (body_in_slot k) (x.spares.pages n out)

-- a page that is neither its own nor has its body has its bytes
pub page_in-file : (own : List ℕ) (home : Home) (b b' : Parcel) (n : ℕ) → EditsFile own home b b' → (In n own → ⊥) → ((page slot : ℕ) → home ≡ InSlot page slot → n ≢ page)
    → page_in b' n ≡ page_in b n
page_in-file own (Leased ino) b b' n x out beside = ap (λ c. page_in c n) x.edit ∙ page_in-with_body ino n x.body x.written ∙ x.spares.pages n out
page_in-file own (InSlot page slot) b b' n x out beside =
    ap (λ c. page_in c n) x.edit ∙ page_in-with_page_else page n _ x.written (beside page slot refl) ∙ x.spares.pages n out

-- the same pages are in hand
pub hand-file : (own : List ℕ) (home : Home) (b b' : Parcel) → EditsFile own home b b' → bundle_pages (bundle_of b') ≡ bundle_pages (bundle_of b)
hand-file own (Leased ino) b b' x = ap (λ c. bundle_pages (bundle_of c)) x.edit ∙ ap sheet_numbers (sheets_of-with_body ino x.body x.written) ∙ x.spares.hand
hand-file own (InSlot page slot) b b' x = ap (λ c. bundle_pages (bundle_of c)) x.edit ∙ pages-with_page page _ x.written ∙ x.spares.hand

-- ---- a directory grows by a block

-- its slots are those of before, and 16 empty ones behind
pub slots_of-grown : (b b' : Parcel) (blocks : List ℕ) (n : ℕ) → page_in b n ≡ zeros 4096 → ((m : ℕ) → In m (blocks ++ n ∷ []) → page_in b' m ≡ page_in b m)
    → slots_of every_number (map (page_in b') (blocks ++ n ∷ [])) ≡ slots_of every_number (map (page_in b) blocks) ++ replicate 16 None
slots_of-grown b b' blocks n blank same =
    ap (slots_of every_number) (map_alike_at (page_in b) (page_in b') (blocks ++ n ∷ []) (λ j m e. same m (slice_get-In (blocks ++ n ∷ []) j m e))) ∙ slots_of-zeros b blocks n blank
