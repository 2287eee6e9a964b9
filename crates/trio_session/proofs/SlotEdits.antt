-- What an edit of a slot leaves of a directory: its slots, its entries and the bodies in its slots.
use Rattle.trio_session.proofs.Words.{◌&&◌, ◌*◌, ◌++◌, ◌+◌, ◌<◌, ◌∙◌, ◌∷◌, ◌≡◌, ◌≢◌, AreApart, AreRead, Bad, Empty, Entry, EntryPart, In, In-map, IsAt, List, NamesDiffer, None, Option, PagePlace, Parcel, Place, Result, Sheet, SlotRead, Some, [], ap, are_new, arith, body_at, body_in_slot, both, bundle_of, bundle_pages, bundle_sheets, cases_eq, cleared, entry_bytes, entry_fits, entry_in, every_number, false, filled, gathered_below, get_or, get_or_from_slice_get, inl, inr, is_directory_page, is_ok, is_some, length, length-append, length-map, length-zeros, listed_at, map, map-In, map-append, name_in, number_at, option_and_then, option_map, option_map_or, page_in, refl, replicate, retitled, sheet_at, shown_at, slice_get, slice_get-get_or, slice_get-map, slice_get_within, slice_range, slice_set, slot_bytes, slot_entries, slot_file, slot_of, slot_on, slots_of, subst, suc, sym, tabulated, true, with_body_at, with_page, with_part, zero, zeros, zeros_empty, ℕ}
use Rattle.std.specs.Prelude.{Ok, Err}
use Rattle.trio_lists.proofs.Tabulated.{tabulated-get, tabulated-length, tabulated-same}
use Rattle.trio_page.proofs.Fields.{length-with_part}
use Rattle.trio_layout.specs.Entries.{entries_on}
use Rattle.trio_layout.proofs.SlotLemmas.{empty_value, entry_value}
use Rattle.trio_surveys.proofs.Places.{entry_numbered}
use Rattle.trio_surveys.proofs.Slots.{slot_by_front, with_body-body, with_body-front}
use Rattle.trio_auxdir.specs.Slots.{slots_on}
use Rattle.trio_auxdir.proofs.PageSlots.{entry_named, length-slots_on, page_added, slot_block, slot_edited, zero_empty}
use Rattle.trio_session.specs.Layout.{InSlot, with_part_in}
use Rattle.trio_session.specs.declared.laid.FilePlace.TheVariants.{InSlot as FileInSlot}
use Rattle.trio_session.proofs.Lists.{once_at, slice_get-In}
use Rattle.trio_session.proofs.Pages.{page_in-with_page_else, page_in-with_page_same, pages-with_page}
use Rattle.trio_session.proofs.SlotBytes.{IsInSlot, body_in_slot-cleared, body_in_slot-filled, body_in_slot-retitled, entry-filled as entry_filled, entry-retitled as entry_retitled, length-entry_bytes, number-cleared, part_fits, slice-slot_bytes, slot_bytes-with_part_else}
use Rattle.trio_session.proofs.Places.{apart_stays, at-In, body_at-InSlot, number_at-map, number_stays, shown_at-InSlot, still_there}
use Rattle.trio_session.proofs.Stays.{at_number}

-- ---- the pages of blocks

-- the page of a block that is at a place, among the pages of all blocks
pub block_there : (b : Parcel) (blocks : List ℕ) (k : ℕ) (place : PagePlace) (page : List ℕ) → k < length blocks → IsAt b place (get_or blocks k 0)
    → page ≡ page_in b (number_at b place) → slice_get (map (page_in b) blocks) k ≡ Some page
block_there b blocks k place page lt at is =
    slice_get-map (page_in b) blocks k ∙ ap (option_map (page_in b)) (slice_get-get_or blocks k 0 lt)
    ∙ ap (λ n. Some (page_in b n)) (sym (at_number b place (get_or blocks k 0) at)) ∙ ap Some (sym is)

-- a list mapped by two functions that give the same of its elements
pub map_alike_at : {X Y : Type 0} (f g : X → Y) (xs : List X) → ((j : ℕ) (x : X) → slice_get xs j ≡ Some x → g x ≡ f x) → map g xs ≡ map f xs
map_alike_at f g [] same = refl
map_alike_at f g (x ∷ xs) same =
    ap (λ y. y ∷ map g xs) (same zero x refl) ∙ ap (λ ys. f x ∷ ys) (map_alike_at f g xs (λ j y e. same (suc j) y e))

-- and of all but one
map_alike_but : {X Y : Type 0} (f g : X → Y) (xs : List X) (k : ℕ) (x : X) → slice_get xs k ≡ Some x
    → ((j : ℕ) (y : X) → slice_get xs j ≡ Some y → j ≢ k → g y ≡ f y) → map g xs ≡ slice_set (map f xs) k (g x)
map_alike_but f g [] k x e same = absurd (let t : None ≡ Some x = e in cc t)
map_alike_but f g (y ∷ ys) zero x e same =
    let first : y ≡ x = (let t : Some y ≡ Some x = e in cc t) in
    ap (λ z. g z ∷ map g ys) first ∙ ap (λ zs. g x ∷ zs) (map_alike_at f g ys (λ j z i. same (suc j) z i (λ s. absurd (omega (arith, s)))))
map_alike_but f g (y ∷ ys) (suc k) x e same =
    ap (λ z. z ∷ map g ys) (same zero y refl (λ s. absurd (omega (arith, s))))
    ∙ ap (λ zs. f y ∷ zs) (map_alike_but f g ys k x e (λ j z i d. same (suc j) z i (λ s. d (omega (arith, s)))))

-- ---- an edit of one slot

-- a page in hand, whole
pub record IsWhole (b : Parcel) (n : ℕ) : Type 0 where
  pub hand : In n (bundle_pages (bundle_of b))
  pub whole : length (page_in b n) ≡ 4096

-- a page at a place is in hand
pub whole_at : (b : Parcel) (place : PagePlace) (n : ℕ) → IsAt b place n → length (page_in b n) ≡ 4096 → IsWhole b n
whole_at b place n at whole = record {
  hand = subst (λ m. In m (bundle_pages (bundle_of b))) at.number
      (In-map (λ (x : Sheet). x.page) at.sheet (bundle_sheets (bundle_of b)) (at-In b place at.sheet at.there));
  whole = whole;
}

-- All that is in hand is the same, but for one slot of the page of this number; the same pages are in hand, and this one is whole.
pub record EditsSlotIn (b b' : Parcel) (n slot : ℕ) : Type 0 where
  pub below : slot < 16
  pub hand : bundle_pages (bundle_of b') ≡ bundle_pages (bundle_of b)
  pub whole : length (page_in b' n) ≡ 4096
  pub pages : (m : ℕ) → m ≢ n → page_in b' m ≡ page_in b m
  pub others : (k : ℕ) → k ≢ slot → slot_bytes k (page_in b' n) ≡ slot_bytes k (page_in b n)

pub edits_with_part : (b : Parcel) (n slot at : ℕ) (part : List ℕ) → IsWhole b n → IsInSlot slot at part (page_in b n) → EditsSlotIn b (with_part_in n at part b) n slot
edits_with_part b n slot at part is within =
    let w = with_part at part (page_in b n) in
    let here : page_in (with_page n w b) n ≡ w = page_in-with_page_same n w b is.hand in
    record {
      below = within.below;
      hand = pages-with_page n w b;
      whole = ap (λ (p : List ℕ). length p) here ∙ length-with_part at part (page_in b n) (part_fits slot at part (page_in b n) within) ∙ is.whole;
      pages = λ m other. page_in-with_page_else n m w b other;
      others = λ k other. ap (slot_bytes k) here ∙ slot_bytes-with_part_else slot at k part (page_in b n) within other;
    }

pub edits_filled : (b : Parcel) (n slot : ℕ) (e : EntryPart) (body : List ℕ) → IsWhole b n → slot < 16 → entry_fits every_number e ≡ true → length body ≡ 64
    → EditsSlotIn b (filled n slot e body b) n slot
edits_filled b n slot e body is lt fits sized =
    let size : length (entry_bytes e ++ body) ≡ 256 = omega (arith, length-append (entry_bytes e) body, length-entry_bytes e fits, sized) in
    edits_with_part b n slot (256 * slot) (entry_bytes e ++ body) is (record { whole = is.whole; below = lt; from = omega arith; to = omega (arith, size) })

pub edits_cleared : (b : Parcel) (n slot : ℕ) → IsWhole b n → slot < 16 → EditsSlotIn b (cleared n slot b) n slot
edits_cleared b n slot is lt =
    edits_with_part b n slot (256 * slot) (zeros 4) is (record { whole = is.whole; below = lt; from = omega arith; to = omega (arith, length-zeros 4) })

pub edits_retitled : (b : Parcel) (n slot : ℕ) (e : EntryPart) → IsWhole b n → slot < 16 → entry_fits every_number e ≡ true → EditsSlotIn b (retitled n slot e b) n slot
edits_retitled b n slot e is lt fits =
    edits_with_part b n slot (256 * slot) (entry_bytes e) is (record { whole = is.whole; below = lt; from = omega arith; to = omega (arith, length-entry_bytes e fits) })

pub edits_body : (b : Parcel) (n slot : ℕ) (body : List ℕ) → IsWhole b n → slot < 16 → length body ≡ 64 → EditsSlotIn b (with_body_at (InSlot n slot) body b) n slot
edits_body b n slot body is lt sized =
    edits_with_part b n slot (256 * slot + 192) body is (record { whole = is.whole; below = lt; from = omega arith; to = omega (arith, sized) })

-- ---- one slot after an edit

-- the entry in a slot of a page
abbrev pub entry_on : List ℕ → ℕ → Option EntryPart
entry_on page slot = entry_in (slot_of every_number (slot_bytes slot page))

pub entry_on-filled : (b : Parcel) (n slot : ℕ) (e : EntryPart) (body : List ℕ) → IsWhole b n → slot < 16 → entry_fits every_number e ≡ true → length body ≡ 64
    → entry_on (page_in (filled n slot e body b) n) slot ≡ Some e
entry_on-filled b n slot e body is lt fits sized =
    let w = with_part (256 * slot) (entry_bytes e ++ body) (page_in b n) in
    ap (λ p. entry_on p slot) (page_in-with_page_same n w b is.hand)
    ∙ ap entry_in (sym (entry_value every_number (slot_bytes slot w) e (entry_filled e body (page_in b n) slot is.whole lt fits sized)))

pub entry_on-cleared : (b : Parcel) (n slot : ℕ) → IsWhole b n → slot < 16 → entry_on (page_in (cleared n slot b) n) slot ≡ None
entry_on-cleared b n slot is lt =
    let w = with_part (256 * slot) (zeros 4) (page_in b n) in
    ap (λ p. entry_on p slot) (page_in-with_page_same n w b is.hand)
    ∙ ap entry_in (sym (empty_value every_number (slot_bytes slot w) (number-cleared (page_in b n) slot is.whole lt)))

pub entry_on-retitled : (b : Parcel) (n slot : ℕ) (e : EntryPart) → IsWhole b n → slot < 16 → entry_fits every_number e ≡ true
    → entry_on (page_in (retitled n slot e b) n) slot ≡ Some e
entry_on-retitled b n slot e is lt fits =
    let w = with_part (256 * slot) (entry_bytes e) (page_in b n) in
    ap (λ p. entry_on p slot) (page_in-with_page_same n w b is.hand)
    ∙ ap entry_in (sym (entry_value every_number (slot_bytes slot w) e (entry_retitled e (page_in b n) slot is.whole lt fits)))

-- the slot reads the same after its body was written
slot_of-body : (b : Parcel) (n slot : ℕ) (body : List ℕ) → IsWhole b n → slot < 16 → length body ≡ 64
    → slot_of every_number (slot_bytes slot (page_in (with_body_at (InSlot n slot) body b) n)) ≡ slot_of every_number (slot_bytes slot (page_in b n))
slot_of-body b n slot body is lt sized =
    let w = with_part (256 * slot + 192) body (page_in b n) in
    ap (λ p. slot_of every_number (slot_bytes slot p)) (page_in-with_page_same n w b is.hand)
    ∙ slot_by_front every_number (slot_bytes slot w) (slot_bytes slot (page_in b n)) (with_body-front (page_in b n) body slot is.whole lt sized slot)

pub entry_on-body : (b : Parcel) (n slot : ℕ) (body : List ℕ) → IsWhole b n → slot < 16 → length body ≡ 64
    → entry_on (page_in (with_body_at (InSlot n slot) body b) n) slot ≡ entry_on (page_in b n) slot
entry_on-body b n slot body is lt sized = ap entry_in (slot_of-body b n slot body is lt sized)

-- the body in it
pub body-filled : (b : Parcel) (n slot : ℕ) (e : EntryPart) (body : List ℕ) → IsWhole b n → slot < 16 → entry_fits every_number e ≡ true → length body ≡ 64
    → body_in_slot slot (page_in (filled n slot e body b) n) ≡ body
body-filled b n slot e body is lt fits sized =
    ap (body_in_slot slot) (page_in-with_page_same n (with_part (256 * slot) (entry_bytes e ++ body) (page_in b n)) b is.hand)
    ∙ body_in_slot-filled e body (page_in b n) slot is.whole lt fits sized

pub body-cleared : (b : Parcel) (n slot : ℕ) → IsWhole b n → slot < 16 → body_in_slot slot (page_in (cleared n slot b) n) ≡ body_in_slot slot (page_in b n)
body-cleared b n slot is lt =
    ap (body_in_slot slot) (page_in-with_page_same n (with_part (256 * slot) (zeros 4) (page_in b n)) b is.hand) ∙ body_in_slot-cleared (page_in b n) slot is.whole lt

pub body-retitled : (b : Parcel) (n slot : ℕ) (e : EntryPart) → IsWhole b n → slot < 16 → entry_fits every_number e ≡ true
    → body_in_slot slot (page_in (retitled n slot e b) n) ≡ body_in_slot slot (page_in b n)
body-retitled b n slot e is lt fits =
    ap (body_in_slot slot) (page_in-with_page_same n (with_part (256 * slot) (entry_bytes e) (page_in b n)) b is.hand)
    ∙ body_in_slot-retitled e (page_in b n) slot is.whole lt fits

pub body-body : (b : Parcel) (n slot : ℕ) (body : List ℕ) → IsWhole b n → slot < 16 → length body ≡ 64 → body_in_slot slot (page_in (with_body_at (InSlot n slot) body b) n) ≡ body
body-body b n slot body is lt sized =
    ap (body_in_slot slot) (page_in-with_page_same n (with_part (256 * slot + 192) body (page_in b n)) b is.hand) ∙ with_body-body (page_in b n) body slot is.whole lt sized

-- ---- the other slots after an edit

pub slot_bytes-else : (b b' : Parcel) (n slot m k : ℕ) → EditsSlotIn b b' n slot → (m ≡ n → k ≢ slot) → slot_bytes k (page_in b' m) ≡ slot_bytes k (page_in b m)
slot_bytes-else b b' n slot m k edits other = elim (cases_eq m n) [
  | inl same ↦
      ap (λ i. slot_bytes k (page_in b' i)) same ∙ edits.others k (other same) ∙ ap (λ i. slot_bytes k (page_in b i)) (sym same)
  | inr apart ↦ ap (slot_bytes k) (edits.pages m apart)
]

pub entry_on-else : (b b' : Parcel) (n slot m k : ℕ) → EditsSlotIn b b' n slot → (m ≡ n → k ≢ slot) → entry_on (page_in b' m) k ≡ entry_on (page_in b m) k
entry_on-else b b' n slot m k edits other = ap (λ bytes. entry_in (slot_of every_number bytes)) (slot_bytes-else b b' n slot m k edits other)

pub body-else : (b b' : Parcel) (n slot m k : ℕ) → EditsSlotIn b b' n slot → (m ≡ n → k ≢ slot) → body_in_slot k (page_in b' m) ≡ body_in_slot k (page_in b m)
body-else b b' n slot m k edits other =
    sym (slice-slot_bytes k (page_in b' m)) ∙ ap (λ bytes. slice_range bytes 192 256) (slot_bytes-else b b' n slot m k edits other) ∙ slice-slot_bytes k (page_in b m)

-- a whole page stays whole
pub whole-edited : (b b' : Parcel) (n slot m : ℕ) → EditsSlotIn b b' n slot → IsWhole b m → IsWhole b' m
whole-edited b b' n slot m edits is = record {
  hand = subst (In m) (sym edits.hand) is.hand;
  whole = elim (cases_eq m n) [
    | inl same ↦ ap (λ i. length (page_in b' i)) same ∙ edits.whole
    | inr apart ↦ ap (λ (p : List ℕ). length p) (edits.pages m apart) ∙ is.whole
  ];
}

-- ---- the slots of a directory

-- The page of this number is block k of a directory, and none of its blocks stands in it twice.
pub record IsBlockAt (blocks : List ℕ) (k n : ℕ) : Type 0 where
  pub once : are_new [] blocks ≡ true
  pub there : slice_get blocks k ≡ Some n

-- another block has another page
block_apart : (blocks : List ℕ) (k n j m : ℕ) → IsBlockAt blocks k n → slice_get blocks j ≡ Some m → m ≡ n → j ≡ k
block_apart blocks k n j m is e same = once_at (λ i. i) blocks j k m n (ap (are_new []) (map-id blocks) ∙ is.once) e is.there same
  where
    map-id : (xs : List ℕ) → map (λ i. i) xs ≡ xs
    map-id [] = refl
    map-id (x ∷ xs) = ap (λ ys. x ∷ ys) (map-id xs)

-- the pages of the blocks
pub map-edited : (b b' : Parcel) (blocks : List ℕ) (k n slot : ℕ) → EditsSlotIn b b' n slot → IsBlockAt blocks k n
    → map (page_in b') blocks ≡ slice_set (map (page_in b) blocks) k (page_in b' n)
map-edited b b' blocks k n slot edits is =
    map_alike_but (page_in b) (page_in b') blocks k n is.there (λ j m e apart. edits.pages m (λ same. apart (block_apart blocks k n j m is e same)))

pub slots_of-edited : (b b' : Parcel) (blocks : List ℕ) (k n slot : ℕ) → EditsSlotIn b b' n slot → IsBlockAt blocks k n
    → slots_of every_number (map (page_in b') blocks) ≡ slice_set (slots_of every_number (map (page_in b) blocks)) (16 * k + slot) (slot_on every_number (page_in b' n) slot)
slots_of-edited b b' blocks k n slot edits is =
    let pages = map (page_in b) blocks in
    let place : Place = record { block = k; slot = slot } in
    let at : slice_get pages k ≡ Some (page_in b n) = slice_get-map (page_in b) blocks k ∙ ap (option_map (page_in b)) is.there in
    let page : get_or pages k [] ≡ page_in b n = get_or_from_slice_get pages k (page_in b n) [] at in
    ap (slots_of every_number) (map-edited b b' blocks k n slot edits is)
    ∙ slot_edited every_number pages place (page_in b' n) (record {
      block = slice_get_within pages k (page_in b n) at;
      slot = edits.below;
      others = λ i lt other. edits.others i other ∙ ap (slot_bytes i) (sym page);
    })

pub slots_of-filled : (b : Parcel) (blocks : List ℕ) (k n slot : ℕ) (e : EntryPart) (body : List ℕ) → IsWhole b n → IsBlockAt blocks k n → slot < 16
    → entry_fits every_number e ≡ true → length body ≡ 64
    → slots_of every_number (map (page_in (filled n slot e body b)) blocks) ≡ slice_set (slots_of every_number (map (page_in b) blocks)) (16 * k + slot) (Some e.name)
slots_of-filled b blocks k n slot e body whole is lt fits sized =
    let w = with_part (256 * slot) (entry_bytes e ++ body) (page_in b n) in
    slots_of-edited b (filled n slot e body b) blocks k n slot (edits_filled b n slot e body whole lt fits sized) is
    ∙ ap (slice_set (slots_of every_number (map (page_in b) blocks)) (16 * k + slot))
    (ap (λ p. slot_on every_number p slot) (page_in-with_page_same n w b whole.hand)
    ∙ entry_named every_number w slot e (entry_filled e body (page_in b n) slot whole.whole lt fits sized))

pub slots_of-cleared : (b : Parcel) (blocks : List ℕ) (k n slot : ℕ) → IsWhole b n → IsBlockAt blocks k n → slot < 16
    → slots_of every_number (map (page_in (cleared n slot b)) blocks) ≡ slice_set (slots_of every_number (map (page_in b) blocks)) (16 * k + slot) None
slots_of-cleared b blocks k n slot whole is lt =
    let w = with_part (256 * slot) (zeros 4) (page_in b n) in
    slots_of-edited b (cleared n slot b) blocks k n slot (edits_cleared b n slot whole lt) is
    ∙ ap (slice_set (slots_of every_number (map (page_in b) blocks)) (16 * k + slot))
    (ap (λ p. slot_on every_number p slot) (page_in-with_page_same n w b whole.hand) ∙ zero_empty every_number w slot (number-cleared (page_in b n) slot whole.whole lt))

pub slots_of-retitled : (b : Parcel) (blocks : List ℕ) (k n slot : ℕ) (e : EntryPart) → IsWhole b n → IsBlockAt blocks k n → slot < 16 → entry_fits every_number e ≡ true
    → slots_of every_number (map (page_in (retitled n slot e b)) blocks) ≡ slice_set (slots_of every_number (map (page_in b) blocks)) (16 * k + slot) (Some e.name)
slots_of-retitled b blocks k n slot e whole is lt fits =
    let w = with_part (256 * slot) (entry_bytes e) (page_in b n) in
    slots_of-edited b (retitled n slot e b) blocks k n slot (edits_retitled b n slot e whole lt fits) is
    ∙ ap (slice_set (slots_of every_number (map (page_in b) blocks)) (16 * k + slot))
    (ap (λ p. slot_on every_number p slot) (page_in-with_page_same n w b whole.hand)
    ∙ entry_named every_number w slot e (entry_retitled e (page_in b n) slot whole.whole lt fits))

-- an edit of a body changes no slot of any directory
slot_of-body_any : (b : Parcel) (n slot : ℕ) (body : List ℕ) → IsWhole b n → slot < 16 → length body ≡ 64 → (m k : ℕ)
    → slot_of every_number (slot_bytes k (page_in (with_body_at (InSlot n slot) body b) m)) ≡ slot_of every_number (slot_bytes k (page_in b m))
slot_of-body_any b n slot body is lt sized m k =
    let b' = with_body_at (InSlot n slot) body b in
    let edits = edits_body b n slot body is lt sized in
    let slots : ℕ → ℕ → Parcel → SlotRead = λ i j c. slot_of every_number (slot_bytes j (page_in c i)) in
    elim (cases_eq m n) [
      | inr apart ↦ ap (slot_of every_number) (slot_bytes-else b b' n slot m k edits (λ same. absurd (apart same)))
      | inl here ↦ elim (cases_eq k slot) [
        | inr other ↦ ap (slot_of every_number) (slot_bytes-else b b' n slot m k edits (λ same. other))
        | inl it ↦
            ap (λ i. slots i k b') here ∙ ap (λ j. slots n j b') it ∙ slot_of-body b n slot body is lt sized
            ∙ ap (λ j. slots n j b) (sym it) ∙ ap (λ i. slots i k b) (sym here)
      ]
    ]

pub slots_of-body : (b : Parcel) (blocks : List ℕ) (n slot : ℕ) (body : List ℕ) → IsWhole b n → slot < 16 → length body ≡ 64
    → slots_of every_number (map (page_in (with_body_at (InSlot n slot) body b)) blocks) ≡ slots_of every_number (map (page_in b) blocks)
unfolding slots_on
slots_of-body b [] n slot body is lt sized = refl
slots_of-body b (m ∷ blocks) n slot body is lt sized =
    let b' = with_body_at (InSlot n slot) body b in
    let more = λ (c : Parcel). slots_of every_number (map (page_in c) blocks) in
    ap (λ ss. ss ++ more b')
    (tabulated-same (slot_on every_number (page_in b' m)) (slot_on every_number (page_in b m)) 16 (λ k. ap name_in (slot_of-body_any b n slot body is lt sized m k)))
    ∙ ap (λ ss. slots_on every_number (page_in b m) ++ ss) (slots_of-body b blocks n slot body is lt sized)

-- pages of which no slot reads otherwise
listed-is_ok : (page slot : ℕ) (body body' : List ℕ) (r : SlotRead) → is_ok (listed_at page slot body' r) ≡ is_ok (listed_at page slot body r)
listed-is_ok page slot body body' Empty = refl
listed-is_ok page slot body body' (Entry e) = refl
listed-is_ok page slot body body' Bad = refl

both-is_ok : {X E : Type 0} (p q : Result (List X) E) → is_ok (both p q) ≡ (is_ok p && is_ok q)
both-is_ok (Err e) q = refl
both-is_ok (Ok xs) (Err e) = refl
both-is_ok (Ok xs) (Ok ys) = refl

gathered-is_ok : {X E : Type 0} (f g : ℕ → Result (List X) E) → ((k : ℕ) → is_ok (g k) ≡ is_ok (f k)) → (n : ℕ) → is_ok (gathered_below g n) ≡ is_ok (gathered_below f n)
gathered-is_ok f g same zero = refl
gathered-is_ok f g same (suc n) =
    both-is_ok (gathered_below g n) (g n) ∙ ap (λ t. t && is_ok (g n)) (gathered-is_ok f g same n) ∙ ap (λ t. is_ok (gathered_below f n) && t) (same n)
    ∙ sym (both-is_ok (gathered_below f n) (f n))

is_directory_page-same : (page page' : List ℕ) → ((k : ℕ) → slot_of every_number (slot_bytes k page') ≡ slot_of every_number (slot_bytes k page))
    → is_directory_page every_number page' ≡ is_directory_page every_number page
unfolding entries_on
is_directory_page-same page page' same = gathered-is_ok (slot_entries every_number 0 page) (slot_entries every_number 0 page') (λ k.
    listed-is_ok 0 k (body_in_slot k page) (body_in_slot k page') (slot_of every_number (slot_bytes k page'))
    ∙ ap (λ r. is_ok (listed_at 0 k (body_in_slot k page) r)) (same k)) 16

-- and a directory that is in the grammar stays so
pub AreRead-body : (b : Parcel) (blocks : List ℕ) (n slot : ℕ) (body : List ℕ) → IsWhole b n → slot < 16 → length body ≡ 64
    → AreRead (map (page_in b) blocks) → AreRead (map (page_in (with_body_at (InSlot n slot) body b)) blocks)
AreRead-body b blocks n slot body is lt sized are =
    let b' = with_body_at (InSlot n slot) body b in
    record {
      each = λ page i.
          let m = map-In (page_in b') page blocks i in
          ap (is_directory_page every_number) m.2
          ∙ is_directory_page-same (page_in b m.0) (page_in b' m.0) (slot_of-body_any b n slot body is lt sized m.0)
          ∙ are.each (page_in b m.0) (In-map (page_in b) m.0 blocks m.1);
      differ = subst NamesDiffer (sym (slots_of-body b blocks n slot body is lt sized)) are.differ;
    }

-- ---- a slot of a directory, by its number

pub get-front : {X : Type 0} (xs ys : List X) (i : ℕ) (x : X) → slice_get xs i ≡ Some x → slice_get (xs ++ ys) i ≡ Some x
get-front [] ys i x e = absurd (let t : None ≡ Some x = e in cc t)
get-front (z ∷ zs) ys zero x e = e
get-front (z ∷ zs) ys (suc i) x e = get-front zs ys i x e

pub get-behind : {X : Type 0} (xs ys : List X) (i : ℕ) → slice_get (xs ++ ys) (length xs + i) ≡ slice_get ys i
get-behind [] ys i = (let e : 0 + i ≡ i = omega arith in ap (slice_get ys) e)
get-behind (x ∷ xs) ys i = (let e : suc (length xs) + i ≡ suc (length xs + i) = omega arith in ap (slice_get (x ∷ (xs ++ ys))) e ∙ get-behind xs ys i)

slice_get-slots_on : (page : List ℕ) (slot : ℕ) → slot < 16 → slice_get (slots_on every_number page) slot ≡ Some (slot_on every_number page slot)
unfolding slots_on
slice_get-slots_on page slot lt =
    let f = slot_on every_number page in
    let len : length (tabulated f 16) ≡ 16 = tabulated-length f 16 in
    slice_get-get_or (tabulated f 16) slot None (omega (arith, len, lt)) ∙ ap Some (tabulated-get f 16 slot None lt)

slice_get-slots_of : (pages : List (List ℕ)) (k slot : ℕ) (page : List ℕ) → slice_get pages k ≡ Some page → slot < 16
    → slice_get (slots_of every_number pages) (16 * k + slot) ≡ Some (slot_on every_number page slot)
slice_get-slots_of [] k slot page e lt = absurd (let t : None ≡ Some page = e in cc t)
slice_get-slots_of (p ∷ pages) zero slot page e lt =
    let same : p ≡ page = (let t : Some p ≡ Some page = e in cc t) in
    let at : 16 * zero + slot ≡ slot = omega arith in
    ap (slice_get (slots_on every_number p ++ slots_of every_number pages)) at
    ∙ get-front (slots_on every_number p) (slots_of every_number pages) slot (slot_on every_number p slot) (slice_get-slots_on p slot lt)
    ∙ ap (λ q. Some (slot_on every_number q slot)) same
slice_get-slots_of (p ∷ pages) (suc k) slot page e lt =
    let at : 16 * suc k + slot ≡ length (slots_on every_number p) + (16 * k + slot) = omega (arith, length-slots_on every_number p) in
    ap (slice_get (slots_on every_number p ++ slots_of every_number pages)) at
    ∙ get-behind (slots_on every_number p) (slots_of every_number pages) (16 * k + slot)
    ∙ slice_get-slots_of pages k slot page e lt

-- a slot that is there stands on a block
pub block_within : (b : Parcel) (blocks : List ℕ) (k slot : ℕ) (x : Option (List ℕ)) → slot < 16
    → slice_get (slots_of every_number (map (page_in b) blocks)) (16 * k + slot) ≡ Some x → k < length blocks
block_within b blocks k slot x lt e =
    let place : Place = record { block = k; slot = slot } in
    let within : k < length (map (page_in b) blocks) = slot_block every_number (map (page_in b) blocks) place x lt e in
    omega (arith, within, length-map blocks (page_in b))

-- what stands there is what the slot of its page has
pub slot_on-slots_of : (b : Parcel) (blocks : List ℕ) (k slot n : ℕ) (x : Option (List ℕ)) → slot < 16 → slice_get blocks k ≡ Some n
    → slice_get (slots_of every_number (map (page_in b) blocks)) (16 * k + slot) ≡ Some x → slot_on every_number (page_in b n) slot ≡ x
slot_on-slots_of b blocks k slot n x lt at e =
    let page : slice_get (map (page_in b) blocks) k ≡ Some (page_in b n) = slice_get-map (page_in b) blocks k ∙ ap (option_map (page_in b)) at in
    let both : Some (slot_on every_number (page_in b n) slot) ≡ Some x = sym (slice_get-slots_of (map (page_in b) blocks) k slot (page_in b n) page lt) ∙ e in
    cc both

-- a slot with a name has an entry, and the entry has the name and a number
pub entry_on-named : (page : List ℕ) (slot : ℕ) (name : List ℕ) → slot_on every_number page slot ≡ Some name
    → (e : EntryPart) × (entry_on page slot ≡ Some e) × (e.name ≡ name) × (0 < e.ino)
entry_on-named page slot name is = by (slot_of every_number (slot_bytes slot page)) refl is
  where
    by : (r : SlotRead) → slot_of every_number (slot_bytes slot page) ≡ r → name_in r ≡ Some name
        → (e : EntryPart) × (entry_on page slot ≡ Some e) × (e.name ≡ name) × (0 < e.ino)
    by Empty e h = absurd (let t : None ≡ Some name = h in cc t)
    by Bad e h = absurd (let t : None ≡ Some name = h in cc t)
    by (Entry x) e h =
        let named : x.name ≡ name = (let t : Some x.name ≡ Some name = h in cc t) in
        (x, ap entry_in e, named, (entry_numbered every_number (slot_bytes slot page) x e).0)

-- the entry in a slot of a block of a directory of these blocks
abbrev pub entry_of : Parcel → List ℕ → ℕ → ℕ → Option EntryPart
entry_of b blocks k slot = option_and_then (λ page. entry_on page slot) (option_map (page_in b) (slice_get blocks k))

pub entry_of-block : (b : Parcel) (blocks : List ℕ) (k n slot : ℕ) → IsBlockAt blocks k n → entry_of b blocks k slot ≡ entry_on (page_in b n) slot
entry_of-block b blocks k n slot is = ap (λ o. option_and_then (λ page. entry_on page slot) (option_map (page_in b) o)) is.there

pub entry_of-else : (b b' : Parcel) (blocks : List ℕ) (k n slot j i : ℕ) → EditsSlotIn b b' n slot → IsBlockAt blocks k n → (j ≡ k → i ≢ slot)
    → entry_of b' blocks j i ≡ entry_of b blocks j i
entry_of-else b b' blocks k n slot j i edits is other = by (slice_get blocks j) refl
  where
    by : (o : Option ℕ) → slice_get blocks j ≡ o → option_and_then (λ page. entry_on page i) (option_map (page_in b') o) ≡ option_and_then (λ page. entry_on page i) (option_map (page_in b) o)
    by None e = refl
    by (Some m) e = entry_on-else b b' n slot m i edits (λ same. other (block_apart blocks k n j m is e same))

-- a page that is none of the blocks changes none of their pages
pub map-page_in_else : (b b' : Parcel) (blocks : List ℕ) (n : ℕ) → ((m : ℕ) → m ≢ n → page_in b' m ≡ page_in b m) → (In n blocks → ⊥)
    → map (page_in b') blocks ≡ map (page_in b) blocks
map-page_in_else b b' blocks n pages out =
    map_alike_at (page_in b) (page_in b') blocks (λ j m e. pages m (λ same. out (subst (λ i. In i blocks) same (slice_get-In blocks j m e))))

-- a block of zeros behind the others
pub slots_of-zeros : (b : Parcel) (blocks : List ℕ) (n : ℕ) → page_in b n ≡ zeros 4096
    → slots_of every_number (map (page_in b) (blocks ++ n ∷ [])) ≡ slots_of every_number (map (page_in b) blocks) ++ replicate 16 None
slots_of-zeros b blocks n blank =
    ap (slots_of every_number) (map-append (page_in b) blocks (n ∷ []))
    ∙ page_added every_number (map (page_in b) blocks) (page_in b n)
    ∙ ap (λ ss. slots_of every_number (map (page_in b) blocks) ++ ss) (ap (slots_on every_number) blank ∙ zeros_empty every_number)

-- ---- the body of a file in a slot

-- the body that was written into a slot of the page at a place
pub body_at-written : (b : Parcel) (page : PagePlace) (slot : ℕ) (body : List ℕ) → AreApart b → is_some (shown_at b (FileInSlot page slot)) ≡ true
    → length (page_in b (number_at b page)) ≡ 4096 → slot < 16 → length body ≡ 64
    → body_at (with_body_at (InSlot (number_at b page) slot) body b) (FileInSlot page slot) ≡ body
body_at-written b page slot body apart there whole lt sized =
    let n = number_at b page in
    let w = with_part (256 * slot + 192) body (page_in b n) in
    let b' = with_page n w b in
    let x = shown_sheet b page slot there in
    let y = still_there b b' page x.0 (number_stays n w b page) x.1 in
    let number : number_at b' page ≡ n = number_at-map b b' page (number_stays n w b page) in
    let at : IsAt b page n = record { sheet = x.0; there = x.1; number = sym (ap (λ o. option_map_or (λ (s : Sheet). s.page) o 0) x.1) } in
    body_at-InSlot b' page slot (apart_stays n w b apart) (ap is_some (shown_at-InSlot b' page slot y.0 y.1))
    ∙ ap (λ m. body_in_slot slot (page_in b' m)) number
    ∙ body-body b n slot body (whole_at b page n at whole) lt sized
  where
    shown_sheet : (b : Parcel) (page : PagePlace) (slot : ℕ) → is_some (shown_at b (FileInSlot page slot)) ≡ true → (x : Sheet) × (sheet_at b page ≡ Some x)
    shown_sheet b page slot h = by (sheet_at b page) refl h
      where
        by : (o : Option Sheet) → sheet_at b page ≡ o → is_some (option_map (λ (x : Sheet). slot_file (body_in_slot slot x.bytes)) o) ≡ true → (x : Sheet) × (sheet_at b page ≡ Some x)
        by None e k = absurd (let t : false ≡ true = k in cc t)
        by (Some x) e k = (x, e)
