-- The slots of edited pages.
use Rattle.trio_auxdir.proofs.Words.{◌*◌, ◌++◌, ◌+◌, ◌-◌, ◌<◌, ◌∙◌, ◌∷◌, ◌≡◌, ◌≢◌, List, None, Option, [], ap, append-nil, append_assoc, arith, cases_lt, get_or, inl, inr, length, length-append, refl, set, set_at, slice_get_within, slot_bytes, slot_number, slot_of, slot_on, suc, sym, tabulated, zero, ℕ}
use Rattle.std.specs.List.{flat_map}
use Rattle.std.specs.Int.{w32}
use Rattle.std.proofs.lemmas.List.{set-append_left, set-append_right}
use Rattle.trio_page.specs.Field.{number_at, zeros}
use Rattle.trio_page.proofs.Zeros.{number32_zeros, slice-zeros}
use Rattle.trio_lists.proofs.Tabulated.{tabulated-length}
use Rattle.trio_layout.proofs.SlotLemmas.{empty_value, entry_value}
use Rattle.trio_auxdir.specs.Slots.{name_in, slots_on, slots_of}
use Rattle.trio_auxdir.specs.Laws.{SlotHasItsBlock, SlotIsEdited, EntryHasItsName, ZeroIsEmpty, PageIsAdded, ZerosAreEmpty}

abbrev Slot : Type 0
Slot = Option (List ℕ)

-- ---- lists by number

pub tabulated-same_below : {X : Type 0} (f g : ℕ → X) (n : ℕ) → ((k : ℕ) → k < n → g k ≡ f k) → tabulated g n ≡ tabulated f n
tabulated-same_below f g zero same = refl
tabulated-same_below {X} f g (suc n) same =
    ap (λ (x : List X). x ++ g n ∷ []) (tabulated-same_below f g n (λ k lt. same k (omega arith)))
    ∙ ap (λ (x : X). tabulated f n ++ x ∷ []) (same n (omega arith))

pub tabulated-set : {X : Type 0} (f g : ℕ → X) (n s : ℕ) → s < n → ((k : ℕ) → k < n → k ≢ s → g k ≡ f k) → tabulated g n ≡ set (tabulated f n) s (g s)
tabulated-set f g zero s lt same = absurd (omega (arith, lt))
tabulated-set {X} f g (suc n) s lt same =
    elim (cases_lt s n) [
      | inl before ↦
          ap (λ (x : List X). x ++ g n ∷ []) (tabulated-set f g n s before (λ k le ne. same k (omega arith) ne))
          ∙ ap (λ (x : X). set (tabulated f n) s (g s) ++ x ∷ []) (same n (omega arith) (λ e. omega (arith, e, before)))
          ∙ sym (set-append_left (tabulated f n) (f n ∷ []) s (g s) (omega (arith, before, tabulated-length f n)))
      | inr from ↦
          let e : s ≡ n = omega (arith, from, lt) in
          ap (λ (x : List X). x ++ g n ∷ []) (tabulated-same_below f g n (λ k le. same k (omega arith) (λ same'. omega (arith, same', le, from))))
          ∙ sym (set_at (tabulated f n) (f n) [] (g n) n (tabulated-length f n))
          ∙ ap (λ (k : ℕ). set (tabulated f n ++ f n ∷ []) k (g k)) (sym e)
    ]

-- parts of 16, one of which changes in one place
flat_map-set : {X : Type 0} (f : X → List Slot) (xs : List X) (b s : ℕ) (y d : X) (v : Slot) → ((x : X) → length (f x) ≡ 16) → b < length xs → s < 16
    → f y ≡ set (f (get_or xs b d)) s v → flat_map f (set xs b y) ≡ set (flat_map f xs) (16 * b + s) v
flat_map-set f [] b s y d v len lt small e = absurd (omega (arith, lt))
flat_map-set f (x ∷ xs) zero s y d v len lt small e =
    let at : 16 * zero + s ≡ s = omega arith in
    ap (λ (z : List Slot). z ++ flat_map f xs) e ∙ sym (set-append_left (f x) (flat_map f xs) s v (omega (arith, len x, small)))
    ∙ ap (λ (k : ℕ). set (f x ++ flat_map f xs) k v) (sym at)
flat_map-set f (x ∷ xs) (suc b) s y d v len lt small e =
    let at : 16 * suc b + s - 16 ≡ 16 * b + s = omega arith in
    ap (λ (z : List Slot). f x ++ z) (flat_map-set f xs b s y d v len (omega (arith, lt)) small e)
    ∙ ap (λ (k : ℕ). f x ++ set (flat_map f xs) k v) (sym at)
    ∙ sym (set-append_right (f x) (flat_map f xs) 16 (16 * suc b + s) v (len x) (omega arith))

-- ---- slots

pub length-slots_on : (inodes : ℕ) (page : List ℕ) → length (slots_on inodes page) ≡ 16
unfolding slots_on
length-slots_on inodes page = tabulated-length (slot_on inodes page) 16

slots_on-set : (inodes : ℕ) (old page : List ℕ) (s : ℕ) → s < 16 → ((k : ℕ) → k < 16 → k ≢ s → slot_bytes k page ≡ slot_bytes k old)
    → slots_on inodes page ≡ set (slots_on inodes old) s (slot_on inodes page s)
unfolding slots_on
slots_on-set inodes old page s lt same =
    tabulated-set (slot_on inodes old) (slot_on inodes page) 16 s lt (λ k le ne. ap (λ (x : List ℕ). name_in (slot_of inodes x)) (same k le ne))

pub slot_edited : SlotIsEdited
slot_edited inodes pages place page edits =
    flat_map-set (slots_on inodes) pages place.block place.slot page [] (slot_on inodes page place.slot) (length-slots_on inodes) edits.block edits.slot
    (slots_on-set inodes (get_or pages place.block []) page place.slot edits.slot edits.others)

pub entry_named : EntryHasItsName
entry_named inodes page slot e is = ap name_in (sym (entry_value inodes (slot_bytes slot page) e is))

pub zero_empty : ZeroIsEmpty
zero_empty inodes page slot is = ap name_in (sym (empty_value inodes (slot_bytes slot page) is))

pub page_added : PageIsAdded
page_added inodes [] page = append-nil (slots_on inodes page)
page_added inodes (p ∷ pages) page =
    ap (λ (x : List Slot). slots_on inodes p ++ x) (page_added inodes pages page)
    ∙ sym (append_assoc (slots_on inodes p) (slots_of inodes pages) (slots_on inodes page))

pub zeros_empty : ZerosAreEmpty
unfolding slots_on
zeros_empty inodes =
    tabulated-same_below (λ (k : ℕ). None) (slot_on inodes (zeros 4096)) 16
    (λ k lt.
    let size : 256 * k + 256 - 256 * k ≡ 256 = omega arith in
    let bytes : slot_bytes k (zeros 4096) ≡ zeros 256 = slice-zeros 4096 (256 * k) (256 * k + 256) (omega arith) ∙ ap zeros size in
    zero_empty inodes (zeros 4096) k (ap (number_at w32 0) bytes ∙ number32_zeros 0 256 (omega arith)))

pub length-slots_of : (inodes : ℕ) (pages : List (List ℕ)) → length (slots_of inodes pages) ≡ 16 * length pages
length-slots_of inodes [] = refl
length-slots_of inodes (p ∷ pages) =
    omega (arith, length-append (slots_on inodes p) (slots_of inodes pages), length-slots_on inodes p, length-slots_of inodes pages)

pub slot_block : SlotHasItsBlock
slot_block inodes pages place slot lt at =
    omega (arith, slice_get_within (slots_of inodes pages) (slot_number place) slot at, length-slots_of inodes pages, lt)
