-- What a write within one slot leaves of a directory's page: the slot, its entry and its body, and the other slots.
use Rattle.trio_session.proofs.Words.{◌&&◌, ◌*◌, ◌++◌, ◌+◌, ◌-◌, ◌<◌, ◌∙◌, ◌≡◌, ◌≢◌, ◌≤◌, EntryPart, List, and_from, and_parts, ap, arith, body_in_slot, cases_lt, entry_fits, every_number, inl, inr, is_name, le-leb, leb, leb-true, length, length-append, length-zeros, lt-ltb, ltb, slice_range, slot_bytes, sym, take, true, w32, with_part, zeros, ℕ}
use Rattle.std.proofs.Common.{take_at, drop_at, take_all}
use Rattle.trio_page.specs.Field.{number_at}
use Rattle.trio_page.proofs.Cursor.{no_front, put_part, whole_front}
use Rattle.trio_page.proofs.Fields.{slice-with_part_above, slice-with_part_below, slice-with_part_same}
use Rattle.trio_page.proofs.Ranges.{number_at-slice, slice-slice}
use Rattle.trio_page.proofs.Zeros.{number32_cleared}
use Rattle.trio_names.proofs.NameFacts.{name_facts}
use Rattle.trio_layout.specs.Slot.{IsEntry, entry_bytes}

-- ---- entries

-- an entry of a number of 32 bits other than 0
pub entry_fits-every : (e : EntryPart) → e.ino ≤ 4294967295 → is_name e.name ≡ true → 0 < e.ino → entry_fits every_number e ≡ true
entry_fits-every e narrow name some =
    and_from (ltb 0 e.ino && leb e.ino every_number) (is_name e.name)
    (and_from (ltb 0 e.ino) (leb e.ino every_number) (lt-ltb 0 e.ino some) (le-leb e.ino every_number narrow)) name

pub length-entry_bytes : (e : EntryPart) → entry_fits every_number e ≡ true → length (entry_bytes e) ≡ 192
unfolding entry_bytes
length-entry_bytes e fits =
    let named = and_parts (ltb 0 e.ino && leb e.ino every_number) (is_name e.name) fits in
    omega (arith, length-append e.name (zeros (184 - length e.name)), length-zeros (184 - length e.name), (name_facts e.name named.1).short)

-- bytes that begin with the spelling of an entry
spelled_entry : (e : EntryPart) (bytes : List ℕ) → entry_fits every_number e ≡ true → take 192 bytes ≡ entry_bytes e → IsEntry every_number bytes e
spelled_entry e bytes fits spelled =
    let named = and_parts (ltb 0 e.ino && leb e.ino every_number) (is_name e.name) fits in
    let both = and_parts (ltb 0 e.ino) (leb e.ino every_number) named.0 in
    let narrow : e.ino ≤ every_number = leb-true e.ino every_number both.1 in
    record { spelled = spelled; narrow = omega (arith, narrow); fits = fits }

-- a front and a body that were written over 256 bytes
pub with_part-with_part : (front body bytes : List ℕ) → length bytes ≡ 256 → length front ≡ 192 → length body ≡ 64
    → with_part 192 body (with_part 0 front bytes) ≡ front ++ body
with_part-with_part front body bytes whole fronts bodies =
    let f1 = put_part front 192 (no_front bytes 256 whole) (omega (arith, fronts)) (omega arith) in
    whole_front (put_part body 256 f1 (omega (arith, bodies)) (omega arith))

-- ---- the bytes of slots

-- a part that is written into one slot of a whole page
pub record IsInSlot (slot at : ℕ) (part page : List ℕ) : Type 0 where
  pub whole : length page ≡ 4096
  pub below : slot < 16
  pub from : 256 * slot ≤ at
  pub to : at + length part ≤ 256 * slot + 256

pub part_fits : (slot at : ℕ) (part page : List ℕ) → IsInSlot slot at part page → at + length part ≤ length page
part_fits slot at part page is = omega (arith, is.whole, is.below, is.to)

-- every other slot stays
pub slot_bytes-with_part_else : (slot at k : ℕ) (part page : List ℕ) → IsInSlot slot at part page → k ≢ slot → slot_bytes k (with_part at part page) ≡ slot_bytes k page
slot_bytes-with_part_else slot at k part page is other =
    let fits = part_fits slot at part page is in
    elim (cases_lt slot k) [
      | inl above ↦ slice-with_part_above at part page (256 * k) (256 * k + 256) fits (omega (arith, above, is.to))
      | inr from ↦
          let below : k < slot = omega (arith, from, other) in
          slice-with_part_below at part page (256 * k) (256 * k + 256) fits (omega (arith, below, is.from))
    ]

-- the front and the body of a slot are ranges of it
pub take-slot_bytes : (slot : ℕ) (page : List ℕ) → take 192 (slot_bytes slot page) ≡ slice_range page (256 * slot) (256 * slot + 192)
take-slot_bytes slot page =
    let start : 256 * slot + 0 ≡ 256 * slot = omega arith in
    slice-slice page (256 * slot) (256 * slot + 256) 0 192 (omega arith) (omega arith) ∙ ap (λ i. slice_range page i (256 * slot + 192)) start

pub slice-slot_bytes : (slot : ℕ) (page : List ℕ) → slice_range (slot_bytes slot page) 192 256 ≡ body_in_slot slot page
slice-slot_bytes slot page = slice-slice page (256 * slot) (256 * slot + 256) 192 256 (omega arith) (omega arith)

-- ---- one slot is filled

filled_bytes : (slot : ℕ) (part page : List ℕ) → length page ≡ 4096 → slot < 16 → length part ≡ 256 → slot_bytes slot (with_part (256 * slot) part page) ≡ part
filled_bytes slot part page whole lt len = slice-with_part_same (256 * slot) part page (256 * slot + 256) (omega (arith, whole, lt, len)) (omega (arith, len))

module _ (e : EntryPart) (body page : List ℕ) (slot : ℕ) (whole : length page ≡ 4096) (lt : slot < 16) (fits : entry_fits every_number e ≡ true) (sized : length body ≡ 64) where
  bytes_filled : slot_bytes slot (with_part (256 * slot) (entry_bytes e ++ body) page) ≡ entry_bytes e ++ body
  bytes_filled = filled_bytes slot (entry_bytes e ++ body) page whole lt (omega (arith, length-append (entry_bytes e) body, length-entry_bytes e fits, sized))

  pub entry-filled : IsEntry every_number (slot_bytes slot (with_part (256 * slot) (entry_bytes e ++ body) page)) e
  entry-filled = spelled_entry e (slot_bytes slot (with_part (256 * slot) (entry_bytes e ++ body) page)) fits
      (ap (take 192) bytes_filled ∙ take_at (entry_bytes e) body 192 (length-entry_bytes e fits))

  pub body_in_slot-filled : body_in_slot slot (with_part (256 * slot) (entry_bytes e ++ body) page) ≡ body
  body_in_slot-filled =
      sym (slice-slot_bytes slot (with_part (256 * slot) (entry_bytes e ++ body) page)) ∙ ap (λ b. slice_range b 192 256) bytes_filled
      ∙ ap (take 64) (drop_at (entry_bytes e) body 192 (length-entry_bytes e fits)) ∙ all_of
    where
      all_of : take 64 body ≡ body
      all_of = take_all 64 body (omega (arith, sized))

-- ---- one slot is cleared

pub number-cleared : (page : List ℕ) (slot : ℕ) → length page ≡ 4096 → slot < 16 → number_at w32 0 (slot_bytes slot (with_part (256 * slot) (zeros 4) page)) ≡ 0
number-cleared page slot whole lt =
    let start : 256 * slot + 0 ≡ 256 * slot = omega arith in
    let page' = with_part (256 * slot) (zeros 4) page in
    number_at-slice w32 0 page' (256 * slot) (256 * slot + 256) (omega arith) ∙ ap (λ i. number_at w32 i page') start
    ∙ number32_cleared (256 * slot) 4 (256 * slot) page (omega (arith, whole, lt)) (omega arith) (omega arith)

pub body_in_slot-cleared : (page : List ℕ) (slot : ℕ) → length page ≡ 4096 → slot < 16 → body_in_slot slot (with_part (256 * slot) (zeros 4) page) ≡ body_in_slot slot page
body_in_slot-cleared page slot whole lt =
    slice-with_part_above (256 * slot) (zeros 4) page (256 * slot + 192) (256 * slot + 256) (omega (arith, whole, lt, length-zeros 4)) (omega (arith, length-zeros 4))

-- ---- the entry in a slot gets another name

module _ (e : EntryPart) (page : List ℕ) (slot : ℕ) (whole : length page ≡ 4096) (lt : slot < 16) (fits : entry_fits every_number e ≡ true) where
  pub entry-retitled : IsEntry every_number (slot_bytes slot (with_part (256 * slot) (entry_bytes e) page)) e
  entry-retitled = spelled_entry e (slot_bytes slot (with_part (256 * slot) (entry_bytes e) page)) fits
      (take-slot_bytes slot (with_part (256 * slot) (entry_bytes e) page)
      ∙ slice-with_part_same (256 * slot) (entry_bytes e) page (256 * slot + 192) (omega (arith, whole, lt, length-entry_bytes e fits)) (omega (arith, length-entry_bytes e fits)))

  pub body_in_slot-retitled : body_in_slot slot (with_part (256 * slot) (entry_bytes e) page) ≡ body_in_slot slot page
  body_in_slot-retitled =
      slice-with_part_above (256 * slot) (entry_bytes e) page (256 * slot + 192) (256 * slot + 256) (omega (arith, whole, lt, length-entry_bytes e fits)) (omega (arith, length-entry_bytes e fits))
