-- A body that is written into a slot changes the last 64 bytes of the slot and nothing else of the page.
use Rattle.trio_surveys.proofs.Words.{◌&&◌, ◌*◌, ◌+◌, ◌-◌, ◌<◌, ◌∙◌, ◌≡◌, ◌≤◌, Bad, Empty, Entry, EntryPart, List, SlotRead, ap, arith, body_in_slot, bytes_eq, bytes_eq-Decides, cases_lt, cond, drop, drop-take, entry_at, entry_fits, eqb, false, false_from_ne_true, get_or, inl, inr, length, length-with_part, refl, slot_bytes, sym, take, w32, with_body_in, ℕ}
use Rattle.std.specs.Prelude.{slice_range}
use Rattle.std.specs.Int.{from_le_bytes}
use Rattle.std.proofs.lemmas.List.{take-take, get_or-take, length-take, length-append}
use Rattle.trio_page.specs.Field.{number_at}
use Rattle.trio_page.proofs.Fields.{slice-with_part_same, slice-with_part_below, slice-with_part_above}
use Rattle.trio_page.proofs.Cursor.{length-zeros}
use Rattle.trio_layout.specs.Slot.{slot_of, entry_bytes}

-- the entry part of a slot, as a range of the page
abbrev pub front_in_slot : ℕ → List ℕ → List ℕ
front_in_slot slot bytes = take 192 (slot_bytes slot bytes)

front_is : (s : ℕ) (bytes : List ℕ) → front_in_slot s bytes ≡ slice_range bytes (256 * s) (256 * s + 192)
front_is s bytes =
    let e : 256 * s + 192 - 256 * s ≡ 192 = omega arith in
    take-take 192 (256 * s + 256 - 256 * s) (drop (256 * s) bytes) (omega arith) ∙ ap (λ (n : ℕ). take n (drop (256 * s) bytes)) (sym e)

module _ (bytes body : List ℕ) (t : ℕ) (full : length bytes ≡ 4096) (inside : t < 16) (sized : length body ≡ 64) where
  with_body-fits : 256 * t + 192 + length body ≤ length bytes
  with_body-fits = omega (arith, full, inside, sized)

  pub with_body-length : length (with_body_in t body bytes) ≡ 4096
  with_body-length = length-with_part (256 * t + 192) body bytes with_body-fits ∙ full

  -- the entry part of each slot stays
  pub with_body-front : (s : ℕ) → front_in_slot s (with_body_in t body bytes) ≡ front_in_slot s bytes
  with_body-front s = search (arith, front_is, cases_lt, slice-with_part_above, with_body-fits, slice-with_part_below)

  -- the slot has the body
  pub with_body-body : body_in_slot t (with_body_in t body bytes) ≡ body
  with_body-body = slice-with_part_same (256 * t + 192) body bytes (256 * t + 256) with_body-fits (omega arith)

  -- the body in any other slot stays
  pub with_body-other : (s : ℕ) → (s ≡ t → ⊥) → body_in_slot s (with_body_in t body bytes) ≡ body_in_slot s bytes
  with_body-other s differ = search (arith, cases_lt, slice-with_part_above, with_body-fits, slice-with_part_below)

-- ---- a slot says what its first 192 bytes say

-- what a slot says by its entry, its first 192 bytes and its number
abbrev says_by : ℕ → EntryPart → List ℕ → SlotRead
says_by inodes e front =
    cond (eqb e.ino 0) Empty (cond (bytes_eq front (entry_bytes e) && entry_fits inodes e) (Entry e) Bad)

number_by_front : (part : List ℕ) → number_at w32 0 (take 192 part) ≡ number_at w32 0 part
unfolding number_at
number_by_front part = ap (from_le_bytes w32) (take-take 4 192 part (omega arith))

-- a name whose length says at most 184 is within the first 192 bytes
entry_by_front : (part : List ℕ) → get_or part 5 0 ≤ 184 → entry_at (take 192 part) ≡ entry_at part
entry_by_front part short =
    let n : ℕ = get_or part 5 0 in
    let kind : get_or (take 192 part) 4 0 ≡ get_or part 4 0 = get_or-take 192 part 4 0 (omega arith) in
    let len : get_or (take 192 part) 5 0 ≡ n = get_or-take 192 part 5 0 (omega arith) in
    let a : take (8 + n - 8) (drop 8 (take 192 part)) ≡ take (8 + n - 8) (take 184 (drop 8 part)) = ap (take (8 + n - 8)) (drop-take 8 184 part) in
    let b : take (8 + n - 8) (take 184 (drop 8 part)) ≡ take (8 + n - 8) (drop 8 part) = take-take (8 + n - 8) 184 (drop 8 part) (omega arith) in
    let name : slice_range (take 192 part) 8 (8 + get_or (take 192 part) 5 0) ≡ slice_range part 8 (8 + n) =
    ap (λ (m : ℕ). slice_range (take 192 part) 8 (8 + m)) len ∙ a ∙ b in
    cc (number_by_front part, kind, name)

length-spelled : (e : EntryPart) → length (entry_bytes e) ≡ 8 + (length e.name + (184 - length e.name))
unfolding entry_bytes
length-spelled e = search (arith, length-append, length-zeros)

spelled-length_byte : (e : EntryPart) → get_or (entry_bytes e) 5 0 ≡ length e.name
unfolding entry_bytes
spelled-length_byte e = refl

long_differs : (part : List ℕ) (e : EntryPart) → 184 < get_or part 5 0 → take 192 part ≡ entry_bytes e → ⊥
long_differs part e long same =
    let here : get_or (take 192 part) 5 0 ≡ get_or part 5 0 = get_or-take 192 part 5 0 (omega arith) in
    let named : get_or part 5 0 ≡ length e.name = sym here ∙ ap (λ (l : List ℕ). get_or l 5 0) same ∙ spelled-length_byte e in
    let size : length (take 192 part) ≡ length (entry_bytes e) = ap length same in
    omega (arith, long, named, size, length-take 192 part, length-spelled e)

-- a name whose length says more than 184 is spelled nowhere
long_is_bad : (inodes : ℕ) (part : List ℕ) → 184 < get_or part 5 0 → slot_of inodes part ≡ cond (eqb (number_at w32 0 part) 0) Empty Bad
unfolding slot_of
long_is_bad inodes part long =
    let e : EntryPart = entry_at part in
    let no_entry : bytes_eq (take 192 part) (entry_bytes e) ≡ false =
    false_from_ne_true (bytes_eq (take 192 part) (entry_bytes e)) (λ t. long_differs part e long ((bytes_eq-Decides (take 192 part) (entry_bytes e)).0 t)) in
    ap (λ b. cond (eqb e.ino 0) Empty (cond (b && entry_fits inodes e) (Entry e) Bad)) no_entry

short_same : (inodes : ℕ) (one two : List ℕ) → get_or one 5 0 ≤ 184 → get_or two 5 0 ≤ 184 → take 192 one ≡ take 192 two → slot_of inodes one ≡ slot_of inodes two
unfolding slot_of
short_same inodes one two low low' e = search (arith, entry_by_front)

-- a slot says what its first 192 bytes say
pub slot_by_front : (inodes : ℕ) (one two : List ℕ) → take 192 one ≡ take 192 two → slot_of inodes one ≡ slot_of inodes two
slot_by_front inodes one two e =
    let len : get_or one 5 0 ≡ get_or two 5 0 = sym (get_or-take 192 one 5 0 (omega arith)) ∙ ap (λ (l : List ℕ). get_or l 5 0) e ∙ get_or-take 192 two 5 0 (omega arith) in
    let ino : number_at w32 0 one ≡ number_at w32 0 two = sym (number_by_front one) ∙ ap (number_at w32 0) e ∙ number_by_front two in
    elim (cases_lt 184 (get_or one 5 0)) [
      | inl long ↦
          let long' : 184 < get_or two 5 0 = omega (arith, long, len) in
          long_is_bad inodes one long ∙ ap (λ n. cond (eqb n 0) Empty Bad) ino ∙ sym (long_is_bad inodes two long')
      | inr short ↦ short_same inodes one two short (omega (arith, short, len)) e
    ]
