-- Entries that are spelled are read, and what is read is spelled so.
use Rattle.trio_layout.proofs.Words.{◌&&◌, ◌++◌, ◌+◌, ◌-◌, ◌<◌, ◌==◌, ◌^◌, ◌∙◌, ◌∷◌, ◌≡◌, ◌≤◌, Bad, Bool, Empty, Entry, EntryPart, IsBytes, IsEntry, IsName, Kind, List, SlotRead, Stands, [], after_number, after_part, and_from, and_parts, ap, append_assoc, arith, bytes_eq, cond, drop, entry_at, entry_fits, eqb-true, false, false≢true, follow, get_or, is_name, leb-true, length, length-slice, length-zeros, lt-ltb, ltb-true, nat_le, nat_lt, ne_eqb, no_front, number_at, number_at-lt, number_here, number_is, number_known, part_here, part_is, put_number, put_part, refl, slice_range, subst, sym, take, take-append-drop, to_le_bytes, true, w16, w32, whole_front, wide16, wide32, with_number, with_part, zeros, ℕ}
use Rattle.std.proofs.Common.{◌≢◌}
use Rattle.std.proofs.lemmas.List.{append_cancel_right}
use Rattle.trio_page.proofs.Cursor.{byte_known, byte_is}
use Rattle.trio_names.proofs.NameFacts.{name_facts}
use Rattle.trio_rights.specs.Kind.{kind_byte, kind_from}
use Rattle.trio_rights.proofs.KindFacts.{kind_from-byte}
use Rattle.std.proofs.lemmas.Bool.{le-leb}
use Rattle.trio_layout.specs.Slot.{entry_bytes, slot_of}
use Rattle.trio_layout.specs.inner.Fields.{HasSlotZeros}
use Rattle.trio_layout.proofs.Reading.{bytes_eq-true, true-bytes_eq}

pub is_written : (e : EntryPart) (to : List ℕ) → length to ≡ 192 → length e.name ≤ 184
    → with_part (8 + length e.name) (zeros (184 - length e.name)) (with_part 8 e.name (with_part 4 (kind_byte e.kind ∷ length e.name ∷ 0 ∷ 0 ∷ []) (with_number w32 0 e.ino to))) ≡ entry_bytes e
unfolding entry_bytes
is_written e to len short =
    let f0 = no_front to 192 len in
    let f1 = put_number w32 e.ino 4 f0 refl (omega arith) in
    let f2 = put_part (kind_byte e.kind ∷ length e.name ∷ 0 ∷ 0 ∷ []) 8 f1 refl (omega arith) in
    let f3 = put_part e.name (8 + length e.name) f2 refl (omega arith) in
    let f4 = put_part (zeros (184 - length e.name)) 192 f3 (omega (arith, length-zeros (184 - length e.name))) (omega arith) in
    whole_front f4

-- ---- reading

abbrev pub entry : ℕ → Kind → List ℕ → EntryPart
entry ino kind name = record { ino = ino; kind = kind; name = name }

-- the spelling, grouped to the right, and what follows it
right : ℕ → Kind → List ℕ → List ℕ → List ℕ
right ino kind name rest = to_le_bytes w32 ino ++ ((kind_byte kind ∷ []) ++ ((length name ∷ []) ++ (to_le_bytes w16 0 ++ (name ++ (zeros (184 - length name) ++ rest)))))

regrouped : (e : EntryPart) (rest : List ℕ) → entry_bytes e ++ rest ≡ right e.ino e.kind e.name rest
unfolding entry_bytes right
regrouped e rest = simp append_assoc

-- the parts of the test of an entry
pub record EntryFacts (inodes ino : ℕ) (name : List ℕ) : Type 0 where
  pub some : 0 < ino
  pub within : ino ≤ inodes
  pub name_is : IsName name

pub entry_facts : (inodes ino : ℕ) (name : List ℕ) → (nat_lt 0 ino && nat_le ino inodes && is_name name) ≡ true → EntryFacts inodes ino name
entry_facts inodes ino name fits =
    let p = and_parts (nat_lt 0 ino && nat_le ino inodes) (is_name name) fits in
    let q = and_parts (nat_lt 0 ino) (nat_le ino inodes) p.0 in
    record { some = ltb-true 0 ino q.0; within = leb-true ino inodes q.1; name_is = p.1 }

entry_fits_from : (inodes ino : ℕ) (name : List ℕ) → 0 < ino → ino ≤ inodes → IsName name → (nat_lt 0 ino && nat_le ino inodes && is_name name) ≡ true
entry_fits_from inodes ino name some within is =
    and_from (nat_lt 0 ino && nat_le ino inodes) (is_name name) (and_from (nat_lt 0 ino) (nat_le ino inodes) (lt-ltb 0 ino some) (le-leb ino inodes within)) is

found_right : (bytes : List ℕ) (kind : Kind) (name : List ℕ) → IsBytes bytes → length bytes ≡ 256 → HasSlotZeros bytes → get_or bytes 4 0 ≡ kind_byte kind → name ≡ slice_range bytes 8 (8 + get_or bytes 5 0) → get_or bytes 5 0 ≡ length name → bytes ≡ right (number_at w32 0 bytes) kind name (drop 192 bytes)
unfolding right
found_right bytes kind name small len framed is_kind is_name is_len =
    let n : ℕ = length name in
    let tail : slice_range bytes (8 + n) 192 ≡ zeros (184 - n) = subst (λ (m : ℕ). slice_range bytes (8 + m) 192 ≡ zeros (184 - m)) is_len framed.tail in
    let named : slice_range bytes 8 (8 + n) ≡ name = ap (λ (m : ℕ). slice_range bytes 8 (8 + m)) (sym is_len) ∙ sym is_name in
    let short : n ≤ 184 = omega (arith, framed.len) in
    let P : List ℕ → Type 0 = λ x. Stands (drop 8 bytes) x (drop (8 + n) bytes) in
    let Q : List ℕ → Type 0 = λ x. Stands (drop (8 + n) bytes) x (drop 192 bytes) in
    follow _ (number_here w32 (2 ^ 32) wide32 0 4 bytes small refl (omega arith))
    (follow _ (byte_known 4 5 (kind_byte kind) bytes refl (omega arith) is_kind)
    (follow _ (byte_known 5 6 n bytes refl (omega arith) is_len)
    (follow _ (number_known w16 (2 ^ 16) wide16 6 8 0 bytes small refl (omega arith) framed.gap)
    (follow _ (subst P named (part_here 8 (8 + n) bytes (omega arith)))
    (subst Q tail (part_here (8 + n) 192 bytes (omega arith))).here))))

pub found : (inodes : ℕ) (bytes : List ℕ) (kind : Kind) (name : List ℕ) → IsBytes bytes → length bytes ≡ 256 → HasSlotZeros bytes → number_at w32 0 bytes ≢ 0 → number_at w32 0 bytes ≤ inodes → get_or bytes 4 0 ≡ kind_byte kind → name ≡ slice_range bytes 8 (8 + get_or bytes 5 0) → IsName name → IsEntry inodes bytes (record { ino = number_at w32 0 bytes; kind = kind; name = name })
found inodes bytes kind name small len framed some within is_kind is_name name_is =
    let e : EntryPart = record { ino = number_at w32 0 bytes; kind = kind; name = name } in
    let is_len : get_or bytes 5 0 ≡ length name = omega (arith, framed.len, ap length is_name, length-slice bytes 8 (8 + get_or bytes 5 0) (omega (arith, framed.len))) in
    let both : take 192 bytes ++ drop 192 bytes ≡ entry_bytes e ++ drop 192 bytes = take-append-drop 192 bytes ∙ found_right bytes kind name small len framed is_kind is_name is_len ∙ sym (regrouped e (drop 192 bytes)) in
    record {
      spelled = append_cancel_right (take 192 bytes) (entry_bytes e) (drop 192 bytes) both;
      narrow = number_at-lt w32 (2 ^ 32) wide32 0 bytes small;
      fits = entry_fits_from inodes (number_at w32 0 bytes) name (omega (arith, some)) within name_is;
    }

-- what reading meets in the bytes of an entry
pub record Meets (inodes : ℕ) (bytes : List ℕ) (e : EntryPart) : Type 0 where
  pub ino : number_at w32 0 bytes ≡ e.ino
  pub kind : get_or bytes 4 0 ≡ kind_byte e.kind
  pub name : slice_range bytes 8 (8 + get_or bytes 5 0) ≡ e.name
  pub some : 0 < e.ino
  pub within : e.ino ≤ inodes
  pub name_is : IsName e.name
  pub framed : HasSlotZeros bytes

pub only : (inodes : ℕ) (bytes : List ℕ) (e : EntryPart) → IsEntry inodes bytes e → Meets inodes bytes e
unfolding right
only inodes bytes e is =
    let rest : List ℕ = drop 192 bytes in
    let n : ℕ = length e.name in
    let facts = entry_facts inodes e.ino e.name is.fits in
    let short : n ≤ 184 = (name_facts e.name facts.name_is).short in
    let e0 : drop 0 bytes ≡ right e.ino e.kind e.name rest = sym (take-append-drop 192 bytes) ∙ ap (λ (x : List ℕ). x ++ rest) is.spelled ∙ regrouped e rest in
    let r4 : List ℕ = (kind_byte e.kind ∷ []) ++ ((n ∷ []) ++ (to_le_bytes w16 0 ++ (e.name ++ (zeros (184 - n) ++ rest)))) in
    let e4 : drop 4 bytes ≡ r4 = after_number w32 0 4 e.ino bytes r4 e0 refl in
    let r5 : List ℕ = (n ∷ []) ++ (to_le_bytes w16 0 ++ (e.name ++ (zeros (184 - n) ++ rest))) in
    let e5 : drop 5 bytes ≡ r5 = after_part 4 5 bytes (kind_byte e.kind ∷ []) r5 e4 refl in
    let r6 : List ℕ = to_le_bytes w16 0 ++ (e.name ++ (zeros (184 - n) ++ rest)) in
    let e6 : drop 6 bytes ≡ r6 = after_part 5 6 bytes (n ∷ []) r6 e5 refl in
    let r8 : List ℕ = e.name ++ (zeros (184 - n) ++ rest) in
    let e8 : drop 8 bytes ≡ r8 = after_number w16 6 8 0 bytes r8 e6 refl in
    let er : drop (8 + n) bytes ≡ zeros (184 - n) ++ rest = after_part 8 (8 + n) bytes e.name (zeros (184 - n) ++ rest) e8 refl in
    let ino : number_at w32 0 bytes ≡ e.ino = number_is w32 (2 ^ 32) wide32 0 e.ino bytes r4 e0 is.narrow in
    let len : get_or bytes 5 0 ≡ n = byte_is 5 n bytes r6 e5 in
    let named : slice_range bytes 8 (8 + n) ≡ e.name = part_is 8 (8 + n) bytes e.name (zeros (184 - n) ++ rest) e8 refl in
    let tail : slice_range bytes (8 + n) 192 ≡ zeros (184 - n) = part_is (8 + n) 192 bytes (zeros (184 - n)) rest er (omega (arith, length-zeros (184 - n))) in
    record {
      ino = ino;
      kind = byte_is 4 (kind_byte e.kind) bytes r5 e4;
      name = ap (λ (m : ℕ). slice_range bytes 8 (8 + m)) len ∙ named;
      some = facts.some;
      within = facts.within;
      name_is = facts.name_is;
      framed = record {
        len = omega arith;
        gap = number_is w16 (2 ^ 16) wide16 6 0 bytes r8 e6 (omega arith);
        tail = subst (λ (m : ℕ). slice_range bytes (8 + m) 192 ≡ zeros (184 - m)) (sym len) tail;
      };
    }

pub found_as : (inodes ino : ℕ) (bytes : List ℕ) (e : EntryPart) (kind : Kind) (name : List ℕ) → IsBytes bytes → length bytes ≡ 256 → HasSlotZeros bytes → ino ≡ number_at w32 0 bytes → ino ≢ 0 → ino ≤ inodes → get_or bytes 4 0 ≡ kind_byte kind → name ≡ slice_range bytes 8 (8 + get_or bytes 5 0) → IsName name → entry ino kind name ≡ e → IsEntry inodes bytes e
found_as inodes ino bytes e kind name small len framed is_ino some within is_kind is_name name_is same =
    let some' : number_at w32 0 bytes ≢ 0 = omega arith in
    subst (IsEntry inodes bytes) (ap (λ (n : ℕ). entry n kind name) (sym is_ino) ∙ same) (found inodes bytes kind name small len framed some' (omega arith) is_kind is_name name_is)

pub same_entry : (ino : ℕ) (kind : Kind) (name : List ℕ) (e : EntryPart) → ino ≡ e.ino → kind ≡ e.kind → name ≡ e.name → entry ino kind name ≡ e
same_entry ino kind name e p q r = rw (p, q, r) refl

-- an entry is what stands at the places of its fields
pub entry_is : (inodes : ℕ) (bytes : List ℕ) (e : EntryPart) → IsEntry inodes bytes e → entry_at bytes ≡ e
entry_is inodes bytes e is =
    let m = only inodes bytes e is in
    same_entry (number_at w32 0 bytes) (kind_from (get_or bytes 4 0)) (slice_range bytes 8 (8 + get_or bytes 5 0)) e m.ino (ap kind_from m.kind ∙ kind_from-byte e.kind) m.name

-- the choice of the definition
chosen : EntryPart → Bool → Bool → Bool → SlotRead
chosen e empty spelled fits = cond empty Empty (cond (spelled && fits) (Entry e) Bad)

reads : (P : EntryPart → Type 0) (x : EntryPart) (empty spelled fits : Bool) (r : SlotRead)
    → (empty ≡ true → r ≡ Empty) → (r ≡ Empty → empty ≡ true)
    → (spelled ≡ true → fits ≡ true → P x)
    → ((y : EntryPart) → P y → (spelled ≡ true) × (fits ≡ true))
    → ((y : EntryPart) → r ≡ Entry y → P y) → ((y : EntryPart) → P y → r ≡ Entry y) → r ≡ chosen x empty spelled fits
unfolding chosen
reads P x true spelled fits r none some is uniquely found only = none refl
reads P x false true true r none some is uniquely found only = only x (is refl refl)
reads P x false true false Bad none some is uniquely found only = refl
reads P x false true false Empty none some is uniquely found only = absurd (false≢true (some refl))
reads P x false true false (Entry y) none some is uniquely found only = absurd (false≢true (uniquely y (found y refl)).1)
reads P x false false fits Bad none some is uniquely found only = refl
reads P x false false fits Empty none some is uniquely found only = absurd (false≢true (some refl))
reads P x false false fits (Entry y) none some is uniquely found only = absurd (false≢true (uniquely y (found y refl)).0)

is_zero : (n : ℕ) → n ≡ 0 → (n == 0) ≡ true
is_zero n e = rw e refl

-- what reading answers is what the slot is
pub is_value : (inodes : ℕ) (bytes : List ℕ) (r : SlotRead) → IsBytes bytes
    → (number_at w32 0 bytes ≡ 0 → r ≡ Empty) → (r ≡ Empty → number_at w32 0 bytes ≡ 0)
    → ((e : EntryPart) → r ≡ Entry e → IsEntry inodes bytes e) → ((e : EntryPart) → IsEntry inodes bytes e → r ≡ Entry e) → r ≡ slot_of inodes bytes
unfolding slot_of chosen
is_value inodes bytes r small none some found' only' =
    let x : EntryPart = entry_at bytes in
    reads (IsEntry inodes bytes) x (x.ino == 0) (bytes_eq (take 192 bytes) (entry_bytes x)) (entry_fits inodes x) r
    (λ e. none (eqb-true x.ino 0 e)) (λ e. is_zero x.ino (some e))
    (λ spelled fits. record { spelled = bytes_eq-true (take 192 bytes) (entry_bytes x) spelled; narrow = number_at-lt w32 (2 ^ 32) wide32 0 bytes small; fits = fits })
    (λ y is. let same = entry_is inodes bytes y is in (
      true-bytes_eq (take 192 bytes) (entry_bytes x) (is.spelled ∙ ap entry_bytes (sym same)),
      ap (entry_fits inodes) same ∙ is.fits,
    ))
    found' only'

-- the three answers, each from what was met
pub empty_value : (inodes : ℕ) (bytes : List ℕ) → number_at w32 0 bytes ≡ 0 → Empty ≡ slot_of inodes bytes
unfolding slot_of
empty_value inodes bytes e = rw e refl

pub entry_value : (inodes : ℕ) (bytes : List ℕ) (e : EntryPart) → IsEntry inodes bytes e → Entry e ≡ slot_of inodes bytes
unfolding slot_of
entry_value inodes bytes e is =
    let same = entry_is inodes bytes e is in
    let spelled : bytes_eq (take 192 bytes) (entry_bytes e) ≡ true = true-bytes_eq (take 192 bytes) (entry_bytes e) is.spelled in
    let some : (e.ino == 0) ≡ false = ne_eqb e.ino 0 (omega (arith, (entry_facts inodes e.ino e.name is.fits).some)) in
    let C : EntryPart → SlotRead = λ x. cond (x.ino == 0) Empty (cond (bytes_eq (take 192 bytes) (entry_bytes x) && entry_fits inodes x) (Entry x) Bad) in
    sym (ap C same ∙ rw (some, spelled, is.fits) refl)

pub bad_value : (inodes : ℕ) (bytes : List ℕ) → IsBytes bytes → number_at w32 0 bytes ≢ 0 → ((e : EntryPart) → IsEntry inodes bytes e → ⊥) → Bad ≡ slot_of inodes bytes
bad_value inodes bytes small some none =
    is_value inodes bytes Bad small (λ e. absurd (some e)) (λ e. absurd cc) (λ e h. absurd cc) (λ e is. absurd (none e is))
