-- A row that is spelled is read, and what is read is spelled so.
use Rattle.std.proofs.Common.{◌≡◌, ◌≢◌, ℕ, ◌^◌, ◌<◌, ◌&&◌, Bool, true, false, cond, IfSome, List, [], ◌∷◌, ◌++◌, length, get_or, drop, Option, Some, None, refl, sym, ap, subst, ◌∙◌, arith}
use Rattle.std.specs.Prelude.{slice_range}
use Rattle.std.specs.Int.{w16, w32, to_le_bytes}
use Rattle.std.specs.Str.{bytes_eq}
use Rattle.std.proofs.lemmas.Bool.{false≢true, ltb-true, lt-ltb}
use Rattle.std.proofs.lemmas.Slice.Eq.{bytes_eq-Decides}
use Rattle.std.proofs.lemmas.List.{drop_all, append-nil, take_all}
use Rattle.std.proofs.lemmas.Nat.{from_le_bytes-to_le_bytes_2, from_le_bytes-to_le_bytes_4}
use Rattle.trio_page.specs.Field.{number_at, with_number, with_part, zeros}
use Rattle.trio_page.proofs.Cursor.{IsBytes, wide16, wide32, number_here, number_at-lt, byte_known, part_here, Stands, follow, no_front, put_number, put_part, whole_front, length-zeros}
use Rattle.trio_rights.specs.declared.kind.Kind.{Kind}
use Rattle.trio_rights.proofs.KindFacts.{kind_from-byte}
use Rattle.trio_rights.specs.Kind.{kind_byte, kind_from}
use Rattle.trio_rights.specs.Row.{Row}
use Rattle.trio_tables.specs.declared.row.Row.{Row as RowData}
use Rattle.trio_tables.specs.Row.{as_row, row_at, row_bytes, row_fits, row_spelled, row_with, IsFramedRow, IsNarrowRow, IsRow}

-- ---- writing

live_written : (r : Row) (to : List ℕ) → length to ≡ 32 → with_part 22 (zeros 10) (with_number w16 20 r.slot (with_number w32 16 r.page (with_number w32 12 r.parent (with_number w32 8 r.gid (with_number w32 4 r.uid (with_number w16 2 r.mode.0 (with_part 0 (1 ∷ kind_byte r.kind ∷ []) to))))))) ≡ row_bytes (Some r)
unfolding row_bytes
live_written r to len =
    let f0 = no_front to 32 len in
    let f1 = put_part (1 ∷ kind_byte r.kind ∷ []) 2 f0 refl (omega arith) in
    let f2 = put_number w16 r.mode.0 4 f1 refl (omega arith) in
    let f3 = put_number w32 r.uid 8 f2 refl (omega arith) in
    let f4 = put_number w32 r.gid 12 f3 refl (omega arith) in
    let f5 = put_number w32 r.parent 16 f4 refl (omega arith) in
    let f6 = put_number w32 r.page 20 f5 refl (omega arith) in
    let f7 = put_number w16 r.slot 22 f6 refl (omega arith) in
    let f8 = put_part (zeros 10) 32 f7 (omega (arith, length-zeros 10)) (omega arith) in
    whole_front f8

pub zeros_written : (to : List ℕ) → length to ≡ 32 → with_part 0 (zeros 32) to ≡ row_bytes None
unfolding row_bytes
zeros_written to len = whole_front (put_part (zeros 32) 32 (no_front to 32 len) (omega (arith, length-zeros 32)) (omega arith))

-- the same for the fields that the code has
pub row_written : (r : RowData) (to : List ℕ) → length to ≡ 32 → with_part 22 (zeros 10) (with_number w16 20 r.slot (with_number w32 16 r.page (with_number w32 12 r.parent (with_number w32 8 r.gid (with_number w32 4 r.uid (with_number w16 2 r.mode.0 (with_part 0 (1 ∷ kind_byte r.kind ∷ []) to))))))) ≡ row_bytes (Some (as_row r))
row_written r to len = live_written (as_row r) to len

pub ruleset is_written = (row_written, zeros_written)

-- ---- from the bytes to the spelling

-- the spelling of a live row, grouped to the right
right : Row → List ℕ
right r = (1 ∷ []) ++ ((kind_byte r.kind ∷ []) ++ (to_le_bytes w16 r.mode.0 ++ (to_le_bytes w32 r.uid ++ (to_le_bytes w32 r.gid ++ (to_le_bytes w32 r.parent ++ (to_le_bytes w32 r.page ++ (to_le_bytes w16 r.slot ++ zeros 10)))))))

regrouped : (r : Row) → right r ≡ row_bytes (Some r)
unfolding row_bytes right
regrouped r = refl

spelled_right : (kind : Kind) (bytes : List ℕ) → IsBytes bytes → length bytes ≡ 32 → IsFramedRow bytes → get_or bytes 1 0 ≡ kind_byte kind → bytes ≡ right (row_with kind bytes)
unfolding right
spelled_right kind bytes small len framed is_kind =
    let P : List ℕ → Type 0 = λ x. Stands (drop 22 bytes) x (drop 32 bytes) in
    let end : drop 32 bytes ≡ [] = drop_all 32 bytes (omega arith) in
    let tail : drop 22 bytes ≡ zeros 10 ++ [] = follow [] (subst P framed.tail (part_here 22 32 bytes (omega arith))) end in
    follow _ (byte_known 0 1 1 bytes refl (omega arith) framed.live)
    (follow _ (byte_known 1 2 (kind_byte kind) bytes refl (omega arith) is_kind)
    (follow _ (number_here w16 (2 ^ 16) wide16 2 4 bytes small refl (omega arith))
    (follow _ (number_here w32 (2 ^ 32) wide32 4 8 bytes small refl (omega arith))
    (follow _ (number_here w32 (2 ^ 32) wide32 8 12 bytes small refl (omega arith))
    (follow _ (number_here w32 (2 ^ 32) wide32 12 16 bytes small refl (omega arith))
    (follow _ (number_here w32 (2 ^ 32) wide32 16 20 bytes small refl (omega arith))
    (follow _ (number_here w16 (2 ^ 16) wide16 20 22 bytes small refl (omega arith)) (tail ∙ append-nil (zeros 10)))))))))

narrow_fields : (kind : Kind) (bytes : List ℕ) → IsBytes bytes → IsNarrowRow (row_with kind bytes)
narrow_fields kind bytes small = record {
  mode = number_at-lt w16 (2 ^ 16) wide16 2 bytes small;
  uid = number_at-lt w32 (2 ^ 32) wide32 4 bytes small;
  gid = number_at-lt w32 (2 ^ 32) wide32 8 bytes small;
  parent = number_at-lt w32 (2 ^ 32) wide32 12 bytes small;
  page = number_at-lt w32 (2 ^ 32) wide32 16 bytes small;
}

pub found : (kind : Kind) (bytes : List ℕ) (r : Row) → IsBytes bytes → length bytes ≡ 32 → IsFramedRow bytes → get_or bytes 1 0 ≡ kind_byte kind → r ≡ row_with kind bytes → IsRow bytes (Some r)
found kind bytes r small len framed is_kind same =
    let here : IsRow bytes (Some (row_with kind bytes)) = record {
      spelled = spelled_right kind bytes small len framed is_kind ∙ regrouped (row_with kind bytes);
      narrow = narrow_fields kind bytes small;
      fits = lt-ltb (number_at w16 20 bytes) 16 framed.slot;
    } in
    subst (λ (x : Row). IsRow bytes (Some x)) (sym same) here

pub free_found : (bytes : List ℕ) → bytes ≡ zeros 32 → IsRow bytes None
unfolding row_bytes
free_found bytes e = record { spelled = e; narrow = tt; fits = refl }

-- ---- from the spelling to the bytes

mode_again : (r : Row) → r.mode.0 < 2 ^ 16 → number_at w16 2 (row_bytes (Some r)) ≡ r.mode.0
unfolding number_at row_bytes
mode_again r lt = from_le_bytes-to_le_bytes_2 r.mode.0 lt

uid_again : (r : Row) → r.uid < 2 ^ 32 → number_at w32 4 (row_bytes (Some r)) ≡ r.uid
unfolding number_at row_bytes
uid_again r lt = from_le_bytes-to_le_bytes_4 r.uid lt

gid_again : (r : Row) → r.gid < 2 ^ 32 → number_at w32 8 (row_bytes (Some r)) ≡ r.gid
unfolding number_at row_bytes
gid_again r lt = from_le_bytes-to_le_bytes_4 r.gid lt

parent_again : (r : Row) → r.parent < 2 ^ 32 → number_at w32 12 (row_bytes (Some r)) ≡ r.parent
unfolding number_at row_bytes
parent_again r lt = from_le_bytes-to_le_bytes_4 r.parent lt

page_again : (r : Row) → r.page < 2 ^ 32 → number_at w32 16 (row_bytes (Some r)) ≡ r.page
unfolding number_at row_bytes
page_again r lt = from_le_bytes-to_le_bytes_4 r.page lt

slot_again : (r : Row) → r.slot < 2 ^ 16 → number_at w16 20 (row_bytes (Some r)) ≡ r.slot
unfolding number_at row_bytes
slot_again r lt = from_le_bytes-to_le_bytes_2 r.slot lt

fields_again : (r : Row) → IsNarrowRow r → r.slot < 16 → row_with r.kind (row_bytes (Some r)) ≡ r
fields_again r narrow slot =
    rw (mode_again r narrow.mode, uid_again r narrow.uid, gid_again r narrow.gid, parent_again r narrow.parent, page_again r narrow.page, slot_again r (omega arith)) refl

kind_again : (r : Row) → get_or (row_bytes (Some r)) 1 0 ≡ kind_byte r.kind
unfolding row_bytes
kind_again r = refl

live_again : (r : Row) → get_or (row_bytes (Some r)) 0 0 ≡ 1
unfolding row_bytes
live_again r = refl

tail_again : (r : Row) → slice_range (row_bytes (Some r)) 22 32 ≡ zeros 10
unfolding row_bytes
tail_again r = take_all 10 (zeros 10) (omega (arith, length-zeros 10))

-- what reading meets in the bytes of a live row
pub record Meets (bytes : List ℕ) (r : Row) : Type 0 where
  pub fields : row_with r.kind bytes ≡ r
  pub kind : get_or bytes 1 0 ≡ kind_byte r.kind
  pub framed : IsFramedRow bytes

pub only : (bytes : List ℕ) (r : Row) → IsRow bytes (Some r) → Meets bytes r
only bytes r is =
    let slot : r.slot < 16 = ltb-true r.slot 16 is.fits in
    subst (λ (x : List ℕ). Meets x r) (sym is.spelled) (record {
      fields = fields_again r is.narrow slot;
      kind = kind_again r;
      framed = record { live = live_again r; slot = omega (arith, slot_again r (omega arith)); tail = tail_again r };
    })

zeros_front : get_or (zeros 32) 0 0 ≡ 0
unfolding zeros
zeros_front = refl

-- the bytes of a live row are not all zero
pub not_free : (bytes : List ℕ) (r : Row) → IsRow bytes (Some r) → bytes ≢ zeros 32
not_free bytes r is e = absurd (omega (arith, (only bytes r is).framed.live, zeros_front, ap (λ (x : List ℕ). get_or x 0 0) e))

-- a live row is what stands at the places of its fields
row_at-is : (bytes : List ℕ) (r : Row) → IsRow bytes (Some r) → row_at bytes ≡ r
row_at-is bytes r is =
    let m = only bytes r is in
    ap (λ (k : Kind). row_with k bytes) (ap kind_from m.kind ∙ kind_from-byte r.kind) ∙ m.fields

-- ---- no other row has the bytes

pub free_only : (bytes : List ℕ) → bytes ≡ zeros 32 → (row : Option Row) → IsRow bytes row → Some None ≡ Some row
free_only bytes e None is = refl
free_only bytes e (Some r) is = absurd (not_free bytes r is e)

pub live_only : (bytes : List ℕ) (r : Row) → IsRow bytes (Some r) → (row : Option Row) → IsRow bytes row → Some (Some r) ≡ Some row
unfolding row_bytes
live_only bytes r here None is = absurd (not_free bytes r here is.spelled)
live_only bytes r here (Some q) is = ap (λ (x : Row). Some (Some x)) (sym (row_at-is bytes r here) ∙ row_at-is bytes q is)

pub none_only : (bytes : List ℕ) → bytes ≢ zeros 32 → ((r : Row) → IsRow bytes (Some r) → ⊥) → (row : Option Row) → IsRow bytes row → None ≡ Some row
unfolding row_bytes
none_only bytes some outside None is = absurd (some is.spelled)
none_only bytes some outside (Some r) is = absurd (outside r is)

-- ---- the value of a reading

bytes_eq-true : (xs ys : List ℕ) → bytes_eq xs ys ≡ true → xs ≡ ys
bytes_eq-true xs ys e = (bytes_eq-Decides xs ys).0 e

true-bytes_eq : (xs ys : List ℕ) → xs ≡ ys → bytes_eq xs ys ≡ true
true-bytes_eq xs ys e = (bytes_eq-Decides xs ys).1 e

-- A reader that finds only what is related, and finds all that is, answers that the bytes are free where the first test holds, else the
-- row where both others hold, and else nothing.
reading : (P : Option Row → Type 0) (x : Row) (free spelled fits : Bool) (r : Option (Option Row))
    → (free ≡ true → P None) → (P None → free ≡ true)
    → (spelled ≡ true → fits ≡ true → P (Some x))
    → ((y : Row) → P (Some y) → (x ≡ y) × (spelled ≡ true) × (fits ≡ true))
    → IfSome r P → ((row : Option Row) → P row → r ≡ Some row) → r ≡ cond free (Some None) (cond (spelled && fits) (Some (Some x)) None)
reading P x true spelled fits r none some is uniquely found only = only None (none refl)
reading P x false true true r none some is uniquely found only = only (Some x) (is refl refl)
reading P x false true false None none some is uniquely found only = refl
reading P x false true false (Some None) none some is uniquely found only = absurd (false≢true (some found))
reading P x false true false (Some (Some y)) none some is uniquely found only = absurd (false≢true (uniquely y found).2)
reading P x false false fits None none some is uniquely found only = refl
reading P x false false fits (Some None) none some is uniquely found only = absurd (false≢true (some found))
reading P x false false fits (Some (Some y)) none some is uniquely found only = absurd (false≢true (uniquely y found).1)

-- what reading answers is the row whose bytes these are
pub is_value : (bytes : List ℕ) (r : Option (Option Row)) → IsBytes bytes
    → IfSome r (λ row. IsRow bytes row) → ((row : Option Row) → IsRow bytes row → r ≡ Some row) → r ≡ row_spelled bytes
unfolding row_spelled
is_value bytes r small found' only' =
    let x : Row = row_at bytes in
    reading (IsRow bytes) x (bytes_eq bytes (row_bytes None)) (bytes_eq bytes (row_bytes (Some x))) (row_fits (Some x)) r
    (λ e. record { spelled = bytes_eq-true bytes (row_bytes None) e; narrow = tt; fits = refl })
    (λ is. true-bytes_eq bytes (row_bytes None) is.spelled)
    (λ spelled fits. record { spelled = bytes_eq-true bytes (row_bytes (Some x)) spelled; narrow = narrow_fields (kind_from (get_or bytes 1 0)) bytes small; fits = fits })
    (λ y is. let same = row_at-is bytes y is in (
      same,
      true-bytes_eq bytes (row_bytes (Some x)) (is.spelled ∙ ap (λ (r : Row). row_bytes (Some r)) (sym same)),
      ap (λ (r : Row). row_fits (Some r)) same ∙ is.fits,
    ))
    found' only'
