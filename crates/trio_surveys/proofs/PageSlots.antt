-- A page is its 16 slots, and a list of pages its pages.
use Rattle.trio_surveys.proofs.Words.{◌*◌, ◌++◌, ◌+◌, ◌-◌, ◌<◌, ◌∙◌, ◌∷◌, ◌≡◌, List, [], ap, arith, body_in_slot, drop, drop-take, length, refl, slice_get, slot_bytes, suc, sym, take, zero, ℕ}
use Rattle.std.proofs.lemmas.List.{take-append-drop, drop-drop}
use Rattle.std.proofs.Math.Seq.{take-add, take-length}
use Rattle.trio_surveys.proofs.Slots.{front_in_slot}
use Rattle.trio_surveys.proofs.Sheets.{Pages}

slot_end : (s : ℕ) (bytes : List ℕ) → drop 192 (slot_bytes s bytes) ≡ body_in_slot s bytes
slot_end s bytes =
    let whole : 256 * s + 256 - 256 * s ≡ 192 + 64 = omega arith in
    let rest : 256 * s + 256 - (256 * s + 192) ≡ 64 = omega arith in
    ap (λ (n : ℕ). drop 192 (take n (drop (256 * s) bytes))) whole
    ∙ drop-take 192 64 (drop (256 * s) bytes)
    ∙ ap (take 64) (drop-drop 192 (256 * s) bytes)
    ∙ ap (λ (n : ℕ). take n (drop (256 * s + 192) bytes)) (sym rest)

-- a slot is its entry part and its body
slot_parts : (s : ℕ) (bytes : List ℕ) → slot_bytes s bytes ≡ front_in_slot s bytes ++ body_in_slot s bytes
slot_parts s bytes =
    sym (take-append-drop 192 (slot_bytes s bytes)) ∙ ap (λ l. front_in_slot s bytes ++ l) (slot_end s bytes)

next_slot : (n : ℕ) (bytes : List ℕ) → take (256 * suc n) bytes ≡ take (256 * n) bytes ++ slot_bytes n bytes
next_slot n bytes =
    let more : 256 * suc n ≡ 256 * n + 256 = omega arith in
    let whole : 256 * n + 256 - 256 * n ≡ 256 = omega arith in
    ap (λ (k : ℕ). take k bytes) more
    ∙ take-add (256 * n) 256 bytes
    ∙ ap (λ (k : ℕ). take (256 * n) bytes ++ take k (drop (256 * n) bytes)) (sym whole)

slots_same : (a b : List ℕ) (n : ℕ) → ((s : ℕ) → s < n → (front_in_slot s a ≡ front_in_slot s b) × (body_in_slot s a ≡ body_in_slot s b)) → take (256 * n) a ≡ take (256 * n) b
slots_same a b zero h = refl
slots_same a b (suc n) h =
    let low : n < suc n = omega arith in
    let up : (s : ℕ) → s < n → s < suc n = λ s l. omega arith in
    let here = h n low in
    let slot : slot_bytes n a ≡ slot_bytes n b =
    slot_parts n a ∙ ap (λ l. l ++ body_in_slot n a) here.0 ∙ ap (λ l. front_in_slot n b ++ l) here.1 ∙ sym (slot_parts n b) in
    next_slot n a
    ∙ ap (λ l. l ++ slot_bytes n a) (slots_same a b n (λ s l. h s (up s l)))
    ∙ ap (λ l. take (256 * n) b ++ l) slot
    ∙ sym (next_slot n b)

-- two pages whose slots are the same are the same
pub page_by_slots : (a b : List ℕ) → length a ≡ 4096 → length b ≡ 4096 → ((s : ℕ) → s < 16 → (front_in_slot s a ≡ front_in_slot s b) × (body_in_slot s a ≡ body_in_slot s b)) → a ≡ b
page_by_slots a b full full' h =
    sym (take-length a)
    ∙ ap (λ (n : ℕ). take n a) full
    ∙ slots_same a b 16 h
    ∙ ap (λ (n : ℕ). take n b) (sym full')
    ∙ take-length b

-- two lists with the same page at each place are the same
pub pages_same : (a b : Pages) → ((n : ℕ) → slice_get a n ≡ slice_get b n) → a ≡ b
pages_same [] [] h = refl
pages_same [] (y ∷ ys) h = (let e = h zero in absurd cc)
pages_same (x ∷ xs) [] h = (let e = h zero in absurd cc)
pages_same (x ∷ xs) (y ∷ ys) h =
    let e = h zero in
    let first : x ≡ y = cc e in
    ap (λ z. z ∷ xs) first ∙ ap (λ l. y ∷ l) (pages_same xs ys (λ n. h (suc n)))
