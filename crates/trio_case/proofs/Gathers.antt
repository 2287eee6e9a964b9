-- What is gathered of a list, a part at a time, up to the first fault.
use Rattle.trio_case.proofs.Words.{◌*◌, ◌++◌, ◌+◌, ◌-◌, ◌<◌, ◌∙◌, ◌∷◌, ◌≡◌, ◌≤◌, Err, In, List, Listed, Location, Ok, Result, [], ap, append-nil, append_assoc, arith, both, cases_eq, drop, flat_map, gathered, gathered_below, get_or, inl, inr, length, refl, slot_bytes, slot_entries, suc, sym, take, take-append-drop, take_more, take_rest, zero, ℕ}
use Rattle.std.proofs.lemmas.List.{drop-take, drop-drop}
use Rattle.std.proofs.lemmas.List.{take-take}
use Rattle.trio_layout.specs.Slot.{slot_of}
use Rattle.trio_layout.specs.Entries.{listed_at, body_in_slot, entries_on}

both_assoc : {X E : Type 0} (p q r : Result (List X) E) → both (both p q) r ≡ both p (both q r)
both_assoc (Err e) q r = refl
both_assoc (Ok xs) (Err e) r = refl
both_assoc (Ok xs) (Ok ys) (Err e) = refl
both_assoc (Ok xs) (Ok ys) (Ok zs) = ap Ok (append_assoc xs ys zs)

both-nil_left : {X E : Type 0} (q : Result (List X) E) → both (Ok []) q ≡ q
both-nil_left (Err e) = refl
both-nil_left (Ok ys) = refl

both-nil_right : {X E : Type 0} (q : Result (List X) E) → both q (Ok []) ≡ q
both-nil_right (Err e) = refl
both-nil_right (Ok ys) = ap Ok (append-nil ys)

gathered-append : {X Y E : Type 0} (f : X → Result (List Y) E) (xs ys : List X) → gathered f (xs ++ ys) ≡ both (gathered f xs) (gathered f ys)
gathered-append f [] ys = sym (both-nil_left (gathered f ys))
gathered-append f (x ∷ xs) ys = ap (both (f x)) (gathered-append f xs ys) ∙ sym (both_assoc (f x) (gathered f xs) (gathered f ys))

-- one element more
pub gathered_more : {X Y E : Type 0} (f : X → Result (List Y) E) (xs : List X) (i : ℕ) (d : X) → i < length xs → gathered f (take (i + 1) xs) ≡ both (gathered f (take i xs)) (f (get_or xs i d))
gathered_more f xs i d h =
    ap (gathered f) (take_more xs i d h) ∙ gathered-append f (take i xs) (get_or xs i d ∷ []) ∙ ap (both (gathered f (take i xs))) (both-nil_right (f (get_or xs i d)))

-- the fault of a front is that of the whole
gathered_fault : {X Y E : Type 0} (f : X → Result (List Y) E) (xs : List X) (i : ℕ) (e : E) → gathered f (take i xs) ≡ Err e → gathered f xs ≡ Err e
gathered_fault f xs i e h =
    ap (gathered f) (sym (take-append-drop i xs)) ∙ gathered-append f (take i xs) (drop i xs) ∙ ap (λ q. both q (gathered f (drop i xs))) h

pub gathered_fault_at : {X Y E : Type 0} (f : X → Result (List Y) E) (xs : List X) (i : ℕ) (d : X) (e : E) → i < length xs → both (gathered f (take i xs)) (f (get_or xs i d)) ≡ Err e → gathered f xs ≡ Err e
gathered_fault_at f xs i d e h k = gathered_fault f xs (i + 1) e (gathered_more f xs i d h ∙ k)

-- the first fault below n is the first below a higher number
gathered_below_fault : {Y E : Type 0} (f : ℕ → Result (List Y) E) (n m : ℕ) (e : E) → n ≤ m → gathered_below f n ≡ Err e → gathered_below f m ≡ Err e
gathered_below_fault f n zero e h k =
    let z : 0 ≡ n = omega arith in ap (gathered_below f) z ∙ k
gathered_below_fault f n (suc m) e h k =
    elim (cases_eq n (suc m)) [
      | inl same ↦ ap (gathered_below f) (sym same) ∙ k
      | inr differ ↦ ap (λ q. both q (f m)) (gathered_below_fault f n m e (omega arith) k)
    ]

-- one number more
pub gathered_below_more : {Y E : Type 0} (f : ℕ → Result (List Y) E) (n : ℕ) (now : List Y) → gathered_below f n ≡ Ok now → gathered_below f (n + 1) ≡ both (Ok now) (f n)
gathered_below_more f n now e =
    let s : n + 1 ≡ suc n = omega arith in
    ap (gathered_below f) s ∙ ap (λ q. both q (f n)) e

-- after the last slot
pub entries_on_all : (inodes page : ℕ) (bytes : List ℕ) (n : ℕ) (now : List Listed) → 16 ≤ n → n ≤ 16 → gathered_below (slot_entries inodes page bytes) n ≡ Ok now → entries_on inodes page bytes ≡ Ok now
unfolding entries_on
entries_on_all inodes page bytes n now h k e =
    let s : n ≡ 16 = omega arith in
    ap (λ m. gathered_below (slot_entries inodes page bytes) m) (sym s) ∙ e

-- a slot that is outside the grammar
pub entries_on_fault : (inodes page : ℕ) (bytes : List ℕ) (n : ℕ) (now : List Listed) (e : Location) → n < 16 → slot_entries inodes page bytes n ≡ Err e → gathered_below (slot_entries inodes page bytes) n ≡ Ok now → entries_on inodes page bytes ≡ Err e
unfolding entries_on
entries_on_fault inodes page bytes n now e h bad k =
    let f : ℕ → Result (List Listed) Location = slot_entries inodes page bytes in
    let here : gathered_below f (n + 1) ≡ Err e = gathered_below_more f n now k ∙ ap (both (Ok now)) bad in
    gathered_below_fault f (n + 1) 16 e (omega arith) here

-- the body in a slot is the last of the slot's bytes
body_is : (slot : ℕ) (bytes : List ℕ) → drop 192 (slot_bytes slot bytes) ≡ body_in_slot slot bytes
body_is slot bytes =
    let a : 256 * slot + 256 - 256 * slot ≡ 256 = omega arith in
    let b : 256 * slot + 256 - (256 * slot + 192) ≡ 64 = omega arith in
    rw (a, b, ← drop-drop 192 (256 * slot) bytes) (drop-take 192 64 (drop (256 * slot) bytes))

-- one slot of a page, as it is read
pub slot_is : (inodes page slot : ℕ) (bytes part : List ℕ) → part ≡ slot_bytes slot bytes → listed_at page slot (drop 192 part) (slot_of inodes part) ≡ slot_entries inodes page bytes slot
slot_is inodes page slot bytes part e = rw (e, body_is slot bytes) refl

-- a front of a front
pub take_before : {X : Type 0} (n m : ℕ) (now after before : List X) → n ≤ m → take m after ≡ now → take n now ≡ before → take n after ≡ before
take_before n m now after before h p q = sym (take-take n m after h) ∙ ap (take n) p ∙ q

-- a part that ends with its list
pub rest_is : {X : Type 0} (n m : ℕ) (xs : List X) → m ≡ length xs → take (m - n) (drop n xs) ≡ drop n xs
rest_is n m xs e = ap (λ k. take (k - n) (drop n xs)) e ∙ take_rest xs n

-- each gives a list
pub gathered_all : {X Y E : Type 0} (f : X → Result (List Y) E) (g : X → List Y) (xs : List X) → ((x : X) → In x xs → f x ≡ Ok (g x)) → gathered f xs ≡ Ok (flat_map g xs)
gathered_all f g [] h = refl
gathered_all f g (x ∷ xs) h =
    let here = h x (inl refl) in
    let rest = gathered_all f g xs (λ y i. h y (inr i)) in
    rw (here, rest) refl
