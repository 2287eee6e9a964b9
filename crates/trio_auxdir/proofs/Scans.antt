-- The condition of a scan, slot by slot. Cited by tests alone.
use Rattle.trio_auxdir.proofs.Words.{◌++◌, ◌+◌, ◌∷◌, ◌≡◌, ◌≢◌, Err, IfSome, List, NamesDiffer, None, Ok, Option, Result, Some, [], arith, bytes_eq, false, has_name, refl, slot_bytes, slot_of, slot_with, subst, suc, tabulated, true, ℕ}
use Rattle.std.specs.Result.{is_ok}
use Rattle.std.specs.Option.{option_eq}
use Rattle.trio_layout.specs.declared.slot.SlotRead.{SlotRead}
use Rattle.trio_layout.specs.declared.slot.SlotRead.TheVariants.{Empty, Entry, Bad}
use Rattle.trio_layout.specs.Entries.{listed_at, slot_entries}
use Rattle.trio_lists.specs.Lists.{both, gathered_below}
use Rattle.trio_auxdir.proofs.SlotLists.{absent, absent_from, differ-push, differ-push_name}
use Rattle.trio_auxdir.proofs.Indexes.{more_on}

abbrev Slot : Type 0
Slot = Option (List ℕ)

pub nowhere-append : (name : List ℕ) (slots more : List Slot) → slot_with name slots ≡ None → slot_with name more ≡ None → slot_with name (slots ++ more) ≡ None
nowhere-append name [] more none later = later
nowhere-append name (slot ∷ slots) more none later =
    let a = absent name slot slots none in
    absent_from name slot (slots ++ more) a.here (nowhere-append name slots more a.later later)

pub nowhere_more : (name : List ℕ) (f : ℕ → Slot) (k : ℕ) → slot_with name (tabulated f k) ≡ None → has_name name (f k) ≡ false
    → slot_with name (tabulated f (k + 1)) ≡ None
nowhere_more name f k none here =
    subst (λ (x : List Slot). slot_with name x ≡ None) (more_on f [] k)
    (nowhere-append name (tabulated f k) (f k ∷ []) none (absent_from name (f k) [] here refl))

differ_by : (slot : Slot) (slots : List Slot) → NamesDiffer slots → IfSome slot (λ name. slot_with name slots ≡ None) → NamesDiffer (slots ++ slot ∷ [])
differ_by None slots differ new = differ-push slots differ
differ_by (Some name) slots differ new = differ-push_name name slots new differ

both_new : (slot : Slot) (slots more : List Slot) → IfSome slot (λ name. slot_with name slots ≡ None)
    → IfSome slot (λ name. slot_with name more ≡ None) → IfSome slot (λ name. slot_with name (slots ++ more) ≡ None)
both_new None slots more apart first = tt
both_new (Some name) slots more apart first = nowhere-append name slots more apart first

pub differ_more : (f : ℕ → Slot) (slots : List Slot) (k : ℕ) → NamesDiffer (slots ++ tabulated f k)
    → IfSome (f k) (λ name. slot_with name slots ≡ None) → IfSome (f k) (λ name. slot_with name (tabulated f k) ≡ None)
    → NamesDiffer (slots ++ tabulated f (k + 1))
differ_more f slots k differ apart first =
    subst NamesDiffer (more_on f slots k) (differ_by (f k) (slots ++ tabulated f k) differ (both_new (f k) slots (tabulated f k) apart first))

both_ok : {X E : Type 0} (p q : Result (List X) E) → is_ok p ≡ true → is_ok q ≡ true → is_ok (both p q) ≡ true
both_ok (Ok xs) (Ok ys) e f = refl
both_ok (Ok xs) (Err y) e f = f
both_ok (Err x) q e f = e

listed_ok : (page slot : ℕ) (body : List ℕ) (r : SlotRead) → r ≢ Bad → is_ok (listed_at page slot body r) ≡ true
listed_ok page slot body Empty ne = refl
listed_ok page slot body (Entry e) ne = refl
listed_ok page slot body Bad ne = absurd (ne refl)

pub read_more : (inodes : ℕ) (page : List ℕ) (k : ℕ) → is_ok (gathered_below (slot_entries inodes 0 page) k) ≡ true
    → slot_of inodes (slot_bytes k page) ≢ Bad → is_ok (gathered_below (slot_entries inodes 0 page) (k + 1)) ≡ true
read_more inodes page k all ne =
    let next : suc k ≡ k + 1 = omega arith in
    subst (λ (n : ℕ). is_ok (gathered_below (slot_entries inodes 0 page) n) ≡ true) next
    (both_ok (gathered_below (slot_entries inodes 0 page) k) (slot_entries inodes 0 page k) all (listed_ok 0 k _ (slot_of inodes (slot_bytes k page)) ne))

pub other_slot : (slot : Slot) (name : List ℕ) → option_eq bytes_eq slot (Some name) ≡ false → has_name name slot ≡ false
other_slot None name differs = refl
other_slot (Some other) name differs = differs
