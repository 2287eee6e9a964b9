-- Where a name stands in a list of slots, after a slot changed and after slots were added.
use Rattle.trio_auxdir.proofs.Words.{◌++◌, ◌∙◌, ◌∷◌, ◌≡◌, Bool, List, NamesDiffer, None, Option, Some, [], ap, bytes_eq, cond, false, false≢true, has_name, length, none-some, option_map, refl, same_Some, set, slice_get, slot_with, subst, suc, sym, true, zero, ℕ}
use Rattle.std.proofs.lemmas.Bool.{false_from_ne_true}
use Rattle.std.proofs.lemmas.Slice.Eq.{bytes_eq-Decides}

abbrev Slot : Type 0
Slot = Option (List ℕ)

-- ---- tests of names

pub same_name : (a b : List ℕ) → bytes_eq a b ≡ true → a ≡ b
same_name a b is = (bytes_eq-Decides a b).0 is

pub name_same : (a : List ℕ) → bytes_eq a a ≡ true
name_same a = (bytes_eq-Decides a a).1 refl

pub names_apart : (a b : List ℕ) → bytes_eq a b ≡ false → bytes_eq b a ≡ false
names_apart a b apart =
    false_from_ne_true (bytes_eq b a)
    (λ is. false≢true (sym apart ∙ ap (λ (x : List ℕ). bytes_eq x b) (sym (same_name b a is)) ∙ name_same b))

-- ---- a name that is nowhere

-- what a first step that finds nothing says
pub record Absent (name : List ℕ) (slot : Slot) (slots : List Slot) : Type 0 where
  pub here : has_name name slot ≡ false
  pub later : slot_with name slots ≡ None

absent_by : (b : Bool) (o : Option ℕ) → cond b (Some 0) (option_map suc o) ≡ None → (b ≡ false) × (o ≡ None)
absent_by true o e = absurd (none-some 0 (sym e))
absent_by false None e = (refl, refl)
absent_by false (Some n) e = absurd (none-some (suc n) (sym e))

pub absent : (name : List ℕ) (slot : Slot) (slots : List Slot) → slot_with name (slot ∷ slots) ≡ None → Absent name slot slots
absent name slot slots e =
    let p = absent_by (has_name name slot) (slot_with name slots) e in
    record { here = p.0; later = p.1 }

pub absent_from : (name : List ℕ) (slot : Slot) (slots : List Slot) → has_name name slot ≡ false → slot_with name slots ≡ None
    → slot_with name (slot ∷ slots) ≡ None
absent_from name slot slots here later = rw (here, later) refl

-- a slot that has the name shows that it is somewhere
pub somewhere : (name : List ℕ) (slots : List Slot) (i : ℕ) → slice_get slots i ≡ Some (Some name) → slot_with name slots ≡ None → ⊥
somewhere name [] i at none = none-some (Some name) at
somewhere name (slot ∷ slots) zero at none =
    let is : slot ≡ Some name = same_Some slot (Some name) at in
    false≢true (sym (absent name slot slots none).here ∙ ap (has_name name) is ∙ name_same name)
somewhere name (slot ∷ slots) (suc i) at none = somewhere name slots i at (absent name slot slots none).later

-- the slot that is found has the name
found_by : (name : List ℕ) (slot : Slot) (slots : List Slot) (b : Bool) (o : Option ℕ) (i : ℕ) → has_name name slot ≡ b → ((k : ℕ) → o ≡ Some k
    → slice_get slots k ≡ Some (Some name))
    → cond b (Some 0) (option_map suc o) ≡ Some i → slice_get (slot ∷ slots) i ≡ Some (Some name)
found_by name None slots true o i is later e = absurd (false≢true is)
found_by name (Some other) slots true o i is later e =
    let z : 0 ≡ i = same_Some 0 i e in
    let n : other ≡ name = same_name other name is in
    subst (λ (k : ℕ). slice_get (Some other ∷ slots) k ≡ Some (Some name)) z (ap (λ (x : List ℕ). Some (Some x)) n)
found_by name slot slots false None i is later e = absurd (none-some i e)
found_by name slot slots false (Some k) i is later e =
    let s : suc k ≡ i = same_Some (suc k) i e in
    subst (λ (j : ℕ). slice_get (slot ∷ slots) j ≡ Some (Some name)) s (later k refl)

pub slot_there : (name : List ℕ) (slots : List Slot) (i : ℕ) → slot_with name slots ≡ Some i → slice_get slots i ≡ Some (Some name)
slot_there name [] i e = absurd (none-some i e)
slot_there name (slot ∷ slots) i e =
    found_by name slot slots (has_name name slot) (slot_with name slots) i refl (λ k. slot_there name slots k) e

-- ---- a slot that gets a name

-- a choice between a place one further on, and what stands behind a first slot
later_choice : (b c : Bool) (i : ℕ) (o : Option ℕ) → (b ≡ true → c ≡ false)
    → cond c (Some 0) (option_map suc (cond b (Some i) o)) ≡ cond b (Some (suc i)) (cond c (Some 0) (option_map suc o))
later_choice true true i o apart = absurd (false≢true (sym (apart refl)))
later_choice true false i o apart = refl
later_choice false c i o apart = refl

pub slot_with-put : (name q : List ℕ) (slots : List Slot) (i : ℕ) → slice_get slots i ≡ Some None → slot_with name slots ≡ None
    → slot_with q (set slots i (Some name)) ≡ cond (bytes_eq name q) (Some i) (slot_with q slots)
slot_with-put name q [] i at none = absurd (none-some None at)
slot_with-put name q (slot ∷ slots) zero at none =
    let is : slot ≡ None = same_Some slot None at in
    rw is refl
slot_with-put name q (slot ∷ slots) (suc i) at none =
    let a = absent name slot slots none in
    rw (slot_with-put name q slots i at a.later)
    (later_choice (bytes_eq name q) (has_name q slot) i (slot_with q slots)
    (λ is. ap (λ (x : List ℕ). has_name x slot) (sym (same_name name q is)) ∙ a.here))

-- ---- a slot that is emptied

gone_choice : (b c : Bool) (o : Option ℕ) → (b ≡ true → c ≡ false)
    → cond c (Some 0) (option_map suc (cond b None o)) ≡ cond b None (cond c (Some 0) (option_map suc o))
gone_choice true true o apart = absurd (false≢true (sym (apart refl)))
gone_choice true false o apart = refl
gone_choice false c o apart = refl

-- a name that another slot has isn't that of a first one
other_name : (name q : List ℕ) (slot : Slot) (slots : List Slot) (i : ℕ) → slice_get slots i ≡ Some (Some name) → NamesDiffer (slot ∷ slots)
    → name ≡ q → has_name q slot ≡ false
other_name name q None slots i at differ is = refl
other_name name q (Some m) slots i at differ is =
    false_from_ne_true (bytes_eq m q)
    (λ e. somewhere m slots i (at ∙ ap (λ (x : List ℕ). Some (Some x)) (is ∙ sym (same_name m q e))) differ.0)

-- names differ behind the first slot too
pub differ_later : (slot : Slot) (slots : List Slot) → NamesDiffer (slot ∷ slots) → NamesDiffer slots
differ_later None slots differ = differ
differ_later (Some name) slots differ = differ.1

-- where names differ, a slot with a name is the one that is found
pub slot_found : (name : List ℕ) (slots : List Slot) (i : ℕ) → slice_get slots i ≡ Some (Some name) → NamesDiffer slots → slot_with name slots ≡ Some i
slot_found name [] i at differ = absurd (none-some (Some name) at)
slot_found name (slot ∷ slots) zero at differ =
    let is : slot ≡ Some name = same_Some slot (Some name) at in
    rw (is, name_same name) refl
slot_found name (slot ∷ slots) (suc i) at differ =
    rw (other_name name name slot slots i at differ refl, slot_found name slots i at (differ_later slot slots differ)) refl

emptied_first : (b : Bool) (o : Option ℕ) → (b ≡ true → o ≡ None) → option_map suc o ≡ cond b None (cond b (Some 0) (option_map suc o))
emptied_first true o none = ap (option_map suc) (none refl)
emptied_first false o none = refl

pub slot_with-emptied : (name q : List ℕ) (slots : List Slot) (i : ℕ) → slice_get slots i ≡ Some (Some name) → NamesDiffer slots
    → slot_with q (set slots i None) ≡ cond (bytes_eq name q) None (slot_with q slots)
slot_with-emptied name q [] i at differ = absurd (none-some (Some name) at)
slot_with-emptied name q (None ∷ slots) zero at differ = absurd (none-some name (same_Some None (Some name) at))
slot_with-emptied name q (Some m ∷ slots) zero at differ =
    let is : m ≡ name = same_Some m name (same_Some (Some m) (Some name) at) in
    rw is
    (emptied_first (bytes_eq name q) (slot_with q slots)
    (λ e. ap (λ (x : List ℕ). slot_with x slots) (sym (is ∙ same_name name q e)) ∙ differ.0))
slot_with-emptied name q (slot ∷ slots) (suc i) at differ =
    rw (slot_with-emptied name q slots i at (differ_later slot slots differ))
    (gone_choice (bytes_eq name q) (has_name q slot) (slot_with q slots)
    (λ e. other_name name q slot slots i at differ (same_name name q e)))

-- a name that is nowhere is nowhere after a slot was emptied
pub nowhere_emptied : (q : List ℕ) (slots : List Slot) (i : ℕ) → slot_with q slots ≡ None → slot_with q (set slots i None) ≡ None
nowhere_emptied q [] i none = refl
nowhere_emptied q (slot ∷ slots) zero none = absent_from q None slots refl (absent q slot slots none).later
nowhere_emptied q (slot ∷ slots) (suc i) none =
    let a = absent q slot slots none in
    absent_from q slot (set slots i None) a.here (nowhere_emptied q slots i a.later)

-- ---- names that differ

pub differ-emptied : (slots : List Slot) (i : ℕ) → NamesDiffer slots → NamesDiffer (set slots i None)
differ-emptied [] i differ = tt
differ-emptied (slot ∷ slots) zero differ = differ_later slot slots differ
differ-emptied (None ∷ slots) (suc i) differ = differ-emptied slots i differ
differ-emptied (Some m ∷ slots) (suc i) differ = (nowhere_emptied m slots i differ.0, differ-emptied slots i differ.1)

pub differ-put : (name : List ℕ) (slots : List Slot) (i : ℕ) → slice_get slots i ≡ Some None → slot_with name slots ≡ None → NamesDiffer slots
    → NamesDiffer (set slots i (Some name))
differ-put name [] i at none differ = tt
differ-put name (slot ∷ slots) zero at none differ = ((absent name slot slots none).later, differ_later slot slots differ)
differ-put name (None ∷ slots) (suc i) at none differ = differ-put name slots i at none' differ where
  none' : slot_with name slots ≡ None
  none' = (absent name None slots none).later
differ-put name (Some m ∷ slots) (suc i) at none differ =
    let a = absent name (Some m) slots none in
    let apart : bytes_eq name m ≡ false = names_apart m name a.here in
    (slot_with-put name m slots i at a.later ∙ rw apart differ.0, differ-put name slots i at a.later differ.1)

-- ---- one slot more behind the others

pub slot_with-push : (q : List ℕ) (slots : List Slot) → slot_with q (slots ++ None ∷ []) ≡ slot_with q slots
slot_with-push q [] = refl
slot_with-push q (slot ∷ slots) = rw (slot_with-push q slots) refl

pub slot_with-push_name : (name q : List ℕ) (slots : List Slot) → slot_with name slots ≡ None
    → slot_with q (slots ++ Some name ∷ []) ≡ cond (bytes_eq name q) (Some (length slots)) (slot_with q slots)
slot_with-push_name name q [] none = refl
slot_with-push_name name q (slot ∷ slots) none =
    let a = absent name slot slots none in
    rw (slot_with-push_name name q slots a.later)
    (later_choice (bytes_eq name q) (has_name q slot) (length slots) (slot_with q slots)
    (λ is. ap (λ (x : List ℕ). has_name x slot) (sym (same_name name q is)) ∙ a.here))

pub differ-push : (slots : List Slot) → NamesDiffer slots → NamesDiffer (slots ++ None ∷ [])
differ-push [] differ = tt
differ-push (None ∷ slots) differ = differ-push slots differ
differ-push (Some m ∷ slots) differ = (slot_with-push m slots ∙ differ.0, differ-push slots differ.1)

pub differ-push_name : (name : List ℕ) (slots : List Slot) → slot_with name slots ≡ None → NamesDiffer slots → NamesDiffer (slots ++ Some name ∷ [])
differ-push_name name [] none differ = (refl, tt)
differ-push_name name (None ∷ slots) none differ = differ-push_name name slots (absent name None slots none).later differ
differ-push_name name (Some m ∷ slots) none differ =
    let a = absent name (Some m) slots none in
    let apart : bytes_eq name m ≡ false = names_apart m name a.here in
    (slot_with-push_name name m slots a.later ∙ rw apart differ.0, differ-push_name name slots a.later differ.1)

-- names that differ: none before another is the same
apart_before : (m name : List ℕ) (slots more : List Slot) → slot_with m (slots ++ Some name ∷ more) ≡ None → bytes_eq name m ≡ false
apart_before m name [] more none = (absent m (Some name) more none).here
apart_before m name (slot ∷ slots) more none = apart_before m name slots more (absent m slot (slots ++ Some name ∷ more) none).later

pub new_before : (name : List ℕ) (slots more : List Slot) → NamesDiffer (slots ++ Some name ∷ more) → slot_with name slots ≡ None
new_before name [] more differ = refl
new_before name (None ∷ slots) more differ = absent_from name None slots refl (new_before name slots more differ)
new_before name (Some m ∷ slots) more differ =
    absent_from name (Some m) slots (names_apart name m (apart_before m name slots more differ.0)) (new_before name slots more differ.1)
