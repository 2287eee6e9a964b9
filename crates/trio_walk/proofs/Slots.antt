-- What the slots of a directory's pages say of its entries.
use Rattle.trio_walk.proofs.Words.{◌%◌, ◌+◌, ◌/◌, ◌<◌, ◌∙◌, ◌∷◌, ◌≡◌, Bad, Empty, Entry, EntryPart, Err, In, In-flat, In-left, In-map, In-right, LentPage, List, Listed, None, Ok, Option, SlotRead, Some, [], ap, arith, body_in_slot, every_number, false≢true, gathered, get_or, inl, inr, length, map, map-In, refl, slice_get, slice_get-In, slice_get-get_or, slot_bytes, slot_of, slot_with, slots_of, subst, suc, sym, take, zero, ℕ}
use Rattle.std.proofs.lemmas.List.{length-take-le}
use Rattle.std.proofs.lemmas.List.Concat.{get_or-flat_map}
use Rattle.std.proofs.lemmas.Option.{get_or_from_slice_get, slice_get_within}
use Rattle.std.proofs.lemmas.Bool.{cases_eq}
use Rattle.trio_lists.specs.Lists.{tabulated}
use Rattle.trio_lists.proofs.Tabulated.{tabulated-get}
use Rattle.trio_layout.specs.Core.{Location}
use Rattle.trio_layout.specs.Entries.{entries_on, listed_at, slot_entries}
use Rattle.trio_surveys.proofs.Places.{below_from, below_has, gathered_from, gathered_has}
use Rattle.trio_auxdir.specs.Slots.{has_name, name_in, slot_on, slots_on}
use Rattle.trio_auxdir.proofs.PageSlots.{length-slots_of, length-slots_on}
use Rattle.trio_auxdir.proofs.SlotLists.{absent, name_same, slot_there}
use Rattle.trio_session.proofs.Slots.{slot_wider}

-- ---- one slot, in images of more or fewer numbers

slot_narrow : (inodes : ℕ) (bytes : List ℕ) (e : EntryPart) → slot_of every_number bytes ≡ Entry e → (slot_of inodes bytes ≡ Bad → ⊥) → slot_of inodes bytes ≡ Entry e
slot_narrow inodes bytes e h ne = sym (slot_wider inodes bytes ne) ∙ h

slot_wide : (inodes : ℕ) (bytes : List ℕ) (e : EntryPart) → slot_of inodes bytes ≡ Entry e → slot_of every_number bytes ≡ Entry e
slot_wide inodes bytes e h = slot_wider inodes bytes (λ b. (let wrong : Entry e ≡ Bad = sym h ∙ b in cc wrong)) ∙ h

-- ---- slots

named_by : (r : SlotRead) (name : List ℕ) → name_in r ≡ Some name → (e : EntryPart) × (r ≡ Entry e) × (e.name ≡ name)
named_by Empty name h = absurd cc
named_by Bad name h = absurd cc
named_by (Entry e) name h = (e, refl, cc h)

slot_get : (inodes : ℕ) (page : List ℕ) (j : ℕ) → j < 16 → get_or (slots_on inodes page) j None ≡ slot_on inodes page j
unfolding slots_on
slot_get inodes page j lt = tabulated-get (slot_on inodes page) 16 j None lt

In-tabulated : {X : Type 0} (f : ℕ → X) (n k : ℕ) → k < n → In (f k) (tabulated f n)
In-tabulated f zero k lt = absurd (omega (arith, lt))
In-tabulated f (suc n) k lt =
    elim (cases_eq k n) [
      | inl same ↦ In-right (f k) (tabulated f n) (f n ∷ []) (inl (ap f same))
      | inr differ ↦ let l : k < n = omega arith in In-left (f k) (tabulated f n) (f n ∷ []) (In-tabulated f n k l)
    ]

slot_among : (inodes : ℕ) (page : List ℕ) (j : ℕ) → j < 16 → In (slot_on inodes page j) (slots_on inodes page)
unfolding slots_on
slot_among inodes page j lt = In-tabulated (slot_on inodes page) 16 j lt

nowhere : (name : List ℕ) (slots : List (Option (List ℕ))) → slot_with name slots ≡ None → In (Some name) slots → ⊥
nowhere name [] e i = i
nowhere name (slot ∷ slots) e (inl s) = false≢true (sym (absent name slot slots e).here ∙ ap (has_name name) (sym s) ∙ name_same name)
nowhere name (slot ∷ slots) e (inr i) = nowhere name slots (absent name slot slots e).later i

-- the place of a name among the pages
pub record Spot (pages : List (List ℕ)) (name' : List ℕ) (i : ℕ) : Type 0 where
  pub block : i / 16 < length pages
  pub slot : i % 16 < 16
  pub entry : EntryPart
  pub says : slot_of every_number (slot_bytes (i % 16) (get_or pages (i / 16) [])) ≡ Entry entry
  pub name : entry.name ≡ name'

pub spot : (pages : List (List ℕ)) (name : List ℕ) (i : ℕ) → slot_with name (slots_of every_number pages) ≡ Some i → Spot pages name i
spot pages name i e =
    let slots : List (Option (List ℕ)) = slots_of every_number pages in
    let at = slot_there name slots i e in
    let lt : i < length slots = slice_get_within slots i (Some name) at in
    let long = length-slots_of every_number pages in
    let k : ℕ = i / 16 in
    let j : ℕ = i % 16 in
    let block : k < length pages = omega (arith, lt, long) in
    let small : j < 16 = omega arith in
    let get : get_or slots i None ≡ Some name = get_or_from_slice_get slots i (Some name) None at in
    let before = length-slots_of every_number (take k pages) in
    let taken : length (take k pages) ≡ k = length-take-le k pages (omega arith) in
    let index : length (slots_of every_number (take k pages)) + j ≡ i = omega (arith, before, taken) in
    let wide : j < length (slots_on every_number (get_or pages k [])) = omega (arith, length-slots_on every_number (get_or pages k []), small) in
    let there = get_or-flat_map (slots_on every_number) pages k j [] None block wide in
    let is : slot_on every_number (get_or pages k []) j ≡ Some name = sym (slot_get every_number (get_or pages k []) j small) ∙ sym there ∙ ap (λ n. get_or slots n None) index ∙ get in
    let named = named_by (slot_of every_number (slot_bytes j (get_or pages k []))) name is in
    record { block = block; slot = small; entry = named.0; says = named.1; name = named.2 }

-- ---- look-ups

listed_is : (page slot : ℕ) (body : List ℕ) (r : SlotRead) (es : List Listed) (l : Listed) → listed_at page slot body r ≡ Ok es → In l es → r ≡ Entry l.entry
listed_is page slot body Empty es l e i = (let n : [] ≡ es = cc e in absurd (subst (λ x. In l x) (sym n) i))
listed_is page slot body Bad es l e i = absurd cc
listed_is page slot body (Entry p) es l e i =
    let one : Listed = record { entry = p; page = page; slot = slot; body = body } in
    let n : one ∷ [] ≡ es = cc e in
    by (subst (λ x. In l x) (sym n) i)
  where
    by : In l (record { entry = p; page = page; slot = slot; body = body } ∷ []) → Entry p ≡ Entry l.entry
    by (inl s) = ap (λ (x : Listed). Entry x.entry) (sym s)
    by (inr i) = absurd i

not_bad : (page slot : ℕ) (body : List ℕ) (r : SlotRead) (es : List Listed) → listed_at page slot body r ≡ Ok es → r ≡ Bad → ⊥
not_bad page slot body r es e b =
    let fault : Location = record { page = page; slot = slot } in
    let wrong : Err fault ≡ Ok es = sym (ap (listed_at page slot body) b) ∙ e in cc wrong

-- a directory of these pages, whose slots have these entries
module _ (blocks : List LentPage) (inodes : ℕ) (es : List Listed) (gathers : gathered (λ p. entries_on inodes p.no.0 p.page) blocks ≡ Ok es) where
  abbrev pages : List (List ℕ)
  pages = map (λ (p : LentPage). p.page) blocks

  page_is : (k : ℕ) (page : List ℕ) → slice_get (map (λ (p : LentPage). p.page) blocks) k ≡ Some page → (q : LentPage) × In q blocks × (q.page ≡ page)
  page_is k page e =
      let i = map-In (λ (p : LentPage). p.page) page blocks (slice_get-In (map (λ (p : LentPage). p.page) blocks) k page e) in (i.0, i.1, sym i.2)

  -- an entry that a slot has, in any of 32 bits, is one of them
  pub slot_listed : (k j : ℕ) (page : List ℕ) (e : EntryPart) → slice_get (map (λ (p : LentPage). p.page) blocks) k ≡ Some page → j < 16 → slot_of every_number (slot_bytes j page) ≡ Entry e
      → (l : Listed) × In l es × (l.entry ≡ e) × (l.body ≡ body_in_slot j page)
  unfolding entries_on
  slot_listed k j page e at lt says =
      let q = page_is k page at in
      let on = gathered_has (λ (p : LentPage). entries_on inodes p.no.0 p.page) blocks es q.0 gathers q.1 in
      let slot = below_has (slot_entries inodes q.0.no.0 q.0.page) 16 on.0 j on.1 lt in
      let body : List ℕ = body_in_slot j q.0.page in
      let wide : slot_of every_number (slot_bytes j q.0.page) ≡ Entry e = ap (λ p. slot_of every_number (slot_bytes j p)) q.2 ∙ says in
      let here : slot_of inodes (slot_bytes j q.0.page) ≡ Entry e = slot_narrow inodes (slot_bytes j q.0.page) e wide (not_bad q.0.no.0 j body (slot_of inodes (slot_bytes j q.0.page)) slot.0 slot.1) in
      let l : Listed = record { entry = e; page = q.0.no.0; slot = j; body = body } in
      let one : Ok (l ∷ []) ≡ Ok slot.0 = sym (ap (listed_at q.0.no.0 j body) here) ∙ slot.1 in
      let same : l ∷ [] ≡ slot.0 = cc one in
      (l, on.2 l (slot.2 l (subst (λ x. In l x) same (inl refl))), refl, ap (body_in_slot j) q.2)

  -- where a name stands, a slot has an entry of it
  pub record IsThere (name' : List ℕ) (i : ℕ) : Type 0 where
    pub page : List ℕ
    pub at : slice_get (map (λ (p : LentPage). p.page) blocks) (i / 16) ≡ Some page
    pub slot : i % 16 < 16
    pub entry : EntryPart
    pub says : slot_of every_number (slot_bytes (i % 16) page) ≡ Entry entry
    pub name : entry.name ≡ name'

  pub name_there : (name : List ℕ) (i : ℕ) → slot_with name (slots_of every_number (map (λ (p : LentPage). p.page) blocks)) ≡ Some i → IsThere name i
  name_there name i e =
      let sp = spot (map (λ (p : LentPage). p.page) blocks) name i e in
      record {
        page = get_or (map (λ (p : LentPage). p.page) blocks) (i / 16) [];
        at = slice_get-get_or (map (λ (p : LentPage). p.page) blocks) (i / 16) [] sp.block;
        slot = sp.slot;
        entry = sp.entry;
        says = sp.says;
        name = sp.name;
      }

  -- where it stands nowhere, none has it
  pub name_missed : (name : List ℕ) → slot_with name (slots_of every_number (map (λ (p : LentPage). p.page) blocks)) ≡ None → (l : Listed) → In l es → l.entry.name ≡ name → ⊥
  unfolding entries_on
  name_missed name e l i same =
      let on = gathered_from (λ (p : LentPage). entries_on inodes p.no.0 p.page) blocks es l gathers i in
      let q : LentPage = on.0 in
      let slot = below_from (slot_entries inodes q.no.0 q.page) 16 on.1 l on.3 on.4 in
      let j : ℕ = slot.0 in
      let here = listed_is q.no.0 j (body_in_slot j q.page) (slot_of inodes (slot_bytes j q.page)) slot.1 l slot.3 slot.4 in
      let says : slot_on every_number q.page j ≡ Some name = ap name_in (slot_wide inodes (slot_bytes j q.page) l.entry here) ∙ ap Some same in
      nowhere name (slots_of every_number (map (λ (p : LentPage). p.page) blocks)) e
      (In-flat (slots_on every_number) q.page (Some name) (map (λ (p : LentPage). p.page) blocks) (In-map (λ (p : LentPage). p.page) q blocks on.2)
      (subst (λ x. In x (slots_on every_number q.page)) says (slot_among every_number q.page j slot.2)))
