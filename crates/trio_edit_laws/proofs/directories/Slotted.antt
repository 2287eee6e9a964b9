-- The entries of a directory by its slots: those that it lists, and what a look-up finds among them.
use Rattle.trio_edit_laws.proofs.Words.{◌%◌, ◌*◌, ◌++◌, ◌+◌, ◌/◌, ◌<◌, ◌∙◌, ◌∷◌, ◌≡◌, Bad, Bool, Core, Directory, EntryPart, In, In-flat, In-left, In-right, List, Listed, Location, None, Ok, Option, SlotRead, Some, [], ap, arith, body_in_slot, both-Ok, bytes_eq, cases_eq, cond, entries_where, entries_within, entry_in, entry_on, every_number, false, filter, find, flat_map, gathered, gathered_below, get_or, get_or_from_slice_get, inl, inr, is_some, length, length-take-le, listed_at, map, map-append, name_in, option_and_then, option_map, page_of, refl, result_then-Ok, slice_get, slice_get-map, slice_get_within, slot_bytes, slot_entries, slot_of, slot_on, slot_wider, slot_with, slots_of, subst, suc, sym, take, true, unless_repeated, zero, ℕ}
use Rattle.std.proofs.Common.{length-append}
use Rattle.std.specs.List.{filter_map}
use Rattle.std.proofs.lemmas.List.Concat.{get_or-flat_map}
use Rattle.std.proofs.lemmas.List.Elements.{filter_map-append}
use Rattle.trio_lists.specs.Lists.{tabulated}
use Rattle.trio_lists.proofs.Tabulated.{tabulated-get, tabulated-length}
use Rattle.trio_layout.specs.Entries.{entries_on}
use Rattle.trio_auxdir.specs.Slots.{slots_on}
use Rattle.trio_auxdir.proofs.SlotLists.{slot_there}
use Rattle.trio_session.specs.Deeds.{slots_of_page}

-- the slots of a directory of these pages
abbrev pub parts_of : List (List ℕ) → List (Option EntryPart)
parts_of pages = flat_map slots_of_page pages

-- those that have an entry
abbrev pub present : {X : Type 0} → List (Option X) → List X
present xs = filter_map (λ o. o) xs

abbrev pub name_of_part : Option EntryPart → Option (List ℕ)
name_of_part o = option_map (λ e. e.name) o

-- ---- names

pub name_in-entry_in : (r : SlotRead) → name_in r ≡ name_of_part (entry_in r)
name_in-entry_in r = search arith

map-tabulated : {X Y : Type 0} (f : X → Y) (g : ℕ → X) (n : ℕ) → map f (tabulated g n) ≡ tabulated (λ k. f (g k)) n
map-tabulated f g zero = refl
map-tabulated f g (suc n) = map-append f (tabulated g n) (g n ∷ []) ∙ ap (λ l. l ++ f (g n) ∷ []) (map-tabulated f g n)

tabulated-alike : {X : Type 0} (f g : ℕ → X) (n : ℕ) → ((k : ℕ) → f k ≡ g k) → tabulated f n ≡ tabulated g n
tabulated-alike f g zero h = refl
tabulated-alike f g (suc n) h = ap (λ l. l ++ f n ∷ []) (tabulated-alike f g n h) ∙ ap (λ x. tabulated g n ++ x ∷ []) (h n)

slots_on-parts : (page : List ℕ) → slots_on every_number page ≡ map name_of_part (slots_of_page page)
unfolding slots_on
slots_on-parts page =
    tabulated-alike (slot_on every_number page) (λ k. name_of_part (entry_on page k)) 16 (λ k. name_in-entry_in (slot_of every_number (slot_bytes k page)))
    ∙ sym (map-tabulated name_of_part (entry_on page) 16)

-- the names in the slots are those of the entries
pub slots_of-parts : (pages : List (List ℕ)) → slots_of every_number pages ≡ map name_of_part (parts_of pages)
slots_of-parts [] = refl
slots_of-parts (p ∷ pages) =
    ap (λ l. l ++ slots_of every_number pages) (slots_on-parts p)
    ∙ ap (λ l. map name_of_part (slots_of_page p) ++ l) (slots_of-parts pages)
    ∙ sym (map-append name_of_part (slots_of_page p) (parts_of pages))

-- as many as the entries
pub length-present : (xs : List (Option EntryPart)) → length (filter is_some (map name_of_part xs)) ≡ length (present xs)
length-present [] = refl
length-present (None ∷ xs) = length-present xs
length-present (Some e ∷ xs) = ap suc (length-present xs)

-- ---- look-ups

abbrev pub has_this_name : List ℕ → EntryPart → Bool
has_this_name name e = bytes_eq e.name name

abbrev nth_part : List (Option EntryPart) → ℕ → Option EntryPart
nth_part xs i = option_and_then (λ o. o) (slice_get xs i)

then-map_suc : {X : Type 0} (f : ℕ → Option X) (q : Option ℕ) → option_and_then f (option_map suc q) ≡ option_and_then (λ i. f (suc i)) q
then-map_suc f None = refl
then-map_suc f (Some i) = refl

-- the first entry with a name stands in the first slot with it
pub find-parts : (name : List ℕ) (xs : List (Option EntryPart)) → find (has_this_name name) (present xs) ≡ option_and_then (nth_part xs) (slot_with name (map name_of_part xs))
find-parts name [] = refl
find-parts name (None ∷ xs) =
    find-parts name xs ∙ sym (then-map_suc (nth_part (None ∷ xs)) (slot_with name (map name_of_part xs)))
find-parts name (Some e ∷ xs) =
    elim (bytes_eq e.name name) as (λ v. cond v (Some e) (find (has_this_name name) (present xs)) ≡ option_and_then (nth_part (Some e ∷ xs)) (cond v (Some 0) (option_map suc (slot_with name (map name_of_part xs))))) [
      | true ↦ refl
      | false ↦ find-parts name xs ∙ sym (then-map_suc (nth_part (Some e ∷ xs)) (slot_with name (map name_of_part xs)))
    ]

pub length-parts_of : (pages : List (List ℕ)) → length (parts_of pages) ≡ 16 * length pages
length-parts_of [] = refl
length-parts_of (p ∷ pages) = omega (arith, length-append (slots_of_page p) (parts_of pages), tabulated-length (entry_on p) 16, length-parts_of pages)

-- slot j of block k
pub part_at : (pages : List (List ℕ)) (k j : ℕ) → k < length pages → j < 16 → get_or (parts_of pages) (16 * k + j) None ≡ entry_on (get_or pages k []) j
part_at pages k j block small =
    let before = length-parts_of (take k pages) in
    let taken : length (take k pages) ≡ k = length-take-le k pages (omega arith) in
    let index : length (parts_of (take k pages)) + j ≡ 16 * k + j = omega (arith, before, taken) in
    let wide : j < length (slots_of_page (get_or pages k [])) = omega (arith, tabulated-length (entry_on (get_or pages k [])) 16, small) in
    ap (λ n. get_or (parts_of pages) n None) (sym index)
    ∙ get_or-flat_map slots_of_page pages k j [] None block wide
    ∙ tabulated-get (entry_on (get_or pages k [])) 16 j None small

named_part : (o : Option (Option EntryPart)) (name : List ℕ) → option_map name_of_part o ≡ Some (Some name) → (e : EntryPart) × (o ≡ Some (Some e)) × (e.name ≡ name)
named_part o name h = search arith

-- the slot with a name: its block, and its entry, which is the first with that name
pub record Spot (pages : List (List ℕ)) (name' : List ℕ) (i : ℕ) : Type 0 where
  pub block : i / 16 < length pages
  pub slot : i % 16 < 16
  pub entry : EntryPart
  pub on : entry_on (get_or pages (i / 16) []) (i % 16) ≡ Some entry
  pub name : entry.name ≡ name'
  pub first : find (has_this_name name') (present (parts_of pages)) ≡ Some entry

pub spot : (pages : List (List ℕ)) (name : List ℕ) (i : ℕ) → slot_with name (slots_of every_number pages) ≡ Some i → Spot pages name i
spot pages name i e =
    let parts : List (Option EntryPart) = parts_of pages in
    let e' : slot_with name (map name_of_part parts) ≡ Some i = ap (slot_with name) (sym (slots_of-parts pages)) ∙ e in
    let there : slice_get (map name_of_part parts) i ≡ Some (Some name) = slot_there name (map name_of_part parts) i e' in
    let q = named_part (slice_get parts i) name (sym (slice_get-map name_of_part parts i) ∙ there) in
    let lt : i < length parts = slice_get_within parts i (Some q.0) q.1 in
    let k : ℕ = i / 16 in
    let j : ℕ = i % 16 in
    let block : k < length pages = omega (arith, lt, length-parts_of pages) in
    let small : j < 16 = omega arith in
    let sum : 16 * k + j ≡ i = omega arith in
    record {
      block = block;
      slot = small;
      entry = q.0;
      on = sym (part_at pages k j block small) ∙ ap (λ n. get_or parts n None) sum ∙ get_or_from_slice_get parts i (Some q.0) None q.1;
      name = q.2;
      first = find-parts name parts ∙ ap (option_and_then (nth_part parts)) e' ∙ ap (option_and_then (λ o. o)) q.1;
    }

pub no_spot : (pages : List (List ℕ)) (name : List ℕ) → slot_with name (slots_of every_number pages) ≡ None → find (has_this_name name) (present (parts_of pages)) ≡ None
no_spot pages name e =
    find-parts name (parts_of pages) ∙ ap (option_and_then (nth_part (parts_of pages))) (ap (slot_with name) (sym (slots_of-parts pages)) ∙ e)

-- ---- what is read

pub not_bad : (page slot : ℕ) (body : List ℕ) (r : SlotRead) (es : List Listed) → listed_at page slot body r ≡ Ok es → r ≡ Bad → ⊥
not_bad page slot body r es e b = (let wrong : listed_at page slot body Bad ≡ Ok es = sym (ap (listed_at page slot body) b) ∙ e in absurd cc)

one_part : (page slot : ℕ) (body : List ℕ) (here wide : SlotRead) (ls : List Listed) → ((here ≡ Bad → ⊥) → wide ≡ here) → listed_at page slot body here ≡ Ok ls
    → present (entry_in wide ∷ []) ≡ map (λ (l : Listed). l.entry) ls
one_part page slot body here wide ls same e = search arith

pub page_parts : (inodes n : ℕ) (page : List ℕ) (k : ℕ) (ls : List Listed) → gathered_below (slot_entries inodes n page) k ≡ Ok ls
    → present (tabulated (entry_on page) k) ≡ map (λ (l : Listed). l.entry) ls
page_parts inodes n page zero ls e = (let none : [] ≡ ls = cc e in ap (map (λ (l : Listed). l.entry)) none)
page_parts inodes n page (suc k) ls e =
    let b = both-Ok (gathered_below (slot_entries inodes n page) k) (slot_entries inodes n page k) ls e in
    let bytes : List ℕ = slot_bytes k page in
    filter_map-append (λ o. o) (tabulated (entry_on page) k) (entry_on page k ∷ [])
    ∙ ap (λ l. l ++ present (entry_on page k ∷ [])) (page_parts inodes n page k b.0 b.2)
    ∙ ap (λ l. map (λ (l : Listed). l.entry) b.0 ++ l) (one_part n k (body_in_slot k page) (slot_of inodes bytes) (slot_of every_number bytes) b.1 (slot_wider inodes bytes) b.3)
    ∙ sym (map-append (λ (l : Listed). l.entry) b.0 b.1)
    ∙ ap (map (λ (l : Listed). l.entry)) b.4

blocks_parts : (core : Core) (g : ℕ → List ℕ) (blocks : List ℕ) (ls : List Listed) → ((n : ℕ) → In n blocks → page_of core n ≡ Some (g n))
    → gathered (λ n. entries_where core.inodes n (page_of core n)) blocks ≡ Ok ls → present (parts_of (map g blocks)) ≡ map (λ (l : Listed). l.entry) ls
unfolding entries_on
blocks_parts core g [] ls there e = (let none : [] ≡ ls = cc e in ap (map (λ (l : Listed). l.entry)) none)
blocks_parts core g (n ∷ blocks) ls there e =
    let b = both-Ok (entries_where core.inodes n (page_of core n)) (gathered (λ m. entries_where core.inodes m (page_of core m)) blocks) ls e in
    let here : gathered_below (slot_entries core.inodes n (g n)) 16 ≡ Ok b.0 = ap (entries_where core.inodes n) (sym (there n (inl refl))) ∙ b.2 in
    filter_map-append (λ o. o) (slots_of_page (g n)) (parts_of (map g blocks))
    ∙ ap (λ l. l ++ present (parts_of (map g blocks))) (page_parts core.inodes n (g n) 16 b.0 here)
    ∙ ap (λ l. map (λ (l : Listed). l.entry) b.0 ++ l) (blocks_parts core g blocks b.1 (λ m i. there m (inr i)) b.3)
    ∙ sym (map-append (λ (l : Listed). l.entry) b.0 b.1)
    ∙ ap (map (λ (l : Listed). l.entry)) b.4

apart_same : (ls es : List Listed) (o : Option Location) → unless_repeated ls o ≡ Ok es → ls ≡ es
apart_same ls es None e = (let t : Ok ls ≡ Ok es = e in cc t)
apart_same ls es (Some place) e = absurd cc

-- the entries that a directory reads are those in its slots, in their order
pub entries-parts : (core : Core) (g : ℕ → List ℕ) (blocks : List ℕ) (es : List Listed) → ((n : ℕ) → In n blocks → page_of core n ≡ Some (g n))
    → entries_within core Directory blocks ≡ Ok es → present (parts_of (map g blocks)) ≡ map (λ (l : Listed). l.entry) es
entries-parts core g blocks es there e = search (arith, result_then-Ok, blocks_parts, apart_same)

-- ---- no entries

In-tabulated : {X : Type 0} (f : ℕ → X) (n k : ℕ) → k < n → In (f k) (tabulated f n)
In-tabulated f zero k lt = absurd (omega (arith, lt))
In-tabulated f (suc n) k lt =
    elim (cases_eq k n) [
      | inl same ↦ In-right (f k) (tabulated f n) (f n ∷ []) (inl (ap f same))
      | inr differ ↦ (let l : k < n = omega arith in In-left (f k) (tabulated f n) (f n ∷ []) (In-tabulated f n k l))
    ]

In-present : {X : Type 0} (x : X) (xs : List (Option X)) → In (Some x) xs → In x (present xs)
In-present x [] i = i
In-present x (None ∷ xs) i = elim i [ inl same ↦ absurd (let t : Some x ≡ None = same in cc t) | inr j ↦ In-present x xs j ]
In-present x (Some y ∷ xs) i = elim i [ inl same ↦ inl (let t : Some x ≡ Some y = same in cc t) | inr j ↦ inr (In-present x xs j) ]

In-length : {X : Type 0} (x : X) (xs : List X) → In x xs → length xs ≡ 0 → ⊥
In-length x [] i e = i
In-length x (y ∷ ys) i e = absurd (omega (arith, e))

-- a directory whose slots have no name has no entry in a slot
pub no_entries : (pages : List (List ℕ)) (page : List ℕ) (slot : ℕ) (e : EntryPart) → length (filter is_some (slots_of every_number pages)) ≡ 0 → In page pages → slot < 16
    → entry_on page slot ≡ Some e → ⊥
no_entries pages page slot e none i lt on =
    let there : In (Some e) (parts_of pages) =
    In-flat slots_of_page page (Some e) pages i (subst (λ x. In x (slots_of_page page)) on (In-tabulated (entry_on page) 16 slot lt)) in
    In-length e (present (parts_of pages)) (In-present e (parts_of pages) there)
    (sym (length-present (parts_of pages)) ∙ ap (λ l. length (filter is_some l)) (sym (slots_of-parts pages)) ∙ none)
