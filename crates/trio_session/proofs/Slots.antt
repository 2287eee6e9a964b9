-- A directory that is lent is in the grammar of its own image. So it is in that of any number of 32 bits, and says the same.
use Rattle.trio_session.proofs.Words.{◌&&◌, ◌++◌, ◌-◌, ◌<◌, ◌^◌, ◌∙◌, ◌∷◌, ◌≡◌, ◌≤◌, AreRead, Bad, Bool, Core, Directory, Empty, Entry, EntryPart, In, In-left, In-map, In-right, IsWellLent, LentPage, List, NamesDiffer, None, Ok, Option, Result, Sheet, Shown, Sizes, SlotRead, Some, [], absent_from, and_from, and_parts, ap, append_assoc, are_new, are_new-first, arith, at_page, body_in_slot, both, bytes_eq, cases_lt, cond, dir_pages, drop, entry_fits, eqb, every_number, false, false_from_ne_true, false≢true, gathered_below, get_or, get_or-set_same, inl, inr, is_core, is_directory_page, is_name, is_ok, le-leb, leb, length, length-set, lent_core, lent_numbers, lent_sheet, listed_at, ltb, map, map-In, map-append, name_in, numbers_of_file, page_of, refl, result_then-Ok, slot_bytes, slot_entries, slot_on, slot_with, slots_of, subst, suc, sym, tabulated, take, take-append-drop, take-append_seam, there_or-Ok, true, w32, zero, zeros, ℕ}
use Rattle.std.proofs.Common.{set}
use Rattle.std.specs.Prelude.{replicate}
use Rattle.std.specs.Int.{to_le_bytes}
use Rattle.std.proofs.lemmas.List.{get_or-set_other, get_or_past}
use Rattle.trio_page.specs.Field.{number_at}
use Rattle.trio_page.proofs.Cursor.{IsBytes, wide32}
use Rattle.trio_page.proofs.Fields.{length-to_le_bytes}
use Rattle.trio_rights.specs.Kind.{kind_byte}
use Rattle.trio_rights.specs.Sheets.{with_pages}
use Rattle.trio_lists.specs.Lists.{gathered, result_then, there_or}
use Rattle.trio_lists.proofs.Members.{both-Ok, is_ok-Ok}
use Rattle.trio_lists.proofs.Filters.{In-list_any}
use Rattle.trio_layout.proofs.Reading.{bytes_eq-true}
use Rattle.trio_layout.specs.Core.{Location}
use Rattle.trio_layout.specs.Slot.{entry_at, entry_bytes, slot_of}
use Rattle.trio_layout.specs.Entries.{Listed, entries_of_kind, entries_on, has_name as has_listed, page_entries, place_of, repeated_name, unless_repeated, with_names_apart}
use Rattle.trio_auxdir.specs.Slots.{has_name, slots_on}
use Rattle.trio_auxdir.proofs.SlotLists.{names_apart}

-- ---- one slot, in images of more or fewer numbers

same_by : (x : EntryPart) (a b f g : Bool) → (cond a Empty (cond (b && f) (Entry x) Bad) ≡ Bad → ⊥) → (b ≡ true → f ≡ true → g ≡ true)
    → cond a Empty (cond (b && g) (Entry x) Bad) ≡ cond a Empty (cond (b && f) (Entry x) Bad)
same_by x true b f g ne t = refl
same_by x false false f g ne t = absurd (ne refl)
same_by x false true false g ne t = absurd (ne refl)
same_by x false true true true ne t = refl
same_by x false true true false ne t = absurd (false≢true (t refl refl))

digits_small : (n : ℕ) → IsBytes (to_le_bytes w32 n)
digits_small n zero = omega arith
digits_small n (suc zero) = omega arith
digits_small n (suc (suc zero)) = omega arith
digits_small n (suc (suc (suc zero))) = omega arith
digits_small n (suc (suc (suc (suc i)))) = omega arith

-- the first bytes of a slot that spells an entry
first_bytes : (bytes : List ℕ) (x : EntryPart) → take 192 bytes ≡ entry_bytes x → take 4 bytes ≡ to_le_bytes w32 x.ino
unfolding entry_bytes
first_bytes bytes x spelled =
    let T : List ℕ = to_le_bytes w32 x.ino in
    let K : List ℕ = kind_byte x.kind ∷ length x.name ∷ 0 ∷ 0 ∷ [] in
    let N : List ℕ = x.name in
    let Z : List ℕ = zeros (184 - length x.name) in
    let R : List ℕ = drop 192 bytes in
    let four : length T ≡ 4 = length-to_le_bytes w32 x.ino in
    let joined : (((T ++ K) ++ N) ++ Z) ++ R ≡ T ++ (K ++ (N ++ (Z ++ R))) = simp append_assoc in
    let whole : bytes ≡ T ++ (K ++ (N ++ (Z ++ R))) = sym (take-append-drop 192 bytes) ∙ ap (λ q. q ++ R) spelled ∙ joined in
    ap (take 4) whole ∙ ap (λ k. take k (T ++ (K ++ (N ++ (Z ++ R))))) (sym four) ∙ take-append_seam T (K ++ (N ++ (Z ++ R)))

number_fits : (bytes : List ℕ) → take 192 bytes ≡ entry_bytes (entry_at bytes) → (entry_at bytes).ino < 2 ^ 32
unfolding number_at
number_fits bytes spelled =
    let P : List ℕ → Type 0 = λ q. IsBytes q in
    wide32.below (take 4 bytes) (subst P (sym (first_bytes bytes (entry_at bytes) spelled)) (digits_small (entry_at bytes).ino))

-- a slot in the grammar of an image reads the same in any of 32 bits
pub slot_wider : (inodes : ℕ) (bytes : List ℕ) → (slot_of inodes bytes ≡ Bad → ⊥) → slot_of every_number bytes ≡ slot_of inodes bytes
unfolding slot_of
slot_wider inodes bytes ne =
    let x : EntryPart = entry_at bytes in
    same_by x (eqb x.ino 0) (bytes_eq (take 192 bytes) (entry_bytes x)) (entry_fits inodes x) (entry_fits every_number x) ne
    (λ spelled fits.
    let p = and_parts (ltb 0 x.ino && leb x.ino inodes) (is_name x.name) fits in
    let q = and_parts (ltb 0 x.ino) (leb x.ino inodes) p.0 in
    let lt : x.ino < 2 ^ 32 = number_fits bytes (bytes_eq-true (take 192 bytes) (entry_bytes x) spelled) in
    let le : x.ino ≤ every_number = omega (arith, lt) in
    and_from (ltb 0 x.ino && leb x.ino every_number) (is_name x.name) (and_from (ltb 0 x.ino) (leb x.ino every_number) q.0 (le-leb x.ino every_number le)) p.1)

-- ---- the names of slots

abbrev Slot : Type 0
Slot = Option (List ℕ)

abbrev names : List Slot → List (List ℕ)
names [] = []
names (None ∷ slots) = names slots
names (Some name ∷ slots) = name ∷ names slots

abbrev listed_names : List Listed → List (List ℕ)
listed_names ls = map (λ l. l.entry.name) ls

names-append : (xs ys : List Slot) → names (xs ++ ys) ≡ names xs ++ names ys
names-append [] ys = refl
names-append (None ∷ xs) ys = names-append xs ys
names-append (Some name ∷ xs) ys = ap (λ ns. name ∷ ns) (names-append xs ys)

-- one slot lists its name, and is in the grammar of any number
slot_runs : (page slot : ℕ) (body : List ℕ) (here wide : SlotRead) (ls : List Listed) → ((here ≡ Bad → ⊥) → wide ≡ here) → listed_at page slot body here ≡ Ok ls
    → (names (name_in wide ∷ []) ≡ listed_names ls) × (ms : List Listed) × (listed_at 0 slot body wide ≡ Ok ms)
slot_runs page slot body Empty wide ls same e =
    let w : wide ≡ Empty = same (λ b. absurd cc) in
    let n : [] ≡ ls = cc e in
    (ap (λ r. names (name_in r ∷ [])) w ∙ ap listed_names n, [], ap (listed_at 0 slot body) w)
slot_runs page slot body Bad wide ls same e = absurd cc
slot_runs page slot body (Entry x) wide ls same e =
    let w : wide ≡ Entry x = same (λ b. absurd cc) in
    let one : Listed = record { entry = x; page = page; slot = slot; body = body } in
    let n : one ∷ [] ≡ ls = cc e in
    (ap (λ r. names (name_in r ∷ [])) w ∙ ap listed_names n, record { entry = x; page = 0; slot = slot; body = body } ∷ [], ap (listed_at 0 slot body) w)

both_is : {X E : Type 0} (p q : Result (List X) E) (xs ys : List X) → p ≡ Ok xs → q ≡ Ok ys → both p q ≡ Ok (xs ++ ys)
both_is p q xs ys ep eq = rw (ep, eq) refl

-- the first slots of a page
page_runs : (inodes n : ℕ) (page : List ℕ) (k : ℕ) (ls : List Listed) → gathered_below (slot_entries inodes n page) k ≡ Ok ls
    → (names (tabulated (slot_on every_number page) k) ≡ listed_names ls) × (ms : List Listed) × (gathered_below (slot_entries every_number 0 page) k ≡ Ok ms)
page_runs inodes n page zero ls e = (let none : [] ≡ ls = cc e in ap listed_names none, [], refl)
page_runs inodes n page (suc k) ls e =
    let b = both-Ok (gathered_below (slot_entries inodes n page) k) (slot_entries inodes n page k) ls e in
    let xs : List Listed = b.0 in
    let ys : List Listed = b.1 in
    let before = page_runs inodes n page k xs b.2 in
    let bytes : List ℕ = slot_bytes k page in
    let here = slot_runs n k (body_in_slot k page) (slot_of inodes bytes) (slot_of every_number bytes) ys (slot_wider inodes bytes) b.3 in (
      names-append (tabulated (slot_on every_number page) k) (slot_on every_number page k ∷ [])
          ∙ ap (λ ns. ns ++ names (slot_on every_number page k ∷ [])) before.0 ∙ ap (λ ns. listed_names xs ++ ns) here.0
          ∙ sym (map-append (λ (l : Listed). l.entry.name) xs ys) ∙ ap listed_names b.4,
      before.1 ++ here.1,
      both_is (gathered_below (slot_entries every_number 0 page) k) (slot_entries every_number 0 page k) before.1 here.1 before.2 here.2,
    )

-- ---- the pages that a lease shows

put_other : (xs : List Sheet) (pages : List (Option (List ℕ))) (n : ℕ) → (In n (map (λ x. x.page) xs) → ⊥) → get_or (with_pages xs pages) n None ≡ get_or pages n None
put_other [] pages n not = refl
put_other (x ∷ xs) pages n not =
    put_other xs (set pages x.page (Some x.bytes)) n (λ i. not (inr i))
    ∙ get_or-set_other pages x.page n (Some x.bytes) None (λ e. not (inl e))

put_same : (pages : List (Option (List ℕ))) (n : ℕ) (a b : List ℕ) → get_or (set pages n (Some a)) n None ≡ Some b → b ≡ a
put_same pages n a b e = elim (cases_lt n (length pages)) [
  | inl lt ↦ (let t : Some a ≡ Some b = sym (get_or-set_same pages n (Some a) None lt) ∙ e in cc t)
  | inr le ↦ (let past : length (set pages n (Some a)) ≤ n = rw length-set le in let t : None ≡ Some b = sym (get_or_past (set pages n (Some a)) n None past) ∙ e in absurd cc)
]

put_there : (xs : List Sheet) (pages : List (Option (List ℕ))) (x : Sheet) (b : List ℕ) → are_new [] (map (λ y. y.page) xs) ≡ true → In x xs
    → get_or (with_pages xs pages) x.page None ≡ Some b → b ≡ x.bytes
put_there [] pages x b new i e = absurd i
put_there (y ∷ xs) pages x b new (inl same) e =
    let first = are_new-first y.page (map (λ (z : Sheet). z.page) xs) new in
    put_same pages y.page y.bytes b (sym (put_other xs (set pages y.page (Some y.bytes)) y.page first.0) ∙ ap (λ (z : Sheet). get_or (with_pages xs (set pages y.page (Some y.bytes))) z.page None) (sym same) ∙ e)
    ∙ ap (λ (z : Sheet). z.bytes) (sym same)
put_there (y ∷ xs) pages x b new (inr i) e =
    let first = are_new-first y.page (map (λ (z : Sheet). z.page) xs) new in
    put_there xs (set pages y.page (Some y.bytes)) x b first.1 i e

sheet_numbers : (ps : List LentPage) → map (λ x. x.page) (map lent_sheet ps) ≡ lent_numbers ps
sheet_numbers [] = refl
sheet_numbers (p ∷ ps) = ap (λ ns. p.no.0 ∷ ns) (sheet_numbers ps)

core_some : (b : Bool) (o : Option (List ℕ)) (x : List ℕ) → cond b o None ≡ Some x → o ≡ Some x
core_some true o x e = e
core_some false o x e = absurd (let t : None ≡ Some x = e in cc t)

-- the page of a number that is lent has the bytes that are lent
lent_page : (sizes : Sizes) (f : Shown) (p : LentPage) (b : List ℕ) → are_new [] (numbers_of_file f) ≡ true → In p f.blocks
    → page_of (lent_core sizes f) p.no.0 ≡ Some b → b ≡ p.page
lent_page sizes f p b new i e =
    let sheets : List Sheet = map lent_sheet (f.index ++ f.blocks) in
    let empty : List (Option (List ℕ)) = replicate sizes.range.end None in
    let there : get_or (with_pages sheets empty) p.no.0 None ≡ Some b = core_some (is_core sizes.range p.no.0) (get_or (with_pages sheets empty) p.no.0 None) b e in
    let apart : are_new [] (map (λ (x : Sheet). x.page) sheets) ≡ true =
    ap (are_new []) (sheet_numbers (f.index ++ f.blocks) ∙ map-append (λ (q : LentPage). q.no.0) f.index f.blocks) ∙ new in
    put_there sheets empty (lent_sheet p) b apart (In-map lent_sheet p (f.index ++ f.blocks) (In-right p f.index f.blocks i)) there

-- ---- all pages

-- what is read of these blocks: their names, and that each is in the grammar of any number
pub record BlocksRun (bs : List LentPage) (ls : List Listed) : Type 0 where
  pub named : names (slots_of every_number (map (λ p. p.page) bs)) ≡ listed_names ls
  pub each : (p : LentPage) → In p bs → is_directory_page every_number p.page ≡ true

blocks_run : (core : Core) (bs : List LentPage) (ls : List Listed) → ((p : LentPage) (b : List ℕ) → In p bs → page_of core p.no.0 ≡ Some b → b ≡ p.page)
    → gathered (page_entries core) (lent_numbers bs) ≡ Ok ls → BlocksRun bs ls
unfolding entries_on slots_on
blocks_run core [] ls there e = (let none : [] ≡ ls = cc e in record { named = ap listed_names none; each = λ p i. absurd i })
blocks_run core (p ∷ bs) ls there e =
    let n : ℕ = p.no.0 in
    let b = both-Ok (page_entries core n) (gathered (page_entries core) (lent_numbers bs)) ls e in
    let xs : List Listed = b.0 in
    let ys : List Listed = b.1 in
    let rest = blocks_run core bs ys (λ q w i. there q w (inr i)) b.3 in
    let first = result_then-Ok (entries_on core.inodes n) (there_or (at_page n) (page_of core n)) xs b.2 in
    let bytes : first.0 ≡ p.page = there p first.0 (inl refl) (there_or-Ok (at_page n) (page_of core n) first.0 first.1) in
    let read : gathered_below (slot_entries core.inodes n p.page) 16 ≡ Ok xs = ap (λ w. gathered_below (slot_entries core.inodes n w) 16) (sym bytes) ∙ first.2 in
    let runs = page_runs core.inodes n p.page 16 xs read in
    let more : List Slot = slots_of every_number (map (λ (q : LentPage). q.page) bs) in
    record {
      named =
          names-append (tabulated (slot_on every_number p.page) 16) more ∙ ap (λ ns. ns ++ names more) runs.0 ∙ ap (λ ns. listed_names xs ++ ns) rest.named
          ∙ sym (map-append (λ (l : Listed). l.entry.name) xs ys) ∙ ap listed_names b.4;
      each = λ q i. elim i [
        | inl same ↦ ap (λ (z : LentPage). is_ok (gathered_below (slot_entries every_number 0 z.page) 16)) same ∙ ap is_ok runs.2
        | inr j ↦ rest.each q j
      ];
    }

-- ---- names apart

free_step : (b : Bool) (place : Location) (rest : Option Location) → cond b (Some place) rest ≡ None → (b ≡ false) × (rest ≡ None)
free_step true place rest e = absurd cc
free_step false place rest e = (refl, e)

-- where no name comes again, the slots' names differ, also from those that were seen
pub record AreApartFrom (seen : List Listed) (slots : List Slot) : Type 0 where
  pub differ : NamesDiffer slots
  pub new : (x : Listed) → In x seen → slot_with x.entry.name slots ≡ None

first_same : {X : Type 0} (x y : X) (xs ys : List X) → x ∷ xs ≡ y ∷ ys → (x ≡ y) × (xs ≡ ys)
first_same x y xs ys e = (cc e, cc e)

apart_from : (seen : List Listed) (slots : List Slot) (ls : List Listed) → names slots ≡ listed_names ls → repeated_name seen ls ≡ None → AreApartFrom seen slots
apart_from seen [] ls e r = record { differ = tt; new = λ x i. refl }
apart_from seen (None ∷ slots) ls e r =
    let rest = apart_from seen slots ls e r in
    record { differ = rest.differ; new = λ x i. absent_from x.entry.name None slots refl (rest.new x i) }
apart_from seen (Some name ∷ slots) [] e r = absurd (let t : name ∷ names slots ≡ [] = e in cc t)
apart_from seen (Some name ∷ slots) (l ∷ ls) e r =
    let both = first_same name l.entry.name (names slots) (listed_names ls) e in
    let f = free_step (has_listed l.entry.name seen) (place_of l) (repeated_name (seen ++ l ∷ []) ls) r in
    let rest = apart_from (seen ++ l ∷ []) slots ls both.1 f.1 in
    record {
      differ = (ap (λ n. slot_with n slots) both.0 ∙ rest.new l (In-right l seen (l ∷ []) (inl refl)), rest.differ);
      new = λ x i.
          let other : bytes_eq x.entry.name l.entry.name ≡ false =
          false_from_ne_true (bytes_eq x.entry.name l.entry.name) (λ is. false≢true (sym f.0 ∙ In-list_any (λ (z : Listed). bytes_eq z.entry.name l.entry.name) x seen i is)) in
          let here : has_name x.entry.name (Some name) ≡ false = ap (λ n. bytes_eq n x.entry.name) both.0 ∙ names_apart x.entry.name l.entry.name other in
          absent_from x.entry.name (Some name) slots here (rest.new x (In-left x seen (l ∷ []) i));
    }

none_again : (ls es : List Listed) (o : Option Location) → unless_repeated ls o ≡ Ok es → o ≡ None
none_again ls es None e = refl
none_again ls es (Some place) e = absurd cc

-- a directory that is lent may be read
pub well_read : (sizes : Sizes) (f : Shown) → IsWellLent sizes f → f.kind ≡ Directory → AreRead (dir_pages f)
well_read sizes f well dir =
    let core : Core = lent_core sizes f in
    let ns : List ℕ = lent_numbers f.blocks in
    let ok = is_ok-Ok (entries_of_kind core f.kind ns) well.entries in
    let read : result_then with_names_apart (gathered (page_entries core) ns) ≡ Ok ok.0 = ap (λ k. entries_of_kind core k ns) (sym dir) ∙ ok.1 in
    let all = result_then-Ok with_names_apart (gathered (page_entries core) ns) ok.0 read in
    let runs = blocks_run core f.blocks all.0 (λ p b i e. lent_page sizes f p b well.once i e) all.1 in
    let apart = apart_from [] (slots_of every_number (dir_pages f)) all.0 runs.named (none_again all.0 ok.0 (repeated_name [] all.0) all.2) in
    record {
      each = λ page i. (let p = map-In (λ (q : LentPage). q.page) page f.blocks i in ap (is_directory_page every_number) p.2 ∙ runs.each p.0 p.1);
      differ = apart.differ;
    }
