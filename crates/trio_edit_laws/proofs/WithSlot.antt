-- A directory that has no empty slot grows by a block of them.
use Rattle.trio_edit_laws.proofs.Words.{◌%◌, ◌++◌, ◌+◌, ◌/◌, ◌<◌, ◌∙◌, ◌∷◌, ◌≡◌, ◌≤◌, AreSpare, AreWithinLimits, ComesToShown, DeskSeen, Directory, Done, EntryPart, GetsSlots, In, InoParts, IsOpenDir, LentFile, List, MadeFile, MayGoOn, NamesStay, None, Option, Place, SessionSeen, Shown, Some, TakesMore, [], ap, arith, block_count, body_in, cases_eq, chain_in, cond, drop, empty_shown, entry_shown, eq-eqb, eqb, every_number, find, first_slot, growth, in_hand, inl, ino_numbers, inr, is_none, is_some, kind_shown, length, length-drop, length-map, made_file, map, option_map, option_or, page_in, page_numbers, place_at, place_of, place_shown, read_file, refl, replicate, size_in, slot_growth, slot_with, slots_of, slots_shown, spare_numbers, spare_pages, subst, suc, sym, true, ℕ}
use Rattle.std.proofs.Common.{zero-add}
use Rattle.trio_auxdir.proofs.Kept.{place_of-empties}
use Rattle.trio_session.specs.Seen.{grown}
use Rattle.trio_edit_laws.proofs.Growing.{edit_grown}
use Rattle.trio_edit_laws.proofs.Keeps.{IsEdit}
use Rattle.trio_edit_laws.proofs.directories.Sees.{pages_open, place_open}
use Rattle.trio_edit_laws.proofs.directories.Slotted.{spot}
use Rattle.trio_edit_laws.proofs.GrowingDir.{grow_dir_shows}
use Rattle.trio_session.proofs.Alike.{calls-grown, placed-grown}
use Rattle.trio_session.specs.Deeds.{with_slot}
use Rattle.trio_edit_laws.proofs.session.ListedPages.{taking_keeps}

-- so many are left behind those that are taken
drop-left : (xs : List ℕ) (k more left : ℕ) → length (drop k xs) ≡ more + left → length (drop (k + more) xs) ≡ left
drop-left xs k more left e = omega (arith, length-drop k xs, length-drop (k + more) xs, e)

-- empty slots behind others are found
empty_behind : (xs ys : List (Option (List ℕ))) → is_some (first_slot is_none (xs ++ None ∷ ys)) ≡ true
empty_behind [] ys = refl
empty_behind (None ∷ xs) ys = refl
empty_behind (Some name ∷ xs) ys = by (first_slot is_none (xs ++ None ∷ ys)) (empty_behind xs ys)
  where
    by : (o : Option ℕ) → is_some o ≡ true → is_some (option_map suc o) ≡ true
    by (Some i) e = refl
    by None e = absurd (cc e)

some_place : (o : Option ℕ) → is_some o ≡ true → is_some (option_map place_at o) ≡ true
some_place (Some i) e = refl
some_place None e = absurd (cc e)

-- a name stands on a block of its directory
named_within : (s : SessionSeen) (dir : ℕ) (name : List ℕ) (place : Place) → IsOpenDir s dir → place_shown s dir name ≡ Some place → place.block < length (chain_in s dir).blocks
named_within s dir name place open_dir found =
    by (slot_with name (slots_of every_number (map (page_in s.parcel) (chain_in s dir).blocks))) refl
    (ap (λ l. option_map place_at (slot_with name l)) (sym (ap (slots_of every_number) (pages_open s dir open_dir.directory))) ∙ sym (place_open s dir open_dir.directory name) ∙ found)
  where
    pages : List (List ℕ)
    pages = map (page_in s.parcel) (chain_in s dir).blocks

    by : (q : Option ℕ) → slot_with name (slots_of every_number pages) ≡ q → option_map place_at q ≡ Some place → place.block < length (chain_in s dir).blocks
    by None f k = absurd (let t : None ≡ Some place = k in cc t)
    by (Some i) f k =
        let t : Some (place_at i) ≡ Some place = k in
        let z : place_at i ≡ place = cc t in
        let sp = spot pages name i f in
        let lt : i / 16 < length pages = sp.block in
        subst (λ (p : Place). p.block < length (chain_in s dir).blocks) z (omega (arith, lt, length-map (chain_in s dir).blocks (page_in s.parcel)))

-- A directory has an empty slot now, and of the allotted pages so many are spare still; the same nodes are shown, and each name is where it was.
pub record IsSlotted (desk : DeskSeen) (s t : SessionSeen) (dir' left' : ℕ) : Type 0 where
  pub may : MayGoOn desk t
  pub more : TakesMore desk (in_hand s) (in_hand t)
  pub names : NamesStay s t
  pub empty : is_some (empty_shown t dir') ≡ true
  pub calls : t.calls ≡ s.calls
  pub spare : AreSpare desk t
  pub left : length (spare_pages t) ≡ left'
  pub numbers : spare_numbers t ≡ spare_numbers s

pub no_length : (xs : List ℕ) → length xs ≡ 0 → xs ≡ []
no_length [] e = refl
no_length (x ∷ xs) e = absurd (omega (arith, e))

module _ (desk : DeskSeen) (s : SessionSeen) (dir left : ℕ) (limits : AreWithinLimits desk.sizes) (go : MayGoOn desk s) (spare : AreSpare desk s) (is : IsOpenDir s dir)
    (few : size_in (body_in s dir) ≤ 33554432) (whole : size_in (body_in s dir) % 4096 ≡ 0) (count : block_count (size_in (body_in s dir)) ≡ length (chain_in s dir).blocks)
    (pages : length (spare_pages s) ≡ slot_growth s dir + left) where
  abbrev size : ℕ
  size = size_in (body_in s dir) + 4096

  abbrev b : ℕ
  b = length (chain_in s dir).blocks

  -- one block more
  one_more : block_count (size_in (body_in s dir) + 4096) ≡ length (chain_in s dir).blocks + 1
  one_more = omega (arith, count, whole)

  module _ (none : empty_shown s dir ≡ None) where
    abbrev t : SessionSeen
    t = grown dir (size_in (body_in s dir) + 4096) s

    all_spare : length (spare_pages s) ≡ growth (length (chain_in s dir).blocks) (block_count (size_in (body_in s dir) + 4096)) + left
    all_spare =
        pages ∙ ap (λ o. cond (is_some o) 0 (growth (length (chain_in s dir).blocks) (length (chain_in s dir).blocks + 1)) + left) none
        ∙ ap (λ n. growth (length (chain_in s dir).blocks) n + left) (sym one_more)

    room : growth (length (chain_in s dir).blocks) (block_count (size_in (body_in s dir) + 4096)) ≤ length (spare_pages s)
    room = omega (arith, all_spare)

    g : GetsSlots desk s (grown dir (size_in (body_in s dir) + 4096) s) dir
    g = grow_dir_shows desk s dir limits go.edits spare is room

    edit : IsEdit desk s (grown dir (size_in (body_in s dir) + 4096) s) dir Directory
    edit =
        edit_grown desk s dir Directory (size_in (body_in s dir) + 4096) limits go.edits spare is.directory (omega arith) (omega (arith, few))
        (eq-eqb ((size_in (body_in s dir) + 4096) % 4096) 0 (omega (arith, whole))) room

    kinds : (n : ℕ) → kind_shown t n ≡ kind_shown s n
    kinds n =
        ap (λ o. option_or o (option_map (λ (f : Shown). f.kind) (read_file t n))) (g.others.opens n)
        ∙ ap (λ (l : List Shown). option_or (option_or (option_map (λ (m : MadeFile). m.kind) (made_file s n)) (option_map (λ (f : Shown). f.kind) (written s n))) (option_map (λ (f : Shown). f.kind) (find (λ (f : Shown). eqb f.ino n) l))) g.others.reads
      where
        written : SessionSeen → ℕ → Option Shown
        written q k = option_map (λ (f : LentFile). f.stands) (find (λ (f : LentFile). eqb f.stands.ino k) q.parcel.writes)

    places_dir : (name : List ℕ) → place_shown t dir name ≡ place_shown s dir name
    places_dir name =
        place_open t dir g.opens.directory name ∙ place_of-empties (slots_shown s dir) (slots_shown t dir) 16 name g.slots ∙ sym (place_open s dir is.directory name)

    names : NamesStay s (grown dir (size_in (body_in s dir) + 4096) s)
    names = record {
      opens = g.others.opens;
      places = λ n name. elim (cases_eq n dir) [
        | inl same ↦ subst (λ k. place_shown t k name ≡ place_shown s k name) (sym same) (places_dir name)
        | inr differ ↦ ap (λ k. place_of k (slots_shown t n) name) (kinds n) ∙ ap (λ l. place_of (kind_shown s n) l name) (g.others.slots n differ)
      ];
      entries = λ n name place at. elim (cases_eq n dir) [
        | inl same ↦ ap (λ k. entry k place) same ∙ g.entries place (named_within s dir name place is (ap (λ k. place_shown s k name) (sym same) ∙ at)) ∙ ap (λ k. entry_before k place) (sym same)
        | inr differ ↦ g.others.entries n place differ
      ];
      holds = g.others.holds;
      reads = g.others.reads;
      indexed = g.others.indexed;
    }
      where
        entry : ℕ → Place → Option EntryPart
        entry k place = entry_shown t k place

        entry_before : ℕ → Place → Option EntryPart
        entry_before k place = entry_shown s k place

    left_then : length (spare_pages (grown dir (size_in (body_in s dir) + 4096) s)) ≡ left
    left_then =
        let wanted : ℕ = growth (length (chain_in s dir).blocks) (block_count (size_in (body_in s dir) + 4096)) in
        ap (λ n. length (drop n (page_numbers t.parcel.pages))) (placed-grown dir (size_in (body_in s dir) + 4096) s)
        ∙ ap (λ l. length (drop (s.placed + wanted) l)) edit.alters.fresh ∙ drop-left (page_numbers s.parcel.pages) s.placed wanted left all_spare

    calls : (grown dir (size_in (body_in s dir) + 4096) s).calls ≡ s.calls
    calls = calls-grown dir (size_in (body_in s dir) + 4096) s

    go_on : MayGoOn desk (grown dir (size_in (body_in s dir) + 4096) s)
    go_on = record {
      edits = g.may;
      comes = subst (λ (cs : List Done). ComesToShown desk t.parcel t.reads cs) (sym calls) (taking_keeps desk (in_hand s) (in_hand t) s.calls g.becomes go.comes);
      made = λ d i some.
          subst (λ (l : List InoParts). In d.made (ino_numbers l)) (sym g.others.inodes) (go.made d (subst (λ (cs : List Done). In d cs) calls i) some);
    }

    grown_slotted : IsSlotted desk s (grown dir (size_in (body_in s dir) + 4096) s) dir left
    grown_slotted = record {
      may = go_on;
      more = g.becomes.more;
      names = names;
      empty = some_place (first_slot is_none (slots_shown t dir)) (ap (λ l. is_some (first_slot is_none l)) g.slots ∙ empty_behind (slots_shown s dir) (replicate 15 None));
      calls = calls;
      spare = g.spare;
      left = left_then;
      numbers = g.others.numbers;
    }

  -- with a slot
  pub slotted : IsSlotted desk s (with_slot dir s) dir left
  slotted = by (empty_shown s dir) refl
    where
      by : (o : Option Place) → empty_shown s dir ≡ o → IsSlotted desk s (with_slot dir s) dir left
      by None e =
          subst (λ (q : SessionSeen). IsSlotted desk s q dir left) (sym (ap (λ (o : Option Place). cond {A = SessionSeen} (is_some o) s (grown dir (size_in (body_in s dir) + 4096) s)) e)) (grown_slotted e)
      by (Some place) e =
          subst (λ (q : SessionSeen). IsSlotted desk s q dir left) (sym (ap (λ (o : Option Place). cond {A = SessionSeen} (is_some o) s (grown dir (size_in (body_in s dir) + 4096) s)) e))
          (record {
            may = go;
            more = λ nodes rows p. p;
            names = record { opens = λ n. refl; places = λ n name. refl; entries = λ n name p at. refl; holds = refl; reads = refl; indexed = refl };
            empty = ap is_some e;
            calls = refl;
            spare = spare;
            left = pages ∙ ap (λ (o : Option Place). cond (is_some o) 0 (growth (length (chain_in s dir).blocks) (length (chain_in s dir).blocks + 1)) + left) e ∙ zero-add left;
            numbers = refl;
          })
