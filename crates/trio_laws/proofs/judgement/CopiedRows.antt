-- The rows that a case copies are all that I1, I2, I4 and the listing look at.
use Rattle.trio_laws.proofs.Words.{◌&&◌, ◌<◌, ◌||◌, ◌∙◌, ◌∷◌, ◌≡◌, ◌⊎◌, Bool, Bundle, Case, Core, Err, FileRead, In, In-is_among, IsJudgeable, Kind, List, Listed, Location, Met, None, Ok, Option, Result, Row, SlotRead, Some, State, Written, [], ap, arith, below_from, body_in_slot, both_ways, bundle_core, case_of, cases_Bool, cases_lt, child_parent, children_in, cond, creds_of, entries_in, entries_where, entries_within, entry_keeps_rights, file_keeps_rights, file_within, flat_map, fronts, gathered_from, get_or_past, inl, inr, is_among, is_among-In, is_kept, is_ok, is_place_of, is_written, judged_entries, list_all, listed_at, listing, map, map-In, meets_grammar, meets_owning, meets_rights, met_cases, met_in, new_entries, or_left, or_right, place_parts, plain, read_met, refl, result_then-Ok, row_at, row_in, settled, slot_bytes, slot_entries, slot_of, sorted_by, sorted_in, subst, suc, sym, tabulated-get, tabulated-past, true, unless_repeated, with_copied, within_from, written_at, written_files, written_met, ℕ}
use Rattle.trio_layout.specs.Copied.{copied_row, copied_rows, is_copied}
use Rattle.trio_layout.specs.Entries.{entries_on}
use Rattle.trio_layout.specs.JudgedFiles.{judged_files}
use Rattle.trio_layout.specs.declared.slot.SlotRead.TheVariants.{Entry}
use Rattle.trio_surveys.proofs.Places.{entry_numbered}
use Rattle.trio_laws.specs.RuleLaws.{CopiedRowsSuffice}
use Rattle.trio_laws.proofs.judgement.CaseFacts.{live, new_not_live, is_written_from, row_of_met}
use Rattle.trio_laws.proofs.judgement.JudgedFacts.{judged_from, new_from, entry_from, written_ino}

all_same : {X : Type 0} (p q : X → Bool) (xs : List X) → ((x : X) → In x xs → p x ≡ q x) → list_all p xs ≡ list_all q xs
all_same p q [] h = refl
all_same p q (x ∷ xs) h = ap (λ b. b && list_all p xs) (h x (inl refl)) ∙ ap (λ b. q x && b) (all_same p q xs (λ y i. h y (inr i)))

map_same : {X Y : Type 0} (f g : X → Y) (xs : List X) → ((x : X) → In x xs → f x ≡ g x) → map f xs ≡ map g xs
map_same f g [] h = refl
map_same f g (x ∷ xs) h = ap (λ y. y ∷ map f xs) (h x (inl refl)) ∙ ap (λ ys. g x ∷ ys) (map_same f g xs (λ y i. h y (inr i)))

-- ---- an entry has a number from 1 on

apart_is : (o : Option Location) (ls es : List Listed) → unless_repeated ls o ≡ Ok es → ls ≡ es
apart_is None ls es e = cc
apart_is (Some place) ls es e = absurd cc

slot_says : (page slot : ℕ) (body : List ℕ) (r : SlotRead) (es : List Listed) (l : Listed) → listed_at page slot body r ≡ Ok es → In l es → r ≡ Entry l.entry
slot_says page slot body r es l e i = search arith

where_numbered : (inodes page : ℕ) (o : Option (List ℕ)) (es : List Listed) (l : Listed) → entries_where inodes page o ≡ Ok es → In l es → 0 < l.entry.ino
unfolding entries_on
where_numbered inodes page None es l e i = (let n : [] ≡ es = cc in absurd (subst (λ x. In l x) (sym n) i))
where_numbered inodes page (Some bytes) es l e i =
    let b = below_from (slot_entries inodes page bytes) 16 es l e i in
    let says = slot_says page b.0 (body_in_slot b.0 bytes) (slot_of inodes (slot_bytes b.0 bytes)) b.1 l b.3 b.4 in
    (entry_numbered inodes (slot_bytes b.0 bytes) l.entry says).0

kind_numbered : (core : Core) (kind : Kind) (blocks : List ℕ) (es : List Listed) (l : Listed) → entries_within core kind blocks ≡ Ok es → In l es → 0 < l.entry.ino
kind_numbered core kind blocks es l e i = search (arith, result_then-Ok, apart_is, gathered_from, where_numbered)

entry_number : (core : Core) (m e : Met) (r : Result FileRead Location) → file_within core m ≡ r → In e (children_in plain m.ino r) → (0 < e.ino) × (e.parent ≡ m.ino)
entry_number core m e (Err p) q i = absurd i
entry_number core m e (Ok f) q i =
    let l = map-In (met_in plain m.ino) e f.entries i in
    let low : 0 < l.0.entry.ino = kind_numbered core m.kind f.chain.blocks f.entries l.0 (within_from core m f q).entries l.1 in
    let is : e.ino ≡ l.0.entry.ino = ap (λ (x : Met). x.ino) l.2 in
    let low' : 0 < e.ino = omega (arith, low, is) in
    (low', ap (λ (x : Met). x.parent) l.2)

-- ---- rows

copied_at : (b : Bundle) (rows : List (Option Row)) (n : ℕ) → row_in (copied_rows b rows) n ≡ copied_row b n (row_in rows n)
copied_at b rows n = search (arith, cases_lt, tabulated-get, tabulated-past, get_or_past)

own_row : (b : Bundle) (n : ℕ) (o : Option Row) → (is_written b n ≡ true) ⊎ In n b.holds → copied_row b n o ≡ o
own_row b n o h = search (arith, or_left, or_right, In-is_among)

child_row : (b : Bundle) (n : ℕ) (r : Row) → is_written b r.parent ≡ true → copied_row b n (Some r) ≡ Some r
child_row b n r w = ap (λ t. cond t (Some r) None) (or_right (is_written b n || is_among n b.holds) (is_written b r.parent) w)

-- a place that a row names is named by the copied row, where the directory is written or is no row's parent
place_step : (b : Bundle) (n d p t : ℕ) (o : Option Row) (k : Bool) → is_copied b n o ≡ k → ((r : Row) → o ≡ Some r → r.parent ≡ d → is_written b d ≡ true) → is_place_of d p t (cond k o None) ≡ is_place_of d p t o
place_step b n d p t o k e h = search (arith, cases_Bool, place_parts, both_ways, or_right)

module _ (s : State) (lib : ℕ) (b : Bundle) (j : IsJudgeable s lib b) where
  abbrev c : Case
  c = case_of (settled s) (creds_of s lib) b

  abbrev d : Case
  d = with_copied (case_of (settled s) (creds_of s lib) b)

  rows_written : (w : Written) → In w b.writes → row_in d.rows w.ino ≡ row_in c.rows w.ino
  rows_written w i = copied_at b c.rows w.ino ∙ own_row b w.ino (row_in c.rows w.ino) (inl (is_written_from s lib b j w i))

  files_same : written_files d ≡ written_files c
  files_same =
      map_same (written_met d) (written_met c) (sorted_by (λ (w : Written). w.ino) b.writes) (λ w i. ap (written_at w) (rows_written w (sorted_in (λ (w : Written). w.ino) w b.writes i)))

  pub judged_same : judged_files d ≡ judged_files c
  unfolding judged_files
  judged_same = ap (λ ws. (fronts (new_entries c) ws (suc c.inodes)).passed) files_same

  -- no row names a new file for its parent
  new_childless : (x : Met) (n : ℕ) (r : Row) → In x.ino b.numbers → 0 < x.ino → row_at (settled s) n ≡ Some r → r.parent ≡ x.ino → ⊥
  new_childless x n r new low row is =
      let m = live s lib b j n r row in
      elim (met_cases (settled s).core plain j.kept.fit.numbers j.kept.verifies.sound m.met m.stands) [
        | inl z ↦ search arith
        | inr q ↦
            let f = read_met (settled s).core plain j.kept.fit j.kept.verifies.sound q.0 q.1 in
            let p : x.ino ≡ q.0.ino = sym is ∙ ap (λ (y : Row). y.parent) m.row ∙ child_parent (settled s).core plain q.0 m.met q.2 in
            new_not_live s lib b j x.ino _ new (ap (row_at (settled s)) p ∙ row_of_met s lib b j q.0 f.0 q.1 f.1)
      ]

  -- the directory of a judged entry is written, where a row names it
  dir_written : (e : Met) (n : ℕ) (r : Row) → In e (judged_entries c) → row_at (settled s) n ≡ Some r → r.parent ≡ e.parent → is_written b e.parent ≡ true
  dir_written e n r i row is =
      let x = entry_from s lib b j e i in
      let dir : e.parent ≡ x.0.ino = (entry_number (bundle_core c) x.0 e (file_within (bundle_core c) x.0) refl x.2).1 in
      elim (judged_from s lib b j x.0 x.1) [
        | inl w ↦ ap (is_written b) (dir ∙ ap (λ (y : Met). y.ino) w.2 ∙ written_ino c w.0) ∙ is_written_from s lib b j w.0 w.1
        | inr y ↦
            let k = new_from s lib b j y.0 x.0 y.2 in
            let low = (entry_number (bundle_core c) y.0 x.0 (file_within (bundle_core c) y.0) refl k.0).0 in
            absurd (new_childless x.0 n r k.1 low row (is ∙ dir))
      ]

  pub kept_same : (e : Met) → In e (judged_entries c) → is_kept d e ≡ is_kept c e
  kept_same e i =
      ap (is_place_of e.parent e.page e.slot) (copied_at b c.rows e.ino)
      ∙ place_step b e.ino e.parent e.page e.slot (row_in c.rows e.ino) (is_copied b e.ino (row_in c.rows e.ino)) refl
      (λ r row is. dir_written e e.ino r i row is)

  pub entries_same : judged_entries d ≡ judged_entries c
  entries_same = ap (flat_map (entries_in c)) judged_same

  grammar_same : meets_grammar d ≡ meets_grammar c
  grammar_same = search (arith, is_ok, judged_same, all_same, kept_same)

  owning_same : meets_owning d ≡ meets_owning c
  owning_same = search (arith, judged_same, all_same, kept_same)

  -- the row of a kept child or a held file is copied
  pub entry_rights_same : (e : Met) → In e (judged_entries c) → entry_keeps_rights d e ≡ entry_keeps_rights c e
  entry_rights_same e i = search (arith, kept_same, copied_at, own_row, place_parts, dir_written, child_row, is_among-In)

  pub file_rights_same : (m : Met) (r : Result FileRead Location) → file_keeps_rights d m r ≡ file_keeps_rights c m r
  file_rights_same m r = search (arith, copied_at, own_row)

  rights_same : meets_rights d ≡ meets_rights c
  rights_same = search (arith, judged_same, all_same, entry_rights_same, file_rights_same)

  listing_same : listing d ≡ listing c
  listing_same = search (arith, judged_same, map_same, kept_same)

pub copied_rows_suffice : CopiedRowsSuffice
copied_rows_suffice s lib b j = (grammar_same s lib b j, owning_same s lib b j, rights_same s lib b j, listing_same s lib b j)
