-- The files that an accepted release tells, by the images before and after, are those that the bundle, its listing and the notes tell.
use Rattle.trio_laws.proofs.Words.{Bool, Bundle, Case, Core, Image, In, In-cases, In-is_among, In-left, In-map, In-right, IsJudgeable, List, ListedEntry, Listing, Met, None, Notes, Option, Pick, RawFile, Row, Some, State, Written, [], accepted_files, ap, are_new, arith, both_ways, bytes_eq, bytes_eq-Decides, case_of, cases_Bool, cond, creds_of, entry_guard, entry_listed, entry_name, entry_size, false, false_from_ne_true, filter_map, guard_in, guard_of, inl, inr, is_accepted, is_among, is_among-In, is_kept, is_listed, is_some, is_told, is_written, judged_entries, listing, map, map-In, map-id, met_numbered, name_by, name_of, next, not, noted_guard, noted_name, noted_size, notes_of, numbers, option_map, or_cases, or_left, or_right, place_from, place_parts, proposed, proposed_pick, raw_file, raw_files, refl, row_after, row_at, row_in, settled, size_in, size_of, slot_bytes, sorted_new, subst, sym, told_by, told_file, told_row, true, ℕ, ◌&&◌, ◌++◌, ◌+◌, ◌<◌, ◌||◌, ◌∙◌, ◌∷◌, ◌≡◌, ◌≤◌}
use Rattle.std.proofs.lemmas.Bool.{or_from}
use Rattle.trio_state.specs.Listed.{is_handed, is_untold, told_entry, told_gone, told_written}
use Rattle.trio_laws.proofs.judgement.CaseFacts.{held_apart, held_row, is_written_from, live_bounds, new_dead, written_find, written_row}
use Rattle.trio_laws.proofs.judgement.JudgedFacts.{entry_to, judged_from, new_from, written_ino}
use Rattle.trio_laws.proofs.judgement.ListingFacts.{held_from, held_to, is_listed_at, is_listed_by, listed_from, listed_to}
use Rattle.trio_laws.proofs.judgement.Meeting.{free_met, once_met}
use Rattle.trio_laws.proofs.judgement.MeetingEdges.{met_side}
use Rattle.trio_laws.proofs.judgement.TablesAfter.{held_is_listed, rows_listed}
use Rattle.trio_laws.proofs.judgement.Taking.{classes, fit, sound, unheld_at}
use Rattle.trio_laws.proofs.history.AcceptedFiles.{unheld_now}
use Rattle.trio_laws.proofs.history.AcceptedNames.{at_now, entry_now, fit_after, name_kept, size_listed, size_written, verifies_after, guard_listed, guard_written}
use Rattle.trio_laws.proofs.history.Listing.{listing as listed_now, name_listed, slot_named}
use Rattle.trio_laws.proofs.history.RawParts.{raw_number}
use Rattle.trio_laws.proofs.history.RefusedTold.{made_of}
use Rattle.trio_laws.proofs.history.RisingKeys.{counted_sorted, in_made, joined_new, made_in, made_new, made_number}
use Rattle.trio_laws.proofs.history.ToldNoted.{noted_name_is, noted_size_is, noted_guard_is}

-- what is there only where a test fails
unless_passed : {X : Type 0} (t : Bool) (o : Option X) (x : X) → cond t None o ≡ Some x → (t ≡ false) × (o ≡ Some x)
unless_passed true o x e = absurd cc
unless_passed false o x e = (refl, e)

-- what is told unless it is untold
told_unless : {X : Type 0} (t u : Bool) (x y : Option X) → u ≡ not t → x ≡ y → cond t x None ≡ cond u None y
told_unless true u x y e f = f ∙ sym (ap (λ q. cond q None y) e)
told_unless false u x y e f = sym (ap (λ q. cond q None y) e)

neither : (a d : Bool) → (not a && d) ≡ not (a || not d)
neither a d = search arith

module _ (s : State) (lib : ℕ) (b : Bundle) (j : IsJudgeable s lib b) (acc : is_accepted (settled s) (creds_of s lib) b ≡ true) where
  abbrev I : Image
  I = settled s

  abbrev J : Image
  J = next (settled s) b

  abbrev P : Core
  P = proposed (settled s) b

  abbrev pick : Pick
  pick = proposed_pick (settled s) b

  abbrev cs : Case
  cs = case_of (settled s) (creds_of s lib) b

  abbrev l : Listing
  l = listing (case_of (settled s) (creds_of s lib) b)

  abbrev notes : Notes
  notes = notes_of (settled s)

  -- ---- numbers

  pub bounds_now : (n : ℕ) (r : Row) → row_at (next (settled s) b) n ≡ Some r → (1 ≤ n) × (n < 1 + (settled s).core.inodes)
  bounds_now n r row =
      let w = at_now s lib b j acc n r row in
      let q = met_numbered P pick (fit s lib b j acc) (sound s lib b j acc) w.met w.stands in
      let low = q.0 in
      let high = q.1 in
      let is = w.number in
      (omega (arith, low, is), omega (arith, high, is))

  bounds_then : (n : ℕ) (r : Row) → row_at I n ≡ Some r → (1 ≤ n) × (n < 1 + I.core.inodes)
  bounds_then n r row = search (arith, live_bounds)

  -- ---- what is told of a number

  told_now : (n : ℕ) (o : Option Row) (r : Row) → told_by I J b n o (Some r) ≡ Some (told_file J b n false r)
  told_now n None r = refl
  told_now n (Some q) r = refl

  handed_told : (n : ℕ) → is_handed b n ≡ true → is_told I J b n ≡ true
  handed_told n t = or_left (is_handed b n) (is_some (row_at J n) && not (bytes_eq (name_by I n (row_at I n)) (name_by J n (row_at J n)))) t

  raw_there : (n : ℕ) (r : Row) → row_at J n ≡ Some r → raw_file I J b n ≡ cond (is_told I J b n) (Some (told_file J b n false r)) None
  raw_there n r row = ap (λ o. cond (is_told I J b n) (told_by I J b n (row_at I n) o) None) row ∙ ap (λ o. cond (is_told I J b n) o None) (told_now n (row_at I n) r)

  -- ---- an entry of a judged directory

  abbrev made : Met → ListedEntry
  made e = entry_listed (case_of (settled s) (creds_of s lib) b) e

  told_name : (n : ℕ) (r : Row) → row_at J n ≡ Some r → is_told I J b n ≡ (is_handed b n || not (bytes_eq (name_by I n (row_at I n)) (name_of J n r)))
  told_name n r row = ap (λ o. is_handed b n || (is_some o && not (bytes_eq (name_by I n (row_at I n)) (name_by J n o)))) row

  -- a kept child is told where it was handed in or has another name
  kept_untold : (e : Met) → In e (judged_entries cs) → (r : Row) → row_at J e.ino ≡ Some r → name_of J e.ino r ≡ entry_name cs (made e) → is_kept cs e ≡ true → is_untold cs notes (made e) ≡ not (is_told I J b e.ino)
  kept_untold e i r row name kept =
      let n : ℕ = e.ino in
      let q = place_parts e.parent e.page e.slot (row_at I n) kept in
      let low = (live_bounds s lib b j n q.0 q.1).1 in
      let was : noted_name notes n ≡ name_by I n (row_at I n) = noted_name_is I n q.0 low q.1 ∙ sym (ap (name_by I n) q.1) in
      search (arith, neither, told_name)

  named : (n : ℕ) (r : Row) → row_at J n ≡ Some r → (n ≡ 1 → ⊥) → name_of J n r ≡ [] → ⊥
  named n r row other none =
      let t = listed_now J (fit_after s lib b j acc) (verifies_after s lib b j acc) n r row other in
      slot_named J.core.inodes (slot_bytes r.slot t.bytes) t.entry.entry t.says (sym (name_listed J (fit_after s lib b j acc) (verifies_after s lib b j acc) n r t other) ∙ none)

  -- any other is held or new, and told
  free_told : (e : Met) → In e (judged_entries cs) → (r : Row) → row_at J e.ino ≡ Some r → (e.ino ≡ 1 → ⊥) → is_kept cs e ≡ false → is_told I J b e.ino ≡ true
  free_told e i r row other free =
      let n : ℕ = e.ino in
      let m = free_met s lib b j acc e i free in
      elim (classes s lib b j acc e m) [
        | inl held ↦ handed_told n (or_right (is_written b n) (is_among n b.holds) (In-is_among n b.holds held.0))
        | inr rest ↦
            elim rest [
              | inl live ↦
                  let q : Row = live.1 in
                  let f = unheld_at s lib b j acc e q m live.2 live.0 in
                  absurd (both_ways (is_kept cs e) free
                  (place_from e.parent e.page e.slot (row_at I n) q live.2 (ap (λ (x : Row). x.parent) f.2) (ap (λ (x : Row). x.page) f.2) (ap (λ (x : Row). x.slot) f.2)))
              | inr new ↦ search (arith, new_dead, false_from_ne_true, named, bytes_eq-Decides, told_name, or_right)
            ]
      ]

  entry_untold : (e : Met) → In e (judged_entries cs) → (r : Row) → row_at J e.ino ≡ Some r → (e.ino ≡ 1 → ⊥) → name_of J e.ino r ≡ entry_name cs (made e) → is_untold cs notes (made e) ≡ not (is_told I J b e.ino)
  entry_untold e i r row other name =
      elim (cases_Bool (is_kept cs e)) [
        | inl kept ↦ kept_untold e i r row name kept
        | inr free ↦
            ap (λ t. t && not (is_handed b e.ino) && bytes_eq (noted_name notes e.ino) (entry_name cs (made e))) free
            ∙ sym (ap not (free_told e i r row other free))
      ]

  entry_told : (e : Met) → In e (judged_entries cs) → raw_file I J b e.ino ≡ told_entry cs l notes (made e)
  entry_told e i =
      let n : ℕ = e.ino in
      let t = entry_now s lib b j acc e i in
      let r : Row = t.row in
      let row : row_after l cs.rows n ≡ Some r = sym (rows_listed s lib b j acc n) ∙ t.is_row in
      raw_there n r t.is_row
      ∙ told_unless (is_told I J b n) (is_untold cs notes (made e)) (Some (told_file J b n false r)) (option_map (told_row b n false (entry_name cs (made e)) (entry_size cs notes (made e)) (entry_guard cs notes (made e))) (row_after l cs.rows n))
      (entry_untold e i r t.is_row t.below t.name)
      (ap (λ x. Some (told_row b n false x (size_of J n) (guard_of J n) r)) t.name
      ∙ ap (λ z. Some (told_row b n false (entry_name cs (made e)) z (guard_of J n) r)) (size_listed s lib b j acc e i)
      ∙ ap (λ g. Some (told_row b n false (entry_name cs (made e)) (entry_size cs notes (made e)) g r)) (guard_listed s lib b j acc e i)
      ∙ sym (ap (option_map (told_row b n false (entry_name cs (made e)) (entry_size cs notes (made e)) (entry_guard cs notes (made e)))) row))

  -- ---- a written file that no judged directory lists

  written_told : (w : Written) → In w b.writes → is_listed l w.ino ≡ false → raw_file I J b w.ino ≡ told_written cs l notes w
  written_told w i free =
      let n : ℕ = w.ino in
      let q = written_row s lib b j w i in
      let r : Row = q.0 in
      let unheld : is_among n b.holds ≡ false = false_from_ne_true (is_among n b.holds) (λ t. held_apart s lib b j n (is_among-In n b.holds t) w i refl) in
      let row : row_at J n ≡ Some r = unheld_now s j.kept lib (creds_of s lib) b j.given acc n r q.1 unheld in
      let after : row_after l cs.rows n ≡ Some r = sym (rows_listed s lib b j acc n) ∙ row in
      let low = (live_bounds s lib b j n r q.1).1 in
      let name : name_of J n r ≡ noted_name notes n = name_kept s lib b j acc n r q.1 row free ∙ sym (noted_name_is I n r low q.1) in
      let told : is_told I J b n ≡ true = handed_told n (or_left (is_written b n) (is_among n b.holds) (is_written_from s lib b j w i)) in
      raw_there n r row
      ∙ ap (λ t. cond t (Some (told_file J b n false r)) None) told
      ∙ ap (λ x. Some (told_row b n false x (size_of J n) (guard_of J n) r)) name
      ∙ ap (λ z. Some (told_row b n false (noted_name notes n) z (guard_of J n) r)) (size_written s lib b j acc w i r row)
      ∙ ap (λ g. Some (told_row b n false (noted_name notes n) (size_in w.body) g r)) (guard_written s lib b j acc w i r row)
      ∙ sym (ap (option_map (told_row b n false (noted_name notes n) (size_in w.body) (guard_in w.body))) after)
      ∙ sym (ap (λ t. cond t None (option_map (told_row b n false (noted_name notes n) (size_in w.body) (guard_in w.body)) (row_after l cs.rows n))) free)

  -- ---- a held file that is listed nowhere

  gone_now : (n : ℕ) → In n b.holds → is_listed l n ≡ false → row_at J n ≡ None
  gone_now n i free = by (row_at J n) refl
    where
      by : (o : Option Row) → row_at J n ≡ o → o ≡ None
      by None row = refl
      by (Some r) row =
          let w = at_now s lib b j acc n r row in
          let e = held_is_listed s lib b j acc w.met w.stands (subst (λ m. In m b.holds) (sym w.number) i) in
          absurd (both_ways (is_listed l n) free (is_listed_by cs e.0 n e.1 (e.2 ∙ w.number)))

  gone_told : (n : ℕ) → In n b.holds → is_listed l n ≡ false → raw_file I J b n ≡ told_gone cs l notes n
  gone_told n i free =
      let q = held_row s lib b j n i in
      let r : Row = q.0 in
      let low = (live_bounds s lib b j n r q.1).1 in
      let told : is_told I J b n ≡ true = handed_told n (or_right (is_written b n) (is_among n b.holds) (In-is_among n b.holds i)) in
      ap (λ t. cond t (told_by I J b n (row_at I n) (row_at J n)) None) told
      ∙ ap (λ o. told_by I J b n o (row_at J n)) q.1
      ∙ ap (told_by I J b n (Some r)) (gone_now n i free)
      ∙ ap (λ x. Some (told_row b n true x (size_of I n) (guard_of I n) r)) (sym (noted_name_is I n r low q.1))
      ∙ ap (λ z. Some (told_row b n true (noted_name notes n) z (guard_of I n) r)) (sym (noted_size_is I n r low q.1))
      ∙ ap (λ g. Some (told_row b n true (noted_name notes n) (noted_size notes n) g r)) (sym (noted_guard_is I n r low q.1))
      ∙ sym (ap (option_map (told_row b n true (noted_name notes n) (noted_size notes n) (noted_guard notes n))) q.1)
      ∙ sym (ap (λ t. cond t None (option_map (told_row b n true (noted_name notes n) (noted_size notes n) (noted_guard notes n)) (row_in cs.rows n))) free)

  -- ---- no other is told

  unlisted_live : (n : ℕ) (r : Row) → row_at J n ≡ Some r → is_listed l n ≡ false → is_written b n ≡ false → row_at I n ≡ None → ⊥
  unlisted_live n r row free un dead =
      let w = at_now s lib b j acc n r row in
      elim (met_side s lib b j acc w.met w.stands) [
        | inl k ↦
            elim (judged_from s lib b j w.met k) [
              | inl v ↦
                  let is : v.0.ino ≡ n = sym (written_ino cs v.0) ∙ ap (λ (m : Met). m.ino) (sym v.2) ∙ w.number in
                  both_ways (is_written b n) un (ap (is_written b) (sym is) ∙ is_written_from s lib b j v.0 v.1)
              | inr v ↦ both_ways (is_listed l n) free (is_listed_by cs w.met n (entry_to s lib b j v.0 w.met v.1 (new_from s lib b j v.0 w.met v.2).0) w.number)
            ]
        | inr o ↦ (let wrong : None ≡ Some o.row = sym dead ∙ ap (row_at I) (sym w.number) ∙ o.is_row in absurd (cc wrong))
      ]

  same_name : (n : ℕ) (o o' : Option Row) → row_at I n ≡ o → row_at J n ≡ o' → is_listed l n ≡ false → is_handed b n ≡ false → (is_some o' && not (bytes_eq (name_by I n o) (name_by J n o'))) ≡ false
  same_name n o None was row free un = refl
  same_name n None (Some r) was row free un = absurd (unlisted_live n r row free (unwritten (is_written b n) (is_among n b.holds) un) was)
    where
      unwritten : (x y : Bool) → (x || y) ≡ false → x ≡ false
      unwritten true y e = e
      unwritten false y e = refl
  same_name n (Some q) (Some r) was row free un =
      let keeps : row_at J n ≡ Some q = unheld_now s j.kept lib (creds_of s lib) b j.given acc n q was (unheld (is_written b n) (is_among n b.holds) un) in
      let rows : Some q ≡ Some r = sym keeps ∙ row in
      let same : q ≡ r = cc rows in
      let name : name_of J n r ≡ name_of I n q = name_kept s lib b j acc n r (was ∙ ap Some same) row free ∙ ap (name_of I n) (sym same) in
      ap (λ x. not (bytes_eq (name_of I n q) x)) name ∙ ap not ((bytes_eq-Decides (name_of I n q) (name_of I n q)).1 refl)
    where
      unheld : (x y : Bool) → (x || y) ≡ false → y ≡ false
      unheld true y e = absurd cc
      unheld false y e = e

  other_untold : (n : ℕ) → is_listed l n ≡ false → is_handed b n ≡ false → raw_file I J b n ≡ None
  other_untold n free un = search (arith, or_from, same_name)

  -- ---- the three lists together

  abbrev ino : RawFile → ℕ
  ino f = f.ino

  entry_number : (e : ListedEntry) (f : RawFile) → told_entry cs l notes e ≡ Some f → f.ino ≡ e.ino
  entry_number e f h = search (arith, unless_passed, made_of)

  written_parts : (w : Written) (f : RawFile) → told_written cs l notes w ≡ Some f → (is_listed l w.ino ≡ false) × (f.ino ≡ w.ino)
  written_parts w f h = search (arith, unless_passed, made_of)

  gone_parts : (n : ℕ) (f : RawFile) → told_gone cs l notes n ≡ Some f → (is_listed l n ≡ false) × (f.ino ≡ n)
  gone_parts n f h = search (arith, unless_passed, made_of)

  abbrev entries : List RawFile
  entries = filter_map (told_entry cs l notes) l.entries

  abbrev writes : List RawFile
  writes = filter_map (told_written cs l notes) b.writes

  abbrev gone : List RawFile
  gone = filter_map (told_gone cs l notes) l.held

  number_of_written : (w : Written) (f : RawFile) → told_written cs l notes w ≡ Some f → f.ino ≡ w.ino
  number_of_written w f h = (written_parts w f h).1

  number_of_gone : (n : ℕ) (f : RawFile) → told_gone cs l notes n ≡ Some f → f.ino ≡ n
  number_of_gone n f h = (gone_parts n f h).1

  listed_numbers : (es : List Met) → map (λ (e : ListedEntry). e.ino) (map (entry_listed cs) es) ≡ numbers es
  listed_numbers [] = refl
  listed_numbers (e ∷ es) = ap (λ ns. e.ino ∷ ns) (listed_numbers es)

  entries_new : are_new [] (map ino entries) ≡ true
  entries_new = search (arith, made_new, entry_number, listed_numbers, once_met)

  writes_new : are_new [] (map ino writes) ≡ true
  writes_new = made_new ino (λ (w : Written). w.ino) (told_written cs l notes) number_of_written b.writes j.given.writes_once

  gone_new : are_new [] (map ino gone) ≡ true
  gone_new =
      made_new ino (λ n. n) (told_gone cs l notes) number_of_gone l.held
      (sorted_new (λ n. n) b.holds (ap (are_new []) (map-id b.holds) ∙ j.given.holds_once))

  is_entry : (n : ℕ) → In n (map ino entries) → is_listed l n ≡ true
  is_entry n i =
      let k = made_number ino (λ (e : ListedEntry). e.ino) (told_entry cs l notes) entry_number l.entries n i in
      let e = map-In (λ (x : ListedEntry). x.ino) n l.entries k in
      let m = listed_from cs e.0 e.1 in
      is_listed_by cs m.0 n m.1 (ap (λ (x : ListedEntry). x.ino) (sym m.2) ∙ sym e.2)

  is_write : (n : ℕ) → In n (map ino writes) → (is_listed l n ≡ false) × (w : Written) × In w b.writes × (w.ino ≡ n)
  is_write n i =
      let f = map-In ino n writes i in
      let w = made_in ino (λ (w : Written). w.ino) (told_written cs l notes) number_of_written b.writes f.0 f.1 in
      let p = written_parts w.0 f.0 w.2 in
      let is : w.0.ino ≡ n = sym p.1 ∙ sym f.2 in
      (ap (is_listed l) (sym is) ∙ p.0, w.0, w.1, is)

  is_gone : (n : ℕ) → In n (map ino gone) → (is_listed l n ≡ false) × In n b.holds
  is_gone n i =
      let f = map-In ino n gone i in
      let k = made_in ino (λ n. n) (told_gone cs l notes) number_of_gone l.held f.0 f.1 in
      let p = gone_parts k.0 f.0 k.2 in
      let is : k.0 ≡ n = sym p.1 ∙ sym f.2 in
      (ap (is_listed l) (sym is) ∙ p.0, subst (λ m. In m b.holds) is (held_from cs k.0 k.1))

  all_new : are_new [] (map ino ((entries ++ writes) ++ gone)) ≡ true
  all_new =
      joined_new ino (entries ++ writes) gone
      (joined_new ino entries writes entries_new writes_new (λ n i k. both_ways (is_listed l n) (is_write n k).0 (is_entry n i)))
      gone_new
      (λ n i k.
      let g = is_gone n k in
      let f = map-In ino n (entries ++ writes) i in
      elim (In-cases f.0 entries writes f.1) [
        | inl a ↦ both_ways (is_listed l n) g.0 (is_entry n (subst (λ m. In m (map ino entries)) (sym f.2) (In-map ino f.0 entries a)))
        | inr a ↦
            let w = is_write n (subst (λ m. In m (map ino writes)) (sym f.2) (In-map ino f.0 writes a)) in
            held_apart s lib b j n g.1 w.1 w.2 w.3
      ])

  abbrev Stands : RawFile → Type 0
  Stands f = (1 ≤ f.ino) × (f.ino < 1 + (settled s).core.inodes) × (raw_file (settled s) (next (settled s) b) b f.ino ≡ Some f)

  stands_from : (n : ℕ) (f : RawFile) → f.ino ≡ n → (1 ≤ n) × (n < 1 + I.core.inodes) → raw_file I J b n ≡ Some f → Stands f
  stands_from n f is bounds told = search arith

  of_entry : (f : RawFile) → In f entries → Stands f
  of_entry f i =
      let k = made_in ino (λ (e : ListedEntry). e.ino) (told_entry cs l notes) entry_number l.entries f i in
      let m = listed_from cs k.0 k.1 in
      let t = entry_now s lib b j acc m.0 m.1 in
      stands_from m.0.ino f (entry_number k.0 f k.2 ∙ ap (λ (x : ListedEntry). x.ino) m.2) (bounds_now m.0.ino t.row t.is_row)
      (entry_told m.0 m.1 ∙ ap (told_entry cs l notes) (sym m.2) ∙ k.2)

  of_write : (f : RawFile) → In f writes → Stands f
  of_write f i =
      let k = made_in ino (λ (w : Written). w.ino) (told_written cs l notes) number_of_written b.writes f i in
      let p = written_parts k.0 f k.2 in
      let r = written_row s lib b j k.0 k.1 in
      stands_from k.0.ino f p.1 (bounds_then k.0.ino r.0 r.1) (written_told k.0 k.1 p.0 ∙ k.2)

  of_gone : (f : RawFile) → In f gone → Stands f
  of_gone f i =
      let k = made_in ino (λ n. n) (told_gone cs l notes) number_of_gone l.held f i in
      let p = gone_parts k.0 f k.2 in
      let held = held_from cs k.0 k.1 in
      let r = held_row s lib b j k.0 held in
      stands_from k.0 f p.1 (bounds_then k.0 r.0 r.1) (gone_told k.0 held p.0 ∙ k.2)

  each_stands : (f : RawFile) → In f ((entries ++ writes) ++ gone) → Stands f
  each_stands f i =
      elim (In-cases f (entries ++ writes) gone i) [
        | inl a ↦
            elim (In-cases f entries writes a) [
              | inl x ↦ of_entry f x
              | inr x ↦ of_write f x
            ]
        | inr a ↦ of_gone f a
      ]

  unlisted_in : (n : ℕ) (f : RawFile) → raw_file I J b n ≡ Some f → is_listed l n ≡ false → In f ((entries ++ writes) ++ gone)
  unlisted_in n f h free =
      elim (cases_Bool (is_handed b n)) [
        | inr un ↦ (let wrong : None ≡ Some f = sym (other_untold n free un) ∙ h in absurd (cc wrong))
        | inl t ↦
            elim (or_cases (is_written b n) (is_among n b.holds) t) [
              | inl wr ↦
                  let w = written_find s lib b j n wr in
                  let told = written_told w.0 w.1 (ap (is_listed l) w.2 ∙ free) in
                  let i : In f writes = in_made ino (λ (w : Written). w.ino) (told_written cs l notes) number_of_written b.writes w.0 f w.1 (sym told ∙ ap (raw_file I J b) w.2 ∙ h) in
                  In-left f (entries ++ writes) gone (In-right f entries writes i)
              | inr held ↦
                  let k : In n b.holds = is_among-In n b.holds held in
                  let i : In f gone = in_made ino (λ n. n) (told_gone cs l notes) number_of_gone l.held n f (held_to cs n k) (sym (gone_told n k free) ∙ h) in
                  In-right f (entries ++ writes) gone i
            ]
      ]

  all_in : (n : ℕ) (f : RawFile) → raw_file I J b n ≡ Some f → In f ((entries ++ writes) ++ gone)
  all_in n f h =
      elim (cases_Bool (is_listed l n)) [
        | inr free ↦ unlisted_in n f h free
        | inl t ↦
            let e = is_listed_at cs n t in
            let told : told_entry cs l notes (made e.0) ≡ Some f = sym (entry_told e.0 e.1) ∙ ap (raw_file I J b) e.2 ∙ h in
            let i : In f entries = in_made ino (λ (e : ListedEntry). e.ino) (told_entry cs l notes) entry_number l.entries (made e.0) f (listed_to cs e.0 e.1) told in
            In-left f (entries ++ writes) gone (In-left f entries writes i)
      ]

  pub files_same : raw_files (settled s) (next (settled s) b) b ≡ accepted_files (case_of (settled s) (creds_of s lib) b) (listing (case_of (settled s) (creds_of s lib) b)) (notes_of (settled s))
  files_same = counted_sorted ino (raw_file I J b) (raw_number I J b) 1 I.core.inodes ((entries ++ writes) ++ gone) all_new each_stands all_in
