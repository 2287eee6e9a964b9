-- The names and sizes of files after an accepted release, by the bundle's pages, its leases and what was before.
use Rattle.trio_laws.proofs.Words.{Bundle, Case, Core, EntryPart, FileRead, Image, In, In-is_among, In-map, In-right, IsFit, IsJudgeable, List, Listed, Listing, Met, None, Notes, Ok, Option, Pick, Row, Some, State, Verifies, Written, [], ap, arith, body_in_slot, both_ways, bundle_core, bundle_pages, case_of, cases_Bool, child_from, child_placed, cond, creds_of, drop, drop-drop, drop-take, entry_at, entry_guard, entry_listed, entry_name, entry_size, eq-eqb, false, file_of, file_put, guard_in, guard_of, inl, inr, is_accepted, is_among, is_among-In, is_listed, is_written, judged_entries, listing, map, met_cases, name_in, name_of, next, no_root_listed, noted_guard, noted_size, notes_of, one_met, option_map, option_map_or, page_of, page_there, picked_entry, plain, proposed, proposed_pick, read_met, refl, row_at, row_at_is, row_by, row_met, settled, settled_body, size_in, size_of, slot_bytes, subst, survey, survey_put, sym, take, there_same, true, unwrap_or, written_met, ℕ, ◌*◌, ◌+◌, ◌-◌, ◌∙◌, ◌∷◌, ◌≡◌, eqb, find}
use Rattle.trio_state.specs.Listed.{entry_slot}
use Rattle.trio_laws.proofs.Bundles.{finds_unwritten, unwritten_finds}
use Rattle.trio_laws.proofs.judgement.CaseFacts.{is_written_from, live_bounds, written_find}
use Rattle.trio_laws.proofs.judgement.JudgedFacts.{entries_are, entry_to, judged_from, new_from, new_judged, written_body, written_ino, written_judged}
use Rattle.trio_laws.proofs.judgement.ListingFacts.{is_listed_by}
use Rattle.trio_laws.proofs.judgement.Meeting.{entry_met, itself, once_met}
use Rattle.trio_laws.proofs.judgement.MeetingEdges.{met_side}
use Rattle.trio_laws.proofs.judgement.Sides.{inside_child, outside_met, outside_read}
use Rattle.trio_laws.proofs.judgement.Taking.{fit, judged_met, reads, sound}
use Rattle.trio_laws.proofs.history.AcceptedFiles.{Now, fitJ, now, verifiesJ}
use Rattle.trio_laws.proofs.history.Follows.{name_at_entry}
use Rattle.trio_laws.proofs.history.Listing.{body_met, met_at, slot_entry}
use Rattle.trio_laws.proofs.history.ToldNoted.{noted_size_is, noted_guard_is}

-- the body in a slot is what stands behind the entry
pub body_behind : (slot : ℕ) (bytes : List ℕ) → drop 192 (slot_bytes slot bytes) ≡ body_in_slot slot bytes
body_behind slot bytes =
    let at : ℕ = 256 * slot in
    let a : (at + 256) - at ≡ 192 + 64 = omega arith in
    let c : (at + 256) - (at + 192) ≡ 64 = omega arith in
    let d : 192 + at ≡ at + 192 = omega arith in
    ap (λ n. drop 192 (take n (drop at bytes))) a
    ∙ drop-take 192 64 (drop at bytes)
    ∙ ap (take 64) (drop-drop 192 at bytes)
    ∙ ap (λ n. take 64 (drop n bytes)) (omega arith)
    ∙ ap (λ n. take n (drop (at + 192) bytes)) (sym c)

module _ (s : State) (lib : ℕ) (b : Bundle) (j : IsJudgeable s lib b) (acc : is_accepted (settled s) (creds_of s lib) b ≡ true) where
  abbrev I : Image
  I = settled s

  abbrev J : Image
  J = next (settled s) b

  abbrev P : Core
  P = proposed (settled s) b

  abbrev pick : Pick
  pick = proposed_pick (settled s) b

  abbrev cs : Case
  cs = case_of (settled s) (creds_of s lib) b

  abbrev l : Listing
  l = listing (case_of (settled s) (creds_of s lib) b)

  abbrev notes : Notes
  notes = notes_of (settled s)

  pub fit_after : IsFit (next (settled s) b).core
  fit_after = fitJ s j.kept lib (creds_of s lib) b j.given acc

  pub verifies_after : Verifies (next (settled s) b)
  verifies_after = verifiesJ s j.kept lib (creds_of s lib) b j.given acc

  abbrev pub at_now : (n : ℕ) (r : Row) → row_at (next (settled s) b) n ≡ Some r → Now s j.kept lib (creds_of s lib) b j.given acc n r
  at_now n r row = now s j.kept lib (creds_of s lib) b j.given acc n r row

  -- a file that is met has its row
  pub row_now : (m : Met) → In m (survey (proposed (settled s) b) (proposed_pick (settled s) b)) → (f : FileRead) × (file_of (proposed (settled s) b) m ≡ Ok f) × (row_at (next (settled s) b) m.ino ≡ Some (row_by m f.body))
  row_now m i =
      let f = read_met P pick (fit s lib b j acc) (sound s lib b j acc) m i in
      (f.0, f.1, row_at_is P pick (fit s lib b j acc) (sound s lib b j acc) J (record { rows = refl; owners = refl }) m.ino ∙ row_met P pick (fit s lib b j acc) (sound s lib b j acc) m f.0 i f.1)

  -- ---- sizes and guards

  -- a file has the body with which it is met
  body_now : (n : ℕ) (r : Row) (row : row_at (next (settled s) b) n ≡ Some r) (m : Met) → In m (survey (proposed (settled s) b) (proposed_pick (settled s) b)) → m.ino ≡ n → settled_body (next (settled s) b) n ≡ m.body
  body_now n r row m i is =
      let q = met_at J fit_after verifies_after n r row in
      let there : In m (survey J.core plain) = subst (λ ms. In m ms) (sym (survey_put P pick (fit s lib b j acc) (sound s lib b j acc))) i in
      let same : q.met ≡ m = one_met J.core plain fit_after verifies_after.sound q.met m q.stands there (q.number ∙ sym is) in
      body_met J fit_after verifies_after n r row ∙ ap (λ (x : Met). x.body) same

  body_written : (w : Written) → In w b.writes → (r : Row) → row_at (next (settled s) b) w.ino ≡ Some r → settled_body (next (settled s) b) w.ino ≡ w.body
  body_written w i r row =
      body_now w.ino r row (written_met cs w) (judged_met s lib b j acc (written_met cs w) (written_judged s lib b j w i)) (written_ino cs w)
      ∙ written_body cs w

  pub size_written : (w : Written) → In w b.writes → (r : Row) → row_at (next (settled s) b) w.ino ≡ Some r → size_of (next (settled s) b) w.ino ≡ size_in w.body
  size_written w i r row = ap size_in (body_written w i r row)

  pub guard_written : (w : Written) → In w b.writes → (r : Row) → row_at (next (settled s) b) w.ino ≡ Some r → guard_of (next (settled s) b) w.ino ≡ guard_in w.body
  guard_written w i r row = ap guard_in (body_written w i r row)

  -- one that is neither written nor new has the body that it had
  body_kept : (n : ℕ) (r : Row) → row_at (next (settled s) b) n ≡ Some r → is_written b n ≡ false → is_among n b.numbers ≡ false → (q : Row) × (row_at (settled s) n ≡ Some q) × (settled_body (next (settled s) b) n ≡ settled_body (settled s) n)
  body_kept n r row un old =
      let w = at_now n r row in
      elim (met_side s lib b j acc w.met w.stands) [
        | inl k ↦
            elim (judged_from s lib b j w.met k) [
              | inl v ↦
                  let is : v.0.ino ≡ n = sym (written_ino cs v.0) ∙ ap (λ (m : Met). m.ino) (sym v.2) ∙ w.number in
                  absurd (both_ways (is_written b n) un (ap (is_written b) (sym is) ∙ is_written_from s lib b j v.0 v.1))
              | inr v ↦
                  let new = (new_from s lib b j v.0 w.met v.2).1 in
                  absurd (both_ways (is_among n b.numbers) old (In-is_among n b.numbers (subst (λ m. In m b.numbers) w.number new)))
            ]
        | inr o ↦
            let was : row_at I n ≡ Some o.row = ap (row_at I) (sym w.number) ∙ o.is_row in
            (o.row, was, body_now n r row w.met w.stands w.number ∙ o.body ∙ ap (settled_body I) w.number)
      ]

  size_kept : (n : ℕ) (r : Row) → row_at (next (settled s) b) n ≡ Some r → is_written b n ≡ false → is_among n b.numbers ≡ false → size_of (next (settled s) b) n ≡ noted_size (notes_of (settled s)) n
  size_kept n r row un old =
      let q = body_kept n r row un old in
      let low = (live_bounds s lib b j n q.0 q.1).1 in
      ap size_in q.2 ∙ sym (noted_size_is I n q.0 low q.1)

  guard_kept : (n : ℕ) (r : Row) → row_at (next (settled s) b) n ≡ Some r → is_written b n ≡ false → is_among n b.numbers ≡ false → guard_of (next (settled s) b) n ≡ noted_guard (notes_of (settled s)) n
  guard_kept n r row un old =
      let q = body_kept n r row un old in
      let low = (live_bounds s lib b j n q.0 q.1).1 in
      ap guard_in q.2 ∙ sym (noted_guard_is I n q.0 low q.1)

  -- ---- the entries of judged directories

  -- an entry as it is listed then: with the row of its file, and its slot on the bundle's page
  pub record EntryNow (e : Met) : Type 0 where
    pub row : Row
    pub is_row : row_at (next (settled s) b) e.ino ≡ Some row
    pub below : e.ino ≡ 1 → ⊥
    pub name : name_of (next (settled s) b) e.ino row ≡ entry_name (case_of (settled s) (creds_of s lib) b) (entry_listed (case_of (settled s) (creds_of s lib) b) e)
    pub body : drop 192 (entry_slot (case_of (settled s) (creds_of s lib) b) (entry_listed (case_of (settled s) (creds_of s lib) b) e)) ≡ e.body

  pub entry_now : (e : Met) → In e (judged_entries (case_of (settled s) (creds_of s lib) b)) → EntryNow e
  entry_now e i =
      let y = entry_met s lib b j acc e i in
      let x : Met = y.file in
      let met : In x (survey P pick) = judged_met s lib b j acc x y.judged_one in
      let r = reads s lib b j acc x y.judged_one in
      let q = child_from P plain x e (subst (λ ms. In e ms) (entries_are s lib b j x r) y.among) in
      let le : Listed = q.entry in
      let read : Ok q.file ≡ Ok r.file = sym q.read ∙ r.whole in
      let file : q.file ≡ r.file = cc read in
      let pl = child_placed P plain x e q in
      let at_page : e.page ≡ le.page = ap (λ (m : Met). m.page) q.is in
      let at_slot : e.slot ≡ le.slot = ap (λ (m : Met). m.slot) q.is in
      let own : In le.page (bundle_pages b) = r.own le.page (In-right le.page r.file.chain.index r.file.chain.blocks (subst (λ (f : FileRead). In le.page f.chain.blocks) file pl.block)) in
      let core = (page_there P le.page pl.bytes pl.page).0 in
      let alone : page_of (bundle_core cs) e.page ≡ Some pl.bytes = ap (page_of (bundle_core cs)) at_page ∙ sym (there_same I (creds_of s lib) b j.kept.fit.long le.page core own) ∙ pl.page in
      let slot : entry_slot cs (entry_listed cs e) ≡ slot_bytes le.slot pl.bytes = ap (λ o. option_map_or (slot_bytes e.slot) o []) alone ∙ ap (λ n. slot_bytes n pl.bytes) at_slot in
      let said : entry_name cs (entry_listed cs e) ≡ le.entry.name =
      ap (λ z. (entry_at z).name) slot ∙ ap (λ (z : EntryPart). z.name) (slot_entry P.inodes (slot_bytes le.slot pl.bytes) le.entry pl.says) in
      let f = row_now y.met y.stands in
      let row : Row = row_by y.met f.0.body in
      let other : e.ino ≡ 1 → ⊥ = λ one. no_root_listed P pick (fit s lib b j acc).numbers (sound s lib b j acc) x y.met met y.child (y.ino ∙ one) in
      let body : drop 192 (entry_slot cs (entry_listed cs e)) ≡ e.body = ap (drop 192) slot ∙ body_behind le.slot pl.bytes ∙ sym pl.body ∙ sym (ap (λ (m : Met). m.body) q.is) in
      record {
        row = row;
        is_row = ap (row_at J) (sym y.ino) ∙ f.2;
        below = other;
        name =
            name_at_entry J x (record q.file { entries = map (picked_entry pick x.ino) q.file.entries }) (picked_entry pick x.ino le) e.ino row
            (file_put P pick (fit s lib b j acc) (sound s lib b j acc) x q.file met q.read)
            (In-map (picked_entry pick x.ino) le q.file.entries q.listed) other (y.page ∙ at_page) (y.slot ∙ at_slot)
            ∙ sym said;
        body = body;
      }

  -- what the body of an entry's file says: as its lease says, where it is new as the slot says, else as it was
  said_listed : {X : Type 0} (said : List ℕ → X) (was : X) (e : Met) (i : In e (judged_entries (case_of (settled s) (creds_of s lib) b)))
      → (is_written b e.ino ≡ false → is_among e.ino b.numbers ≡ false → said (settled_body (next (settled s) b) e.ino) ≡ was)
      → said (settled_body (next (settled s) b) e.ino)
      ≡ unwrap_or (option_map (λ (v : Written). said v.body) (find (λ (v : Written). eqb v.ino e.ino) b.writes))
      (cond (is_among e.ino b.numbers) (said (drop 192 (entry_slot (case_of (settled s) (creds_of s lib) b) (entry_listed (case_of (settled s) (creds_of s lib) b) e)))) was)
  said_listed {X} said was e i kept =
      let n : ℕ = e.ino in
      let t = entry_now e i in
      let r : Row = t.row in
      let slot_says : X = said (drop 192 (entry_slot cs (entry_listed cs e))) in
      let rest : X = cond (is_among n b.numbers) slot_says was in
      elim (cases_Bool (is_written b n)) [
        | inl wr ↦
            let w = written_find s lib b j n wr in
            ap (λ m. said (settled_body J m)) (sym w.2) ∙ ap said (body_written w.0 w.1 r (ap (row_at J) w.2 ∙ t.is_row))
            ∙ sym (ap (λ o. unwrap_or (option_map (λ (v : Written). said v.body) o) rest) w.3)
        | inr un ↦
            let says : Option Written → Option X = option_map (λ (v : Written). said v.body) in
            let none : says (find (λ (v : Written). eqb v.ino n) b.writes) ≡ None = ap says (unwritten_finds b n (finds_unwritten b n un)) in
            elim (cases_Bool (is_among n b.numbers)) [
              | inl new ↦
                  let y = entry_met s lib b j acc e i in
                  let k = new_judged s lib b j (reads s lib b j acc) (once_met s lib b j acc) y.file e y.judged_one y.among (is_among-In n b.numbers new) in
                  ap said (body_now n r t.is_row e (judged_met s lib b j acc e k) refl)
                  ∙ ap said (sym t.body)
                  ∙ sym (ap (λ q. cond q slot_says was) new)
                  ∙ sym (ap (λ o. unwrap_or o rest) none)
              | inr old ↦
                  kept un old
                  ∙ sym (ap (λ q. cond q slot_says was) old)
                  ∙ sym (ap (λ o. unwrap_or o rest) none)
            ]
      ]

  pub size_listed : (e : Met) (i : In e (judged_entries (case_of (settled s) (creds_of s lib) b))) → size_of (next (settled s) b) e.ino ≡ entry_size (case_of (settled s) (creds_of s lib) b) (notes_of (settled s)) (entry_listed (case_of (settled s) (creds_of s lib) b) e)
  size_listed e i = said_listed size_in (noted_size notes e.ino) e i (λ un old. size_kept e.ino (entry_now e i).row (entry_now e i).is_row un old)

  pub guard_listed : (e : Met) (i : In e (judged_entries (case_of (settled s) (creds_of s lib) b))) → guard_of (next (settled s) b) e.ino ≡ entry_guard (case_of (settled s) (creds_of s lib) b) (notes_of (settled s)) (entry_listed (case_of (settled s) (creds_of s lib) b) e)
  guard_listed e i = said_listed guard_in (noted_guard notes e.ino) e i (λ un old. guard_kept e.ino (entry_now e i).row (entry_now e i).is_row un old)

  -- ---- a file that no judged directory lists

  root_name : (image : Image) (n : ℕ) (r : Row) → n ≡ 1 → name_of image n r ≡ 45 ∷ []
  root_name image n r one = ap (λ t. cond t (45 ∷ []) (option_map_or (name_in r.slot) (page_of image.core r.page) [])) (eq-eqb n 1 one)

  -- it has the name that it had
  pub name_kept : (n : ℕ) (r : Row) → row_at (settled s) n ≡ Some r → row_at (next (settled s) b) n ≡ Some r → is_listed (listing (case_of (settled s) (creds_of s lib) b)) n ≡ false → name_of (next (settled s) b) n r ≡ name_of (settled s) n r
  name_kept n r was row free =
      let w = at_now n r row in
      elim (met_cases P pick (fit s lib b j acc).numbers (sound s lib b j acc) w.met w.stands) [
        | inl root ↦ (let one : n ≡ 1 = sym w.number ∙ ap (λ (m : Met). m.ino) root in root_name J n r one ∙ sym (root_name I n r one))
        | inr q ↦
            elim (met_side s lib b j acc q.0 q.1) [
              | inl k ↦
                  let t = inside_child s lib b j (reads s lib b j acc) q.0 (itself s lib b j acc q.0 k) w.met q.2 in
                  absurd (both_ways (is_listed l n) free (is_listed_by cs t.entry n (entry_to s lib b j q.0 t.entry k t.among) (sym t.ino ∙ w.number)))
              | inr o ↦
                  let c = child_from P pick q.0 w.met q.2 in
                  let le : Listed = c.entry in
                  let m = outside_met s lib b j (reads s lib b j acc) q.0 o in
                  let read : Ok c.file ≡ Ok m.file = sym c.read ∙ outside_read s lib b j (reads s lib b j acc) q.0 o in
                  let file : c.file ≡ m.file = cc read in
                  let other : n ≡ 1 → ⊥ = λ one. no_root_listed P pick (fit s lib b j acc).numbers (sound s lib b j acc) q.0 w.met q.1 q.2 (w.number ∙ one) in
                  let page : r.page ≡ le.page = ap (λ (x : Row). x.page) w.row ∙ ap (λ (x : Met). x.page) c.is in
                  let slot : r.slot ≡ le.slot = ap (λ (x : Row). x.slot) w.row ∙ ap (λ (x : Met). x.slot) c.is in
                  name_at_entry J q.0 (record c.file { entries = map (picked_entry pick q.0.ino) c.file.entries }) (picked_entry pick q.0.ino le) n r
                  (file_put P pick (fit s lib b j acc) (sound s lib b j acc) q.0 c.file q.1 c.read)
                  (In-map (picked_entry pick q.0.ino) le c.file.entries c.listed) other page slot
                  ∙ sym (name_at_entry I m.met m.file le n r m.read (subst (λ (f : FileRead). In le f.entries) file c.listed) other page slot)
            ]
      ]
