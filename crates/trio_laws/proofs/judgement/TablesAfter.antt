-- The rows and owners after an accepted bundle are those that its listing says.
use Rattle.trio_laws.proofs.Words.{◌&&◌, ◌++◌, ◌∙◌, ◌∷◌, ◌≡◌, ◌⊎◌, Bool, Bundle, Case, Core, FileRead, Image, In, In-find, In-flat, In-is_among, IsJudgeable, List, ListedEntry, ListedFile, Listing, Location, Met, None, Ok, Option, Pick, Result, Row, Some, State, [], and_from, and_parts, ap, arith, both_ways, bundle_core, case_of, cases_Bool, cond, creds_of, entry_listed, eq-eqb, eqb, eqb-true, false, file_listed, file_within, find, find-In, flat_map-In, has_file, inl, inr, is_accepted, is_among, is_among-In, is_core, is_listed, is_written, judged_entries, judged_files, le-ltb, leb, leb-true, listing, ltb, ltb-true, met_cases, met_row, next, not, not-true, one_met, option_map, option_map_or, or_cases, or_left, or_right, owner_listed, pages_in, pages_of, plain, proposed, proposed_pick, read_met, refl, row_after, row_at, row_at_is, row_by, row_met, row_of, settled, slice_index, sound_parts, subst, survey, sym, true, ℕ}
use Rattle.trio_layout.specs.Survey.{owner_of}
use Rattle.trio_layout.specs.Tables.{gives_up, owner_after, placed_row}
use Rattle.trio_surveys.proofs.Images.{owner_at, owner_none}
use Rattle.trio_surveys.proofs.Owned.{owner_is}
use Rattle.trio_laws.proofs.StateFacts.{tables}
use Rattle.trio_laws.proofs.Survivors.{held_rights, stays, unheld_row}
use Rattle.trio_laws.specs.RuleLaws.{ListingGivesTables}
use Rattle.trio_laws.proofs.judgement.CaseFacts.{row_of_met, held_parent, written_find, root_unheld, no_row_zero}
use Rattle.trio_laws.proofs.judgement.JudgedFacts.{entry_to, new_judged}
use Rattle.trio_laws.proofs.judgement.ListingFacts.{has_file_by, held_from, held_to, has_file_at, is_listed_at, is_listed_by, listed_from, listed_to}
use Rattle.trio_laws.proofs.judgement.Sides.{Outside, inside_child, outside_child, outside_met, outside_pages}
use Rattle.trio_laws.proofs.judgement.Taking.{fit, sound, classes, unheld_at, judged_met, reads}
use Rattle.trio_laws.proofs.judgement.Meeting.{itself, entry_met, once_met}
use Rattle.trio_laws.proofs.judgement.MeetingEdges.{same_file, met_side}

owner_from_step : (core : Core) (x : Met) (xs : List Met) (p : ℕ) (b : Bool) → is_among p (pages_of core x) ≡ b → (((owner_of core xs p) ≡ 0) ⊎ ((m : Met) × In m xs × (m.ino ≡ owner_of core xs p) × In p (pages_of core m))) → (cond b x.ino (owner_of core xs p) ≡ 0) ⊎ ((m : Met) × ((m ≡ x) ⊎ In m xs) × (m.ino ≡ cond b x.ino (owner_of core xs p)) × In p (pages_of core m))
owner_from_step core x xs p b t h = search (arith, is_among-In)

-- the owner is 0, or a file that lists the page
owner_from : (core : Core) (files : List Met) (p : ℕ) → (owner_of core files p ≡ 0) ⊎ ((m : Met) × In m files × (m.ino ≡ owner_of core files p) × In p (pages_of core m))
owner_from core [] p = inl refl
owner_from core (x ∷ xs) p = owner_from_step core x xs p (is_among p (pages_of core x)) refl (owner_from core xs p)

row_same : (r q : Row) → r.kind ≡ q.kind → r.mode ≡ q.mode → r.uid ≡ q.uid → r.gid ≡ q.gid → r.parent ≡ q.parent → r.page ≡ q.page → r.slot ≡ q.slot → r ≡ q
row_same r q kind mode uid gid parent page slot = search arith

module _ (s : State) (lib : ℕ) (b : Bundle) (j : IsJudgeable s lib b) (acc : is_accepted (settled s) (creds_of s lib) b ≡ true) where
  abbrev c : Case
  c = case_of (settled s) (creds_of s lib) b

  abbrev core : Core
  core = proposed (settled s) b

  abbrev pick : Pick
  pick = proposed_pick (settled s) b

  abbrev files : List Met
  files = survey (proposed (settled s) b) (proposed_pick (settled s) b)

  abbrev C : Core
  C = (settled s).core

  abbrev after : Image
  after = next (settled s) b

  abbrev Out_side : Met → Type 0
  Out_side m = Outside s lib b j (reads s lib b j acc) m

  rows_after_are : (n : ℕ) → row_at after n ≡ row_of core files n
  rows_after_are n = row_at_is core pick (fit s lib b j acc) (sound s lib b j acc) after (record { rows = refl; owners = refl }) n

  -- what a listed file is
  made_from : (m : Met) (r : Result FileRead Location) (f : ListedFile) → In f (file_listed m r) → (g : FileRead) × (r ≡ Ok g) × (f ≡ record { ino = m.ino; row = row_by m g.body; index = g.chain.index; blocks = g.chain.blocks })
  made_from m r f h = search arith

  pub file_from : (f : ListedFile) → In f (listing c).files → (m : Met) × (g : FileRead) × In m (judged_files c) × (file_within (bundle_core c) m ≡ Ok g) × (f ≡ record { ino = m.ino; row = row_by m g.body; index = g.chain.index; blocks = g.chain.blocks })
  file_from f i = search (arith, flat_map-In, made_from)

  abbrev made : Met → FileRead → ListedFile
  made m g = record { ino = m.ino; row = row_by m g.body; index = g.chain.index; blocks = g.chain.blocks }

  pub file_to : (m : Met) (g : FileRead) → In m (judged_files c) → file_within (bundle_core c) m ≡ Ok g → In (made m g) (listing c).files
  file_to m g i e =
      In-flat (λ m. file_listed m (file_within (bundle_core c) m)) m (made m g) (judged_files c) i (subst (λ r. In (made m g) (file_listed m r)) (sym e) (inl refl))

  -- the row of a judged file
  judged_row : (m : Met) (g : FileRead) → In m (judged_files c) → file_within (bundle_core c) m ≡ Ok g → row_of core files m.ino ≡ Some (row_by m g.body)
  judged_row m g i e =
      let r = reads s lib b j acc m i in
      let same : r.file ≡ g = (let t : Ok r.file ≡ Ok g = sym r.within ∙ e in cc t) in
      row_met core pick (fit s lib b j acc) (sound s lib b j acc) m r.file (judged_met s lib b j acc m i) r.whole ∙ ap (λ (f : FileRead). Some (row_by m f.body)) same

  -- a held file that is met is listed by a judged directory
  pub held_is_listed : (m : Met) → In m files → In m.ino b.holds → (e : Met) × In e (judged_entries c) × (e.ino ≡ m.ino)
  held_is_listed m i held =
      elim (met_cases core pick (fit s lib b j acc).numbers (sound s lib b j acc) m i) [
        | inl z ↦ absurd (root_unheld s lib b j (subst (λ n. In n b.holds) (ap (λ (x : Met). x.ino) z) held))
        | inr q ↦
            elim (met_side s lib b j acc q.0 q.1) [
              | inl k ↦
                  let t = inside_child s lib b j (reads s lib b j acc) q.0 (itself s lib b j acc q.0 k) m q.2 in
                  (t.entry, entry_to s lib b j q.0 t.entry k t.among, sym t.ino)
              | inr o ↦
                  let t = outside_child s lib b j (reads s lib b j acc) q.0 o m q.2 in
                  let w = written_find s lib b j q.0.ino (ap (is_written b) (sym t.directory) ∙ held_parent s lib b j m.ino t.row held t.is_row) in
                  absurd (o.unwritten w.0 w.1 w.2)
            ]
      ]

  -- the row of a file that an entry lists and that isn't judged
  entry_row : (e : Met) → In e (judged_entries c) → ((m : Met) → In m (judged_files c) → m.ino ≡ e.ino → ⊥) → row_of core files e.ino ≡ option_map (placed_row (entry_listed c e)) (row_at (settled s) e.ino)
  entry_row e i none =
      let y = entry_met s lib b j acc e i in
      let f = reads_of y.met y.stands in
      let now : row_of core files e.ino ≡ Some (row_by y.met f.0.body) = ap (row_of core files) (sym y.ino) ∙ f.1 in
      elim (classes s lib b j acc y.met y.stands) [
        | inl held ↦
            let r : Row = held.1.0 in
            let row : row_at (settled s) e.ino ≡ Some r = ap (row_at (settled s)) (sym y.ino) ∙ held.1.1 in
            let h = held_rights s j.kept lib (creds_of s lib) b j.given acc e.ino r (row_by y.met f.0.body) (subst (λ n. In n b.holds) y.ino held.0) row now in
            now ∙ ap Some (row_same (row_by y.met f.0.body) (placed_row (entry_listed c e) r) h.0 h.1 h.2 h.3 y.parent y.page y.slot) ∙ ap (option_map (placed_row (entry_listed c e))) (sym row)
        | inr rest ↦
            elim rest [
              | inl live ↦ search (arith, unheld_at, unheld_row, row_same)
              | inr new ↦
                  let k = new_judged s lib b j (reads s lib b j acc) (once_met s lib b j acc) y.file e y.judged_one y.among (subst (λ n. In n b.numbers) y.ino new.0) in
                  absurd (none e k refl)
            ]
      ]
    where
      reads_of : (m : Met) → In m files → (f : FileRead) × (row_of core files m.ino ≡ Some (row_by m f.body))
      reads_of m i =
          let f = read_met core pick (fit s lib b j acc) (sound s lib b j acc) m i in
          (f.0, row_met core pick (fit s lib b j acc) (sound s lib b j acc) m f.0 i f.1)

  -- the row of a number that nothing lists
  unlisted_row : (n : ℕ) → ((m : Met) → In m (judged_files c) → m.ino ≡ n → ⊥) → ((e : Met) → In e (judged_entries c) → e.ino ≡ n → ⊥) → row_of core files n ≡ cond (is_among n (listing c).held) None (row_at (settled s) n)
  unlisted_row n no_file no_entry =
      elim (cases_Bool (is_among n (listing c).held)) [
        | inl h ↦
            let held : In n b.holds = held_from c n (is_among-In n (listing c).held h) in
            none_met (λ m i e. (let l = held_is_listed m i (subst (λ k. In k b.holds) (sym e) held) in no_entry l.0 l.1 (l.2 ∙ e)))
            ∙ sym (ap (λ t. cond t None (row_at (settled s) n)) h)
        | inr h ↦
            let unheld : In n b.holds → ⊥ = λ k. both_ways (is_among n (listing c).held) h (In-is_among n (listing c).held (held_to c n k)) in
            by_row unheld (row_at (settled s) n) refl ∙ sym (ap (λ t. cond t None (row_at (settled s) n)) h)
      ]
    where
      none_met : ((m : Met) → In m files → m.ino ≡ n → ⊥) → row_of core files n ≡ None
      none_met none = by_found (row_of core files n) refl
        where
          by_found : (o : Option Row) → row_of core files n ≡ o → row_of core files n ≡ None
          by_found None e = e
          by_found (Some r) e = let q = met_row core pick (fit s lib b j acc) (sound s lib b j acc) n r e in absurd (none q.met q.stands q.number)

      by_row : (In n b.holds → ⊥) → (o : Option Row) → row_at (settled s) n ≡ o → row_of core files n ≡ row_at (settled s) n
      by_row unheld (Some r) e = unheld_row s j.kept lib (creds_of s lib) b j.given acc n r e unheld ∙ sym e
      by_row unheld None e =
          none_met
          (λ m i is. elim (met_side s lib b j acc m i) [
            | inl k ↦ no_file m k is
            | inr o ↦ (let wrong : None ≡ Some o.row = sym e ∙ ap (row_at (settled s)) (sym is) ∙ o.is_row in absurd cc)
          ])
          ∙ sym e

  pub rows_listed : (n : ℕ) → row_at (next (settled s) b) n ≡ row_after (listing (case_of (settled s) (creds_of s lib) b)) (settled s).rows n
  rows_listed n = rows_after_are n ∙ by_file (find (λ (f : ListedFile). eqb f.ino n) (listing c).files) refl
    where
      by_entry : ((m : Met) → In m (judged_files c) → m.ino ≡ n → ⊥) → (o : Option ListedEntry) → find (λ (e : ListedEntry). eqb e.ino n) (listing c).entries ≡ o → row_of core files n ≡ option_map_or (λ (e : ListedEntry). option_map (placed_row e) (row_at (settled s) n)) o (cond (is_among n (listing c).held) None (row_at (settled s) n))
      by_entry no_file None q =
          unlisted_row n no_file
          (λ e i is. (let r = In-find (λ (e : ListedEntry). eqb e.ino n) (listing c).entries (entry_listed c e) (listed_to c e i) (eq-eqb e.ino n is) in let wrong : None ≡ Some r.0 = sym q ∙ r.1 in absurd cc))
      by_entry no_file (Some le) q =
          let g = find-In (λ (e : ListedEntry). eqb e.ino n) (listing c).entries le q in
          let e = listed_from c le g.0 in
          let is : e.0.ino ≡ n = ap (λ (x : ListedEntry). x.ino) (sym e.2) ∙ eqb-true le.ino n g.1 in
          ap (row_of core files) (sym is)
          ∙ entry_row e.0 e.1 (λ m i k. no_file m i (k ∙ is))
          ∙ ap (λ k. option_map (placed_row (entry_listed c e.0)) (row_at (settled s) k)) is
          ∙ ap (λ (x : ListedEntry). option_map (placed_row x) (row_at (settled s) n)) (sym e.2)

      by_file : (o : Option ListedFile) → find (λ (f : ListedFile). eqb f.ino n) (listing c).files ≡ o → row_of core files n ≡ row_after (listing c) (settled s).rows n
      by_file (Some f) q =
          let g = find-In (λ (f : ListedFile). eqb f.ino n) (listing c).files f q in
          let m = file_from f g.0 in
          let is : m.0.ino ≡ n = ap (λ (x : ListedFile). x.ino) (sym m.4) ∙ eqb-true f.ino n g.1 in
          ap (row_of core files) (sym is)
          ∙ judged_row m.0 m.1 m.2 m.3
          ∙ ap (λ (x : ListedFile). Some x.row) (sym m.4)
          ∙ sym (ap (λ o. option_map_or (λ (f : ListedFile). Some f.row) o (option_map_or (λ (e : ListedEntry). option_map (placed_row e) (row_at (settled s) n)) (find (λ (e : ListedEntry). eqb e.ino n) (listing c).entries) (cond (is_among n (listing c).held) None (row_at (settled s) n)))) q)
      by_file None q =
          by_entry
          (λ m i is.
          let r = reads s lib b j acc m i in
          let k = In-find (λ (f : ListedFile). eqb f.ino n) (listing c).files (made m r.file) (file_to m r.file i r.within) (eq-eqb m.ino n is) in
          let wrong : None ≡ Some k.0 = sym q ∙ k.1 in absurd cc)
          (find (λ (e : ListedEntry). eqb e.ino n) (listing c).entries) refl
          ∙ sym (ap (λ o. option_map_or (λ (f : ListedFile). Some f.row) o (option_map_or (λ (e : ListedEntry). option_map (placed_row e) (row_at (settled s) n)) (find (λ (e : ListedEntry). eqb e.ino n) (listing c).entries) (cond (is_among n (listing c).held) None (row_at (settled s) n)))) q)

  -- ---- owners

  owner_now : (p : ℕ) → is_core C.range p ≡ true → slice_index after.owners p ≡ owner_of core files p
  owner_now p k =
      let parts = and_parts (leb C.range.first p) (ltb p C.range.end) k in
      owner_at core pick (fit s lib b j acc) (sound s lib b j acc) after (record { rows = refl; owners = refl }) p (ltb-true p C.range.end parts.1)
      ∙ ap (λ t. cond t 0xFFFFFFFF (owner_of core files p)) (le-ltb p C.range.first (leb-true C.range.first p parts.0))

  owner_was : (p : ℕ) → is_core C.range p ≡ true → slice_index (settled s).owners p ≡ owner_of C (survey C plain) p
  owner_was p k =
      let parts = and_parts (leb C.range.first p) (ltb p C.range.end) k in
      owner_at C plain j.kept.fit j.kept.verifies.sound (settled s) (tables s j.kept) p (ltb-true p C.range.end parts.1)
      ∙ ap (λ t. cond t 0xFFFFFFFF (owner_of C (survey C plain) p)) (le-ltb p C.range.first (leb-true C.range.first p parts.0))

  -- a page of a file that reads as it did has that file for its owner before
  outside_owner : (m : Met) (o : Out_side m) (p : ℕ) → In p (pages_of core m) → slice_index (settled s).owners p ≡ m.ino
  outside_owner m o p i =
      let q = outside_met s lib b j (reads s lib b j acc) m o in
      owner_listed C plain j.kept.fit j.kept.verifies.sound (settled s) (tables s j.kept) q.met p q.stands
      (subst (λ l. In p l) (outside_pages s lib b j (reads s lib b j acc) m o) i)
      ∙ q.number

  lists_page : (m : Met) (g : FileRead) (p : ℕ) → In m (judged_files c) → file_within (bundle_core c) m ≡ Ok g → In p (g.chain.index ++ g.chain.blocks) → In p (pages_of core m)
  lists_page m g p i e k =
      let r = reads s lib b j acc m i in
      let same : g ≡ r.file = (let t : Ok g ≡ Ok r.file = sym e ∙ r.within in cc t) in
      subst (λ l. In p l) (sym (ap pages_in r.whole)) (subst (λ (f : FileRead). In p (f.chain.index ++ f.chain.blocks)) same k)

  -- a live file that doesn't give up its pages is met
  stays_met : (m0 : Met) (r : Row) (o : ℕ) → row_at (settled s) o ≡ Some r → gives_up (listing c) o ≡ false → (m : Met) × In m files × (m.ino ≡ o)
  stays_met m0 r o row stays =
      let l : Listing = listing c in
      elim (cases_Bool (is_among o l.held)) [
        | inr free ↦
            let unheld : In o b.holds → ⊥ = λ k. both_ways (is_among o l.held) free (In-is_among o l.held (held_to c o k)) in
            let q = met_row core pick (fit s lib b j acc) (sound s lib b j acc) o r (unheld_row s j.kept lib (creds_of s lib) b j.given acc o r row unheld) in
            (q.met, q.stands, q.number)
        | inl held ↦
            elim (cases_Bool (is_listed l o)) [
              | inl listed ↦
                  let e = is_listed_at c o listed in
                  let y = entry_met s lib b j acc e.0 e.1 in
                  (y.met, y.stands, y.ino ∙ e.2)
              | inr gone ↦ search (arith, both_ways, stays, or_right, and_from)
            ]
      ]

  -- a page of a file that doesn't give it up stays the file's
  listed_still : (p : ℕ) (m0 : Met) (o : ℕ) → In m0 (survey C plain) → o ≡ m0.ino → In p (pages_of C m0) → gives_up (listing c) o ≡ false → owner_of core files p ≡ o
  listed_still p m0 o i is a stays =
      let f = read_met C plain j.kept.fit j.kept.verifies.sound m0 i in
      let row : row_at (settled s) o ≡ Some (row_by m0 f.0.body) = ap (row_at (settled s)) is ∙ row_of_met s lib b j m0 f.0 i f.1 in
      let m = stays_met m0 (row_by m0 f.0.body) o row stays in
      elim (met_side s lib b j acc m.0 m.1) [
        | inl q ↦
            let r = reads s lib b j acc m.0 q in
            absurd (both_ways (gives_up (listing c) o) stays
            (or_left (has_file (listing c) o) (is_among o (listing c).held && not (is_listed (listing c) o)) (has_file_by c m.0 r.file o q r.within m.2)))
        | inr v ↦
            let q = outside_met s lib b j (reads s lib b j acc) m.0 v in
            let same : m0 ≡ q.met = one_met C plain j.kept.fit j.kept.verifies.sound m0 q.met i q.stands (sym is ∙ sym m.2 ∙ sym q.number) in
            let k : In p (pages_of core m.0) = subst (λ ps. In p ps) (sym (outside_pages s lib b j (reads s lib b j acc) m.0 v)) (subst (λ y. In p (pages_of C y)) same a) in
            owner_is core files m.0 p (sound_parts core pick (sound s lib b j acc)).paged m.1 k ∙ m.2
      ]

  owner_stays : (p : ℕ) → is_core C.range p ≡ true → ((m : Met) → In m (judged_files c) → In p (pages_of core m) → ⊥) → (o : ℕ) → slice_index (settled s).owners p ≡ o → gives_up (listing c) o ≡ false → owner_of core files p ≡ o
  owner_stays p k none o e stays =
      elim (owner_from C (survey C plain) p) [
        | inr q ↦ listed_still p q.0 o q.1 (sym e ∙ owner_was p k ∙ sym q.2) q.3 stays
        | inl z ↦
            let zero_o : o ≡ 0 = sym e ∙ owner_was p k ∙ z in
            owner_none core files p
            (λ m i a. elim (met_side s lib b j acc m i) [
              | inl q ↦ none m q a
              | inr v ↦
                  let is : o ≡ m.ino = sym e ∙ outside_owner m v p a in
                  no_row_zero s lib b j v.row (ap (row_at (settled s)) (sym zero_o ∙ is) ∙ v.is_row)
            ])
            ∙ sym zero_o
      ]

  -- the owner of a page that no judged file lists
  unlisted_owner : (p : ℕ) → is_core C.range p ≡ true → ((m : Met) → In m (judged_files c) → In p (pages_of core m) → ⊥) → owner_of core files p ≡ cond (gives_up (listing c) (slice_index (settled s).owners p)) 0 (slice_index (settled s).owners p)
  unlisted_owner p k none =
      let o : ℕ = slice_index (settled s).owners p in
      let l : Listing = listing c in
      elim (cases_Bool (gives_up l o)) [
        | inl up ↦
            owner_none core files p
            (λ m i a. elim (met_side s lib b j acc m i) [
              | inl q ↦ none m q a
              | inr v ↦
                  let is : o ≡ m.ino = outside_owner m v p a in
                  elim (or_cases (has_file l o) (is_among o l.held && not (is_listed l o)) up) [
                    | inl file ↦
                        let x = has_file_at c o file in
                        let same = same_file s lib b j acc x.0 m (judged_met s lib b j acc x.0 x.1) i (x.2 ∙ is) in
                        none m (subst (λ y. In y (judged_files c)) same x.1) a
                    | inr gone ↦
                        let g = and_parts (is_among o l.held) (not (is_listed l o)) gone in
                        let held : In m.ino b.holds = subst (λ n. In n b.holds) is (held_from c o (is_among-In o l.held g.0)) in
                        let e = held_is_listed m i held in
                        both_ways (is_listed l o) (not-true (is_listed l o) g.1) (is_listed_by c e.0 o e.1 (e.2 ∙ sym is))
                  ]
            ])
            ∙ sym (ap (λ t. cond t 0 o) up)
        | inr stays ↦ owner_stays p k none o refl stays ∙ sym (ap (λ t. cond t 0 o) stays)
      ]

  pub owners_listed : (p : ℕ) → is_core (settled s).core.range p ≡ true → slice_index (next (settled s) b).owners p ≡ owner_after (listing (case_of (settled s) (creds_of s lib) b)) (settled s).owners p
  owners_listed p k = owner_now p k ∙ by_file (find (λ (f : ListedFile). is_among p (f.index ++ f.blocks)) (listing c).files) refl
    where
      by_file : (o : Option ListedFile) → find (λ (f : ListedFile). is_among p (f.index ++ f.blocks)) (listing c).files ≡ o → owner_of core files p ≡ owner_after (listing c) (settled s).owners p
      by_file (Some f) q =
          let g = find-In (λ (f : ListedFile). is_among p (f.index ++ f.blocks)) (listing c).files f q in
          let m = file_from f g.0 in
          let among : In p (m.1.chain.index ++ m.1.chain.blocks) = subst (λ (x : ListedFile). In p (x.index ++ x.blocks)) m.4 (is_among-In p (f.index ++ f.blocks) g.1) in
          owner_is core files m.0 p (sound_parts core pick (sound s lib b j acc)).paged (judged_met s lib b j acc m.0 m.2) (lists_page m.0 m.1 p m.2 m.3 among)
          ∙ ap (λ (x : ListedFile). x.ino) (sym m.4)
          ∙ sym (ap (λ o. option_map_or (λ (f : ListedFile). f.ino) o (cond (gives_up (listing c) (slice_index (settled s).owners p)) 0 (slice_index (settled s).owners p))) q)
      by_file None q =
          unlisted_owner p k
          (λ m i a.
          let r = reads s lib b j acc m i in
          let t = In-find (λ (f : ListedFile). is_among p (f.index ++ f.blocks)) (listing c).files (made m r.file) (file_to m r.file i r.within)
          (In-is_among p (r.file.chain.index ++ r.file.chain.blocks) (subst (λ l. In p l) (ap pages_in r.whole) a)) in
          let wrong : None ≡ Some t.0 = sym q ∙ t.1 in absurd cc)
          ∙ sym (ap (λ o. option_map_or (λ (f : ListedFile). f.ino) o (cond (gives_up (listing c) (slice_index (settled s).owners p)) 0 (slice_index (settled s).owners p))) q)

pub listing_gives_tables : ListingGivesTables
listing_gives_tables s lib b j h = (rows_listed s lib b j h, owners_listed s lib b j h)
