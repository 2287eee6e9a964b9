-- Where a bundle is accepted it meets I1, I2 and I4.
use Rattle.trio_laws.proofs.Words.{◌&&◌, ◌||◌, ◌∙◌, ◌∷◌, ◌≡◌, Body, Bool, Bundle, Case, Core, FileRead, In, In-is_among, IsJudgeable, List, Met, Ok, Option, Pick, Row, Some, State, [], and_from, ap, are_new, are_new-fewer, arith, body_of, both_ways, bundle_core, bundle_pages, bytes_eq, bytes_eq-Decides, case_of, cases_Bool, child_met, children, cond, creds_of, entries_in, entry_in_grammar, entry_is_own, entry_keeps_rights, eq-eqb, eqb, false, file_keeps_rights, file_within, flat_map, flat_map-In, has_kind, has_owner, has_rights, inl, inr, is_accepted, is_among, is_among-In, is_kept, is_ok, is_some, is_written, judged_entries, judged_files, judged_pages, lent_body, lent_settled, list_all, list_all-each, meets_grammar, meets_owning, meets_rights, not, numbers, numbers-flat, or_left, or_right, pages_in, pages_of, pages_within, place_from, place_parts, proposed, proposed_pick, read_met, reads_from, refl, row_at, row_in, row_met, settled, some_one, sound_parts, subst, survey, sym, true, ℕ}
use Rattle.trio_lists.proofs.Gathered.{new_spread}
use Rattle.trio_laws.proofs.judgement.CaseFacts.{new_not_live, held_row, held_apart, written_find, written_row, is_written_from}
use Rattle.trio_laws.proofs.judgement.JudgedFacts.{ReadOwn, written_ino, judged_new, judged_from, new_from, entry_from}
use Rattle.trio_laws.proofs.judgement.RuleParts.{has_kind_from}
use Rattle.trio_laws.proofs.judgement.Sides.{Inside, inside_has, inside_numbers}
use Rattle.trio_laws.proofs.judgement.Taking.{fit, sound, classes, unheld_at, entry_is_child, judged_met, reads}

module _ (s : State) (lib : ℕ) (b : Bundle) (j : IsJudgeable s lib b) (acc : is_accepted (settled s) (creds_of s lib) b ≡ true) where
  abbrev c : Case
  c = case_of (settled s) (creds_of s lib) b

  abbrev core : Core
  core = proposed (settled s) b

  abbrev pick : Pick
  pick = proposed_pick (settled s) b

  abbrev files : List Met
  files = survey (proposed (settled s) b) (proposed_pick (settled s) b)

  abbrev read_all : (m : Met) → In m (judged_files (case_of (settled s) (creds_of s lib) b)) → ReadOwn (case_of (settled s) (creds_of s lib) b) (proposed (settled s) b) m
  read_all m i = reads s lib b j acc m i

  abbrev pub itself : (m : Met) → In m (judged_files (case_of (settled s) (creds_of s lib) b)) → Inside s lib b j (reads s lib b j acc) m
  itself m i = record { file = m; judged_one = i; ino = refl; kind = refl; body = refl }

  -- an entry of a judged file, as it is met
  pub record EntryMet (e : Met) : Type 0 where
    pub file : Met
    pub judged_one : In file (judged_files (case_of (settled s) (creds_of s lib) b))
    pub among : In e (entries_in (case_of (settled s) (creds_of s lib) b) file)
    pub met : Met
    pub child : In met (children (proposed (settled s) b) (proposed_pick (settled s) b) file)
    pub stands : In met (survey (proposed (settled s) b) (proposed_pick (settled s) b))
    pub ino : met.ino ≡ e.ino
    pub page : met.page ≡ e.page
    pub slot : met.slot ≡ e.slot
    pub kind : met.kind ≡ e.kind
    pub parent : met.parent ≡ e.parent

  pub entry_met : (e : Met) → In e (judged_entries (case_of (settled s) (creds_of s lib) b)) → EntryMet e
  entry_met e i =
      let x = entry_from s lib b j e i in
      let y = inside_has s lib b j (reads s lib b j acc) x.0 (itself x.0 x.1) e x.2 in
      record {
        file = x.0;
        judged_one = x.1;
        among = x.2;
        met = y.0;
        child = y.1;
        stands = child_met core pick (fit s lib b j acc).numbers (sound s lib b j acc) x.0 y.0 (judged_met s lib b j acc x.0 x.1) y.1;
        ino = y.2;
        page = y.3;
        slot = y.4;
        kind = y.5;
        parent = y.6;
      }

  -- an entry that isn't a kept child is met as it stands
  pub free_met : (e : Met) → In e (judged_entries (case_of (settled s) (creds_of s lib) b)) → is_kept (case_of (settled s) (creds_of s lib) b) e ≡ false → In e (survey (proposed (settled s) b) (proposed_pick (settled s) b))
  free_met e i free =
      let x = entry_from s lib b j e i in
      child_met core pick (fit s lib b j acc).numbers (sound s lib b j acc) x.0 e (judged_met s lib b j acc x.0 x.1)
      (entry_is_child s lib b j acc x.0 e (read_all x.0 x.1) x.2 free)

  -- ---- I1

  pub grammar_met : meets_grammar (case_of (settled s) (creds_of s lib) b) ≡ true
  grammar_met =
      and_from (list_all (λ m. is_ok (file_within (bundle_core c) m)) (judged_files c)) (list_all (entry_in_grammar c) (judged_entries c))
      (list_all-each (λ m. is_ok (file_within (bundle_core c) m)) (judged_files c) (λ m i. ap is_ok (read_all m i).within))
      (list_all-each (entry_in_grammar c) (judged_entries c)
      (λ e i. elim (cases_Bool (is_kept c e)) [
        | inl kept ↦ or_left (is_kept c e) (is_some (body_of e.kind c.range e.body)) kept
        | inr free ↦
            let f = read_met core pick (fit s lib b j acc) (sound s lib b j acc) e (free_met e i free) in
            or_right (is_kept c e) (is_some (body_of e.kind c.range e.body)) (ap is_some (reads_from core e f.0 f.1).body)
      ]))

  -- ---- I2

  own_page : (p : ℕ) → In p (judged_pages c) → is_among p (bundle_pages b) ≡ true
  own_page p i =
      let q = flat_map-In (pages_within c) p (judged_files c) i in
      let r = read_all q.0 q.1 in
      In-is_among p (bundle_pages b) (r.own p (subst (λ l. In p l) (ap pages_in r.within) q.2))

  pages_met : are_new [] (judged_pages c) ≡ true
  pages_met =
      new_spread (λ (m : Met). m.ino) (pages_of core) (pages_within c) files (judged_files c) (sound_parts core pick (sound s lib b j acc)).paged (judged_new s lib b j) (judged_met s lib b j acc)
      (λ m i. let r = read_all m i in ap pages_in r.within ∙ sym (ap pages_in r.whole))

  pub once_met : are_new [] (numbers (judged_entries (case_of (settled s) (creds_of s lib) b))) ≡ true
  once_met =
      ap (are_new []) (numbers-flat (entries_in c) (judged_files c))
      ∙ new_spread (λ (m : Met). m.ino) (λ m. numbers (children core pick m)) (λ m. numbers (entries_in c m)) files (judged_files c)
      (are_new-fewer [] (1 ∷ []) (flat_map (λ m. numbers (children core pick m)) files) (λ n i. absurd i) (sound_parts core pick (sound s lib b j acc)).numbered)
      (judged_new s lib b j) (judged_met s lib b j acc)
      (λ m i. sym (inside_numbers s lib b j (reads s lib b j acc) m (itself m i)))

  own_entry : (e : Met) → In e (judged_entries c) → entry_is_own c e ≡ true
  own_entry e i =
      elim (cases_Bool (is_kept c e)) [
        | inl kept ↦ or_left (is_kept c e || is_among e.ino b.holds) (is_among e.ino b.numbers) (or_left (is_kept c e) (is_among e.ino b.holds) kept)
        | inr free ↦
            let m = free_met e i free in
            elim (classes s lib b j acc e m) [
              | inl held ↦
                  or_left (is_kept c e || is_among e.ino b.holds) (is_among e.ino b.numbers) (or_right (is_kept c e) (is_among e.ino b.holds) (In-is_among e.ino b.holds held.0))
              | inr rest ↦
                  elim rest [
                    | inr new ↦ or_right (is_kept c e || is_among e.ino b.holds) (is_among e.ino b.numbers) (In-is_among e.ino b.numbers new.0)
                    | inl live ↦
                        let f = unheld_at s lib b j acc e live.1 m live.2 live.0 in
                        absurd (both_ways (is_kept c e) free
                        (place_from e.parent e.page e.slot (row_at (settled s) e.ino) live.1 live.2 (ap (λ (x : Row). x.parent) f.2) (ap (λ (x : Row). x.page) f.2) (ap (λ (x : Row). x.slot) f.2)))
                  ]
            ]
      ]

  pub owning_met : meets_owning (case_of (settled s) (creds_of s lib) b) ≡ true
  owning_met = search (arith, and_from, list_all-each, own_page, pages_met, own_entry, once_met)

  -- ---- I4

  rights_when : (t h k y : Bool) → (t ≡ true → k ≡ true) → (t ≡ false → h ≡ true → (k ≡ true) × (y ≡ true)) → cond t k (not h || (k && y)) ≡ true
  rights_when t h k y p q = search (arith, and_from)

  entry_rights : (e : Met) → In e (judged_entries c) → entry_keeps_rights c e ≡ true
  entry_rights e i =
      rights_when (is_kept c e) (is_among e.ino b.holds) (has_kind e.kind (row_in c.rows e.ino)) (bytes_eq e.body (lent_body c e.ino))
      (λ kept.
      let r = place_parts e.parent e.page e.slot (row_at (settled s) e.ino) kept in
      let q = entry_met e i in
      let row : row_at (settled s) q.met.ino ≡ Some r.0 = ap (row_at (settled s)) q.ino ∙ r.1 in
      has_kind_from e.kind (row_at (settled s) e.ino) r.0 r.1
      (sym q.kind ∙ elim (classes s lib b j acc q.met q.stands) [
        | inl held ↦ held.1.2 ∙ ap (λ (x : Row). x.kind) (some_one (row_at (settled s) q.met.ino) held.1.0 r.0 held.1.1 row)
        | inr rest ↦ search (arith, unheld_at, new_not_live)
      ]))
      (λ free h.
      let m = free_met e i free in
      let is_held : In e.ino b.holds = is_among-In e.ino b.holds h in
      elim (classes s lib b j acc e m) [
        | inl held ↦ (
          has_kind_from e.kind (row_at (settled s) e.ino) held.1.0 held.1.1 held.1.2,
          (bytes_eq-Decides e.body (lent_body c e.ino)).1 (held.2 ∙ sym (lent_settled (settled s) (creds_of s lib) b e.ino is_held)),
        )
        | inr rest ↦
            elim rest [
              | inl live ↦ absurd (live.0 is_held)
              | inr new ↦ absurd (new_unheld e.ino new.0 is_held)
            ]
      ])
    where
      new_unheld : (n : ℕ) → In n b.numbers → In n b.holds → ⊥
      new_unheld n i k = let r = held_row s lib b j n k in new_not_live s lib b j n r.0 i r.1

  has_rights_from : (o : Option Row) (r : Row) (f : Body) → o ≡ Some r → r.mode.0 ≡ f.mode.0 → r.uid ≡ f.uid → r.gid ≡ f.gid → has_rights o f ≡ true
  has_rights_from o r f e mode uid gid = search (arith, and_from, eq-eqb)

  file_rights_when : (w x y : Bool) → (w ≡ true → x ≡ true) → (w ≡ false → y ≡ true) → cond w x y ≡ true
  file_rights_when true x y p q = p refl
  file_rights_when false x y p q = q refl

  file_rights : (m : Met) → In m (judged_files c) → file_keeps_rights c m (file_within (bundle_core c) m) ≡ true
  file_rights m i =
      let r = read_all m i in
      let met = judged_met s lib b j acc m i in
      let f : FileRead = r.file in
      ap (file_keeps_rights c m) r.within
      ∙ file_rights_when (is_written b m.ino) (has_rights (row_in c.rows m.ino) f.body) (eqb f.body.uid c.creds.uid && eqb f.body.gid c.creds.gid)
      (λ t.
      let w = written_find s lib b j m.ino t in
      let q = written_row s lib b j w.0 w.1 in
      let row : row_at (settled s) m.ino ≡ Some q.0 = ap (row_at (settled s)) (sym w.2) ∙ q.1 in
      let g = unheld_at s lib b j acc m q.0 met row (λ k. held_apart s lib b j m.ino k w.0 w.1 w.2) in
      let same : g.0 ≡ f = (let t : Ok g.0 ≡ Ok f = sym g.1 ∙ r.whole in cc t) in
      has_rights_from (row_at (settled s) m.ino) q.0 f.body row
      (ap (λ (x : Row). x.mode.0) g.2 ∙ ap (λ (y : FileRead). y.body.mode.0) same)
      (ap (λ (x : Row). x.uid) g.2 ∙ ap (λ (y : FileRead). y.body.uid) same)
      (ap (λ (x : Row). x.gid) g.2 ∙ ap (λ (y : FileRead). y.body.gid) same))
      (λ un. elim (judged_from s lib b j m i) [
        | inl w ↦
            absurd (both_ways (is_written b m.ino) un (ap (is_written b) (ap (λ (y : Met). y.ino) w.2 ∙ written_ino c w.0) ∙ is_written_from s lib b j w.0 w.1))
        | inr y ↦
            let new = (new_from s lib b j y.0 m y.2).1 in
            elim (classes s lib b j acc m met) [
              | inl held ↦ absurd (new_not_live s lib b j m.ino held.1.0 new held.1.1)
              | inr rest ↦
                  elim rest [
                    | inl live ↦ absurd (new_not_live s lib b j m.ino live.1 new live.2)
                    | inr n ↦
                        sym (ap (has_owner (creds_of s lib)) (row_met core pick (fit s lib b j acc) (sound s lib b j acc) m f met r.whole)) ∙ n.1
                  ]
            ]
      ])

  pub rights_met : meets_rights (case_of (settled s) (creds_of s lib) b) ≡ true
  rights_met = search (arith, and_from, list_all-each, entry_rights, file_rights)
