-- Where a bundle is accepted: its judged files are met, and every file met is judged or as it was.
use Rattle.trio_laws.proofs.Words.{◌&&◌, ◌++◌, ◌∙◌, ◌≡◌, ◌⊎◌, Bool, Bundle, Case, Core, FileRead, In, In-is_among, IsFit, IsJudgeable, List, Listed, Met, None, Ok, Option, Pick, Row, Some, State, Written, and_parts, ap, arith, both_ways, bundle_pages, bytes_eq, bytes_eq-Decides, case_of, child_from, child_has, child_met, children, cond, creds_of, entries_in, eqb, false, file_of, find, has_kind, has_owner, inl, inr, is_accepted, is_among, is_among-In, is_place_of, is_some, is_sound, is_written, judged_files, kept_body, list_all, list_all-In, lists_own, may_stand, met_cases, met_in, met_row, met_same, one_keyed, option_map_or, pages_are, pages_of, place_from, plain, proposed, proposed_pick, read_met, refl, row_at, row_by, row_met, row_of, settled, settled_body, some_of, some_one, subst, survey, sym, true, written_at, written_met, ℕ}
use Rattle.trio_laws.proofs.Survivors.{fit_now, has_kind_is, sound_now, stand_cases, unheld_row}
use Rattle.trio_laws.proofs.judgement.CaseFacts.{new_dead, new_not_live, held_apart, written_find, written_row, is_written_from}
use Rattle.trio_laws.proofs.judgement.JudgedFacts.{ReadOwn, judged_keep, new_from, entries_are}
use Rattle.trio_surveys.proofs.OwnFiles.{own_within}

module _ (s : State) (lib : ℕ) (b : Bundle) (j : IsJudgeable s lib b) (acc : is_accepted (settled s) (creds_of s lib) b ≡ true) where
  abbrev c : Case
  c = case_of (settled s) (creds_of s lib) b

  abbrev core : Core
  core = proposed (settled s) b

  abbrev pick : Pick
  pick = proposed_pick (settled s) b

  abbrev files : List Met
  files = survey (proposed (settled s) b) (proposed_pick (settled s) b)

  pub fit : IsFit (proposed (settled s) b)
  fit = fit_now s j.kept lib (creds_of s lib) b j.given acc

  pub sound : is_sound (proposed (settled s) b) (proposed_pick (settled s) b) ≡ true
  sound = sound_now s j.kept lib (creds_of s lib) b j.given acc

  allowed : list_all (may_stand (settled s) (creds_of s lib) b core files) files ≡ true
  allowed = search (arith, and_parts)

  abbrev Held_met : Met → Type 0
  Held_met m = In m.ino b.holds × ((r : Row) × (row_at (settled s) m.ino ≡ Some r) × (m.kind ≡ r.kind)) × (m.body ≡ settled_body (settled s) m.ino)

  abbrev Live_met : Met → Type 0
  Live_met m = (In m.ino b.holds → ⊥) × (r : Row) × (row_at (settled s) m.ino ≡ Some r) × (is_written b m.ino ≡ true → lists_own b core m ≡ true)

  abbrev New_met : Met → Type 0
  New_met m = In m.ino b.numbers × (has_owner (creds_of s lib) (row_of core files m.ino) ≡ true) × (lists_own b core m ≡ true)

  -- what a file that is met is
  pub classes : (m : Met) → In m (survey (proposed (settled s) b) (proposed_pick (settled s) b)) → Held_met m ⊎ (Live_met m ⊎ New_met m)
  classes m i =
      let H : Bool = is_among m.ino b.holds in
      let L : Bool = is_some (row_at (settled s) m.ino) in
      let W : Bool = is_some (find (λ (w : Written). eqb w.ino m.ino) b.writes) in
      let X : Bool = has_kind m.kind (row_at (settled s) m.ino) && bytes_eq m.body (settled_body (settled s) m.ino) in
      let Z : Bool = is_among m.ino b.numbers && has_owner (creds_of s lib) (row_of core files m.ino) && lists_own b core m in
      let e = list_all-In (may_stand (settled s) (creds_of s lib) b core files) m files allowed i in
      elim (stand_cases H L W X (lists_own b core m) Z e) [
        | inl held ↦ search (arith, and_parts, is_among-In, has_kind_is, bytes_eq-Decides)
        | inr rest ↦ search (arith, some_of, both_ways, In-is_among, and_parts, is_among-In)
      ]

  -- a live file that isn't held is met with its row
  pub unheld_at : (m : Met) (r : Row) → In m (survey (proposed (settled s) b) (proposed_pick (settled s) b)) → row_at (settled s) m.ino ≡ Some r → (In m.ino b.holds → ⊥) → (f : FileRead) × (file_of (proposed (settled s) b) m ≡ Ok f) × (r ≡ row_by m f.body)
  unheld_at m r i e unheld =
      let f = read_met core pick fit sound m i in
      let row = unheld_row s j.kept lib (creds_of s lib) b j.given acc m.ino r e unheld in
      (f.0, f.1, some_one (row_of core files m.ino) r (row_by m f.0.body) row (row_met core pick fit sound m f.0 i f.1))

  -- a file met at its row's place has the body that is kept
  pub body_kept : (m : Met) (r : Row) → In m (survey (proposed (settled s) b) (proposed_pick (settled s) b)) → row_at (settled s) m.ino ≡ Some r → r.parent ≡ m.parent → r.page ≡ m.page → r.slot ≡ m.slot → m.body ≡ kept_body (settled s) b m.ino
  body_kept m r i e parent page slot =
      elim (met_cases core pick fit.numbers sound m i) [
        | inl z ↦ ap (λ (x : Met). x.body) z ∙ ap (λ (x : Met). kept_body (settled s) b x.ino) (sym z)
        | inr q ↦
            let k = child_from core pick q.0 m q.2 in
            let l : Listed = k.entry in
            let P : Met → Type 0 = λ x. x.body ≡ pick x.parent x.page x.slot x.ino l.body in
            let picked : P m = subst P (sym k.is) refl in
            picked ∙ ap (λ t. cond t (kept_body (settled s) b m.ino) l.body) (place_from m.parent m.page m.slot (row_at (settled s) m.ino) r e parent page slot)
      ]

  -- a written file is met as it is judged
  written_is_met : (w : Written) → In w b.writes → In (written_met c w) files × (lists_own b core (written_met c w) ≡ true)
  written_is_met w i =
      let r = written_row s lib b j w i in
      let unheld : In w.ino b.holds → ⊥ = λ k. held_apart s lib b j w.ino k w i refl in
      let row = unheld_row s j.kept lib (creds_of s lib) b j.given acc w.ino r.0 r.1 unheld in
      let q = met_row core pick fit sound w.ino r.0 row in
      let m : Met = q.met in
      let row_m : row_at (settled s) m.ino ≡ Some r.0 = ap (row_at (settled s)) q.number ∙ r.1 in
      let body = body_kept m r.0 q.stands row_m (ap (λ (x : Row). x.parent) q.row) (ap (λ (x : Row). x.page) q.row) (ap (λ (x : Row). x.slot) q.row) in
      let f = written_find s lib b j w.ino (is_written_from s lib b j w i) in
      let own : kept_body (settled s) b w.ino ≡ w.body =
      ap (λ o. option_map_or (λ (w : Written). w.body) o (settled_body (settled s) w.ino)) f.3 ∙ ap (λ (w : Written). w.body) (one_keyed (λ (w : Written). w.ino) b.writes f.0 w j.given.writes_once f.1 i f.2) in
      let at : m ≡ written_at w (Some r.0) = search (arith, met_same) in
      let is : m ≡ written_met c w = at ∙ ap (written_at w) (sym r.1) in
      let P : Met → Type 0 = λ x. In x files × (lists_own b core x ≡ true) in
      subst P is (q.stands, own_pages m q.stands (subst (λ n. is_written b n ≡ true) (sym q.number) (is_written_from s lib b j w i)))
    where
      own_pages : (m : Met) → In m files → is_written b m.ino ≡ true → lists_own b core m ≡ true
      own_pages m i t =
          elim (classes m i) [
            | inl held ↦ let w = written_find s lib b j m.ino t in absurd (held_apart s lib b j m.ino held.0 w.0 w.1 w.2)
            | inr rest ↦ elim rest [ inl live ↦ live.3 t | inr new ↦ new.2 ]
          ]

  read_own : (m : Met) → In m files → lists_own b core m ≡ true → ReadOwn c core m
  read_own m i own =
      let f = read_met core pick fit sound m i in
      let o : (p : ℕ) → In p (f.0.chain.index ++ f.0.chain.blocks) → In p (bundle_pages b) =
      λ p k. is_among-In p (bundle_pages b) (list_all-In (λ page. is_among page (bundle_pages b)) p (pages_of core m) own (subst (λ l. In p l) (sym (pages_are core m f.0 f.1)) k)) in
      record { file = f.0; within = own_within (settled s) (creds_of s lib) b j.kept.fit.long m f.0 f.1 o; whole = f.1; own = o }

  -- an entry that isn't a kept child is met as it stands
  pub entry_is_child : (x e : Met) (r : ReadOwn (case_of (settled s) (creds_of s lib) b) (proposed (settled s) b) x) → In e (entries_in (case_of (settled s) (creds_of s lib) b) x) → is_place_of e.parent e.page e.slot (row_at (settled s) e.ino) ≡ false → In e (children (proposed (settled s) b) (proposed_pick (settled s) b) x)
  entry_is_child x e r i free =
      let q = child_from core plain x e (subst (λ l. In e l) (entries_are s lib b j x r) i) in
      let l : Listed = q.entry in
      let y : Met = met_in pick x.ino l in
      let k : In y (children core pick x) = child_has core pick x q.file l q.read q.listed in
      let P : Met → Type 0 = λ z. is_place_of z.parent z.page z.slot (row_at (settled s) z.ino) ≡ false in
      let free' : P (met_in plain x.ino l) = subst P q.is free in
      let same : y ≡ met_in plain x.ino l =
      met_same y (met_in plain x.ino l) refl refl refl refl refl (ap (λ t. cond t (kept_body (settled s) b l.entry.ino) l.body) free') in
      subst (λ z. In z (children core pick x)) (same ∙ sym q.is) k

  dead_place : (d p t : ℕ) (o : Option Row) → o ≡ None → is_place_of d p t o ≡ false
  dead_place d p t o e = ap (is_place_of d p t) e

  judged_both : (m : Met) → In m (judged_files c) → In m files × (lists_own b core m ≡ true)
  judged_both m i =
      judged_keep s lib b j (λ m. In m files × (lists_own b core m ≡ true)) written_is_met
      (λ x e p k.
      let r = read_own x p.0 p.1 in
      let n = new_from s lib b j x e k in
      let kid = entry_is_child x e r n.0 (dead_place e.parent e.page e.slot (row_at (settled s) e.ino) (new_dead s lib b j e.ino n.1)) in
      let met = child_met core pick fit.numbers sound x e p.0 kid in (
        met,
        elim (classes e met) [
          | inl held ↦ absurd (new_not_live s lib b j e.ino held.1.0 n.1 held.1.1)
          | inr rest ↦ elim rest [ inl live ↦ absurd (new_not_live s lib b j e.ino live.1 n.1 live.2) | inr new ↦ new.2 ]
        ],
      )) m i

  pub judged_met : (m : Met) → In m (judged_files (case_of (settled s) (creds_of s lib) b)) → In m (survey (proposed (settled s) b) (proposed_pick (settled s) b))
  judged_met m i = (judged_both m i).0

  pub reads : (m : Met) → In m (judged_files (case_of (settled s) (creds_of s lib) b)) → ReadOwn (case_of (settled s) (creds_of s lib) b) (proposed (settled s) b) m
  reads m i = let p = judged_both m i in read_own m p.0 p.1
