-- Where a bundle meets the four rules, the survey of the proposed core is sound.
use Rattle.trio_laws.proofs.Words.{◌++◌, ◌<◌, ◌∙◌, ◌∷◌, ◌≡◌, ◌⊎◌, Bundle, Case, Core, In, IsJudgeable, Met, Pick, Row, Some, State, [], ap, are_new, are_new-fewer, arith, bundle_pages, case_of, child_numbered, children, cond, creds_of, each_new, entries_in, file_of, flat_map, inl, inr, is_kept, is_ok, is_sound, is_written, judged_entries, judged_files, kept_body, lent_settled, map-In, meets_rules, met_same, numbers, numbers-flat, one_of, pages_of, pages_within, place_parts, plain, proposed, proposed_pick, refl, root_of, row_at, row_in, settled, some_one, sound_parts, subst, survey, sym, true, ℕ}
use Rattle.trio_surveys.proofs.Sharing.{Shares, sound_by, survey_keeps}
use Rattle.trio_laws.proofs.judgement.CaseFacts.{new_not_live, held_row, held_parent, held_apart, no_row_zero, root_row, root_unheld, kept_settled, written_row, written_find}
use Rattle.trio_laws.proofs.judgement.JudgedFacts.{ReadOwn, entry_to, judged_from, new_from, new_judged, entries_are, written_ino}
use Rattle.trio_surveys.proofs.OwnFiles.{own_whole}
use Rattle.trio_laws.proofs.judgement.RuleParts.{has_kind_is, rule_file, rule_page, rule_pages_once, rule_once, rule_own, rule_kept_kind, rule_held}
use Rattle.trio_laws.proofs.judgement.Sides.{Inside, Outside, live_sides, inside_read, inside_pages, inside_own, inside_numbers, inside_child, outside_met, outside_read, outside_pages, outside_apart, outside_numbers, outside_child}

module _ (s : State) (lib : ℕ) (b : Bundle) (j : IsJudgeable s lib b) (h : meets_rules (case_of (settled s) (creds_of s lib) b) ≡ true) where
  abbrev c : Case
  c = case_of (settled s) (creds_of s lib) b

  abbrev core : Core
  core = proposed (settled s) b

  abbrev pick : Pick
  pick = proposed_pick (settled s) b

  pub reads : (m : Met) → In m (judged_files (case_of (settled s) (creds_of s lib) b)) → ReadOwn (case_of (settled s) (creds_of s lib) b) (proposed (settled s) b) m
  reads m i =
      let f = rule_file c h m i in
      let own : (p : ℕ) → In p (f.0.chain.index ++ f.0.chain.blocks) → In p (bundle_pages b) = λ p k. rule_page c h m f.0 p i f.1 k in
      record { file = f.0; within = f.1; whole = own_whole (settled s) (creds_of s lib) b j.kept.fit.long m f.0 f.1 own; own = own }

  abbrev In_side : Met → Type 0
  In_side m = Inside s lib b j reads m

  abbrev Out_side : Met → Type 0
  Out_side m = Outside s lib b j reads m

  -- a live file with the body that is kept, held or at its row's place
  pub record LiveNow (m : Met) : Type 0 where
    pub row : Row
    pub is_row : row_at (settled s) m.ino ≡ Some row
    pub kind : m.kind ≡ row.kind
    pub body : m.body ≡ kept_body (settled s) b m.ino
    pub place : In m.ino b.holds ⊎ ((m.parent ≡ row.parent) × (m.page ≡ row.page) × (m.slot ≡ row.slot))

  -- or a new one that is judged
  abbrev pub Stands : Met → Type 0
  Stands m = LiveNow m ⊎ (In m (judged_files (case_of (settled s) (creds_of s lib) b)) × In m.ino b.numbers)

  pub sides : (m : Met) → Stands m → In_side m ⊎ Out_side m
  sides m (inl l) = live_sides s lib b j reads m l.row l.is_row l.kind l.body
  sides m (inr n) = inl (record { file = m; judged_one = n.0; ino = refl; kind = refl; body = refl })

  pub root_stands : Stands (root_of (proposed (settled s) b))
  root_stands = search (arith, root_row)

  -- ---- what a child inside is

  -- the entry is kept: its row names this directory and place
  pub kept_row : (e : Met) → is_kept (case_of (settled s) (creds_of s lib) b) e ≡ true → (r : Row) × (row_at (settled s) e.ino ≡ Some r) × (r.parent ≡ e.parent) × (r.page ≡ e.page) × (r.slot ≡ e.slot)
  kept_row e k = place_parts e.parent e.page e.slot (row_at (settled s) e.ino) k

  inside_stands : (m : Met) (k : In_side m) (x : Met) → In x (children core pick m) → Stands x
  inside_stands m k x i =
      let q = inside_child s lib b j reads m k x i in
      let e : Met = q.entry in
      let ei : In e (judged_entries c) = entry_to s lib b j k.file e k.judged_one q.among in
      elim (rule_own c h e ei) [
        | inl kept ↦
            let r = kept_row e kept in
            inl (record {
              row = r.0;
              is_row = ap (row_at (settled s)) q.ino ∙ r.1;
              kind = q.kind ∙ has_kind_is e.kind (row_in c.rows e.ino) r.0 r.1 (rule_kept_kind c h e ei kept);
              body = q.body ∙ ap (λ t. cond t (kept_body (settled s) b e.ino) e.body) kept ∙ ap (kept_body (settled s) b) (sym q.ino);
              place = inr (q.parent ∙ sym r.2, q.page ∙ sym r.3, q.slot ∙ sym r.4);
            })
        | inr free ↦
            let slot_body : x.body ≡ e.body = q.body ∙ ap (λ t. cond t (kept_body (settled s) b e.ino) e.body) free.0 in
            elim free.1 [
              | inl held ↦
                  let r = held_row s lib b j e.ino held in
                  let w = rule_held c h e ei free.0 held in
                  inl (record {
                    row = r.0;
                    is_row = ap (row_at (settled s)) q.ino ∙ r.1;
                    kind = q.kind ∙ has_kind_is e.kind (row_in c.rows e.ino) r.0 r.1 w.0;
                    body =
                        slot_body ∙ w.1 ∙ lent_settled (settled s) (creds_of s lib) b e.ino held
                        ∙ sym (kept_settled s lib b j e.ino (held_apart s lib b j e.ino held)) ∙ ap (kept_body (settled s) b) (sym q.ino);
                    place = inl (subst (λ n. In n b.holds) (sym q.ino) held);
                  })
              | inr new ↦
                  let is : x ≡ e = met_same x e q.ino q.kind q.parent q.page q.slot slot_body in
                  let P : Met → Type 0 = λ y. In y (judged_files c) × In y.ino b.numbers in
                  let there : In e (judged_files c) = new_judged s lib b j reads (rule_once c h) k.file e k.judged_one q.among new in
                  inr (subst P (sym is) (there, new))
            ]
      ]

  outside_stands : (m : Met) (o : Out_side m) (x : Met) → In x (children core pick m) → Stands x
  outside_stands m o x i =
      let q = outside_child s lib b j reads m o x i in
      inl (record { row = q.row; is_row = q.is_row; kind = q.kind; body = q.body; place = inr (q.parent, q.page, q.slot) })

  pub down : (m x : Met) → Stands m → In x (children (proposed (settled s) b) (proposed_pick (settled s) b) m) → Stands x
  down m x t i =
      elim (sides m t) [
        | inl k ↦ inside_stands m k x i
        | inr o ↦ outside_stands m o x i
      ]

  -- ---- what two files share

  settled_pages : are_new [] (flat_map (pages_of (settled s).core) (survey (settled s).core plain)) ≡ true
  settled_pages = (sound_parts (settled s).core plain j.kept.verifies.sound).paged

  settled_once : are_new [] (flat_map (λ m. numbers (children (settled s).core plain m)) (survey (settled s).core plain)) ≡ true
  settled_once =
      are_new-fewer [] (1 ∷ []) (flat_map (λ m. numbers (children (settled s).core plain m)) (survey (settled s).core plain)) (λ n i. absurd i) (sound_parts (settled s).core plain j.kept.verifies.sound).numbered

  entries_once : are_new [] (flat_map (λ m. numbers (entries_in c m)) (judged_files c)) ≡ true
  entries_once = ap (are_new []) (sym (numbers-flat (entries_in c) (judged_files c))) ∙ rule_once c h

  ino_of : (m x : Met) → m ≡ x → m.ino ≡ x.ino
  ino_of m x e = ap (λ (y : Met). y.ino) e

  -- a number that a file on each side lists is listed by one file
  mixed : (m x : Met) (n : ℕ) (k : In_side m) (o : Out_side x) → In n (numbers (children core pick m)) → In n (numbers (children core pick x)) → m.ino ≡ x.ino
  mixed m x n k o i l =
      let y = map-In (λ (y : Met). y.ino) n (children core pick m) i in
      let z = map-In (λ (y : Met). y.ino) n (children core pick x) l in
      let q = inside_child s lib b j reads m k y.0 y.1 in
      let p = outside_child s lib b j reads x o z.0 z.1 in
      let e : Met = q.entry in
      let ei : In e (judged_entries c) = entry_to s lib b j k.file e k.judged_one q.among in
      let same : z.0.ino ≡ e.ino = sym z.2 ∙ y.2 ∙ q.ino in
      let row : row_at (settled s) e.ino ≡ Some p.row = ap (row_at (settled s)) (sym same) ∙ p.is_row in
      elim (rule_own c h e ei) [
        | inl kept ↦ search (arith, kept_row, some_one)
        | inr free ↦
            elim free.1 [
              | inl held ↦
                  let w = written_find s lib b j x.ino (ap (is_written b) (sym p.directory) ∙ held_parent s lib b j e.ino p.row held row) in
                  absurd (o.unwritten w.0 w.1 w.2)
              | inr new ↦ absurd (new_not_live s lib b j e.ino p.row new row)
            ]
      ]

  zero_none : (m : Met) → Stands m → m.ino ≡ 0 → ⊥
  zero_none m (inl l) z = no_row_zero s lib b j l.row (ap (row_at (settled s)) (sym z) ∙ l.is_row)
  zero_none m (inr n) z =
      elim (judged_from s lib b j m n.0) [
        | inl w ↦
            let r = written_row s lib b j w.0 w.1 in
            let is : m.ino ≡ w.0.ino = ino_of m _ w.2 ∙ written_ino c w.0 in
            no_row_zero s lib b j r.0 (ap (row_at (settled s)) (sym z ∙ is) ∙ r.1)
        | inr x ↦
            let e : In m (children core plain x.0) = subst (λ l. In m l) (entries_are s lib b j x.0 (reads x.0 x.1)) (new_from s lib b j x.0 m x.2).0 in
            let l : 0 < m.ino = (child_numbered core plain x.0 m e).0 in
            omega (arith, l, z)
      ]

  root_unlisted : (m x : Met) → Stands m → In x (children core pick m) → x.ino ≡ 1 → ⊥
  root_unlisted m x t i one =
      let r1 = root_row s lib b j in
      elim (sides m t) [
        | inl k ↦
            let q = inside_child s lib b j reads m k x i in
            let e : Met = q.entry in
            let ei : In e (judged_entries c) = entry_to s lib b j k.file e k.judged_one q.among in
            let is : e.ino ≡ 1 = sym q.ino ∙ one in
            elim (rule_own c h e ei) [
              | inl kept ↦
                  let r = kept_row e kept in
                  let same : r.0 ≡ r1.0 = some_one (row_at (settled s) 1) r.0 r1.0 (ap (row_at (settled s)) (sym is) ∙ r.1) r1.1 in
                  zero_none m t (k.ino ∙ sym q.directory ∙ sym r.2 ∙ ap (λ (w : Row). w.parent) same ∙ r1.3)
              | inr free ↦ search (arith, root_unheld, new_not_live)
            ]
        | inr o ↦
            let p = outside_child s lib b j reads m o x i in
            let same : p.row ≡ r1.0 = some_one (row_at (settled s) 1) p.row r1.0 (ap (row_at (settled s)) (sym one) ∙ p.is_row) r1.1 in
            zero_none m t (sym p.directory ∙ ap (λ (w : Row). w.parent) same ∙ r1.3)
      ]

  all_pages_new : (m : Met) → Stands m → are_new [] (pages_of core m) ≡ true
  all_pages_new m t =
      elim (sides m t) [
        | inl k ↦ ap (are_new []) (inside_pages s lib b j reads m k) ∙ each_new (pages_within c) (judged_files c) k.file (rule_pages_once c h) k.judged_one
        | inr o ↦
            let q = outside_met s lib b j reads m o in
            ap (are_new []) (outside_pages s lib b j reads m o) ∙ each_new (pages_of (settled s).core) (survey (settled s).core plain) q.met settled_pages q.stands
      ]

  page_once : (m x : Met) (p : ℕ) → Stands m → Stands x → In p (pages_of core m) → In p (pages_of core x) → m.ino ≡ x.ino
  page_once m x p t u i l =
      elim (sides m t) [
        | inl k ↦
            elim (sides x u) [
              | inl n ↦
                  k.ino
                  ∙ ino_of k.file n.file (one_of (pages_within c) (judged_files c) k.file n.file p (rule_pages_once c h) k.judged_one n.judged_one
                  (subst (λ ps. In p ps) (inside_pages s lib b j reads m k) i) (subst (λ ps. In p ps) (inside_pages s lib b j reads x n) l))
                  ∙ sym n.ino
              | inr o ↦ absurd (outside_apart s lib b j reads x o p l (inside_own s lib b j reads m k p i))
            ]
        | inr o ↦
            elim (sides x u) [
              | inl n ↦ absurd (outside_apart s lib b j reads m o p i (inside_own s lib b j reads x n p l))
              | inr v ↦
                  let a = outside_met s lib b j reads m o in
                  let d = outside_met s lib b j reads x v in
                  sym a.number
                  ∙ ino_of a.met d.met (one_of (pages_of (settled s).core) (survey (settled s).core plain) a.met d.met p settled_pages a.stands d.stands
                  (subst (λ ps. In p ps) (outside_pages s lib b j reads m o) i) (subst (λ ps. In p ps) (outside_pages s lib b j reads x v) l))
                  ∙ d.number
            ]
      ]

  all_names_new : (m : Met) → Stands m → are_new [] (numbers (children core pick m)) ≡ true
  all_names_new m t =
      elim (sides m t) [
        | inl k ↦ ap (are_new []) (inside_numbers s lib b j reads m k) ∙ each_new (λ m. numbers (entries_in c m)) (judged_files c) k.file entries_once k.judged_one
        | inr o ↦
            let q = outside_met s lib b j reads m o in
            ap (are_new []) (outside_numbers s lib b j reads m o) ∙ each_new (λ m. numbers (children (settled s).core plain m)) (survey (settled s).core plain) q.met settled_once q.stands
      ]

  name_once : (m x : Met) (n : ℕ) → Stands m → Stands x → In n (numbers (children core pick m)) → In n (numbers (children core pick x)) → m.ino ≡ x.ino
  name_once m x n t u i l =
      elim (sides m t) [
        | inl k ↦
            elim (sides x u) [
              | inl v ↦
                  k.ino
                  ∙ ino_of k.file v.file (one_of (λ m. numbers (entries_in c m)) (judged_files c) k.file v.file n entries_once k.judged_one v.judged_one
                  (subst (λ ns. In n ns) (inside_numbers s lib b j reads m k) i) (subst (λ ns. In n ns) (inside_numbers s lib b j reads x v) l))
                  ∙ sym v.ino
              | inr o ↦ mixed m x n k o i l
            ]
        | inr o ↦
            elim (sides x u) [
              | inl v ↦ sym (mixed x m n v o l i)
              | inr v ↦
                  let a = outside_met s lib b j reads m o in
                  let d = outside_met s lib b j reads x v in
                  sym a.number
                  ∙ ino_of a.met d.met (one_of (λ m. numbers (children (settled s).core plain m)) (survey (settled s).core plain) a.met d.met n settled_once a.stands d.stands
                  (subst (λ ns. In n ns) (outside_numbers s lib b j reads m o) i) (subst (λ ns. In n ns) (outside_numbers s lib b j reads x v) l))
                  ∙ d.number
            ]
      ]

  all_read : (m : Met) → Stands m → is_ok (file_of core m) ≡ true
  all_read m t =
      elim (sides m t) [
        | inl k ↦ ap is_ok (inside_read s lib b j reads m k)
        | inr o ↦ ap is_ok (outside_read s lib b j reads m o)
      ]

  shares : Shares core pick Stands
  shares = search (arith, root_stands, down, reads, all_read, all_pages_new, page_once, all_names_new, name_once, root_unlisted)

  pub rules_sound : is_sound (proposed (settled s) b) (proposed_pick (settled s) b) ≡ true
  rules_sound = sound_by core pick Stands shares

  pub met_stands : (m : Met) → In m (survey (proposed (settled s) b) (proposed_pick (settled s) b)) → Stands m
  met_stands m i = survey_keeps core pick Stands root_stands down m i
