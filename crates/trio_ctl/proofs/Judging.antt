-- A bundle that was given to its library can be judged.
use Rattle.trio_ctl.proofs.Words.{Bundle, Case, Core, Directory, FileRead, GivenTo, In, IsJudgeable, Kept, List, ListedFile, Location, Met, None, Option, Row, Sheet, Some, State, Written, [], and_from, ap, are_new, are_new-append, arith, bundle_pages, case_in, cases_eq, false, false≢true, file_listed, flat_map, flat_map-In, free_is_low, free_unlisted, has_parent, inl, inr, is_core, is_directory, is_some, judged_files, judged_from, le-leb, leb, lent_file, lib_at, list_all, list_all-each, listed_is_core, listing, lt-ltb, ltb, map-append, ne_eqb, new_beside, new_from, new_not_live, pages_are, pages_of, plain, refl, row_at, row_in, row_of_met, settled, sheet_numbers, slice_index, some_one, sound_parts, subst, survey, sym, tables, true, within_some, written_ino, written_row, written_same, ℕ, ◌++◌, ◌<◌, ◌∙◌, ◌∷◌, ◌≡◌, ◌⊎◌}
use Rattle.std.specs.Prelude.{Result, Ok, Err}
use Rattle.trio_rights.specs.Row.{is_child}
use Rattle.trio_lists.proofs.Gathered.{each_new, gathered_new}
use Rattle.trio_layout.specs.Case.{file_in}
use Rattle.trio_layout.specs.Survey.{row_by}
use Rattle.trio_laws.proofs.Bundles.{bundle_page, written_lent}
use Rattle.trio_laws.proofs.judgement.CaseFacts.{no_row_zero, root_row}
use Rattle.trio_laws.proofs.judgement.JudgedFacts.{written_kind}
use Rattle.trio_case.specs.Cases.{HasDirectoryParents}
use Rattle.trio_edges.specs.Leaves.{DataFilesAreLeaves}

numbers_flat_map : (F : Written → List Sheet) (ws : List Written) → sheet_numbers (flat_map F ws) ≡ flat_map (λ w. sheet_numbers (F w)) ws
numbers_flat_map F [] = refl
numbers_flat_map F (w ∷ ws) =
    map-append (λ (x : Sheet). x.page) (F w) (flat_map F ws) ∙ ap (λ l. sheet_numbers (F w) ++ l) (numbers_flat_map F ws)

module _ (s : State) (lib : ℕ) (b : Bundle) (kept : Kept s) (given : GivenTo s lib b) where
  abbrev core : Core
  core = (settled s).core

  abbrev own : Written → List ℕ
  own w = sheet_numbers (w.index ++ w.blocks)

  -- ---- the pages of a bundle

  lent_are : (w : Written) (i : In w b.writes) → own w ≡ pages_of core (kept.lent (given.writes w i).grant (given.writes w i).is_open (given.writes w i).kind).met
  lent_are w i =
      let g = given.writes w i in
      let l = kept.lent g.grant g.is_open g.kind in
      written_same s kept lib b given w i
      ∙ map-append (λ (x : Sheet). x.page) g.grant.index g.grant.blocks
      ∙ ap (λ l. l ++ sheet_numbers g.grant.blocks) l.index
      ∙ ap (λ x. l.file.chain.index ++ x) l.blocks
      ∙ sym (pages_are core l.met l.file l.read)

  lent_new : (w : Written) → In w b.writes → are_new [] (own w) ≡ true
  lent_new w i =
      let g = given.writes w i in
      let l = kept.lent g.grant g.is_open g.kind in
      ap (are_new []) (lent_are w i) ∙ each_new (pages_of core) (survey core plain) l.met (sound_parts core plain kept.verifies.sound).paged l.stands

  one_writer : (w v : Written) (p : ℕ) → In w b.writes → In v b.writes → In p (own w) → In p (own v) → w.ino ≡ v.ino
  one_writer w v p i k a c =
      let g = given.writes w i in
      let h = given.writes v k in
      let l = kept.lent g.grant g.is_open g.kind in
      let same : h.grant.ino ≡ l.met.ino = lent_file s kept l.met p h.grant l.stands (subst (λ ns. In p ns) (lent_are w i) a) h.is_open h.kind (written_lent s kept lib b given v k p c) in
      sym g.ino ∙ sym l.number ∙ sym same ∙ h.ino

  zero_owner : (p : ℕ) → In p (sheet_numbers b.pages) → slice_index s.home.owners p ≡ 0
  zero_owner p i = kept.out_free p (ap is_some (given.pages p i))

  allotted_apart : (p : ℕ) → In p (sheet_numbers b.pages) → In p (flat_map own b.writes) → ⊥
  allotted_apart p i a =
      let w = flat_map-In own p b.writes a in
      let g = given.writes w.0 w.1 in
      let l = kept.lent g.grant g.is_open g.kind in
      free_unlisted core plain kept.fit kept.verifies.sound (settled s) (tables s kept) p (zero_owner p i) l.met l.stands (subst (λ ns. In p ns) (lent_are w.0 w.1) w.2)

  -- no page stands in the bundle twice
  pub pages_new : are_new [] (bundle_pages b) ≡ true
  pages_new =
      let F : Written → List Sheet = λ w. w.index ++ w.blocks in
      ap (are_new []) (map-append (λ (x : Sheet). x.page) (flat_map F b.writes) b.pages ∙ ap (λ l. l ++ sheet_numbers b.pages) (numbers_flat_map F b.writes))
      ∙ are_new-append [] (flat_map own b.writes) (sheet_numbers b.pages)
      ∙ and_from (are_new [] (flat_map own b.writes)) (are_new (flat_map own b.writes) (sheet_numbers b.pages))
      (gathered_new (λ (w : Written). w.ino) own b.writes given.writes_once lent_new one_writer)
      (new_beside (flat_map own b.writes) (sheet_numbers b.pages) given.pages_once allotted_apart)

  -- each page of the bundle is a core page
  pub pages_core : list_all (is_core core.range) (bundle_pages b) ≡ true
  pages_core = list_all-each (is_core core.range) (bundle_pages b) each
    where
      each : (p : ℕ) → In p (bundle_pages b) → is_core core.range p ≡ true
      each p i =
          elim (bundle_page s kept lib b given p i) [
            | inl a ↦
                let out = within_some s.pages_out p (ap is_some (given.pages p a)) in
                let below : p < core.range.end = (let placed = kept.pages_placed in omega (arith, out, placed)) in
                let low = free_is_low core plain kept.fit kept.verifies.sound (settled s) (tables s kept) p (zero_owner p a) below in
                and_from (leb core.range.first p) (ltb p core.range.end) (le-leb core.range.first p low) (lt-ltb p core.range.end below)
            | inr w ↦
                let g = given.writes w.0 w.1 in
                let l = kept.lent g.grant g.is_open g.kind in
                listed_is_core core l.met l.file p l.read (subst (λ ns. In p ns) (lent_are w.0 w.1) w.2)
          ]

module _ (s : State) (lib : ℕ) (b : Bundle) (j : IsJudgeable s lib b) where
  -- ---- parents

  -- a row's parent is a live directory, but for that of the root
  parent_live : (n : ℕ) (r : Row) → row_at (settled s) n ≡ Some r → (r.parent ≡ 0) ⊎ ((q : Row) × (row_at (settled s) r.parent ≡ Some q) × (q.kind ≡ Directory))
  parent_live n r e =
      elim (cases_eq n 1) [
        | inl one ↦
            let t = root_row s lib b j in
            let same : r ≡ t.0 = some_one (row_at (settled s) 1) r t.0 (ap (row_at (settled s)) (sym one) ∙ e) t.1 in
            inl (ap (λ (x : Row). x.parent) same ∙ t.3)
        | inr other ↦
            let h = has_parent s j.kept n r e other in
            inr (row_by h.parent h.file.body, ap (row_at (settled s)) (sym h.number) ∙ row_of_met s lib b j h.parent h.file h.stands h.read, h.kind)
      ]

  pub parents : HasDirectoryParents (settled s).rows
  parents n r q e is =
      elim (parent_live n r e) [
        | inl zero' ↦ absurd (no_row_zero s lib b j q (ap (row_at (settled s)) (sym zero') ∙ is))
        | inr p ↦ ap is_directory (ap (λ (x : Row). x.kind) (some_one (row_at (settled s) r.parent) q p.0 is p.1) ∙ p.2)
      ]

  abbrev c : Case
  c = case_in s lib b

  -- a judged file that is no directory is no row's parent, where the number 0 isn't out
  other_leaf : lib_at s.numbers_out 0 ≡ None → (m : Met) → In m (judged_files c) → is_directory m.kind ≡ false → (n : ℕ) (r : Row) → row_at (settled s) n ≡ Some r → r.parent ≡ m.ino → ⊥
  other_leaf none m i kind n r e is =
      elim (judged_from s lib b j m i) [
        | inl w ↦
            let q = written_row s lib b j w.0 w.1 in
            let number : r.parent ≡ w.0.ino = is ∙ ap (λ (x : Met). x.ino) w.2 ∙ written_ino c w.0 in
            let other : is_directory q.0.kind ≡ false = ap is_directory (sym q.2 ∙ sym (written_kind c w.0) ∙ sym (ap (λ (x : Met). x.kind) w.2)) ∙ kind in
            false≢true (sym other ∙ parents n r q.0 e (ap (row_at (settled s)) number ∙ q.1))
        | inr x ↦
            let new = (new_from s lib b j x.0 m x.2).1 in
            elim (parent_live n r e) [
              | inl zero' ↦
                  let given : lib_at s.numbers_out 0 ≡ Some (record { 0 = lib }) = ap (lib_at s.numbers_out) (sym zero' ∙ is) ∙ j.given.numbers m.ino new in
                  absurd cc
              | inr p ↦ new_not_live s lib b j m.ino p.0 new (ap (row_at (settled s)) (sym is) ∙ p.1)
            ]
      ]

  pub leaves : lib_at s.numbers_out 0 ≡ None → DataFilesAreLeaves (listing c) (settled s).rows
  leaves none f i other n =
      let q = flat_map-In (λ m. file_listed m (file_in c m)) f (judged_files c) i in
      let m = by_read q.0 (file_in c q.0) q.2 in
      by_row (row_in (settled s).rows n) refl q.0 q.1 m.0 (ap is_directory (sym m.1) ∙ other)
    where
      by_read : (m : Met) (o : Result FileRead Location) → In f (file_listed m o) → (f.ino ≡ m.ino) × (f.row.kind ≡ m.kind)
      by_read m (Err place) k = absurd k
      by_read m (Ok read) (inl same) = (ap (λ (x : ListedFile). x.ino) same, ap (λ (x : ListedFile). x.row.kind) same)
      by_read m (Ok read) (inr none') = absurd none'

      by_row : (o : Option Row) → row_in (settled s).rows n ≡ o → (m : Met) → In m (judged_files c) → f.ino ≡ m.ino → is_directory m.kind ≡ false → is_child f.ino o ≡ false
      by_row None e m k number kind = refl
      by_row (Some r) e m k number kind =
          ne_eqb r.parent f.ino (λ same. other_leaf none m k kind n r e (same ∙ number))
