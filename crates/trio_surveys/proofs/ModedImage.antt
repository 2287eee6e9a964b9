-- An image in which one file has another mode verifies.
use Rattle.trio_surveys.proofs.Words.{◌∙◌, ◌∷◌, ◌≡◌, ◌≤◌, Core, FileRead, Image, In, In-map, IsFit, List, Met, None, Option, Row, Some, Verifies, [], ap, arith, body_with_mode, cases_eq, cond, eq-eqb, eqb, false, file_of, get_or-set_other, inl, inr, is_among, is_sound, length-set, ltb, map, map-In, ne_eqb, owner_of, owners_table, pages_of, plain, refl, row_at, row_by, row_of, rows_table, set, settled_body, subst, survey, sym, tabulated-get, tabulated-length, tabulated-same, true, with_bodies, ℕ}
use Rattle.std.specs.Prelude.{Ok}
use Rattle.std.proofs.lemmas.List.{get_or-set_same, same_lists}
use Rattle.trio_layout.specs.Mode.{row_with_mode, body_put, image_with_mode}
use Rattle.trio_surveys.proofs.Images.{TablesOf, MetAt, row_at_is, row_met, met_row, read_met, met_numbered, settled_body_met}
use Rattle.trio_surveys.proofs.Moded.{body_moded, changed}
use Rattle.trio_surveys.proofs.ModedCore.{now, read_now, file_now, survey_now, pages_moded, moded_sound, moded_fit}

module _ (core : Core) (fit : IsFit core) (sound : is_sound core plain ≡ true) (mode : ℕ) (small : mode ≤ 511) (m0 : Met) (f0 : FileRead) (i0 : In m0 (survey core plain)) (e0 : file_of core m0 ≡ Ok f0) (other : m0.ino ≡ 1 → ⊥) where
  abbrev B : Core
  B = now core fit sound mode small m0 i0 other

  files_now : survey B plain ≡ map (changed m0.ino mode) (survey core plain)
  files_now = survey_now core fit sound mode small m0 i0 other

  fit_B : IsFit B
  fit_B = moded_fit core fit sound mode small m0 i0 other

  sound_B : is_sound B plain ≡ true
  sound_B = moded_sound core fit sound mode small m0 i0 other

  pub in_now : (m : Met) → In m (survey core plain) → In (changed m0.ino mode m) (survey B plain)
  in_now m i = subst (λ l. In (changed m0.ino mode m) l) (sym files_now) (In-map (changed m0.ino mode) m (survey core plain) i)

  -- the row of the file itself
  row_itself : row_of B (survey B plain) m0.ino ≡ Some (record (row_by m0 f0.body) { mode = record { 0 = mode } })
  row_itself =
      let f = file_now core fit sound mode small m0 i0 other m0 f0 i0 e0 in
      let r = row_met B plain fit_B sound_B (changed m0.ino mode m0) (read_now core fit sound mode small m0 i0 other m0 f0) (in_now m0 i0) f in
      r ∙ ap (λ t. Some (row_by (changed m0.ino mode m0) (cond t (body_moded mode f0.body) f0.body))) (eq-eqb m0.ino m0.ino refl)

  gone_still : (k : ℕ) → row_of core (survey core plain) k ≡ None → (o : Option Row) → row_of B (survey B plain) k ≡ o → o ≡ None
  gone_still k e None f = refl
  gone_still k e (Some r) f =
      let q = met_row B plain fit_B sound_B k r f in
      let x = map-In (changed m0.ino mode) q.met (survey core plain) (subst (λ l. In q.met l) files_now q.stands) in
      let g = read_met core plain fit sound x.0 x.1 in
      let was = row_met core plain fit sound x.0 g.0 x.1 g.1 in
      let num : x.0.ino ≡ k = sym (ap (λ (y : Met). y.ino) x.2) ∙ q.number in
      let wrong : None ≡ Some (row_by x.0 g.0.body) = sym e ∙ ap (row_of core (survey core plain)) (sym num) ∙ was in
      absurd (cc wrong)

  -- the rows of all others
  row_others : (k : ℕ) → (k ≡ m0.ino → ⊥) → row_of B (survey B plain) k ≡ row_of core (survey core plain) k
  row_others k differ = by_row (row_of core (survey core plain) k) refl
    where
      by_row : (o : Option Row) → row_of core (survey core plain) k ≡ o → row_of B (survey B plain) k ≡ o
      by_row (Some r) e =
          let q = met_row core plain fit sound k r e in
          let away : eqb q.met.ino m0.ino ≡ false = ne_eqb q.met.ino m0.ino (λ s. differ (sym q.number ∙ s)) in
          let f = file_now core fit sound mode small m0 i0 other q.met q.file q.stands q.read in
          let n = row_met B plain fit_B sound_B (changed m0.ino mode q.met) (read_now core fit sound mode small m0 i0 other q.met q.file) (in_now q.met q.stands) f in
          ap (row_of B (survey B plain)) (sym q.number)
          ∙ n
          ∙ ap (λ t. Some (row_by (changed m0.ino mode q.met) (cond t (body_moded mode q.file.body) q.file.body))) away
          ∙ ap Some (sym q.row)
      by_row None e = gone_still k e (row_of B (survey B plain) k) refl

  pub rows_now : rows_table B (survey B plain) ≡ set (rows_table core (survey core plain)) m0.ino (Some (record (row_by m0 f0.body) { mode = record { 0 = mode } }))
  rows_now = search (arith, tabulated-length, length-set, met_numbered, same_lists, tabulated-get, cases_eq, row_itself, get_or-set_same, row_others, get_or-set_other)

  owner_over : (xs : List Met) (p : ℕ) → ((m : Met) → In m xs → pages_of B (changed m0.ino mode m) ≡ pages_of core m) → owner_of B (map (changed m0.ino mode) xs) p ≡ owner_of core xs p
  owner_over [] p e = refl
  owner_over (y ∷ ys) p e =
      ap (λ l. cond (is_among p l) y.ino (owner_of B (map (changed m0.ino mode) ys) p)) (e y (inl refl))
      ∙ ap (cond (is_among p (pages_of core y)) y.ino) (owner_over ys p (λ m i. e m (inr i)))

  pub owners_now : owners_table B (survey B plain) ≡ owners_table core (survey core plain)
  owners_now =
      ap (owners_table B) files_now
      ∙ tabulated-same (λ p. cond (ltb p core.range.first) 0xFFFFFFFF (owner_of B (map (changed m0.ino mode) (survey core plain)) p)) (λ p. cond (ltb p core.range.first) 0xFFFFFFFF (owner_of core (survey core plain) p)) core.range.end
      (λ p. ap (cond (ltb p core.range.first) 0xFFFFFFFF) (owner_over (survey core plain) p (λ m i. pages_moded core fit sound mode small m0 i0 other m i)))

-- the pages of the changed image
pages_step : (core : Core) (m0 : Met) (f0 : FileRead) (mode : ℕ) → (m0.ino ≡ 1 → ⊥) → with_bodies (changed m0.ino mode m0 ∷ []) core.pages ≡ body_put (Some (row_by m0 f0.body)) (body_with_mode mode m0.body) core.pages
pages_step core m0 f0 mode other = search (arith, ne_eqb, eq-eqb)

module _ (image : Image) (n mode : ℕ) (r : Row) (fit : IsFit image.core) (v : Verifies image) (row : row_at image n ≡ Some r) (small : mode ≤ 511) (other : n ≡ 1 → ⊥) where
  pub mode_tables : TablesOf image image.core plain
  mode_tables = record { rows = v.rows; owners = v.owners }

  pub mode_met : MetAt image.core plain n r
  mode_met = met_row image.core plain fit v.sound n r (sym (row_at_is image.core plain fit v.sound image mode_tables n) ∙ row)

  pub met_other : mode_met.met.ino ≡ 1 → ⊥
  met_other e = other (sym mode_met.number ∙ e)

  abbrev pub mode_core : Core
  mode_core = now image.core fit v.sound mode small mode_met.met mode_met.stands met_other

  mode_settled : settled_body image n ≡ mode_met.met.body
  mode_settled = ap (settled_body image) (sym mode_met.number) ∙ settled_body_met image mode_met.met fit v.sound mode_tables mode_met.stands

  pub mode_core_is : mode_core ≡ (image_with_mode image n mode).core
  mode_core_is = search (arith, mode_met, pages_step, met_other, mode_settled)

  -- a change of mode leaves an image that verifies
  pub mode_verifies : Verifies (image_with_mode image n mode)
  mode_verifies =
      let q = mode_met in
      let new : List (Option Row) = set image.rows q.met.ino (Some (record (row_by q.met q.file.body) { mode = record { 0 = mode } })) in
      let J : Core → List (Option Row) → Image = λ c rows. record { core = c; rows = rows; owners = image.owners } in
      let good : Verifies (J mode_core new) = record {
        sound = moded_sound image.core fit v.sound mode small q.met q.stands met_other;
        rows = ap (λ rs. set rs q.met.ino (Some (record (row_by q.met q.file.body) { mode = record { 0 = mode } }))) v.rows ∙ sym (rows_now image.core fit v.sound mode small q.met q.file q.stands q.read met_other);
        owners = v.owners ∙ sym (owners_now image.core fit v.sound mode small q.met q.file q.stands q.read met_other);
      } in
      let rows : new ≡ (image_with_mode image n mode).rows =
      ap (λ k. set image.rows k (Some (record (row_by q.met q.file.body) { mode = record { 0 = mode } }))) q.number ∙ ap (λ o. set image.rows n (row_with_mode mode o)) (sym (row ∙ ap Some q.row)) in
      let V : Image → Type 0 = λ i. Verifies i in
      subst V (ap (λ c. J c new) mode_core_is ∙ ap (J (image_with_mode image n mode).core) rows) good

  pub mode_fit : IsFit (image_with_mode image n mode).core
  mode_fit = (let F : Core → Type 0 = λ c. IsFit c in subst F mode_core_is (moded_fit image.core fit v.sound mode small mode_met.met mode_met.stands met_other))

  -- a file of the changed image
  pub mode_file : (m : Met) (f : FileRead) → In m (survey image.core plain) → file_of image.core m ≡ Ok f → In (changed mode_met.met.ino mode m) (survey (image_with_mode image n mode).core plain) × (file_of (image_with_mode image n mode).core (changed mode_met.met.ino mode m) ≡ Ok (read_now image.core fit v.sound mode small mode_met.met mode_met.stands met_other m f))
  mode_file m f i e =
      let q = mode_met in
      let P : Core → Type 0 = λ c. In (changed q.met.ino mode m) (survey c plain) × (file_of c (changed q.met.ino mode m) ≡ Ok (read_now image.core fit v.sound mode small q.met q.stands met_other m f)) in
      subst P mode_core_is (in_now image.core fit v.sound mode small q.met q.file q.stands q.read met_other m i, file_now image.core fit v.sound mode small q.met q.stands met_other m f i e)

  -- the body of any other file stays
  pub mode_body_other : (j : ℕ) (x : Row) → row_at image j ≡ Some x → (j ≡ n → ⊥) → settled_body (image_with_mode image n mode) j ≡ settled_body image j
  mode_body_other j x at differ =
      let q = mode_met in
      let m = met_row image.core plain fit v.sound j x (sym (row_at_is image.core plain fit v.sound image mode_tables j) ∙ at) in
      let f = mode_file m.met m.file m.stands m.read in
      let t : TablesOf (image_with_mode image n mode) (image_with_mode image n mode).core plain = record { rows = mode_verifies.rows; owners = mode_verifies.owners } in
      let now = settled_body_met (image_with_mode image n mode) (changed q.met.ino mode m.met) mode_fit mode_verifies.sound t f.0 in
      let was = settled_body_met image m.met fit v.sound mode_tables m.stands in
      ap (settled_body (image_with_mode image n mode)) (sym m.number)
      ∙ now
      ∙ ap (λ b. cond b (body_with_mode mode m.met.body) m.met.body) (ne_eqb m.met.ino q.met.ino (λ e. differ (sym m.number ∙ e ∙ q.number)))
      ∙ sym was
      ∙ ap (settled_body image) m.number
