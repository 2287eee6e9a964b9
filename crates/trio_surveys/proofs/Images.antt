-- What a sound survey and its tables say of files, rows, owners and bodies.
use Rattle.trio_surveys.proofs.Words.{◌<◌, ◌∙◌, ◌∷◌, ◌≡◌, ◌≤◌, ◌⊎◌, Core, FileRead, Image, In, In-find, IsFit, List, Location, Met, None, Ok, Option, Pick, Result, Row, Some, [], and_parts, ap, are_new, arith, body_by_row, body_in_slot, cases_lt, children, cond, eq-eqb, eqb, eqb-true, false, false_from_ne_true, false≢true, file_of, find-In, flat_map-In, inl, inr, is_among, is_among-In, is_some, is_sound, le-ltb, leb, leb-true, ltb, ltb-true, ne_eqb, numbers, numbers-flat, option_and_then, option_and_then-Some, option_map_or, owner_of, owners_table, page_of, pages_of, plain, refl, root_of, row_at, row_by, row_of, row_read, rows_table, settled_body, slice_index, subst, survey, sym, tabulated-get, true, ℕ}
use Rattle.std.proofs.Common.{Err}
use Rattle.std.specs.List.{find}
use Rattle.std.proofs.lemmas.Bool.{lt-ltb}
use Rattle.trio_surveys.proofs.Cores.{listed_is_core}
use Rattle.trio_surveys.proofs.Local.{read_at}
use Rattle.trio_lists.proofs.Gathered.{one_keyed}
use Rattle.trio_surveys.proofs.Owned.{sound_parts, owner_is}
use Rattle.trio_surveys.proofs.Picked.{all_listed, listed_no_root}
use Rattle.trio_surveys.proofs.Tree.{survey_tree, child_from, child_placed, child_numbered}
use Rattle.trio_lists.proofs.Tabulated.{tabulated-past}

-- what is there
pub some_of : {X : Type 0} (o : Option X) → is_some o ≡ true → (x : X) × (o ≡ Some x)
some_of None e = absurd (false≢true e)
some_of (Some x) e = (x, refl)

-- in a list of distinct numbers a number has one file
pub same_met : (files : List Met) (m m' : Met) → are_new [] (numbers files) ≡ true → In m files → In m' files → m.ino ≡ m'.ino → m ≡ m'
same_met files m m' new i j e = one_keyed (λ (w : Met). w.ino) files m m' new i j e

pub owner_none : (core : Core) (files : List Met) (p : ℕ) → ((m : Met) → In m files → In p (pages_of core m) → ⊥) → owner_of core files p ≡ 0
owner_none core [] p h = refl
owner_none core (x ∷ xs) p h =
    ap (λ b. cond b x.ino (owner_of core xs p)) (false_from_ne_true (is_among p (pages_of core x)) (λ t. h x (inl refl) (is_among-In p (pages_of core x) t)))
    ∙ owner_none core xs p (λ m i. h m (inr i))

-- the tables are those of this survey
pub record TablesOf (image : Image) (core : Core) (pick : Pick) : Type 0 where
  pub rows : image.rows ≡ rows_table core (survey core pick)
  pub owners : image.owners ≡ owners_table core (survey core pick)

row_read_is : (m : Met) (o : Result FileRead Location) (r : Row) → row_read m o ≡ Some r → (f : FileRead) × (o ≡ Ok f) × (row_by m f.body ≡ r)
row_read_is m (Err place) r e = absurd cc
row_read_is m (Ok f) r e = (f, refl, cc)

-- a file met, with what it says
pub record MetAt (core : Core) (pick : Pick) (n : ℕ) (r : Row) : Type 0 where
  pub met : Met
  pub file : FileRead
  pub stands : In met (survey core pick)
  pub read : file_of core met ≡ Ok file
  pub number : met.ino ≡ n
  pub row : r ≡ row_by met file.body

module _ (core : Core) (pick : Pick) (fit : IsFit core) (sound : is_sound core pick ≡ true) where
  pub numbers_new : are_new [] (numbers (survey core pick)) ≡ true
  numbers_new = search (arith, sound_parts, survey_tree, numbers-flat)

  pub one_met : (m m' : Met) → In m (survey core pick) → In m' (survey core pick) → m.ino ≡ m'.ino → m ≡ m'
  one_met m m' i j e = same_met (survey core pick) m m' numbers_new i j e

  pub root_or_listed : (m : Met) → In m (survey core pick) → (m ≡ root_of core) ⊎ In m (all_listed core pick)
  root_or_listed m i =
      let j : In m (root_of core ∷ all_listed core pick) = subst (λ l. In m l) (survey_tree core pick fit.numbers sound) i in j

  pub root_is_met : In (root_of core) (survey core pick)
  root_is_met = subst (λ l. In (root_of core) l) (sym (survey_tree core pick fit.numbers sound)) (inl refl)

  pub met_numbered : (m : Met) → In m (survey core pick) → (0 < m.ino) × (m.ino ≤ core.inodes)
  met_numbered m i =
      elim (root_or_listed m i) [
        | inl e ↦
            let n : m.ino ≡ 1 = ap (λ (x : Met). x.ino) e in
            let one = fit.numbers in
            let a : 0 < m.ino = omega (arith, n) in
            let b : m.ino ≤ core.inodes = omega (arith, n, one) in (a, b)
        | inr j ↦ let r = flat_map-In (children core pick) m (survey core pick) j in child_numbered core pick r.0 m r.2
      ]

  pub read_met : (m : Met) → In m (survey core pick) → (f : FileRead) × (file_of core m ≡ Ok f)
  read_met m i = read_at core (survey core pick) m (sound_parts core pick sound).grammar i

  pub row_met : (m : Met) (f : FileRead) → In m (survey core pick) → file_of core m ≡ Ok f → row_of core (survey core pick) m.ino ≡ Some (row_by m f.body)
  row_met m f i e =
      let s = In-find (λ (x : Met). eqb x.ino m.ino) (survey core pick) m i (eq-eqb m.ino m.ino refl) in
      let g = find-In (λ (x : Met). eqb x.ino m.ino) (survey core pick) s.0 s.1 in
      let same : s.0 ≡ m = one_met s.0 m g.0 i (eqb-true s.0.ino m.ino g.1) in
      ap (option_and_then (λ m. row_read m (file_of core m))) (s.1 ∙ ap Some same) ∙ ap (row_read m) e

  pub met_row : (n : ℕ) (r : Row) → row_of core (survey core pick) n ≡ Some r → MetAt core pick n r
  met_row n r e =
      let s = option_and_then-Some (λ m. row_read m (file_of core m)) (find (λ (x : Met). eqb x.ino n) (survey core pick)) r e in
      let g = find-In (λ (x : Met). eqb x.ino n) (survey core pick) s.0 s.1 in
      let k = row_read_is s.0 (file_of core s.0) r s.2 in
      record { met = s.0; file = k.0; stands = g.0; read = k.1; number = eqb-true s.0.ino n g.1; row = sym k.2 }

  row_past : (n : ℕ) → core.inodes < n → row_of core (survey core pick) n ≡ None
  row_past n l = by_row (row_of core (survey core pick) n) refl
    where
      by_row : (o : Option Row) → row_of core (survey core pick) n ≡ o → o ≡ None
      by_row None e = refl
      by_row (Some r) e =
          let k = met_row n r e in
          let b : k.met.ino ≤ core.inodes = (met_numbered k.met k.stands).1 in
          let s = k.number in absurd (omega (arith, b, s, l))

  module _ (image : Image) (tables : TablesOf image core pick) where
    pub row_at_is : (n : ℕ) → row_at image n ≡ row_of core (survey core pick) n
    row_at_is n = search (arith, cases_lt, tabulated-get, tabulated-past, row_past)

    pub owner_at : (p : ℕ) → p < core.range.end → slice_index image.owners p ≡ cond (ltb p core.range.first) 0xFFFFFFFF (owner_of core (survey core pick) p)
    owner_at p l = search (arith, tabulated-get)

    -- the owner row of a listed page
    pub owner_listed : (m : Met) (p : ℕ) → In m (survey core pick) → In p (pages_of core m) → slice_index image.owners p ≡ m.ino
    owner_listed m p i a =
        let f = read_met m i in
        let c = and_parts (leb core.range.first p) (ltb p core.range.end) (listed_is_core core m f.0 p f.1 a) in
        let low : core.range.first ≤ p = leb-true core.range.first p c.0 in
        owner_at p (ltb-true p core.range.end c.1)
        ∙ ap (λ b. cond b 0xFFFFFFFF (owner_of core (survey core pick) p)) (le-ltb p core.range.first low)
        ∙ owner_is core (survey core pick) m p (sound_parts core pick sound).paged i a

    pub free_unlisted : (p : ℕ) → slice_index image.owners p ≡ 0 → (m : Met) → In m (survey core pick) → In p (pages_of core m) → ⊥
    free_unlisted p z m i a = search (arith, owner_listed, met_numbered)

    -- a page that nothing lists and that is no page of the controller is free
    pub unlisted_free : (p : ℕ) → ((p < core.range.end) → core.range.first ≤ p) → ((m : Met) → In m (survey core pick) → In p (pages_of core m) → ⊥) → slice_index image.owners p ≡ 0
    unlisted_free p low none = search (arith, cases_lt, owner_at, le-ltb, owner_none, tabulated-past)

    pub free_is_low : (p : ℕ) → slice_index image.owners p ≡ 0 → p < core.range.end → core.range.first ≤ p
    free_is_low p z l = search (arith, cases_lt, owner_at, lt-ltb)

-- the settled body of each file met is the body that the survey meets
pub settled_body_met : (image : Image) (m : Met) → IsFit image.core → is_sound image.core plain ≡ true → TablesOf image image.core plain → In m (survey image.core plain) → settled_body image m.ino ≡ m.body
settled_body_met image m fit sound tables i =
    elim (root_or_listed image.core plain fit sound m i) [
      | inl e ↦ ap (λ (x : Met). settled_body image x.ino) e ∙ ap (λ (x : Met). x.body) (sym e)
      | inr j ↦
          let r = flat_map-In (children image.core plain) m (survey image.core plain) j in
          let k = child_from image.core plain r.0 m r.2 in
          let pl = child_placed image.core plain r.0 m k in
          let f = read_met image.core plain fit sound m i in
          let not_one : eqb m.ino 1 ≡ false = ne_eqb m.ino 1 (listed_no_root image.core plain fit sound m j) in
          let row : row_at image m.ino ≡ Some (row_by m f.0.body) = row_at_is image.core plain fit sound image tables m.ino ∙ row_met image.core plain fit sound m f.0 i f.1 in
          let at : page_of image.core m.page ≡ Some pl.bytes = ap (λ (x : Met). page_of image.core x.page) k.is ∙ pl.page in
          let slot : m.slot ≡ k.entry.slot = ap (λ (x : Met). x.slot) k.is in
          let body : k.entry.body ≡ m.body = sym (ap (λ (x : Met). x.body) k.is) in
          ap (λ b. cond b image.core.root (body_by_row image.core (row_at image m.ino))) not_one
          ∙ ap (body_by_row image.core) row
          ∙ ap (λ o. option_map_or (body_in_slot m.slot) o []) at
          ∙ ap (λ s. body_in_slot s pl.bytes) slot
          ∙ sym pl.body
          ∙ body
    ]
