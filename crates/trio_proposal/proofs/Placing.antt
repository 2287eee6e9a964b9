-- The kept bodies at their places are the bodies of all files at theirs.
use Rattle.trio_proposal.proofs.Words.{◌&&◌, ◌++◌, ◌+◌, ◌<◌, ◌∙◌, ◌∷◌, ◌≡◌, ◌≤◌, ◌⊎◌, Bool, Bundle, Core, Creds, Image, In, In-left, In-right, IsFit, List, Met, None, Option, Pick, Row, Some, [], and_from, ap, arith, cases_eq, cond, eq-eqb, eqb, false, get_or, inl, inr, is_allowed, is_place_of, is_sound, kept_body, leb, length, met_numbered, met_row, mets_below, page_of, proposed, proposed_pick, read_met, refl, row_at, row_in, row_met, set, subst, suc, survey, sym, true, with_bodies, zero, ℕ}
use Rattle.std.proofs.Common.{◌*◌, add-one}
use Rattle.std.specs.Prelude.{◌≢◌}
use Rattle.std.proofs.lemmas.Bool.{leb-false, lt-leb}
use Rattle.std.proofs.lemmas.List.{set-set}
use Rattle.trio_layout.specs.Entries.{Listed, body_in_slot}
use Rattle.trio_layout.specs.Survey.{children, row_by, met_in}
use Rattle.trio_page.specs.Field.{with_part}
use Rattle.trio_layout.specs.Accept.{with_body_at}
use Rattle.trio_layout.specs.Image.{body_at_place}
use Rattle.trio_surveys.proofs.Images.{root_or_listed}
use Rattle.trio_lists.proofs.Members.{In-cases, flat_map-In}
use Rattle.trio_surveys.proofs.AnyOrder.{bodies_in_any_order}
use Rattle.trio_surveys.proofs.Tree.{child_from, child_placed, picked_met}
use Rattle.trio_proposal.specs.inner.Steps.{met_by}
use Rattle.trio_proposal.proofs.Allowing.{row_stays}

abbrev Pages : Type 0
Pages = List (Option (List ℕ))

pub with_bodies-append : (xs ys : List Met) (pages : Pages) → with_bodies (xs ++ ys) pages ≡ with_bodies ys (with_bodies xs pages)
with_bodies-append [] ys pages = refl
with_bodies-append (x ∷ xs) ys pages = with_bodies-append xs ys (cond (eqb x.ino 1) pages (with_body_at x.page x.slot x.body pages))

pub placed_is : (pages : Pages) (page slot offset : ℕ) (body taken bytes : List ℕ) → Some taken ≡ get_or pages page None → offset ≡ 256 * slot + 192 → bytes ≡ with_part offset body taken → set (set pages page None) page (Some bytes) ≡ with_body_at page slot body pages
placed_is pages page slot offset body taken bytes there at is =
    set-set pages page None (Some bytes) ∙ rw (← there, is, at) refl

-- the bodies of one number more
pub one_below_more : (rows : List (Option Row)) (kept : Pages) (n : ℕ) (a b c : Pages) → 2 ≤ n → b ≡ with_bodies (mets_below rows kept n) a → c ≡ with_bodies (met_by n (row_in rows n) (get_or kept n None)) b → c ≡ with_bodies (mets_below rows kept (n + 1)) a
one_below_more rows kept n a b c low e f =
    let high : leb n 1 ≡ false = lt-leb n 1 low in
    f ∙ ap (with_bodies (met_by n (row_in rows n) (get_or kept n None))) e
    ∙ sym (with_bodies-append (mets_below rows kept n) (met_by n (row_in rows n) (get_or kept n None)) a)
    ∙ rw (add-one, high) refl

-- a file of the numbers below n is that of one of them
below_from : (rows : List (Option Row)) (kept : Pages) (n : ℕ) (m : Met) → In m (mets_below rows kept n) → (k : ℕ) × (2 ≤ k) × (k < n) × In m (met_by k (row_in rows k) (get_or kept k None))
below_from rows kept zero m i = absurd i
below_from rows kept (suc n) m i =
    elim (In-cases m (mets_below rows kept n) (cond (leb n 1) [] (met_by n (row_in rows n) (get_or kept n None))) i) [
      | inl a ↦ (let r = below_from rows kept n m a in (r.0, r.1, omega (arith, r.2), r.3))
      | inr b ↦ by (leb n 1) refl b
    ]
  where
    by : (t : Bool) → leb n 1 ≡ t → In m (cond t [] (met_by n (row_in rows n) (get_or kept n None))) → (k : ℕ) × (2 ≤ k) × (k < suc n) × In m (met_by k (row_in rows k) (get_or kept k None))
    by true t b = absurd b
    by false t b = (n, leb-false n 1 t, omega arith, b)

below_has : (rows : List (Option Row)) (kept : Pages) (n k : ℕ) (m : Met) → 2 ≤ k → k < n → In m (met_by k (row_in rows k) (get_or kept k None)) → In m (mets_below rows kept n)
below_has rows kept zero k m low high i = absurd (omega arith)
below_has rows kept (suc n) k m low high i =
    elim (cases_eq k n) [
      | inl same ↦
          let i' : In m (met_by n (row_in rows n) (get_or kept n None)) = subst (λ j. In m (met_by j (row_in rows j) (get_or kept j None))) same i in
          let low' : 1 < n = omega (arith, same, low) in
          let t : leb n 1 ≡ false = lt-leb n 1 low' in
          In-right m (mets_below rows kept n) (cond (leb n 1) [] (met_by n (row_in rows n) (get_or kept n None))) (rw t i')
      | inr differ ↦
          In-left m (mets_below rows kept n) (cond (leb n 1) [] (met_by n (row_in rows n) (get_or kept n None)))
          (below_has rows kept n k m low (omega arith) i)
    ]

-- a file by its parts
met_same : (m : Met) (r : Row) (n : ℕ) (body : List ℕ) → m.ino ≡ n → r.kind ≡ m.kind → r.parent ≡ m.parent → r.page ≡ m.page → r.slot ≡ m.slot → m.body ≡ body → record { ino = n; kind = r.kind; parent = r.parent; page = r.page; slot = r.slot; body = body } ≡ m
met_same m r n body number kind parent page slot same = rw (← number, kind, parent, page, slot, ← same) refl

module _ (image : Image) (creds : Creds) (b : Bundle) (no_holds : b.holds ≡ []) (fit : IsFit (proposed image b)) (sound : is_sound (proposed image b) (proposed_pick image b) ≡ true) where
  abbrev core : Core
  core = proposed image b

  abbrev pick : Pick
  pick = proposed_pick image b

  abbrev files : List Met
  files = survey (proposed image b) (proposed_pick image b)

  -- a file that is listed, by what picks its body
  record Picked (m : Met) : Type 0 where
    bytes : List ℕ
    body : m.body ≡ cond (is_place_of m.parent m.page m.slot (row_at image m.ino)) (kept_body image b m.ino) bytes
    there : bytes ≡ body_at_place core m.page m.slot

  body_read : (page slot : ℕ) (bytes : List ℕ) → page_of core page ≡ Some bytes → body_in_slot slot bytes ≡ body_at_place core page slot
  body_read page slot bytes e = rw e refl

  picked_at : (m : Met) → In m files → (m.ino ≡ 1 → ⊥) → Picked m
  picked_at m i one =
      elim (root_or_listed core pick fit sound m i) [
        | inl e ↦ absurd (one (ap (λ (x : Met). x.ino) e))
        | inr j ↦
            let q = flat_map-In (children core pick) m files j in
            let k = child_from core pick q.0 m q.2 in
            let pl = child_placed core pick q.0 m k in
            let l = k.entry in
            record {
              bytes = l.body;
              body = picked_met pick q.0.ino m l k.is;
              there =
                  pl.body
                  ∙ body_read l.page l.slot pl.bytes pl.page
                  ∙ ap (λ (x : Met). body_at_place core x.page x.slot) (sym k.is);
            }
      ]

  -- a file that keeps its place keeps its body
  kept_met : (m : Met) (r : Row) → In m files → (m.ino ≡ 1 → ⊥) → row_at image m.ino ≡ Some r → r.parent ≡ m.parent → r.page ≡ m.page → r.slot ≡ m.slot → m.body ≡ kept_body image b m.ino
  kept_met m r i one row parent page slot =
      let placed : is_place_of m.parent m.page m.slot (row_at image m.ino) ≡ true =
      ap (is_place_of m.parent m.page m.slot) row
      ∙ and_from (eqb r.parent m.parent && eqb r.page m.page) (eqb r.slot m.slot) (and_from (eqb r.parent m.parent) (eqb r.page m.page) (eq-eqb r.parent m.parent parent) (eq-eqb r.page m.page page)) (eq-eqb r.slot m.slot slot) in
      let p = picked_at m i one in
      p.body ∙ ap (λ t. cond t (kept_body image b m.ino) p.bytes) placed

  -- one that comes has the bytes in its slot
  new_met : (m : Met) → In m files → (m.ino ≡ 1 → ⊥) → row_at image m.ino ≡ None → m.body ≡ body_at_place core m.page m.slot
  new_met m i one dead =
      let p = picked_at m i one in
      p.body ∙ ap (λ o. cond (is_place_of m.parent m.page m.slot o) (kept_body image b m.ino) p.bytes) dead ∙ p.there

  module _ (allowed : is_allowed image creds b (proposed image b) (survey (proposed image b) (proposed_pick image b)) ≡ true) (kept : Pages) (many : length image.rows ≡ image.core.inodes + 1) (keeps : (n : ℕ) (r : Row) → row_at image n ≡ Some r → get_or kept n None ≡ Some (kept_body image b n)) where
    -- the file of a number that keeps its body
    is_kept : (m : Met) (r : Row) (n : ℕ) → row_at image n ≡ Some r → In m (met_by n (row_in image.rows n) (get_or kept n None)) → m ≡ record { ino = n; kind = r.kind; parent = r.parent; page = r.page; slot = r.slot; body = kept_body image b n }
    is_kept m r n e i =
        let j = rw (e, keeps n r e) at i in
        elim j [ inl same ↦ same | inr none ↦ absurd none ]

    dead_none : (m : Met) (n : ℕ) → row_in image.rows n ≡ None → In m (met_by n (row_in image.rows n) (get_or kept n None)) → ⊥
    dead_none m n e i = rw e at i

    met_there : (m : Met) → In m (mets_below image.rows kept (length image.rows)) → In m files × (m.ino ≢ 1)
    met_there m i =
        let k = below_from image.rows kept (length image.rows) m i in
        by k.0 k.1 k.2 k.3 (row_in image.rows k.0) refl
      where
        by : (n : ℕ) → 2 ≤ n → n < length image.rows → In m (met_by n (row_in image.rows n) (get_or kept n None)) → (o : Option Row) → row_in image.rows n ≡ o → In m files × (m.ino ≢ 1)
        by n low high i None e = absurd (dead_none m n e i)
        by n low high i (Some r) e =
            let is = is_kept m r n e i in
            let row = row_stays image creds b no_holds core pick fit sound allowed n r (omega (arith, low)) (omega (arith, high, many)) e in
            let k = met_row core pick fit sound n r row in
            let number : k.met.ino ≡ n = k.number in
            let one : k.met.ino ≡ 1 → ⊥ = λ w. omega (arith, low, number, w) in
            let body : k.met.body ≡ kept_body image b n =
            kept_met k.met r k.stands one (ap (row_at image) number ∙ e) (ap (λ (x : Row). x.parent) k.row) (ap (λ (x : Row). x.page) k.row) (ap (λ (x : Row). x.slot) k.row)
            ∙ ap (kept_body image b) number in
            let same = met_same k.met r n (kept_body image b n) number (ap (λ (x : Row). x.kind) k.row) (ap (λ (x : Row). x.parent) k.row) (ap (λ (x : Row). x.page) k.row) (ap (λ (x : Row). x.slot) k.row) body in
            let whole : m ≡ k.met = is ∙ same in
            (subst (λ (x : Met). In x files) (sym whole) k.stands, λ w. one (ap (λ (x : Met). x.ino) (sym whole) ∙ w))

    rest_there : (m : Met) → In m files → m.ino ≢ 1 → In m (mets_below image.rows kept (length image.rows)) ⊎ (m.body ≡ body_at_place core m.page m.slot)
    rest_there m i one = by (row_at image m.ino) refl
      where
        by : (o : Option Row) → row_at image m.ino ≡ o → In m (mets_below image.rows kept (length image.rows)) ⊎ (m.body ≡ body_at_place core m.page m.slot)
        by None e = inr (new_met m i one e)
        by (Some r) e =
            let n = met_numbered core pick fit sound m i in
            let low : 0 < m.ino = n.0 in
            let high : m.ino ≤ image.core.inodes = n.1 in
            let f = read_met core pick fit sound m i in
            let row = row_met core pick fit sound m f.0 i f.1 in
            let row' = row_stays image creds b no_holds core pick fit sound allowed m.ino r (omega (arith, low)) high e in
            let same : r ≡ row_by m f.0.body = (let s : Some r ≡ Some (row_by m f.0.body) = sym row' ∙ row in cc s) in
            let body = kept_met m r i one e (ap (λ (x : Row). x.parent) same) (ap (λ (x : Row). x.page) same) (ap (λ (x : Row). x.slot) same) in
            let here : In m (met_by m.ino (row_in image.rows m.ino) (get_or kept m.ino None)) = rw (e, keeps m.ino r e) (inl (rw (same, ← body) refl)) in
            inl (below_has image.rows kept (length image.rows) m.ino m (omega (arith, low, one)) (omega (arith, high, many)) here)

    -- the kept bodies at their places are the bodies of all files at theirs
    pub bodies_placed : with_bodies (mets_below image.rows kept (length image.rows)) core.pages ≡ with_bodies files core.pages
    bodies_placed = bodies_in_any_order core pick (mets_below image.rows kept (length image.rows)) fit sound met_there rest_there
