-- The bodies that are kept, in the words of a proposed image.
use Rattle.trio_proposal.proofs.Words.{◌<◌, ◌∙◌, ◌∷◌, ◌≡◌, AreLentBodies, ArePlaced, Bool, Bundled, CanBeJudged, Core, CoreRange, Image, LentFile, List, None, Option, Row, Some, Written, [], ap, arith, bundle_in, cond, eqb, false, false≢true, find, get_or, image_of, inl, inr, is_place_of, is_some, is_written, kept_at, kept_body, length, lent_body, map, option_map, page_of, pick_of, picked_by, proposed_pick, refl, row_in, sym, true, written_in, ℕ}
use Rattle.std.specs.Prelude.{unwrap_or}
use Rattle.std.specs.Option.{option_map_or}
use Rattle.std.proofs.lemmas.List.{get_or_past}
use Rattle.std.proofs.lemmas.Bool.{cases_lt, eqb-false}
use mathlib.Core.Path.{fun_ext}
use Rattle.trio_layout.specs.Range.{is_core}
use Rattle.trio_layout.specs.Image.{settled_body}
use Rattle.trio_survey.specs.declared.picks.Picked.{Picked}
use Rattle.trio_survey.specs.Picks.{body_picked}
use Rattle.trio_proposal.specs.inner.Steps.{body_on, AreKept, ArePicked}

abbrev Pages : Type 0
Pages = List (Option (List ℕ))

-- the first lease on a file, as it is written
pub lent_is : (leases : List LentFile) (n : ℕ) → lent_body leases n ≡ option_map (λ (w : Written). w.body) (find (λ (w : Written). eqb w.ino n) (map (λ (f : LentFile). written_in f.stands) leases))
lent_is [] n = refl
lent_is (f ∷ fs) n = by (lent_is fs n) (eqb f.stands.ino n) refl
  where
    by : lent_body fs n ≡ option_map (λ (w : Written). w.body) (find (λ (w : Written). eqb w.ino n) (map (λ (f : LentFile). written_in f.stands) fs))
        → (t : Bool) → eqb f.stands.ino n ≡ t
        → lent_body (f ∷ fs) n ≡ option_map (λ (w : Written). w.body) (find (λ (w : Written). eqb w.ino n) (map (λ (f : LentFile). written_in f.stands) (f ∷ fs)))
    by again true e = rw e refl
    by again false e = rw e again

body_or : (o : Option Written) (d : List ℕ) → unwrap_or (option_map (λ (w : Written). w.body) o) d ≡ option_map_or (λ (w : Written). w.body) o d
body_or None d = refl
body_or (Some w) d = refl

pub some_mapped : {X Y : Type 0} (f : X → Y) (o : Option X) → is_some (option_map f o) ≡ is_some o
some_mapped f None = refl
some_mapped f (Some x) = refl

-- a page that is there stands at its number
pub page_at_number : (core : Core) (p : ℕ) → is_some (page_of core p) ≡ true → page_of core p ≡ get_or core.pages p None
page_at_number core p h = by (is_core core.range p) h
  where
    by : (b : Bool) → is_some (cond b (get_or core.pages p None) None) ≡ true → cond b (get_or core.pages p None) None ≡ get_or core.pages p None
    by true h = refl
    by false h = absurd (false≢true h)

-- a row's place is a page's number there
pub live_below : (rows : List (Option Row)) (n : ℕ) (r : Row) → row_in rows n ≡ Some r → n < length rows
live_below rows n r e =
    elim (cases_lt n (length rows)) [
      | inl l ↦ l
      | inr g ↦ (let wrong : None ≡ Some r = sym (get_or_past rows n None g) ∙ e in absurd cc)
    ]

module _ (pages : Pages) (root : List ℕ) (range : CoreRange) (rows : List (Option Row)) (b : Bundled) (ok : CanBeJudged (image_of pages root range rows []) (bundle_in b)) where
  abbrev pub image : Image
  image = image_of pages root range rows []

  pub placed : ArePlaced pages rows
  placed n r e one =
      let p = ok.placed n r e one in
      (p.0, ap is_some (sym (page_at_number image.core r.page p.1)) ∙ p.1)

  module _ (written kept : Pages) (are : AreLentBodies b.writes written) (many : length written ≡ length rows) where
    pub written_body : (n : ℕ) → n < length rows → get_or written n None ≡ option_map (λ (w : Written). w.body) (find (λ (w : Written). eqb w.ino n) (bundle_in b).writes)
    written_body n l = are n (omega (arith, l, many)) ∙ lent_is b.writes n

    pub written_is : (n : ℕ) → n < length rows → is_some (get_or written n None) ≡ is_written (bundle_in b) n
    written_is n l = ap is_some (written_body n l) ∙ some_mapped (λ (w : Written). w.body) (find (λ (w : Written). eqb w.ino n) (bundle_in b).writes)

    pub root_is : 1 < length rows → unwrap_or (get_or written 1 None) root ≡ kept_body image (bundle_in b) 1
    root_is l = ap (λ o. unwrap_or o root) (written_body 1 l) ∙ body_or (find (λ (w : Written). eqb w.ino 1) (bundle_in b).writes) root

    settled_is : (n : ℕ) (r : Row) (t : Bool) → eqb n 1 ≡ t → row_in rows n ≡ Some r → cond (eqb n 1) root (body_on pages r.page r.slot) ≡ settled_body image n
    settled_is n r true t e = rw t refl
    settled_is n r false t e =
        let p = ok.placed n r e (eqb-false n 1 t) in
        rw (t, e, page_at_number image.core r.page p.1) refl

    kept_is : (n : ℕ) (r : Row) → row_in rows n ≡ Some r → kept_at pages root written n r ≡ kept_body image (bundle_in b) n
    kept_is n r e =
        let w : Option Written = find (λ (w : Written). eqb w.ino n) (bundle_in b).writes in
        ap (λ o. unwrap_or o (cond (eqb n 1) root (body_on pages r.page r.slot))) (written_body n (live_below rows n r e))
        ∙ ap (unwrap_or (option_map (λ (w : Written). w.body) w)) (settled_is n r (eqb n 1) refl e)
        ∙ body_or w (settled_body image n)

    -- the body that each live number keeps
    pub kept_of : AreKept pages root rows written kept → (n : ℕ) (r : Row) → row_in rows n ≡ Some r → get_or kept n None ≡ Some (kept_body image (bundle_in b) n)
    kept_of k n r e = k n ∙ ap (option_map (kept_at pages root written n)) e ∙ ap Some (kept_is n r e)

    module _ (k : AreKept pages root rows written kept) (picks : List (Option Picked)) (p : ArePicked rows kept picks) where
      by_row : (directory page slot ino : ℕ) (bytes : List ℕ) (o : Option Row) → row_in rows ino ≡ o → body_picked (picked_by o (get_or kept ino None)) directory page slot bytes ≡ cond (is_place_of directory page slot o) (kept_body image (bundle_in b) ino) bytes
      by_row directory page slot ino bytes None e = refl
      by_row directory page slot ino bytes (Some r) e = ap (λ o. body_picked (picked_by (Some r) o) directory page slot bytes) (kept_of k ino r e)

      -- the picks are those of the proposed image
      pub picks_are : pick_of picks ≡ proposed_pick image (bundle_in b)
      picks_are =
          fun_ext (λ directory. fun_ext (λ page. fun_ext (λ slot. fun_ext (λ ino. fun_ext (λ bytes.
          ap (λ o. body_picked o directory page slot bytes) (p ino) ∙ by_row directory page slot ino bytes (row_in rows ino) refl)))))
