-- An image that verifies is one connected tree with each page owned once, and its rows are those of the files met.
use Rattle.trio_surveys.proofs.Words.{◌∙◌, ◌∷◌, ◌≡◌, ◌⊎◌, Bool, Core, Image, In, IsFit, List, Met, Row, Some, Verifies, [], and_parts, ap, cond, false, inl, inr, is_among, is_among-In, is_core, is_some, le-ltb, leb, leb-true, ltb, ltb-true, owner_of, pages_of, plain, refl, row_at, settled_body, slice_index, survey, sym, true, ℕ}
use Rattle.std.proofs.Common.{◌≢◌}
use Rattle.trio_surveys.proofs.Images.{TablesOf, met_row, numbers_new, one_met, owner_at, owner_listed, read_met, row_at_is, row_met, settled_body_met}
use Rattle.trio_surveys.proofs.Owned.{sound_parts}
use Rattle.trio_surveys.proofs.Reached.{survey_reached}
use Rattle.trio_surveys.proofs.Tree.{survey_tree}
use Rattle.trio_surveys.specs.Tree.{ImageIsTree, IsLive, IsTree}

owner_step : (core : Core) (x : Met) (xs : List Met) (p : ℕ) (b : Bool) → is_among p (pages_of core x) ≡ b → ((owner_of core xs p ≢ 0) → (m : Met) × In m xs × (m.ino ≡ owner_of core xs p) × In p (pages_of core m)) → cond b x.ino (owner_of core xs p) ≢ 0 → (m : Met) × ((m ≡ x) ⊎ In m xs) × (m.ino ≡ cond b x.ino (owner_of core xs p)) × In p (pages_of core m)
owner_step core x xs p true t h n = (x, inl refl, refl, is_among-In p (pages_of core x) t)
owner_step core x xs p false t h n = (let r = h n in (r.0, inr r.1, r.2, r.3))

-- the owner that is not 0 is a file that lists the page
pub owner_from : (core : Core) (files : List Met) (p : ℕ) → owner_of core files p ≢ 0 → (m : Met) × In m files × (m.ino ≡ owner_of core files p) × In p (pages_of core m)
owner_from core [] p n = absurd (n refl)
owner_from core (x ∷ xs) p n = owner_step core x xs p (is_among p (pages_of core x)) refl (owner_from core xs p) n

module _ (image : Image) (fit : IsFit image.core) (v : Verifies image) where
  the_tables : TablesOf image image.core plain
  the_tables = record { rows = v.rows; owners = v.owners }

  live_file : (n : ℕ) (r : Row) → row_at image n ≡ Some r → IsLive image n r
  live_file n r row =
      let q = met_row image.core plain fit v.sound n r (sym (row_at_is image.core plain fit v.sound image the_tables n) ∙ row) in
      let way = survey_reached image.core plain q.met q.stands in
      record {
        met = q.met;
        file = q.file;
        stands = q.stands;
        number = q.number;
        alone = λ other i e. one_met image.core plain fit v.sound other q.met i q.stands (e ∙ sym q.number);
        steps = way.0;
        reached = way.2;
        read = q.read;
        body = sym (settled_body_met image q.met fit v.sound the_tables q.stands) ∙ ap (settled_body image) q.number;
        row = q.row;
      }

  owner_there : (page : ℕ) → is_core image.core.range page ≡ true → slice_index image.owners page ≡ owner_of image.core (survey image.core plain) page
  owner_there page c =
      let parts = and_parts (leb image.core.range.first page) (ltb page image.core.range.end) c in
      owner_at image.core plain fit v.sound image the_tables page (ltb-true page image.core.range.end parts.1)
      ∙ ap (λ b. cond b 0xFFFFFFFF (owner_of image.core (survey image.core plain) page)) (le-ltb page image.core.range.first (leb-true image.core.range.first page parts.0))

  tree : IsTree image
  tree = record {
    listed = survey_tree image.core plain fit.numbers v.sound;
    once = numbers_new image.core plain fit v.sound;
    live = live_file;
    met = λ m i.
        let f = read_met image.core plain fit v.sound m i in
        ap is_some (row_at_is image.core plain fit v.sound image the_tables m.ino ∙ row_met image.core plain fit v.sound m f.0 i f.1);
    pages_once = (sound_parts image.core plain v.sound).paged;
    owner = λ m page i a. owner_listed image.core plain fit v.sound image the_tables m page i a;
    owned = λ page c n.
        let e = owner_there page c in
        let r = owner_from image.core (survey image.core plain) page (λ z. n (e ∙ z)) in
        (r.0, r.1, r.2 ∙ sym e, r.3);
  }

pub image_is_tree : ImageIsTree
image_is_tree image fit v = tree image fit v
