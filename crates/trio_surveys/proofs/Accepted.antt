-- What an accepted bundle leaves verifies.
use Rattle.trio_surveys.proofs.Words.{◌∙◌, ◌∷◌, ◌≡◌, AgreeOn, Bool, Bundle, Core, Creds, Image, In, IsFit, List, Met, None, Option, Pick, Sheet, Some, Verifies, [], and_parts, ap, arith, bundle_sheets, cond, eqb, false, file_of, find-In, inl, inr, is_among, is_sound, length, length-set, option_and_then, option_map, owner_of, owners_table, page_of, pages_of, plain, proposed, refl, row_read, rows_table, slice_set, survey, sym, tabulated-same, true, with_bodies, with_other, ℕ}
use Rattle.trio_layout.specs.Accept.{is_accepted, next}
use Rattle.trio_layout.specs.Allowed.{is_allowed}
use Rattle.trio_layout.specs.Proposed.{proposed_pick}
use Rattle.trio_surveys.proofs.Local.{read_at, file_agrees, survey_local}
use Rattle.trio_surveys.proofs.Owned.{sound_parts}
use Rattle.trio_surveys.proofs.Picked.{all_listed, page_put_is, listed_placed, file_put, pages_put, survey_put, sound_put}
use Rattle.trio_surveys.proofs.Putting.{put_on, put_on-length}
use Rattle.trio_surveys.proofs.SheetLaws.{length-with_pages}
use Rattle.trio_surveys.proofs.SoundLocal.{agreeing_sound}
use Rattle.trio_surveys.proofs.Sheets.{Pages, with_pages_from, page_there, page_from}
use Rattle.trio_surveys.specs.Reading.{with_picked_bodies}

then_same : {X Y : Type 0} (o : Option X) (f g : X → Option Y) → ((x : X) → o ≡ Some x → f x ≡ g x) → option_and_then f o ≡ option_and_then g o
then_same None f g h = refl
then_same (Some x) f g h = h x refl

-- the tables go by what the files met say
pub rows_same : (core : Core) (pages : Pages) (files : List Met) → ((m : Met) → In m files → row_read m (file_of (with_other core pages) m) ≡ row_read m (file_of core m)) → rows_table (with_other core pages) files ≡ rows_table core files
rows_same core pages files h = search (arith, tabulated-same, then_same, find-In)

owner_same : (core : Core) (pages : Pages) (files : List Met) (p : ℕ) → ((m : Met) → In m files → pages_of (with_other core pages) m ≡ pages_of core m) → owner_of (with_other core pages) files p ≡ owner_of core files p
owner_same core pages [] p h = refl
owner_same core pages (x ∷ xs) p h =
    ap (λ l. cond (is_among p l) x.ino (owner_of (with_other core pages) xs p)) (h x (inl refl))
    ∙ ap (cond (is_among p (pages_of core x)) x.ino) (owner_same core pages xs p (λ m i. h m (inr i)))

pub owners_same : (core : Core) (pages : Pages) (files : List Met) → ((m : Met) → In m files → pages_of (with_other core pages) m ≡ pages_of core m) → owners_table (with_other core pages) files ≡ owners_table core files
owners_same core pages files h = search (arith, tabulated-same, owner_same)

-- the core with the picked bodies, and the tables of the survey with the pick
pub put_verifies : (core : Core) (pick : Pick) → IsFit core → is_sound core pick ≡ true → Verifies (record { core = with_picked_bodies core pick; rows = rows_table core (survey core pick); owners = owners_table core (survey core pick) })
put_verifies core pick fit sound =
    let files : List Met = survey core pick in
    let pages : Pages = with_bodies files core.pages in
    let same = survey_put core pick fit sound in
    let p = sound_parts core pick sound in
    record {
      sound = sound_put core pick fit sound;
      rows =
          sym (ap (rows_table (with_picked_bodies core pick)) same ∙ rows_same core pages files
          (λ m i. let f = read_at core files m p.grammar i in ap (row_read m) (file_put core pick fit sound m f.0 i f.1) ∙ ap (row_read m) (sym f.1)));
      owners = sym (ap (owners_table (with_picked_bodies core pick)) same ∙ owners_same core pages files (λ m i. pages_put core pick fit sound m i));
    }

pub fit_proposed : (image : Image) (b : Bundle) → IsFit image.core → ((x : Sheet) → In x (bundle_sheets b) → length x.bytes ≡ 4096) → IsFit (proposed image b)
fit_proposed image b fit full = record {
  full = λ p bytes e.
      let t = page_there (proposed image b) p bytes e in
      elim (with_pages_from (bundle_sheets b) image.core.pages p bytes t.1) [
        | inl r ↦ ap length (sym r.2) ∙ full r.0 r.1
        | inr h ↦ fit.full p bytes (page_from image.core p bytes t.0 h)
      ];
  long = (let l = length-with_pages (bundle_sheets b) image.core.pages in let f = fit.long in omega (arith, l, f));
  numbers = fit.numbers;
}

length-bodies_step : (b : Bool) (m : Met) (x : Option (List ℕ)) (pages : Pages) → length (cond b pages (slice_set pages m.page x)) ≡ length pages
length-bodies_step true m x pages = refl
length-bodies_step false m x pages = length-set pages m.page x

pub length-bodies : (ms : List Met) (pages : Pages) → length (with_bodies ms pages) ≡ length pages
length-bodies [] pages = refl
length-bodies (m ∷ ms) pages = length-bodies ms _ ∙ length-bodies_step (eqb m.ino 1) m _ pages

pub map_is : (f : List ℕ → List ℕ) (o : Option (List ℕ)) (bytes : List ℕ) → option_map f o ≡ Some bytes → (x : List ℕ) × (o ≡ Some x) × (f x ≡ bytes)
map_is f None bytes e = absurd cc
map_is f (Some x) bytes e = (x, refl, cc e)

pub fit_put : (core : Core) (pick : Pick) → IsFit core → is_sound core pick ≡ true → IsFit (with_picked_bodies core pick)
fit_put core pick fit sound = record {
  full = λ p bytes e.
      let r = map_is (put_on p (all_listed core pick)) (page_of core p) bytes (sym (page_put_is core pick fit sound p) ∙ e) in
      ap length (sym r.2) ∙ put_on-length p (all_listed core pick) r.0 (listed_placed core pick fit sound) (fit.full p r.0 r.1);
  long = (let l = length-bodies (survey core pick) core.pages in let f = fit.long in omega (arith, l, f));
  numbers = fit.numbers;
}

pub accepted_verifies : (image : Image) (creds : Creds) (b : Bundle) → IsFit (proposed image b) → is_accepted image creds b ≡ true → Verifies (next image b)
accepted_verifies image creds b fit accepted =
    let core : Core = proposed image b in
    let pick : Pick = proposed_pick image b in
    let p = and_parts (is_sound core pick) (is_allowed image creds b core (survey core pick)) accepted in
    put_verifies core pick fit p.0

-- an image of other pages verifies where all pages that are read are the same
pub agreeing_verifies : (image : Image) (pages : Pages) → Verifies image → AgreeOn image.core (with_other image.core pages) (survey image.core plain) → Verifies (record { core = with_other image.core pages; rows = image.rows; owners = image.owners })
agreeing_verifies image pages v agree = search (arith, sound_parts, survey_local, file_agrees, agreeing_sound, rows_same, owners_same)
