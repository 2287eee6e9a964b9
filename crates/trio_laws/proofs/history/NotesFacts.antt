-- What is noted of live files, number by number.
use Rattle.trio_laws.proofs.Words.{AgreeOn, Bool, Image, IsFit, List, None, Note, Notes, Option, Pages, RawFile, Row, Some, Verifies, [], ap, arith, cases_eq, cons_option, count_up, filter_map, get_or, guard_of, inl, inr, length, length-set, name_of, note_of, notes_after, notes_of, option_map, plain, refl, row_at, set, size_of, suc, survey, sym, tabulated, tabulated-get, tabulated-length, tabulated-same, with_other, zero, ℕ, ◌+◌, ◌<◌, ◌∙◌, ◌∷◌, ◌≡◌, ◌≤◌, ◌⊎◌}
use Rattle.std.proofs.Common.{get_or-set_same, get_or-set_other}
use Rattle.trio_state.specs.Listed.{note_told}
use Rattle.trio_laws.proofs.Agreeing.{image_with}
use Rattle.trio_laws.proofs.history.Still.{name_still, size_still, guard_still}

-- what is noted of a number of an image
abbrev pub noted : Image → ℕ → Option Note
noted image n = option_map (note_of image n) (row_at image n)

abbrev pub note_with : List ℕ → ℕ → Bool → Note
note_with name size guarded = record { name = name; size = size; guard = guarded }

pub notes_long : (image : Image) → length (notes_of image) ≡ image.core.inodes + 1
notes_long image = tabulated-length (noted image) (image.core.inodes + 1)

pub noted_at : (image : Image) (n : ℕ) → n < image.core.inodes + 1 → get_or (notes_of image) n None ≡ noted image n
noted_at image n l = tabulated-get (noted image) (image.core.inodes + 1) n None l

-- images of as many numbers, of each of which the same is noted
pub notes_by_one : (image image' : Image) → image'.core.inodes ≡ image.core.inodes → ((n : ℕ) → noted image' n ≡ noted image n) → notes_of image' ≡ notes_of image
notes_by_one image image' count h =
    ap (λ c. tabulated (noted image') (c + 1)) count ∙ tabulated-same (noted image') (noted image) (image.core.inodes + 1) h

-- a row of the same name, size and guard
pub noted_row : (image image' : Image) (n : ℕ) (r r' : Row) → row_at image n ≡ Some r → row_at image' n ≡ Some r' → name_of image' n r' ≡ name_of image n r → size_of image' n ≡ size_of image n → guard_of image' n ≡ guard_of image n → noted image' n ≡ noted image n
noted_row image image' n r r' row row' name size guard =
    ap (option_map (note_of image' n)) row'
    ∙ ap (λ l. Some (note_with l (size_of image' n) (guard_of image' n))) name
    ∙ ap (λ z. Some (note_with (name_of image n r) z (guard_of image' n))) size
    ∙ ap (λ g. Some (note_with (name_of image n r) (size_of image n) g)) guard
    ∙ sym (ap (option_map (note_of image n)) row)

-- an image with other pages, of which all that are read are the same
module _ (image : Image) (pages : Pages) (fit : IsFit image.core) (fit' : IsFit (with_other image.core pages)) (v : Verifies image) (agree : AgreeOn image.core (with_other image.core pages) (survey image.core plain)) where
  by_row : (n : ℕ) (o : Option Row) → row_at image n ≡ o → noted (image_with image pages) n ≡ noted image n
  by_row n None row = ap (option_map (note_of (image_with image pages) n)) row ∙ sym (ap (option_map (note_of image n)) row)
  by_row n (Some r) row =
      noted_row image (image_with image pages) n r r row row (name_still image pages fit fit' v agree n r row) (size_still image pages fit fit' v agree n r row) (guard_still image pages fit fit' v agree n r row)

  pub notes_still : notes_of (image_with image pages) ≡ notes_of image
  notes_still = notes_by_one image (image_with image pages) refl (λ n. by_row n (row_at image n) refl)

-- ---- the notes after a release, number by number

-- what becomes of a note, by the number's file where there is one
abbrev pub comes : Option RawFile → Option Note → Option Note
comes None old = old
comes (Some f) old = note_told f

-- files by number
module _ (rf : ℕ → Option RawFile) (numbered : (n : ℕ) (f : RawFile) → rf n ≡ Some f → f.ino ≡ n) where
  -- numbers past these
  out_step : (from m : ℕ) (o : Option RawFile) (rest : List RawFile) → rf from ≡ o → (m ≡ from → ⊥) → ((notes : Notes) → get_or (notes_after rest notes) m None ≡ get_or notes m None) → (notes : Notes) → get_or (notes_after (cons_option o rest) notes) m None ≡ get_or notes m None
  out_step from m o rest e differ h notes = search (arith, get_or-set_other)

  pub notes_out : (c from m : ℕ) → (m < from) ⊎ (from + c ≤ m) → (notes : Notes) → get_or (notes_after (filter_map rf (count_up from c)) notes) m None ≡ get_or notes m None
  notes_out zero from m out notes = refl
  notes_out (suc c) from m out notes =
      out_step from m (rf from) (filter_map rf (count_up (suc from) c)) refl
      (λ e. elim out [ inl l ↦ omega (arith, l, e) | inr g ↦ omega (arith, g, e) ])
      (notes_out c (suc from) m (elim out [ inl l ↦ inl (omega (arith, l)) | inr g ↦ inr (omega (arith, g)) ])) notes

  here_step : (from : ℕ) (o : Option RawFile) (rest : List RawFile) → rf from ≡ o → ((notes : Notes) → get_or (notes_after rest notes) from None ≡ get_or notes from None) → (notes : Notes) → from < length notes → get_or (notes_after (cons_option o rest) notes) from None ≡ comes o (get_or notes from None)
  here_step from o rest e h notes long = search (arith, get_or-set_same)

  past_step : (from m : ℕ) (o : Option RawFile) (rest : List RawFile) → rf from ≡ o → (m ≡ from → ⊥) → ((notes : Notes) → m < length notes → get_or (notes_after rest notes) m None ≡ comes (rf m) (get_or notes m None)) → (notes : Notes) → m < length notes → get_or (notes_after (cons_option o rest) notes) m None ≡ comes (rf m) (get_or notes m None)
  past_step from m o rest e differ h notes long = search (arith, length-set, get_or-set_other)

  pub notes_in : (c from m : ℕ) → from ≤ m → m < from + c → (notes : Notes) → m < length notes → get_or (notes_after (filter_map rf (count_up from c)) notes) m None ≡ comes (rf m) (get_or notes m None)
  notes_in zero from m low high notes long = absurd (omega (arith, low, high))
  notes_in (suc c) from m low high notes long =
      elim (cases_eq m from) [
        | inl same ↦ search (arith, filter_map, here_step, notes_out)
        | inr differ ↦
            past_step from m (rf from) (filter_map rf (count_up (suc from) c)) refl differ
            (notes_in c (suc from) m (omega (arith, low, differ)) (omega (arith, high))) notes long
      ]

-- as many as before
pub after_long : (fs : List RawFile) (notes : Notes) → length (notes_after fs notes) ≡ length notes
after_long [] notes = refl
after_long (f ∷ fs) notes = after_long fs (set notes f.ino (note_told f)) ∙ length-set notes f.ino (note_told f)
