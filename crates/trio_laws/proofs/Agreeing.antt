-- An image with other pages, of which all that are read are the same, has the same files, bodies and lent pages.
use Rattle.trio_laws.proofs.Words.{◌∙◌, ◌≡◌, AgreeOn, Image, In, IsFit, LentIsListed, Met, OpenGrant, Pages, Row, Some, TablesOf, Verifies, ap, arith, file_agrees, met_row, plain, row_at, row_at_is, settled_body, settled_body_met, sound_parts, subst, survey, survey_local, sym, with_other, ℕ}
use Rattle.trio_surveys.proofs.Accepted.{agreeing_verifies}

abbrev pub image_with : Image → Pages → Image
image_with image pages = record { core = with_other image.core pages; rows = image.rows; owners = image.owners }

module _ (image : Image) (pages : Pages) (fit : IsFit image.core) (fit' : IsFit (with_other image.core pages)) (v : Verifies image) (agree : AgreeOn image.core (with_other image.core pages) (survey image.core plain)) where
  pub verifies_still : Verifies (image_with image pages)
  verifies_still = agreeing_verifies image pages v agree

  pub met_still : (m : Met) → In m (survey image.core plain) → In m (survey (with_other image.core pages) plain)
  met_still m i = subst (λ l. In m l) (sym (survey_local image.core pages plain (sound_parts image.core plain v.sound).grammar agree)) i

  pub lent_still : (g : OpenGrant) → LentIsListed image g → LentIsListed (image_with image pages) g
  lent_still g l = search (arith, met_still, file_agrees, sound_parts)

  pub body_still : (n : ℕ) (r : Row) → row_at image n ≡ Some r → settled_body (image_with image pages) n ≡ settled_body image n
  body_still n r e =
      let t : TablesOf image image.core plain = record { rows = v.rows; owners = v.owners } in
      let v' = verifies_still in
      let t' : TablesOf (image_with image pages) (with_other image.core pages) plain = record { rows = v'.rows; owners = v'.owners } in
      let k = met_row image.core plain fit v.sound n r (sym (row_at_is image.core plain fit v.sound image t n) ∙ e) in
      let now = settled_body_met (image_with image pages) k.met fit' v'.sound t' (met_still k.met k.stands) in
      let was = settled_body_met image k.met fit v.sound t k.stands in
      ap (settled_body (image_with image pages)) (sym k.number) ∙ now ∙ sym was ∙ ap (settled_body image) k.number
