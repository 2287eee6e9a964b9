-- What is noted of live files at the start is what the rows of the image tell.
use Rattle.trio_laws.proofs.Words.{Creds, Image, In, IsFit, IsWhole, Kept, List, None, Note, OpenGrant, Option, Row, Some, State, Verifies, Write, ap, body_at, body_of_row, guard_in, length, name_of, note_of, option_map, plain, refl, row_at, row_in, row_of, settled, size_of, start, survey, sym, tabulated, tabulated-length, tabulated-same, ℕ, ◌+◌, ◌<◌, ◌∙◌, ◌≡◌}
use Rattle.trio_state.specs.ImageNodes.{note_by_row}
use Rattle.trio_laws.specs.history.ToldLaws.{StartNotes}
use Rattle.trio_laws.proofs.Runs.{start_kept}
use Rattle.trio_laws.proofs.history.Listing.{body_met}
use Rattle.trio_laws.proofs.history.NotesFacts.{note_with, noted}
use Rattle.trio_laws.proofs.history.SettledNodes.{body_is, name_is, guard_is}

module _ (image : Image) (creds : List Creds) (fit : IsFit image.core) (v : Verifies image) (whole : IsWhole image) (first : 0 < image.core.range.first) where
  abbrev s : State
  s = start image creds

  kept : Kept s
  kept = start_kept image creds fit v whole

  none : (g : OpenGrant) → In g s.open_grants → g.kind ≡ Write → ⊥
  none g i w = absurd i

  size_is : (n : ℕ) (r : Row) → row_at image n ≡ Some r → (body_at (body_of_row image.core n r)).size ≡ size_of (settled s) n
  size_is n r row = ap (λ b. (body_at b).size) (body_is s kept none first n r row ∙ sym (body_met (settled s) kept.fit kept.verifies n r row))

  one : (n : ℕ) (o : Option Row) → row_at image n ≡ o → option_map (note_by_row image.core n) o ≡ option_map (note_of (settled s) n) o
  one n None row = refl
  one n (Some r) row =
      ap (λ x. Some (note_with x (body_at (body_of_row image.core n r)).size (guard_in (body_of_row image.core n r)))) (name_is s kept none first n r row)
      ∙ ap (λ z. Some (note_with (name_of (settled s) n r) z (guard_in (body_of_row image.core n r)))) (size_is n r row)
      ∙ ap (λ g. Some (note_with (name_of (settled s) n r) (size_of (settled s) n) g)) (guard_is s kept none first n r row)

pub start_notes : StartNotes
start_notes image creds fit v whole first =
    let N : ℕ → Option Note = λ n. option_map (note_by_row image.core n) (row_in image.rows n) in
    let after : Image = settled (start image creds) in
    let long : length image.rows ≡ image.core.inodes + 1 = ap length v.rows ∙ tabulated-length (row_of image.core (survey image.core plain)) (image.core.inodes + 1) in
    sym (ap (tabulated N) long ∙ tabulated-same N (noted after) (image.core.inodes + 1) (λ n. one image creds fit v whole first n (row_at image n) refl))
