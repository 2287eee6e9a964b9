-- What is noted of a live file is what its image says of it.
use Rattle.trio_laws.proofs.Words.{Image, Note, Row, Some, [], ap, arith, false, guard_of, name_of, note_of, noted_guard, noted_name, noted_size, notes_of, option_map, option_map_or, row_at, size_of, ℕ, ◌∙◌, ◌≡◌, ◌≤◌}
use Rattle.trio_laws.proofs.history.NotesFacts.{noted_at}

module _ (image : Image) where
  pub noted_name_is : (n : ℕ) (r : Row) → n ≤ image.core.inodes → row_at image n ≡ Some r → noted_name (notes_of image) n ≡ name_of image n r
  noted_name_is n r low row = ap (λ o. option_map_or (λ (x : Note). x.name) o []) (noted_at image n (omega (arith, low)) ∙ ap (option_map (note_of image n)) row)

  pub noted_guard_is : (n : ℕ) (r : Row) → n ≤ image.core.inodes → row_at image n ≡ Some r → noted_guard (notes_of image) n ≡ guard_of image n
  noted_guard_is n r low row = ap (λ o. option_map_or (λ (x : Note). x.guard) o false) (noted_at image n (omega (arith, low)) ∙ ap (option_map (note_of image n)) row)

  pub noted_size_is : (n : ℕ) (r : Row) → n ≤ image.core.inodes → row_at image n ≡ Some r → noted_size (notes_of image) n ≡ size_of image n
  noted_size_is n r low row = ap (λ o. option_map_or (λ (x : Note). x.size) o 0) (noted_at image n (omega (arith, low)) ∙ ap (option_map (note_of image n)) row)
