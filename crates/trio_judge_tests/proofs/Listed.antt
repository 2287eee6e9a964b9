-- Judged files as they are listed, and as the rules see them.
use Rattle.trio_judge_tests.proofs.Words.{◌||◌, ◌∙◌, ◌∷◌, ◌≡◌, Bool, In, List, Row, [], and_parts, ap, as_row, eqb, false, false≢true, inl, inr, list_all, map, refl, sym, true, ℕ}
use Rattle.std.proofs.Common.{not}
use Rattle.trio_rights.specs.ByKind.{is_directory}
use Rattle.trio_layout.specs.Listing.{ListedFile}
use Rattle.trio_case.specs.declared.listing.ListedFile.{ListedFile as FileData}
use Rattle.trio_judge_tests.specs.Leaves.{is_other}

-- where each file is a directory or has another number, none that is no directory has this number
pub other_number : (fs : List FileData) (gs : List ListedFile) (n : ℕ)
    → map (λ (f : FileData). f.ino) fs ≡ map (λ (g : ListedFile). g.ino) gs
    → map (λ (f : FileData). as_row f.row) fs ≡ map (λ (g : ListedFile). g.row) gs
    → list_all (λ (f : FileData). is_other (as_row f.row).kind f.ino n) fs ≡ true
    → (g : ListedFile) → In g gs → is_directory g.row.kind ≡ false → eqb g.ino n ≡ false
other_number fs [] n inos rows all g i none = absurd i
other_number [] (h ∷ gs) n inos rows all g i none = absurd cc
other_number (f ∷ fs) (h ∷ gs) n inos rows all g i none =
    let parts = and_parts (is_other (as_row f.row).kind f.ino n) (list_all (λ (f : FileData). is_other (as_row f.row).kind f.ino n) fs) all in
    let ino : f.ino ≡ h.ino = cc in
    let row : as_row f.row ≡ h.row = cc in
    let inos' : map (λ (f : FileData). f.ino) fs ≡ map (λ (g : ListedFile). g.ino) gs = cc in
    let rows' : map (λ (f : FileData). as_row f.row) fs ≡ map (λ (g : ListedFile). g.row) gs = cc in
    elim i [
      | inl same ↦
          let k : is_directory (as_row f.row).kind ≡ false = ap (λ (r : Row). is_directory r.kind) (row ∙ ap (λ (x : ListedFile). x.row) (sym same)) ∙ none in
          let m : f.ino ≡ g.ino = ino ∙ ap (λ (x : ListedFile). x.ino) (sym same) in
          let other : (not (eqb g.ino n) || false) ≡ true = ap (λ lists. not (eqb g.ino n) || lists) (sym k) ∙ ap (λ ino. is_other (as_row f.row).kind ino n) (sym m) ∙ parts.0 in
          apart (eqb g.ino n) other
      | inr later ↦ other_number fs gs n inos' rows' parts.1 g later none
    ]
  where
    apart : (b : Bool) → (not b || false) ≡ true → b ≡ false
    apart true e = absurd (false≢true e)
    apart false e = refl
