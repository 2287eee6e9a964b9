-- An entry goes to another directory, of a file that was made or is held.
use Rattle.trio_edit_laws.proofs.Words.{◌∙◌, ◌≡◌, ◌≢◌, DeskSeen, EntryPart, HoldParts, IsOpenDir, Kind, List, MadeFile, MayEdit, None, Place, SessionSeen, Shown, Some, ap, arith, body_at, body_in, body_sized, empty_shown, entry_shown, eqb, find-In, held_file, is_name, length, made_body, made_file, open_kind, option_map, option_or, place_shown, sym, true, written_file, ℕ}
use Rattle.trio_edit_laws.specs.DirLaws.{AsHeld, AsMade, IsMoved, MoveLeaves, MoveShows}
use Rattle.trio_edit_laws.proofs.Anew.{body-made}
use Rattle.trio_edit_laws.proofs.directories.Moved.{MoveNeeds}
use Rattle.trio_edit_laws.proofs.directories.MovedHeld.{held_left, held_moves}
use Rattle.trio_edit_laws.proofs.directories.MovedMade.{made_left, made_moves}

-- a file that was made has a body of 64 bytes
made_sized : (desk : DeskSeen) (s : SessionSeen) (n : ℕ) (x : MadeFile) → MayEdit desk s → made_file s n ≡ Some x → length (made_body s x) ≡ 64
made_sized desk s n x m found =
    let o : open_kind s n ≡ Some x.kind = ap (λ z. option_or (option_map (λ (y : MadeFile). y.kind) z) (option_map (λ (f : Shown). f.kind) (written_file s n))) found in
    let reads = m.chains n x.kind o in
    ap (λ (l : List ℕ). length l) (sym (body-made s n x found)) ∙ body_sized x.kind desk.sizes.range (body_in s n) reads.body reads.is

held_sized : (desk : DeskSeen) (s : SessionSeen) (n : ℕ) (h : HoldParts) → MayEdit desk s → held_file s n ≡ Some h → length h.body ≡ 64
held_sized desk s n h m found =
    body_sized h.kind desk.sizes.range h.body (body_at h.body) (m.given.holds h (find-In (λ (k : HoldParts). eqb k.ino n) s.parcel.holds h found).0)

-- what a move is given, by its law's premises
needs : (desk : DeskSeen) (s : SessionSeen) (dir dir2 : ℕ) (place place2 : Place) (e : EntryPart) (old new : List ℕ) (kind : Kind) (body : List ℕ)
    → MayEdit desk s → IsOpenDir s dir → IsOpenDir s dir2 → dir ≢ dir2 → dir2 ≢ e.ino
    → place_shown s dir old ≡ Some place → entry_shown s dir place ≡ Some e
    → empty_shown s dir2 ≡ Some place2 → place_shown s dir2 new ≡ None → is_name new ≡ true → IsMoved s e.ino kind body
    → MoveNeeds desk s dir dir2 place place2 e old new body
needs desk s dir dir2 place place2 e old new kind body m open_dir open_dir2 differ other found shown empty2 free2 is moves = search (arith, made_sized, held_sized)

pub move_shows : MoveShows
move_shows desk s dir dir2 place place2 e old new kind body m open_dir open_dir2 differ other found shown empty2 free2 is moves tree =
    let q = needs desk s dir dir2 place place2 e old new kind body m open_dir open_dir2 differ other found shown empty2 free2 is moves in
    elim moves [
      | AsMade x made kind_is body_is ↦ made_moves desk s dir dir2 place place2 e old new kind body q x made kind_is body_is tree
      | AsHeld h unmade old_number held kind_is body_is ↦
          held_moves desk s dir dir2 place place2 e old new kind body q h unmade old_number held kind_is body_is tree
    ]

pub move_leaves : MoveLeaves
move_leaves desk s dir dir2 place place2 e old new kind body m open_dir open_dir2 differ other found shown empty2 free2 is moves =
    let q = needs desk s dir dir2 place place2 e old new kind body m open_dir open_dir2 differ other found shown empty2 free2 is moves in
    elim moves [
      | AsMade x made kind_is body_is ↦ made_left desk s dir dir2 place place2 e old new kind body q x made kind_is body_is
      | AsHeld h unmade old_number held kind_is body_is ↦ held_left desk s dir dir2 place place2 e old new kind body q h unmade old_number held kind_is body_is
    ]
