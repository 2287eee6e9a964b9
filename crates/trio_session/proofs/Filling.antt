-- The first empty slot of a directory is filled: what the session then shows, and that its number may be that of a file that was made.
use Rattle.trio_session.proofs.Words.{if◌then◌else◌, ◌%◌, ◌*◌, ◌++◌, ◌+◌, ◌/◌, ◌<◌, ◌∙◌, ◌∷◌, ◌≡◌, Bool, Chain, Directory, EntryPart, In, IsAt, IsMadeAt, IsTrue, Kind, LentFile, List, MadeFile, None, Option, PagePlace, Parcel, Place, Room, SessionSeen, Shown, Some, [], ap, arith, block_count, body_in_slot, chain_in, dir_pages, entry_at, entry_bytes, entry_fits, eqb, every_number, false, filled, filter, find, first_empty, held_file, ino_numbers, is_allotted, is_among, is_some, length, made_file, map, no_chain, not, number_at, open_kind, option_map, option_map_or, option_or, page_in, placed_made, position, read_file, refl, sheet_at, size_in, slice_get, slice_index_or, slot_number, slots_of, slots_shown, subst, suc, sym, true, with_made, with_part, ℕ, eq-eqb}
use Rattle.std.specs.Prelude.{is_none}
use Rattle.std.proofs.lemmas.List.Folds.{find-append}
use Rattle.trio_nodes.specs.declared.grant.GrantKind.TheVariants.{Hold, Read, Write}
use Rattle.trio_auxdir.specs.Places.{place_at}
use Rattle.trio_auxdir.specs.Slots.{first_slot}
use Rattle.trio_session.specs.Layout.{with_page}
use Rattle.trio_session.specs.Seen.{MayBeMade, body_in, grant_in, made_body, written_file}
use Rattle.trio_session.proofs.Found.{position-map}
use Rattle.trio_session.proofs.Places.{number_at-map, still_there}
use Rattle.trio_session.proofs.SlotEdits.{IsWhole, block_within, body-filled, entry_on-filled}
use Rattle.trio_session.proofs.Stays.{LeavesFiles, SameFiles, SameFiles-numbers, at_number, page_leaves}

-- ---- the first empty slot

first_slot-there : (slots : List (Option (List ℕ))) (i : ℕ) → first_slot is_none slots ≡ Some i → slice_get slots i ≡ Some None
first_slot-there [] i e = absurd (let t : None ≡ Some i = e in cc t)
first_slot-there (None ∷ slots) i e = (let t : Some 0 ≡ Some i = e in let zero_is : 0 ≡ i = cc t in subst (λ j. slice_get (None ∷ slots) j ≡ Some None) zero_is refl)
first_slot-there (Some name ∷ slots) i e = by (first_slot is_none slots) (λ j k. first_slot-there slots j k) e
  where
    by : (o : Option ℕ) → ((j : ℕ) → o ≡ Some j → slice_get slots j ≡ Some None) → option_map suc o ≡ Some i → slice_get (Some name ∷ slots) i ≡ Some None
    by None rest t = absurd (let u : None ≡ Some i = t in cc u)
    by (Some j) rest t = (let u : Some (suc j) ≡ Some i = t in let same : suc j ≡ i = cc u in subst (λ m. slice_get (Some name ∷ slots) m ≡ Some None) same (rest j refl))

-- it is there, and empty
pub first_empty-there : (slots : List (Option (List ℕ))) (place : Place) → first_empty slots ≡ Some place → (place.slot < 16) × (slice_get slots (slot_number place) ≡ Some None)
first_empty-there slots place e = by (first_slot is_none slots) refl e
  where
    by : (o : Option ℕ) → first_slot is_none slots ≡ o → option_map place_at o ≡ Some place → (place.slot < 16) × (slice_get slots (slot_number place) ≡ Some None)
    by None k t = absurd (let u : None ≡ Some place = t in cc u)
    by (Some i) k t =
        let u : Some (place_at i) ≡ Some place = t in
        let same : place_at i ≡ place = cc u in
        let below : (place_at i).slot < 16 = omega arith in
        let number : i ≡ slot_number (place_at i) = omega arith in
        subst (λ (p : Place). (p.slot < 16) × (slice_get slots (slot_number p) ≡ Some None)) same (below, subst (λ j. slice_get slots j ≡ Some None) number (first_slot-there slots i k))

-- a slot that is shown is on a block of the directory
pub within_shown : (v : SessionSeen) (dir k slot : ℕ) (x : Option (List ℕ)) → open_kind v dir ≡ Some Directory → slot < 16 → slice_get (slots_shown v dir) (16 * k + slot) ≡ Some x
    → k < length (chain_in v dir).blocks
within_shown v dir k slot x directory lt e =
    block_within v.parcel (chain_in v dir).blocks k slot x lt
    (subst (λ o. slice_get (slots_of every_number (if is_some o then map (page_in v.parcel) (chain_in v dir).blocks else option_map_or dir_pages (read_file v dir) [])) (16 * k + slot) ≡ Some x) directory e)

-- ---- what is shown of files after bytes changed

find_kind : (n : ℕ) (fs gs : List LentFile) → SameFiles fs gs
    → option_map (λ (f : LentFile). f.stands.kind) (find (λ (f : LentFile). eqb f.stands.ino n) gs) ≡ option_map (λ (f : LentFile). f.stands.kind) (find (λ (f : LentFile). eqb f.stands.ino n) fs)
find_kind n [] [] same = refl
find_kind n [] (g ∷ gs) same = absurd same
find_kind n (f ∷ fs) [] same = absurd same
find_kind n (f ∷ fs) (g ∷ gs) same =
    let rest = find_kind n fs gs same.1 in
    let kind : LentFile → Kind = λ h. h.stands.kind in
    let p : LentFile → Bool = λ h. eqb h.stands.ino n in
    ap (λ m. option_map kind (if eqb m n then Some g else find p gs)) same.0.ino ∙ by (eqb f.stands.ino n) rest
  where
    by : (t : Bool) → option_map (λ (h : LentFile). h.stands.kind) (find (λ (h : LentFile). eqb h.stands.ino n) gs) ≡ option_map (λ (h : LentFile). h.stands.kind) (find (λ (h : LentFile). eqb h.stands.ino n) fs)
        → option_map (λ (h : LentFile). h.stands.kind) (if t then Some g else find (λ (h : LentFile). eqb h.stands.ino n) gs)
        ≡ option_map (λ (h : LentFile). h.stands.kind) (if t then Some f else find (λ (h : LentFile). eqb h.stands.ino n) fs)
    by true e = ap Some same.0.kind
    by false e = e

map_map : {X Y Z : Type 0} (f : X → Y) (g : Y → Z) (o : Option X) → option_map g (option_map f o) ≡ option_map (λ x. g (f x)) o
map_map f g None = refl
map_map f g (Some x) = refl

pub open_left : (v : SessionSeen) (p : Parcel) (room : Room) (n : ℕ) → LeavesFiles v.parcel p → open_kind (record v { parcel = p; room = room }) n ≡ open_kind v n
open_left v p room n leaves =
    let stands : LentFile → Shown = λ f. f.stands in
    let kind : Shown → Kind = λ f. f.kind in
    let q : LentFile → Bool = λ f. eqb f.stands.ino n in
    ap (option_or (option_map (λ (m : MadeFile). m.kind) (made_file v n)))
    (map_map stands kind (find q p.writes) ∙ find_kind n v.parcel.writes p.writes leaves.files ∙ sym (map_map stands kind (find q v.parcel.writes)))

pub chain_in_left : (v : SessionSeen) (p : Parcel) (room : Room) (n : ℕ) → LeavesFiles v.parcel p → chain_in (record v { parcel = p; room = room }) n ≡ chain_in v n
chain_in_left v p room n leaves =
    let key : LentFile → ℕ = λ f. f.stands.ino in
    let place : position (λ f. eqb f.stands.ino n) p.writes ≡ position (λ f. eqb f.stands.ino n) v.parcel.writes =
    sym (position-map (λ m. eqb m n) key p.writes) ∙ ap (position (λ m. eqb m n)) (SameFiles-numbers v.parcel.writes p.writes leaves.files) ∙ position-map (λ m. eqb m n) key v.parcel.writes in
    ap (λ o. option_map_or (λ (m : MadeFile). m.chain) (made_file v n) (option_map_or (λ i. slice_index_or v.chains i no_chain) o no_chain)) place

grant_left : (v : SessionSeen) (n : ℕ) (w : List ℕ) (room : Room) (ino : ℕ) → grant_in (record v { parcel = with_page n w v.parcel; room = room }) ino ≡ grant_in v ino
unfolding with_page
grant_left v n w room ino =
    ap (λ o. if is_some o then Some Write else (if is_some (held_file v ino) then Some Hold else (if is_some (read_file v ino) then Some Read else None)))
    (open_left v (with_page n w v.parcel) room ino (page_leaves n w v.parcel))

-- ---- the file in the slot

-- an allotted number that is in a slot may be that of a file that was made
pub filled_made : (v : SessionSeen) (dir n slot : ℕ) (e : EntryPart) (body : List ℕ) (room : Room) (page : PagePlace) → IsWhole v.parcel n → slot < 16 → entry_fits every_number e ≡ true → length body ≡ 64
    → open_kind v dir ≡ Some Directory → In n (chain_in v dir).blocks → IsAt v.parcel page n → room.made ≡ v.room.made → is_allotted v e.ino ≡ true → MayBeMade v e.ino e.kind body
    → IsMadeAt (record v { parcel = filled n slot e body v.parcel; room = room }) e.ino e.kind page slot
filled_made v dir n slot e body room page whole lt fits sized directory block at many allotted may =
    let b = v.parcel in
    let w = with_part (256 * slot) (entry_bytes e ++ body) (page_in b n) in
    let p = filled n slot e body b in
    let leaves : LeavesFiles b p = page_leaves n w b in
    let number : number_at p page ≡ n = number_at-map b p page (leaves.numbers page) ∙ at_number b page n at in
    let same : body_in_slot slot (page_in p (number_at p page)) ≡ body = ap (λ m. body_in_slot slot (page_in p m)) number ∙ body-filled b n slot e body whole lt fits sized in
    let sheet = still_there b p page at.sheet (leaves.numbers page) at.there in
    record {
      allotted = ap (λ ns. is_among e.ino (ino_numbers ns)) leaves.inodes ∙ allotted;
      may = record {
        nothing = grant_left v n w room e.ino ∙ may.nothing;
        same = may.same;
        blocks = ap (λ bytes. block_count (size_in bytes)) same ∙ may.blocks;
        whole = λ d. ap (λ bytes. size_in bytes % 4096) same ∙ may.whole d;
        place = subst (λ k. length v.made < k) (sym many) may.place;
      };
      there = ap is_some sheet.1;
      below = lt;
      dir = dir;
      is_open = open_left v p room dir leaves ∙ directory;
      home = subst (λ (c : Chain). In (number_at p page) c.blocks) (sym (chain_in_left v p room dir leaves)) (subst (λ m. In m (chain_in v dir).blocks) (sym number) block);
      entry = ap (λ m. option_map (λ (x : EntryPart). x.ino) (entry_at p m slot)) number ∙ ap (option_map (λ (x : EntryPart). x.ino)) (entry_on-filled b n slot e body whole lt fits sized);
    }

-- no file of a number is shown on which there is no grant
pub grant_unmade : (v : SessionSeen) (ino : ℕ) → grant_in v ino ≡ None → made_file v ino ≡ None
grant_unmade v ino none =
    by (made_file v ino) (option_map (λ (f : Shown). f.kind) (option_map (λ (f : LentFile). f.stands) (find (λ (f : LentFile). eqb f.stands.ino ino) v.parcel.writes))) (is_some (held_file v ino)) (is_some (read_file v ino)) none
  where
    by : (o : Option MadeFile) (k : Option Kind) (h r : Bool) → (if is_some (option_or (option_map (λ (m : MadeFile). m.kind) o) k) then Some Write else (if h then Some Hold else (if r then Some Read else None))) ≡ None → o ≡ None
    by None k h r e = refl
    by (Some m) k h r e = absurd (let t : Some Write ≡ None = e in cc t)

-- it is found by its number, whatever else of the parcel and of the room changed
pub filled_found : (v : SessionSeen) (p : Parcel) (room : Room) (ino : ℕ) (kind : Kind) (page slot : ℕ) → is_allotted v ino ≡ true → made_file v ino ≡ None
    → made_file (record (with_made ino kind page slot v) { parcel = p; room = room }) ino ≡ Some (placed_made v ino kind page slot)
filled_found v p room ino kind page slot allotted none =
    let x = placed_made v ino kind page slot in
    let more : SessionSeen = record v { made = v.made ++ x ∷ []; cleared = filter (λ m. not (eqb m.ino ino)) v.cleared } in
    ap (λ t. made_file (record (if t then more else v) { parcel = p; room = room }) ino) allotted
    ∙ find-append (λ (m : MadeFile). eqb m.ino ino) v.made (x ∷ [])
    ∙ ap (λ o. option_or o (find (λ (m : MadeFile). eqb m.ino ino) (x ∷ []))) none
    ∙ ap (λ t. if t then Some x else None) (eq-eqb ino ino refl)

-- with the body that was put there
pub filled_body : (v : SessionSeen) (n slot : ℕ) (e : EntryPart) (body : List ℕ) (room : Room) → IsWhole v.parcel n → slot < 16 → entry_fits every_number e ≡ true → length body ≡ 64
    → is_allotted v e.ino ≡ true → made_file v e.ino ≡ None → body_in (record (with_made e.ino e.kind n slot v) { parcel = filled n slot e body v.parcel; room = room }) e.ino ≡ body
filled_body v n slot e body room whole lt fits sized allotted none =
    let p = filled n slot e body v.parcel in
    let s : SessionSeen = record (with_made e.ino e.kind n slot v) { parcel = p; room = room } in
    ap (λ o. option_map_or (made_body s) o (option_map_or (λ (f : Shown). f.body) (written_file s e.ino) [])) (filled_found v p room e.ino e.kind n slot allotted none)
    ∙ body-filled v.parcel n slot e body whole lt fits sized

-- and it is shown as one, whatever else of the parcel and of the room changed
pub with_made-filled : (v : SessionSeen) (p : Parcel) (r room : Room) (ino : ℕ) (kind : Kind) (page slot : ℕ) → p.inodes ≡ v.parcel.inodes
    → record (with_made ino kind page slot (record v { parcel = p; room = r })) { room = room } ≡ record (with_made ino kind page slot v) { parcel = p; room = room }
with_made-filled v p r room ino kind page slot same =
    let v1 : SessionSeen = record v { parcel = p; room = r } in
    let more : SessionSeen = record v1 { made = v.made ++ placed_made v ino kind page slot ∷ []; cleared = filter (λ m. not (eqb m.ino ino)) v.cleared } in
    ap (λ ns. record (if is_among ino (ino_numbers ns) then more else v1) { room = room }) same ∙ by (is_allotted v ino)
  where
    by : (t : Bool)
        → record (if t then record v { parcel = p; room = r; made = v.made ++ placed_made v ino kind page slot ∷ []; cleared = filter (λ m. not (eqb m.ino ino)) v.cleared } else record v { parcel = p; room = r }) { room = room }
        ≡ record (if t then record v { made = v.made ++ placed_made v ino kind page slot ∷ []; cleared = filter (λ m. not (eqb m.ino ino)) v.cleared } else v) { parcel = p; room = room }
    by true = refl
    by false = refl

-- another number is none
pub with_made-else : (v : SessionSeen) (ino : ℕ) (kind : Kind) (page slot : ℕ) → is_allotted v ino ≡ false → with_made ino kind page slot v ≡ v
with_made-else v ino kind page slot e =
    ap (λ t. if t then record v { made = v.made ++ placed_made v ino kind page slot ∷ []; cleared = filter (λ m. not (eqb m.ino ino)) v.cleared } else v) e
