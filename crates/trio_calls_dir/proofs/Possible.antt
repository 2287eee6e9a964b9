-- What is possible after an edit of a directory's slots was so before: the leases as they were lent stay.
use Rattle.trio_calls_dir.proofs.Words.{◌++◌, ◌∙◌, ◌∷◌, ◌≡◌, ArePossible, Bool, DeskSeen, EntryPart, Kind, LentFile, List, MadeFile, Nodes, Option, Parcel, Place, Row, SessionSeen, Shown, Some, [], ap, cond, empty_shown, entry_shown, eqb, false, filter, is_allotted, map-map, not, number_shown, option_map_or, place_shown, refl, subst, true, ℕ}
use Rattle.std.specs.Prelude.{◌*◌}
use Rattle.trio_page.specs.Field.{with_part, zeros}
use Rattle.trio_layout.specs.Slot.{entry_bytes}
use Rattle.trio_desk.specs.Agrees.{Agrees, HasPlaces}
use Rattle.trio_desk.specs.Ready.{leases_in}
use Rattle.trio_session.specs.Layout.{cleared as cleared_slot, file_with, page_in, retitled as retitled_slot, with_page}
use Rattle.trio_session.specs.Seen.{block_number, clear, fill, filled_at, placed_made, renamed, retitle, with_made, without_made}

leases_with : (n : ℕ) (w : List ℕ) (b : Parcel) (back : List Shown) → leases_in (with_page n w b) back ≡ leases_in b back
unfolding with_page
leases_with n w b back = ap (λ l. record { files = l ++ back; holds = b.holds }) (map-map (λ (f : LentFile). f.lent) (file_with n w) b.writes)

-- bytes that are written leave what is possible
possible_with : (desk : DeskSeen) (n : ℕ) (w : List ℕ) (b : Parcel) (back : List Shown) (nodes : Nodes) (rows : List (Option Row)) → ArePossible desk (with_page n w b) back nodes rows → ArePossible desk b back nodes rows
unfolding with_page
possible_with desk n w b back nodes rows p = record {
  tree = p.tree;
  agrees = subst (λ q. Agrees desk.sizes desk.root q nodes) (leases_with n w b back) p.agrees;
  none = p.none;
  same = p.same;
  places = subst (λ q. HasPlaces desk.sizes q rows) (leases_with n w b back) p.places;
}

-- a slot is cleared
pub possible_clear : (desk : DeskSeen) (s : SessionSeen) (dir : ℕ) (name : List ℕ) (place : Place) → place_shown s dir name ≡ Some place → (nodes : Nodes) (rows : List (Option Row))
    → ArePossible desk (clear dir name s).parcel (clear dir name s).reads nodes rows → ArePossible desk s.parcel s.reads nodes rows
unfolding clear
possible_clear desk s dir name place there nodes rows p =
    possible_with desk (block_number s dir place.block) (with_part (256 * place.slot) (zeros 4) (page_in s.parcel (block_number s dir place.block))) s.parcel s.reads nodes rows
    (subst
    (λ (o : Option Place). (let q : SessionSeen = option_map_or (λ at. record (without_made (number_shown s dir at) s) { parcel = cleared_slot (block_number s dir at.block) at.slot s.parcel }) o s in ArePossible desk q.parcel q.reads nodes rows))
    there p)

-- it is filled
reads_made : (ino : ℕ) (kind : Kind) (page slot : ℕ) (s : SessionSeen) → (with_made ino kind page slot s).reads ≡ s.reads
reads_made ino kind page slot s = by (is_allotted s ino)
  where
    by : (b : Bool) → (cond {A = SessionSeen} b (record s { made = s.made ++ placed_made s ino kind page slot ∷ []; cleared = filter (λ (m : MadeFile). not (eqb m.ino ino)) s.cleared }) s).reads ≡ s.reads
    by true = refl
    by false = refl

pub possible_filled : (desk : DeskSeen) (s : SessionSeen) (dir : ℕ) (name : List ℕ) (n : ℕ) (kind : Kind) (body : List ℕ) (place : Place) → empty_shown s dir ≡ Some place → (nodes : Nodes) (rows : List (Option Row))
    → ArePossible desk (fill dir name n kind body s).parcel (fill dir name n kind body s).reads nodes rows → ArePossible desk s.parcel s.reads nodes rows
unfolding fill
possible_filled desk s dir name n kind body place there nodes rows p =
    let e : EntryPart = record { ino = n; kind = kind; name = name } in
    let page : ℕ = block_number s dir place.block in
    possible_with desk page (with_part (256 * place.slot) (entry_bytes e ++ body) (page_in s.parcel page)) s.parcel s.reads nodes rows
    (subst (λ r. ArePossible desk (filled_at dir place e body s).parcel r nodes rows) (reads_made n kind page place.slot s)
    (subst (λ (o : Option Place). (let q : SessionSeen = option_map_or (λ at. filled_at dir at e body s) o s in ArePossible desk q.parcel q.reads nodes rows)) there p))

-- its entry gets another name
pub possible_retitle : (desk : DeskSeen) (s : SessionSeen) (dir : ℕ) (old new : List ℕ) (place : Place) (e : EntryPart) → place_shown s dir old ≡ Some place → entry_shown s dir place ≡ Some e → (nodes : Nodes) (rows : List (Option Row))
    → ArePossible desk (retitle dir old new s).parcel (retitle dir old new s).reads nodes rows → ArePossible desk s.parcel s.reads nodes rows
unfolding retitle
possible_retitle desk s dir old new place e there says nodes rows p =
    let at : Place → Option EntryPart → SessionSeen = λ k o. option_map_or (λ (x : EntryPart). record s { parcel = retitled_slot (block_number s dir k.block) k.slot (renamed new x) s.parcel }) o s in
    let is : option_map_or (λ (k : Place). at k (entry_shown s dir k)) (place_shown s dir old) s ≡ at place (Some e) = ap (λ o. option_map_or (λ (k : Place). at k (entry_shown s dir k)) o s) there ∙ ap (at place) says in
    possible_with desk (block_number s dir place.block) (with_part (256 * place.slot) (entry_bytes (renamed new e)) (page_in s.parcel (block_number s dir place.block))) s.parcel s.reads nodes rows
    (subst (λ (q : SessionSeen). ArePossible desk q.parcel q.reads nodes rows) is p)
