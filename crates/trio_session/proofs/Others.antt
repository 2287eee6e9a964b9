-- Edits go by neither indexes, look-ups nor room.
use Rattle.trio_session.proofs.Words.{◌++◌, ◌+◌, ◌∙◌, ◌∷◌, ◌≡◌, Bool, Chain, EntryPart, IsAlike, Kind, List, MadeFile, None, Option, Place, Room, SessionSeen, Some, [], ap, block_count, block_number, body_in, chain_cut, chain_grown, chain_in, cleared_slot, cond, empty_shown, entry_shown, eqb, false, filled_at, filter, growth, is_allotted, length, ltb, made_chained, made_file, map, not, number_shown, option_map_or, place_in, place_shown, placed_made, refl, renamed, retitled, size_in, slice_set, spare_pages, true, with_chain, with_made, without_made, ℕ, Link}
use Rattle.std.specs.Prelude.{is_some, take}
use Rattle.trio_session.specs.Deeds.{link_made, sized, with_slot}
use Rattle.trio_session.specs.Seen.{clear, cut, fill, grown, put, retitle, set_guard}
use Rattle.trio_session.proofs.Alike.{alike_edited}

module _ (is : List ℕ) (f : ℕ) (r : Room) where
  -- the same, with these indexes, look-ups and room
  abbrev pub other : SessionSeen → SessionSeen
  other q = record q { indexed = is; finds = f; room = r }

  pub with_chain-other : (ino : ℕ) (chain : Chain) (x : SessionSeen) → with_chain ino chain (other x) ≡ other (with_chain ino chain x)
  with_chain-other ino chain x = by (is_some (made_file x ino))
    where
      by : (b : Bool)
          → cond {A = SessionSeen} b (record (other x) { made = map (made_chained ino chain) x.made }) (record (other x) { chains = option_map_or (λ i. slice_set x.chains i chain) (place_in x ino) x.chains })
          ≡ other (cond {A = SessionSeen} b (record x { made = map (made_chained ino chain) x.made }) (record x { chains = option_map_or (λ i. slice_set x.chains i chain) (place_in x ino) x.chains }))
      by true = refl
      by false = refl

  pub grown-other : (ino size : ℕ) (x : SessionSeen) → grown ino size (other x) ≡ other (grown ino size x)
  unfolding grown
  grown-other ino size x =
      let chain : Chain = chain_in x ino in
      let wanted : ℕ = growth (length chain.blocks) (block_count size) in
      ap (λ (q : SessionSeen). record q { parcel = (grown ino size x).parcel; placed = (grown ino size x).placed })
      (with_chain-other ino (chain_grown chain (block_count size) (take wanted (spare_pages x))) x)

  pub cut-other : (ino size : ℕ) (x : SessionSeen) → cut ino size (other x) ≡ other (cut ino size x)
  unfolding cut
  cut-other ino size x = ap (λ (q : SessionSeen). record q { parcel = (cut ino size x).parcel }) (with_chain-other ino (chain_cut (chain_in x ino) (block_count size)) x)

  sized-other : (ino size : ℕ) (x : SessionSeen) → sized ino size (other x) ≡ other (sized ino size x)
  sized-other ino size x = by (ltb (size_in (body_in x ino)) size) (ltb size (size_in (body_in x ino)))
    where
      by : (a b : Bool) → cond a (grown ino size (other x)) (cond b (cut ino size (other x)) (other x)) ≡ other (cond a (grown ino size x) (cond b (cut ino size x) x))
      by true b = grown-other ino size x
      by false true = cut-other ino size x
      by false false = refl

  with_made-other : (ino : ℕ) (kind : Kind) (page slot : ℕ) (x : SessionSeen) → with_made ino kind page slot (other x) ≡ other (with_made ino kind page slot x)
  with_made-other ino kind page slot x = by (is_allotted x ino)
    where
      by : (b : Bool) → cond {A = SessionSeen} b (record (other x) { made = x.made ++ placed_made x ino kind page slot ∷ []; cleared = filter (λ (m : MadeFile). not (eqb m.ino ino)) x.cleared }) (other x)
          ≡ other (cond {A = SessionSeen} b (record x { made = x.made ++ placed_made x ino kind page slot ∷ []; cleared = filter (λ (m : MadeFile). not (eqb m.ino ino)) x.cleared }) x)
      by true = refl
      by false = refl

  filled_at-other : (dir : ℕ) (place : Place) (e : EntryPart) (body : List ℕ) (x : SessionSeen) → filled_at dir place e body (other x) ≡ other (filled_at dir place e body x)
  filled_at-other dir place e body x =
      ap (λ (q : SessionSeen). record q { parcel = (filled_at dir place e body x).parcel }) (with_made-other e.ino e.kind (block_number x dir place.block) place.slot x)

  pub fill-other : (dir : ℕ) (name : List ℕ) (ino : ℕ) (kind : Kind) (body : List ℕ) (x : SessionSeen) → fill dir name ino kind body (other x) ≡ other (fill dir name ino kind body x)
  unfolding fill
  fill-other dir name ino kind body x = by (empty_shown x dir)
    where
      by : (o : Option Place) → option_map_or (λ place. filled_at dir place (record { ino = ino; kind = kind; name = name }) body (other x)) o (other x)
          ≡ other (option_map_or (λ place. filled_at dir place (record { ino = ino; kind = kind; name = name }) body x) o x)
      by None = refl
      by (Some place) = filled_at-other dir place (record { ino = ino; kind = kind; name = name }) body x

  pub clear-other : (dir : ℕ) (name : List ℕ) (x : SessionSeen) → clear dir name (other x) ≡ other (clear dir name x)
  unfolding clear
  clear-other dir name x = by (place_shown x dir name)
    where
      by : (o : Option Place)
          → option_map_or (λ place. record (without_made (number_shown (other x) dir place) (other x)) { parcel = cleared_slot (block_number (other x) dir place.block) place.slot x.parcel }) o (other x)
          ≡ other (option_map_or (λ place. record (without_made (number_shown x dir place) x) { parcel = cleared_slot (block_number x dir place.block) place.slot x.parcel }) o x)
      by None = refl
      by (Some place) = refl

  pub retitle-other : (dir : ℕ) (old new : List ℕ) (x : SessionSeen) → retitle dir old new (other x) ≡ other (retitle dir old new x)
  unfolding retitle
  retitle-other dir old new x = by (place_shown x dir old)
    where
      at : (place : Place) (o : Option EntryPart)
          → option_map_or (λ e. record (other x) { parcel = retitled (block_number (other x) dir place.block) place.slot (renamed new e) x.parcel }) o (other x)
          ≡ other (option_map_or (λ e. record x { parcel = retitled (block_number x dir place.block) place.slot (renamed new e) x.parcel }) o x)
      at place None = refl
      at place (Some e) = refl

      by : (o : Option Place)
          → option_map_or (λ place. option_map_or (λ e. record (other x) { parcel = retitled (block_number (other x) dir place.block) place.slot (renamed new e) x.parcel }) (entry_shown (other x) dir place) (other x)) o (other x)
          ≡ other (option_map_or (λ place. option_map_or (λ e. record x { parcel = retitled (block_number x dir place.block) place.slot (renamed new e) x.parcel }) (entry_shown x dir place) x) o x)
      by None = refl
      by (Some place) = at place (entry_shown x dir place)

  pub with_slot-other : (dir : ℕ) (x : SessionSeen) → with_slot dir (other x) ≡ other (with_slot dir x)
  with_slot-other dir x = by (is_some (empty_shown x dir))
    where
      by : (b : Bool) → cond {A = SessionSeen} b (other x) (grown dir (size_in (body_in x dir) + 4096) (other x)) ≡ other (cond {A = SessionSeen} b x (grown dir (size_in (body_in x dir) + 4096) x))
      by true = refl
      by false = grown-other dir (size_in (body_in x dir) + 4096) x

-- ---- so edits of sessions that are alike leave them so

pub sized_alike : (ino size : ℕ) (x y : SessionSeen) → IsAlike x y → IsAlike (sized ino size x) (sized ino size y)
sized_alike ino size = alike_edited (sized ino size) (λ is n r x. sized-other is n r ino size x)

pub put_alike : (ino at : ℕ) (bytes : List ℕ) (x y : SessionSeen) → IsAlike x y → IsAlike (put ino at bytes x) (put ino at bytes y)
unfolding put
put_alike ino at bytes x y e = ap (put ino at bytes) e

pub grown_alike : (ino size : ℕ) (x y : SessionSeen) → IsAlike x y → IsAlike (grown ino size x) (grown ino size y)
grown_alike ino size = alike_edited (grown ino size) (λ is n r x. grown-other is n r ino size x)

pub guard_alike : (ino : ℕ) (on : Bool) (x y : SessionSeen) → IsAlike x y → IsAlike (set_guard ino on x) (set_guard ino on y)
unfolding set_guard
guard_alike ino on x y e = ap (set_guard ino on) e

pub slot_alike : (dir : ℕ) (x y : SessionSeen) → IsAlike x y → IsAlike (with_slot dir x) (with_slot dir y)
slot_alike dir = alike_edited (with_slot dir) (λ is n r x. with_slot-other is n r dir x)

pub fill_alike : (dir : ℕ) (name : List ℕ) (ino : ℕ) (kind : Kind) (body : List ℕ) (x y : SessionSeen) → IsAlike x y → IsAlike (fill dir name ino kind body x) (fill dir name ino kind body y)
fill_alike dir name ino kind body = alike_edited (fill dir name ino kind body) (λ is n r x. fill-other is n r dir name ino kind body x)

pub link_alike : (dir : ℕ) (name : List ℕ) (ino : ℕ) (body text : List ℕ) (x y : SessionSeen) → IsAlike x y → IsAlike (link_made dir name ino body text x) (link_made dir name ino body text y)
link_alike dir name ino body text x y e =
    let made : SessionSeen → SessionSeen = fill dir name ino Link body in
    put_alike ino 0 text (grown ino (length text) (made x)) (grown ino (length text) (made y)) (grown_alike ino (length text) (made x) (made y) (fill_alike dir name ino Link body x y e))
