-- What a session has and shows after room was made for one of its files.
use Rattle.trio_session.proofs.Words.{◌+◌, ◌-◌, ◌<◌, ◌∙◌, ◌≡◌, ◌≤◌, AreDirs, AreLaid, AreMade, Chain, In, IndexedDir, Inside, IsRelaid, Laid, List, Made, MadeFile, None, Ok, OnOk, Option, Parcel, Roomier, SessionSeen, Some, Vec, ap, arith, chains_laid, dir_numbers, eqb, filter, has_names, has_slots, length, made_place, made_room, made_seen, map, min, option_map_or, place_in, position, refl, room_in, room_laid, slice_index_or, subst, sym, vec_capacity, ℕ, IsBlank}
use Rattle.std.proofs.Common.{Result}
use Rattle.trio_session.specs.Seen.{KeepsRoom}
use Rattle.trio_session.specs.contracts.session.Session.{the_invariant, the_view}
use Rattle.trio_session.proofs.Chained.{made_many}
use Rattle.trio_session.proofs.Insides.{files_in}
use Rattle.trio_session.proofs.Kept.{files_of}
use Rattle.trio_session.proofs.Opens.{room_found}
use Rattle.trio_session.proofs.Reserved.{chains_reserved, found_reserved, kept_reserved, made_reserved, rooms_reserved}

module _ {E : Type 0} (v : SessionSeen) (s : Inside) (ino blocks : ℕ) (result : Result Unit E) (laid' : Vec Laid) (made' : Vec Made) (dirs' : Vec IndexedDir) (view : the_view s ≡ v) (is : the_invariant s)
    (relaid : IsRelaid (Roomier blocks result) s.stock s.laid.items s.made.items ino laid'.items made'.items) where
  abbrev after : Inside
  after = record s { laid = laid'; made = made'; dirs = dirs' }

  -- its invariant
  pub inside_reserved : AreDirs s.reads.items (files_in s) dirs'.items
      → AreLaid s.stock laid'.items × (s.placed ≤ length s.stock.pages) × (length s.calls.items < 4294967296) × AreMade s.placed s.reads.items (files_of s.stock laid'.items made'.items s.cleared.items)
      × AreDirs s.reads.items (files_of s.stock laid'.items made'.items s.cleared.items) dirs'.items × (length made'.items + length s.cleared.items ≤ vec_capacity s.cleared) × IsBlank s.next
  inside_reserved are =
      let kept = kept_reserved s.placed s.reads.items blocks ino result s.stock s.laid.items laid'.items s.made.items made'.items s.cleared.items dirs'.items is.0 is.3 are relaid in
      let many = made_many (Roomier blocks result) s.stock s.laid.items laid'.items s.made.items made'.items ino relaid in
      (kept.0, is.1, is.2, kept.1, kept.2, rw many is.5, is.6)

  seen : map (made_seen s.stock) made'.items ≡ map (made_seen s.stock) s.made.items
  seen = made_reserved s.placed s.reads.items blocks ino result s.stock s.laid.items laid'.items s.made.items made'.items s.cleared.items is.3 relaid

  -- what it shows
  pub view_reserved : dir_numbers dirs'.items ≡ dir_numbers s.dirs.items → the_view after ≡ record v { room = (the_view after).room }
  view_reserved numbers =
      let b = s.stock in
      let room = (the_view after).room in
      let w : List Chain → List MadeFile → List ℕ → SessionSeen = λ cs ms ns. record (the_view s) { chains = cs; made = ms; indexed = ns; room = room } in
      ap (λ cs. w cs (map (made_seen b) made'.items) (dir_numbers dirs'.items)) (chains_reserved blocks ino result b s.laid.items laid'.items s.made.items made'.items is.0 relaid)
      ∙ ap (λ ms. w (chains_laid b.writes b.pages s.laid.items) ms (dir_numbers dirs'.items)) seen
      ∙ ap (w (chains_laid b.writes b.pages s.laid.items) (map (made_seen b) s.made.items)) numbers
      ∙ ap (λ (x : SessionSeen). record x { room = room }) view

  -- no file has less room
  room_kept : (n : ℕ) → room_in v n ≤ room_in (the_view after) n
  room_kept n =
      let u = the_view s in
      let u' = the_view after in
      subst (λ x. room_in x n ≤ room_in u' n) view
      (subst (λ ms. room_in u n ≤ option_map_or (λ i. slice_index_or u'.room.made_blocks i 0) (position (λ m. eqb m.ino n) ms) (option_map_or (λ i. slice_index_or u'.room.blocks i 0) (place_in u n) 0)) (sym seen)
      (at (made_place u n) (place_in u n)))
    where
      at : (o p : Option ℕ)
          → option_map_or (λ i. slice_index_or (map (λ m. room_laid m.laid) s.made.items) i 0) o (option_map_or (λ i. slice_index_or (map room_laid s.laid.items) i 0) p 0)
          ≤ option_map_or (λ i. slice_index_or (map (λ m. room_laid m.laid) made'.items) i 0) o (option_map_or (λ i. slice_index_or (map room_laid laid'.items) i 0) p 0)
      at (Some i) p = (rooms_reserved blocks ino result s.stock s.laid.items laid'.items s.made.items made'.items relaid i).1
      at None (Some i) = (rooms_reserved blocks ino result s.stock s.laid.items laid'.items s.made.items made'.items relaid i).0
      at None None = omega arith

  -- nor has an index
  pub keeps_reserved : vec_capacity made' ≡ vec_capacity s.made → ((n : ℕ) → In n (dir_numbers (filter has_slots s.dirs.items)) → In n (dir_numbers (filter has_slots dirs'.items)))
      → ((n : ℕ) → In n (dir_numbers (filter has_names s.dirs.items)) → In n (dir_numbers (filter has_names dirs'.items))) → KeepsRoom v (the_view after)
  keeps_reserved places slots names =
      let u = the_view s in
      let u' = the_view after in
      let calls : u.room.calls ≤ u'.room.calls = omega arith in
      let same : made_room made' s.cleared ≡ made_room s.made s.cleared = ap (λ n. min n (vec_capacity s.cleared - length s.cleared.items)) places in
      let more : u.room.made ≤ u'.room.made = omega (arith, same) in
      let same_next : u.room.next_blocks ≤ u'.room.next_blocks = omega arith in
      record {
        calls = subst (λ x. x.room.calls ≤ u'.room.calls) view calls;
        blocks = room_kept;
        made = subst (λ x. x.room.made ≤ u'.room.made) view more;
        next = subst (λ x. x.room.next_blocks ≤ u'.room.next_blocks) view same_next;
        slots = λ n i. slots n (subst (λ x. In n x.room.slots) (sym view) i);
        names = λ n i. names n (subst (λ x. In n x.room.names) (sym view) i);
      }

  -- the file has the room that was asked
  pub room_enough : (u : Unit) → result ≡ Ok u → blocks ≤ room_in (the_view after) ino
  room_enough u ok =
      let at = found_reserved blocks ino result s.stock s.laid.items laid'.items s.made.items made'.items relaid in
      let there : blocks ≤ room_laid at.2 = subst (λ r. OnOk r (blocks ≤ room_laid at.2)) ok at.4.room in
      subst (λ n. blocks ≤ n) (sym (room_found (the_view after) after ino at.0 at.2 refl at.3)) there
