-- A file moves to another directory: how the try goes by the room that was made.
use Rattle.trio_calls_dir.proofs.Words.{◌++◌, ◌<◌, ◌∙◌, ◌∷◌, ◌≡◌, AfterTry, Allot, AllotFault, ArePossible, Ask, AskedBy, Busy, Call, ComesAcross, ComesBy, ComesTo, Creds, DeskSeen, Done, Err, Goes, HasPlaces, In, InAllShown, IsAlike, IsDone, IsNumber, IsOpenDir, IsRename, IsReplied, Kind, LacksRoom, LeavesHere, List, MadeFile, MadeRoom, MayCall, MayMove, MayPut, Met, NoAllotMemory, NoFreeInodes, NoMemory, NoPages, NoSpace, Nodes, None, NotGiven, Ok, Option, Outcome, Path, Place, PutFile, Rename, Replied, Reply, Result, RoomEnds, SessionSeen, Some, TakesMore, Target, Told, TryEnds, Unlink, Wanted, [], alike_then, allot_asks, allot_reply, ap, append-nil, applied, arith, as_lent, asks_fault, asks_short, batch_nodes, both_dirs, clear, cond, dir_of, edited, empty_shown, eqb, false, fill, fill_alike, find_named, in_hand, inl, inr, is_done, is_some, length, made_by, map, may_alike, moved, moved_shown, moves_entry, name_of, ne_eqb, noted, number_made, option_map_or, pages_for, refl, retitle, short_ends, slot_growth, spare_numbers, spare_pages, subst, sym, told_fault, took, true, try_ends, walk_into, wants_of, with_slot, without_file, write_paths, ℕ, new_pages, ◌+◌}
use Rattle.trio_desk.specs.Calls as desk_calls
use Rattle.trio_laws.proofs.session.DirCalls.{no_room_to_move}
use Rattle.trio_calls_dir.proofs.EditDone.{as_done}
use Rattle.trio_calls_dir.proofs.Ends.{may_looked}
use Rattle.trio_calls_dir.proofs.MovesPlace.{may_put, move_calls, move_changes, move_noted}
use Rattle.trio_calls_dir.proofs.MovesTakes.{made_numbers, slot_used, takes_still, took_used}
use Rattle.trio_calls_dir.proofs.MovesWalk.{writes_are}
use Rattle.trio_calls_dir.proofs.Then.{all_then, edited_alike}
use Rattle.trio_edit_laws.proofs.WithSlot.{no_length}

module _ {D : Type 0} (called : D → Ask → Told → D → Type 0) (seen : D → DeskSeen) (d : D) (s : SessionSeen) (call : Call) (from to : Path) (dir new_dir : ℕ) (file : Met) (r : IsRename call from to) (m : MayMove (seen d) s call from to dir new_dir file)
    (d' : D) (s1 : SessionSeen) (result : Result Unit AllotFault) (q : MadeRoom called seen d s new_dir 0 0 result d' s1) where
  -- the pages that are wanted: none of a new file
  no_more : slot_growth s new_dir + new_pages 0 ≡ slot_growth s new_dir
  no_more = omega arith

  abbrev w : Wanted called seen d s q.given q.last d' s1
  w = q.wanted

  abbrev all : SessionSeen
  all = took s (map (λ (c : desk_calls.Call). c.told) q.given)

  abbrev ask : desk_calls.Call → Ask
  ask c = c.ask

  abbrev target : Target
  target = record { dir = dir; new_dir = new_dir; ino = file.ino }

  still : (P : Nodes → Type 0) → InAllShown (seen d) s P → InAllShown (seen d') s1 P
  still P h = all_then (seen d) (seen d') s s1 P w.same w.more w.calls h

  comes1 : InAllShown (seen d') s1 (λ now. ComesAcross now (seen d').creds call from to dir new_dir)
  comes1 =
      subst (λ (k : Creds). InAllShown (seen d') s1 (λ now. ComesAcross now k call from to dir new_dir)) (sym w.same.creds)
      (still (λ now. ComesAcross now (seen d).creds call from to dir new_dir) m.comes)

  named1 : InAllShown (seen d') s1 (λ now. find_named now dir (name_of from) ≡ Some file.ino)
  named1 = still (λ now. find_named now dir (name_of from) ≡ Some file.ino) m.named

  free1 : InAllShown (seen d') s1 (λ now. find_named now new_dir (name_of to) ≡ None)
  free1 = still (λ now. find_named now new_dir (name_of to) ≡ None) m.free.named

  differ : eqb dir new_dir ≡ false
  differ = ne_eqb dir new_dir m.apart

  -- no check refuses it
  done1 : InAllShown (seen d') s1 (λ now. is_done (applied now (seen d').creds call 0).reply ≡ true)
  done1 nodes rows p =
      let now : Nodes = batch_nodes (seen d').creds s1.calls nodes in
      let it = moves_entry (seen d') (as_done call) now from to dir new_dir file.ino (comes1 nodes rows p) (named1 nodes rows p) (free1 nodes rows p) refl refl in
      elim it.0 [ inl x ↦ sym (ap is_done x.0) | inr x ↦ absurd x.0 ]

  wants1 : InAllShown (seen d') s1 (λ now. wants_of now (seen d').creds call (record { dir = dir; new_dir = new_dir; ino = file.ino }) (as_lent s (took s (map (λ (c : desk_calls.Call). c.told) q.given))) ≡ allot_asks (slot_growth s new_dir) 0)
  wants1 nodes rows p =
      let now : Nodes = batch_nodes (seen d').creds s1.calls nodes in
      let creds : Creds = (seen d').creds in
      let done : is_done (applied now creds (Rename from to) 0).reply ≡ true = subst (λ c. is_done (applied now creds c 0).reply ≡ true) r.on (done1 nodes rows p) in
      ap (λ x. wants_of now creds call target x) q.lent
      ∙ ap (λ c. wants_of now creds c target s) r.on
      ∙ ap (λ t. cond {A = List Ask} t (allot_asks (pages_for (Rename from to) target s) 0) []) done
      ∙ ap (λ t. allot_asks (cond t 0 (slot_growth s new_dir)) 0) differ

  -- how the try goes by its end
  goes_by : (end : Outcome) (s2 : SessionSeen) → s2.calls ≡ s1.calls → TakesMore (seen d') (in_hand s1) (in_hand s2) → TryEnds end q.last
      → LeavesHere (seen d').creds call (record { dir = dir; new_dir = new_dir; ino = file.ino }) (took s (map (λ (c : desk_calls.Call). c.told) q.given)) end s2
      → IsNumber call (took s (map (λ (c : desk_calls.Call). c.told) q.given)) end 0
      → AskedBy end (map (λ (c : desk_calls.Call). c.ask) (q.given ++ q.last)) (allot_asks (slot_growth s new_dir) 0)
      → AfterTry (seen d') call 0 end s2 → Goes called seen d s call (λ now. []) end 0 d' s2
  goes_by end s2 calls more ends leaves numbered asks after = record {
    target = target;
    given = q.given;
    last = q.last;
    passes = record { each = w.each; made = w.made; calls = calls ∙ w.calls; same = w.same; more = λ nodes rows p. w.more nodes rows (more nodes rows p) };
    ends = ends;
    leaves = leaves;
    numbered = numbered;
    comes = λ nodes rows p. comes_by end nodes rows p;
    asks = λ nodes rows p. subst (λ l. AskedBy end (map ask (q.given ++ q.last)) l) (sym (over (λ now. wants_of now (seen d').creds call target (as_lent s all) ≡ allot_asks (slot_growth s new_dir) 0) wants1 nodes rows p)) asks;
    after = after;
  }
    where
      over : (P : Nodes → Type 0) → InAllShown (seen d') s1 P → InAllShown (seen d') s2 P
      over P h nodes rows p = subst (λ (cs : List Done). P (batch_nodes (seen d').creds cs nodes)) (sym calls) (h nodes rows (more nodes rows p))

      to_here : InAllShown (seen d') s2 (λ now. ComesTo target now (seen d').creds call)
      to_here =
          over (λ now. ComesTo target now (seen d').creds call)
          (λ nodes rows p.
          let now : Nodes = batch_nodes (seen d').creds s1.calls nodes in
          let c = comes1 nodes rows p in
          let enters : (path : Path) → walk_into now (seen d').creds (both_dirs from to) path ≡ walk_into now (seen d').creds (write_paths call) path = λ path. ap (λ ws. walk_into now (seen d').creds ws path) (sym (writes_are call from to r)) in
          subst (λ (k : Call). ComesTo target now (seen d').creds k) (sym r.on) (enters (dir_of from) ∙ c.out, enters (dir_of to) ∙ c.into, named1 nodes rows p))

      comes_by : (e : Outcome) → InAllShown (seen d') s2 (λ now. ComesBy e target now (seen d').creds call)
      comes_by (Replied answer) nodes rows p = λ done'. to_here nodes rows p
      comes_by (Busy holder) nodes rows p = tt
      comes_by NoMemory nodes rows p = tt

  -- the same nodes are possible
  abbrev stays : TakesMore (seen d') (in_hand s1) (in_hand s1)
  stays nodes rows p = p

  -- the session may make calls
  may1 : spare_pages s1 ≡ [] → spare_numbers s1 ≡ [] → MayCall (seen d') s1
  may1 spent numbers = record { edits = w.may.edits; comes = w.may.comes; made = w.may.made; spent = spent; spent_numbers = numbers }

  -- ---- nothing was given

  after_lack : (reply : Reply) → LacksRoom call reply → spare_pages s1 ≡ [] → spare_numbers s1 ≡ [] → MayCall (seen d') (noted call reply 0 s1)
  after_lack reply lacks spent numbers =
      may_looked (seen d') s1 call reply (may1 spent numbers)
      (λ nodes rows p.
      no_room_to_move (seen d') (record { call = call; reply = reply; made = 0 }) (batch_nodes (seen d').creds s1.calls nodes) from to dir new_dir file.ino (comes1 nodes rows p) (named1 nodes rows p) (free1 nodes rows p) lacks refl)

  pub lacked_goes : (fault : AllotFault) → result ≡ Err fault → Goes called seen d s call (λ now. []) (try_ends (without_file (allot_reply fault))) (number_made (without_file (allot_reply fault))) d' s1
  lacked_goes fault is = by fault (subst (λ x. RoomEnds (seen d') new_dir 0 (slot_growth s new_dir) 0 q.given q.last x all s1) is (subst (λ k. RoomEnds (seen d') new_dir 0 k 0 q.given q.last result all s1) no_more q.ends))
    where
      by : (f : AllotFault) → RoomEnds (seen d') new_dir 0 (slot_growth s new_dir) 0 q.given q.last (Err f) (took s (map (λ (c : desk_calls.Call). c.told) q.given)) s1
          → Goes called seen d s call (λ now. []) (try_ends (without_file (allot_reply f))) (number_made (without_file (allot_reply f))) d' s1
      by (NoPages wanted free) x =
          let told = told_fault (slot_growth s new_dir) 0 q.given q.last s1 (NoPages wanted free) x.0 (λ e. absurd (cc e)) in
          goes_by (Replied (NoSpace wanted free)) s1 refl stays
          (0, told.told ∙ ap (λ k. record { ask = Allot k 0; told = NotGiven (NoPages wanted free) } ∷ []) (sym told.lack.0)) x.1 refl (asks_fault (slot_growth s new_dir) 0 q.given q.last s1 (NoPages wanted free) x.0.none told) (
            after_lack (NoSpace wanted free) (subst (λ c. LacksRoom c (NoSpace wanted free)) (sym r.on) (refl, told.lack.1)) x.0.spent x.0.spent_numbers,
            x.2 (λ e. absurd (cc e)),
            tt,
            λ n. absurd n,
          )
      by (NoFreeInodes wanted free) x =
          let told = told_fault (slot_growth s new_dir) 0 q.given q.last s1 (NoFreeInodes wanted free) x.0 (λ e. absurd (cc e)) in
          (let none = told.lack.0 in let less = told.lack.1 in absurd (omega (arith, less, none)))
      by NoAllotMemory x =
          goes_by NoMemory s1 refl stays (short_ends (slot_growth s new_dir) 0 q.last (elim x.0.ends [ inl told ↦ inl told.told | inr none ↦ inr none.0 ])) x.1 refl
          (asks_short (slot_growth s new_dir) 0 q.given q.last s1 x.0) (may1 x.0.spent x.0.spent_numbers)

  -- ---- there is room

  module _ (is : result ≡ Ok tt) where
    ends : RoomEnds (seen d') new_dir 0 (slot_growth s new_dir) 0 q.given q.last (Ok tt) (took s (map (λ (c : desk_calls.Call). c.told) q.given)) s1
    ends = subst (λ x. RoomEnds (seen d') new_dir 0 (slot_growth s new_dir) 0 q.given q.last x all s1) is (subst (λ k. RoomEnds (seen d') new_dir 0 k 0 q.given q.last result all s1) no_more q.ends)

    places : HasPlaces s1 new_dir 0
    places = ends.5

    no_numbers : spare_numbers s1 ≡ []
    no_numbers = no_length (spare_numbers s1) ends.4.many

    may2 : MayCall (seen d') s1
    may2 = may1 (no_length (spare_pages s1) ends.3) no_numbers

    open_stays : (n : ℕ) → IsOpenDir s n → IsOpenDir s1 n
    open_stays n o = record { directory = w.stays.opens n ∙ o.directory; index = subst (λ l. In n l) (sym w.stays.indexed) o.index }

    moves1 : MayMove (seen d') s1 call from to dir new_dir file
    moves1 = record {
      may = may2;
      opens = open_stays dir m.opens;
      opens_new = open_stays new_dir m.opens_new;
      comes = comes1;
      entry = (
        m.entry.0,
        m.entry.1,
        w.stays.places dir (name_of from) ∙ m.entry.2,
        w.stays.entries dir (name_of from) m.entry.0 m.entry.2 ∙ m.entry.3,
        m.entry.4,
        m.entry.5,
      );
      named = named1;
      free = record { name = m.free.name; place = w.stays.places new_dir (name_of to) ∙ m.free.place; named = free1 };
      apart = m.apart;
      other = m.other;
    }

    takes1 : is_some (moved_shown s file.ino) ≡ true → is_some (moved_shown s1 file.ino) ≡ true
    takes1 takes =
        let given : List Told = map (λ (c : desk_calls.Call). c.told) q.given in
        let a = took_used s given in
        let b = slot_used new_dir all in
        takes_still s s1 (ap made_numbers ends.2 ∙ b.0 ∙ ap (map (λ (x : MadeFile). x.ino)) a.0) (ap (λ (x : SessionSeen). x.cleared) ends.2 ∙ b.1 ∙ a.1) w.stays.holds no_numbers (seen d) m.may.edits file.ino takes

    pub may_put1 : is_some (moved_shown s file.ino) ≡ true → MayPut s1 (name_of from) (name_of to) dir new_dir file.ino
    may_put1 takes = may_put (seen d') s1 call from to dir new_dir file moves1 places.empty places.names places.made (takes1 takes)

    -- the file is put there
    module _ (s2 : SessionSeen) (put : PutFile s1 (name_of from) (name_of to) dir new_dir file.ino s2) where
      place2 : (place : Place) × (empty_shown s1 new_dir ≡ Some place)
      place2 = by (empty_shown s1 new_dir) refl places.empty
        where
          by : (o : Option Place) → empty_shown s1 new_dir ≡ o → is_some o ≡ true → (place : Place) × (empty_shown s1 new_dir ≡ Some place)
          by (Some place) e t = (place, e)
          by None e t = absurd (cc t)

      abbrev e_ino : ℕ
      e_ino = m.entry.1.ino

      -- by the number that its entry has
      near : IsAlike (fill new_dir (name_of to) m.entry.1.ino put.kind put.body (clear dir (name_of from) s1)) s2
      near = subst (λ n. IsAlike (fill new_dir (name_of to) n put.kind put.body (clear dir (name_of from) s1)) s2) m.entry.4 put.put

      calls2 : s2.calls ≡ s1.calls
      unfolding moves1
      calls2 = ap (λ (x : SessionSeen). x.calls) near ∙ move_calls (seen d') s1 call from to dir new_dir file moves1 r place2.0 place2.1 put.kind put.body put.takes

      more2 : TakesMore (seen d') (in_hand s1) (in_hand s2)
      unfolding moves1
      more2 nodes rows p =
          (move_changes (seen d') s1 call from to dir new_dir file moves1 r place2.0 place2.1 put.kind put.body put.takes).becomes.more nodes rows
          (subst (λ (x : SessionSeen). ArePossible (seen d') x.parcel x.reads nodes rows) near p)

      abbrev ready : SessionSeen
      ready = with_slot new_dir (took s (map (λ (c : desk_calls.Call). c.told) q.given))

      clear_alike : IsAlike (clear dir (name_of from) ready) (clear dir (name_of from) s1)
      clear_alike = edited_alike (seen d').creds (Unlink from) (record { dir = dir; new_dir = new_dir; ino = file.ino }) ready s1 ends.2

      edited_is : edited (seen d').creds call (record { dir = dir; new_dir = new_dir; ino = file.ino }) (took s (map (λ (c : desk_calls.Call). c.told) q.given))
          ≡ fill new_dir (name_of to) file.ino put.kind put.body (clear dir (name_of from) ready)
      edited_is =
          let takes : moved_shown ready file.ino ≡ Some (put.kind, put.body) = sym (ap (λ (x : SessionSeen). moved_shown x file.ino) ends.2) ∙ put.takes in
          ap (λ c. edited (seen d').creds c target all) r.on
          ∙ ap (λ b. cond b (retitle dir (name_of from) (name_of to) all) (moved from to target all)) differ
          ∙ ap (λ o. option_map_or (λ (x : Kind × List ℕ). fill new_dir (name_of to) file.ino x.0 x.1 (clear dir (name_of from) ready)) o ready) takes

      leaves2 : IsAlike (edited (seen d').creds call (record { dir = dir; new_dir = new_dir; ino = file.ino }) (took s (map (λ (c : desk_calls.Call). c.told) q.given))) s2
      leaves2 =
          subst (λ (x : SessionSeen). IsAlike x s2) (sym edited_is)
          (alike_then (fill new_dir (name_of to) file.ino put.kind put.body (clear dir (name_of from) ready)) (fill new_dir (name_of to) file.ino put.kind put.body (clear dir (name_of from) s1)) s2
          (fill_alike new_dir (name_of to) file.ino put.kind put.body (clear dir (name_of from) ready) (clear dir (name_of from) s1) clear_alike) put.put)

      pub put_goes : Goes called seen d s call (λ now. []) (Replied (IsReplied IsDone)) 0 d' s2
      unfolding moves1
      put_goes =
          goes_by (Replied (IsReplied IsDone)) s2 calls2 more2 ends.0 leaves2 (sym (ap (λ c. made_by c all) r.on))
          (ends.1 ∙ sym (ap (λ (l : List desk_calls.Call). map ask (q.given ++ l)) ends.0 ∙ ap (map ask) (append-nil q.given))) (
            may_alike (seen d') (noted call (IsReplied IsDone) 0 (fill new_dir (name_of to) m.entry.1.ino put.kind put.body (clear dir (name_of from) s1))) (noted call (IsReplied IsDone) 0 s2) (ap (noted call (IsReplied IsDone) 0) near)
                (move_noted (seen d') s1 call from to dir new_dir file moves1 r place2.0 place2.1 put.kind put.body put.takes),
            subst (λ n. length s2.calls < n) (sym put.calls) (subst (λ (cs : List Done). length cs < s1.room.calls) (sym calls2) places.calls),
            tt,
            λ n. absurd n,
          )
