-- A file is made in its directory: how the try goes by the room that was made.
use Rattle.trio_calls_dir.proofs.Words.{◌++◌, ◌<◌, ◌∙◌, ◌∷◌, ◌≡◌, AfterTry, Allot, AllotFault, Applied, ArePossible, AreWithinLimits, Ask, AskedBy, Busy, Call, ComesBy, ComesInto, ComesTo, CoreRange, Creds, DeskSeen, Directory, Done, Err, Exists, Goes, HasNumbers, HasPlaces, In, InAllShown, IsAlike, IsDone, IsNumber, IsOpenDir, IsReplied, Kind, LacksRoom, LeavesHere, List, MadeRoom, MayCall, Mode, NoAllotMemory, NoFreeInodes, NoInodes, NoMemory, NoPages, NoSpace, Nodes, None, NotGiven, Ok, Option, Outcome, Path, Place, Regular, Replied, Reply, Result, RoomEnds, SessionSeen, Some, TakesMore, Target, Told, TryEnds, Wanted, [], alike_room, alike_then, allot_asks, allot_reply, ap, append-nil, applied, arith, as_lent, asks_fault, asks_short, batch_nodes, body_of, cond, dir_of, done, edited, empty_shown, false, fill, fill_alike, find_named, given_all, in_hand, inl, inr, is_done, is_name, is_root, is_some, length, made_by, making, map, may_alike, name_of, new_body, new_number, noted, number_made, numbers_for, pages_for, place_shown, reached, refl, refused, short_ends, slot_growth, spare_numbers, spare_pages, subst, sym, told_fault, took, true, try_ends, walk_into, wants_of, with_node, with_slot, without_file, write_paths, ℕ, ◌+◌, ◌≤◌, Link, New, NewDirectory, NewFile, NewLink, block_count, body_made, link_mode, makes_file, new_bytes, new_kind, new_mode, new_pages, new_path, put_new, largest_size}
use Rattle.std.specs.Prelude.{unwrap_or}
use Rattle.trio_nodes.specs.Apply.{in_directory, new_node}
use Rattle.trio_desk.specs.Calls as desk_calls
use Rattle.trio_laws.proofs.session.DirCalls.{no_room_to_make}
use Rattle.trio_session.specs.Seen.{lowest}
use Rattle.trio_deeds.specs.Slots.{MayMakeFile}
use Rattle.trio_calls_dir.proofs.Ends.{may_looked}
use Rattle.trio_calls_dir.specs.Asks.{IsEntryCall}
use Rattle.trio_session.proofs.Others.{link_alike}
use Rattle.trio_calls_dir.proofs.MakesFill.{IsPut, MayFill, ReadsNew, is_put, may_noted, node_new, spare_above, text_pages}
use Rattle.trio_edit_laws.proofs.Allotting.{spare_uncleared}
use Rattle.trio_calls_dir.proofs.Then.{all_then}

-- What is known of a file that is to be made: the directory is open, and has no such name.
pub record MayMake (desk : DeskSeen) (s : SessionSeen) (call' : Call) (what' : New) (path' : Path) (dir' : ℕ) : Type 0 where
  pub may : MayCall desk s
  pub call : call' ≡ making what' path'
  pub fits : IsEntryCall (making what' path')
  pub root : is_root path' ≡ false
  pub opens : IsOpenDir s dir'
  pub new : place_shown s dir' (name_of path') ≡ None
  pub comes : InAllShown desk s (λ now. ComesInto now desk.creds call' path' dir')
  pub free : InAllShown desk s (λ now. find_named now dir' (name_of path') ≡ None)

-- ---- what such a call is

pub makes_it : (what : New) (path : Path) → makes_file (making what path) ≡ true
makes_it (NewDirectory mode) path = refl
makes_it (NewFile mode) path = refl
makes_it (NewLink text) path = refl

made_it : (what : New) (path : Path) (s : SessionSeen) → new_number s ≡ made_by (making what path) s
made_it (NewDirectory mode) path s = refl
made_it (NewFile mode) path s = refl
made_it (NewLink text) path s = refl

-- the pages of its directory's slot, and its own
pages_it : (what : New) (path : Path) → IsEntryCall (making what path) → (t : Target) (s : SessionSeen) → pages_for (making what path) t s ≡ slot_growth s t.dir + new_pages (length (new_bytes (making what path)))
pages_it (NewDirectory mode) path fits t s = omega arith
pages_it (NewFile mode) path fits t s = omega arith
pages_it (NewLink text) path fits t s = ap (λ n. slot_growth s t.dir + n) (sym (text_pages (length text) fits.0 fits.1))

number_it : (what : New) (path : Path) → numbers_for (making what path) ≡ 1
number_it (NewDirectory mode) path = refl
number_it (NewFile mode) path = refl
number_it (NewLink text) path = refl

wants_it : (what : New) (path : Path) → IsEntryCall (making what path) → (t : Target) (s : SessionSeen)
    → allot_asks (pages_for (making what path) t s) (numbers_for (making what path)) ≡ allot_asks (slot_growth s t.dir + new_pages (length (new_bytes (making what path)))) 1
wants_it what path fits t s =
    ap (λ n. allot_asks n (numbers_for (making what path))) (pages_it what path fits t s)
    ∙ ap (allot_asks (slot_growth s t.dir + new_pages (length (new_bytes (making what path))))) (number_it what path)

edits_it : (what : New) (path : Path) (creds : Creds) (t : Target) (s : SessionSeen) → edited creds (making what path) t s ≡ put_new creds (making what path) t.dir (new_number s) (with_slot t.dir s)
edits_it (NewDirectory mode) path creds t s = refl
edits_it (NewFile mode) path creds t s = refl
edits_it (NewLink text) path creds t s = refl

-- it goes by neither indexes nor room
put_alike_it : (what : New) (path : Path) (creds : Creds) (dir n : ℕ) (x y : SessionSeen) → IsAlike x y → IsAlike (put_new creds (making what path) dir n x) (put_new creds (making what path) dir n y)
put_alike_it (NewDirectory mode) path creds dir n x y e = fill_alike dir (name_of path) n Directory (new_body creds mode) x y e
put_alike_it (NewFile mode) path creds dir n x y e = fill_alike dir (name_of path) n Regular (new_body creds mode) x y e
put_alike_it (NewLink text) path creds dir n x y e = link_alike dir (name_of path) n (new_body creds link_mode) text x y e

comes_it : (what : New) (path : Path) (now : Nodes) (creds : Creds) (t : Target) → walk_into now creds (write_paths (making what path)) (dir_of path) ≡ Ok t.dir → ComesTo t now creds (making what path)
comes_it (NewDirectory mode) path now creds t e = e
comes_it (NewFile mode) path now creds t e = e
comes_it (NewLink text) path now creds t e = e

-- no check refuses it
done_it : (what : New) (path : Path) (now : Nodes) (creds : Creds) (dir : ℕ) → is_root path ≡ false → walk_into now creds (write_paths (making what path)) (dir_of path) ≡ Ok dir → find_named now dir (name_of path) ≡ None
    → is_done (applied now creds (making what path) 0).reply ≡ true
done_it what path now creds dir root walked free = by what walked
  where
    at : Kind → Mode → List ℕ → ℕ → Applied
    at kind mode bytes n = cond {A = Applied} (is_some (find_named now n (name_of path))) (refused now Exists) (done (with_node now 0 (Some (new_node creds kind n path mode bytes))) IsDone)

    all : (kind : Kind) (mode : Mode) (bytes : List ℕ) → walk_into now creds (dir_of path ∷ []) (dir_of path) ≡ Ok dir
        → is_done (cond {A = Applied} (is_root path) (refused now Exists) (in_directory now creds (dir_of path ∷ []) path (at kind mode bytes))).reply ≡ true
    all kind mode bytes e =
        ap (λ t. is_done (cond {A = Applied} t (refused now Exists) (in_directory now creds (dir_of path ∷ []) path (at kind mode bytes))).reply) root
        ∙ ap (λ r. is_done (reached now r (at kind mode bytes)).reply) e
        ∙ ap (λ o. is_done (cond {A = Applied} (is_some o) (refused now Exists) (done (with_node now 0 (Some (new_node creds kind dir path mode bytes))) IsDone)).reply) free

    by : (w : New) → walk_into now creds (write_paths (making w path)) (dir_of path) ≡ Ok dir → is_done (applied now creds (making w path) 0).reply ≡ true
    by (NewDirectory mode) e = all Directory mode [] e
    by (NewFile mode) e = all Regular mode [] e
    by (NewLink text) e = all Link link_mode text e

-- its bytes are few
pub few_it : (what : New) (path : Path) → IsEntryCall (making what path) → length (new_bytes (making what path)) ≤ largest_size
few_it (NewDirectory mode) path fits = omega arith
few_it (NewFile mode) path fits = omega arith
few_it (NewLink text) path fits = (let few = fits.1 in omega (arith, few))

-- its path
pub path_it : (what : New) (path : Path) → new_path (making what path) ≡ path
path_it (NewDirectory mode) path = refl
path_it (NewFile mode) path = refl
path_it (NewLink text) path = refl

-- a list of one, by its lowest
only_one : (xs : List ℕ) → length xs ≡ 1 → xs ≡ unwrap_or (lowest xs) 0 ∷ []
only_one [] e = absurd (omega (arith, e))
only_one (x ∷ []) e = refl
only_one (x ∷ (y ∷ ys)) e = absurd (omega (arith, e))

module _ {D : Type 0} (called : D → Ask → Told → D → Type 0) (seen : D → DeskSeen) (d : D) (s : SessionSeen) (call : Call) (what : New) (path : Path) (dir size : ℕ) (m : MayMake (seen d) s call what path dir) (size_is : size ≡ length (new_bytes call))
    (d' : D) (s1 : SessionSeen) (result : Result Unit AllotFault) (r : MadeRoom called seen d s dir 1 size result d' s1) where
  -- the pages of its directory's slot, and its own
  abbrev pages : ℕ
  pages = slot_growth s dir + new_pages size

  size_made : size ≡ length (new_bytes (making what path))
  size_made = size_is ∙ ap (λ c. length (new_bytes c)) m.call

  abbrev w : Wanted called seen d s r.given r.last d' s1
  w = r.wanted

  abbrev all : SessionSeen
  all = took s (map (λ (c : desk_calls.Call). c.told) r.given)

  abbrev ask : desk_calls.Call → Ask
  ask c = c.ask

  creds_same : (seen d').creds ≡ (seen d).creds
  creds_same = w.same.creds

  comes1 : InAllShown (seen d') s1 (λ now. ComesInto now (seen d').creds call path dir)
  comes1 =
      subst (λ (k : Creds). InAllShown (seen d') s1 (λ now. ComesInto now k call path dir)) (sym creds_same)
      (all_then (seen d) (seen d') s s1 (λ now. ComesInto now (seen d).creds call path dir) w.same w.more w.calls m.comes)

  free1 : InAllShown (seen d') s1 (λ now. find_named now dir (name_of path) ≡ None)
  free1 = all_then (seen d) (seen d') s s1 (λ now. find_named now dir (name_of path) ≡ None) w.same w.more w.calls m.free

  abbrev target : Target
  target = record { dir = dir; new_dir = 0; ino = 0 }

  walked1 : InAllShown (seen d') s1 (λ now. walk_into now (seen d').creds (write_paths (making what path)) (dir_of path) ≡ Ok dir)
  walked1 nodes rows p = ap (λ c. walk_into (batch_nodes (seen d').creds s1.calls nodes) (seen d').creds (write_paths c) (dir_of path)) (sym m.call) ∙ (comes1 nodes rows p).into

  wants1 : InAllShown (seen d') s1 (λ now. wants_of now (seen d').creds call (record { dir = dir; new_dir = 0; ino = 0 }) (as_lent s (took s (map (λ (c : desk_calls.Call). c.told) r.given))) ≡ allot_asks (slot_growth s dir + new_pages size) 1)
  wants1 nodes rows p =
      let now : Nodes = batch_nodes (seen d').creds s1.calls nodes in
      let creds : Creds = (seen d').creds in
      ap (λ x. wants_of now creds call target x) r.lent
      ∙ ap (λ c. wants_of now creds c target s) m.call
      ∙ ap (λ t. cond {A = List Ask} t (allot_asks (pages_for (making what path) target s) (numbers_for (making what path))) []) (done_it what path now creds dir m.root (walked1 nodes rows p) (free1 nodes rows p))
      ∙ wants_it what path m.fits target s ∙ ap (λ n. allot_asks (slot_growth s dir + new_pages n) 1) (sym size_made)

  -- how the try goes by its end
  goes_by : (end : Outcome) (number : ℕ) (s2 : SessionSeen) → s2.calls ≡ s1.calls → TakesMore (seen d') (in_hand s1) (in_hand s2) → TryEnds end r.last
      → LeavesHere (seen d').creds call (record { dir = dir; new_dir = 0; ino = 0 }) (took s (map (λ (c : desk_calls.Call). c.told) r.given)) end s2
      → IsNumber call (took s (map (λ (c : desk_calls.Call). c.told) r.given)) end number
      → AskedBy end (map (λ (c : desk_calls.Call). c.ask) (r.given ++ r.last)) (allot_asks (slot_growth s dir + new_pages size) 1)
      → AfterTry (seen d') call number end s2 → Goes called seen d s call (λ now. []) end number d' s2
  goes_by end number s2 calls more ends leaves numbered asks after = record {
    target = target;
    given = r.given;
    last = r.last;
    passes = record { each = w.each; made = w.made; calls = calls ∙ w.calls; same = w.same; more = λ nodes rows p. w.more nodes rows (more nodes rows p) };
    ends = ends;
    leaves = leaves;
    numbered = numbered;
    comes = λ nodes rows p. comes_by end nodes rows p;
    asks = λ nodes rows p. subst (λ l. AskedBy end (map ask (r.given ++ r.last)) l) (sym (over (λ now. wants_of now (seen d').creds call target (as_lent s all) ≡ allot_asks (slot_growth s dir + new_pages size) 1) wants1 nodes rows p)) asks;
    after = after;
  }
    where
      over : (P : Nodes → Type 0) → InAllShown (seen d') s1 P → InAllShown (seen d') s2 P
      over P h nodes rows p = subst (λ (cs : List Done). P (batch_nodes (seen d').creds cs nodes)) (sym calls) (h nodes rows (more nodes rows p))

      to : InAllShown (seen d') s2 (λ now. ComesTo target now (seen d').creds call)
      to =
          over (λ now. ComesTo target now (seen d').creds call)
          (λ nodes rows p.
          let now : Nodes = batch_nodes (seen d').creds s1.calls nodes in
          subst (λ c. ComesTo target now (seen d').creds c) (sym m.call) (comes_it what path now (seen d').creds target (walked1 nodes rows p)))

      comes_by : (e : Outcome) → InAllShown (seen d') s2 (λ now. ComesBy e target now (seen d').creds call)
      comes_by (Replied answer) nodes rows p = λ done'. to nodes rows p
      comes_by (Busy holder) nodes rows p = tt
      comes_by NoMemory nodes rows p = tt

  -- the same nodes are possible
  abbrev stays : TakesMore (seen d') (in_hand s1) (in_hand s1)
  stays nodes rows p = p

  -- ---- nothing was given

  -- the session may make calls
  may1 : spare_pages s1 ≡ [] → spare_numbers s1 ≡ [] → MayCall (seen d') s1
  may1 spent numbers = record { edits = w.may.edits; comes = w.may.comes; made = w.may.made; spent = spent; spent_numbers = numbers }

  after_lack : (reply : Reply) → LacksRoom call reply → spare_pages s1 ≡ [] → spare_numbers s1 ≡ [] → MayCall (seen d') (noted call reply 0 s1)
  after_lack reply lacks spent numbers =
      may_looked (seen d') s1 call reply (may1 spent numbers)
      (λ nodes rows p.
      no_room_to_make (seen d') (record { call = call; reply = reply; made = 0 }) (batch_nodes (seen d').creds s1.calls nodes) path dir (comes1 nodes rows p) (ap makes_file m.call ∙ makes_it what path) (free1 nodes rows p) lacks refl)

  pub lacked_goes : (fault : AllotFault) → result ≡ Err fault → Goes called seen d s call (λ now. []) (try_ends (without_file (allot_reply fault))) (number_made (without_file (allot_reply fault))) d' s1
  lacked_goes fault is = by fault (subst (λ q. RoomEnds (seen d') dir size (slot_growth s dir + new_pages size) 1 r.given r.last q all s1) is r.ends)
    where
      lacks_pages : (wanted free : ℕ) → free < wanted → LacksRoom call (NoSpace wanted free)
      lacks_pages wanted free less = subst (λ c. LacksRoom c (NoSpace wanted free)) (sym m.call) (at what)
        where
          at : (w : New) → LacksRoom (making w path) (NoSpace wanted free)
          at (NewDirectory mode) = (refl, less)
          at (NewFile mode) = (refl, less)
          at (NewLink text) = (refl, less)

      lacks_numbers : (wanted free : ℕ) → free < wanted → LacksRoom call (NoInodes wanted free)
      lacks_numbers wanted free less = (ap makes_file m.call ∙ makes_it what path, less)

      by : (f : AllotFault) → RoomEnds (seen d') dir size (slot_growth s dir + new_pages size) 1 r.given r.last (Err f) (took s (map (λ (c : desk_calls.Call). c.told) r.given)) s1
          → Goes called seen d s call (λ now. []) (try_ends (without_file (allot_reply f))) (number_made (without_file (allot_reply f))) d' s1
      by (NoPages wanted free) x =
          let told = told_fault pages 1 r.given r.last s1 (NoPages wanted free) x.0 (λ e. absurd (cc e)) in
          goes_by (Replied (NoSpace wanted free)) 0 s1 refl stays
          (1, told.told ∙ ap (λ k. record { ask = Allot k 1; told = NotGiven (NoPages wanted free) } ∷ []) (sym told.lack.0)) x.1 refl (asks_fault pages 1 r.given r.last s1 (NoPages wanted free) x.0.none told) (
            after_lack (NoSpace wanted free) (lacks_pages wanted free told.lack.1) x.0.spent x.0.spent_numbers,
            x.2 (λ e. absurd (cc e)),
            tt,
            λ n. absurd n,
          )
      by (NoFreeInodes wanted free) x =
          let told = told_fault pages 1 r.given r.last s1 (NoFreeInodes wanted free) x.0 (λ e. absurd (cc e)) in
          goes_by (Replied (NoInodes wanted free)) 0 s1 refl stays
          (pages, told.told ∙ ap (λ k. record { ask = Allot pages k; told = NotGiven (NoFreeInodes wanted free) } ∷ []) (sym told.lack.0)) x.1 refl (asks_fault pages 1 r.given r.last s1 (NoFreeInodes wanted free) x.0.none told) (
            after_lack (NoInodes wanted free) (lacks_numbers wanted free told.lack.1) x.0.spent x.0.spent_numbers,
            x.2 (λ e. absurd (cc e)),
            tt,
            λ n. absurd n,
          )
      by NoAllotMemory x =
          goes_by NoMemory 0 s1 refl stays (short_ends pages 1 r.last (elim x.0.ends [ inl told ↦ inl told.told | inr none ↦ inr none.0 ])) x.1 refl
          (asks_short pages 1 r.given r.last s1 x.0) (may1 x.0.spent x.0.spent_numbers)

  -- ---- a number was given

  module _ (given_all : result ≡ Ok tt) where
    ends : RoomEnds (seen d') dir size (slot_growth s dir + new_pages size) 1 r.given r.last (Ok tt) (took s (map (λ (c : desk_calls.Call). c.told) r.given)) s1
    ends = subst (λ q. RoomEnds (seen d') dir size (slot_growth s dir + new_pages size) 1 r.given r.last q all s1) given_all r.ends

    abbrev numbers : HasNumbers s1 1
    numbers = ends.4

    abbrev places : HasPlaces s1 dir (block_count size)
    places = ends.5

    -- one is spare
    one : spare_numbers s1 ≡ new_number s1 ∷ []
    one = only_one (spare_numbers s1) numbers.many

    among1 : In (new_number s1) (spare_numbers s1)
    among1 = subst (λ l. In (new_number s1) l) (sym one) (inl refl)

    pub may_make : MayMakeFile s1 (name_of path) dir
    may_make = record {
      opens = record { directory = w.stays.opens dir ∙ m.opens.directory; index = subst (λ l. In dir l) (sym w.stays.indexed) m.opens.index };
      new = w.stays.places dir (name_of path) ∙ m.new;
      empty = places.empty;
      spare = ap (λ l. is_some (lowest l)) one;
      number = spare_above (seen d') s1 (new_number s1) w.may among1;
      nothing = numbers.unlent (new_number s1) among1;
      uncleared = spare_uncleared s1 (new_number s1) among1;
      names = places.names;
      place = places.made;
    }

    place1 : (place : Place) × (empty_shown s1 dir ≡ Some place)
    place1 = by (empty_shown s1 dir) refl
      where
        by : (o : Option Place) → empty_shown s1 dir ≡ o → (place : Place) × (empty_shown s1 dir ≡ Some place)
        by None e = absurd (let wrong : false ≡ true = sym (ap is_some e) ∙ places.empty in cc wrong)
        by (Some place) e = (place, e)

    -- its pages are spare, and there are places for its blocks
    pub pages_spare : length (spare_pages s1) ≡ new_pages (length (new_bytes call))
    pages_spare = ends.3 ∙ ap new_pages size_is

    pub blocks_room : block_count (length (new_bytes call)) ≤ s1.room.next_blocks
    blocks_room = subst (λ n. block_count n ≤ s1.room.next_blocks) size_is places.next

    module _ (limits : AreWithinLimits (seen d).sizes) (name : is_name (name_of path) ≡ true)
        (read : (range : CoreRange) → body_of (new_kind call) range (new_body (seen d').creds (new_mode call)) ≡ Some (body_made (seen d').creds (new_mode call))) where
      abbrev n : ℕ
      n = new_number s1

      may_fill : MayFill (seen d') s1 call what path dir (new_number s1)
      may_fill = record {
        may = w.may;
        limits = subst AreWithinLimits (sym w.same.sizes) limits;
        call = m.call;
        fits = m.fits;
        name = name;
        opens = may_make.opens;
        place = place1.0;
        empty = place1.1;
        new = may_make.new;
        comes = comes1;
        spare = ends.7;
        pages = ends.3 ∙ ap new_pages size_made;
        one = one;
        unlent = may_make.nothing;
        read = subst (λ c. ReadsNew (seen d') c) m.call (read (seen d').sizes.range);
      }

      module _ (s2 : SessionSeen) (kept : s2 ≡ record (put_new (seen d').creds call dir (new_number s1) s1) { room = s2.room }) (room : s2.room.calls ≡ s1.room.calls) where
        abbrev then' : SessionSeen
        then' = put_new (seen d').creds (making what path) dir (new_number s1) s1

        put : IsPut (seen d') s1 (put_new (seen d').creds (making what path) dir (new_number s1) s1) (new_number s1) (node_new (seen d').creds dir what path)
        put = is_put (seen d') s1 call what path dir n may_fill

        near : IsAlike (put_new (seen d').creds (making what path) dir (new_number s1) s1) s2
        near = subst (λ c. IsAlike (put_new (seen d').creds c dir (new_number s1) s1) s2) m.call (alike_room (put_new (seen d').creds call dir (new_number s1) s1) s2 kept)

        calls2 : s2.calls ≡ s1.calls
        calls2 = ap (λ (q : SessionSeen). q.calls) near ∙ put.calls

        number_is : new_number all ≡ new_number s1
        number_is = ap (λ l. unwrap_or (lowest l) 0) (sym ends.6)

        leaves2 : IsAlike (edited (seen d').creds call (record { dir = dir; new_dir = 0; ino = 0 }) (took s (map (λ (c : desk_calls.Call). c.told) r.given))) s2
        leaves2 =
            subst (λ (q : SessionSeen). IsAlike q s2) (sym (ap (λ c. edited (seen d').creds c target all) m.call ∙ edits_it what path (seen d').creds target all
            ∙ ap (λ k. put_new (seen d').creds (making what path) dir k (with_slot dir all)) number_is))
            (alike_then (put_new (seen d').creds (making what path) dir n (with_slot dir all)) then' s2
            (put_alike_it what path (seen d').creds dir n (with_slot dir all) s1 ends.2) near)

        pub made_goes : Goes called seen d s call (λ now. []) (Replied (IsReplied IsDone)) (new_number s1) d' s2
        made_goes =
            goes_by (Replied (IsReplied IsDone)) n s2 calls2
            (λ nodes rows p. put.changes.becomes.more nodes rows (subst (λ (q : SessionSeen). ArePossible (seen d') q.parcel q.reads nodes rows) near p))
            ends.0 leaves2 (sym number_is ∙ made_it what path all ∙ sym (ap (λ c. made_by c all) m.call))
            (ends.1 ∙ sym (ap (λ (l : List desk_calls.Call). map ask (r.given ++ l)) ends.0 ∙ ap (map ask) (append-nil r.given))) (
              may_alike (seen d') (noted call (IsReplied IsDone) n then') (noted call (IsReplied IsDone) n s2) (ap (noted call (IsReplied IsDone) n) near) (may_noted (seen d') s1 call what path dir n may_fill),
              subst (λ k. length s2.calls < k) (sym room) (subst (λ (cs : List Done). length cs < s1.room.calls) (sym calls2) places.calls),
              tt,
              λ names. absurd names,
            )
