-- How a call that writes ends: with its edit and its note, or for want of room.
use Rattle.trio_calls_file.proofs.Words.{◌++◌, ◌+◌, ◌<◌, ◌∙◌, ◌∷◌, ◌≡◌, ◌≤◌, AfterTry, AllotFault, AreWithinLimits, Ask, AskedBy, Bool, Call, Count, DeskSeen, DoesCall, Done, Err, Goes, HasPlaces, HasRights, InAllShown, IsAlike, IsBytes, IsNotBusy, IsOpenFile, IsPlain, IsReplied, LeavesHere, List, MadeRoom, MayBeDone, MayCall, MayShow, NoMemory, NoSpace, Node, Nodes, None, NotGiven, Ok, Outcome, Path, Regular, Replied, Result, Rights, SessionSeen, Some, Told, Truncate, TryEnds, Unrefused, Write, [], alike_then, allot_asks, ap, append-nil, applied, arith, batch_nodes, block_count, body_in, both_then, bytes_in, chain_in, cond, done_by_bytes, edited, eqb, eqb-true, false, file_path, growth, growth_of, in_hand, inl, inr, is_done, largest_size, length, length-bytes_in, length-resized, map, mapped, max, new_length, node_at, noted, open_chain, option_map, path_of, put, put_at, refl, refusal, resized, rights_in, room_in, sees_bytes, shown_by, size_in, sized, spare_numbers, spare_pages, subst, sym, took, true, try_ends, walk, walked_growth, wanted_pages, wants_pages_for, with_content, ℕ, is_directory}
use Rattle.std.proofs.lemmas.Bool.{true≢false}
use Rattle.trio_lease.specs.declared.parts.InoParts.{InoParts}
use Rattle.trio_nodes.specs.declared.call.Answer.{Answer}
use Rattle.trio_nodes.specs.declared.call.Answer.TheVariants.{Done as IsDone}
use Rattle.trio_nodes.specs.declared.answers.AllotFault.TheVariants.{NoInodes as NoFreeInodes, NoPages, NoMemory as NoAllotMemory}
use Rattle.trio_nodes.specs.Apply.{wants_pages}
use Rattle.trio_desk.specs.Call.{Allot}
use Rattle.trio_desk.specs.Calls as desk_calls
use Rattle.trio_desk.specs.Edits.{TakesMore}
use Rattle.trio_desk.specs.Out.{ino_numbers}
use Rattle.trio_laws.specs.session.FileCalls.{answer_of, changed_by}
use Rattle.trio_laws.proofs.session.FileCalls.{refused_for_room}
use Rattle.trio_walk.specs.Tries.{allot_reply}
use Rattle.trio_edit_laws.specs.Allotting.{AllotEnds, IsUngiven}
use Rattle.trio_edit_laws.specs.Calls.{MayGoOn}
use Rattle.trio_edit_laws.proofs.Allotting.{asks_fault, asks_short, told_fault}
use Rattle.trio_edit_laws.proofs.WithSlot.{no_length}
use Rattle.trio_calls_file.proofs.AfterTaking.{edited_alike}
use Rattle.trio_calls_file.proofs.Looked.{may_looked}
use Rattle.trio_calls_file.proofs.Writes.{Edits, edits_none, edits_put, edits_sized}
use Rattle.trio_walk.proofs.Then.{short_ends}
use Rattle.trio_edit_laws.proofs.Noting.{may_noted as note_done}

-- ---- a call that changes the bytes of a file

-- It goes to the file at its path, and makes these bytes of those that the file has.
pub record IsWriting (call' : Call) (new' : List ℕ → List ℕ) (answer' : Answer) : Type 0 where
  pub path : file_path call' ≡ Some (path_of call')
  pub wants : wants_pages call' ≡ true
  pub change : (ino : ℕ) (old : List ℕ) (nodes : Nodes) → changed_by call' ino old nodes ≡ with_content ino (new' old) nodes
  pub answers : (r : Rights) (old : List ℕ) (size : ℕ) → answer_of r old size call' ≡ answer'
  pub plain : IsPlain (IsReplied answer')
  pub unread : IsBytes (IsReplied answer') → ⊥

-- what is known of its file, in nodes that are shown: nothing refuses the call, and the node has the bytes that the session reads
pub record IsKnown (desk : DeskSeen) (s : SessionSeen) (call' : Call) (ino' : ℕ) (now : Nodes) : Type 0 where
  pub walks : walk now desk.creds [] (path_of call') ≡ Ok ino'
  pub rights : Rights
  pub there : HasRights rights (node_at now ino')
  pub regular : rights.kind ≡ Regular
  pub checks : refusal desk.creds rights call' ≡ None
  pub bytes : option_map (λ (x : Node). x.bytes) (node_at now ino') ≡ Some (bytes_in s ino')

-- as long as what is in hand is possible
pub known : (desk : DeskSeen) (s : SessionSeen) (call : Call) (ino : ℕ) → MayGoOn desk s → IsOpenFile s ino → Unrefused desk s call ino → InAllShown desk s (λ now. IsKnown desk s call ino now)
known desk s call ino may o unrefused nodes rows p =
    let now : Nodes = batch_nodes desk.creds s.calls nodes in
    let u = unrefused nodes rows p in
    let shown : MayShow desk (in_hand s) (in_hand s) nodes now rows = shown_by desk (in_hand s) (in_hand s) s.calls nodes rows (λ n r q. q) may.comes p in
    let sees = sees_bytes desk s ino Regular nodes now rows may.edits o refl shown in
    let same : u.rights ≡ rights_in Regular (body_in s ino) = (let t : Some u.rights ≡ Some (rights_in Regular (body_in s ino)) = sym u.there ∙ sees.0 in cc t) in
    record { walks = u.walks; rights = u.rights; there = u.there; regular = ap (λ (r : Rights). r.kind) same; checks = u.checks; bytes = sees.1 }

module _ (desk : DeskSeen) (s : SessionSeen) (call : Call) (new : List ℕ → List ℕ) (answer : Answer) (ino : ℕ) (may : MayGoOn desk s) (o : IsOpenFile s ino) (writing : IsWriting call new answer) (unrefused : Unrefused desk s call ino) where
  abbrev done : Done
  done = record { call = call; reply = IsReplied answer; made = 0 }

  -- the call does to them what it should
  does : (now : Nodes) → IsKnown desk s call ino now → DoesCall desk (record { call = call; reply = IsReplied answer; made = 0 }) now (changed_by call ino (bytes_in s ino) now)
  does now k =
      done_by_bytes desk done now (path_of call) ino k.rights (bytes_in s ino) writing.path k.walks k.there (ap is_directory k.regular) k.bytes k.checks
      (ap IsReplied (sym (writing.answers k.rights (bytes_in s ino) (length (bytes_in s ino))))) refl

  would : (now : Nodes) → IsKnown desk s call ino now → is_done (applied now desk.creds call 0).reply ≡ true
  would now k = elim (does now k).0 [ inl a ↦ sym (ap is_done a.0) | inr lack ↦ absurd lack.0 ]

  -- the pages that it wants, by the size of the body
  wants_growth : (now : Nodes) → IsKnown desk s call ino now → wanted_pages now desk.creds call ≡ growth (block_count (size_in (body_in s ino))) (block_count (new_length call (size_in (body_in s ino))))
  wants_growth now k =
      let x = mapped (λ (z : Node). z.bytes) (node_at now ino) (bytes_in s ino) k.bytes in
      let many : length x.0.bytes ≡ size_in (body_in s ino) = ap (λ (l : List ℕ). length l) x.2 ∙ length-bytes_in desk s ino may.edits o in
      ap (λ t. cond t (walked_growth now call (walk now desk.creds [] (path_of call))) 0) (would now k)
      ∙ ap (walked_growth now call) k.walks
      ∙ ap (growth_of call) x.1
      ∙ ap (λ n. growth (block_count n) (block_count (new_length call n))) many

  -- and so in each later moment
  pub asks_growth : (t : SessionSeen) → TakesMore desk (in_hand s) (in_hand t) → t.calls ≡ s.calls
      → InAllShown desk t (λ now. wanted_pages now desk.creds call ≡ growth (block_count (size_in (body_in s ino))) (block_count (new_length call (size_in (body_in s ino)))))
  asks_growth t more calls nodes rows p =
      subst (λ (cs : List Done). wanted_pages (batch_nodes desk.creds cs nodes) desk.creds call ≡ growth (block_count (size_in (body_in s ino))) (block_count (new_length call (size_in (body_in s ino))))) (sym calls)
      (wants_growth (batch_nodes desk.creds s.calls nodes) (known desk s call ino may o unrefused nodes rows (more nodes rows p)))

  -- ---- the end

  -- with its edit and its note the session may go on
  pub may_noted : spare_numbers s ≡ [] → (t : SessionSeen) → Edits desk s t ino (new (bytes_in s ino)) → MayCall desk (noted call (IsReplied answer) 0 t)
  may_noted numbers t e =
      note_done desk s t done (with_content ino (new (bytes_in s ino))) e.calls (λ some. absurd (some refl)) may.comes may.made e.becomes.more e.becomes.shows e.may (ap (λ (l : List InoParts). ino_numbers l) e.inodes) e.spent (e.numbers ∙ numbers)
      (λ nodes rows p.
      let now : Nodes = batch_nodes desk.creds s.calls nodes in
      let it = does now (known desk s call ino may o unrefused nodes rows p) in
      (it.0, it.1, it.2 ∙ writing.change ino (bytes_in s ino) now))

  -- so it may with the note that there is no room
  pub may_lacking : (wanted free : ℕ) → free < wanted → spare_pages s ≡ [] → spare_numbers s ≡ [] → MayCall desk (noted call (NoSpace wanted free) 0 s)
  may_lacking wanted free less spent numbers =
      may_looked desk s call (NoSpace wanted free) (record { edits = may.edits; comes = may.comes; made = may.made; spent = spent; spent_numbers = numbers })
      (λ nodes rows p.
      let k = known desk s call ino may o unrefused nodes rows p in
      refused_for_room desk (record { call = call; reply = NoSpace wanted free; made = 0 }) (batch_nodes desk.creds s.calls nodes) (path_of call) ino k.rights wanted free
      writing.path writing.wants k.walks k.there k.checks refl less refl)

-- ---- what is known after room was made

module _ {D : Type 0} (called : D → Ask → Told → D → Type 0) (seen : D → DeskSeen) (d : D) (s : SessionSeen) (ino old size : ℕ) (result : Result Unit AllotFault) (d' : D) (s1 : SessionSeen)
    (o : IsOpenFile s ino) (old_is : old ≡ size_in (body_in s ino)) (room : MadeRoom called seen d s ino old size result d' s1) where
  pub open_room : IsOpenFile s1 ino
  open_room = room.wanted.stays.opens ino ∙ o

  pub old_room : old ≡ size_in (body_in s1 ino)
  old_room = old_is ∙ sym (ap size_in (room.files.bodies ino Regular o))

  module _ (is : result ≡ Ok tt) where
    ends_room : AllotEnds (seen d') (growth (block_count old) (block_count size)) 0 room.given room.last (Ok tt) s1
    ends_room = subst (λ r. AllotEnds (seen d') (growth (block_count old) (block_count size)) 0 room.given room.last r s1) is room.ends

    places_room : HasPlaces s1 ino (block_count size)
    places_room = room.places (λ other. (let wrong : Ok tt ≡ Err NoAllotMemory = sym is ∙ other in absurd (cc wrong)))

    many_room : length (spare_pages s1) ≡ growth (block_count (size_in (body_in s1 ino))) (block_count size)
    many_room = ends_room.3 ∙ ap (λ n. growth (block_count n) (block_count size)) old_room

    pub pages_room : growth (length (chain_in s1 ino).blocks) (block_count size) ≤ length (spare_pages s1)
    pages_room =
        let count = (open_chain (seen d') s1 ino Regular room.wanted.may.edits open_room).count in
        let same : length (spare_pages s1) ≡ growth (length (chain_in s1 ino).blocks) (block_count size) = many_room ∙ ap (λ n. growth n (block_count size)) count in
        omega (arith, same)

    pub blocks_room : block_count size ≤ room_in s1 ino
    blocks_room = places_room.blocks

    pub calls_room : (t : SessionSeen) → t.calls ≡ s1.calls → t.room.calls ≡ s1.room.calls → length t.calls < t.room.calls
    calls_room t calls places =
        subst (λ n. length t.calls < n) (sym places) (subst (λ (cs : List Done). length cs < s1.room.calls) (sym calls) places_room.calls)

    module _ (limits : AreWithinLimits (seen d).sizes) where
      limits_room : AreWithinLimits (seen d').sizes
      limits_room = subst AreWithinLimits (sym room.wanted.same.sizes) limits

      pub edits_room : size ≤ largest_size → Edits (seen d') s1 (sized ino size s1) ino (resized size (bytes_in s1 ino))
      edits_room largest = edits_sized (seen d') s1 ino room.wanted.may.edits open_room size limits_room ends_room.2 largest many_room

      pub size_room : size ≤ largest_size → size_in (body_in (sized ino size s1) ino) ≡ size
      size_room largest = (edits_room largest).size ∙ length-resized size (bytes_in s1 ino)

      pub none_room : size ≤ largest_size → size ≡ old → Edits (seen d') s1 s1 ino (bytes_in s1 ino)
      none_room largest e = edits_none (seen d') s1 ino room.wanted.may.edits open_room size limits_room ends_room.2 largest many_room (e ∙ old_room)

      pub put_room : (at : ℕ) (bytes : List ℕ) → eqb (length bytes) 0 ≡ false → at + length bytes ≤ largest_size → old ≤ largest_size → size ≡ max old (at + length bytes)
          → Edits (seen d') s1 (put ino at bytes (sized ino size s1)) ino (put_at at bytes (bytes_in s1 ino))
      put_room at [] some largest old_largest e = absurd (true≢false some)
      put_room at (b ∷ bs) some largest old_largest e =
          let is_max : size ≡ max (size_in (body_in s1 ino)) (at + length (b ∷ bs)) = e ∙ ap (λ n. max n (at + length (b ∷ bs))) old_room in
          subst (λ n. Edits (seen d') s1 (put ino at (b ∷ bs) (sized ino n s1)) ino (put_at at (b ∷ bs) (bytes_in s1 ino))) (sym is_max)
          (edits_put (seen d') s1 ino room.wanted.may.edits open_room limits_room ends_room.2 at b bs largest (subst (λ n. n ≤ largest_size) old_room old_largest)
          (many_room ∙ ap (λ n. growth (block_count (size_in (body_in s1 ino))) (block_count n)) is_max))

-- the size of a file after a write
pub size_some : (count old at size : ℕ) → size ≡ cond (eqb count 0) old (max old (at + count)) → eqb count 0 ≡ false → size ≡ max old (at + count)
size_some count old at size e some = e ∙ ap (λ t. cond t old (max old (at + count))) some

pub size_none : (count old at size : ℕ) → size ≡ cond (eqb count 0) old (max old (at + count)) → eqb count 0 ≡ true → size ≡ old
size_none count old at size e none = e ∙ ap (λ t. cond t old (max old (at + count))) none

pub size_within : (count old at size : ℕ) → size ≡ cond (eqb count 0) old (max old (at + count)) → old ≤ largest_size → at + count ≤ largest_size → size ≤ largest_size
size_within count old at size e old_largest largest = subst (λ n. n ≤ largest_size) (sym e) (by (eqb count 0))
  where
    by : (t : Bool) → cond t old (max old (at + count)) ≤ largest_size
    by true = old_largest
    by false = omega (arith, old_largest, largest)

-- a write of no bytes makes none of those that the file has others
pub put_at-none : (at : ℕ) (bytes old : List ℕ) → eqb (length bytes) 0 ≡ true → put_at at bytes old ≡ old
put_at-none at [] old none = refl
put_at-none at (b ∷ bs) old none = absurd (let e = eqb-true (length (b ∷ bs)) 0 none in omega (arith, e))

-- it is never busy
pub idle_fault : (fault : AllotFault) → IsNotBusy (try_ends (allot_reply fault))
idle_fault (NoPages wanted free) = tt
idle_fault (NoFreeInodes wanted free) = tt
idle_fault NoAllotMemory = tt

-- ---- a call that writes, after room was made

module _ {D : Type 0} (called : D → Ask → Told → D → Type 0) (seen : D → DeskSeen) (d : D) (s : SessionSeen) (call : Call) (new : List ℕ → List ℕ) (answer : Answer) (ino old size : ℕ) (result : Result Unit AllotFault) (d' : D) (s1 : SessionSeen)
    (o : IsOpenFile s ino) (writing : IsWriting call new answer) (old_is : old ≡ size_in (body_in s ino)) (size_is : new_length call old ≡ size) (room : MadeRoom called seen d s ino old size result d' s1) where
  opens : IsOpenFile s1 ino
  opens = open_room called seen d s ino old size result d' s1 o old_is room

  growth_is : growth (block_count (size_in (body_in s1 ino))) (block_count (new_length call (size_in (body_in s1 ino)))) ≡ growth (block_count old) (block_count size)
  growth_is =
      ap (λ n. growth (block_count n) (block_count (new_length call n))) (sym (old_room called seen d s ino old size result d' s1 o old_is room)) ∙ ap (λ n. growth (block_count old) (block_count n)) size_is

  module _ (unrefused : Unrefused (seen d) s call ino) where
    unrefused_room : Unrefused (seen d') s1 call ino
    unrefused_room =
        subst (λ k. InAllShown (seen d') s1 (MayBeDone k call ino)) (sym room.wanted.same.creds)
        (both_then (seen d) (seen d') s s1 (λ nodes now. MayBeDone (seen d).creds call ino now) room.wanted.same room.wanted.more room.wanted.calls unrefused)

    asked : (t : SessionSeen) → TakesMore (seen d') (in_hand s1) (in_hand t) → t.calls ≡ s1.calls
        → InAllShown (seen d') t (λ now. allot_asks (wanted_pages now (seen d).creds call) 0 ≡ allot_asks (growth (block_count old) (block_count size)) 0)
    asked t more calls nodes rows p =
        ap (λ n. allot_asks n 0)
        (subst (λ k. wanted_pages (batch_nodes (seen d').creds t.calls nodes) k call ≡ growth (block_count old) (block_count size)) room.wanted.same.creds
        (asks_growth (seen d') s1 call new answer ino room.wanted.may opens writing unrefused_room t more calls nodes rows p ∙ growth_is))

    -- it is done
    pub goes_done : result ≡ Ok tt → (t : SessionSeen) → Edits (seen d') s1 t ino (new (bytes_in s1 ino)) → IsAlike (edited call ino s1) t → length t.calls < t.room.calls
        → Goes called seen d s call ino (wants_pages_for (seen d).creds call) (Replied (IsReplied answer)) d' t
    goes_done is t e alike places =
        let ends = subst (λ r. AllotEnds (seen d') (growth (block_count old) (block_count size)) 0 room.given room.last r s1) is room.ends in
        record {
          given = room.given;
          last = room.last;
          passes = record { each = room.wanted.each; made = room.wanted.made; calls = e.calls ∙ room.wanted.calls; same = room.wanted.same; more = λ nodes rows p. room.wanted.more nodes rows (e.becomes.more nodes rows p) };
          ends = ends.0;
          leaves =
              alike_then (edited call ino (took s (map (λ c. c.told) room.given))) (edited call ino s1) t
              (edited_alike call ino (took s (map (λ c. c.told) room.given)) s1 room.alike) alike;
          asks = λ nodes rows p.
              asked t e.becomes.more e.calls nodes rows p ∙ ends.1 ∙ sym (ap (λ (l : List desk_calls.Call). map (λ c. c.ask) (room.given ++ l)) ends.0 ∙ ap (map (λ c. c.ask)) (append-nil room.given));
          after = (
            may_noted (seen d') s1 call new answer ino room.wanted.may opens writing unrefused_room (no_length (spare_numbers s1) ends.4.many) t e,
            places,
            writing.plain,
            λ b. absurd (writing.unread b),
          );
        }

    -- there is no room for it, or no memory
    pub goes_fault : (fault : AllotFault) → result ≡ Err fault → Goes called seen d s call ino (wants_pages_for (seen d).creds call) (try_ends (allot_reply fault)) d' s1
    goes_fault fault is = by fault is (subst (λ r. AllotEnds (seen d') (growth (block_count old) (block_count size)) 0 room.given room.last r s1) is room.ends)
      where
        pages : ℕ
        pages = growth (block_count old) (block_count size)

        asks_here : InAllShown (seen d') s1 (λ now. allot_asks (wanted_pages now (seen d).creds call) 0 ≡ allot_asks (growth (block_count old) (block_count size)) 0)
        asks_here nodes rows p = asked s1 (λ n r q. q) refl nodes rows p

        goes_by : (end : Outcome) → TryEnds end room.last → LeavesHere call ino (took s (map (λ (c : desk_calls.Call). c.told) room.given)) end s1
            → InAllShown (seen d') s1 (λ now. AskedBy end (map (λ (c : desk_calls.Call). c.ask) (room.given ++ room.last)) (wants_pages_for (seen d).creds call now)) → AfterTry (seen d') call end s1
            → Goes called seen d s call ino (wants_pages_for (seen d).creds call) end d' s1
        goes_by end ends leaves asks after = record {
          given = room.given;
          last = room.last;
          passes = record { each = room.wanted.each; made = room.wanted.made; calls = room.wanted.calls; same = room.wanted.same; more = room.wanted.more };
          ends = ends;
          leaves = leaves;
          asks = asks;
          after = after;
        }

        by : (f : AllotFault) → result ≡ Err f → IsUngiven (growth (block_count old) (block_count size)) 0 f room.given room.last s1
            → Goes called seen d s call ino (wants_pages_for (seen d).creds call) (try_ends (allot_reply f)) d' s1
        by (NoPages wanted free) is x =
            let told = told_fault pages 0 room.given room.last s1 (NoPages wanted free) x (λ e. absurd (cc e)) in
            goes_by (Replied (NoSpace wanted free)) (0, told.told ∙ ap (λ n. record { ask = Allot n 0; told = NotGiven (NoPages wanted free) } ∷ []) (sym told.lack.0)) room.alike
            (λ nodes rows p. asks_here nodes rows p ∙ asks_fault pages 0 room.given room.last s1 (NoPages wanted free) x.none told) (
              may_lacking (seen d') s1 call new answer ino room.wanted.may opens writing unrefused_room wanted free told.lack.1 x.spent x.spent_numbers,
              (room.places (λ other. (let wrong : Err (NoPages wanted free) ≡ Err NoAllotMemory = sym is ∙ other in absurd (cc wrong)))).calls,
              tt,
              λ b. absurd b,
            )
        by (NoFreeInodes wanted free) is x =
            let lack = (told_fault pages 0 room.given room.last s1 (NoFreeInodes wanted free) x (λ e. absurd (cc e))).lack in
            let none = lack.0 in
            let less = lack.1 in
            absurd (omega (arith, none, less))
        by NoAllotMemory is x =
            let m = room.wanted.may in
            let rest = asks_short pages 0 room.given room.last s1 x in
            goes_by NoMemory (short_ends pages 0 room.last (elim x.ends [ inl told ↦ inl told.told | inr none ↦ inr none.0 ])) room.alike (λ nodes rows p. (rest.0, asks_here nodes rows p ∙ rest.1))
            (record { edits = m.edits; comes = m.comes; made = m.made; spent = x.spent; spent_numbers = x.spent_numbers })

-- ---- the calls

pub writes_bytes : (path : Path) (at : ℕ) (bytes : List ℕ) → IsWriting (Write path at bytes) (put_at at bytes) (Count (length bytes))
writes_bytes path at bytes = record { path = refl; wants = refl; change = λ ino old nodes. refl; answers = λ r old size. refl; plain = tt; unread = λ b. b }

pub writes_size : (path : Path) (size : ℕ) → IsWriting (Truncate path size) (resized size) IsDone
writes_size path size = record { path = refl; wants = refl; change = λ ino old nodes. refl; answers = λ r old n. refl; plain = tt; unread = λ b. b }
