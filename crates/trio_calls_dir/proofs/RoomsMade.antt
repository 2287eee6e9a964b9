-- Room for one entry more of a directory: the whole.
use Rattle.trio_calls_dir.proofs.Words.{◌%◌, ◌+◌, ◌<◌, ◌∙◌, ◌≡◌, ◌≤◌, AllotFault, Allots, ArePossible, AreWithinLimits, Ask, Body, DeskSeen, Directory, Done, Err, HasNumbers, HasPlaces, HoldParts, In, IsAlike, IsOn, IsOpenDir, List, MadeFile, MadeRoom, MayCall, None, Ok, Result, Room, SessionSeen, Shown, Told, [], alike_room, alike_then, ap, arith, block_count, body_in, chain_in, empty_shown, eqb, eqb-true, find, grant_in, inr, is_some, length, map, may_alike, open_chain, refl, room_in, size_fits-body_of, size_in, slot_growth, spare_numbers, spare_pages, subst, sym, took, with_slot, ℕ, new_pages}
use Rattle.trio_nodes.specs.declared.answers.AllotFault.TheVariants.{NoMemory}
use Rattle.trio_desk.specs.Calls as desk_calls
use Rattle.trio_session.specs.Asked.{IsSame}
use Rattle.trio_session.specs.Seen.{LeavesPlace}
use Rattle.trio_session.proofs.Others.{slot_alike}
use Rattle.trio_edit_laws.specs.Allotting.{AllotEnds, Allotted, NamesStay}
use Rattle.trio_edit_laws.proofs.Alike.{go_on_alike, spare_alike}
use Rattle.trio_edit_laws.proofs.Allotting.{allotted, allotted_before, growth_files, names_room, names_then, numbers_still, room_files, spent_still, stood}
use Rattle.trio_edit_laws.proofs.WithSlot.{IsSlotted, slotted}
use Rattle.trio_edit_laws.proofs.directories.Stays.{grant-none, no_grant}
use Rattle.trio_deeds.specs.Slots.{MayAddSlot}

-- on what the session has nothing it has nothing still
grant_stays : (s s' : SessionSeen) (n : ℕ) → NamesStay s s' → grant_in s n ≡ None → grant_in s' n ≡ None
grant_stays s s' n y e =
    let x = no_grant s n e in
    grant-none s' n (y.opens n ∙ x.0) (ap (λ (l : List HoldParts). find (λ (h : HoldParts). eqb h.ino n) l) y.holds ∙ x.1) (ap (λ (l : List Shown). find (λ (f : Shown). eqb f.ino n) l) y.reads ∙ x.2)

-- there are places for one call done, for one file that is made, with so many blocks, and for so many blocks of a directory, with a block and
-- a name in its index
pub record Places (s : SessionSeen) (dir' blocks' new_blocks : ℕ) : Type 0 where
  pub calls : length s.calls < s.room.calls
  pub made : length s.made < s.room.made
  pub next : new_blocks ≤ s.room.next_blocks
  pub blocks : blocks' ≤ room_in s dir'
  pub slots : In dir' s.room.slots
  pub names : In dir' s.room.names

module _ {D : Type 0} (called : D → Ask → Told → D → Type 0) (seen : D → DeskSeen) (d : D) (s : SessionSeen) (dir numbers new_size : ℕ) (may : MayCall (seen d) s) (s1 : SessionSeen) (same : IsSame s s1) where
  abbrev pages : ℕ
  pages = slot_growth s dir + new_pages new_size

  -- no memory
  pub room_short : MadeRoom called seen d s dir numbers new_size (Err NoMemory) d s1
  room_short = record {
    given = [];
    last = [];
    wanted = stood called seen d s 0 0 d s1 may refl same;
    lent = refl;
    ends = (
      record { none = refl; ends = inr (refl, refl); spent = spent_still called seen d s 0 0 d s1 may same; spent_numbers = numbers_still called seen d s 0 0 d s1 may same },
      alike_room s s1 same,
      λ other. absurd (other refl),
    );
  }

  module _ (d' : D) (s2 : SessionSeen) (result : Result Unit AllotFault) (room : s2.room ≡ s1.room) (on : IsOn (seen d') s2) (allots : Allots called seen d s1 (slot_growth s dir + new_pages new_size) numbers result d' s2) where
    a1 : Allotted called seen d s1 (slot_growth s dir + new_pages new_size) numbers result d' s2
    a1 = allotted called seen d s1 pages numbers d' s2 (may_alike (seen d) s s1 (alike_room s s1 same) may) result on allots

    a : Allotted called seen d s (slot_growth s dir + new_pages new_size) numbers result d' s2
    a = allotted_before called seen d s s1 pages numbers result d' s2 same a1

    abbrev all : SessionSeen
    all = took s (map (λ (c : desk_calls.Call). c.told) a.given)

    calls_room : length s1.calls < s1.room.calls → length s2.calls < s2.room.calls
    calls_room places = subst (λ (r : Room). length s2.calls < r.calls) (sym room) (subst (λ (l : List Done). length l < s1.room.calls) (sym a1.wanted.calls) places)

    -- nothing was given
    pub room_lacked : length s1.calls < s1.room.calls → (fault : AllotFault) → result ≡ Err fault → MadeRoom called seen d s dir numbers new_size (Err fault) d' s2
    room_lacked places fault is = record {
      given = a.given;
      last = a.last;
      wanted = a.wanted;
      lent = a.lent s;
      ends = (subst (λ r. AllotEnds (seen d') (slot_growth s dir + new_pages new_size) numbers a.given a.last r s2) is a.ends, a.alike, λ other. calls_room places);
    }

    -- ---- all was given

    module _ (is : IsOpenDir s dir) (limits : AreWithinLimits (seen d).sizes) (size : ℕ) (size_is : size ≡ size_in (body_in s dir)) (few : size ≤ 33554432)
        (places : Places s1 dir (block_count size + 1) (block_count new_size)) (given_all : result ≡ Ok tt) where
      ends : AllotEnds (seen d') (slot_growth s dir + new_pages new_size) numbers a.given a.last (Ok tt) s2
      ends = subst (λ r. AllotEnds (seen d') (slot_growth s dir + new_pages new_size) numbers a.given a.last r s2) given_all a.ends

      open2 : IsOpenDir s2 dir
      open2 = record { directory = a.wanted.stays.opens dir ∙ is.directory; index = subst (λ l. In dir l) (sym a.wanted.stays.indexed) is.index }

      size2 : size ≡ size_in (body_in s2 dir)
      size2 = size_is ∙ ap size_in (sym (a.files.bodies dir Directory is.directory))

      whole : size_in (body_in s2 dir) % 4096 ≡ 0
      whole =
          let c = open_chain (seen d') s2 dir Directory a.wanted.may.edits open2.directory in
          ap (λ (b : Body). b.size % 4096) c.at ∙ eqb-true (c.body.size % 4096) 0 (size_fits-body_of Directory (seen d').sizes.range (body_in s2 dir) c.body c.read)

      count : block_count (size_in (body_in s2 dir)) ≡ length (chain_in s2 dir).blocks
      count = (open_chain (seen d') s2 dir Directory a.wanted.may.edits open2.directory).count

      pages_are : length (spare_pages s2) ≡ slot_growth s2 dir + new_pages new_size
      pages_are = ends.3 ∙ ap (λ n. n + new_pages new_size) (sym (growth_files s s2 a.files dir))

      pub may_add : MayAddSlot s2 dir size
      may_add = record {
        opens = open2;
        size = size2;
        few = few;
        whole = ap (λ n. n % 4096) size2 ∙ whole;
        count = ap block_count size2 ∙ count;
        pages = omega (arith, pages_are);
        room = subst (λ n. block_count size + 1 ≤ n) (sym (room_files s1 s2 a1.files room dir)) places.blocks;
        slots = subst (λ (r : Room). In dir r.slots) (sym room) places.slots;
      }

      module _ (s3 : SessionSeen) (kept : s3 ≡ record (with_slot dir s2) { room = s3.room }) (same_calls : s3.room.calls ≡ s2.room.calls) (names : In dir s2.room.names → In dir s3.room.names) (place : LeavesPlace s2 s3) (next : s3.room.next_blocks ≡ s2.room.next_blocks) where
        x : IsSlotted (seen d') s2 (with_slot dir s2) dir (new_pages new_size)
        x =
            slotted (seen d') s2 dir (new_pages new_size) (subst AreWithinLimits (sym a.wanted.same.sizes) limits) a.wanted.may ends.2 open2 (subst (λ n. n ≤ 33554432) size2 few) whole count pages_are

        alike3 : IsAlike (with_slot dir s2) s3
        alike3 = alike_room (with_slot dir s2) s3 kept

        names3 : NamesStay s2 s3
        names3 = names_then s2 (with_slot dir s2) s3 x.names (names_room (with_slot dir s2) s3 kept)

        spare3 : spare_numbers s3 ≡ spare_numbers s2
        spare3 = ap (λ (q : SessionSeen). spare_numbers q) alike3 ∙ x.numbers

        calls3 : s3.calls ≡ s2.calls
        calls3 = ap (λ (q : SessionSeen). q.calls) alike3 ∙ x.calls

        numbers3 : HasNumbers s3 numbers
        numbers3 = record {
          many = ap (λ (l : List ℕ). length l) spare3 ∙ ends.4.many;
          unlent = λ n i. grant_stays s2 s3 n names3 (ends.4.unlent n (subst (λ l. In n l) spare3 i));
        }

        places3 : HasPlaces s3 dir (block_count new_size)
        places3 = record {
          empty = ap (λ (q : SessionSeen). is_some (empty_shown q dir)) alike3 ∙ x.empty;
          calls = subst (λ n. length s3.calls < n) (sym same_calls) (subst (λ (l : List Done). length l < s2.room.calls) (sym calls3) (calls_room places.calls));
          made = place (subst (λ (r : Room). length s2.made < r.made) (sym room) (subst (λ (l : List MadeFile). length l < s1.room.made) (sym a1.files.made) places.made));
          next = subst (λ n. block_count new_size ≤ n) (sym (next ∙ ap (λ (r : Room). r.next_blocks) room)) places.next;
          names = names (subst (λ (r : Room). In dir r.names) (sym room) places.names);
        }

        pub room_made : MadeRoom called seen d s dir numbers new_size (Ok tt) d' s3
        room_made = record {
          given = a.given;
          last = a.last;
          wanted = record {
            each = a.wanted.each;
            made = a.wanted.made;
            calls = calls3 ∙ a.wanted.calls;
            same = a.wanted.same;
            more = λ nodes rows p. a.wanted.more nodes rows (x.more nodes rows (subst (λ (q : SessionSeen). ArePossible (seen d') q.parcel q.reads nodes rows) alike3 p));
            may = go_on_alike (seen d') (with_slot dir s2) s3 alike3 x.may;
            stays = names_then s s2 s3 a.wanted.stays names3;
          };
          lent = a.lent s;
          ends = (
            ends.0,
            ends.1,
            alike_then (with_slot dir all) (with_slot dir s2) s3 (slot_alike dir all s2 a.alike) alike3,
            ap (λ (q : SessionSeen). length (spare_pages q)) alike3 ∙ x.left,
            numbers3,
            places3,
            spare3 ∙ ap (λ (q : SessionSeen). spare_numbers q) a.alike,
            spare_alike (seen d') (with_slot dir s2) s3 alike3 x.spare,
          );
        }
