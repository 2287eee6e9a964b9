-- Room for an edit of a file: places, and pages.
use Rattle.trio_calls_file.proofs.Words.{◌<◌, ◌≡◌, ◌≤◌, AllotFault, Allots, Ask, DeskSeen, Done, Err, HasPlaces, IsOn, List, MadeRoom, MayCall, Result, SessionSeen, Told, [], alike_room, block_count, growth, inr, length, may_alike, refl, subst, sym, ℕ}
use Rattle.trio_nodes.specs.declared.answers.AllotFault.TheVariants.{NoMemory}
use Rattle.trio_session.specs.Asked.{IsSame}
use Rattle.trio_session.specs.Seen.{Room}
use Rattle.trio_edit_laws.specs.Allotting.{Allotted}
use Rattle.trio_edit_laws.proofs.Allotting.{allotted, allotted_before, files_room, numbers_still, room_files, spent_still, stood}

module _ {D : Type 0} (called : D → Ask → Told → D → Type 0) (seen : D → DeskSeen) (d : D) (s : SessionSeen) (ino old size : ℕ) (s1 : SessionSeen) (may : MayCall (seen d) s) (e : IsSame s s1) where
  abbrev pages : ℕ
  pages = growth (block_count old) (block_count size)

  -- there was no memory for the places
  pub room_short : MadeRoom called seen d s ino old size (Err NoMemory) d s1
  room_short = record {
    given = [];
    last = [];
    wanted = stood called seen d s pages 0 d s1 may refl e;
    alike = alike_room s s1 e;
    files = files_room s s1 e;
    ends = record { none = refl; ends = inr (refl, refl); spent = spent_still called seen d s pages 0 d s1 may e; spent_numbers = numbers_still called seen d s pages 0 d s1 may e };
    places = λ other. absurd (other refl);
  }

  -- there are places
  pub room_made : HasPlaces s1 ino (block_count size) → (result : Result Unit AllotFault) (d' : D) (s' : SessionSeen) → s'.room ≡ s1.room → IsOn (seen d') s'
      → Allots called seen d s1 (growth (block_count old) (block_count size)) 0 result d' s' → MadeRoom called seen d s ino old size result d' s'
  room_made places result d' s' room on allots =
      let a1 : Allotted called seen d s1 pages 0 result d' s' = allotted called seen d s1 pages 0 d' s' (may_alike (seen d) s s1 (alike_room s s1 e) may) result on allots in
      let a : Allotted called seen d s pages 0 result d' s' = allotted_before called seen d s s1 pages 0 result d' s' e a1 in
      record {
        given = a.given;
        last = a.last;
        wanted = a.wanted;
        alike = a.alike;
        files = a.files;
        ends = a.ends;
        places = λ other. record {
          calls = subst (λ (r : Room). length s'.calls < r.calls) (sym room) (subst (λ (l : List Done). length l < s1.room.calls) (sym a1.wanted.calls) places.calls);
          blocks = subst (λ n. block_count size ≤ n) (sym (room_files s1 s' a1.files room ino)) places.blocks;
        };
      }
