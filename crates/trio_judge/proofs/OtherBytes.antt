-- A room made for a case is one for the case with other bytes in a page, and for the case with touched blocks.
use Rattle.trio_judge.proofs.Words.{◌∙◌, ◌≡◌, AreFound, Bundled, CaseShown, In, KeepRights, LentFile, Lists, MatchOption, Met, OwningFails, RightsFail, Starts, Walk, Written, [], ap, case_in, files_of, map, numbers, own_numbers, refl, row_in, sorted-map, sorted_by, subst, sym, writes_directory, writes_of, written_files, written_in, written_met}
use Rattle.trio_lease.specs.Places.{with_bytes}
use Rattle.trio_judge.specs.Judging.{IsJudgeRoom}
use Rattle.trio_judge.specs.Laws.{RoomStaysTouched, RoomStaysWithBytes}
use Rattle.trio_judge.specs.declared.verdict.Room.{Room}
use Rattle.trio_case.proofs.OtherBytes.{Alike, alike, alike_touched, lists_alike, pages_alike, touched}
use Rattle.trio_judge.proofs.Starting.{directory_lent, mets_of, written_number}

module _ (k : CaseShown) (b' : Bundled) (a : Alike k.bundle b') where
  abbrev other : CaseShown
  other = record k { bundle = b' }

  writes_same : map (λ (x : Written). x.ino) (case_in other).bundle.writes ≡ map (λ (x : Written). x.ino) (case_in k).bundle.writes
  writes_same = rw (writes_of other, writes_of k, a.files) refl

  own_same : own_numbers (case_in other) ≡ own_numbers (case_in k)
  own_same = rw (writes_of other, writes_of k, a.files, a.inodes) refl

  directory_same : writes_directory (case_in other) ≡ writes_directory (case_in k)
  directory_same = directory_lent other ∙ lists_alike k.bundle b' a ∙ sym (directory_lent k)

  sorted_mets : (c : CaseShown) → written_files (case_in c) ≡ sorted_by (λ (m : Met). m.ino) (map (λ (f : LentFile). written_met (case_in c) (written_in f.stands)) c.bundle.writes)
  sorted_mets c =
      sorted-map (written_met (case_in c)) (λ (w : Written). w.ino) (λ (m : Met). m.ino) (λ w. written_number w (row_in c.rows w.ino)) (case_in c).bundle.writes ∙ ap (sorted_by (λ (m : Met). m.ino)) (sym (mets_of c))

  files_same : written_files (case_in other) ≡ written_files (case_in k)
  files_same = sorted_mets other ∙ ap (sorted_by (λ (m : Met). m.ino)) (a.mets k.rows) ∙ sym (sorted_mets k)

  starts_still : (w : Walk) → Starts (case_in k) w → Starts (case_in other) w
  starts_still w s =
      let l : Lists (case_in k) [] [] w = subst (λ o. MatchOption o (Lists (case_in k) [] [] w) (OwningFails (case_in k) [] [])) s.owning s.passed.listed in
      record {
        queued = record { inside = s.queued.inside; queued = ap (λ ms. record { passed = []; level = ms }) files_same ∙ s.queued.queued };
        passed = record {
          read = refl;
          grammar = refl;
          listed = subst (λ o. MatchOption o (Lists (case_in other) [] [] w) (OwningFails (case_in other) [] [])) (sym s.owning) (record {
            owns = record { pages = refl; pages_once = refl; entries = refl; entries_once = refl };
            rights = subst (λ o. MatchOption o (KeepRights (case_in other) [] []) (RightsFail (case_in other) [] [])) (sym s.rights) (record { files = refl; entries = refl });
            listing = rw a.holds l.listing;
            pages = rw a.pages l.pages;
          });
        };
        ready = record {
          fit = λ n i. s.ready.fit n (subst (In n) own_same i);
          once = s.ready.once;
          own = λ n i. subst (In n) (sym own_same) (s.ready.own n i);
          written = λ n i. s.ready.written n (subst (In n) writes_same i);
          found = subst (λ own. AreFound own w.found.items (numbers (files_of w))) (sym own_same) s.ready.found;
          lists = λ m i e. directory_same ∙ s.ready.lists m i e;
          places = rw own_same s.ready.places;
          pages = rw a.pages s.ready.pages;
          room = record {
            files = rw own_same s.ready.room.files;
            index = rw a.pages s.ready.room.index;
            blocks = rw a.pages s.ready.room.blocks;
            entries = λ lists. rw a.pages (s.ready.room.entries (sym directory_same ∙ lists));
          };
        };
        owning = s.owning;
        rights = s.rights;
      }

-- a room made for a case is one for a case with a bundle that is alike
room_alike : (k : CaseShown) (b' : Bundled) → Alike k.bundle b' → (room : Room) → IsJudgeRoom k room → IsJudgeRoom (record k { bundle = b' }) room
room_alike k b' a room h = record {
  pages = pages_alike k b' a room.pages h.pages;
  walk = starts_still k b' a room.walk h.walk;
  heads = rw a.pages h.heads;
}

-- so it is one for the case with other bytes in a page
pub room_still : RoomStaysWithBytes
room_still k number bytes room h =
    room_alike k (with_bytes k.bundle number bytes) (alike k.bundle number bytes) room h

-- and for the case with touched blocks
pub room_touched : RoomStaysTouched
room_touched k room h = room_alike k (touched k.bundle) (alike_touched k.bundle) room h
