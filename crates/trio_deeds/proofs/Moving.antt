-- A file is put into a slot of another directory.
use Rattle.std.proofs.Common.{◌≡◌, ◌<◌, ℕ, List, length, Some, true, sym, ap, ◌∙◌, subst}
use Rattle.trio_rights.specs.declared.kind.Kind.{Kind}
use Rattle.trio_session.specs.Asked.{IsAlike}
use Rattle.trio_session.specs.Deeds.{moved_shown}
use Rattle.trio_session.specs.Seen.{MayBeMade, SessionSeen, clear, fill, is_allotted}
use Rattle.trio_session.proofs.Alike.{alike_room, alike_then}
use Rattle.trio_session.proofs.Others.{fill_alike}
use Rattle.trio_deeds.specs.Slots.{BringsMade, MayPut}

module _ (s s1 : SessionSeen) (dir new_dir ino : ℕ) (old new : List ℕ) (may : MayPut s old new dir new_dir ino) (kept : s1 ≡ record (clear dir old s) { room = s1.room }) where
  -- what was made comes with it
  pub brings : (kind : Kind) (body : List ℕ) → moved_shown s ino ≡ Some (kind, body) → length s1.made < s1.room.made → is_allotted s1 ino ≡ true → MayBeMade s1 ino kind body
  brings kind body takes place allotted =
      let b : BringsMade (clear dir old s) ino kind body = may.made kind body takes (sym (ap (λ (q : SessionSeen). is_allotted q ino) kept) ∙ allotted) in
      subst (λ (q : SessionSeen). length q.made < q.room.made → MayBeMade q ino kind body) (sym kept)
      (λ l. record { nothing = b.nothing; same = b.same; blocks = b.blocks; whole = b.whole; place = l }) place

  pub moved_alike : (s2 : SessionSeen) (kind : Kind) (body : List ℕ) → s2 ≡ record (fill new_dir new ino kind body s1) { room = s2.room } → IsAlike (fill new_dir new ino kind body (clear dir old s)) s2
  moved_alike s2 kind body put =
      alike_then (fill new_dir new ino kind body (clear dir old s)) (fill new_dir new ino kind body s1) s2
      (fill_alike new_dir new ino kind body (clear dir old s) s1 (alike_room (clear dir old s) s1 kept))
      (alike_room (fill new_dir new ino kind body s1) s2 put)
