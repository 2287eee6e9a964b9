-- How a call that sets the guard ends.
use Rattle.trio_calls_file.proofs.Words.{◌<◌, ◌∙◌, ◌≡◌, ArePossible, Ask, Bool, Call, Done, DeskSeen, DoesCall, Err, Goes, Guard, InAllShown, IsAlike, IsOpenFile, IsReplied, LacksMemory, List, MatchResult, MayCall, NoMemory, Nodes, Ok, Path, Replied, Reply, Result, SessionSeen, Stop, Told, Unrefused, [], alike_room, ap, batch_nodes, done_by_bytes, in_hand, inl, is_directory, length, may_alike, noted, refl, spare_pages, subst, sym, try_ends, wants_pages_for, bytes_in, ℕ}
use Rattle.std.specs.Prelude.{drop}
use Rattle.trio_lease.specs.declared.parts.InoParts.{InoParts}
use Rattle.trio_nodes.specs.declared.call.Answer.TheVariants.{Done as IsDone}
use Rattle.trio_desk.specs.Edits.{TakesMore}
use Rattle.trio_desk.specs.Out.{ino_numbers}
use Rattle.trio_laws.specs.session.FileEdits.{with_guarded}
use Rattle.trio_session.specs.Layout.{body_guarded}
use Rattle.trio_session.specs.Seen.{body_in, home_in, set_guard}
use Rattle.trio_edit_laws.specs.Calls.{MayGoOn}
use Rattle.trio_edit_laws.specs.EditLaws.{GetsGuard}
use Rattle.trio_edit_laws.proofs.Guarding.{guard_shows}
use Rattle.trio_edit_laws.proofs.Noting.{may_noted as note_done}
use Rattle.trio_walk.proofs.Ways.{went_none}
use Rattle.trio_calls_file.proofs.AtFile.{no_pages}
use Rattle.trio_calls_file.proofs.Ends.{known}
use Rattle.trio_calls_file.proofs.Writes.{pages-with_body_at}

-- no other page is in place then, and no call is noted
spare-set_guard : (ino : ℕ) (on : Bool) (s : SessionSeen) → spare_pages (set_guard ino on s) ≡ spare_pages s
unfolding set_guard
spare-set_guard ino on s = ap (drop s.placed) (pages-with_body_at (home_in s ino) (body_guarded on (body_in s ino)) s.parcel)

calls-set_guard : (ino : ℕ) (on : Bool) (s : SessionSeen) → (set_guard ino on s).calls ≡ s.calls
unfolding set_guard
calls-set_guard ino on s = refl

module _ {D : Type 0} (called : D → Ask → Told → D → Type 0) (seen : D → DeskSeen) (d : D) (s : SessionSeen) (ino : ℕ) (path : Path) (on : Bool) (may : MayCall (seen d) s) (o : IsOpenFile s ino) (unrefused : Unrefused (seen d) s (Guard path on) ino) where
  abbrev call : Call
  call = Guard path on

  abbrev done : Done
  done = record { call = Guard path on; reply = IsReplied IsDone; made = 0 }

  abbrev then' : SessionSeen
  then' = set_guard ino on s

  e : GetsGuard (seen d) s (set_guard ino on s) ino on
  e = guard_shows (seen d) s ino on may.edits o

  goes_on : MayGoOn (seen d) s
  goes_on = record { edits = may.edits; comes = may.comes; made = may.made }

  does : InAllShown (seen d) s (λ now. DoesCall (seen d) (record { call = Guard path on; reply = IsReplied IsDone; made = 0 }) now (with_guarded ino on now))
  does nodes rows p =
      let now : Nodes = batch_nodes (seen d).creds s.calls nodes in
      let k = known (seen d) s call ino goes_on o unrefused nodes rows p in
      done_by_bytes (seen d) done now path ino k.rights (bytes_in s ino) refl k.walks k.there (ap is_directory k.regular) k.bytes k.checks refl refl

  -- with its note the session may go on
  may_then : MayCall (seen d) (noted (Guard path on) (IsReplied IsDone) 0 (set_guard ino on s))
  may_then =
      note_done (seen d) s then' done (with_guarded ino on) (calls-set_guard ino on s) (λ some. absurd (some refl)) may.comes may.made e.becomes.more e.becomes.shows e.may
      (ap (λ (l : List InoParts). ino_numbers l) e.others.inodes) (spare-set_guard ino on s ∙ may.spent) (e.others.numbers ∙ may.spent_numbers) does

  wants_none : InAllShown (seen d) s (λ now. wants_pages_for (seen d).creds (Guard path on) now ≡ [])
  wants_none nodes rows p = no_pages (seen d).creds (Guard path on) (batch_nodes (seen d).creds s.calls nodes) tt

  module _ (s' : SessionSeen) where
    -- it is set
    module _ (near : IsAlike (set_guard ino on s) s') (room : length s.calls < s'.room.calls) where
      more : TakesMore (seen d) (in_hand s) (in_hand s')
      more nodes rows p = e.becomes.more nodes rows (subst (λ (q : SessionSeen). ArePossible (seen d) q.parcel q.reads nodes rows) near p)

      calls : s'.calls ≡ s.calls
      calls = ap (λ (q : SessionSeen). q.calls) near ∙ calls-set_guard ino on s

      set_goes : Goes called seen d s (Guard path on) ino (wants_pages_for (seen d).creds (Guard path on)) (Replied (IsReplied IsDone)) d s'
      set_goes = record {
        given = [];
        last = [];
        passes = record { each = λ c i. absurd i; made = refl; calls = calls; same = record { lib = refl; creds = refl; sizes = refl; root = refl }; more = more };
        ends = refl;
        leaves = near;
        asks = λ nodes rows p. no_pages (seen d).creds (Guard path on) (batch_nodes (seen d).creds s'.calls nodes) tt;
        after = (
          may_alike (seen d) (noted call (IsReplied IsDone) 0 then') (noted call (IsReplied IsDone) 0 s') (ap (noted call (IsReplied IsDone) 0) near) may_then,
          subst (λ (cs : List Done). length cs < s'.room.calls) (sym calls) room,
          tt,
          λ b. absurd b,
        );
      }

    -- there is no memory for its note
    module _ (near : IsAlike s s') where
      short_goes : Goes called seen d s (Guard path on) ino (wants_pages_for (seen d).creds (Guard path on)) NoMemory d s'
      short_goes =
          let went = went_none called seen d s s' near in
          record {
            given = [];
            last = [];
            passes = went.passes;
            ends = inl refl;
            leaves = near;
            asks = λ nodes rows p. ([], no_pages (seen d).creds (Guard path on) (batch_nodes (seen d).creds s'.calls nodes) tt);
            after = may_alike (seen d) s s' near may;
          }

  pub guard_goes : (s' : SessionSeen) (result : Result Reply Stop)
      → MatchResult result (λ r. (r ≡ IsReplied IsDone) × IsAlike (set_guard ino on s) s' × (length s.calls < s'.room.calls)) (λ stop. (stop ≡ LacksMemory) × (s' ≡ record s { room = s'.room }))
      → Goes called seen d s (Guard path on) ino (wants_pages_for (seen d).creds (Guard path on)) (try_ends result) d s'
  guard_goes s' (Ok r) h = subst (λ x. Goes called seen d s (Guard path on) ino (wants_pages_for (seen d).creds (Guard path on)) (Replied x) d s') (sym h.0) (set_goes s' h.1 h.2)
  guard_goes s' (Err stop) h = subst (λ x. Goes called seen d s (Guard path on) ino (wants_pages_for (seen d).creds (Guard path on)) (try_ends (Err x)) d s') (sym h.0) (short_goes s' (alike_room s s' h.1))
