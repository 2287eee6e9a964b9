-- A file gets another name in its directory.
use Rattle.trio_calls_dir.proofs.Words.{◌++◌, ◌<◌, ◌∙◌, ◌≡◌, ArePossible, Ask, Bool, Call, Changes, ComesBy, ComesTo, Creds, DeskSeen, DoesCall, Done, EntryPart, Err, Goes, InAllShown, IsAcross, IsAlike, IsDone, IsFound, IsFree, IsRename, IsReplied, IsTree, LacksMemory, List, MatchResult, MayCall, Met, Nodes, Ok, Option, Path, Place, Rename, Replied, Result, Row, SessionSeen, Some, StaysTree, Stop, Target, Told, [], alike_room, alike_then, allot_asks, ap, applied, asked, batch_nodes, both_dirs, cond, dir_of, done_is_tree, edited, eqb, false, grant_ask, is_done, is_some, length, made_by, map, may_alike, moved, moving_needs, name_of, noted, number_made, refl, retitle, served_by, slot_growth, subst, sym, tree_stays_through, true, try_ends, walk_into, wants_of, with_changed, write_paths, ℕ}
use Rattle.trio_walk.proofs.Ways.{passes_by}
use Rattle.std.proofs.Common.{eq-eqb}
use Rattle.trio_edit_laws.specs.session.SlotEdits.{retitled}
use Rattle.trio_laws.proofs.session.DirCalls.{retitles_entry}
use Rattle.trio_edit_laws.specs.DirLaws.{LeavesRetitled}
use Rattle.trio_edit_laws.proofs.directories.Retitled.{retitle_leaves, retitle_shows}
use Rattle.trio_calls_dir.specs.declared.replies.Replied as replied
use Rattle.trio_calls_dir.proofs.EditDone.{as_done, may_done}
use Rattle.trio_calls_dir.proofs.Ends.{lacks}
use Rattle.trio_calls_dir.proofs.MovesFound.{stays_needs}
use Rattle.trio_calls_dir.proofs.MovesWalk.{writes_are}
use Rattle.trio_calls_dir.proofs.Possible.{possible_retitle}
use Rattle.trio_calls_dir.proofs.Then.{edited_alike}
use Rattle.trio_calls_dir.proofs.TreeAlike.{changed_alike, tree_alike}

module _ (desk : DeskSeen) (s : SessionSeen) (call : Call) (from to : Path) (dir : ℕ) (file : Met) (r : IsRename call from to) (a : IsAcross desk s call from to dir dir) (f : IsFound desk s from dir file) (free : IsFree desk s to dir) where
  abbrev place : Place
  place = f.entry.0

  abbrev entry : EntryPart
  entry = f.entry.1

  abbrev change : Nodes → Nodes
  change = with_changed f.entry.1.ino (retitled (name_of to))

  does : InAllShown desk s (λ now. DoesCall desk (record { call = call; reply = IsReplied IsDone; made = 0 }) now (with_changed f.entry.1.ino (retitled (name_of to)) now))
  does nodes rows p =
      retitles_entry desk (as_done call) (batch_nodes desk.creds s.calls nodes) from to dir f.entry.1.ino (a.comes nodes rows p) (f.named nodes rows p ∙ ap Some f.entry.4) (free.named nodes rows p) refl refl

  stays : StaysTree desk s (retitle dir (name_of from) (name_of to) s) (with_changed f.entry.1.ino (retitled (name_of to)))
  stays nodes nodes' rows shows =
      let p = possible_retitle desk s dir (name_of from) (name_of to) f.entry.0 f.entry.1 f.entry.2 f.entry.3 nodes rows shows.possible in
      let was = a.may.comes nodes rows p in
      let now : Nodes = batch_nodes desk.creds s.calls nodes in
      let tree : IsTree now = tree_stays_through nodes desk.creds s.calls p.tree was.0 in
      let then' : IsTree (change now) = done_is_tree desk (as_done call) now (change now) tree (does nodes rows p) in
      tree_alike (change now) (change nodes') (changed_alike now nodes' (λ n. was.1.each n ∙ sym (shows.shows.each n)) f.entry.1.ino (retitled (name_of to))) then'

  changes : Changes desk s (retitle dir (name_of from) (name_of to) s) (with_changed f.entry.1.ino (retitled (name_of to)))
  changes = retitle_shows desk s dir f.entry.0 f.entry.1 (name_of from) (name_of to) a.may.edits a.opens f.entry.2 f.entry.3 free.place free.name stays

  left : LeavesRetitled s (retitle dir (name_of from) (name_of to) s) dir f.entry.0 (record f.entry.1 { name = name_of to })
  left = retitle_leaves desk s dir f.entry.0 f.entry.1 (name_of from) (name_of to) a.may.edits a.opens f.entry.2 f.entry.3 free.place free.name

  pub calls_are : (retitle dir (name_of from) (name_of to) s).calls ≡ s.calls
  calls_are = ap (λ (q : SessionSeen). q.calls) left.files.same

  may_noted : MayCall desk (noted call (IsReplied IsDone) 0 (retitle dir (name_of from) (name_of to) s))
  may_noted = may_done desk s (retitle dir (name_of from) (name_of to) s) call (with_changed f.entry.1.ino (retitled (name_of to))) a.may changes calls_are left.files.pages left.numbers left.files.inodes does

-- ---- the end of the try

eqb-same : (n : ℕ) → eqb n n ≡ true
eqb-same n = eq-eqb n n refl

-- a name that is changed once there is room for it
pub retitled_alike : (s s1 s2 : SessionSeen) (dir : ℕ) (from to : Path) (old new : List ℕ) → s1 ≡ record s { room = s1.room } → old ≡ name_of from → new ≡ name_of to → s2 ≡ record (retitle dir old new s1) { room = s2.room }
    → IsAlike (retitle dir (name_of from) (name_of to) s) s2
retitled_alike s s1 s2 dir from to old new first is_old is_new kept =
    alike_then (retitle dir (name_of from) (name_of to) s) (retitle dir (name_of from) (name_of to) s1) s2
    (by (eqb-same dir) (edited_alike s.creds (Rename from to) (record { dir = dir; new_dir = dir; ino = 0 }) s s1 (alike_room s s1 first)))
    (alike_room (retitle dir (name_of from) (name_of to) s1) s2
    (subst (λ (z : List ℕ). s2 ≡ record (retitle dir (name_of from) z s1) { room = s2.room }) is_new (subst (λ (z : List ℕ). s2 ≡ record (retitle dir z new s1) { room = s2.room }) is_old kept)))
  where
    t : Target
    t = record { dir = dir; new_dir = dir; ino = 0 }

    by : eqb dir dir ≡ true → IsAlike (edited s.creds (Rename from to) t s) (edited s.creds (Rename from to) t s1) → IsAlike (retitle dir (name_of from) (name_of to) s) (retitle dir (name_of from) (name_of to) s1)
    by e h =
        subst (λ b. IsAlike (cond b (retitle dir (name_of from) (name_of to) s) (moved from to t s)) (cond b (retitle dir (name_of from) (name_of to) s1) (moved from to t s1))) e h

module _ {D : Type 0} (called : D → Ask → Told → D → Type 0) (seen : D → DeskSeen) (d : D) (s : SessionSeen) (call : Call) (from to : Path) (dir : ℕ) (file : Met) (r : IsRename call from to) (a : IsAcross (seen d) s call from to dir dir)
    (f : IsFound (seen d) s from dir file) (free : IsFree (seen d) s to dir) where
  abbrev target : Target
  target = record { dir = dir; new_dir = dir; ino = file.ino }

  edited_is : (creds : Creds) → edited creds call (record { dir = dir; new_dir = dir; ino = file.ino }) s ≡ retitle dir (name_of from) (name_of to) s
  edited_is creds =
      ap (λ (c : Call). edited creds c (record { dir = dir; new_dir = dir; ino = file.ino }) s) r.on
      ∙ ap (λ b. cond b (retitle dir (name_of from) (name_of to) s) (moved from to (record { dir = dir; new_dir = dir; ino = file.ino }) s)) (eqb-same dir)

  wants_none : (now : Nodes) (creds : Creds) → wants_of now creds call (record { dir = dir; new_dir = dir; ino = file.ino }) s ≡ []
  wants_none now creds =
      ap (λ (c : Call). wants_of now creds c (record { dir = dir; new_dir = dir; ino = file.ino }) s) r.on
      ∙ ap (λ b. cond (is_done (applied now creds (Rename from to) 0).reply) (allot_asks (cond b 0 (slot_growth s dir)) 0) []) (eqb-same dir)
      ∙ both (is_done (applied now creds (Rename from to) 0).reply)
    where
      both : (b : Bool) → cond {A = List Ask} b [] [] ≡ []
      both true = refl
      both false = refl

  module _ (s3 : SessionSeen) (near : IsAlike (retitle dir (name_of from) (name_of to) s) s3) (room : length s.calls < s3.room.calls) where
    calls3 : s3.calls ≡ s.calls
    calls3 = ap (λ (q : SessionSeen). q.calls) near ∙ calls_are (seen d) s call from to dir file r a f free

    back3 : (nodes : Nodes) (rows : List (Option Row)) → ArePossible (seen d) s3.parcel s3.reads nodes rows → ArePossible (seen d) s.parcel s.reads nodes rows
    back3 nodes rows p = (changes (seen d) s call from to dir file r a f free).becomes.more nodes rows (subst (λ (q : SessionSeen). ArePossible (seen d) q.parcel q.reads nodes rows) near p)

    over3 : (P : Nodes → Type 0) → InAllShown (seen d) s P → InAllShown (seen d) s3 P
    over3 P h nodes rows p = subst (λ (cs : List Done). P (batch_nodes (seen d).creds cs nodes)) (sym calls3) (h nodes rows (back3 nodes rows p))

    none_needed : InAllShown (seen d) s (λ now. moving_needs now from to dir dir ≡ [])
    none_needed nodes rows p =
        stays_needs (batch_nodes (seen d).creds s.calls nodes) from to dir dir file.ino (f.named nodes rows p) false (ap is_some (free.named nodes rows p)) (λ no. eqb-same dir)

    done_goes : Goes called seen d s call (λ now. moving_needs now from to dir dir) (Replied (IsReplied IsDone)) 0 d s3
    done_goes = record {
      target = target;
      given = [];
      last = [];
      passes = passes_by called seen d s s3 calls3 back3;
      ends = refl;
      leaves = subst (λ (q : SessionSeen). IsAlike q s3) (sym (edited_is (seen d).creds)) near;
      numbered = sym (ap (λ (c : Call). made_by c s) r.on);
      comes =
          over3 (λ now. ComesBy (Replied (IsReplied IsDone)) target now (seen d).creds call)
          (λ nodes rows p h.
          let now : Nodes = batch_nodes (seen d).creds s.calls nodes in
          let c = a.comes nodes rows p in
          let enters : (path : Path) → walk_into now (seen d).creds (both_dirs from to) path ≡ walk_into now (seen d).creds (write_paths call) path = λ path. ap (λ ws. walk_into now (seen d).creds ws path) (sym (writes_are call from to r)) in
          subst (λ (k : Call). ComesTo target now (seen d).creds k) (sym r.on) (enters (dir_of from) ∙ c.out, enters (dir_of to) ∙ c.into, f.named nodes rows p));
      asks = λ nodes rows p.
          let now : Nodes = batch_nodes (seen d).creds s3.calls nodes in
          ap (λ l. map grant_ask (asked (served_by s) l) ++ wants_of now (seen d).creds call target s) (over3 (λ n. moving_needs n from to dir dir ≡ []) none_needed nodes rows p)
          ∙ wants_none now (seen d).creds;
      after = (
        may_alike (seen d) (noted call (IsReplied IsDone) 0 (retitle dir (name_of from) (name_of to) s)) (noted call (IsReplied IsDone) 0 s3) (ap (noted call (IsReplied IsDone) 0) near)
            (may_noted (seen d) s call from to dir file r a f free),
        subst (λ (cs : List Done). length cs < s3.room.calls) (sym calls3) room,
        tt,
        λ n. absurd n,
      );
    }

  pub retitled_goes : (s3 : SessionSeen) (result : Result replied.Replied Stop)
      → MatchResult result
      (λ r. (r ≡ record { reply = IsReplied IsDone; made = 0 }) × IsAlike (retitle dir (name_of from) (name_of to) s) s3 × (length s.calls < s3.room.calls))
      (λ stop. (stop ≡ LacksMemory) × (s3 ≡ record s { room = s3.room }))
      → Goes called seen d s call (λ now. moving_needs now from to dir dir) (try_ends result) (number_made result) d s3
  retitled_goes s3 (Ok q) e = subst (λ (x : replied.Replied). Goes called seen d s call (λ now. moving_needs now from to dir dir) (Replied x.reply) x.made d s3) (sym e.0) (done_goes s3 e.1 e.2)
  retitled_goes s3 (Err stop) e = subst (λ x. Goes called seen d s call (λ now. moving_needs now from to dir dir) (try_ends (Err x)) 0 d s3) (sym e.0) (lacks called seen d s s3 call (λ now. moving_needs now from to dir dir) a.may e.1)

-- so it goes where both directories are one
pub same_goes : {D : Type 0} (called : D → Ask → Told → D → Type 0) (seen : D → DeskSeen) (d : D) (s : SessionSeen) (call : Call) (from to : Path) (dir new_dir : ℕ) (file : Met) → dir ≡ new_dir → IsRename call from to
    → IsAcross (seen d) s call from to dir new_dir → IsFound (seen d) s from dir file → IsFree (seen d) s to new_dir → (s3 : SessionSeen) (result : Result replied.Replied Stop)
    → MatchResult result
    (λ r. (r ≡ record { reply = IsReplied IsDone; made = 0 }) × IsAlike (retitle dir (name_of from) (name_of to) s) s3 × (length s.calls < s3.room.calls))
    (λ stop. (stop ≡ LacksMemory) × (s3 ≡ record s { room = s3.room }))
    → Goes called seen d s call (λ now. moving_needs now from to dir new_dir) (try_ends result) (number_made result) d s3
same_goes called seen d s call from to dir new_dir file same r a f free s3 result e =
    subst (λ n. IsAcross (seen d) s call from to dir n → IsFree (seen d) s to n → Goes called seen d s call (λ now. moving_needs now from to dir n) (try_ends result) (number_made result) d s3) same
    (λ a' free'. retitled_goes called seen d s call from to dir file r a' f free' s3 result e) a free
