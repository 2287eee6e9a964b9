-- What is done at the file that is taken.
use Rattle.trio_calls_file.proofs.Words.{size_in, ◌<◌, ◌∙◌, ◌≡◌, ArePossible, Ask, Bool, Bytes, Call, ComesHere, Denied, DeskSeen, Directory, DoesCall, Goes, HasMet, InAllShown, IsFileCall, IsHad, IsOpenFile, IsReplied, Kind, LacksMemory, List, MatchResult, MayCall, Met, Nodes, None, Option, Outcome, Path, Read, ReadGrant, Regular, Reply, Result, Rights, Row, SessionSeen, Shown, Some, Stat, Stop, ToRead, Told, Unrefused, WriteGrant, [], ap, batch_nodes, body_had, bytes_had, checked, cond, done_by_bytes, drop, entries_counted, false, false≢true, gives, grant_for, is_directory, is_some, kind_shown, length, node_at, not, open_kind, option_map, pages_shown, path_of, read_file, refl, refusal, refused_by_check, rights_in, rights_of, serves, subst, sym, take, true, try_ends, wants_pages_for, ℕ, Readlink, HasRights, ◌⊎◌, inl, inr, kind_cases}
use Rattle.std.specs.Option.{option_or}
use Rattle.trio_nodes.specs.declared.call.Answer.TheVariants.{Stat as IsStat}
use Rattle.trio_laws.proofs.session.FileCalls.{stats_directory}
use Rattle.trio_calls_file.specs.inner.Goes.{bytes_reply, stat_reply, text_reply}
use Rattle.trio_deeds.specs.Reads.{size_had}
use Rattle.trio_calls_file.proofs.AtFile.{no_pages, text_link, write_regular}
use Rattle.trio_calls_file.proofs.Checking.{file_unrefused}
use Rattle.trio_calls_file.proofs.Contents.{HadHere, had_count, had_here, had_length}
use Rattle.trio_calls_file.proofs.Looked.{IsLook, look_goes, read_look, refused_look, text_look}
use Rattle.trio_walk.proofs.Ways.{went_none}

-- a regular file that is taken for writing is open
pub open_served : (s : SessionSeen) (ino : ℕ) → serves s ino WriteGrant ≡ true → kind_shown s ino ≡ Some Regular → IsOpenFile s ino
open_served s ino served kind = by (open_kind s ino) refl
  where
    by : (o : Option Kind) → open_kind s ino ≡ o → IsOpenFile s ino
    by (Some k) e = (let same : Some k ≡ Some Regular = sym (ap (λ (q : Option Kind). option_or q (option_map (λ (f : Shown). f.kind) (read_file s ino))) e) ∙ kind in e ∙ same)
    by None e = absurd (false≢true (sym (ap (λ (q : Option Kind). is_some q) e) ∙ served))

module _ {D : Type 0} (called : D → Ask → Told → D → Type 0) (seen : D → DeskSeen) (d : D) (s : SessionSeen) (m : Met) (may : MayCall (seen d) s) (met : HasMet (seen d) s m) (had : IsHad s m.ino) where
  -- ---- edits

  -- no check refuses a call that writes
  pub write_unrefused : (call : Call) → IsFileCall call → ComesHere (seen d) s (path_of call) m.ino → checked (seen d).creds m call ≡ None → grant_for call ≡ WriteGrant → Unrefused (seen d) s call m.ino
  write_unrefused call file comes unchecked writes nodes rows p =
      file_unrefused (seen d) s call m may met comes file nodes rows p (ap is_directory (write_regular (seen d).creds m call file writes unchecked)) unchecked

  -- it is open
  pub write_open : (call call' : Call) → call ≡ call' → IsFileCall call → checked (seen d).creds m call ≡ None → grant_for call' ≡ WriteGrant → serves s m.ino (grant_for call) ≡ true → kind_shown s m.ino ≡ Some m.kind → IsOpenFile s m.ino
  write_open call call' e file unchecked writes served kind =
      let w : grant_for call ≡ WriteGrant = ap grant_for e ∙ writes in
      open_served s m.ino (subst (λ k. serves s m.ino k ≡ true) w served) (kind ∙ ap Some (write_regular (seen d).creds m call file w unchecked))

  pub edit_goes : (call call' : Call) → call ≡ call' → IsFileCall call → ComesHere (seen d) s (path_of call) m.ino → checked (seen d).creds m call ≡ None → grant_for call' ≡ WriteGrant
      → (end : Outcome) (d' : D) (s' : SessionSeen) → (Unrefused (seen d) s call' m.ino → Goes called seen d s call' m.ino (wants_pages_for (seen d).creds call') end d' s')
      → Goes called seen d s call m.ino (wants_pages_for (seen d).creds call) end d' s'
  edit_goes call call' e file comes unchecked writes end d' s' goes =
      let un : Unrefused (seen d) s call m.ino = write_unrefused call file comes unchecked (ap grant_for e ∙ writes) in
      subst (λ (k : Call). Goes called seen d s k m.ino (wants_pages_for (seen d).creds k) end d' s') (sym e) (goes (subst (λ (k : Call). Unrefused (seen d) s k m.ino) e un))

  -- ---- bytes that are read

  -- what is seen of the file where no check refuses a call
  record SeesHere (call' : Call) (now : Nodes) : Type 0 where
    rights : Rights
    there : HasRights rights (node_at now m.ino)
    file : is_directory rights.kind ≡ false
    bytes : option_map (λ x. x.bytes) (node_at now m.ino) ≡ Some (bytes_had s m.ino)
    checks : refusal (seen d).creds rights call' ≡ None

  sees_here : (call : Call) → IsFileCall call → ComesHere (seen d) s (path_of call) m.ino → checked (seen d).creds m call ≡ None → serves s m.ino ReadGrant ≡ true → is_directory m.kind ≡ false → InAllShown (seen d) s (SeesHere call)
  sees_here call file comes unchecked served no_directory nodes rows p =
      let t = met.1.met nodes rows p in
      let b = file_unrefused (seen d) s call m may met comes file nodes rows p no_directory unchecked in
      let same : Some (rights_of t.after) ≡ Some b.rights = sym (ap (option_map rights_of) t.there_now) ∙ b.there in
      let rights : rights_of t.after ≡ b.rights = cc same in
      let h = had_here (seen d) s may m.ino nodes rows p m.kind t.after t.there_now t.kind served in
      record {
        rights = b.rights;
        there = b.there;
        file = ap (λ (r : Rights). is_directory r.kind) (sym rights) ∙ ap is_directory t.kind ∙ no_directory;
        bytes = h.bytes no_directory;
        checks = b.checks;
      }

  -- ---- a read

  module _ (path : Path) (at len : ℕ) (comes : ComesHere (seen d) s path m.ino) (file : IsFileCall (Read path at len)) (unchecked : checked (seen d).creds m (Read path at len) ≡ None) (served : serves s m.ino ReadGrant ≡ true) (regular : m.kind ≡ Regular) where
    read_does : InAllShown (seen d) s (λ now. DoesCall (seen d) (record { call = Read path at len; reply = IsReplied (Bytes (take len (drop at (bytes_had s m.ino)))); made = 0 }) now now)
    read_does nodes rows p =
        let now : Nodes = batch_nodes (seen d).creds s.calls nodes in
        let b = sees_here (Read path at len) file comes unchecked served (ap is_directory regular) nodes rows p in
        done_by_bytes (seen d) (record { call = Read path at len; reply = IsReplied (Bytes (take len (drop at (bytes_had s m.ino)))); made = 0 }) now path m.ino b.rights (bytes_had s m.ino) refl (comes nodes rows p) b.there b.file b.bytes b.checks
        refl refl

    pub read_goes : (s' : SessionSeen) → s' ≡ record s { room = s'.room } → (result : Result Reply Stop)
        → MatchResult result (λ r. (r ≡ bytes_reply s m.ino at len) × (length s'.calls < s'.room.calls)) (λ stop. stop ≡ LacksMemory)
        → Goes called seen d s (Read path at len) m.ino (wants_pages_for (seen d).creds (Read path at len)) (try_ends result) d s'
    read_goes s' kept result ends =
        look_goes called seen d s (Read path at len) m.ino (wants_pages_for (seen d).creds (Read path at len)) [] d s s' (went_none called seen d s s refl) may
        (λ nodes rows p. no_pages (seen d).creds (Read path at len) (batch_nodes (seen d).creds s.calls nodes) tt)
        (bytes_reply s m.ino at len) (read_look path at len (take len (drop at (bytes_had s m.ino)))) read_does kept result ends

  -- ---- a link's text

  module _ (path : Path) (comes : ComesHere (seen d) s path m.ino) (unchecked : checked (seen d).creds m (Readlink path) ≡ None) (served : serves s m.ino ReadGrant ≡ true) where
    text_does : InAllShown (seen d) s (λ now. DoesCall (seen d) (record { call = Readlink path; reply = IsReplied (Bytes (bytes_had s m.ino)); made = 0 }) now now)
    text_does nodes rows p =
        let now : Nodes = batch_nodes (seen d).creds s.calls nodes in
        let b = sees_here (Readlink path) tt comes unchecked served (ap is_directory (text_link (seen d).creds m path unchecked)) nodes rows p in
        done_by_bytes (seen d) (record { call = Readlink path; reply = IsReplied (Bytes (bytes_had s m.ino)); made = 0 }) now path m.ino b.rights (bytes_had s m.ino) refl (comes nodes rows p) b.there b.file b.bytes b.checks refl refl

    pub text_goes : (s' : SessionSeen) → s' ≡ record s { room = s'.room } → (result : Result Reply Stop)
        → MatchResult result (λ r. (r ≡ text_reply s m.ino) × (length s'.calls < s'.room.calls)) (λ stop. stop ≡ LacksMemory)
        → Goes called seen d s (Readlink path) m.ino (wants_pages_for (seen d).creds (Readlink path)) (try_ends result) d s'
    text_goes s' kept result ends =
        look_goes called seen d s (Readlink path) m.ino (wants_pages_for (seen d).creds (Readlink path)) [] d s s' (went_none called seen d s s refl) may
        (λ nodes rows p. no_pages (seen d).creds (Readlink path) (batch_nodes (seen d).creds s.calls nodes) tt)
        (text_reply s m.ino) (text_look path (bytes_had s m.ino)) text_does kept result ends

  -- ---- a stat

  module _ (path : Path) (comes : ComesHere (seen d) s path m.ino) (served : serves s m.ino ReadGrant ≡ true) where
    abbrev r : Rights
    r = rights_in m.kind (body_had s m.ino)

    stat_look : (g : Bool) (size : ℕ) → IsLook (Stat path) (cond g (IsReplied (IsStat r.kind r.mode r.uid r.gid size)) Denied)
    stat_look true size = record { ends = refl; leaves = λ ino x s' e. e; plain = tt; reads = λ b. absurd b }
    stat_look false size = refused_look (Stat path) Denied tt

    module _ (nodes : Nodes) (rows : List (Option Row)) (p : ArePossible (seen d) s.parcel s.reads nodes rows) where
      here : HadHere s m.ino m.kind (node_at (batch_nodes (seen d).creds s.calls nodes) m.ino)
      here =
          let t = met.1.met nodes rows p in
          had_here (seen d) s may m.ino nodes rows p m.kind t.after t.there_now t.kind served

      allowed : gives (seen d).creds ToRead r ≡ true → refusal (seen d).creds r (Stat path) ≡ None
      allowed g = ap (λ b. cond (not b) (Some Denied) None) g

      by_kind : gives (seen d).creds ToRead (rights_in m.kind (body_had s m.ino)) ≡ true → (m.kind ≡ Directory) ⊎ (is_directory m.kind ≡ false)
          → DoesCall (seen d) (record { call = Stat path; reply = IsReplied (IsStat m.kind (rights_in m.kind (body_had s m.ino)).mode (rights_in m.kind (body_had s m.ino)).uid (rights_in m.kind (body_had s m.ino)).gid (size_had s m.ino m.kind)); made = 0 })
          (batch_nodes (seen d).creds s.calls nodes) (batch_nodes (seen d).creds s.calls nodes)
      by_kind g (inr e) =
          let size : size_had s m.ino m.kind ≡ length (bytes_had s m.ino) = ap (λ d. cond d (entries_counted (pages_shown s m.ino)) (size_in (body_had s m.ino))) e ∙ sym (had_length s m.ino had) in
          done_by_bytes (seen d) (record { call = Stat path; reply = IsReplied (IsStat r.kind r.mode r.uid r.gid (size_had s m.ino m.kind)); made = 0 }) (batch_nodes (seen d).creds s.calls nodes) path m.ino r (bytes_had s m.ino)
          refl (comes nodes rows p) here.rights e (here.bytes e) (allowed g) (ap (λ n. IsReplied (IsStat r.kind r.mode r.uid r.gid n)) size) refl
      by_kind g (inl e) =
          let size : size_had s m.ino m.kind ≡ entries_counted (pages_shown s m.ino) = ap (size_had s m.ino) e in
          stats_directory (seen d) (record { call = Stat path; reply = IsReplied (IsStat r.kind r.mode r.uid r.gid (size_had s m.ino m.kind)); made = 0 }) (batch_nodes (seen d).creds s.calls nodes) path m.ino r (entries_counted (pages_shown s m.ino))
          refl (comes nodes rows p) here.rights (ap is_directory e) (had_count (seen d) s may m.ino nodes rows p (subst (λ k. HadHere s m.ino k (node_at (batch_nodes (seen d).creds s.calls nodes) m.ino)) e here) served) (allowed g)
          (ap (λ n. IsReplied (IsStat r.kind r.mode r.uid r.gid n)) size) refl

      by_gives : (g : Bool) → gives (seen d).creds ToRead (rights_in m.kind (body_had s m.ino)) ≡ g
          → DoesCall (seen d) (record { call = Stat path; reply = cond g (IsReplied (IsStat m.kind (rights_in m.kind (body_had s m.ino)).mode (rights_in m.kind (body_had s m.ino)).uid (rights_in m.kind (body_had s m.ino)).gid (size_had s m.ino m.kind))) Denied; made = 0 })
          (batch_nodes (seen d).creds s.calls nodes) (batch_nodes (seen d).creds s.calls nodes)
      by_gives true g = by_kind g (kind_cases m.kind)
      by_gives false g =
          refused_by_check (seen d) (record { call = Stat path; reply = Denied; made = 0 }) (batch_nodes (seen d).creds s.calls nodes) path m.ino r refl (comes nodes rows p) here.rights (ap (λ b. cond (not b) (Some Denied) None) g) refl

    pub stat_goes : (s' : SessionSeen) → s' ≡ record s { room = s'.room } → (result : Result Reply Stop)
        → MatchResult result (λ x. (x ≡ stat_reply (seen d).creds s m.ino m.kind) × (length s'.calls < s'.room.calls)) (λ stop. stop ≡ LacksMemory)
        → Goes called seen d s (Stat path) m.ino (wants_pages_for (seen d).creds (Stat path)) (try_ends result) d s'
    stat_goes s' kept result ends =
        look_goes called seen d s (Stat path) m.ino (wants_pages_for (seen d).creds (Stat path)) [] d s s' (went_none called seen d s s refl) may
        (λ nodes rows p. no_pages (seen d).creds (Stat path) (batch_nodes (seen d).creds s.calls nodes) tt)
        (stat_reply (seen d).creds s m.ino m.kind) (stat_look (gives (seen d).creds ToRead (rights_in m.kind (body_had s m.ino))) (size_had s m.ino m.kind))
        (λ nodes rows p. by_gives nodes rows p (gives (seen d).creds ToRead (rights_in m.kind (body_had s m.ino))) refl) kept result ends
