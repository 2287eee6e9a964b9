-- A call that looks or is refused, and its note.
use Rattle.trio_calls_file.proofs.Words.{◌++◌, ◌<◌, ◌∙◌, ◌≡◌, Ask, Bytes, Call, Denied, DeskSeen, DoesCall, Err, Exists, Goes, InAllShown, IntoItself, IsAlike, IsBytes, IsDir, IsPlain, IsRead, IsReplied, LacksMemory, LeavesHere, List, MatchResult, MayCall, NoInodes, NoMemory, NoSpace, Nodes, NotDir, NotEmpty, NotFound, Ok, Read, Replied, Reply, Result, SessionSeen, Stop, Told, TooLarge, TryEnds, Went, [], alike_room, ap, append-nil, applied, false, inl, inr, is_done, length, map, may_alike, noted, refl, subst, sym, took, try_ends, ℕ, IsLink, NotLink, Readlink}
use Rattle.trio_nodes.specs.Apply.{Apply}
use Rattle.trio_nodes.specs.After.{call_nodes}
use Rattle.trio_desk.specs.Calls as desk_calls
use Rattle.trio_calls_file.proofs.Alike.{both_alike}
use Rattle.trio_walk.proofs.Ways.{went_alike}
use Rattle.trio_edit_laws.proofs.Noting.{may_looked as note_look}

-- ---- the note

-- with a look that is noted the session may go on
pub may_looked : (desk : DeskSeen) (s : SessionSeen) (call : Call) (reply : Reply) → MayCall desk s → InAllShown desk s (λ now. DoesCall desk (record { call = call; reply = reply; made = 0 }) now now) → MayCall desk (noted call reply 0 s)
may_looked desk s call reply may does = note_look desk s (record { call = call; reply = reply; made = 0 }) refl may does

-- ---- replies that edit nothing

-- a reply of a call that looks, or of a refusal by the tree
pub record IsLook (call : Call) (reply : Reply) : Type 0 where
  pub ends : TryEnds (Replied reply) []
  pub leaves : (ino : ℕ) (x s' : SessionSeen) → IsAlike x s' → LeavesHere call ino x (Replied reply) s'
  pub plain : IsPlain reply
  pub reads : IsBytes reply → IsRead call

-- the refusals of checks
abbrev pub IsRefused : Reply → Type 0
IsRefused NotFound = Unit {0}
IsRefused NotDir = Unit {0}
IsRefused IsDir = Unit {0}
IsRefused Denied = Unit {0}
IsRefused TooLarge = Unit {0}
IsRefused IsLink = Unit {0}
IsRefused NotLink = Unit {0}
IsRefused reply = ⊥

pub refused_look : (call : Call) (reply : Reply) → IsRefused reply → IsLook call reply
refused_look call NotFound r = record { ends = refl; leaves = λ ino x s' e. e; plain = tt; reads = λ b. absurd b }
refused_look call NotDir r = record { ends = refl; leaves = λ ino x s' e. e; plain = tt; reads = λ b. absurd b }
refused_look call IsDir r = record { ends = refl; leaves = λ ino x s' e. e; plain = tt; reads = λ b. absurd b }
refused_look call Denied r = record { ends = inl refl; leaves = λ ino x s' e. e; plain = tt; reads = λ b. absurd b }
refused_look call TooLarge r = record { ends = refl; leaves = λ ino x s' e. e; plain = tt; reads = λ b. absurd b }
refused_look call IsLink r = record { ends = refl; leaves = λ ino x s' e. e; plain = tt; reads = λ b. absurd b }
refused_look call NotLink r = record { ends = refl; leaves = λ ino x s' e. e; plain = tt; reads = λ b. absurd b }
refused_look call (IsReplied answer) r = absurd r
refused_look call Exists r = absurd r
refused_look call NotEmpty r = absurd r
refused_look call IntoItself r = absurd r
refused_look call (NoSpace w f) r = absurd r
refused_look call (NoInodes w f) r = absurd r

-- a call that a check refuses isn't done
pub refused_undone : (desk : DeskSeen) (call : Call) (reply : Reply) (now : Nodes) → IsRefused reply → DoesCall desk (record { call = call; reply = reply; made = 0 }) now now → is_done (applied now desk.creds call 0).reply ≡ false
refused_undone desk call reply now r does = by reply (call_nodes desk.creds now (record { call = call; reply = reply; made = 0 })) r does.0
  where
    by : (x : Reply) (after : Nodes) → IsRefused x → Apply now desk.creds call 0 x after → is_done (applied now desk.creds call 0).reply ≡ false
    by NotFound after q (inl a) = sym (ap is_done a.0)
    by NotDir after q (inl a) = sym (ap is_done a.0)
    by IsDir after q (inl a) = sym (ap is_done a.0)
    by Denied after q (inl a) = sym (ap is_done a.0)
    by TooLarge after q (inl a) = sym (ap is_done a.0)
    by IsLink after q (inl a) = sym (ap is_done a.0)
    by NotLink after q (inl a) = sym (ap is_done a.0)
    by NotFound after q (inr a) = absurd a.0
    by NotDir after q (inr a) = absurd a.0
    by IsDir after q (inr a) = absurd a.0
    by Denied after q (inr a) = absurd a.0
    by TooLarge after q (inr a) = absurd a.0
    by IsLink after q (inr a) = absurd a.0
    by NotLink after q (inr a) = absurd a.0
    by (IsReplied answer) after q a = absurd q
    by Exists after q a = absurd q
    by NotEmpty after q a = absurd q
    by IntoItself after q a = absurd q
    by (NoSpace w f) after q a = absurd q
    by (NoInodes w f) after q a = absurd q

pub read_look : (path : List (List ℕ)) (at len : ℕ) (bytes : List ℕ) → IsLook (Read path at len) (IsReplied (Bytes bytes))
read_look path at len bytes = record { ends = refl; leaves = λ ino x s' e. e; plain = tt; reads = λ b. tt }

pub text_look : (path : List (List ℕ)) (bytes : List ℕ) → IsLook (Readlink path) (IsReplied (Bytes bytes))
text_look path bytes = record { ends = refl; leaves = λ ino x s' e. e; plain = tt; reads = λ b. tt }

-- ---- the end of a look

module _ {D : Type 0} (called : D → Ask → Told → D → Type 0) (seen : D → DeskSeen) (d : D) (s : SessionSeen) (call : Call) (ino : ℕ) (wants : Nodes → List Ask) (given : List desk_calls.Call) (d' : D) (s' : SessionSeen) (went : Went called seen d s given [] d' s') (may : MayCall (seen d') s')
    (asks : InAllShown (seen d') s' (λ now. wants now ≡ map (λ c. c.ask) given)) where
  given_alone : map (λ (c : desk_calls.Call). c.ask) given ≡ map (λ (c : desk_calls.Call). c.ask) (given ++ [])
  given_alone = ap (map (λ (c : desk_calls.Call). c.ask)) (sym (append-nil given))

  looks : (reply : Reply) → IsLook call reply → InAllShown (seen d') s' (λ now. DoesCall (seen d') (record { call = call; reply = reply; made = 0 }) now now) → length s'.calls < s'.room.calls
      → Goes called seen d s call ino wants (Replied reply) d' s'
  looks reply look does room = record {
    given = given;
    last = [];
    passes = went.passes;
    ends = look.ends;
    leaves = look.leaves ino (took s (map (λ c. c.told) given)) s' went.alike;
    asks = λ nodes rows p. asks nodes rows p ∙ given_alone;
    after = (may_looked (seen d') s' call reply may does, room, look.plain, λ b. (may, look.reads b));
  }

  lacks : Goes called seen d s call ino wants NoMemory d' s'
  lacks = record {
    given = given;
    last = [];
    passes = went.passes;
    ends = inl refl;
    leaves = went.alike;
    asks = λ nodes rows p. ([], asks nodes rows p ∙ given_alone ∙ sym (append-nil (map (λ (c : desk_calls.Call). c.ask) (given ++ []))));
    after = may;
  }

  -- its reply, or want of memory for its note
  by_result : (reply : Reply) → IsLook call reply → InAllShown (seen d') s' (λ now. DoesCall (seen d') (record { call = call; reply = reply; made = 0 }) now now) → (result : Result Reply Stop)
      → MatchResult result (λ r. (r ≡ reply) × (length s'.calls < s'.room.calls)) (λ stop. stop ≡ LacksMemory) → Goes called seen d s call ino wants (try_ends result) d' s'
  by_result reply look does (Ok r) m = subst (λ x. Goes called seen d s call ino wants (Replied x) d' s') (sym m.0) (looks reply look does m.1)
  by_result reply look does (Err stop) m = subst (λ x. Goes called seen d s call ino wants (try_ends (Err x)) d' s') (sym m) lacks

-- So it is of a session whose room alone is another then.
pub look_goes : {D : Type 0} (called : D → Ask → Told → D → Type 0) (seen : D → DeskSeen) (d : D) (s : SessionSeen) (call : Call) (ino : ℕ) (wants : Nodes → List Ask) (given : List desk_calls.Call) (d' : D) (s2 s' : SessionSeen)
    → Went called seen d s given [] d' s2 → MayCall (seen d') s2 → InAllShown (seen d') s2 (λ now. wants now ≡ map (λ c. c.ask) given)
    → (reply : Reply) → IsLook call reply → InAllShown (seen d') s2 (λ now. DoesCall (seen d') (record { call = call; reply = reply; made = 0 }) now now)
    → s' ≡ record s2 { room = s'.room } → (result : Result Reply Stop)
    → MatchResult result (λ r. (r ≡ reply) × (length s'.calls < s'.room.calls)) (λ stop. stop ≡ LacksMemory) → Goes called seen d s call ino wants (try_ends result) d' s'
look_goes called seen d s call ino wants given d' s2 s' went may asks reply look does kept result m =
    let e : IsAlike s2 s' = alike_room s2 s' kept in
    by_result called seen d s call ino wants given d' s' (went_alike called seen d s given [] d' s2 s' e went) (may_alike (seen d') s2 s' e may) (both_alike (seen d') s2 s' (λ nodes x. wants x ≡ map (λ c. c.ask) given) e asks)
    reply look (both_alike (seen d') s2 s' (λ nodes x. DoesCall (seen d') (record { call = call; reply = reply; made = 0 }) x x) e does) result m
