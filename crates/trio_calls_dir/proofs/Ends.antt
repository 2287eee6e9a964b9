-- How a try ends by a refusal, or by a walk that comes to no file.
use Rattle.trio_calls_dir.proofs.Words.{◌++◌, ◌<◌, ◌∙◌, ◌≡◌, AfterTry, AllotFault, AreAsked, ArePossible, Ask, AskedBy, At, Busy, Call, ComesBy, Creds, Denied, DeskSeen, Done, Err, Exists, Goes, InAllShown, IntoItself, IsAlike, IsBusyWalk, IsDir, IsNames, IsNotBusy, IsNumber, IsOfDir, IsRefusal, IsRefusedAs, IsReplied, IsReply, IsStopped, LacksMemory, LeavesHere, List, MatchResult, MayCall, MayWalk, Needed, NoAllotMemory, NoFreeInodes, NoInodes, NoMemory, NoPages, NoSpace, NoWalkMemory, Nodes, NotDir, NotEmpty, NotFound, Ok, Option, Outcome, Replied, Reply, Result, Row, SessionSeen, Stop, StopsBy, Target, Told, TooLarge, TryEnds, WalkEnd, Walked, Went, [], alike_room, allot_asks, allot_reply, ap, append-nil, append_assoc, applied, as_lent, asked, asked_beside, asks_from, batch_nodes, cond, false, grant_ask, inl, inr, is_done, length, lent_call, map, map-append, may_alike, need_of, noted, number_made, numbers_for, pages_for, refl, served_by, subst, sym, took, true, try_ends, wants_of, without_file, IsLink, NotLink}
use Rattle.trio_nodes.specs.Apply.{Apply}
use Rattle.trio_nodes.specs.After.{call_nodes}
use Rattle.trio_desk.specs.Calls as desk_calls
use Rattle.trio_calls_dir.specs.declared.replies.Replied as replied
use Rattle.trio_walk.proofs.Agreeing.{asked_beside-append}
use Rattle.trio_walk.proofs.Stops.{by_refusal, refusal_ends, short_refusal, short_walk, way_asks}
use Rattle.trio_calls_dir.proofs.Walkable.{way_may}
use Rattle.trio_walk.proofs.Ways.{passes_none, way_went, went_alike}
use Rattle.trio_edit_laws.proofs.Noting.{may_looked as note_look}

-- ---- the note

-- with a look or a refusal that is noted the session may go on
pub may_looked : (desk : DeskSeen) (s : SessionSeen) (call : Call) (reply : Reply) → MayCall desk s → InAllShown desk s (IsRefusedAs desk call reply) → MayCall desk (noted call reply 0 s)
may_looked desk s call reply may does = note_look desk s (record { call = call; reply = reply; made = 0 }) refl may does

-- an allotment that isn't given is never busy
pub never_busy : (fault : AllotFault) → IsNotBusy (try_ends (without_file (allot_reply fault)))
never_busy (NoPages wanted free) = tt
never_busy (NoFreeInodes wanted free) = tt
never_busy NoAllotMemory = tt

-- ---- refusals

-- what is true of each refusal of a check
pub record IsPlain (call : Call) (reply : Reply) : Type 0 where
  pub ends : TryEnds (Replied reply) []
  pub leaves : (creds : Creds) (t : Target) (x s' : SessionSeen) → IsAlike x s' → LeavesHere creds call t x (Replied reply) s'
  pub number : (x : SessionSeen) → IsNumber call x (Replied reply) 0
  pub of_dir : IsOfDir reply
  pub unnamed : IsNames reply → ⊥
  pub undone : (desk : DeskSeen) (now after : Nodes) → Apply now desk.creds call 0 reply after → is_done (applied now desk.creds call 0).reply ≡ false

pub plain : (call : Call) (reply : Reply) → IsRefusal reply → IsPlain call reply
plain call NotFound r = record { ends = refl; leaves = λ c t x s' e. e; number = λ x. refl; of_dir = tt; unnamed = λ n. n; undone = λ desk now after a. elim a [ inl x ↦ sym (ap is_done x.0) | inr x ↦ absurd x.0 ] }
plain call Exists r = record { ends = refl; leaves = λ c t x s' e. e; number = λ x. refl; of_dir = tt; unnamed = λ n. n; undone = λ desk now after a. elim a [ inl x ↦ sym (ap is_done x.0) | inr x ↦ absurd x.0 ] }
plain call NotDir r = record { ends = refl; leaves = λ c t x s' e. e; number = λ x. refl; of_dir = tt; unnamed = λ n. n; undone = λ desk now after a. elim a [ inl x ↦ sym (ap is_done x.0) | inr x ↦ absurd x.0 ] }
plain call IsDir r = record { ends = refl; leaves = λ c t x s' e. e; number = λ x. refl; of_dir = tt; unnamed = λ n. n; undone = λ desk now after a. elim a [ inl x ↦ sym (ap is_done x.0) | inr x ↦ absurd x.0 ] }
plain call NotEmpty r = record { ends = refl; leaves = λ c t x s' e. e; number = λ x. refl; of_dir = tt; unnamed = λ n. n; undone = λ desk now after a. elim a [ inl x ↦ sym (ap is_done x.0) | inr x ↦ absurd x.0 ] }
plain call Denied r = record { ends = inl refl; leaves = λ c t x s' e. e; number = λ x. refl; of_dir = tt; unnamed = λ n. n; undone = λ desk now after a. elim a [ inl x ↦ sym (ap is_done x.0) | inr x ↦ absurd x.0 ] }
plain call IntoItself r = record { ends = refl; leaves = λ c t x s' e. e; number = λ x. refl; of_dir = tt; unnamed = λ n. n; undone = λ desk now after a. elim a [ inl x ↦ sym (ap is_done x.0) | inr x ↦ absurd x.0 ] }
plain call (IsReplied answer) r = absurd r
plain call (NoSpace w f) r = absurd r
plain call (NoInodes w f) r = absurd r
plain call TooLarge r = absurd r
plain call IsLink r = absurd r
plain call NotLink r = absurd r

-- no target is known
abbrev pub no_target : Target
no_target = record { dir = 0; new_dir = 0; ino = 0 }

wants_none : (now : Nodes) (creds : Creds) (call : Call) (t : Target) (x : SessionSeen) → is_done (applied now creds call 0).reply ≡ false → wants_of now creds call t x ≡ []
wants_none now creds call t x e = ap (λ b. cond b (allot_asks (pages_for call t x) (numbers_for call)) []) e

comes_none : (now : Nodes) (creds : Creds) (call : Call) (t : Target) (reply : Reply) → is_done (applied now creds call 0).reply ≡ false → ComesBy (Replied reply) t now creds call
comes_none now creds call t reply e h = absurd (let wrong : false ≡ true = sym e ∙ h in cc wrong)

module _ {D : Type 0} (called : D → Ask → Told → D → Type 0) (seen : D → DeskSeen) (d : D) (s s' : SessionSeen) (call : Call) (needs : Nodes → List Needed) (may : MayCall (seen d) s) (kept : s' ≡ record s { room = s'.room }) where
  alike : IsAlike s s'
  alike = alike_room s s' kept

  possible_back : (nodes : Nodes) (rows : List (Option Row)) → ArePossible (seen d) s'.parcel s'.reads nodes rows → ArePossible (seen d) s.parcel s.reads nodes rows
  possible_back nodes rows p = subst (λ (q : SessionSeen). ArePossible (seen d) q.parcel q.reads nodes rows) kept p

  calls_are : s'.calls ≡ s.calls
  calls_are = ap (λ (q : SessionSeen). q.calls) kept

  -- what is known of the nodes that are shown
  still : (P : Nodes → Type 0) → InAllShown (seen d) s P → InAllShown (seen d) s' P
  still P h nodes rows p = subst (λ (cs : List Done). P (batch_nodes (seen d).creds cs nodes)) (sym calls_are) (h nodes rows (possible_back nodes rows p))

  -- want of memory, when nothing was asked
  pub lacks : Goes called seen d s call needs NoMemory 0 d s'
  lacks = record {
    target = no_target;
    given = [];
    last = [];
    passes = passes_none called seen d s s' alike;
    ends = inl refl;
    leaves = alike;
    numbered = refl;
    comes = λ nodes rows p. tt;
    asks = λ nodes rows p. (asks_from s (needs (batch_nodes (seen d).creds s'.calls nodes)) (batch_nodes (seen d).creds s'.calls nodes) (seen d).creds call no_target s, refl);
    after = may_alike (seen d) s s' alike may;
  }

  -- a refusal by the tree
  pub refuses : InAllShown (seen d) s (λ now. needs now ≡ []) → (reply : Reply) → IsRefusal reply → InAllShown (seen d) s (IsRefusedAs (seen d) call reply) → length s'.calls < s'.room.calls → Goes called seen d s call needs (Replied reply) 0 d s'
  refuses none reply refusal does room =
      let q = plain call reply refusal in
      let undone : InAllShown (seen d) s' (λ now. is_done (applied now (seen d).creds call 0).reply ≡ false) =
      still (λ now. is_done (applied now (seen d).creds call 0).reply ≡ false)
      (λ nodes rows p. let it = does nodes rows p in q.undone (seen d) (batch_nodes (seen d).creds s.calls nodes) (call_nodes (seen d).creds (batch_nodes (seen d).creds s.calls nodes) (record { call = call; reply = reply; made = 0 })) it.0) in
      record {
        target = no_target;
        given = [];
        last = [];
        passes = passes_none called seen d s s' alike;
        ends = q.ends;
        leaves = q.leaves (seen d).creds no_target s s' alike;
        numbered = q.number s;
        comes = λ nodes rows p. comes_none (batch_nodes (seen d).creds s'.calls nodes) (seen d).creds call no_target reply (undone nodes rows p);
        asks = λ nodes rows p.
            ap (λ l. map grant_ask (asked (served_by s) l) ++ wants_of (batch_nodes (seen d).creds s'.calls nodes) (seen d).creds call no_target s) (still (λ now. needs now ≡ []) none nodes rows p)
            ∙ wants_none (batch_nodes (seen d).creds s'.calls nodes) (seen d).creds call no_target s (undone nodes rows p);
        after = (
          may_alike (seen d) (noted call reply 0 s) (noted call reply 0 s') (ap (noted call reply 0) alike) (may_looked (seen d) s call reply may does),
          room,
          q.of_dir,
          λ n. absurd (q.unnamed n),
        );
      }

  -- as `refused` ends it
  pub refused_goes : InAllShown (seen d) s (λ now. needs now ≡ []) → (reply : Reply) → IsRefusal reply → InAllShown (seen d) s (IsRefusedAs (seen d) call reply) → (result : Result replied.Replied Stop)
      → MatchResult result (λ r. (r ≡ record { reply = reply; made = 0 }) × (length s'.calls < s'.room.calls)) (λ stop. stop ≡ LacksMemory)
      → Goes called seen d s call needs (try_ends result) (number_made result) d s'
  refused_goes none reply refusal does (Ok r) m = subst (λ (x : replied.Replied). Goes called seen d s call needs (Replied x.reply) x.made d s') (sym m.0) (refuses none reply refusal does m.1)
  refused_goes none reply refusal does (Err stop) m = subst (λ x. Goes called seen d s call needs (try_ends (Err x)) 0 d s') (sym m) lacks

-- ---- walks that come to no file

-- the needs of a call begin with those of its walk, and are no others where it was refused
abbrev pub BeginsWith : WalkEnd → List Needed → List Needed → Type 0
BeginsWith (IsReply reply) first all = all ≡ first
BeginsWith end first all = (rest : List Needed) × (all ≡ first ++ rest)

module _ {D : Type 0} (called : D → Ask → Told → D → Type 0) (seen : D → DeskSeen) (d : D) (s : SessionSeen) (call : Call) (first needs : Nodes → List Needed) (may : MayCall (seen d) s) (d1 : D) (s1 s2 : SessionSeen)
    (true_of : List Needed → Nodes → Type 0) (end : WalkEnd) (w : Walked called seen d s true_of end d1 s1) (walks : MayWalk (seen d1) s1) (kept : s2 ≡ record s1 { room = s2.room }) where
  abbrev asking : desk_calls.Call → Ask
  asking c = c.ask

  abbrev these : List Needed
  these = map need_of w.more ++ w.need

  may1 : MayCall (seen d1) s1
  may1 = way_may called seen d s w.more w.last d1 s1 may w.way walks

  near : IsAlike s1 s2
  near = alike_room s1 s2 kept

  back : (nodes : Nodes) (rows : List (Option Row)) → ArePossible (seen d1) s2.parcel s2.reads nodes rows → ArePossible (seen d1) s1.parcel s1.reads nodes rows
  back nodes rows p = subst (λ (q : SessionSeen). ArePossible (seen d1) q.parcel q.reads nodes rows) kept p

  over : (P : Nodes → Type 0) → InAllShown (seen d1) s1 P → InAllShown (seen d1) s2 P
  over P h nodes rows p = subst (λ (cs : List Done). P (batch_nodes (seen d1).creds cs nodes)) (sym (ap (λ (q : SessionSeen). q.calls) kept)) (h nodes rows (back nodes rows p))

  went2 : Went called seen d s (map lent_call w.more) w.last d1 s2
  went2 = went_alike called seen d s (map lent_call w.more) w.last d1 s1 s2 near (way_went called seen d s w.more w.last d1 s1 w.way)

  -- a try that is broken off here, or is replied by the walk's refusal
  broken : (out : Outcome) → TryEnds out w.last
      → ((creds : Creds) (x : SessionSeen) → IsAlike x s2 → LeavesHere creds call no_target x out s2) → ((x : SessionSeen) → IsNumber call x out 0)
      → InAllShown (seen d1) s2 (λ now. ComesBy out no_target now (seen d1).creds call)
      → InAllShown (seen d1) s2 (λ now. (x : SessionSeen) → AskedBy out (map grant_ask these) (asks_from s (needs now) now (seen d1).creds call no_target x))
      → AfterTry (seen d1) call 0 out s2 → Goes called seen d s call needs out 0 d1 s2
  broken out ends leaves number comes asks after = record {
    target = no_target;
    given = map lent_call w.more;
    last = w.last;
    passes = went2.passes;
    ends = ends;
    leaves = leaves (seen d1).creds (took s (map (λ (c : desk_calls.Call). c.told) (map lent_call w.more))) went2.alike;
    numbered = number (took s (map (λ (c : desk_calls.Call). c.told) (map lent_call w.more)));
    comes = comes;
    asks = λ nodes rows p.
        subst (λ l. AskedBy out l (asks_from s (needs (batch_nodes (seen d1).creds s2.calls nodes)) (batch_nodes (seen d1).creds s2.calls nodes) (seen d1).creds call no_target (took s (map (λ (c : desk_calls.Call). c.told) (map lent_call w.more)))))
        (way_asks end w.more w.last w.need w.ends) (asks nodes rows p (took s (map (λ (c : desk_calls.Call). c.told) (map lent_call w.more))));
    after = after;
  }

  -- the first of what is to be asked
  first_of : (now : Nodes) (x : SessionSeen) → (rest : List Needed) × (asked (served_by s) (first now) ≡ these ++ rest) → (rest : List Needed) × (needs now ≡ first now ++ rest)
      → (rest : List Ask) × (asks_from s (needs now) now (seen d1).creds call no_target x ≡ map grant_ask these ++ rest)
  first_of now x r n =
      let behind : List Needed = asked_beside (served_by s) (asked (served_by s) (first now)) n.0 in
      let W : List Ask = wants_of now (seen d1).creds call no_target (as_lent s x) in
      let rest : List Needed = r.0 ++ behind in (
        map grant_ask rest ++ W,
        ap (λ l. map grant_ask (asked (served_by s) l) ++ W) n.1
            ∙ ap (λ l. map grant_ask l ++ W) (asked_beside-append (served_by s) (first now) n.0 [] ∙ ap (λ l. l ++ behind) r.1 ∙ append_assoc these r.0 behind)
            ∙ ap (λ l. l ++ W) (map-append grant_ask these rest)
            ∙ append_assoc (map grant_ask these) (map grant_ask rest) W,
      )

-- How it goes where a walk comes to no file, as `stopped` ends it.
module _ {D : Type 0} (called : D → Ask → Told → D → Type 0) (seen : D → DeskSeen) (d : D) (s : SessionSeen) (call : Call) (first needs : Nodes → List Needed) (may : MayCall (seen d) s) (d1 : D) (s1 s2 : SessionSeen)
    (true_of : List Needed → Nodes → Type 0) where
  pub stop_goes : (end : WalkEnd) (w : Walked called seen d s true_of end d1 s1) → MayWalk (seen d1) s1 → s2 ≡ record s1 { room = s2.room } → IsStopped end
      → InAllShown (seen d1) s1 (λ now. AreAsked end (map need_of w.more ++ w.need) (asked (served_by s) (first now)))
      → InAllShown (seen d1) s1 (λ now. BeginsWith end (first now) (needs now))
      → ((reply : Reply) → end ≡ IsReply reply → InAllShown (seen d1) s1 (IsRefusedAs (seen d1) call reply))
      → (result : Result replied.Replied Stop) → StopsBy end result s2
      → Goes called seen d s call needs (try_ends result) (number_made result) d1 s2
  stop_goes (At n) w walks kept st asks begins refused result by = absurd st
  stop_goes (IsBusyWalk holder) w walks kept st asks begins refused result by =
      subst (λ r. Goes called seen d s call needs (try_ends r) (number_made r) d1 s2) (sym by)
      (broken called seen d s call first needs may d1 s1 s2 true_of (IsBusyWalk holder) w walks kept (Busy holder) (w.ends.0, w.ends.1, w.ends.2) (λ creds x e. e) (λ x. refl) (λ nodes rows p. tt)
      (over called seen d s call first needs may d1 s1 s2 true_of (IsBusyWalk holder) w walks kept
      (λ now. (x : SessionSeen) → AskedBy (Busy holder) (map grant_ask (map need_of w.more ++ w.need)) (asks_from s (needs now) now (seen d1).creds call no_target x))
      (λ nodes rows p x. first_of called seen d s call first needs may d1 s1 s2 true_of (IsBusyWalk holder) w walks kept (batch_nodes (seen d1).creds s1.calls nodes) x (asks nodes rows p) (begins nodes rows p)))
      (may_alike (seen d1) s1 s2 (near called seen d s call first needs may d1 s1 s2 true_of (IsBusyWalk holder) w walks kept) (may1 called seen d s call first needs may d1 s1 s2 true_of (IsBusyWalk holder) w walks kept)))
  stop_goes NoWalkMemory w walks kept st asks begins refused result by =
      subst (λ r. Goes called seen d s call needs (try_ends r) (number_made r) d1 s2) (sym by)
      (broken called seen d s call first needs may d1 s1 s2 true_of NoWalkMemory w walks kept NoMemory (short_walk w.last w.need w.ends) (λ creds x e. e) (λ x. refl) (λ nodes rows p. tt)
      (over called seen d s call first needs may d1 s1 s2 true_of NoWalkMemory w walks kept
      (λ now. (x : SessionSeen) → AskedBy NoMemory (map grant_ask (map need_of w.more ++ w.need)) (asks_from s (needs now) now (seen d1).creds call no_target x))
      (λ nodes rows p x. first_of called seen d s call first needs may d1 s1 s2 true_of NoWalkMemory w walks kept (batch_nodes (seen d1).creds s1.calls nodes) x (asks nodes rows p) (begins nodes rows p)))
      (may_alike (seen d1) s1 s2 (near called seen d s call first needs may d1 s1 s2 true_of NoWalkMemory w walks kept) (may1 called seen d s call first needs may d1 s1 s2 true_of NoWalkMemory w walks kept)))
  stop_goes (IsReply reply) w walks kept st asks begins refused (Ok r) by =
      let q = plain call reply (by_refusal IsRefusal tt tt tt reply st) in
      let m1 = may1 called seen d s call first needs may d1 s1 s2 true_of (IsReply reply) w walks kept in
      let does = refused reply refl in
      let undone : InAllShown (seen d1) s1 (λ now. is_done (applied now (seen d1).creds call 0).reply ≡ false) =
      λ nodes rows p. (let it = does nodes rows p in q.undone (seen d1) (batch_nodes (seen d1).creds s1.calls nodes) (call_nodes (seen d1).creds (batch_nodes (seen d1).creds s1.calls nodes) (record { call = call; reply = reply; made = 0 })) it.0) in
      subst (λ (x : replied.Replied). Goes called seen d s call needs (Replied x.reply) x.made d1 s2) (sym by.0)
      (broken called seen d s call first needs may d1 s1 s2 true_of (IsReply reply) w walks kept (Replied reply) (refusal_ends reply w.last w.need st w.ends) (λ creds x e. q.leaves creds no_target x s2 e) q.number
      (over called seen d s call first needs may d1 s1 s2 true_of (IsReply reply) w walks kept (λ now. ComesBy (Replied reply) no_target now (seen d1).creds call)
      (λ nodes rows p. comes_none (batch_nodes (seen d1).creds s1.calls nodes) (seen d1).creds call no_target reply (undone nodes rows p)))
      (over called seen d s call first needs may d1 s1 s2 true_of (IsReply reply) w walks kept
      (λ now. (x : SessionSeen) → AskedBy (Replied reply) (map grant_ask (map need_of w.more ++ w.need)) (asks_from s (needs now) now (seen d1).creds call no_target x))
      (λ nodes rows p x.
      let now : Nodes = batch_nodes (seen d1).creds s1.calls nodes in
      ap (λ l. map grant_ask (asked (served_by s) l) ++ wants_of now (seen d1).creds call no_target (as_lent s x)) (begins nodes rows p)
      ∙ ap (λ l. map grant_ask l ++ wants_of now (seen d1).creds call no_target (as_lent s x)) (asks nodes rows p)
      ∙ ap (λ l. map grant_ask (map need_of w.more ++ w.need) ++ l) (wants_none now (seen d1).creds call no_target (as_lent s x) (undone nodes rows p))
      ∙ append-nil (map grant_ask (map need_of w.more ++ w.need)))) (
        may_alike (seen d1) (noted call reply 0 s1) (noted call reply 0 s2) (ap (noted call reply 0) (near called seen d s call first needs may d1 s1 s2 true_of (IsReply reply) w walks kept)) (may_looked (seen d1) s1 call reply m1 does),
        by.1,
        q.of_dir,
        λ n. absurd (q.unnamed n),
      ))
  stop_goes (IsReply reply) w walks kept st asks begins refused (Err stop) by =
      subst (λ x. Goes called seen d s call needs (try_ends (Err x)) 0 d1 s2) (sym by)
      (broken called seen d s call first needs may d1 s1 s2 true_of (IsReply reply) w walks kept NoMemory (short_refusal reply w.last w.need w.ends) (λ creds x e. e) (λ x. refl) (λ nodes rows p. tt)
      (over called seen d s call first needs may d1 s1 s2 true_of (IsReply reply) w walks kept
      (λ now. (x : SessionSeen) → AskedBy NoMemory (map grant_ask (map need_of w.more ++ w.need)) (asks_from s (needs now) now (seen d1).creds call no_target x))
      (λ nodes rows p x. first_of called seen d s call first needs may d1 s1 s2 true_of (IsReply reply) w walks kept (batch_nodes (seen d1).creds s1.calls nodes) x
      ([], asks nodes rows p ∙ sym (append-nil (map need_of w.more ++ w.need))) ([], begins nodes rows p ∙ sym (append-nil (first (batch_nodes (seen d1).creds s1.calls nodes))))))
      (may_alike (seen d1) s1 s2 (near called seen d s call first needs may d1 s1 s2 true_of (IsReply reply) w walks kept) (may1 called seen d s call first needs may d1 s1 s2 true_of (IsReply reply) w walks kept)))
