-- A try after its file was taken: what comes then is added to what was given.
use Rattle.trio_calls_file.proofs.Words.{◌++◌, ◌∙◌, ◌≡◌, Ask, AskedBy, Bool, Call, Chmod, Create, DeskSeen, Goes, InAllShown, IsAlike, LeavesHere, List, ListNames, Mkdir, Nodes, Outcome, Read, Rename, Rmdir, SessionSeen, Stat, Told, Truncate, Unlink, Went, Write, [], ap, append_assoc, batch_nodes, body_in, both_then, cond, edited, eqb, false, map, map-append, new_length, put, put_alike, size_in, sized, subst, sym, took, true, ℕ, Guard, Readlink, Symlink}
use Rattle.std.specs.Prelude.{length}
use Rattle.trio_desk.specs.Calls as desk_calls
use Rattle.trio_session.proofs.Alike.{took_more, took_alike}
use Rattle.trio_walk.proofs.Then.{asked_behind}
use Rattle.trio_walk.proofs.Ways.{leaves_alike, passes_then}
use Rattle.trio_session.proofs.Others.{guard_alike, sized_alike}

-- ---- edits go by neither indexes nor room

pub edited_alike : (call : Call) (ino : ℕ) (x y : SessionSeen) → IsAlike x y → IsAlike (edited call ino x) (edited call ino y)
edited_alike (Write path at bytes) ino x y e = by (eqb (length bytes) 0)
  where
    z : SessionSeen → SessionSeen
    z q = put ino at bytes (sized ino (new_length (Write path at bytes) (size_in (body_in q ino))) q)

    size : size_in (body_in y ino) ≡ size_in (body_in x ino)
    size = ap (λ (q : SessionSeen). size_in (body_in q ino)) e

    by : (b : Bool) → IsAlike (cond b x (put ino at bytes (sized ino (new_length (Write path at bytes) (size_in (body_in x ino))) x))) (cond b y (put ino at bytes (sized ino (new_length (Write path at bytes) (size_in (body_in y ino))) y)))
    by true = e
    by false =
        subst (λ n. IsAlike (put ino at bytes (sized ino (new_length (Write path at bytes) (size_in (body_in x ino))) x)) (put ino at bytes (sized ino (new_length (Write path at bytes) n) y))) (sym size)
        (put_alike ino at bytes _ _ (sized_alike ino (new_length (Write path at bytes) (size_in (body_in x ino))) x y e))
edited_alike (Truncate path size) ino x y e = sized_alike ino size x y e
edited_alike (Read path at len) ino x y e = e
edited_alike (Stat path) ino x y e = e
edited_alike (Mkdir path mode) ino x y e = e
edited_alike (Create path mode) ino x y e = e
edited_alike (Unlink path) ino x y e = e
edited_alike (Rmdir path) ino x y e = e
edited_alike (Rename from to) ino x y e = e
edited_alike (ListNames path from) ino x y e = e
edited_alike (Chmod path mode) ino x y e = e
edited_alike (Symlink path text) ino x y e = e
edited_alike (Readlink path) ino x y e = e
edited_alike (Guard path on) ino x y e = guard_alike ino on x y e

-- ---- the whole

module _ {D : Type 0} (called : D → Ask → Told → D → Type 0) (seen : D → DeskSeen) (d d1 d' : D) (s s1 s' : SessionSeen) (call : Call) (ino : ℕ) (given : List desk_calls.Call) (went : Went called seen d s given [] d1 s1) (end : Outcome) (wants0 wants1 : Nodes → List Ask)
    (wanted : InAllShown (seen d1) s1 (λ now. wants0 now ≡ map (λ (c : desk_calls.Call). c.ask) given ++ wants1 now)) (goes : Goes called seen d1 s1 call ino wants1 end d' s') where
  -- what goes on after some calls that were given goes with them
  pub goes_on : Goes called seen d s call ino wants0 end d' s'
  goes_on =
      let ask : desk_calls.Call → Ask = λ c. c.ask in
      let told : desk_calls.Call → Told = λ c. c.told in
      let all : List desk_calls.Call = given ++ goes.given in
      let at_end = both_then (seen d1) (seen d') s1 s' (λ nodes now. wants0 now ≡ map ask given ++ wants1 now) goes.passes.same goes.passes.more goes.passes.calls wanted in
      let first : SessionSeen = took s (map told given) in
      let tolds : took s (map told all) ≡ took first (map told goes.given) = ap (took s) (map-append told given goes.given) ∙ took_more s (map told given) (map told goes.given) in
      record {
        given = given ++ goes.given;
        last = goes.last;
        passes = passes_then called seen d s d1 d' s1 s' given goes.given goes.last went.passes goes.passes;
        ends = goes.ends;
        leaves =
            subst (λ x. LeavesHere call ino x end s') (sym tolds)
            (leaves_alike (edited call ino) (edited_alike call ino) (took first (map told goes.given)) (took s1 (map told goes.given)) s' end (took_alike first s1 (map told goes.given) went.alike) goes.leaves);
        asks = λ nodes rows p.
            let now : Nodes = batch_nodes (seen d').creds s'.calls nodes in
            let a = asked_behind end (map ask given) (map ask (goes.given ++ goes.last)) (wants1 now) (goes.asks nodes rows p) in
            let these : map ask given ++ map ask (goes.given ++ goes.last) ≡ map ask (all ++ goes.last) = sym (map-append ask given (goes.given ++ goes.last)) ∙ ap (map ask) (sym (append_assoc given goes.given goes.last)) in
            subst (λ l. AskedBy end l (wants0 now)) these (subst (λ l. AskedBy end (map ask given ++ map ask (goes.given ++ goes.last)) l) (sym (at_end nodes rows p)) a);
        after = goes.after;
      }
