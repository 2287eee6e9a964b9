-- A try goes on: what was known and given before is added to what comes then.
use Rattle.trio_calls_dir.proofs.Words.{◌++◌, ◌∙◌, ◌≡◌, Ask, AskedBy, Bool, Busy, Call, Chmod, Create, Creds, Denied, DeskSeen, Directory, Exists, Goes, InAllShown, InoParts, IntoItself, IsAlike, IsDir, IsNumber, IsReplied, Kind, LeavesHere, List, ListNames, Mkdir, Mode, Needed, NoInodes, NoMemory, NoSpace, Nodes, None, NotDir, NotEmpty, NotFound, Option, Outcome, Path, Regular, Rename, Replied, Rmdir, Room, SameDesk, SessionSeen, Some, TakesMore, Target, Told, TooLarge, Unlink, Went, [], allot_asks, ap, append_assoc, applied, as_lent, asked, asks_from, batch_nodes, clear, cond, edited, eqb, false, fill, grant_ask, in_hand, is_done, made_by, map, map-append, moved, moved_shown, name_of, new_body, new_number, numbers_for, option_map_or, pages_for, refl, retitle, served_by, slot_growth, subst, sym, took, true, wants_of, with_slot, ℕ, IsLink, NotLink, Link, Symlink, link_made, link_mode, length, ◌+◌}
use Rattle.trio_lease.specs.declared.parts.FreshParts.{FreshParts}
use Rattle.trio_nodes.specs.declared.call.Call.TheVariants.{Write, Read, Truncate, Stat, Readlink, Guard}
use Rattle.trio_desk.specs.Calls as desk_calls
use Rattle.trio_session.specs.Seen.{grown, put}
use Rattle.trio_calls_dir.specs.Asks.{filled_new, linked_new}
use Rattle.trio_session.proofs.Alike.{took_more, took_alike, alike_edited}
use Rattle.trio_walk.proofs.Then.{both_then, asked_behind}
use Rattle.trio_walk.proofs.Ways.{leaves_alike, passes_then}
use Rattle.trio_session.proofs.Others.{fill-other, clear-other, grown-other, retitle-other, with_slot-other}

-- ---- another moment of the desk

pub all_then : (desk desk' : DeskSeen) (s s' : SessionSeen) (P : Nodes → Type 0) → SameDesk desk desk' → TakesMore desk' (in_hand s) (in_hand s') → s'.calls ≡ s.calls
    → InAllShown desk s P → InAllShown desk' s' P
all_then desk desk' s s' P same more calls h = both_then desk desk' s s' (λ nodes now. P now) same more calls h

-- ---- edits go by neither indexes nor room

module _ (is : List ℕ) (f : ℕ) (r : Room) where
  -- the same, with these indexes, look-ups and room
  abbrev other : SessionSeen → SessionSeen
  other q = record q { indexed = is; finds = f; room = r }

  new_other : (creds : Creds) (kind : Kind) (path : Path) (mode : Mode) (t : Target) (x : SessionSeen) → filled_new creds kind path mode t (other x) ≡ other (filled_new creds kind path mode t x)
  new_other creds kind path mode t x =
      ap (fill t.dir (name_of path) (new_number x) kind (new_body creds mode)) (with_slot-other is f r t.dir x) ∙ fill-other is f r t.dir (name_of path) (new_number x) kind (new_body creds mode) (with_slot t.dir x)

  put-other : (ino : ℕ) (bytes : List ℕ) (q : SessionSeen) → put ino 0 bytes (other q) ≡ other (put ino 0 bytes q)
  unfolding put
  put-other ino bytes q = refl

  link_other : (creds : Creds) (path : Path) (text : List ℕ) (t : Target) (x : SessionSeen) → linked_new creds path text t (other x) ≡ other (linked_new creds path text t x)
  link_other creds path text t x =
      ap (link_made t.dir (name_of path) (new_number x) (new_body creds link_mode) text) (with_slot-other is f r t.dir x)
      ∙ ap (λ q. put (new_number x) 0 text (grown (new_number x) (length text) q)) (fill-other is f r t.dir (name_of path) (new_number x) Link (new_body creds link_mode) (with_slot t.dir x))
      ∙ ap (put (new_number x) 0 text) (grown-other is f r (new_number x) (length text) filled)
      ∙ put-other (new_number x) text (grown (new_number x) (length text) filled)
    where
      filled : SessionSeen
      filled = fill t.dir (name_of path) (new_number x) Link (new_body creds link_mode) (with_slot t.dir x)

  moved_other : (from to : Path) (t : Target) (x : SessionSeen) → moved from to t (other x) ≡ other (moved from to t x)
  moved_other from to t x = ap go (with_slot-other is f r t.new_dir x) ∙ by (moved_shown ready t.ino)
    where
      ready : SessionSeen
      ready = with_slot t.new_dir x

      go : SessionSeen → SessionSeen
      go q = option_map_or (λ (m : Kind × List ℕ). fill t.new_dir (name_of to) t.ino m.0 m.1 (clear t.dir (name_of from) q)) (moved_shown q t.ino) q

      by : (o : Option (Kind × List ℕ)) → option_map_or (λ (m : Kind × List ℕ). fill t.new_dir (name_of to) t.ino m.0 m.1 (clear t.dir (name_of from) (other ready))) o (other ready)
          ≡ other (option_map_or (λ (m : Kind × List ℕ). fill t.new_dir (name_of to) t.ino m.0 m.1 (clear t.dir (name_of from) ready)) o ready)
      by None = refl
      by (Some m) = ap (fill t.new_dir (name_of to) t.ino m.0 m.1) (clear-other is f r t.dir (name_of from) ready) ∙ fill-other is f r t.new_dir (name_of to) t.ino m.0 m.1 (clear t.dir (name_of from) ready)

  edited_other : (creds : Creds) (call : Call) (t : Target) (x : SessionSeen) → edited creds call t (other x) ≡ other (edited creds call t x)
  edited_other creds (Mkdir path mode) t x = new_other creds Directory path mode t x
  edited_other creds (Create path mode) t x = new_other creds Regular path mode t x
  edited_other creds (Unlink path) t x = clear-other is f r t.dir (name_of path) x
  edited_other creds (Rmdir path) t x = clear-other is f r t.dir (name_of path) x
  edited_other creds (Rename from to) t x = by (eqb t.dir t.new_dir)
    where
      by : (b : Bool) → cond {A = SessionSeen} b (retitle t.dir (name_of from) (name_of to) (other x)) (moved from to t (other x))
          ≡ other (cond {A = SessionSeen} b (retitle t.dir (name_of from) (name_of to) x) (moved from to t x))
      by true = retitle-other is f r t.dir (name_of from) (name_of to) x
      by false = moved_other from to t x
  edited_other creds (Write path at bytes) t x = refl
  edited_other creds (Read path at len) t x = refl
  edited_other creds (Truncate path size) t x = refl
  edited_other creds (ListNames path from) t x = refl
  edited_other creds (Stat path) t x = refl
  edited_other creds (Chmod path mode) t x = refl
  edited_other creds (Symlink path text) t x = link_other creds path text t x
  edited_other creds (Readlink path) t x = refl
  edited_other creds (Guard path on) t x = refl

pub edited_alike : (creds : Creds) (call : Call) (t : Target) (x y : SessionSeen) → IsAlike x y → IsAlike (edited creds call t x) (edited creds call t y)
edited_alike creds call t = alike_edited (edited creds call t) (λ is n r x. edited_other is n r creds call t x)

-- the number of a new file doesn't go by them
pub made_alike : (call : Call) (x y : SessionSeen) → IsAlike x y → made_by call y ≡ made_by call x
made_alike (Mkdir path mode) x y e = ap (λ (q : SessionSeen). new_number q) e
made_alike (Create path mode) x y e = ap (λ (q : SessionSeen). new_number q) e
made_alike (Unlink path) x y e = refl
made_alike (Rmdir path) x y e = refl
made_alike (Rename from to) x y e = refl
made_alike (Write path at bytes) x y e = refl
made_alike (Read path at len) x y e = refl
made_alike (Truncate path size) x y e = refl
made_alike (ListNames path from) x y e = refl
made_alike (Stat path) x y e = refl
made_alike (Chmod path mode) x y e = refl
made_alike (Symlink path text) x y e = ap (λ (q : SessionSeen). new_number q) e
made_alike (Readlink path) x y e = refl
made_alike (Guard path on) x y e = refl

number_alike : (call : Call) (x y : SessionSeen) (end : Outcome) (n : ℕ) → IsAlike x y → IsNumber call y end n → IsNumber call x end n
number_alike call x y (Replied (IsReplied answer)) n e h = h ∙ made_alike call x y e
number_alike call x y (Replied NotFound) n e h = h
number_alike call x y (Replied Exists) n e h = h
number_alike call x y (Replied NotDir) n e h = h
number_alike call x y (Replied IsDir) n e h = h
number_alike call x y (Replied NotEmpty) n e h = h
number_alike call x y (Replied Denied) n e h = h
number_alike call x y (Replied IntoItself) n e h = h
number_alike call x y (Replied (NoSpace w f)) n e h = h
number_alike call x y (Replied (NoInodes w f)) n e h = h
number_alike call x y (Replied TooLarge) n e h = h
number_alike call x y (Replied IsLink) n e h = h
number_alike call x y (Replied NotLink) n e h = h
number_alike call x y (Busy holder) n e h = h
number_alike call x y NoMemory n e h = h

-- what is wanted doesn't go by them either
pages_alike : (call : Call) (t : Target) (x y : SessionSeen) → IsAlike x y → pages_for call t y ≡ pages_for call t x
pages_alike (Mkdir path mode) t x y e = ap (λ (q : SessionSeen). slot_growth q t.dir) e
pages_alike (Create path mode) t x y e = ap (λ (q : SessionSeen). slot_growth q t.dir) e
pages_alike (Rename from to) t x y e = ap (λ (q : SessionSeen). cond (eqb t.dir t.new_dir) 0 (slot_growth q t.new_dir)) e
pages_alike (Unlink path) t x y e = refl
pages_alike (Rmdir path) t x y e = refl
pages_alike (Write path at bytes) t x y e = refl
pages_alike (Read path at len) t x y e = refl
pages_alike (Truncate path size) t x y e = refl
pages_alike (ListNames path from) t x y e = refl
pages_alike (Stat path) t x y e = refl
pages_alike (Chmod path mode) t x y e = refl
pages_alike (Symlink path text) t x y e = ap (λ (q : SessionSeen). slot_growth q t.dir + 2) e
pages_alike (Readlink path) t x y e = refl
pages_alike (Guard path on) t x y e = refl

pub wants_alike : (now : Nodes) (creds : Creds) (call : Call) (t : Target) (x y : SessionSeen) → IsAlike x y → wants_of now creds call t y ≡ wants_of now creds call t x
wants_alike now creds call t x y e = ap (λ n. cond (is_done (applied now creds call 0).reply) (allot_asks n (numbers_for call)) []) (pages_alike call t x y e)

-- ---- the whole

module _ {D : Type 0} (called : D → Ask → Told → D → Type 0) (seen : D → DeskSeen) (d d1 d' : D) (s s1 s' : SessionSeen) (call : Call) (given : List desk_calls.Call) (went : Went called seen d s given [] d1 s1) (end : Outcome) (number : ℕ) (needs0 needs1 : Nodes → List Needed)
    (wanted : InAllShown (seen d1) s1 (λ now. map grant_ask (asked (served_by s) (needs0 now)) ≡ map (λ (c : desk_calls.Call). c.ask) given ++ map grant_ask (asked (served_by s1) (needs1 now)))) (goes : Goes called seen d1 s1 call needs1 end number d' s') where
  -- what goes on after some calls that were given goes with them
  pub goes_on : Goes called seen d s call needs0 end number d' s'
  goes_on =
      let ask : desk_calls.Call → Ask = λ c. c.ask in
      let told : desk_calls.Call → Told = λ c. c.told in
      let creds : Creds = (seen d').creds in
      let t : Target = goes.target in
      let all : List desk_calls.Call = given ++ goes.given in
      let at_end = all_then (seen d1) (seen d') s1 s' (λ now. map grant_ask (asked (served_by s) (needs0 now)) ≡ map ask given ++ map grant_ask (asked (served_by s1) (needs1 now))) goes.passes.same goes.passes.more goes.passes.calls wanted in
      let first : SessionSeen = took s (map told given) in
      let tolds : took s (map told all) ≡ took first (map told goes.given) = ap (took s) (map-append told given goes.given) ∙ took_more s (map told given) (map told goes.given) in
      let near : IsAlike (took first (map told goes.given)) (took s1 (map told goes.given)) = took_alike first s1 (map told goes.given) went.alike in
      let lent : as_lent s1 (took s1 (map told goes.given)) ≡ as_lent s (took s1 (map told goes.given)) =
      ap (λ (p : List FreshParts). let y : SessionSeen = took s1 (map told goes.given) in record y { parcel = record y.parcel { pages = p; inodes = s1.parcel.inodes } }) went.pages
      ∙ ap (λ (i : List InoParts). let y : SessionSeen = took s1 (map told goes.given) in record y { parcel = record y.parcel { pages = s.parcel.pages; inodes = i } }) went.inodes in
      record {
        target = t;
        given = given ++ goes.given;
        last = goes.last;
        passes = passes_then called seen d s d1 d' s1 s' given goes.given goes.last went.passes goes.passes;
        ends = goes.ends;
        leaves =
            subst (λ x. LeavesHere creds call t x end s') (sym tolds)
            (leaves_alike (edited creds call t) (edited_alike creds call t) (took first (map told goes.given)) (took s1 (map told goes.given)) s' end near goes.leaves);
        numbered =
            subst (λ x. IsNumber call x end number) (sym tolds)
            (number_alike call (took first (map told goes.given)) (took s1 (map told goes.given)) end number near goes.numbered);
        comes = goes.comes;
        asks = λ nodes rows p.
            let now : Nodes = batch_nodes creds s'.calls nodes in
            let wants : List Ask = wants_of now creds call t (as_lent s1 (took s1 (map told goes.given))) in
            let a = asked_behind end (map ask given) (map ask (goes.given ++ goes.last)) (map grant_ask (asked (served_by s1) (needs1 now)) ++ wants) (goes.asks nodes rows p) in
            let these : map ask given ++ map ask (goes.given ++ goes.last) ≡ map ask (all ++ goes.last) = sym (map-append ask given (goes.given ++ goes.last)) ∙ ap (map ask) (sym (append_assoc given goes.given goes.last)) in
            let wanted' : map ask given ++ (map grant_ask (asked (served_by s1) (needs1 now)) ++ wants) ≡ asks_from s (needs0 now) now creds call t (took s (map told all)) =
            sym (append_assoc (map ask given) (map grant_ask (asked (served_by s1) (needs1 now))) wants)
            ∙ ap (λ l. l ++ wants) (sym (at_end nodes rows p))
            ∙ ap (λ l. map grant_ask (asked (served_by s) (needs0 now)) ++ l) (ap (wants_of now creds call t) lent
            ∙ wants_alike now creds call t (as_lent s (took first (map told goes.given))) (as_lent s (took s1 (map told goes.given))) (ap (as_lent s) near)
            ∙ ap (λ x. wants_of now creds call t (as_lent s x)) (sym tolds)) in
            subst (λ l. AskedBy end l (asks_from s (needs0 now) now creds call t (took s (map told all)))) these (subst (λ l. AskedBy end (map ask given ++ map ask (goes.given ++ goes.last)) l) wanted' a);
        after = goes.after;
      }
