-- One try of a change of mode, from its search on.
use Rattle.trio_calls_dir.proofs.Words.{◌++◌, ◌<◌, ◌∙◌, ◌∷◌, ◌≡◌, ◌≢◌, ◌≤◌, Applied, AreAsked, ArePossible, Ask, At, BadMode, Busy, BusyGrant, BusyMode, Call, Calls, Chmod, ChmodTry, ComesSo, Creds, Denied, DeniedGrant, DeskSeen, Done, EndsBy, EndsHandedIn, EndsModed, Exists, Finds, Grant, HasNothing, HasReadsAlone, Holder, In, InAllShown, IntoItself, IsAlike, IsBusyWalk, IsChmod, IsDir, IsRefusal, IsRefusedAs, IsReplied, IsReply, IsRetold, LeavesBy, List, Made, MayCall, MayWalk, Mode, ModeFault, NamesOther, Needed, NoGrantMemory, NoInodes, NoMemory, NoModeMemory, NoSpace, NoWalkMemory, Nodes, NotDir, NotEmpty, NotFound, NotLent, NotLive, NotMade, NotOwner, NotSettled, OneCall, Option, OthersHold, Outcome, Parcel, Path, RefusesSo, Replied, Reply, Row, SameDesk, SessionSeen, Settled, Told, TooLarge, TriesCall, TryEnd, TryEnds, WalkEnd, Walked, [], alike_then, ap, append-nil, applied, arith, asked, batch_nodes, calls_then, chmod_needs, comes_of, cond, emptied, false, given_all, grant_ask, hand_in_ask, inl, inr, is_done, lent_call, lib_same, map, map-append, mode_ask, moment_possible, need_of, possible_then, refl, refused, served_by, shows_root, subst, sym, try_end, ℕ, IsLink, NotLink}
use Rattle.trio_rights.specs.declared.rights.LibNo.{LibNo}
use Rattle.trio_nodes.specs.After.{lacks_room}
use Rattle.trio_desk.specs.Calls as desk_calls
use Rattle.trio_desk.specs.Refusals.{HasModeCause, HasMoment}
use Rattle.trio_calls_dir.specs.Chmods.{AsksSo, BreaksOff, ChmodTried, Comes, EndsAs, EndsDenied, HandsIn, SetsMode, TriedSo, lent_to}
use Rattle.trio_walk.specs.declared.attempts.TryEnd.TheVariants.{NoMemory as NoMemoryTry}
use Rattle.trio_walk.proofs.Stops.{way_asks}
use Rattle.trio_walk.proofs.OwnBusy.{nothing_own}
use Rattle.trio_walk.proofs.Ways.{way_went}
use Rattle.trio_calls_dir.proofs.ChmodsFaults.{comes_live, comes_owned}

-- ---- the session

-- the session stays the library's
pub lib_kept : (desk desk1 desk' : DeskSeen) (s s' : SessionSeen) → MayCall desk s → MayCall desk' s' → desk1.lib ≡ desk.lib → desk'.lib ≡ desk1.lib → s'.lib ≡ s.lib
lib_kept desk desk1 desk' s s' may may' a b = may'.edits.on.lib ∙ b ∙ a ∙ sym may.edits.on.lib

-- ---- a refusal

-- it isn't want of room
refusal_room : (reply : Reply) → IsRefusal reply → lacks_room reply ≡ false
refusal_room NotFound r = refl
refusal_room Exists r = refl
refusal_room NotDir r = refl
refusal_room IsDir r = refl
refusal_room NotEmpty r = refl
refusal_room Denied r = refl
refusal_room IntoItself r = refl
refusal_room (IsReplied answer) r = absurd r
refusal_room (NoSpace w f) r = absurd r
refusal_room (NoInodes w f) r = absurd r
refusal_room TooLarge r = absurd r
refusal_room IsLink r = absurd r
refusal_room NotLink r = absurd r

-- nor that the call is done
refusal_done : (reply : Reply) → IsRefusal reply → is_done reply ≡ false
refusal_done NotFound r = refl
refusal_done Exists r = refl
refusal_done NotDir r = refl
refusal_done IsDir r = refl
refusal_done NotEmpty r = refl
refusal_done Denied r = refl
refusal_done IntoItself r = refl
refusal_done (IsReplied answer) r = absurd r
refusal_done (NoSpace w f) r = absurd r
refusal_done (NoInodes w f) r = absurd r
refusal_done TooLarge r = absurd r
refusal_done IsLink r = absurd r
refusal_done NotLink r = absurd r

-- a call that changes a mode, and that the tree refuses
refused_as : (desk : DeskSeen) (now : Nodes) (path : Path) (mode : Mode) (reply : Reply) → IsRefusal reply → applied now desk.creds (Chmod path mode) 0 ≡ refused now reply → IsRefusedAs desk (Chmod path mode) reply now
refused_as desk now path mode reply refusal e =
    let a : Applied = applied now desk.creds (Chmod path mode) 0 in
    let after : cond (lacks_room reply) now a.nodes ≡ a.nodes = ap (λ b. cond b now a.nodes) (refusal_room reply refusal) in
    (inl (sym (ap (λ (x : Applied). x.reply) e), after), refl, after ∙ ap (λ (x : Applied). x.nodes) e)

-- ---- what was asked

-- as far as the search came
asks_so : (end : WalkEnd) (these wanted : List Needed) → AreAsked end these wanted → AsksSo (comes_of end) (map grant_ask these) (map grant_ask wanted)
asks_so (At n) these wanted e = ap (map grant_ask) e
asks_so (IsReply reply) these wanted e = ap (map grant_ask) e
asks_so (IsBusyWalk holder) these wanted e = (map grant_ask e.0, ap (map grant_ask) e.1 ∙ map-append grant_ask these e.0)
asks_so NoWalkMemory these wanted e = (map grant_ask e.0, ap (map grant_ask) e.1 ∙ map-append grant_ask these e.0)

-- all of it is the first of it
breaks_so : (comes : Comes) (these wanted : List Ask) → AsksSo comes these wanted → AsksSo BreaksOff these wanted
breaks_so BreaksOff these wanted a = a
breaks_so (HandsIn reply) these wanted a = ([], a ∙ sym (append-nil these))
breaks_so (SetsMode ino) these wanted a = ([], a ∙ sym (append-nil these))

-- ---- what is left

leaves_then : (x y s' : SessionSeen) (end : Outcome) → IsAlike x y → LeavesBy y end s' → LeavesBy x end s'
leaves_then x y s' (Replied reply) e h = h ∙ ap (λ (q : SessionSeen). record (emptied q) { finds = s'.finds; room = s'.room }) e
leaves_then x y s' (Busy holder) e h = alike_then x y s' e h
leaves_then x y s' NoMemory e h = alike_then x y s' e h

-- ---- how it ends

-- want of memory, after a search that came to a refusal or lacked memory
short_ends : (end : WalkEnd) (last : List desk_calls.Call) (need : List Needed) → EndsBy end last need → ((n : ℕ) → end ≡ At n → ⊥) → ((holder : Holder) → end ≡ IsBusyWalk holder → ⊥) → TryEnds NoMemory last
short_ends (At n) last need e at busy = absurd (at n refl)
short_ends (IsBusyWalk holder) last need e at busy = absurd (busy holder refl)
short_ends (IsReply reply) last need (inl e) at busy = inl e.0
short_ends (IsReply reply) last need (inr e) at busy = inr (record { ask = Grant 1 e.0; told = NotLent (DeniedGrant 1) }, e.2, inr (e.0, refl))
short_ends NoWalkMemory last need (inl e) at busy = inl e.0
short_ends NoWalkMemory last need (inr e) at busy = inr (record { ask = Grant e.0 e.1; told = NotLent NoGrantMemory }, e.2, inl (inl refl))

denied_ends : (reply : Reply) (last : List desk_calls.Call) (need : List Needed) → EndsBy (IsReply reply) last need → EndsDenied reply last
denied_ends reply last need (inl e) = inl e.0
denied_ends reply last need (inr e) = inr (e.1, record { ask = Grant 1 e.0; told = NotLent (DeniedGrant 1) }, e.2, (e.0, refl))

-- a call that is handed in isn't Busy
handed_others : (lib : LibNo) (reply : Reply) (told : Told) (end : Outcome) → EndsHandedIn reply told end → NamesOther lib end
handed_others lib reply Settled end e = subst (NamesOther lib) (sym e) tt
handed_others lib reply NotSettled end e = subst (NamesOther lib) (sym e) tt
handed_others lib reply told end e = absurd e

module _ {D : Type 0} (called : D → Ask → Told → D → Type 0) (seen : D → DeskSeen) (d : D) (s : SessionSeen) (path : Path) (mode : Mode) (may : MayCall (seen d) s) (none : HasNothing s)
    (end : WalkEnd) (d1 : D) (s1 : SessionSeen) (w : Walked called seen d s (Finds (seen d1) s path mode end) end d1 s1) (walks : MayWalk (seen d1) s1) (alone : HasReadsAlone s1) where
  abbrev given : List desk_calls.Call
  given = map lent_call w.more

  abbrev all : SessionSeen
  all = lent_to s given

  alike : IsAlike all s1
  alike = (way_went called seen d s w.more w.last d1 s1 w.way).alike

  -- what is true of it
  pub finds : (nodes : Nodes) (rows : List (Option Row)) → ArePossible (seen d1) s1.parcel s1.reads nodes rows → Finds (seen d1) s path mode end (map need_of w.more ++ w.need) nodes
  finds nodes rows p =
      subst (Finds (seen d1) s path mode end (map need_of w.more ++ w.need)) (ap (λ (cs : List Done). batch_nodes (seen d1).creds cs nodes) alone.calls) (w.shown nodes rows p)

  tried_so : (desk : DeskSeen) → SameDesk (seen d1) desk → (nodes : Nodes) (rows : List (Option Row)) → ArePossible desk all.parcel all.reads nodes rows
      → TriedSo desk.creds s path mode (comes_of end) (map (λ (c : desk_calls.Call). c.ask) (given ++ w.last)) nodes
  tried_so desk same nodes rows p =
      let here : ArePossible desk s1.parcel s1.reads nodes rows = subst (λ (q : SessionSeen). ArePossible desk q.parcel q.reads nodes rows) (sym alike) p in
      let v = finds nodes rows (possible_then (seen d1) desk s1 same nodes rows here) in
      let wanted : List Needed = asked (served_by s) (chmod_needs nodes (seen d1).creds (shows_root s) path) in
      subst (λ (k : Creds). TriedSo k s path mode (comes_of end) (map (λ (c : desk_calls.Call). c.ask) (given ++ w.last)) nodes) (sym same.creds)
      (record {
        so = v.so;
        asks = subst (λ l. AsksSo (comes_of end) l (map grant_ask wanted)) (way_asks end w.more w.last w.need w.ends) (asks_so end (map need_of w.more ++ w.need) wanted v.asks);
      })

  broken_so : (desk : DeskSeen) → SameDesk (seen d1) desk → (nodes : Nodes) (rows : List (Option Row)) → ArePossible desk all.parcel all.reads nodes rows
      → TriedSo desk.creds s path mode BreaksOff (map (λ (c : desk_calls.Call). c.ask) (given ++ w.last)) nodes
  broken_so desk same nodes rows p =
      let t = tried_so desk same nodes rows p in
      record {
        so = tt;
        asks = breaks_so (comes_of end) (map (λ (c : desk_calls.Call). c.ask) (given ++ w.last)) (map grant_ask (asked (served_by s) (chmod_needs nodes desk.creds (shows_root s) path))) t.asks;
      }

  -- it is broken off, with no call more
  broken : (outcome : Outcome) (s' : SessionSeen) → EndsAs all path mode BreaksOff w.last [] outcome → LeavesBy all outcome s' → NamesOther s.lib outcome → ChmodTried called seen path mode d s outcome d1 s'
  broken outcome s' ends leaves others = record {
    comes = BreaksOff;
    refuses = tt;
    given = given;
    ungiven = w.last;
    last = [];
    each = given_all w.more;
    made = subst (λ l. Calls called d l d1) (sym (append-nil (given ++ w.last))) w.way.made;
    ends = ends;
    leaves = leaves;
    others = others;
    shown = broken_so (seen d1) (record { lib = refl; creds = refl; sizes = refl; root = refl });
  }

  -- by another library
  busy_others : (holder : Holder) → EndsBy (IsBusyWalk holder) w.last w.need → holder.lib ≢ s.lib
  busy_others holder e = λ mine.
      nothing_own s e.0 e.1 none (w.way.others e.0 e.1 holder (subst (λ l. In (record { ask = Grant e.0 e.1; told = NotLent (BusyGrant holder) }) l) (sym e.2) (inl refl)) mine)

  pub tried_busy : (holder : Holder) → end ≡ IsBusyWalk holder → ChmodTried called seen path mode d s (Busy holder) d1 s1
  tried_busy holder is =
      let e : EndsBy (IsBusyWalk holder) w.last w.need = subst (λ x. EndsBy x w.last w.need) is w.ends in
      broken (Busy holder) s1 (refl, (e.0, e.1, e.2)) alike (busy_others holder e)

  -- there was no memory, also for a refusal that was to be handed in
  pub tried_short : ((n : ℕ) → end ≡ At n → ⊥) → ((holder : Holder) → end ≡ IsBusyWalk holder → ⊥) → (s' : SessionSeen) → IsAlike s1 s' → ChmodTried called seen path mode d s NoMemory d1 s'
  tried_short at busy s' near = broken NoMemory s' (refl, short_ends end w.last w.need w.ends at busy) (alike_then all s1 s' alike near) tt

  module _ (d' : D) (s' : SessionSeen) (outcome : Outcome) (same : SameDesk (seen d1) (seen d')) (told : Told) where
    -- a refusal was handed in
    pub tried_handed : (reply : Reply) → end ≡ IsReply reply → IsRefusal reply → called d1 (hand_in_ask s1 (Chmod path mode) reply) told d' → EndsHandedIn reply told outcome → LeavesBy s1 outcome s' → ChmodTried called seen path mode d s outcome d' s'
    tried_handed reply is refusal made ends leaves = record {
      comes = HandsIn reply;
      refuses = refusal_done reply refusal;
      given = given;
      ungiven = w.last;
      last = record { ask = hand_in_ask all (Chmod path mode) reply; told = told } ∷ [];
      each = given_all w.more;
      made =
          calls_then called d d1 d' (given ++ w.last) (record { ask = hand_in_ask all (Chmod path mode) reply; told = told } ∷ []) w.way.made
          (d', subst (λ (q : SessionSeen). called d1 (hand_in_ask q (Chmod path mode) reply) told d') alike made, refl);
      ends = (denied_ends reply w.last w.need (subst (λ x. EndsBy x w.last w.need) is w.ends), told, refl, ends);
      leaves = leaves_then all s1 s' outcome alike leaves;
      others = handed_others s.lib reply told outcome ends;
      shown = λ nodes rows p.
          subst (λ x. TriedSo (seen d').creds s path mode (comes_of x) (map (λ (c : desk_calls.Call). c.ask) (given ++ w.last)) nodes) is (tried_so (seen d') same nodes rows p);
    }

    -- the mode was asked for
    pub tried_moded : (ino : ℕ) → end ≡ At ino → called d1 (mode_ask s1 ino mode (Chmod path mode)) told d' → EndsModed told outcome → LeavesBy s1 outcome s' → NamesOther s1.lib outcome → ChmodTried called seen path mode d s outcome d' s'
    tried_moded ino is made ends leaves others = record {
      comes = SetsMode ino;
      refuses = tt;
      given = given;
      ungiven = w.last;
      last = record { ask = mode_ask all ino mode (Chmod path mode); told = told } ∷ [];
      each = given_all w.more;
      made =
          calls_then called d d1 d' (given ++ w.last) (record { ask = mode_ask all ino mode (Chmod path mode); told = told } ∷ []) w.way.made
          (d', subst (λ (q : SessionSeen). called d1 (mode_ask q ino mode (Chmod path mode)) told d') alike made, refl);
      ends = ((let e : EndsBy (At ino) w.last w.need = subst (λ x. EndsBy x w.last w.need) is w.ends in e.0), told, refl, ends);
      leaves = leaves_then all s1 s' outcome alike leaves;
      others = subst (λ l. NamesOther l outcome) (lib_same (seen d) (seen d1) s s1 w.more w.way.took) others;
      shown = λ nodes rows p.
          subst (λ x. TriedSo (seen d').creds s path mode (comes_of x) (map (λ (c : desk_calls.Call). c.ask) (given ++ w.last)) nodes) is (tried_so (seen d') same nodes rows p);
    }

  -- ---- what is asked after the search

  so_at : (ino : ℕ) → end ≡ At ino → (nodes : Nodes) (rows : List (Option Row)) → ArePossible (seen d1) s1.parcel s1.reads nodes rows → ComesSo nodes (seen d1).creds path mode (SetsMode ino)
  so_at ino is nodes rows p = subst (λ x. ComesSo nodes (seen d1).creds path mode (comes_of x)) is (finds nodes rows p).so

  -- on whatever nodes are possible with the read leases alone, the walk comes to this file
  pub is_chmod : (ino : ℕ) → end ≡ At ino → IsChmod (seen d1) s1.reads ino mode.0 (Chmod path mode)
  is_chmod ino is nodes rows p = (so_at ino is nodes rows (subst (λ (b : Parcel). ArePossible (seen d1) b s1.reads nodes rows) (sym alone.parcel) p)).1

  -- the tree does the call: so nothing but Busy and want of memory refuses it
  pub refuses_so : (ino : ℕ) → end ≡ At ino → mode.0 ≤ 511 → RefusesSo (seen d1) ino mode
  refuses_so ino is fits fault cause = by fault cause
    where
      so : (m : HasMoment (seen d1)) → ComesSo m.nodes (seen d1).creds path mode (SetsMode ino)
      so m = so_at ino is m.nodes m.rows (moment_possible (seen d1) s1 walks.on m)

      by : (f : ModeFault) → HasModeCause (seen d1) ino mode.0 f → IsRetold f
      by (BusyMode holder) m = tt
      by NoModeMemory m = tt
      by NotLive m = comes_live m.moment.nodes (seen d1).creds path mode ino mode.0 (so m.moment).1 m.cause
      by NotOwner m = comes_owned m.moment.nodes (seen d1).creds path mode ino mode.0 (so m.moment).1 m.moment.tree (so m.moment).0 m.cause
      by BadMode m = (let above : 511 < mode.0 = m.cause in omega arith)

  -- the tree refuses it so
  pub refused_does : (reply : Reply) → end ≡ IsReply reply → IsRefusal reply → InAllShown (seen d1) s1 (IsRefusedAs (seen d1) (Chmod path mode) reply)
  refused_does reply is refusal nodes rows p =
      let now : Nodes = batch_nodes (seen d1).creds s1.calls nodes in
      refused_as (seen d1) now path mode reply refusal (subst (λ x. ComesSo now (seen d1).creds path mode (comes_of x)) is (w.shown nodes rows p).so)

  -- ---- the whole try

  module _ (d' : D) (s' : SessionSeen) (outcome : TryEnd ChmodTry) (same : SameDesk (seen d1) (seen d')) where
    -- a refusal that is handed in, or lacks memory before
    hands : (reply : Reply) → end ≡ IsReply reply → IsRefusal reply
        → OneCall called d1 (hand_in_ask s1 (Chmod path mode) reply) d' (λ told. EndsHandedIn reply told (try_end outcome) × LeavesBy s1 (try_end outcome) s') ((outcome ≡ NoMemoryTry) × IsAlike s1 s')
        → ChmodTried called seen path mode d s (try_end outcome) d' s'
    hands reply is refusal (Made told made then) = tried_handed d' s' (try_end outcome) same told reply is refusal made then.0 then.1
    hands reply is refusal (NotMade here then) =
        subst (λ (q : D). ChmodTried called seen path mode d s (try_end outcome) q s') (sym here)
        (subst (λ (o : TryEnd ChmodTry). ChmodTried called seen path mode d s (try_end o) d1 s') (sym then.0)
        (tried_short (λ n e. let wrong : IsReply reply ≡ At n = sym is ∙ e in cc wrong) (λ holder e. let wrong : IsReply reply ≡ IsBusyWalk holder = sym is ∙ e in cc wrong) s' then.1))

    -- a change of mode that is asked for
    modes : (ino : ℕ) → end ≡ At ino
        → OneCall called d1 (mode_ask s1 ino mode (Chmod path mode)) d' (λ told. EndsModed told (try_end outcome) × LeavesBy s1 (try_end outcome) s' × NamesOther s1.lib (try_end outcome)) ⊥
        → ChmodTried called seen path mode d s (try_end outcome) d' s'
    modes ino is (Made told made then) = tried_moded d' s' (try_end outcome) same told ino is made then.0 then.1 then.2
    modes ino is (NotMade here none) = absurd none

    module _ (call : Call) (of : call ≡ Chmod path mode) where
      pub call_hands : (reply : Reply) → end ≡ IsReply reply → IsRefusal reply
          → OneCall called d1 (hand_in_ask s1 call reply) d' (λ told. EndsHandedIn reply told (try_end outcome) × LeavesBy s1 (try_end outcome) s') ((outcome ≡ NoMemoryTry) × IsAlike s1 s')
          → TriesCall called seen call d s (try_end outcome) d' s'
      call_hands reply is refusal h =
          subst (λ (k : Call). TriesCall called seen k d s (try_end outcome) d' s') (sym of)
          (hands reply is refusal
          (subst (λ (k : Call). OneCall called d1 (hand_in_ask s1 k reply) d' (λ told. EndsHandedIn reply told (try_end outcome) × LeavesBy s1 (try_end outcome) s') ((outcome ≡ NoMemoryTry) × IsAlike s1 s')) of h))

      pub call_modes : (ino : ℕ) → end ≡ At ino
          → OneCall called d1 (mode_ask s1 ino mode call) d' (λ told. EndsModed told (try_end outcome) × LeavesBy s1 (try_end outcome) s' × NamesOther s1.lib (try_end outcome)) ⊥
          → TriesCall called seen call d s (try_end outcome) d' s'
      call_modes ino is h =
          subst (λ (k : Call). TriesCall called seen k d s (try_end outcome) d' s') (sym of)
          (modes ino is
          (subst (λ (k : Call). OneCall called d1 (mode_ask s1 ino mode k) d' (λ told. EndsModed told (try_end outcome) × LeavesBy s1 (try_end outcome) s' × NamesOther s1.lib (try_end outcome)) ⊥) of h))

-- Busy names another library
pub tried_others : {D : Type 0} (called : D → Ask → Told → D → Type 0) (seen : D → DeskSeen) (call : Call) (d : D) (s : SessionSeen) (end : Outcome) (d' : D) (s' : SessionSeen)
    → TriesCall called seen call d s end d' s' → OthersHold s.lib end
tried_others called seen (Chmod path mode) d s (Busy holder) d' s' t = t.others
tried_others called seen (Chmod path mode) d s end d' s' t = tt
tried_others called seen call d s end d' s' t = absurd t
