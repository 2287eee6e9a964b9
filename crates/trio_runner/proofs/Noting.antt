-- The calls of a session at a desk over the controller, as the definitions note them.
use Rattle.trio_runner.proofs.Words.{◌++◌, ◌∙◌, ◌∷◌, ◌≡◌, Again, AreBack, AreMoves, ArePossible, Ask, Begun, Bool, BusyMode, Call, CallLine, Called, Calls, Chmod, ChmodCalled, ChmodTried, Controller, Creds, DeskSeen, DirTried, Entry, EntryCalled, FileCalled, FileTried, GivesUp, Happens, HonestComes, HonestLine, LeftOut, LibNo, LineAnswer, List, LogsCall, MatchBool, MayCall, Mode, ModeSet, Move, Nodes, NotModeSet, Noted, Notes, Once, Option, Outcome, Path, Row, SessionCalled, SessionSeen, SetMode, Settle, SettleLine, Settled, Settles, Shown, State, Told, Tried, TriedSo, Unbegun, Unsettled, [], all_back, ap, apart, append-nil, append_assoc, back_call, back_entries, batch_nodes, desk_of, entries_of, entries_told, false, given_back, inl, is_dir_call, lent_to, map, refl, sees, subst, sym, took, true, unnoted}
use Rattle.trio_nodes.specs.declared.call.Call as call
use Rattle.trio_walk.specs.Asks.{IsUnsettled}
use Rattle.trio_calls_file.specs.Asks as on_file
use Rattle.trio_calls_dir.specs.Asks as on_dir
use Rattle.trio_runner.specs.Moves.{move_of}
use Rattle.trio_runner.proofs.Moves.{entries_joined, moves_joined}

-- ---- a call, apart

-- calls as moves, with these entries
pub record Moved (lib : LibNo) (s : State) (calls : List Call) (entries : List Entry) (s' : State) : Type 0 where
  pub moves : List Move
  pub are : AreMoves lib s calls moves s'
  pub entries_are : entries_of lib calls moves ≡ entries

one_moved : (lib : LibNo) (s : State) (c : Call) (s' : State) → Happens s lib c.ask c.told s' → Moved lib s (c ∷ []) (entries_told s lib c.ask c.told) s'
one_moved lib s c s' h = record {
  moves = move_of lib s c s' ∷ [];
  are = (refl, h, refl);
  entries_are = append-nil (entries_told s lib c.ask c.told);
}

both_moved : (lib : LibNo) (s : State) (first later : List Call) (es fs : List Entry) (middle s' : State) → Moved lib s first es middle → Moved lib middle later fs s' → Moved lib s (first ++ later) (es ++ fs) s'
both_moved lib s first later es fs middle s' a b = record {
  moves = a.moves ++ b.moves;
  are = moves_joined lib s first later a.moves b.moves middle s' a.are b.are;
  entries_are = entries_joined lib s first later a.moves b.moves middle a.are ∙ ap (λ l. l ++ entries_of lib later b.moves) a.entries_are ∙ ap (λ l. es ++ l) b.entries_are;
}

-- read leases that are given back
backs_moved : (lib : LibNo) (s : State) (back : List Shown) → AreBack s lib back → Moved lib s (map back_call back) (back_entries lib back) (all_back s lib back)
backs_moved lib s [] a = record { moves = []; are = refl; entries_are = refl }
backs_moved lib s (f ∷ fs) a =
    let given : State = given_back s lib.0 f.ino in
    let h : Happens s lib (back_call f).ask (back_call f).told given = record { back = tt; given = a.0; is_step = inl (refl, refl); lease = tt } in
    both_moved lib s (back_call f ∷ []) (map back_call fs) (entries_told s lib (back_call f).ask (back_call f).told) (back_entries lib fs) given (all_back s lib (f ∷ fs))
    (one_moved lib s (back_call f) given h) (backs_moved lib given fs a.1)

-- a call behind read leases that are given back
after_backs : (lib : LibNo) (s : State) (back : List Shown) (c : Call) (s' : State) → AreBack s lib back → Happens (all_back s lib back) lib c.ask c.told s'
    → Moved lib s (map back_call back ++ c ∷ []) (back_entries lib back ++ entries_told (all_back s lib back) lib c.ask c.told) s'
after_backs lib s back c s' a h =
    both_moved lib s (map back_call back) (c ∷ []) (back_entries lib back) (entries_told (all_back s lib back) lib c.ask c.told) (all_back s lib back) s'
    (backs_moved lib s back a) (one_moved lib (all_back s lib back) c s' h)

pub apart_moved : (lib : LibNo) (s : State) (ask : Ask) (told : Told) (s' : State) → Happens s lib ask told s' → Moved lib s (apart ask told) (entries_told s lib ask told) s'
apart_moved lib s (Settle parcel back calls) Settled s' h =
    after_backs lib s back (record { ask = Settle parcel [] calls; told = Settled }) s' h.back (record { back = tt; given = h.given; is_step = h.is_step; lease = tt })
apart_moved lib s (SetMode ino mode back call) ModeSet s' h =
    after_backs lib s back (record { ask = SetMode ino mode [] call; told = ModeSet }) s' h.back (record { back = tt; given = h.given; is_step = h.is_step; lease = tt })
apart_moved lib s (SetMode ino mode back call) (NotModeSet (BusyMode holder)) s' h = record { moves = []; are = h.is_step.1; entries_are = refl }
apart_moved lib s ask told s' h = one_moved lib s (record { ask = ask; told = told }) s' h

-- ---- one desk follows another

-- where each call of one desk is one of the other, which stands for it
module _ {D E : Type 0} (called : D → Ask → Told → D → Type 0) (noted : E → Ask → Told → E → Type 0) (seen : D → DeskSeen) (seen' : E → DeskSeen) (Is : D → E → Type 0)
    (same : (d : D) (e : E) → Is d e → seen d ≡ seen' e) (step : (d : D) (e : E) (ask : Ask) (told : Told) (d' : D) → Is d e → called d ask told d' → (e' : E) × noted e ask told e' × Is d' e') where
  -- this came of it, at a desk that stands for this one
  abbrev pub Follows : (E → Type 0) → D → Type 0
  Follows P d' = (e' : E) × P e' × Is d' e'

  pub calls_follow : (cs : List Call) (d d' : D) (e : E) → Is d e → Calls called d cs d' → Follows (Calls noted e cs) d'
  calls_follow [] d d' e is made = (e, refl, subst (λ x. Is x e) (sym made) is)
  calls_follow (c ∷ cs) d d' e is made =
      let one = step d e c.ask c.told made.0 is made.1 in
      let rest = calls_follow cs made.0 d' one.0 one.2 made.2 in
      (rest.0, (one.0, one.1, rest.1), rest.2)

  -- a try of which something is true by the credentials of its library
  tried_follows : (Leaves : SessionSeen → SessionSeen → Type 0) (Says : Creds → SessionSeen → List Ask → Nodes → Type 0) (d d' : D) (e : E) (s s' : SessionSeen) (end : Outcome) → Is d e
      → Tried called seen d s Leaves (Says (seen d').creds) end d' s' → Follows (λ e'. Tried noted seen' e s Leaves (Says (seen' e').creds) end e' s') d'
  tried_follows Leaves Says d d' e s s' end is t =
      let calls : List Call = t.given ++ t.last in
      let made = calls_follow calls d d' e is t.made in
      let Shows : DeskSeen → Type 0 = λ desk.
      (nodes : Nodes) (rows : List (Option Row)) → ArePossible desk s'.parcel s'.reads nodes rows
      → Says desk.creds (took s (map (λ (c : Call). c.told) t.given)) (map (λ (c : Call). c.ask) calls) (batch_nodes desk.creds s.calls nodes) in (
        made.0,
        record {
          given = t.given;
          last = t.last;
          each = t.each;
          made = made.1;
          ends = t.ends;
          leaves = t.leaves;
          shown = subst Shows (same d' made.0 made.2) t.shown;
        },
        made.2,
      )

  file_tried_follows : (k : call.Call) (d d' : D) (e : E) (s s' : SessionSeen) (end : Outcome) → Is d e → FileTried called seen k d s end d' s' → Follows (λ e'. FileTried noted seen' k e s end e' s') d'
  file_tried_follows k d d' e s s' end is t =
      let a = tried_follows (on_file.Leaves k t.0 end) (λ creds all asks now. on_file.TriedIn creds s k end t.0 asks now) d d' e s s' end is t.1 in
      (a.0, (t.0, a.1), a.2)

  dir_tried_follows : (k : call.Call) (d d' : D) (e : E) (s s' : SessionSeen) (end : Outcome) → Is d e → DirTried called seen k d s end d' s' → Follows (λ e'. DirTried noted seen' k e s end e' s') d'
  dir_tried_follows k d d' e s s' end is t =
      let a = tried_follows (on_dir.Leaves s.creds k t.0 end) (λ creds. on_dir.TriedIn creds s k end t.0) d d' e s s' end is t.1 in
      (a.0, (t.0, a.1), a.2)

  pub settles_follow : (d d' : D) (e : E) (s s' : SessionSeen) → Is d e → Settles called d s d' s' → Follows (λ e'. Settles noted e s e' s') d'
  settles_follow d d' e s s' is t =
      let one = step d e (Settle s.parcel s.reads s.calls) Settled d' is t.made in
      (one.0, record { made = one.1; empty = t.empty }, one.2)

  unsettled_follows : (d d' : D) (e : E) (s s' : SessionSeen) → Is d e → IsUnsettled called d s d' s' → Follows (λ e'. IsUnsettled noted e s e' s') d'
  unsettled_follows d d' e s s' is t =
      let one = step d e _ _ d' is t.made in
      (one.0, record { made = one.1; same = t.same }, one.2)

  -- a call each of whose tries is one at the other desk
  called_follows : (Try : D → SessionSeen → Outcome → D → SessionSeen → Type 0) (Try' : E → SessionSeen → Outcome → E → SessionSeen → Type 0)
      (each : (d d' : D) (e : E) (s s' : SessionSeen) (end : Outcome) → Is d e → Try d s end d' s' → Follows (λ e'. Try' e s end e' s') d')
      (d d' : D) (e : E) (s s' : SessionSeen) (end : Outcome) → Is d e → Called called Try d s end d' s' → Follows (λ e'. Called noted Try' e s end e' s') d'
  called_follows Try Try' each d d' e s s' end is (Once real t) = (let a = each d d' e s s' end is t in (a.0, Once real a.1, a.2))
  called_follows Try Try' each d d' e s s' end is (Unsettled holder d1 s1 none t u) =
      let a = each d d1 e s s1 _ is t in
      let b = unsettled_follows d1 d' a.0 s1 s' a.2 u in
      (b.0, Unsettled holder a.0 s1 none a.1 b.1, b.2)
  called_follows Try Try' each d d' e s s' end is (Again holder d1 d2 s1 s2 real t u v) =
      let a = each d d1 e s s1 _ is t in
      let b = settles_follow d1 d2 a.0 s1 s2 a.2 u in
      let c = each d2 d' b.0 s2 s' end b.2 v in
      (c.0, Again holder a.0 b.0 s1 s2 real a.1 b.1 c.1, c.2)
  called_follows Try Try' each d d' e s s' end is (GivesUp first last d1 d2 d3 s1 s2 s3 busy other t u v w) =
      let a = each d d1 e s s1 _ is t in
      let b = settles_follow d1 d2 a.0 s1 s2 a.2 u in
      let c = each d2 d3 b.0 s2 s3 _ b.2 v in
      let f = settles_follow d3 d' c.0 s3 s' c.2 w in
      (f.0, GivesUp first last a.0 b.0 c.0 s1 s2 s3 busy other a.1 b.1 c.1 f.1, f.2)
  called_follows Try Try' each d d' e s s' end is (LeftOut first last d1 d2 d3 s1 s2 s3 none t u v w) =
      let a = each d d1 e s s1 _ is t in
      let b = settles_follow d1 d2 a.0 s1 s2 a.2 u in
      let c = each d2 d3 b.0 s2 s3 _ b.2 v in
      let f = unsettled_follows d3 d' c.0 s3 s' c.2 w in
      (f.0, LeftOut first last a.0 b.0 c.0 s1 s2 s3 none a.1 b.1 c.1 f.1, f.2)

  chmod_tried_follows : (path : Path) (mode : Mode) (d d' : D) (e : E) (s s' : SessionSeen) (end : Outcome) → Is d e → ChmodTried called seen path mode d s end d' s' → Follows (λ e'. ChmodTried noted seen' path mode e s end e' s') d'
  chmod_tried_follows path mode d d' e s s' end is t =
      let made = calls_follow ((t.given ++ t.ungiven) ++ t.last) d d' e is t.made in
      let all : SessionSeen = lent_to s t.given in
      let Shows : DeskSeen → Type 0 = λ desk.
      (nodes : Nodes) (rows : List (Option Row)) → ArePossible desk all.parcel all.reads nodes rows
      → TriedSo desk.creds s path mode t.comes (map (λ (c : Call). c.ask) (t.given ++ t.ungiven)) nodes in (
        made.0,
        record {
          comes = t.comes;
          refuses = t.refuses;
          given = t.given;
          ungiven = t.ungiven;
          last = t.last;
          each = t.each;
          made = made.1;
          ends = t.ends;
          leaves = t.leaves;
          others = t.others;
          shown = subst Shows (same d' made.0 made.2) t.shown;
        },
        made.2,
      )

  chmod_follows : (path : Path) (mode : Mode) (d d' : D) (e : E) (s s' : SessionSeen) (end : Outcome) → Is d e → ChmodCalled called seen d s path mode end d' s' → Follows (λ e'. ChmodCalled noted seen' e s path mode end e' s') d'
  chmod_follows path mode d d' e s s' end is (Unbegun none u) = (let a = unsettled_follows d d' e s s' is u in (a.0, Unbegun none a.1, a.2))
  chmod_follows path mode d d' e s s' end is (Begun d1 s1 t c) =
      let a = settles_follow d d1 e s s1 is t in
      let b = called_follows (ChmodTried called seen path mode) (ChmodTried noted seen' path mode) (chmod_tried_follows path mode) d1 d' a.0 s1 s' end a.2 c in
      (b.0, Begun a.0 s1 a.1 b.1, b.2)

  leased_follows : (d d' : D) (e : E) (s s' : SessionSeen) (k : call.Call) (end : Outcome) → Is d e → (b : Bool) → MatchBool b (EntryCalled called seen d s k end d' s') (FileCalled called seen d s k end d' s')
      → Follows (λ e'. MatchBool b (EntryCalled noted seen' e s k end e' s') (FileCalled noted seen' e s k end e' s')) d'
  leased_follows d d' e s s' k end is true c = called_follows (DirTried called seen k) (DirTried noted seen' k) (dir_tried_follows k) d d' e s s' end is c
  leased_follows d d' e s s' k end is false c = called_follows (FileTried called seen k) (FileTried noted seen' k) (file_tried_follows k) d d' e s s' end is c

  call_follows : (d d' : D) (e : E) (s s' : SessionSeen) (k : call.Call) (end : Outcome) → Is d e → SessionCalled called seen d s k end d' s' → Follows (λ e'. SessionCalled noted seen' e s k end e' s') d'
  call_follows d d' e s s' (Chmod path mode) end is c = chmod_follows path mode d d' e s s' end is c
  call_follows d d' e s s' k end is c = leased_follows d d' e s s' k end is (is_dir_call k) c

  pub line_follows : (d d' : D) (e : E) (s s' : SessionSeen) (line : HonestLine) (told : LineAnswer) → Is d e → HonestComes called seen d s line told d' s' → Follows (λ e'. HonestComes noted seen' e s line told e' s') d'
  line_follows d d' e s s' (CallLine k) told is c =
      let a = call_follows d d' e s s' k c.end is c.made in
      (a.0, record { end = c.end; made = a.1; told_is = c.told_is; may = subst (λ desk. MayCall desk s') (same d' a.0 a.2) c.may }, a.2)
  line_follows d d' e s s' SettleLine told is c = (let a = settles_follow d d' e s s' is c.0 in (a.0, (a.1, c.1), a.2))

-- ---- a desk over the controller

module _ {D N : Type 0} (called : D → Ask → Told → D → Type 0) (ctl : D → Controller) (name : D → N) (lib : D → LibNo)
    (is : (d : D) (ask : Ask) (told : Told) (d' : D) → called d ask told d' → Happens (ctl d).state (lib d) ask told (ctl d').state × (name d' ≡ name d) × (lib d' ≡ lib d) × LogsCall (ctl d) (lib d) ask told (ctl d'))
    (own : LibNo) (x : Controller) (of : N) where
  -- the desk stands where these notes end, of a turn that began at this controller
  pub record Stands (d : D) (n : Noted) : Type 0 where
    pub state : (ctl d).state ≡ n.state
    pub happen : AreMoves own x.state n.calls n.moves n.state
    pub log_is : (ctl d).log ≡ x.log ++ entries_of own n.calls n.moves
    pub first : (ctl d).first ≡ x.first
    pub begun : (ctl d).begun ≡ x.begun
    pub same : name d ≡ of
    pub same_lib : lib d ≡ own

  pub begins : (d : D) → ctl d ≡ x → name d ≡ of → lib d ≡ own → Stands d (unnoted x.state)
  begins d at named at_lib = record {
    state = ap (λ (y : Controller). y.state) at;
    happen = refl;
    log_is = ap (λ (y : Controller). y.log) at ∙ sym (append-nil x.log);
    first = ap (λ (y : Controller). y.first) at;
    begun = ap (λ (y : Controller). y.begun) at;
    same = named;
    same_lib = at_lib;
  }

  pub seen_same : (d : D) (n : Noted) → Stands d n → desk_of (ctl d).state (lib d) ≡ sees own n
  seen_same d n h = ap (λ l. desk_of (ctl d).state l) h.same_lib ∙ ap (λ t. desk_of t own) h.state

  pub call_stands : (d : D) (n : Noted) (ask : Ask) (told : Told) (d' : D) → Stands d n → called d ask told d' → (n' : Noted) × Notes own n ask told n' × Stands d' n'
  call_stands d n ask told d' h c =
      let one = is d ask told d' c in
      let happens : Happens n.state own ask told (ctl d').state =
      subst (λ l. Happens n.state l ask told (ctl d').state) h.same_lib (subst (λ t. Happens t (lib d) ask told (ctl d').state) h.state one.0) in
      let m = apart_moved own n.state ask told (ctl d').state happens in
      let n' : Noted = record { state = (ctl d').state; calls = n.calls ++ apart ask told; moves = n.moves ++ m.moves } in
      let old : List Entry = entries_of own n.calls n.moves in
      let told_here : entries_told (ctl d).state (lib d) ask told ≡ entries_of own (apart ask told) m.moves =
      ap (λ l. entries_told (ctl d).state l ask told) h.same_lib ∙ ap (λ t. entries_told t own ask told) h.state ∙ sym m.entries_are in (
        n',
        record { happens = happens; more = m.moves; are_moves = m.are; calls_are = refl; moves_are = refl },
        record {
          state = refl;
          happen = moves_joined own x.state n.calls (apart ask told) n.moves m.moves n.state (ctl d').state h.happen m.are;
          log_is = one.3.log ∙ ap (λ l. l ++ entries_told (ctl d).state (lib d) ask told) h.log_is ∙ append_assoc x.log old (entries_told (ctl d).state (lib d) ask told)
              ∙ ap (λ l. x.log ++ (old ++ l)) told_here
              ∙ ap (λ l. x.log ++ l) (sym (entries_joined own x.state n.calls (apart ask told) n.moves m.moves n.state h.happen));
          first = one.3.first ∙ h.first;
          begun = one.3.begun ∙ h.begun;
          same = one.1 ∙ h.same;
          same_lib = one.2 ∙ h.same_lib;
        },
      )

  -- a line of a session, and its settle
  pub line_noted : (d d' : D) (s s' : SessionSeen) (line : HonestLine) (told : LineAnswer) → Stands d (unnoted x.state) → HonestComes called (λ y. desk_of (ctl y).state (lib y)) d s line told d' s'
      → (n' : Noted) × HonestComes (Notes own) (sees own) (unnoted x.state) s line told n' s' × Stands d' n'
  line_noted d d' s s' line told h c = line_follows called (Notes own) (λ y. desk_of (ctl y).state (lib y)) (sees own) Stands seen_same call_stands d d' (unnoted x.state) s s' line told h c

  pub settle_noted : (d d' : D) (s s' : SessionSeen) → Stands d (unnoted x.state) → Settles called d s d' s' → (n' : Noted) × Settles (Notes own) (unnoted x.state) s n' s' × Stands d' n'
  settle_noted d d' s s' h c = settles_follow called (Notes own) (λ y. desk_of (ctl y).state (lib y)) (sees own) Stands seen_same call_stands d d' (unnoted x.state) s s' h c
