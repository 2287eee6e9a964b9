-- In a script of one honest library each open grant is its own, and so none of its calls ends busy.
use Rattle.trio_runner.proofs.Words.{if◌then◌else◌, ◌&&◌, ◌++◌, ◌<◌, ◌∙◌, ◌∷◌, ◌≡◌, ◌≤◌, Again, Allot, AreMoves, Ask, AtStart, BadMode, BeginsWith, Begun, Bool, BreaksOff, Bundle, Busy, BusyGrant, BusyMode, Call, CallLine, Called, Calls, Chmod, ChmodCalled, ChmodTried, Comes, CtlAnswer, Denied, DeskSeen, DirTried, EndAnswer, Ends, EndsAs, EndsHandedIn, EndsModed, EntryCalled, Event, FileCalled, FileTried, GiveBack, GivesUp, Grant, GrantFault, GrantKind, HandsIn, Happens, Heard, Holder, Honest, HonestComes, HonestLine, Image, In, In-cases, In-map, InSession, IsAccepted, IsRefused, LeftOut, LibNo, LineAnswer, List, MatchBool, Mode, ModeFault, ModeSet, Move, NoMemory, NoModeMemory, NoParent, Nodes, None, NotLent, NotLive, NotModeSet, NotOwner, NotSettled, Noted, Notes, Once, OpenGrant, Option, Outcome, Parted, Path, Placed, Players, Plays, Release, Replied, Row, Says, SaysHonest, ScriptLib, ScriptLine, SessionCalled, SessionSeen, SetMode, SetsMode, Settle, SettleLine, SettledAll, Settles, Share, Shown, Some, State, Step, TakesTurn, Things, Told, Tried, TryEnds, Turn, TurnComes, Unbegun, Unsettled, [], all_back, answer_of, ap, append-nil, arith, bundle_of, creds_of, eqb, event_of, false, filter, filter-In, get_or, given_back, grant_fault, granted_to, grants_after, handed_back, inl, inr, is_dir_call, is_in_bundle, is_read, is_some, length, lent_part, lent_to, map, map-In, mode_ask, mode_fault, moded_to, nat_lt, not, nothing, opened, option_map, refl, row_at, sees, set, share_of, slice_get, subst, sym, told_outcome, told_to, true, turns_of, unnoted, untold, with_answer, with_end, ℕ}
use Rattle.std.specs.Prelude.{◌||◌}
use Rattle.trio_nodes.specs.declared.answers.ModeFault.TheVariants.{NotLive as NotLiveFile}
use Rattle.trio_nodes.specs.declared.call.Call as call
use Rattle.trio_nodes.specs.declared.call.Reply as reply
use Rattle.trio_state.specs.Bundles.{Ends as BundleEnds}
use Rattle.trio_state.specs.Grants.{denied_by, denied_or, excluding, holder_of, lacks_parent}
use Rattle.trio_state.specs.Step.{library_of}
use Rattle.trio_state.specs.Step as step
use Rattle.trio_laws.proofs.Cases.{after_allot, after_no_grant, after_no_mode}
use Rattle.trio_ctl.specs.Desk.{after_mode_refusal}
use Rattle.trio_report.specs.declared.answer.LineAnswer.TheVariants as answered
use Rattle.trio_report.specs.declared.report.EndAnswer.TheVariants.{Settled}
use Rattle.trio_runner.specs.PlayLaws.{PlayedAlone}
use Rattle.trio_runner.proofs.Held.{noted_of, same_library}
use Rattle.trio_runner.proofs.Orders.{Within, turns_within}

-- ---- open grants

-- each open grant is this library's
abbrev pub OwnAlone : LibNo → State → Type 0
OwnAlone lib s = (g : OpenGrant) → In g s.open_grants → g.lib ≡ lib.0

given_back_own : (lib : LibNo) (s : State) (ino : ℕ) → OwnAlone lib s → OwnAlone lib (given_back s lib.0 ino)
given_back_own lib s ino own g i =
    own g (filter-In (λ (x : OpenGrant). not (eqb x.lib lib.0 && eqb x.ino ino && is_read x.kind)) g s.open_grants i).0

all_back_own : (lib : LibNo) (s : State) (back : List Shown) → OwnAlone lib s → OwnAlone lib (all_back s lib back)
all_back_own lib s [] own = own
all_back_own lib s (f ∷ fs) own = all_back_own lib (given_back s lib.0 f.ino) fs (given_back_own lib s f.ino own)

ends_own : (lib : LibNo) (s : State) (b : Bundle) (image : Image) (s' : State) → OwnAlone lib s → BundleEnds s lib.0 b image s' → OwnAlone lib s'
ends_own lib s b image s' own e g i =
    let j : In (lent_part g) (map lent_part (grants_after s lib.0 b)) = subst (λ l. In (lent_part g) l) e.grants (In-map lent_part g s'.open_grants i) in
    let r = map-In lent_part (lent_part g) (grants_after s lib.0 b) j in
    let f = filter-In (λ (x : OpenGrant). not (is_in_bundle lib.0 b x)) r.0 s.open_grants r.1 in
    ap (λ (x : OpenGrant). x.lib) r.2 ∙ own r.0 f.0

module _ (lib : LibNo) (s : State) (own : OwnAlone lib s) where
  granted_own : (ino : ℕ) (kind : GrantKind) (fault : Option GrantFault) (row : Option Row) → OwnAlone lib (granted_to s lib.0 ino kind fault row).after
  granted_own ino kind (Some f) row = after_no_grant (OwnAlone lib) s f own own
  granted_own ino kind None None = own
  granted_own ino kind None (Some r) = λ g i.
      elim (In-cases g s.open_grants (opened s lib.0 ino kind r ∷ []) i) [
        | inl j ↦ own g j
        | inr j ↦ elim j [ inl e ↦ ap (λ (x : OpenGrant). x.lib) e | inr none ↦ absurd none ]
      ]

  moded_own : (ino mode : ℕ) (fault : Option ModeFault) → OwnAlone lib (moded_to s ino mode fault).after
  moded_own ino mode (Some f) = after_no_mode (OwnAlone lib) s f own own
  moded_own ino mode None = own

  refused_own : (fault : ModeFault) → OwnAlone lib (after_mode_refusal s fault)
  refused_own NotLiveFile = own
  refused_own NotOwner = own
  refused_own BadMode = own
  refused_own (BusyMode holder) = own
  refused_own NoModeMemory = own

-- a step of a library opens none of another's
pub event_own : (s : State) (event : Event) (answer : CtlAnswer) (s' : State) → OwnAlone (record { 0 = library_of event }) s → Step s event answer s' → OwnAlone (record { 0 = library_of event }) s'
event_own s event answer s' own (inr none) = subst (OwnAlone (record { 0 = library_of event })) (sym none.2) own
event_own s (step.Grant l ino kind) answer s' own (inl d) =
    subst (OwnAlone (record { 0 = l })) (sym d.1) (granted_own (record { 0 = l }) s own ino kind (grant_fault s l ino kind) (row_at s.home ino))
event_own s (step.Allot l pages numbers) answer s' own (inl d) =
    subst (OwnAlone (record { 0 = l })) (sym d.1) (after_allot (OwnAlone (record { 0 = l })) s l pages numbers own own)
event_own s (step.Back l ino) answer s' own (inl d) = subst (OwnAlone (record { 0 = l })) (sym d.1) (given_back_own (record { 0 = l }) s ino own)
event_own s (step.Release l b) answer s' own (inl (Parted n some a same)) = subst (OwnAlone (record { 0 = l })) (sym same) own
event_own s (step.Release l b) answer s' own (inl (IsAccepted none t a ends)) = ends_own (record { 0 = l }) s b _ s' own ends
event_own s (step.Release l b) answer s' own (inl (IsRefused none f why a tells ends)) = ends_own (record { 0 = l }) s b _ s' own ends
event_own s (step.Settle l b) answer s' own (inl d) = ends_own (record { 0 = l }) s b _ s' own d.3
event_own s (step.SetMode l ino mode) answer s' own (inl d) =
    subst (OwnAlone (record { 0 = l })) (sym d.1) (moded_own (record { 0 = l }) s own ino mode (mode_fault s l ino mode (row_at s.home ino)))

step_own : (lib : LibNo) (s : State) (ask : Ask) (answer : CtlAnswer) (s' : State) → OwnAlone lib s → Step s (event_of lib ask) answer s' → OwnAlone lib s'
step_own lib s (Grant ino kind) answer s' own st = event_own s (step.Grant lib.0 ino kind) answer s' own st
step_own lib s (Allot pages numbers) answer s' own st = event_own s (step.Allot lib.0 pages numbers) answer s' own st
step_own lib s (GiveBack lease) answer s' own st = event_own s (step.Back lib.0 lease.ino) answer s' own st
step_own lib s (Release parcel) answer s' own st = event_own s (step.Release lib.0 (bundle_of parcel)) answer s' own st
step_own lib s (Settle parcel back calls) answer s' own st = event_own s (step.Settle lib.0 (bundle_of parcel)) answer s' own st
step_own lib s (SetMode ino mode back k) answer s' own st = event_own s (step.SetMode lib.0 ino mode) answer s' own st

stepped_own : (lib : LibNo) (s : State) (ask : Ask) (answer : CtlAnswer) (s' : State) → OwnAlone lib s → Step (all_back s lib (handed_back ask)) (event_of lib ask) answer s' → OwnAlone lib s'
stepped_own lib s ask answer s' own st =
    step_own lib (all_back s lib (handed_back ask)) ask answer s' (all_back_own lib s (handed_back ask) own) st

happens_own : (lib : LibNo) (s : State) (ask : Ask) (told : Told) (s' : State) → OwnAlone lib s → Happens s lib ask told s' → OwnAlone lib s'
happens_own lib s (Grant ino kind) told s' own h = stepped_own lib s (Grant ino kind) (answer_of told) s' own h.is_step
happens_own lib s (Allot pages numbers) told s' own h = stepped_own lib s (Allot pages numbers) (answer_of told) s' own h.is_step
happens_own lib s (GiveBack lease) told s' own h = stepped_own lib s (GiveBack lease) (answer_of told) s' own h.is_step
happens_own lib s (Release parcel) told s' own h = stepped_own lib s (Release parcel) (answer_of told) s' own h.is_step
happens_own lib s (Settle parcel back calls) NotSettled s' own h = subst (OwnAlone lib) (sym h.is_step) own
happens_own lib s (Settle parcel back calls) told s' own h = stepped_own lib s (Settle parcel back calls) (answer_of told) s' own h.is_step
happens_own lib s (SetMode ino mode back k) (NotModeSet fault) s' own h = subst (OwnAlone lib) (sym h.is_step.1) (refused_own lib s own fault)
happens_own lib s (SetMode ino mode back k) told s' own h = stepped_own lib s (SetMode ino mode back k) (answer_of told) s' own h.is_step

moves_own : (lib : LibNo) (s : State) (calls : List Call) (moves : List Move) (s' : State) → OwnAlone lib s → AreMoves lib s calls moves s' → OwnAlone lib s'
moves_own lib s [] [] s' own a = subst (OwnAlone lib) (sym a) own
moves_own lib s [] (m ∷ moves) s' own a = absurd a
moves_own lib s (c ∷ calls) [] s' own a = absurd a
moves_own lib s (c ∷ calls) (m ∷ moves) s' own a = moves_own lib m.after calls moves s' (happens_own lib s c.ask c.told m.after own a.1) a.2

-- ---- Busy names the library itself

module _ (lib : LibNo) (s : State) (own : OwnAlone lib s) where
  abbrev AreOwn : List OpenGrant → Type 0
  AreOwn xs = (g : OpenGrant) → In g xs → g.lib ≡ lib.0

  filtered_own : (p : OpenGrant → Bool) → AreOwn (filter p s.open_grants)
  filtered_own p g i = own g (filter-In p g s.open_grants i).0

  names_own : (holder : Holder) (g : OpenGrant) → g.lib ≡ lib.0 → holder ≡ holder_of g → holder.lib ≡ lib
  names_own holder g mine is = same_library holder.lib lib (ap (λ (x : Holder). x.lib.0) is ∙ mine)

  grant_names : (ino : ℕ) (kind : GrantKind) (holder : Holder) (s' : State) → Step s (step.Grant lib.0 ino kind) (step.NotGranted (BusyGrant holder)) s' → holder.lib ≡ lib
  grant_names ino kind holder s' (inr none) = (let wrong : step.NotGranted (BusyGrant holder) ≡ step.NoMemory = none.1 in absurd (cc wrong))
  grant_names ino kind holder s' (inl d) =
      by (not (is_some (row_at s.home ino))) (denied_by s lib.0 ino kind) (lacks_parent s lib.0 ino kind) (excluding s lib.0 ino kind) (row_at s.home ino)
      (filtered_own _) d.0
    where
      busy : CtlAnswer
      busy = step.NotGranted (BusyGrant holder)

      by : (dead : Bool) (denied : Option ℕ) (lacks : Bool) (xs : List OpenGrant) (row : Option Row) → AreOwn xs → busy ≡ (granted_to s lib.0 ino kind (if dead then Some NotLive else denied_or denied (if lacks then Some NoParent else option_map (λ (g : OpenGrant). BusyGrant (holder_of g)) (slice_get xs 0))) row).answer → holder.lib ≡ lib
      by true denied lacks xs row all e = (let wrong : step.NotGranted (BusyGrant holder) ≡ step.NotGranted NotLive = e in absurd (cc wrong))
      by false (Some n) lacks xs row all e = (let wrong : step.NotGranted (BusyGrant holder) ≡ step.NotGranted (Denied n) = e in absurd (cc wrong))
      by false None true xs row all e = (let wrong : step.NotGranted (BusyGrant holder) ≡ step.NotGranted NoParent = e in absurd (cc wrong))
      by false None false [] None all e = (let wrong : step.NotGranted (BusyGrant holder) ≡ step.Done = e in absurd (cc wrong))
      by false None false [] (Some r) all e = (let wrong : step.NotGranted (BusyGrant holder) ≡ step.Granted _ = e in absurd (cc wrong))
      by false None false (g ∷ xs) row all e =
          (let is : step.NotGranted (BusyGrant holder) ≡ step.NotGranted (BusyGrant (holder_of g)) = e in names_own holder g (all g (inl refl)) (cc is))

  mode_names : (ino mode : ℕ) (holder : Holder) (s' : State) → Step s (step.SetMode lib.0 ino mode) (step.NotModeSet (BusyMode holder)) s' → holder.lib ≡ lib
  mode_names ino mode holder s' (inr none) = (let wrong : step.NotModeSet (BusyMode holder) ≡ step.NoMemory = none.1 in absurd (cc wrong))
  mode_names ino mode holder s' (inl d) = by_row (row_at s.home ino) d.0
    where
      busy : CtlAnswer
      busy = step.NotModeSet (BusyMode holder)

      by : (other big : Bool) (xs : List OpenGrant) → AreOwn xs → busy ≡ (moded_to s ino mode (if other then Some NotOwner else (if big then Some BadMode else option_map (λ (g : OpenGrant). BusyMode (holder_of g)) (slice_get xs 0)))).answer → holder.lib ≡ lib
      by true big xs all e = (let wrong : step.NotModeSet (BusyMode holder) ≡ step.NotModeSet NotOwner = e in absurd (cc wrong))
      by false true xs all e = (let wrong : step.NotModeSet (BusyMode holder) ≡ step.NotModeSet BadMode = e in absurd (cc wrong))
      by false false [] all e = (let wrong : step.NotModeSet (BusyMode holder) ≡ step.ModeSet = e in absurd (cc wrong))
      by false false (g ∷ xs) all e =
          (let is : step.NotModeSet (BusyMode holder) ≡ step.NotModeSet (BusyMode (holder_of g)) = e in names_own holder g (all g (inl refl)) (cc is))

      by_row : (o : Option Row) → busy ≡ (moded_to s ino mode (mode_fault s lib.0 ino mode o)).answer → holder.lib ≡ lib
      by_row None e = (let wrong : step.NotModeSet (BusyMode holder) ≡ step.NotModeSet NotLiveFile = e in absurd (cc wrong))
      by_row (Some r) e =
          by (eqb ino 1 || not (eqb (creds_of s lib.0).uid 0 || eqb (creds_of s lib.0).uid r.uid)) (nat_lt 511 mode)
          (filter (λ (g : OpenGrant). eqb g.ino ino || eqb g.ino r.parent) s.open_grants) (filtered_own _) e

-- ---- a call of a session

-- this happens in a state in which each open grant is the library's
abbrev pub HappensAlone : LibNo → Ask → Told → Type 0
HappensAlone lib ask told = (s : State) × (s' : State) × OwnAlone lib s × Happens s lib ask told s'

abbrev pub NeverBusy : Heard → Type 0
NeverBusy told = (answer : LineAnswer) → In answer told.answers → answer ≡ answered.Busy → ⊥

-- what the library has and was told after a turn: it is in a session of its own still, and was never told Busy
pub record Stays (lib : LibNo) (share : Share) (told : Heard) : Type 0 where
  pub session : SessionSeen
  pub is : share ≡ InSession session
  pub mine : session.lib ≡ lib
  pub free : NeverBusy told

more_free : (told : Heard) (answer : LineAnswer) → NeverBusy told → (answer ≡ answered.Busy → ⊥) → NeverBusy (with_answer told answer)
more_free told answer free one a i =
    elim (In-cases a told.answers (answer ∷ []) i) [
      | inl j ↦ free a j
      | inr j ↦ elim j [ inl e ↦ λ busy. one (sym e ∙ busy) | inr none ↦ absurd none ]
    ]

-- At a desk of which this stays true with each call of the library, and where it is true calls happen so.
module _ {D : Type 0} (called : D → Ask → Told → D → Type 0) (seen : D → DeskSeen) (lib : LibNo) (Alone : D → Type 0)
    (keeps : (d : D) (ask : Ask) (told : Told) (d' : D) → Alone d → called d ask told d' → Alone d')
    (happens : (d : D) (ask : Ask) (told : Told) (d' : D) → Alone d → called d ask told d' → HappensAlone lib ask told) where
  calls_keep : (cs : List Call) (d d' : D) → Alone d → Calls called d cs d' → Alone d'
  calls_keep [] d d' alone made = subst Alone (sym made) alone
  calls_keep (c ∷ cs) d d' alone made = calls_keep cs made.0 d' (keeps d c.ask c.told made.0 alone made.1) made.2

  settles_keep : (d d' : D) (x x' : SessionSeen) → Alone d → Settles called d x d' x' → Alone d'
  settles_keep d d' x x' alone t = keeps d (Settle x.parcel x.reads x.calls) SettledAll d' alone t.made

  -- the last of some calls
  last_call : (cs : List Call) (c : Call) (d d' : D) → Alone d → Calls called d (cs ++ c ∷ []) d' → HappensAlone lib c.ask c.told
  last_call [] c d d' alone made = happens d c.ask c.told made.0 alone made.1
  last_call (b ∷ cs) c d d' alone made = last_call cs c made.0 d' (keeps d b.ask b.told made.0 alone made.1) made.2

  -- Busy by a grant, and by a change of mode
  busy_grant : (given last : List Call) (holder : Holder) (d d' : D) → Alone d → TryEnds (Busy holder) last → Calls called d (given ++ last) d' → holder.lib ≡ lib
  busy_grant given last holder d d' alone ends made =
      let c : Call = record { ask = Grant ends.0 ends.1; told = NotLent (BusyGrant holder) } in
      let h : HappensAlone lib (Grant ends.0 ends.1) (NotLent (BusyGrant holder)) = last_call given c d d' alone (subst (λ (cs : List Call). Calls called d (given ++ cs) d') ends.2 made) in
      grant_names lib h.0 h.2 ends.0 ends.1 holder h.1 h.3.is_step

  busy_mode : (given : List Call) (ino mode : ℕ) (back : List Shown) (k : Option call.Call) (holder : Holder) (d d' : D) → Alone d → Calls called d (given ++ record { ask = SetMode ino mode back k; told = NotModeSet (BusyMode holder) } ∷ []) d' → holder.lib ≡ lib
  busy_mode given ino mode back k holder d d' alone made =
      let h : HappensAlone lib (SetMode ino mode back k) (NotModeSet (BusyMode holder)) = last_call given (record { ask = SetMode ino mode back k; told = NotModeSet (BusyMode holder) }) d d' alone made in
      let st = h.3.is_step.0 in
      mode_names lib (all_back h.0 lib back) (all_back_own lib h.0 back h.2) ino mode holder st.0 st.1

  tried_names : (Leaves : SessionSeen → SessionSeen → Type 0) (Is : SessionSeen → List Ask → Nodes → Type 0) (d d' : D) (x x' : SessionSeen) (holder : Holder) → Alone d → Tried called seen d x Leaves Is (Busy holder) d' x' → holder.lib ≡ lib
  tried_names Leaves Is d d' x x' holder alone t = busy_grant t.given t.last holder d d' alone t.ends t.made

  chmod_names : (path : Path) (mode : Mode) (d d' : D) (x x' : SessionSeen) (holder : Holder) → Alone d → ChmodTried called seen path mode d x (Busy holder) d' x' → holder.lib ≡ lib
  chmod_names path mode d d' x x' holder alone t = by t.comes t.last t.ends t.made
    where
      all : SessionSeen
      all = lent_to x t.given

      first : List Call
      first = t.given ++ t.ungiven

      moded : (ino : ℕ) (told : Told) → EndsModed told (Busy holder) → Calls called d (first ++ record { ask = mode_ask all ino mode (Chmod path mode); told = told } ∷ []) d' → holder.lib ≡ lib
      moded ino (NotModeSet (BusyMode other)) is made =
          (let same : holder ≡ other = cc is in ap (λ (y : Holder). y.lib) same ∙ busy_mode first ino mode.0 all.reads (Some (Chmod path mode)) other d d' alone made)
      moded ino (NotModeSet NoModeMemory) is made = absurd (cc is)
      moded ino ModeSet is made = absurd (cc is)
      moded ino told is made = absurd is

      handed : (answer : reply.Reply) (told : Told) → EndsHandedIn answer told (Busy holder) → ⊥
      handed answer SettledAll is = cc is
      handed answer NotSettled is = cc is
      handed answer told is = is

      by : (comes : Comes) (last : List Call) → EndsAs all path mode comes t.ungiven last (Busy holder) → Calls called d (first ++ last) d' → holder.lib ≡ lib
      by BreaksOff last e made =
          let there : Calls called d (first ++ []) d' = subst (λ (l : List Call). Calls called d (first ++ l) d') e.0 made in
          busy_grant t.given t.ungiven holder d d' alone e.1 (subst (λ (l : List Call). Calls called d l d') (append-nil first) there)
      by (HandsIn answer) last e made = absurd (handed answer e.1 e.3)
      by (SetsMode ino) last e made = moded ino e.1 e.3 (subst (λ (l : List Call). Calls called d (first ++ l) d') e.2 made)

  -- a call, of tries that are calls of the desk, and in which Busy names the library
  called_free : (Try : D → SessionSeen → Outcome → D → SessionSeen → Type 0)
      (keeps : (d d' : D) (x x' : SessionSeen) (end : Outcome) → Alone d → Try d x end d' x' → Alone d')
      (names : (d d' : D) (x x' : SessionSeen) (holder : Holder) → Alone d → Try d x (Busy holder) d' x' → holder.lib ≡ lib)
      (d d' : D) (x x' : SessionSeen) (holder : Holder) → x.lib ≡ lib → Alone d → Called called Try d x (Busy holder) d' x' → ⊥
  called_free Try keeps names d d' x x' holder mine alone (Once real t) = real
  called_free Try keeps names d d' x x' holder mine alone (Unsettled other d1 x1 none t u) = cc none
  called_free Try keeps names d d' x x' holder mine alone (Again other d1 d2 x1 x2 real t u v) = real
  called_free Try keeps names d d' x x' holder mine alone (GivesUp first last d1 d2 d3 x1 x2 x3 busy other t u v w) =
      let alone1 : Alone d1 = keeps d d1 x x1 (Busy first) alone t in
      let alone2 : Alone d2 = settles_keep d1 d2 x1 x2 alone1 u in
      other (names d2 d3 x2 x3 last alone2 v ∙ sym mine)
  called_free Try keeps names d d' x x' holder mine alone (LeftOut first last d1 d2 d3 x1 x2 x3 none t u v w) = cc none

  chmod_free : (path : Path) (mode : Mode) (d d' : D) (x x' : SessionSeen) (holder : Holder) → x.lib ≡ lib → Alone d → ChmodCalled called seen d x path mode (Busy holder) d' x' → ⊥
  chmod_free path mode d d' x x' holder mine alone (Unbegun none u) = cc none
  chmod_free path mode d d' x x' holder mine alone (Begun d1 x1 t c) =
      called_free (ChmodTried called seen path mode) (λ d d' x x' end alone t. calls_keep ((t.given ++ t.ungiven) ++ t.last) d d' alone t.made)
      (chmod_names path mode) d1 d' x1 x' holder (ap (λ (y : SessionSeen). y.lib) t.empty ∙ mine) (settles_keep d d1 x x1 alone t) c

  leased_free : (d d' : D) (x x' : SessionSeen) (k : call.Call) (holder : Holder) → x.lib ≡ lib → Alone d → (b : Bool) → MatchBool b (EntryCalled called seen d x k (Busy holder) d' x') (FileCalled called seen d x k (Busy holder) d' x') → ⊥
  leased_free d d' x x' k holder mine alone true c =
      called_free (DirTried called seen k) (λ d d' x x' end alone t. calls_keep (t.1.given ++ t.1.last) d d' alone t.1.made)
      (λ d d' x x' holder alone t. tried_names _ _ d d' x x' holder alone t.1) d d' x x' holder mine alone c
  leased_free d d' x x' k holder mine alone false c =
      called_free (FileTried called seen k) (λ d d' x x' end alone t. calls_keep (t.1.given ++ t.1.last) d d' alone t.1.made)
      (λ d d' x x' holder alone t. tried_names _ _ d d' x x' holder alone t.1) d d' x x' holder mine alone c

  call_free : (d d' : D) (x x' : SessionSeen) (k : call.Call) (holder : Holder) → x.lib ≡ lib → Alone d → SessionCalled called seen d x k (Busy holder) d' x' → ⊥
  call_free d d' x x' (Chmod path mode) holder mine alone c = chmod_free path mode d d' x x' holder mine alone c
  call_free d d' x x' k holder mine alone c = leased_free d d' x x' k holder mine alone (is_dir_call k) c

  -- a line isn't answered busy
  line_free : (d d' : D) (x x' : SessionSeen) (line : HonestLine) (told : LineAnswer) → x.lib ≡ lib → Alone d → HonestComes called seen d x line told d' x' → told ≡ answered.Busy → ⊥
  line_free d d' x x' (CallLine k) told mine alone c busy = by c.end c.made (c.told_is ∙ ap Some busy)
    where
      by : (end : Outcome) → SessionCalled called seen d x k end d' x' → told_outcome end ≡ Some answered.Busy → ⊥
      by (Replied answer) made e = (let wrong : answered.Replied answer ≡ answered.Busy = cc e in cc wrong)
      by (Busy holder) made e = call_free d d' x x' k holder mine alone made
      by NoMemory made e = cc e
  line_free d d' x x' SettleLine told mine alone c busy = (let wrong : answered.Settled (length x.calls) ≡ answered.Busy = sym c.1 ∙ busy in cc wrong)

  -- and the session stays the library's
  line_mine : (d d' : D) (x x' : SessionSeen) (line : HonestLine) (told : LineAnswer) → (seen d').lib ≡ lib → x.lib ≡ lib → HonestComes called seen d x line told d' x' → x'.lib ≡ lib
  line_mine d d' x x' (CallLine k) told there mine c = c.may.edits.on.lib ∙ there
  line_mine d d' x x' SettleLine told there mine c = ap (λ (y : SessionSeen). y.lib) c.0.empty ∙ mine

  -- after a line, and after a settle
  pub line_stays : (d d' : D) (x x' : SessionSeen) (line : HonestLine) (answer : LineAnswer) (told told' : Heard) → (seen d').lib ≡ lib → x.lib ≡ lib → Alone d → NeverBusy told → HonestComes called seen d x line answer d' x' → told' ≡ with_answer told answer → Stays lib (InSession x') told'
  line_stays d d' x x' line answer told told' there mine alone free c is = record {
    session = x';
    is = refl;
    mine = line_mine d d' x x' line answer there mine c;
    free = subst NeverBusy (sym is) (more_free told answer free (line_free d d' x x' line answer mine alone c));
  }

  pub settle_stays : (d d' : D) (x x' : SessionSeen) (end : EndAnswer) (told told' : Heard) → x.lib ≡ lib → NeverBusy told → Settles called d x d' x' → told' ≡ with_end told end → Stays lib (InSession x') told'
  settle_stays d d' x x' end told told' mine free c is = record {
    session = x';
    is = refl;
    mine = ap (λ (y : SessionSeen). y.lib) c.empty ∙ mine;
    free = subst NeverBusy (sym is) free;
  }

-- ---- turns

module _ (lib : LibNo) where
  abbrev OwnDesk : Noted → Type 0
  OwnDesk d = OwnAlone lib d.state

  noted_keeps : (d : Noted) (ask : Ask) (told : Told) (d' : Noted) → OwnDesk d → Notes lib d ask told d' → OwnDesk d'
  noted_keeps d ask told d' own notes = happens_own lib d.state ask told d'.state own notes.happens

  noted_happens : (d : Noted) (ask : Ask) (told : Told) (d' : Noted) → OwnDesk d → Notes lib d ask told d' → HappensAlone lib ask told
  noted_happens d ask told d' own notes = (d.state, d'.state, own, notes.happens)

  turn_stays : (turn : Turn) (s : State) (x : SessionSeen) (told : Heard) (d' : Noted) (share' : Share) (told' : Heard) → OwnAlone lib s → x.lib ≡ lib → NeverBusy told → TurnComes lib turn (unnoted s) (InSession x) told d' share' told' → Stays lib share' told'
  turn_stays (Says line) s x told d' share' told' own mine free c = absurd c
  turn_stays (SaysHonest line) s x told d' (Things has) told' own mine free c = absurd c
  turn_stays (SaysHonest line) s x told d' (InSession x') told' own mine free c =
      line_stays (Notes lib) (sees lib) lib OwnDesk noted_keeps noted_happens (unnoted s) d' x x' line.line c.0 told told' refl mine own free c.1 c.2
  turn_stays Ends s x told d' (Things has) told' own mine free c = absurd c
  turn_stays Ends s x told d' (InSession x') told' own mine free c =
      settle_stays (Notes lib) (sees lib) lib OwnDesk noted_keeps noted_happens (unnoted s) d' x x' (Settled (length x.calls)) told told' mine free c.0 c.1

-- ---- a play

abbrev pub one : LibNo
one = record { 0 = 1 }

-- one library plays, in a session of its own: each open grant is its own, and it was never told Busy
record OneAlone (p : Players) : Type 0 where
  own : OwnAlone one p.state
  share : Share
  heard : Heard
  shares_are : p.shares ≡ share ∷ []
  told_is : p.told ≡ heard ∷ []
  stays : Stays one share heard

turn_alone : (p : Players) (turn : Turn) (moves : List Move) (p' : Players) → OneAlone p → TakesTurn p (record { lib = one; turn = turn }) moves p' → OneAlone p'
turn_alone p turn moves p' h takes =
    let x : SessionSeen = h.stays.session in
    let in_session : share_of p one ≡ InSession x = ap (λ (l : List Share). get_or l 0 (Things nothing)) h.shares_are ∙ h.stays.is in
    let heard : told_to p one ≡ h.heard = ap (λ (l : List Heard). get_or l 0 untold) h.told_is in
    let d' : Noted = noted_of p' takes.calls moves in
    let first : TurnComes one turn (unnoted p.state) (InSession x) (told_to p one) d' takes.share' takes.told' =
    subst (λ y. TurnComes one turn (unnoted p.state) y (told_to p one) d' takes.share' takes.told') in_session takes.comes in
    let comes : TurnComes one turn (unnoted p.state) (InSession x) h.heard d' takes.share' takes.told' =
    subst (λ y. TurnComes one turn (unnoted p.state) (InSession x) y d' takes.share' takes.told') heard first in
    record {
      own = moves_own one p.state takes.calls moves p'.state h.own takes.happen;
      share = takes.share';
      heard = takes.told';
      shares_are = takes.shares_are ∙ ap (λ (l : List Share). set l 0 takes.share') h.shares_are;
      told_is = takes.told_is ∙ ap (λ (l : List Heard). set l 0 takes.told') h.told_is;
      stays = turn_stays one turn p.state x h.heard d' takes.share' takes.told' h.own h.stays.mine h.stays.free comes;
    }

plays_alone : (p : Players) (turns : List Placed) (moves : List Move) (p' : Players) → OneAlone p → ((t : Placed) → In t turns → t.lib ≡ one) → Plays p turns moves p' → OneAlone p'
plays_alone p [] moves p' h ones plays = subst OneAlone (sym plays.1) h
plays_alone p (t ∷ turns) moves p' h ones plays =
    let own : t ≡ record { lib = one; turn = t.turn } = ap (λ l. record { lib = l; turn = t.turn }) (ones t (inl refl)) in
    plays_alone plays.middle turns plays.others p'
    (turn_alone p t.turn plays.first plays.middle h (subst (λ u. TakesTurn p u plays.first plays.middle) own plays.takes))
    (λ u i. ones u (inr i)) plays.rest

-- one element
single : {X : Type 0} (xs : List X) (d : X) → length xs ≡ 1 → xs ≡ get_or xs 0 d ∷ []
single [] d e = absurd (omega (arith, e))
single (x ∷ []) d e = refl
single (x ∷ y ∷ xs) d e = absurd (omega (arith, e))

begun_alone : (image : Image) (l : ScriptLib) (lines : List (ScriptLine HonestLine)) (p : Players) → l.lines ≡ Honest lines → AtStart image (l ∷ []) p → OneAlone p
begun_alone image l lines p honest begins =
    let b : BeginsWith one l.creds l.lines (share_of p one) = begins.begins one l (omega arith, refl) in
    let h : BeginsWith one l.creds (Honest lines) (share_of p one) = subst (λ y. BeginsWith one l.creds y (share_of p one)) honest b in
    record {
      own = subst (OwnAlone one) (sym begins.state) (λ g i. absurd i);
      share = share_of p one;
      heard = untold;
      shares_are = single p.shares (Things nothing) begins.places;
      told_is = begins.told;
      stays = record { session = _; is = h.1; mine = refl; free = λ a i. absurd i };
    }

pub played_alone : PlayedAlone
played_alone image l lines honest played answer i =
    let libs : List ScriptLib = l ∷ [] in
    let ones : (t : Placed) → In t (turns_of libs) → t.lib ≡ one = λ t j.
    (let w : Within 1 libs t = turns_within libs t j in
    let low : 1 ≤ t.lib.0 = w.0 in
    let high : t.lib.0 < 2 = w.1 in
    same_library t.lib one (omega (arith, low, high))) in
    let h : OneAlone played.last = plays_alone played.first (turns_of libs) played.moves played.last (begun_alone image l lines played.first honest played.begins) ones played.plays in
    let heard : told_to played.last one ≡ h.heard = ap (λ (x : List Heard). get_or x 0 untold) h.told_is in
    h.stays.free answer (subst (λ (x : Heard). In answer x.answers) heard i)
