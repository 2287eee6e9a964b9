-- What the calls of a session are, and what they keep.
use Rattle.trio_runner.proofs.Words.{◌++◌, ◌∙◌, ◌∷◌, ◌≡◌, ◌≢◌, Again, Allot, Ask, Begun, Bool, BreaksOff, Busy, BusyMode, Call, CallLine, Called, Calls, Chmod, ChmodCalled, ChmodTried, Comes, CtlAnswer, DeskSeen, DirTried, EndsAs, EndsHandedIn, EndsModed, EntryCalled, FileCalled, FileTried, GiveBack, Given, GivesUp, Grant, HandsIn, Happens, HonestComes, HonestLine, In, In-cases, IsGiven, IsPlain, Lease, LeftOut, Lent, LibNo, LineAnswer, List, MatchBool, Mode, ModeFault, ModeSet, NoAllotMemory, NoGrantMemory, NoMemory, NoModeMemory, Nodes, None, NotGiven, NotLent, NotModeSet, NotSettled, Noted, Notes, Once, Option, Outcome, Parcel, Path, Release, Replied, SessionCalled, SessionSeen, SetMode, SetsMode, Settle, SettleLine, Settled, Settles, Shown, Some, State, Told, Tried, TryEnds, Unbegun, Unsettled, [], all_back, ap, apart, back_call, false, hand_in_ask, handed_back, inl, inr, is_dir_call, lent_to, map, map-In, mode_ask, mode_fault, moded_to, refl, row_at, subst, sym, told_outcome, true, ℕ}
use Rattle.trio_nodes.specs.declared.call.Done as done
use Rattle.trio_nodes.specs.declared.call.Call as call
use Rattle.trio_nodes.specs.declared.call.Reply.TheVariants as reply
use Rattle.trio_state.specs.Step as step

-- ---- what is asked

-- such a call a session makes, where no memory was wanting: a grant, an allotment, a settle or a change of mode
abbrev pub IsAsked : Ask → Told → Type 0
IsAsked ask (Lent lease) = Unit {0}
IsAsked ask (Given pages numbers) = Unit {0}
IsAsked (Grant ino kind) (NotLent fault) = fault ≢ NoGrantMemory
IsAsked (Allot pages numbers) (NotGiven fault) = fault ≢ NoAllotMemory
IsAsked (Settle parcel back calls) Settled = Unit {0}
IsAsked (SetMode ino mode back call) ModeSet = Unit {0}
IsAsked (SetMode ino mode back call) (NotModeSet (BusyMode holder)) = Unit {0}
IsAsked ask told = ⊥

pub given_asked : (c : Call) → IsGiven c → IsAsked c.ask c.told
given_asked c (inl lent) = subst (IsAsked c.ask) (sym lent.1) tt
given_asked c (inr given) = subst (IsAsked c.ask) (sym given.2) tt

asked_is : (c d : Call) → c ≡ d → IsAsked d.ask d.told → IsAsked c.ask c.told
asked_is c d e is = subst (λ (x : Call). IsAsked x.ask x.told) (sym e) is

-- one call
one_asked : (last : List Call) (d : Call) → last ≡ d ∷ [] → IsAsked d.ask d.told → (c : Call) → In c last → IsAsked c.ask c.told
one_asked last d e is c i = elim (subst (λ (l : List Call). In c l) e i) [ inl same ↦ asked_is c d same is | inr none ↦ absurd none ]

none_asked : (last : List Call) → last ≡ [] → (c : Call) → In c last → IsAsked c.ask c.told
none_asked last e c i = absurd (subst (λ (l : List Call). In c l) e i)

pub last_asked : (end : Outcome) (told : LineAnswer) (last : List Call) → told_outcome end ≡ Some told → TryEnds end last → (c : Call) → In c last → IsAsked c.ask c.told
last_asked NoMemory told last is e = absurd (cc is)
last_asked (Busy holder) told last is e = one_asked last _ e.2 (λ w. cc w)
last_asked (Replied (reply.NoSpace wanted free)) told last is e = one_asked last _ e.1 (λ w. cc w)
last_asked (Replied (reply.NoInodes wanted free)) told last is e = one_asked last _ e.1 (λ w. cc w)
last_asked (Replied reply.Denied) told last is (inl e) = none_asked last e
last_asked (Replied reply.Denied) told last is (inr e) = one_asked last e.0 e.1 (asked_is e.0 _ e.2.1 (λ w. cc w))
last_asked (Replied answer) told last is e = none_asked last e

-- ---- what calls keep

module _ {D : Type 0} (called : D → Ask → Told → D → Type 0) (seen : D → DeskSeen) (P : D → Type 0) (keeps : (d : D) (ask : Ask) (told : Told) (d' : D) → IsAsked ask told → called d ask told d' → P d → P d') where
  calls_keep : (cs : List Call) (d d' : D) → ((c : Call) → In c cs → IsAsked c.ask c.told) → Calls called d cs d' → P d → P d'
  calls_keep [] d d' asked made p = subst P (sym made) p
  calls_keep (c ∷ cs) d d' asked made p =
      calls_keep cs made.0 d' (λ x i. asked x (inr i)) made.2 (keeps d c.ask c.told made.0 (asked c (inl refl)) made.1 p)

  tried_keeps : (Leaves : SessionSeen → SessionSeen → Type 0) (Is : SessionSeen → List Ask → Nodes → Type 0) (d d' : D) (s s' : SessionSeen) (end : Outcome) (told : LineAnswer) → told_outcome end ≡ Some told → Tried called seen d s Leaves Is end d' s' → P d → P d'
  tried_keeps Leaves Is d d' s s' end told is t p =
      calls_keep (t.given ++ t.last) d d'
      (λ c i. elim (In-cases c t.given t.last i) [ inl j ↦ given_asked c (t.each c j) | inr j ↦ last_asked end told t.last is t.ends c j ]) t.made p

  pub settle_keeps : (d d' : D) (s s' : SessionSeen) → Settles called d s d' s' → P d → P d'
  settle_keeps d d' s s' t p = keeps d (Settle s.parcel s.reads s.calls) Settled d' tt t.made p

  -- a call whose tries keep it
  called_keeps : (Try : D → SessionSeen → Outcome → D → SessionSeen → Type 0)
      (each : (d d' : D) (s s' : SessionSeen) (end : Outcome) (told : LineAnswer) → told_outcome end ≡ Some told → Try d s end d' s' → P d → P d')
      (d d' : D) (s s' : SessionSeen) (end : Outcome) (told : LineAnswer) → told_outcome end ≡ Some told → Called called Try d s end d' s' → P d → P d'
  called_keeps Try each d d' s s' end told is (Once real t) p = each d d' s s' end told is t p
  called_keeps Try each d d' s s' end told is (Unsettled holder d1 s1 none t u) p = (let wrong : None ≡ Some told = ap told_outcome (sym none) ∙ is in absurd (cc wrong))
  called_keeps Try each d d' s s' end told is (Again holder d1 d2 s1 s2 real t u v) p =
      each d2 d' s2 s' end told is v (settle_keeps d1 d2 s1 s2 u (each d d1 s s1 (Busy holder) _ refl t p))
  called_keeps Try each d d' s s' end told is (GivesUp first last d1 d2 d3 s1 s2 s3 busy other t u v w) p =
      settle_keeps d3 d' s3 s' w (each d2 d3 s2 s3 (Busy last) _ refl v (settle_keeps d1 d2 s1 s2 u (each d d1 s s1 (Busy first) _ refl t p)))
  called_keeps Try each d d' s s' end told is (LeftOut first last d1 d2 d3 s1 s2 s3 none t u v w) p = (let wrong : None ≡ Some told = ap told_outcome (sym none) ∙ is in absurd (cc wrong))

  -- the grant that wasn't given, if any, and the last call of a change of mode
  ungiven_asked : (all : SessionSeen) (path : Path) (mode : Mode) (comes : Comes) (ungiven last : List Call) (end : Outcome) (told : LineAnswer) → told_outcome end ≡ Some told → EndsAs all path mode comes ungiven last end → (c : Call) → In c ungiven → IsAsked c.ask c.told
  ungiven_asked all path mode BreaksOff ungiven last (Replied answer) told is e = absurd e.1
  ungiven_asked all path mode BreaksOff ungiven last (Busy holder) told is e = last_asked (Busy holder) told ungiven is e.1
  ungiven_asked all path mode BreaksOff ungiven last NoMemory told is e = absurd (cc is)
  ungiven_asked all path mode (HandsIn answer) ungiven last end told is e =
      elim e.0 [ inl none ↦ none_asked ungiven none | inr denied ↦ one_asked ungiven denied.1 denied.2 (asked_is denied.1 _ denied.3.1 (λ w. cc w)) ]
  ungiven_asked all path mode (SetsMode ino) ungiven last end told is e = none_asked ungiven e.0

  chmod_asked : (all : SessionSeen) (path : Path) (mode : Mode) (comes : Comes) (ungiven last : List Call) (end : Outcome) (told : LineAnswer) → told_outcome end ≡ Some told → EndsAs all path mode comes ungiven last end → (c : Call) → In c last → IsAsked c.ask c.told
  chmod_asked all path mode BreaksOff ungiven last end told is e = none_asked last e.0
  chmod_asked all path mode (HandsIn answer) ungiven last end told is e = one_asked last _ e.2 (by e.1 e.3)
    where
      by : (t : Told) → EndsHandedIn answer t end → IsAsked (hand_in_ask all (Chmod path mode) answer) t
      by Settled is_end = tt
      by NotSettled is_end = (let wrong : None ≡ Some told = ap told_outcome (sym is_end) ∙ is in absurd (cc wrong))
      by t is_end = absurd is_end
  chmod_asked all path mode (SetsMode ino) ungiven last end told is e = one_asked last _ e.2 (by e.1 e.3)
    where
      by : (t : Told) → EndsModed t end → IsAsked (mode_ask all ino mode (Chmod path mode)) t
      by ModeSet is_end = tt
      by (NotModeSet (BusyMode holder)) is_end = tt
      by (NotModeSet NoModeMemory) is_end = (let wrong : None ≡ Some told = ap told_outcome (sym is_end) ∙ is in absurd (cc wrong))
      by t is_end = absurd is_end

  chmod_tried_keeps : (path : Path) (mode : Mode) (d d' : D) (s s' : SessionSeen) (end : Outcome) (told : LineAnswer) → told_outcome end ≡ Some told → ChmodTried called seen path mode d s end d' s' → P d → P d'
  chmod_tried_keeps path mode d d' s s' end told is t p =
      calls_keep ((t.given ++ t.ungiven) ++ t.last) d d'
      (λ c i. elim (In-cases c (t.given ++ t.ungiven) t.last i) [
        | inl j ↦ elim (In-cases c t.given t.ungiven j) [
          | inl k ↦ given_asked c (t.each c k)
          | inr k ↦ ungiven_asked (lent_to s t.given) path mode t.comes t.ungiven t.last end told is t.ends c k
        ]
        | inr j ↦ chmod_asked (lent_to s t.given) path mode t.comes t.ungiven t.last end told is t.ends c j
      ]) t.made p

  chmod_keeps : (path : Path) (mode : Mode) (d d' : D) (s s' : SessionSeen) (end : Outcome) (told : LineAnswer) → told_outcome end ≡ Some told → ChmodCalled called seen d s path mode end d' s' → P d → P d'
  chmod_keeps path mode d d' s s' end told is (Unbegun none u) p = (let wrong : None ≡ Some told = ap told_outcome (sym none) ∙ is in absurd (cc wrong))
  chmod_keeps path mode d d' s s' end told is (Begun d1 s1 t c) p =
      called_keeps (ChmodTried called seen path mode) (chmod_tried_keeps path mode) d1 d' s1 s' end told is c (settle_keeps d d1 s s1 t p)

  leased_keeps : (d d' : D) (s s' : SessionSeen) (k : call.Call) (end : Outcome) (told : LineAnswer) → told_outcome end ≡ Some told → (b : Bool) → MatchBool b (EntryCalled called seen d s k end d' s') (FileCalled called seen d s k end d' s') → P d → P d'
  leased_keeps d d' s s' k end told is true c p = called_keeps (DirTried called seen k) (λ d d' s s' end told is t p. tried_keeps _ _ d d' s s' end told is t.1 p) d d' s s' end told is c p
  leased_keeps d d' s s' k end told is false c p = called_keeps (FileTried called seen k) (λ d d' s s' end told is t p. tried_keeps _ _ d d' s s' end told is t.1 p) d d' s s' end told is c p

  call_keeps : (d d' : D) (s s' : SessionSeen) (k : call.Call) (end : Outcome) (told : LineAnswer) → told_outcome end ≡ Some told → SessionCalled called seen d s k end d' s' → P d → P d'
  call_keeps d d' s s' (Chmod path mode) end told is c p = chmod_keeps path mode d d' s s' end told is c p
  call_keeps d d' s s' k end told is c p = leased_keeps d d' s s' k end told is (is_dir_call k) c p

  pub line_keeps : (d d' : D) (s s' : SessionSeen) (line : HonestLine) (told : LineAnswer) → HonestComes called seen d s line told d' s' → P d → P d'
  line_keeps d d' s s' (CallLine k) told c p = call_keeps d d' s s' k c.end told c.told_is c.made p
  line_keeps d d' s s' SettleLine told c p = settle_keeps d d' s s' c.0 p

-- ---- no lease is given back with them

pub no_mode : (s : State) (ino mode : ℕ) (f : Option ModeFault) (answer : CtlAnswer) → (step.ModeSet ≡ answer → ⊥) → ((fault : ModeFault) → step.NotModeSet fault ≡ answer → ⊥) → answer ≡ (moded_to s ino mode f).answer → ⊥
no_mode s ino mode None answer set not e = set (sym e)
no_mode s ino mode (Some fault) answer set not e = not fault (sym e)

lent_plain : (s : State) (lib : LibNo) (ask : Ask) (lease : Lease) (s' : State) → Happens s lib ask (Lent lease) s' → IsPlain ask
lent_plain s lib (Grant ino kind) lease s' h = refl
lent_plain s lib (Allot pages numbers) lease s' h = refl
lent_plain s lib (GiveBack back) lease s' h = refl
lent_plain s lib (Release parcel) lease s' h = refl
lent_plain s lib (Settle parcel back calls) lease s' h = elim h.is_step [ inl d ↦ absurd (cc (d.0)) | inr n ↦ absurd (cc (n.1)) ]
lent_plain s lib (SetMode ino mode back k) lease s' h =
    let t : State = all_back s lib back in
    elim h.is_step [ inl d ↦ absurd (no_mode t ino mode (mode_fault t lib.0 ino mode (row_at t.home ino)) _ (λ e. cc e) (λ f e. cc e) d.0) | inr n ↦ absurd (cc (n.1)) ]

given_plain : (s : State) (lib : LibNo) (ask : Ask) (pages numbers : List ℕ) (s' : State) → Happens s lib ask (Given pages numbers) s' → IsPlain ask
given_plain s lib (Grant ino kind) pages numbers s' h = refl
given_plain s lib (Allot wanted many) pages numbers s' h = refl
given_plain s lib (GiveBack back) pages numbers s' h = refl
given_plain s lib (Release parcel) pages numbers s' h = refl
given_plain s lib (Settle parcel back calls) pages numbers s' h = elim h.is_step [ inl d ↦ absurd (cc (d.0)) | inr n ↦ absurd (cc (n.1)) ]
given_plain s lib (SetMode ino mode back k) pages numbers s' h =
    let t : State = all_back s lib back in
    elim h.is_step [ inl d ↦ absurd (no_mode t ino mode (mode_fault t lib.0 ino mode (row_at t.home ino)) _ (λ e. cc e) (λ f e. cc e) d.0) | inr n ↦ absurd (cc (n.1)) ]

-- each of these calls is so
abbrev pub ArePlain : List Call → Type 0
ArePlain calls = (c : Call) → In c calls → IsPlain c.ask

one_plain : (ask : Ask) (told : Told) → IsPlain ask → ArePlain (record { ask = ask; told = told } ∷ [])
one_plain ask told p c i = elim i [ inl same ↦ ap (λ (x : Call). handed_back x.ask) same ∙ p | inr none ↦ absurd none ]

-- so are leases that are given back before such a call
backs_plain : (back : List Shown) (ask : Ask) (told : Told) → IsPlain ask → ArePlain (map back_call back ++ record { ask = ask; told = told } ∷ [])
backs_plain back ask told p c i =
    elim (In-cases c (map back_call back) (record { ask = ask; told = told } ∷ []) i) [
      | inl j ↦ (let m = map-In back_call c back j in ap (λ (x : Call). handed_back x.ask) m.2)
      | inr j ↦ one_plain ask told p c j
    ]

pub settle_plain : (parcel : Parcel) (back : List Shown) (calls : List done.Done) → ArePlain (apart (Settle parcel back calls) Settled)
settle_plain parcel back calls = backs_plain back (Settle parcel [] calls) Settled refl

pub asked_plain : (s : State) (lib : LibNo) (ask : Ask) (told : Told) (s' : State) → IsAsked ask told → Happens s lib ask told s' → ArePlain (apart ask told)
asked_plain s lib (Settle parcel back calls) Settled s' is h = settle_plain parcel back calls
asked_plain s lib (SetMode ino mode back k) ModeSet s' is h = backs_plain back (SetMode ino mode [] k) ModeSet refl
asked_plain s lib (SetMode ino mode back k) (NotModeSet (BusyMode holder)) s' is h = λ c i. absurd i
asked_plain s lib (Settle parcel back calls) (Lent lease) s' is h = one_plain (Settle parcel back calls) (Lent lease) (lent_plain s lib (Settle parcel back calls) lease s' h)
asked_plain s lib (Settle parcel back calls) (Given pages numbers) s' is h = one_plain (Settle parcel back calls) (Given pages numbers) (given_plain s lib (Settle parcel back calls) pages numbers s' h)
asked_plain s lib (SetMode ino mode back k) (Lent lease) s' is h = one_plain (SetMode ino mode back k) (Lent lease) (lent_plain s lib (SetMode ino mode back k) lease s' h)
asked_plain s lib (SetMode ino mode back k) (Given pages numbers) s' is h = one_plain (SetMode ino mode back k) (Given pages numbers) (given_plain s lib (SetMode ino mode back k) pages numbers s' h)
asked_plain s lib (Grant ino kind) told s' is h = one_plain (Grant ino kind) told refl
asked_plain s lib (Allot pages numbers) told s' is h = one_plain (Allot pages numbers) told refl
asked_plain s lib (GiveBack lease) told s' is h = one_plain (GiveBack lease) told refl
asked_plain s lib (Release parcel) told s' is h = one_plain (Release parcel) told refl
asked_plain s lib ask told s' is h = absurd is

pub notes_plain : (lib : LibNo) (d : Noted) (ask : Ask) (told : Told) (d' : Noted) → IsAsked ask told → Notes lib d ask told d' → ArePlain d.calls → ArePlain d'.calls
notes_plain lib d ask told d' is n p c i =
    elim (In-cases c d.calls (apart ask told) (subst (λ (l : List Call). In c l) n.calls_are i)) [
      | inl j ↦ p c j
      | inr j ↦ asked_plain d.state lib ask told d'.state is n.happens c j
    ]
