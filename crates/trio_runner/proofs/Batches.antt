-- The entries of a session's calls, and the calls that they tell.
use Rattle.trio_runner.proofs.Words.{◌++◌, ◌∙◌, ◌∷◌, ◌≡◌, Again, AllByRecursion, Allot, Ask, Batch, Begun, Bool, BreaksOff, Busy, BusyGrant, BusyMode, Call, CallLine, Called, Calls, Chmod, ChmodCalled, ChmodTried, Comes, Denied, DeskSeen, DirTried, EndsAs, EndsHandedIn, EndsModed, Entry, EntryCalled, FileCalled, FileTried, GiveBack, Given, GivesUp, Grant, HandsIn, HonestComes, HonestLine, In, In-cases, IsBack, IsGiven, LeftOut, Lent, LibNo, LineAnswer, LineMakes, List, MatchBool, Mode, ModeSet, NoAllotMemory, NoGrantMemory, NoInodes, NoMemory, NoModeMemory, NoPages, NoParent, Nodes, None, NotGiven, NotLent, NotLive, NotModeSet, NotSettled, Ok, Once, Outcome, Parcel, Path, Release, Replied, Reply, SessionCalled, SessionSeen, SetMode, SetsMode, Settle, SettleLine, Settled, Settles, Shown, Some, State, Told, Tried, TryEnds, Unbegun, Unsettled, [], ap, append-nil, append_assoc, back_entries, bundled_of, call_told, calls_in, entries_told, false, flat_map, flat_map-append, hand_in_ask, inl, inr, is_dir_call, length, lent_to, map, mode_ask, refl, subst, sym, told_outcome, took, true, with_calls, ℕ}
use Rattle.trio_nodes.specs.declared.call.Call as call
use Rattle.trio_nodes.specs.declared.call.Done.{Done}
use Rattle.trio_nodes.specs.declared.call.Reply.TheVariants as reply
use Rattle.trio_nodes.specs.declared.entry.Entry.TheVariants.{Mode as ModeEntry}
use Rattle.trio_nodes.specs.declared.call.Answer.TheVariants.{Done as AnsweredDone}
use Rattle.trio_report.specs.declared.answer.LineAnswer.TheVariants as answered
use Rattle.trio_runner.specs.Honest.{CallComes}
use Rattle.trio_runner.specs.Logged.{IsSettle}
use Rattle.trio_runner.proofs.Left.{left_by_chmod, left_by_dir, left_by_file, replied, took_calls, with_replies}
use Rattle.trio_runner.proofs.Entries.{Makes}

-- calls, each with its reply
abbrev pub Replies : Type 0
Replies = List (call.Call × Reply)

-- those that entries tell
abbrev pub told_in : List Entry → Replies
told_in es = flat_map calls_in es

pub told_both : (es fs : List Entry) (rs qs : Replies) → told_in es ≡ rs → told_in fs ≡ qs → told_in (es ++ fs) ≡ rs ++ qs
told_both es fs rs qs a b = flat_map-append calls_in es fs ∙ ap (λ l. l ++ told_in fs) a ∙ ap (λ l. rs ++ l) b

-- ---- one call

-- a call but a settle
abbrev pub IsGot : Ask → Told → Type 0
IsGot ask (Lent lease) = Unit {0}
IsGot ask (Given pages numbers) = Unit {0}
IsGot (Grant ino kind) (NotLent fault) = Unit {0}
IsGot (Allot pages numbers) (NotGiven fault) = Unit {0}
IsGot ask told = ⊥

pub got_tells : (s : State) (lib : LibNo) (ask : Ask) (told : Told) → IsGot ask told → told_in (entries_told s lib ask told) ≡ []
got_tells s lib (Grant ino kind) (Lent lease) is = refl
got_tells s lib (Allot pages numbers) (Lent lease) is = refl
got_tells s lib (GiveBack back) (Lent lease) is = refl
got_tells s lib (Release parcel) (Lent lease) is = refl
got_tells s lib (Settle parcel back done) (Lent lease) is = refl
got_tells s lib (SetMode ino mode back k) (Lent lease) is = refl
got_tells s lib (Grant ino kind) (Given ps ns) is = refl
got_tells s lib (Allot pages numbers) (Given ps ns) is = refl
got_tells s lib (GiveBack back) (Given ps ns) is = refl
got_tells s lib (Release parcel) (Given ps ns) is = refl
got_tells s lib (Settle parcel back done) (Given ps ns) is = refl
got_tells s lib (SetMode ino mode back k) (Given ps ns) is = refl
got_tells s lib (Grant ino kind) (NotLent NotLive) is = refl
got_tells s lib (Grant ino kind) (NotLent (Denied n)) is = refl
got_tells s lib (Grant ino kind) (NotLent NoParent) is = refl
got_tells s lib (Grant ino kind) (NotLent (BusyGrant h)) is = refl
got_tells s lib (Grant ino kind) (NotLent NoGrantMemory) is = refl
got_tells s lib (Allot pages numbers) (NotGiven (NoPages w f)) is = refl
got_tells s lib (Allot pages numbers) (NotGiven (NoInodes w f)) is = refl
got_tells s lib (Allot pages numbers) (NotGiven NoAllotMemory) is = refl
got_tells s lib ask told is = absurd is

-- ---- a settle

-- read leases that are given back tell no call
pub backs_tell : (lib : LibNo) (back : List Shown) → told_in (back_entries lib back) ≡ []
backs_tell lib [] = refl
backs_tell lib (f ∷ fs) = backs_tell lib fs

backs_are : (lib : LibNo) (back : List Shown) → AllByRecursion IsBack (back_entries lib back)
backs_are lib [] = tt
backs_are lib (f ∷ fs) = (tt, backs_are lib fs)

-- what a change of mode by a call made: it is replied
pub mode_tells : (s : State) (lib : LibNo) (ino mode : ℕ) (back : List Shown) (k : call.Call) → told_in (entries_told s lib (SetMode ino mode back (Some k)) ModeSet) ≡ replied k (Replied (reply.Ok AnsweredDone))
mode_tells s lib ino mode back k = told_both (back_entries lib back) (ModeEntry lib ino mode (Ok tt) (Some k) ∷ []) [] (replied k (Replied (reply.Ok AnsweredDone))) (backs_tell lib back) refl

-- what a settle of these calls made
pub record SettleMade (done : List Done) (es : List Entry) : Type 0 where
  pub tells : told_in es ≡ with_replies done
  pub settles : IsSettle (length done) es

pub settle_made : (s : State) (lib : LibNo) (parcel : Parcel) (back : List Shown) (done : List Done) → SettleMade done (entries_told s lib (Settle parcel back done) Settled)
settle_made s lib parcel back done =
    let handed = (with_calls (bundled_of parcel) done).handed in
    record {
      tells = told_both (back_entries lib back) (Batch lib done handed ∷ []) [] (with_replies done) (backs_tell lib back) (append-nil (with_replies done));
      settles = record { of_backs = back_entries lib back; backs = backs_are lib back; lib = lib; calls = done; handed = handed; entries_are = refl; counts = refl };
    }

-- ---- a call of a line

given_got : (c : Call) → IsGiven c → IsGot c.ask c.told
given_got c (inl lent) = subst (IsGot c.ask) (sym lent.1) tt
given_got c (inr given) = subst (IsGot c.ask) (sym given.2) tt

got_is : (c d : Call) → c ≡ d → IsGot d.ask d.told → IsGot c.ask c.told
got_is c d e is = subst (λ (x : Call). IsGot x.ask x.told) (sym e) is

one_got : (last : List Call) (d : Call) → last ≡ d ∷ [] → IsGot d.ask d.told → (c : Call) → In c last → IsGot c.ask c.told
one_got last d e is c i = elim (subst (λ (l : List Call). In c l) e i) [ inl same ↦ got_is c d same is | inr none ↦ absurd none ]

none_got : (last : List Call) → last ≡ [] → (c : Call) → In c last → IsGot c.ask c.told
none_got last e c i = absurd (subst (λ (l : List Call). In c l) e i)

last_got : (end : Outcome) (told : LineAnswer) (last : List Call) → told_outcome end ≡ Some told → TryEnds end last → (c : Call) → In c last → IsGot c.ask c.told
last_got NoMemory told last is e = absurd (cc is)
last_got (Busy holder) told last is e = one_got last _ e.2 tt
last_got (Replied (reply.NoSpace wanted free)) told last is e = one_got last _ e.1 tt
last_got (Replied (reply.NoInodes wanted free)) told last is e = one_got last _ e.1 tt
last_got (Replied reply.Denied) told last is (inl e) = none_got last e
last_got (Replied reply.Denied) told last is (inr e) = one_got last e.0 e.1 (got_is e.0 _ e.2.1 tt)
last_got (Replied answer) told last is e = none_got last e

pub calls_parted : {D : Type 0} (called : D → Ask → Told → D → Type 0) (first later : List Call) (d d' : D) → Calls called d (first ++ later) d' → (middle : D) × Calls called d first middle × Calls called middle later d'
calls_parted called [] later d d' made = (d, refl, made)
calls_parted called (c ∷ first) later d d' made =
    (let rest = calls_parted called first later made.0 d' made.2 in (rest.0, (made.0, made.1, rest.1), rest.2))

pub one_called : {D : Type 0} (called : D → Ask → Told → D → Type 0) (last : List Call) (ask : Ask) (told : Told) (d d' : D) → last ≡ record { ask = ask; told = told } ∷ [] → Calls called d last d' → called d ask told d'
one_called called last ask told d d' e made =
    let c : Calls called d (record { ask = ask; told = told } ∷ []) d' = subst (λ (l : List Call). Calls called d l d') e made in
    subst (called d ask told) (sym c.2) c.1

-- the grant that wasn't given, if any
ungiven_got : (all : SessionSeen) (path : Path) (mode : Mode) (comes : Comes) (ungiven last : List Call) (end : Outcome) (told : LineAnswer) → told_outcome end ≡ Some told → EndsAs all path mode comes ungiven last end → (c : Call) → In c ungiven → IsGot c.ask c.told
ungiven_got all path mode BreaksOff ungiven last (Replied answer) told is e = absurd e.1
ungiven_got all path mode BreaksOff ungiven last (Busy holder) told is e = last_got (Busy holder) told ungiven is e.1
ungiven_got all path mode BreaksOff ungiven last NoMemory told is e = absurd (cc is)
ungiven_got all path mode (HandsIn answer) ungiven last end told is e =
    elim e.0 [ inl none ↦ none_got ungiven none | inr denied ↦ one_got ungiven denied.1 denied.2 (got_is denied.1 _ denied.3.1 tt) ]
ungiven_got all path mode (SetsMode ino) ungiven last end told is e = none_got ungiven e.0

-- The calls that the entries of a line tell, and those that the session still has, are those that it had and the line's own, each with
-- its reply.
pub record HonestMade (x x' : SessionSeen) (line : HonestLine) (told : LineAnswer) (es : List Entry) : Type 0 where
  pub tells : flat_map calls_in es ++ with_replies x'.calls ≡ with_replies x.calls ++ call_told line told
  pub makes : LineMakes line told es

replied_told : (k : call.Call) (end : Outcome) (told : LineAnswer) → told_outcome end ≡ Some told → replied k end ≡ call_told (CallLine k) told
replied_told k (Replied reply) told e = (let is : answered.Replied reply ≡ told = cc e in ap (call_told (CallLine k)) is)
replied_told k (Busy holder) told e = (let is : answered.Busy ≡ told = cc e in ap (call_told (CallLine k)) is)
replied_told k NoMemory told e = absurd (cc e)

-- a call is told its reply, or Busy
call_line : (k : call.Call) (end : Outcome) (told : LineAnswer) (es : List Entry) → told_outcome end ≡ Some told → LineMakes (CallLine k) told es
call_line k (Replied reply) told es e = (let is : answered.Replied reply ≡ told = cc e in subst (λ a. LineMakes (CallLine k) a es) is tt)
call_line k (Busy holder) told es e = (let is : answered.Busy ≡ told = cc e in subst (λ a. LineMakes (CallLine k) a es) is tt)
call_line k NoMemory told es e = absurd (cc e)

-- ---- a desk

-- a desk that makes entries, by what it has made since a line began
module _ {D : Type 0} (lib : LibNo) (called : D → Ask → Told → D → Type 0) (seen : D → DeskSeen) (Made : D → List Entry → Type 0) (makes : Makes lib called Made) where
  -- it has made entries that tell these calls
  record Tells (d : D) (rs : Replies) : Type 0 where
    entries : List Entry
    made : Made d entries
    tells : told_in entries ≡ rs

  told_since : (d : D) (ask : Ask) (told : Told) (d' : D) (rs qs : Replies) → ((s : State) → told_in (entries_told s lib ask told) ≡ qs) → called d ask told d' → Tells d rs → Tells d' (rs ++ qs)
  told_since d ask told d' rs qs tells c h =
      let one = makes d h.entries ask told d' h.made c in
      record {
        entries = h.entries ++ entries_told one.0 lib ask told;
        made = one.1;
        tells = told_both h.entries (entries_told one.0 lib ask told) rs qs h.tells (tells one.0);
      }

  none_since : (d : D) (ask : Ask) (told : Told) (d' : D) (rs : Replies) → ((s : State) → told_in (entries_told s lib ask told) ≡ []) → called d ask told d' → Tells d rs → Tells d' rs
  none_since d ask told d' rs none c h = subst (Tells d') (append-nil rs) (told_since d ask told d' rs [] none c h)

  -- a settle of these calls
  handed_since : (d : D) (parcel : Parcel) (back : List Shown) (done : List Done) (d' : D) (rs : Replies) → called d (Settle parcel back done) Settled d' → Tells d rs → Tells d' (rs ++ with_replies done)
  handed_since d parcel back done d' rs c h = told_since d (Settle parcel back done) Settled d' rs (with_replies done) (λ s. (settle_made s lib parcel back done).tells) c h

  calls_since : (rs : Replies) (cs : List Call) (d d' : D) → ((c : Call) → In c cs → IsGot c.ask c.told) → Calls called d cs d' → Tells d rs → Tells d' rs
  calls_since rs [] d d' got made h = subst (λ x. Tells x rs) (sym made) h
  calls_since rs (c ∷ cs) d d' got made h =
      calls_since rs cs made.0 d' (λ x i. got x (inr i)) made.2
      (none_since d c.ask c.told made.0 rs (λ s. got_tells s lib c.ask c.told (got c (inl refl))) made.1 h)

  settle_calls : (d d' : D) (x x' : SessionSeen) → Settles called d x d' x' → x'.calls ≡ []
  settle_calls d d' x x' t = ap (λ (y : SessionSeen). y.calls) t.empty

  -- ---- a call

  -- The calls that its entries tell, and then those that the session still has, are these.
  record AllTold (d : D) (x : SessionSeen) (rs : Replies) : Type 0 where
    told : Replies
    since : Tells d told
    all : told ++ with_replies x.calls ≡ rs

  settle_told : (d d' : D) (x x' : SessionSeen) (rs : Replies) → Settles called d x d' x' → AllTold d x rs → AllTold d' x' rs
  settle_told d d' x x' rs t h = record {
    told = h.told ++ with_replies x.calls;
    since = handed_since d x.parcel x.reads x.calls d' h.told t.made h.since;
    all = ap (λ (c : List Done). (h.told ++ with_replies x.calls) ++ with_replies c) (settle_calls d d' x x' t) ∙ append-nil (h.told ++ with_replies x.calls) ∙ h.all;
  }

  tried_told : (k : call.Call) (Leaves : SessionSeen → SessionSeen → Type 0) (Is : SessionSeen → List Ask → Nodes → Type 0) (rs : Replies) (d d' : D) (x x' : SessionSeen) (end : Outcome) (told : LineAnswer) → told_outcome end ≡ Some told
      → ((y : SessionSeen) → Leaves y x' → with_replies x'.calls ≡ with_replies y.calls ++ replied k end) → Tried called seen d x Leaves Is end d' x' → AllTold d x rs → AllTold d' x' (rs ++ replied k end)
  tried_told k Leaves Is rs d d' x x' end told is left t h =
      let calls : with_replies x'.calls ≡ with_replies x.calls ++ replied k end =
      left (took x (map (λ (c : Call). c.told) t.given)) t.leaves ∙ ap (λ (c : List Done). with_replies c ++ replied k end) (took_calls x (map (λ (c : Call). c.told) t.given)) in
      record {
        told = h.told;
        since = calls_since h.told (t.given ++ t.last) d d'
            (λ c i. elim (In-cases c t.given t.last i) [ inl j ↦ given_got c (t.each c j) | inr j ↦ last_got end told t.last is t.ends c j ]) t.made h.since;
        all = ap (λ l. h.told ++ l) calls ∙ sym (append_assoc h.told (with_replies x.calls) (replied k end)) ∙ ap (λ l. l ++ replied k end) h.all;
      }

  -- ---- a change of mode

  -- the settle of the refused call, or the change of mode: the call is told
  last_since : (rs : Replies) (all : SessionSeen) (path : Path) (mode : Mode) (comes : Comes) (ungiven last : List Call) (end : Outcome) (told : LineAnswer) (d d' : D) → told_outcome end ≡ Some told → EndsAs all path mode comes ungiven last end → Calls called d last d' → Tells d rs → Tells d' (rs ++ replied (Chmod path mode) end)
  last_since rs all path mode BreaksOff ungiven last (Replied answer) told d d' is e made h = absurd e.1
  last_since rs all path mode BreaksOff ungiven last (Busy holder) told d d' is e made h =
      let same : d' ≡ d = subst (λ (l : List Call). Calls called d l d') e.0 made in
      subst (Tells d') (sym (append-nil rs)) (subst (λ x. Tells x rs) (sym same) h)
  last_since rs all path mode BreaksOff ungiven last NoMemory told d d' is e made h = absurd (cc is)
  last_since rs all path mode (HandsIn answer) ungiven last end told d d' is e made h = by e.1 e.3 (one_called called last _ e.1 d d' e.2 made)
    where
      by : (t : Told) → EndsHandedIn answer t end → called d (hand_in_ask all (Chmod path mode) answer) t d' → Tells d' (rs ++ replied (Chmod path mode) end)
      by Settled is_end c =
          subst (λ o. Tells d' (rs ++ replied (Chmod path mode) o)) (sym is_end)
          (handed_since d all.parcel all.reads (record { call = Chmod path mode; reply = answer; made = 0 } ∷ []) d' rs c h)
      by NotSettled is_end c = (let wrong : None ≡ Some told = ap told_outcome (sym is_end) ∙ is in absurd (cc wrong))
      by t is_end c = absurd is_end
  last_since rs all path mode (SetsMode ino) ungiven last end told d d' is e made h = by e.1 e.3 (one_called called last _ e.1 d d' e.2 made)
    where
      by : (t : Told) → EndsModed t end → called d (mode_ask all ino mode (Chmod path mode)) t d' → Tells d' (rs ++ replied (Chmod path mode) end)
      by ModeSet is_end c =
          subst (λ o. Tells d' (rs ++ replied (Chmod path mode) o)) (sym is_end)
          (told_since d (mode_ask all ino mode (Chmod path mode)) ModeSet d' rs (replied (Chmod path mode) (Replied (reply.Ok AnsweredDone))) (λ s. mode_tells s lib ino mode.0 all.reads (Chmod path mode)) c h)
      by (NotModeSet (BusyMode holder)) is_end c =
          subst (λ o. Tells d' (rs ++ replied (Chmod path mode) o)) (sym is_end)
          (subst (Tells d') (sym (append-nil rs)) (none_since d (mode_ask all ino mode (Chmod path mode)) (NotModeSet (BusyMode holder)) d' rs (λ s. refl) c h))
      by (NotModeSet NoModeMemory) is_end c = (let wrong : None ≡ Some told = ap told_outcome (sym is_end) ∙ is in absurd (cc wrong))
      by t is_end c = absurd is_end

  -- tries that begin with such a session, one without a call among them, and that tell their call or note it last
  record AreTries (k : call.Call) (Begins : SessionSeen → Type 0) (Try : D → SessionSeen → Outcome → D → SessionSeen → Type 0) : Type 0 where
    empty : (x : SessionSeen) → x.calls ≡ [] → Begins x
    tried :
        (rs : Replies) (d d' : D) (x x' : SessionSeen) (end : Outcome) (told : LineAnswer)
        → told_outcome end ≡ Some told → Begins x → Try d x end d' x' → AllTold d x rs → AllTold d' x' (rs ++ replied k end)

  file_tries : (k : call.Call) → AreTries k (λ x. Unit {0}) (FileTried called seen k)
  file_tries k = record {
    empty = λ x none. tt;
    tried = λ rs d d' x x' end told is any t h. tried_told k _ _ rs d d' x x' end told is (λ y l. left_by_file k t.0 y end x' l) t.1 h;
  }

  dir_tries : (k : call.Call) → AreTries k (λ x. Unit {0}) (DirTried called seen k)
  dir_tries k = record {
    empty = λ x none. tt;
    tried = λ rs d d' x x' end told is any t h. tried_told k _ _ rs d d' x x' end told is (λ y l. left_by_dir x.creds k t.0 y end x' l) t.1 h;
  }

  chmod_tries : (path : Path) (mode : Mode) → AreTries (Chmod path mode) (λ x. x.calls ≡ []) (ChmodTried called seen path mode)
  chmod_tries path mode = record {
    empty = λ x none. none;
    tried = λ rs d d' x x' end told is none t h.
        let all : SessionSeen = lent_to x t.given in
        let parts = calls_parted called (t.given ++ t.ungiven) t.last d d' t.made in
        let given = calls_since h.told (t.given ++ t.ungiven) d parts.0
        (λ c i. elim (In-cases c t.given t.ungiven i) [ inl j ↦ given_got c (t.each c j) | inr j ↦ ungiven_got all path mode t.comes t.ungiven t.last end told is t.ends c j ]) parts.1 h.since in
        let left : x'.calls ≡ [] = left_by_chmod all end x' (took_calls x (map (λ (c : Call). c.told) t.given) ∙ none) t.leaves in
        let before : h.told ≡ rs = sym (append-nil h.told) ∙ ap (λ (c : List Done). h.told ++ with_replies c) (sym none) ∙ h.all in
        record {
          told = h.told ++ replied (Chmod path mode) end;
          since = last_since h.told all path mode t.comes t.ungiven t.last end told parts.0 d' is t.ends parts.2 given;
          all = ap (λ (c : List Done). (h.told ++ replied (Chmod path mode) end) ++ with_replies c) left ∙ append-nil (h.told ++ replied (Chmod path mode) end) ∙ ap (λ l. l ++ replied (Chmod path mode) end) before;
        };
  }

  called_told : (k : call.Call) (Begins : SessionSeen → Type 0) (Try : D → SessionSeen → Outcome → D → SessionSeen → Type 0) → AreTries k Begins Try
      → (rs : Replies) (d d' : D) (x x' : SessionSeen) (end : Outcome) (told : LineAnswer) → told_outcome end ≡ Some told → Begins x → Called called Try d x end d' x' → AllTold d x rs → AllTold d' x' (rs ++ replied k end)
  called_told k Begins Try are rs d d' x x' end told is begins (Once real t) h = are.tried rs d d' x x' end told is begins t h
  called_told k Begins Try are rs d d' x x' end told is begins (Unsettled holder d1 x1 none t u) h = (let wrong : None ≡ Some told = ap told_outcome (sym none) ∙ is in absurd (cc wrong))
  called_told k Begins Try are rs d d' x x' end told is begins (LeftOut first last d1 d2 d3 x1 x2 x3 none t u v w) h = (let wrong : None ≡ Some told = ap told_outcome (sym none) ∙ is in absurd (cc wrong))
  called_told k Begins Try are rs d d' x x' end told is begins (Again holder d1 d2 x1 x2 real t u v) h =
      let h1 = are.tried rs d d1 x x1 (Busy holder) answered.Busy refl begins t h in
      let h2 = settle_told d1 d2 x1 x2 (rs ++ []) u h1 in
      let h3 = are.tried (rs ++ []) d2 d' x2 x' end told is (are.empty x2 (settle_calls d1 d2 x1 x2 u)) v h2 in
      subst (λ l. AllTold d' x' (l ++ replied k end)) (append-nil rs) h3
  called_told k Begins Try are rs d d' x x' end told is begins (GivesUp first last d1 d2 d3 x1 x2 x3 busy other t u v w) h =
      let h1 = are.tried rs d d1 x x1 (Busy first) answered.Busy refl begins t h in
      let h2 = settle_told d1 d2 x1 x2 (rs ++ []) u h1 in
      let h3 = are.tried (rs ++ []) d2 d3 x2 x3 (Busy last) answered.Busy refl (are.empty x2 (settle_calls d1 d2 x1 x2 u)) v h2 in
      let h4 = settle_told d3 d' x3 x' ((rs ++ []) ++ []) w h3 in
      subst (λ o. AllTold d' x' (rs ++ replied k o)) (sym busy) (subst (λ l. AllTold d' x' (l ++ [])) (append-nil rs) h4)

  -- ---- a line

  -- it has made entries of which this is true
  abbrev pub MadeSo : D → (List Entry → Type 0) → Type 0
  MadeSo d P = (es : List Entry) × Made d es × P es

  module _ (d d' : D) (x x' : SessionSeen) (none : Made d []) where
    begins : AllTold d x (with_replies x.calls)
    begins = record { told = []; since = record { entries = []; made = none; tells = refl }; all = refl }

    chmod_told : (path : Path) (mode : Mode) (end : Outcome) (told : LineAnswer) → told_outcome end ≡ Some told → ChmodCalled called seen d x path mode end d' x' → AllTold d' x' (with_replies x.calls ++ replied (Chmod path mode) end)
    chmod_told path mode end told is (Unbegun no_memory u) = (let wrong : None ≡ Some told = ap told_outcome (sym no_memory) ∙ is in absurd (cc wrong))
    chmod_told path mode end told is (Begun d1 x1 t c) =
        called_told (Chmod path mode) _ _ (chmod_tries path mode) (with_replies x.calls) d1 d' x1 x' end told is (settle_calls d d1 x x1 t) c (settle_told d d1 x x1 (with_replies x.calls) t begins)

    leased_told : (k : call.Call) (end : Outcome) (told : LineAnswer) → told_outcome end ≡ Some told → (b : Bool) → MatchBool b (EntryCalled called seen d x k end d' x') (FileCalled called seen d x k end d' x') → AllTold d' x' (with_replies x.calls ++ replied k end)
    leased_told k end told is true made = called_told k _ _ (dir_tries k) (with_replies x.calls) d d' x x' end told is tt made begins
    leased_told k end told is false made = called_told k _ _ (file_tries k) (with_replies x.calls) d d' x x' end told is tt made begins

    session_told : (k : call.Call) (end : Outcome) (told : LineAnswer) → told_outcome end ≡ Some told → SessionCalled called seen d x k end d' x' → AllTold d' x' (with_replies x.calls ++ replied k end)
    session_told (Chmod path mode) end told is made = chmod_told path mode end told is made
    session_told k end told is made = leased_told k end told is (is_dir_call k) made

    call_makes : (k : call.Call) (told : LineAnswer) → CallComes called seen d x k told d' x' → MadeSo d' (HonestMade x x' (CallLine k) told)
    call_makes k told c =
        let h = session_told k c.end told c.told_is c.made in (
          h.since.entries,
          h.since.made,
          record {
            tells = ap (λ l. l ++ with_replies x'.calls) h.since.tells ∙ h.all ∙ ap (λ l. with_replies x.calls ++ l) (replied_told k c.end told c.told_is);
            makes = call_line k c.end told h.since.entries c.told_is;
          },
        )

    pub settle_makes : Settles called d x d' x' → MadeSo d' (SettleMade x.calls)
    settle_makes t =
        let one = makes d [] (Settle x.parcel x.reads x.calls) Settled d' none t.made in
        (entries_told one.0 lib (Settle x.parcel x.reads x.calls) Settled, one.1, settle_made one.0 lib x.parcel x.reads x.calls)

    pub honest_makes : (line : HonestLine) (told : LineAnswer) → HonestComes called seen d x line told d' x' → MadeSo d' (HonestMade x x' line told)
    honest_makes (CallLine k) told c = call_makes k told c
    honest_makes SettleLine told c =
        let m = settle_makes c.0 in
        let es : List Entry = m.0 in
        let made : HonestMade x x' SettleLine (answered.Settled (length x.calls)) es = record {
          tells = ap (λ l. l ++ with_replies x'.calls) m.2.tells ∙ ap (λ l. with_replies x.calls ++ with_replies l) (settle_calls d d' x x' c.0);
          makes = m.2.settles;
        } in
        (es, m.1, subst (λ a. HonestMade x x' SettleLine a es) (sym c.1) made)
