-- Two plays of one script on one image come to the same.
use Rattle.trio_runner.proofs.Words.{◌+◌, ◌-◌, ◌<◌, ◌∙◌, ◌∷◌, ◌≡◌, ◌≢◌, AcceptedParcel, AllotLine, Alone, AreMoves, Ask, Asks, AtStart, BackLine, BeginsWith, Bool, Call, CallLine, Creds, Denied, DirTried, Done, EndAnswer, EndComes, EndSettled, Ends, EndsAll, EndsAlone, EntryCalled, FileCalled, FileTried, GiveBack, Given, Grant, GrantLine, Has, Heard, HoldsAll, HonestComes, HonestLine, HonestLines, Image, In, In-cases, InSession, IsAlike, IsFit, IsHeld, IsLibraryOf, IsWhole, Judged, Kept, Known, LeaseIs, Lent, LentIsTrue, LibNo, LineAnswer, LineComes, Lines, List, MatchBool, MatchOption, MayCall, ModeLine, ModeSet, Move, NoAllotMemory, NoFreeInodes, NoFreePages, NoGrantMemory, NoMemory, NoParent, NoReleaseMemory, None, NotClosedParcel, NotGiven, NotJudged, NotLent, NotLive, NotModeSet, NotSettled, Noted, Notes, Option, Outcome, Peek, Placed, Players, Plays, Poke, RawLine, RawLines, RefusedParcel, ReleaseAnswer, ReleaseLine, Replied, SameAnswer, Says, SaysHonest, ScriptLib, SessionCalled, SessionSeen, SettleLine, Settled, Share, Shown, Some, State, TakesTurn, Things, Told, Turn, TurnComes, Verifies, [], answer_of, ap, arith, ask_of, back_calls, desk_of, end_of, event_of, false, false≢true, get_or, has_after, has_nothing, inl, inr, is_dir_call, known, length, new_session, nothing, out_of, plain_step, refl, release_call, same_event_same_answer, sees, set, share_of, slice_get, subst, suc, sym, told_of, told_outcome, told_to, true, turns_of, unnoted, untold, with_answer, with_end, zero, ℕ}
use Rattle.trio_nodes.specs.declared.answers.GrantFault.TheVariants.{Busy}
use Rattle.trio_nodes.specs.declared.answers.ModeFault.TheVariants as unmoded
use Rattle.trio_state.specs.Step as step
use Rattle.trio_runner.proofs.Plain.{ask_plain, backs_plain, turn_plain}
use Rattle.trio_nodes.specs.declared.call.Call as call
use Rattle.trio_nodes.specs.declared.call.Call.TheVariants as calls
use Rattle.trio_runner.specs.PlayLaws.{PlayedIsOne}
use Rattle.trio_walk.specs.declared.outcome.Outcome.TheVariants.{Busy as BusyCall}
use Rattle.trio_report.specs.declared.answer.LineAnswer.TheVariants as answered
use Rattle.trio_runner.proofs.OneCall.{MayEnd, OneEnd as OneCalled, one_call, one_settle}
use Rattle.trio_runner.proofs.OneDir.{one_dir}
use Rattle.trio_runner.proofs.OneFile.{one_file}
use Rattle.trio_runner.proofs.OneMode.{one_chmod}
use Rattle.trio_runner.proofs.SameNodes.{HasOut, StandsTrue, may_has, moves_true}
use Rattle.trio_runner.proofs.Moves.{Stands, moves_parted, moves_stand, no_move, one_move}
use Rattle.trio_runner.proofs.Held.{held_after, held_stands, noted_of}
use Rattle.trio_runner.proofs.EndFree.{Libraries, libraries_later, script_libraries, start_held, within_some}
use Rattle.trio_runner.proofs.SameAnswers.{Alike, Lends, answers_alike, calls_known, lends_same, no_lease, Same, BothRefused}

-- ---- answers

-- what is told of alike answers is the same
pub told_alike : (said : RawLine) (a b : Told) → Alike a b → told_of said a ≡ told_of said b
told_alike said a b (Same told) = refl
told_alike (GrantLine ino kind) a b (BothRefused rule i p s i' p' s') = refl
told_alike (AllotLine wanted many) a b (BothRefused rule i p s i' p' s') = refl
told_alike (BackLine ino) a b (BothRefused rule i p s i' p' s') = refl
told_alike (Poke at offset bytes) a b (BothRefused rule i p s i' p' s') = refl
told_alike (Peek at offset len) a b (BothRefused rule i p s i' p' s') = refl
told_alike (ReleaseLine inos pages numbers) a b (BothRefused rule i p s i' p' s') = refl
told_alike (ModeLine ino mode) a b (BothRefused rule i p s i' p' s') = refl

pub has_alike : (lib : LibNo) (has : Has) (said : RawLine) (a b : Told) → Alike a b → has_after lib has said a ≡ has_after lib has said b
has_alike lib has said a b (Same told) = refl
has_alike lib has (GrantLine ino kind) a b (BothRefused rule i p s i' p' s') = refl
has_alike lib has (AllotLine wanted many) a b (BothRefused rule i p s i' p' s') = refl
has_alike lib has (BackLine ino) a b (BothRefused rule i p s i' p' s') = refl
has_alike lib has (Poke at offset bytes) a b (BothRefused rule i p s i' p' s') = refl
has_alike lib has (Peek at offset len) a b (BothRefused rule i p s i' p' s') = refl
has_alike lib has (ReleaseLine inos pages numbers) a b (BothRefused rule i p s i' p' s') = refl
has_alike lib has (ModeLine ino mode) a b (BothRefused rule i p s i' p' s') = refl

-- ---- lines

-- want of memory is told to no line
no_grant_memory : (said : RawLine) → told_of said (NotLent NoGrantMemory) ≡ None
no_grant_memory (GrantLine ino kind) = refl
no_grant_memory (AllotLine wanted many) = refl
no_grant_memory (BackLine ino) = refl
no_grant_memory (Poke at offset bytes) = refl
no_grant_memory (Peek at offset len) = refl
no_grant_memory (ReleaseLine inos pages numbers) = refl
no_grant_memory (ModeLine ino mode) = refl

no_allot_memory : (said : RawLine) → told_of said (NotGiven NoAllotMemory) ≡ None
no_allot_memory (GrantLine ino kind) = refl
no_allot_memory (AllotLine wanted many) = refl
no_allot_memory (BackLine ino) = refl
no_allot_memory (Poke at offset bytes) = refl
no_allot_memory (Peek at offset len) = refl
no_allot_memory (ReleaseLine inos pages numbers) = refl
no_allot_memory (ModeLine ino mode) = refl

no_release_memory : (said : RawLine) → told_of said (NotJudged NoReleaseMemory) ≡ None
no_release_memory (GrantLine ino kind) = refl
no_release_memory (AllotLine wanted many) = refl
no_release_memory (BackLine ino) = refl
no_release_memory (Poke at offset bytes) = refl
no_release_memory (Peek at offset len) = refl
no_release_memory (ReleaseLine inos pages numbers) = refl
no_release_memory (ModeLine ino mode) = refl

no_mode_memory : (said : RawLine) → told_of said (NotModeSet unmoded.NoMemory) ≡ None
no_mode_memory (GrantLine ino kind) = refl
no_mode_memory (AllotLine wanted many) = refl
no_mode_memory (BackLine ino) = refl
no_mode_memory (Poke at offset bytes) = refl
no_mode_memory (Peek at offset len) = refl
no_mode_memory (ReleaseLine inos pages numbers) = refl
no_mode_memory (ModeLine ino mode) = refl

no_settle_memory : (said : RawLine) → told_of said NotSettled ≡ None
no_settle_memory (GrantLine ino kind) = refl
no_settle_memory (AllotLine wanted many) = refl
no_settle_memory (BackLine ino) = refl
no_settle_memory (Poke at offset bytes) = refl
no_settle_memory (Peek at offset len) = refl
no_settle_memory (ReleaseLine inos pages numbers) = refl
no_settle_memory (ModeLine ino mode) = refl

pub told_some : (said : RawLine) (a : Told) (told : LineAnswer) → told_of said a ≡ Some told → answer_of a ≢ step.NoMemory
told_some said (Lent l) told is e = absurd (cc e)
told_some said (NotLent NotLive) told is e = absurd (cc e)
told_some said (NotLent (Denied n)) told is e = absurd (cc e)
told_some said (NotLent NoParent) told is e = absurd (cc e)
told_some said (NotLent (Busy h)) told is e = absurd (cc e)
told_some said (Given ps ns) told is e = absurd (cc e)
told_some said (NotGiven (NoFreePages wanted free)) told is e = absurd (cc e)
told_some said (NotGiven (NoFreeInodes wanted free)) told is e = absurd (cc e)
told_some said Done told is e = absurd (cc e)
told_some said (Judged AcceptedParcel) told is e = absurd (cc e)
told_some said (Judged (RefusedParcel rule ino page slot)) told is e = absurd (cc e)
told_some said (NotJudged (NotClosedParcel n)) told is e = absurd (cc e)
told_some said ModeSet told is e = absurd (cc e)
told_some said Settled told is e = absurd (cc e)
told_some said NotSettled told is e = (let wrong : None ≡ Some told = sym (no_settle_memory said) ∙ is in absurd (cc wrong))
told_some said (NotModeSet unmoded.NotLive) told is e = absurd (cc e)
told_some said (NotModeSet unmoded.NotOwner) told is e = absurd (cc e)
told_some said (NotModeSet unmoded.BadMode) told is e = absurd (cc e)
told_some said (NotModeSet (unmoded.Busy h)) told is e = absurd (cc e)
told_some said (NotLent NoGrantMemory) told is e = (let wrong : None ≡ Some told = sym (no_grant_memory said) ∙ is in absurd (cc wrong))
told_some said (NotGiven NoAllotMemory) told is e = (let wrong : None ≡ Some told = sym (no_allot_memory said) ∙ is in absurd (cc wrong))
told_some said (NotJudged NoReleaseMemory) told is e = (let wrong : None ≡ Some told = sym (no_release_memory said) ∙ is in absurd (cc wrong))
told_some said (NotModeSet unmoded.NoMemory) told is e = (let wrong : None ≡ Some told = sym (no_mode_memory said) ∙ is in absurd (cc wrong))

abbrev is_grant : RawLine → Bool
is_grant (GrantLine ino kind) = true
is_grant _ = false

-- a line but one for a grant is lent nothing
lent_none : (said : RawLine) (a : Told) (told : LineAnswer) → is_grant said ≡ false → told_of said a ≡ Some told → Lends no_lease a
lent_none (GrantLine ino kind) (Lent l) told f is = absurd (false≢true (sym f))
lent_none (AllotLine wanted many) (Lent l) told f is = absurd (cc is)
lent_none (BackLine ino) (Lent l) told f is = absurd (cc is)
lent_none (Poke at offset bytes) (Lent l) told f is = absurd (cc is)
lent_none (Peek at offset len) (Lent l) told f is = absurd (cc is)
lent_none (ReleaseLine inos pages numbers) (Lent l) told f is = absurd (cc is)
lent_none (ModeLine ino mode) (Lent l) told f is = absurd (cc is)
lent_none said (NotLent fault) told f is = tt
lent_none said (Given ps ns) told f is = tt
lent_none said (NotGiven fault) told f is = tt
lent_none said Done told f is = tt
lent_none said (Judged answer) told f is = tt
lent_none said (NotJudged fault) told f is = tt
lent_none said ModeSet told f is = tt
lent_none said Settled told f is = tt
lent_none said NotSettled told f is = tt
lent_none said (NotModeSet fault) told f is = tt

module _ (s t : State) (lib : LibNo) (same : known s ≡ known t) where
  alike_line : (has : Has) (said : RawLine) (ask : Ask) (a b : Told) (told told' : LineAnswer) → ask_of has said ≡ Some ask → told_of said a ≡ Some told → told_of said b ≡ Some told' → LeaseIs s lib ask a → LeaseIs t lib ask b → SameAnswer (answer_of a) (answer_of b) → Alike a b
  alike_line has (GrantLine ino kind) ask a b told told' e ta tb la lb one =
      let is : Grant ino kind ≡ ask = cc e in
      let lends = lends_same s t lib same ino kind a b (subst (λ x. LeaseIs s lib x a) (sym is) la) (subst (λ x. LeaseIs t lib x b) (sym is) lb) in
      answers_alike lends.0 a b lends.1 lends.2 (told_some (GrantLine ino kind) a told ta) (told_some (GrantLine ino kind) b told' tb) one
  alike_line has (AllotLine wanted many) ask a b told told' e ta tb la lb one =
      answers_alike no_lease a b (lent_none (AllotLine wanted many) a told refl ta) (lent_none (AllotLine wanted many) b told' refl tb) (told_some (AllotLine wanted many) a told ta) (told_some (AllotLine wanted many) b told' tb) one
  alike_line has (BackLine ino) ask a b told told' e ta tb la lb one =
      answers_alike no_lease a b (lent_none (BackLine ino) a told refl ta) (lent_none (BackLine ino) b told' refl tb) (told_some (BackLine ino) a told ta) (told_some (BackLine ino) b told' tb) one
  alike_line has (Poke at offset bytes) ask a b told told' e ta tb la lb one =
      answers_alike no_lease a b (lent_none (Poke at offset bytes) a told refl ta) (lent_none (Poke at offset bytes) b told' refl tb) (told_some (Poke at offset bytes) a told ta) (told_some (Poke at offset bytes) b told' tb) one
  alike_line has (Peek at offset len) ask a b told told' e ta tb la lb one =
      answers_alike no_lease a b (lent_none (Peek at offset len) a told refl ta) (lent_none (Peek at offset len) b told' refl tb) (told_some (Peek at offset len) a told ta) (told_some (Peek at offset len) b told' tb) one
  alike_line has (ReleaseLine inos pages numbers) ask a b told told' e ta tb la lb one =
      answers_alike no_lease a b (lent_none (ReleaseLine inos pages numbers) a told refl ta) (lent_none (ReleaseLine inos pages numbers) b told' refl tb) (told_some (ReleaseLine inos pages numbers) a told ta) (told_some (ReleaseLine inos pages numbers) b told' tb) one
  alike_line has (ModeLine ino mode) ask a b told told' e ta tb la lb one =
      answers_alike no_lease a b (lent_none (ModeLine ino mode) a told refl ta) (lent_none (ModeLine ino mode) b told' refl tb) (told_some (ModeLine ino mode) a told ta) (told_some (ModeLine ino mode) b told' tb) one

-- two turns of a library come to the same
record OneLine (s' t' : State) (has' has'' : Has) (told told' : LineAnswer) : Type 0 where
  told_same : told ≡ told'
  has_same : has' ≡ has''
  known_same : known s' ≡ known t'

one_line : (lib : LibNo) (said : RawLine) (s t : State) (has : Has) (calls calls' : List Call) (moves moves' : List Move) (told told' : LineAnswer) (s' t' : State) (has' has'' : Has) → Kept s → Kept t → known s ≡ known t → LineComes lib has said calls told has' → LineComes lib has said calls' told' has'' → AreMoves lib s calls moves s' → AreMoves lib t calls' moves' t' → OneLine s' t' has' has'' told told'
one_line lib said s t has calls calls' moves moves' told told' s' t' has' has'' ks kt same one two am bm = by (ask_of has said) refl one two
  where
    by : (o : Option Ask) → ask_of has said ≡ o → MatchOption o (Alone has said calls told has') (λ ask. Asks lib has said ask calls told has') → MatchOption o (Alone has said calls' told' has'') (λ ask. Asks lib has said ask calls' told' has'') → OneLine s' t' has' has'' told told'
    by None e a b = record {
      told_same = a.told_is ∙ sym b.told_is;
      has_same = a.has_is ∙ sym b.has_is;
      known_same = ap known (no_move lib s moves s' (subst (λ (l : List Call). AreMoves lib s l moves s') a.calls_are am)) ∙ same
          ∙ sym (ap known (no_move lib t moves' t' (subst (λ (l : List Call). AreMoves lib t l moves' t') b.calls_are bm)));
    }
    by (Some ask) e a b =
        let ha = one_move lib s (record { ask = ask; told = a.answer }) moves s' (subst (λ (l : List Call). AreMoves lib s l moves s') a.calls_are am) in
        let hb = one_move lib t (record { ask = ask; told = b.answer }) moves' t' (subst (λ (l : List Call). AreMoves lib t l moves' t') b.calls_are bm) in
        let r = same_event_same_answer s t (event_of lib ask) (answer_of a.answer) (answer_of b.answer) s' t' ks kt same
        (plain_step s lib ask a.answer s' (ask_plain has said ask e) ha) (plain_step t lib ask b.answer t' (ask_plain has said ask e) hb)
        (told_some said a.answer told a.told_is) (told_some said b.answer told' b.told_is) in
        let alike = alike_line s t lib same has said ask a.answer b.answer told told' e a.told_is b.told_is ha.lease hb.lease r.0 in
        let tolds : Some told ≡ Some told' = sym a.told_is ∙ told_alike said a.answer b.answer alike ∙ b.told_is in
        record { told_same = cc tolds; has_same = a.has_is ∙ has_alike lib has said a.answer b.answer alike ∙ sym b.has_is; known_same = r.1 }

-- ---- ends

pub backs_done : (rs : List Shown) (c : Call) → In c (back_calls rs) → answer_of c.told ≢ step.NoMemory
backs_done [] c i = absurd i
backs_done (r ∷ rs) c i =
    elim (In-cases c (back_calls rs) (record { ask = GiveBack r; told = Done } ∷ []) i) [
      | inl j ↦ backs_done rs c j
      | inr j ↦ elim j [
        | inl e ↦ (λ wrong. (let w : step.Done ≡ step.NoMemory = ap (λ (x : Call). answer_of x.told) (sym e) ∙ wrong in absurd (cc w)))
        | inr none ↦ absurd none
      ]
    ]

pub judged_some : (x : ReleaseAnswer) → answer_of (Judged x) ≢ step.NoMemory
judged_some AcceptedParcel e = absurd (cc e)
judged_some (RefusedParcel rule ino page slot) e = absurd (cc e)

-- how an end is told
abbrev pub end_told : Told → Option EndAnswer
end_told (Judged x) = Some (end_of x)
end_told _ = None

pub end_alike : (a b : Told) → Alike a b → end_told a ≡ end_told b
end_alike a b (Same told) = refl
end_alike a b (BothRefused rule i p s i' p' s') = refl

record OneEnd (s' t' : State) (end end' : EndAnswer) : Type 0 where
  end_same : end ≡ end'
  known_same : known s' ≡ known t'

one_end : (lib : LibNo) (s t : State) (has : Has) (calls calls' : List Call) (moves moves' : List Move) (end end' : EndAnswer) (s' t' : State) → Stands s → Stands t → known s ≡ known t → EndComes has calls end → EndComes has calls' end' → AreMoves lib s calls moves s' → AreMoves lib t calls' moves' t' → OneEnd s' t' end end'
one_end lib s t has calls calls' moves moves' end end' s' t' hs ht same one two am bm = by (has_nothing has) one two
  where
    by : (b : Bool) → MatchBool b (EndsAlone has calls end) (EndsAll has calls end) → MatchBool b (EndsAlone has calls' end') (EndsAll has calls' end') → OneEnd s' t' end end'
    by true a b = record {
      end_same = a.end_is ∙ sym b.end_is;
      known_same = calls_known lib (back_calls has.reads) s t moves moves' s' t' (backs_done has.reads) (backs_plain has.reads) hs ht same
          (subst (λ (l : List Call). AreMoves lib s l moves s') a.calls_are am) (subst (λ (l : List Call). AreMoves lib t l moves' t') b.calls_are bm);
    }
    by false a b =
        let x : Call = release_call has (Judged a.answer) in
        let y : Call = release_call has (Judged b.answer) in
        let p = moves_parted lib s (back_calls has.reads) (x ∷ []) moves s' (subst (λ (l : List Call). AreMoves lib s l moves s') a.calls_are am) in
        let q = moves_parted lib t (back_calls has.reads) (y ∷ []) moves' t' (subst (λ (l : List Call). AreMoves lib t l moves' t') b.calls_are bm) in
        let hp = moves_stand lib s (back_calls has.reads) p.first_moves p.middle hs p.before in
        let hq = moves_stand lib t (back_calls has.reads) q.first_moves q.middle ht q.before in
        let middle = calls_known lib (back_calls has.reads) s t p.first_moves q.first_moves p.middle q.middle (backs_done has.reads) (backs_plain has.reads) hs ht same p.before q.before in
        let ha = one_move lib p.middle x p.later_moves s' p.after in
        let hb = one_move lib q.middle y q.later_moves t' q.after in
        let r = same_event_same_answer p.middle q.middle (event_of lib x.ask) (answer_of x.told) (answer_of y.told) s' t' hp.kept hq.kept middle (plain_step p.middle lib x.ask x.told s' refl ha) (plain_step q.middle lib y.ask y.told t' refl hb) (judged_some a.answer) (judged_some b.answer) in
        let alike : Alike (Judged a.answer) (Judged b.answer) = answers_alike no_lease (Judged a.answer) (Judged b.answer) tt tt (judged_some a.answer) (judged_some b.answer) r.0 in
        let ends : Some (end_of a.answer) ≡ Some (end_of b.answer) = end_alike (Judged a.answer) (Judged b.answer) alike in
        record { end_same = a.end_is ∙ cc ends ∙ sym b.end_is; known_same = r.1 }

-- ---- turns

-- two libraries have the same: raw ones the same things, and the sessions of honest ones differ in indexes, look-ups and room alone
abbrev ShareAlike : Share → Share → Type 0
ShareAlike (Things a) (Things b) = a ≡ b
ShareAlike (InSession x) (InSession y) = IsAlike x y
ShareAlike a b = ⊥

-- the things of a session are out
abbrev ShareOut : State → LibNo → Share → Type 0
ShareOut s lib (Things has) = Unit {0}
ShareOut s lib (InSession x) = HasOut (out_of s lib) x

share_out : (s : State) (lib : LibNo) (share : Share) → HoldsAll (desk_of s lib) share → ShareOut s lib share
share_out s lib (Things has) h = tt
share_out s lib (InSession x) h = may_has s lib x h

record OneTurn (s' t' : State) (share' share'' : Share) (told' told'' : Heard) : Type 0 where
  told_same : told' ≡ told''
  shares_alike : ShareAlike share' share''
  known_same : known s' ≡ known t'

may_end : (lib : LibNo) (end : Outcome) (told : LineAnswer) (d : Noted) (x : SessionSeen) → told_outcome end ≡ Some told → MayCall (sees lib d) x → MayEnd lib end d x
may_end lib (Replied answer) told d x is may = may
may_end lib (BusyCall holder) told d x is may = tt
may_end lib NoMemory told d x is may = absurd (cc is)

-- two calls on a directory, or on a file, come to the same
one_leased : (lib : LibNo) (k : call.Call) (d e d' e' : Noted) (x y x' y' : SessionSeen) (end end' : Outcome) → StandsTrue d.state → StandsTrue e.state → known d.state ≡ known e.state → IsAlike x y → HasOut (out_of d.state lib) x → HasOut (out_of e.state lib) y → MayEnd lib end d' x' → MayEnd lib end' e' y'
    → (c : Bool) → MatchBool c (EntryCalled (Notes lib) (sees lib) d x k end d' x') (FileCalled (Notes lib) (sees lib) d x k end d' x') → MatchBool c (EntryCalled (Notes lib) (sees lib) e y k end' e' y') (FileCalled (Notes lib) (sees lib) e y k end' e' y') → OneCalled end end' d' e' x' y'
one_leased lib k d e d' e' x y x' y' end end' hd he same like has has' may may' true a b =
    one_call lib (DirTried (Notes lib) (sees lib) k) (one_dir lib k) d e d' e' x y x' y' end end' hd he same like has has' may may' a b
one_leased lib k d e d' e' x y x' y' end end' hd he same like has has' may may' false a b =
    one_call lib (FileTried (Notes lib) (sees lib) k) (one_file lib k) d e d' e' x y x' y' end end' hd he same like has has' may may' a b

-- and so do two calls of a session
one_called : (lib : LibNo) (k : call.Call) (d e d' e' : Noted) (x y x' y' : SessionSeen) (end end' : Outcome) → StandsTrue d.state → StandsTrue e.state → known d.state ≡ known e.state → IsAlike x y → HasOut (out_of d.state lib) x → HasOut (out_of e.state lib) y → MayEnd lib end d' x' → MayEnd lib end' e' y'
    → SessionCalled (Notes lib) (sees lib) d x k end d' x' → SessionCalled (Notes lib) (sees lib) e y k end' e' y' → OneCalled end end' d' e' x' y'
one_called lib (calls.Chmod path mode) d e d' e' x y x' y' end end' hd he same like has has' may may' a b =
    one_chmod lib path mode d e d' e' x y x' y' end end' hd he same like may may' a b
one_called lib k d e d' e' x y x' y' end end' hd he same like has has' may may' a b =
    one_leased lib k d e d' e' x y x' y' end end' hd he same like has has' may may' (is_dir_call k) a b

record OneHonest (s' t' : State) (x' y' : SessionSeen) (told told' : LineAnswer) : Type 0 where
  told_same : told ≡ told'
  alike : IsAlike x' y'
  known_same : known s' ≡ known t'

-- two lines of an honest library come to the same
one_honest : (lib : LibNo) (line : HonestLine) (s t : State) (x y : SessionSeen) (d' e' : Noted) (x' y' : SessionSeen) (told told' : LineAnswer) → StandsTrue s → StandsTrue t → known s ≡ known t → IsAlike x y → HasOut (out_of s lib) x → HasOut (out_of t lib) y → HonestComes (Notes lib) (sees lib) (unnoted s) x line told d' x' → HonestComes (Notes lib) (sees lib) (unnoted t) y line told' e' y' → OneHonest d'.state e'.state x' y' told told'
one_honest lib (CallLine k) s t x y d' e' x' y' told told' hs ht same like has has' a b =
    let may : MayEnd lib a.end d' x' = may_end lib a.end told d' x' a.told_is a.may in
    let may' : MayEnd lib b.end e' y' = may_end lib b.end told' e' y' b.told_is b.may in
    let o = one_called lib k (unnoted s) (unnoted t) d' e' x y x' y' a.end b.end hs ht same like has has' may may' a.made b.made in
    let tolds : Some told ≡ Some told' = sym a.told_is ∙ ap told_outcome o.end_same ∙ b.told_is in
    record { told_same = cc tolds; alike = o.alike; known_same = o.known_same }
one_honest lib SettleLine s t x y d' e' x' y' told told' hs ht same like has has' a b =
    let o = one_settle lib (unnoted s) (unnoted t) d' e' x y x' y' hs ht same like a.0 b.0 in
    let counts : length x.calls ≡ length y.calls = sym (ap (λ (q : SessionSeen). length q.calls) like) in
    record { told_same = a.1 ∙ ap (λ n. answered.Settled n) counts ∙ sym b.1; alike = o.alike; known_same = o.known_same }

one_turn : (lib : LibNo) (turn : Turn) (s t : State) (share share2 : Share) (told : Heard) (d' e' : Noted) (share' share'' : Share) (told' told'' : Heard) → StandsTrue s → StandsTrue t → known s ≡ known t → ShareAlike share share2 → ShareOut s lib share → ShareOut t lib share2 → TurnComes lib turn (unnoted s) share told d' share' told' → TurnComes lib turn (unnoted t) share2 told e' share'' told'' → AreMoves lib s d'.calls d'.moves d'.state → AreMoves lib t e'.calls e'.moves e'.state → OneTurn d'.state e'.state share' share'' told' told''
one_turn lib (Says line) s t (Things has) (Things has2) told d' e' (Things has') (Things has'') told' told'' hs ht same alike out out' a b am bm =
    let b1 = subst (λ (h : Has). LineComes lib h line.line e'.calls b.0 has'') (sym alike) b.1 in
    let r = one_line lib line.line s t has d'.calls e'.calls d'.moves e'.moves a.0 b.0 d'.state e'.state has' has'' hs.stands.kept ht.stands.kept same a.1 b1 am bm in
    record {
      told_same = a.2 ∙ ap (with_answer told) r.told_same ∙ sym b.2;
      shares_alike = r.has_same;
      known_same = r.known_same;
    }
one_turn lib (SaysHonest line) s t (InSession x) (InSession y) told d' e' (InSession x') (InSession y') told' told'' hs ht same alike out out' a b am bm =
    let r = one_honest lib line.line s t x y d' e' x' y' a.0 b.0 hs ht same alike out out' a.1 b.1 in
    record {
      told_same = a.2 ∙ ap (with_answer told) r.told_same ∙ sym b.2;
      shares_alike = r.alike;
      known_same = r.known_same;
    }
one_turn lib Ends s t (Things has) (Things has2) told d' e' (Things has') (Things has'') told' told'' hs ht same alike out out' a b am bm =
    let b1 = subst (λ (h : Has). EndComes h e'.calls b.0) (sym alike) b.1 in
    let r = one_end lib s t has d'.calls e'.calls d'.moves e'.moves a.0 b.0 d'.state e'.state hs.stands ht.stands same a.1 b1 am bm in
    record {
      told_same = a.3 ∙ ap (with_end told) r.end_same ∙ sym b.3;
      shares_alike = a.2 ∙ sym b.2;
      known_same = r.known_same;
    }
one_turn lib Ends s t (InSession x) (InSession y) told d' e' (InSession x') (InSession y') told' told'' hs ht same alike out out' a b am bm =
    let r = one_settle lib (unnoted s) (unnoted t) d' e' x y x' y' hs ht same alike a.0 b.0 in
    let counts : length x.calls ≡ length y.calls = sym (ap (λ (q : SessionSeen). length q.calls) alike) in
    record {
      told_same = a.1 ∙ ap (λ n. with_end told (EndSettled n)) counts ∙ sym b.1;
      shares_alike = r.alike;
      known_same = r.known_same;
    }
one_turn lib turn s t (Things has) (InSession y) told d' e' share' share'' told' told'' hs ht same alike out out' a b am bm = absurd alike
one_turn lib turn s t (InSession x) (Things has) told d' e' share' share'' told' told'' hs ht same alike out out' a b am bm = absurd alike
one_turn lib (Says line) s t (Things has) (Things has2) told d' e' (Things has') (InSession y) told' told'' hs ht same alike out out' a b am bm = absurd b
one_turn lib Ends s t (Things has) (Things has2) told d' e' (Things has') (InSession y) told' told'' hs ht same alike out out' a b am bm = absurd b
one_turn lib (SaysHonest line) s t (InSession x) (InSession y) told d' e' (InSession x') (Things has) told' told'' hs ht same alike out out' a b am bm = absurd b
one_turn lib Ends s t (InSession x) (InSession y) told d' e' (InSession x') (Things has) told' told'' hs ht same alike out out' a b am bm = absurd b
one_turn lib turn s t share share2 told d' e' share' share'' told' told'' hs ht same alike out out' a b am bm = absurd a

-- libraries that have the same, one by one
abbrev AllAlike : List Share → List Share → Type 0
AllAlike [] [] = Unit {0}
AllAlike (x ∷ xs) (y ∷ ys) = ShareAlike x y × AllAlike xs ys
AllAlike [] (y ∷ ys) = ⊥
AllAlike (x ∷ xs) [] = ⊥

alike_at : (xs ys : List Share) (i : ℕ) → AllAlike xs ys → ShareAlike (get_or xs i (Things nothing)) (get_or ys i (Things nothing))
alike_at [] [] i all = refl
alike_at [] (y ∷ ys) i all = absurd all
alike_at (x ∷ xs) [] i all = absurd all
alike_at (x ∷ xs) (y ∷ ys) zero all = all.0
alike_at (x ∷ xs) (y ∷ ys) (suc i) all = alike_at xs ys i all.1

alike_set : (xs ys : List Share) (i : ℕ) (x y : Share) → AllAlike xs ys → ShareAlike x y → AllAlike (set xs i x) (set ys i y)
alike_set [] [] i x y all one = tt
alike_set [] (b ∷ ys) i x y all one = absurd all
alike_set (a ∷ xs) [] i x y all one = absurd all
alike_set (a ∷ xs) (b ∷ ys) zero x y all one = (one, all.1)
alike_set (a ∷ xs) (b ∷ ys) (suc i) x y all one = (all.0, alike_set xs ys i x y all.1 one)

alike_each : (xs ys : List Share) → length xs ≡ length ys → ((i : ℕ) → i < length xs → ShareAlike (get_or xs i (Things nothing)) (get_or ys i (Things nothing))) → AllAlike xs ys
alike_each [] [] e h = tt
alike_each [] (y ∷ ys) e h = absurd (omega (arith, e))
alike_each (x ∷ xs) [] e h = absurd (omega (arith, e))
alike_each (x ∷ xs) (y ∷ ys) e h = (h 0 (omega arith), alike_each xs ys (omega (arith, e)) (λ i lt. h (suc i) (omega (arith, lt))))

-- of two players the same is known, and the libraries have and were told the same
record AlikePlayers (p q : Players) : Type 0 where
  known_same : known p.state ≡ known q.state
  shares_alike : AllAlike p.shares q.shares
  told_same : p.told ≡ q.told

-- players who may go on: what leases show is true, and each of these turns is one of their libraries'
record GoOn (p : Players) (turns : List Placed) : Type 0 where
  true : StandsTrue p.state
  held : IsHeld p
  libraries : Libraries p.state turns

goes_on : (p : Players) (u : Placed) (turns : List Placed) (moves : List Move) (p' : Players) → GoOn p (u ∷ turns) → TakesTurn p u moves p' → GoOn p' turns
goes_on p u turns moves p' h a = record {
  true = moves_true u.lib p.state a.calls moves p'.state (turn_plain p u moves p' a) h.true a.happen;
  held = held_after p u moves p' h.held (h.libraries u (inl refl)) a;
  libraries = libraries_later p u turns moves p' h.libraries a;
}

one_play : (turns : List Placed) (p q : Players) (moves moves' : List Move) (p' q' : Players) → GoOn p turns → GoOn q turns → AlikePlayers p q → Plays p turns moves p' → Plays q turns moves' q' → AlikePlayers p' q'
one_play [] p q moves moves' p' q' hp hq like one two =
    subst (λ x. AlikePlayers x q') (sym one.1) (subst (AlikePlayers p) (sym two.1) like)
one_play (u ∷ turns) p q moves moves' p' q' hp hq like one two =
    let a : TakesTurn p u one.first one.middle = one.takes in
    let b : TakesTurn q u two.first two.middle = two.takes in
    let i : ℕ = u.lib.0 - 1 in
    let told : told_to q u.lib ≡ told_to p u.lib = ap (λ (l : List Heard). get_or l i untold) (sym like.told_same) in
    let comes : TurnComes u.lib u.turn (unnoted q.state) (share_of q u.lib) (told_to p u.lib) (noted_of two.middle b.calls two.first) b.share' b.told' =
    subst (λ x. TurnComes u.lib u.turn (unnoted q.state) (share_of q u.lib) x (noted_of two.middle b.calls two.first) b.share' b.told') told b.comes in
    let r = one_turn u.lib u.turn p.state q.state (share_of p u.lib) (share_of q u.lib) (told_to p u.lib) (noted_of one.middle a.calls one.first) (noted_of two.middle b.calls two.first)
    a.share' b.share' a.told' b.told' hp.true hq.true like.known_same (alike_at p.shares q.shares i like.shares_alike)
    (share_out p.state u.lib (share_of p u.lib) (hp.held.all u.lib (hp.libraries u (inl refl)))) (share_out q.state u.lib (share_of q u.lib) (hq.held.all u.lib (hq.libraries u (inl refl))))
    a.comes comes a.happen b.happen in
    let middle : AlikePlayers one.middle two.middle = record {
      known_same = r.known_same;
      shares_alike = subst (λ x. AllAlike x two.middle.shares) (sym a.shares_are) (subst (AllAlike (set p.shares i a.share')) (sym b.shares_are) (alike_set p.shares q.shares i a.share' b.share' like.shares_alike r.shares_alike));
      told_same = a.told_is ∙ ap (λ (l : List Heard). set l i a.told') like.told_same ∙ ap (λ (x : Heard). set q.told i x) r.told_same ∙ sym b.told_is;
    } in
    one_play turns one.middle two.middle one.others two.others p' q' (goes_on p u turns one.first one.middle hp a) (goes_on q u turns two.first two.middle hq b) middle one.rest two.rest

begun_alike : (lib : LibNo) (creds : Creds) (lines : Lines) (a b : Share) → BeginsWith lib creds lines a → BeginsWith lib creds lines b → ShareAlike a b
begun_alike lib creds (RawLines lines) a b x y = subst (λ (s : Share). ShareAlike s b) (sym x) (subst (ShareAlike (Things nothing)) (sym y) refl)
begun_alike lib creds (HonestLines lines) a b x y =
    subst (λ (s : Share). ShareAlike s b) (sym x.1) (subst (ShareAlike (InSession (new_session lib creds x.0))) (sym y.1) refl)

-- at first nothing is lent
begun_on : (image : Image) (libs : List ScriptLib) (p : Players) → AtStart image libs p → IsFit image.core → Verifies image → IsWhole image → GoOn p (turns_of libs)
begun_on image libs p begins fit verifies whole =
    let h : IsHeld p = start_held image libs p begins fit verifies whole in
    record {
      true = record {
        stands = held_stands p h;
        lent = subst LentIsTrue (sym begins.state) (record { files = λ g f i. absurd i; holds = λ g f i. absurd i });
      };
      held = h;
      libraries = subst (λ (s : State). Libraries s (turns_of libs)) (sym begins.state) (script_libraries image libs);
    }

pub played_is_one : PlayedIsOne
played_is_one image libs a b fit verifies whole =
    let p : Players = a.first in
    let q : Players = b.first in
    let same : p.state ≡ q.state = a.begins.state ∙ sym b.begins.state in
    let shares : AllAlike p.shares q.shares =
    alike_each p.shares q.shares (a.begins.places ∙ sym b.begins.places)
    (λ i lt.
    (let many : length p.shares ≡ length libs = a.begins.places in
    let w = within_some libs i (omega (arith, lt, many)) in
    let lib : LibNo = record { 0 = i + 1 } in
    let at : i + 1 - 1 ≡ i = omega arith in
    let is : IsLibraryOf libs lib w.0 = (omega arith, ap (slice_get libs) at ∙ w.1) in
    subst (λ k. ShareAlike (get_or p.shares k (Things nothing)) (get_or q.shares k (Things nothing))) at
    (begun_alike lib w.0.creds w.0.lines (share_of p lib) (share_of q lib) (a.begins.begins lib w.0 is) (b.begins.begins lib w.0 is)))) in
    let r = one_play (turns_of libs) p q a.moves b.moves a.last b.last (begun_on image libs p a.begins fit verifies whole) (begun_on image libs q b.begins fit verifies whole)
    (record { known_same = ap known same; shares_alike = shares; told_same = a.begins.told ∙ sym b.begins.told }) a.plays b.plays in
    record { tolds = r.told_same; settles = ap (λ (k : Known). k.image) r.known_same }
