-- Two runs, in whose orders the libraries call in the same sequence and the honest ones ask the same, come to the same: the controller
-- tells both the same, and so each raw library asks the same next.
use Rattle.trio_runner.proofs.Words.{if◌then◌else◌, ◌++◌, ◌+◌, ◌-◌, ◌<◌, ◌==◌, ◌∙◌, ◌∷◌, ◌≡◌, ◌≢◌, ◌≤◌, ◌⊎◌, Allot, Alone, Ask, Asks, BeginsWith, Bool, BusyGrant, BusyMode, Call, CourseGoes, Denied, DeskIsLeft, Done, EndAnswer, EndComes, Ends, EndsAll, EndsAlone, Entry, GiveBack, Given, Goes, Going, Grant, Happening, Happens, Has, Heard, Holder, Honest, HonestLine, Image, In, In-cases, InSession, IsLibraryOf, IsPlain, Judged, Known, Lease, Lent, LibNo, LineAnswer, LineComes, Lines, List, MatchBool, MatchOption, ModeSet, NoAllotMemory, NoFreeInodes, NoFreePages, NoGrantMemory, NoParent, None, NotGiven, NotJudged, NotLent, NotLive, NotModeSet, NotSettled, OneOrder, Option, Origin, OthersLeave, Place, Raw, RawLine, RefusedParcel, Release, ReleaseAnswer, Says, SaysHonest, ScriptLib, ScriptLine, ScriptRan, SessionSeen, SetMode, Settle, SettledAll, Share, Shown, Some, State, Things, Told, Turn, TurnGoes, [], all_parts, answer_of, ap, apart, append-nil, append_assoc, arith, arrives, ask_of, back_calls, calls_by, cases_lt, creds_in, creds_of, end_of, eq-eqb, event_of, false, filter, get_or, has_nothing, heard_by, inl, inr, known, length, length-map, line_turns, map, map-In, ne_eqb, new_session, nothing, origin_in, parts_of, plain_step, refl, release_call, same_event_same_answer, sees_at, slice_get, slice_get_within, start, started, subst, suc, sym, true, untold, with_answer, with_end, ℕ}
use Rattle.std.proofs.lemmas.Bool.{cases_eq}
use Rattle.std.proofs.lemmas.List.Concat.{flat_map-append}
use mathlib.Core.List.{append_cancel_left}
use Rattle.trio_nodes.specs.declared.call.Call as call
use Rattle.trio_desk.specs.Calls as desk
use Rattle.trio_state.specs.State.{IsLibrary}
use Rattle.trio_state.specs.Step as step
use Rattle.trio_order.specs.Order.{InOrder, back_call}
use Rattle.trio_runner.specs.RunLaws.{CallAlike, EndAlike, IsRaw, OrderIsOne, libraries_in}
use Rattle.trio_runner.proofs.EndFree.{creds_at, script_library, within_some}
use Rattle.trio_runner.proofs.OneAsked.{HasMore, course_at, did, made_calls, more_stays}
use Rattle.trio_runner.proofs.RanFree.{HoldsAt, begins_at}
use Rattle.trio_runner.proofs.SeatHas.{arrives_at}
use Rattle.trio_runner.proofs.Held.{same_library}
use Rattle.trio_runner.proofs.Keeping.{course_keeps, turn_keeps}
use Rattle.trio_runner.proofs.Moves.{Stands, call_stands}
use Rattle.trio_runner.proofs.OneMode.{holders_same, modes_same}
use Rattle.trio_runner.proofs.OnePlay.{backs_done, end_alike, has_alike, judged_some, told_alike, told_some}
use Rattle.trio_runner.proofs.OneTry.{Gets, lent_gets}
use Rattle.trio_runner.proofs.Plain.{ask_plain, backs_plain, end_plain, line_plain}
use Rattle.trio_runner.proofs.SameAnswers.{Alike, BothRefused, Lends, Same, answers_alike, lends_same, no_lease}
use Rattle.trio_runner.proofs.Sessions.{ArePlain, IsAsked, asked_plain, line_keeps, settle_keeps}

-- ---- one call in each

-- a change of mode that found its file busy: read leases that were handed in with it stay out
record IsBusyMode (c : Call) : Type 0 where
  ino : ℕ
  mode : ℕ
  back : List Shown
  said : Option call.Call
  holder : Holder
  ask_is : c.ask ≡ SetMode ino mode back said
  told_is : c.told ≡ NotModeSet (BusyMode holder)

-- Both ask the same, and neither is told want of memory. No lease is given back with them, or they are busy.
record AskSame (p q : Call) : Type 0 where
  same : p.ask ≡ q.ask
  some : answer_of p.told ≢ step.NoMemory
  some' : answer_of q.told ≢ step.NoMemory
  plain : IsPlain p.ask ⊎ (IsBusyMode p × IsBusyMode q)

unlent : (a : Told) → ((l : Lease) → a ≡ Lent l → ⊥) → Lends no_lease a
unlent (Lent l) none = absurd (none l refl)
unlent (NotLent fault) none = tt
unlent (Given pages numbers) none = tt
unlent (NotGiven fault) none = tt
unlent Done none = tt
unlent (Judged answer) none = tt
unlent (NotJudged fault) none = tt
unlent SettledAll none = tt
unlent NotSettled none = tt
unlent ModeSet none = tt
unlent (NotModeSet fault) none = tt

-- what isn't a grant is lent nothing
lends_none : (s : State) (lib : LibNo) (ask : Ask) (told : Told) (s' : State) → ((l : Lease) → Gets ask (Lent l) → ⊥) → Happens s lib ask told s' → Lends no_lease told
lends_none s lib ask told s' none h = unlent told (λ l e. none l (lent_gets s lib ask l s' (subst (λ t. Happens s lib ask t s') e h)))

lends_both : (s t : State) (lib : LibNo) (ask : Ask) (a b : Told) (s' t' : State) → known s ≡ known t → Happens s lib ask a s' → Happens t lib ask b t' → (l : Lease) × Lends l a × Lends l b
lends_both s t lib (Grant ino kind) a b s' t' same h k = lends_same s t lib same ino kind a b h.lease k.lease
lends_both s t lib (Allot pages numbers) a b s' t' same h k =
    (no_lease, lends_none s lib (Allot pages numbers) a s' (λ l g. g) h, lends_none t lib (Allot pages numbers) b t' (λ l g. g) k)
lends_both s t lib (GiveBack lease) a b s' t' same h k =
    (no_lease, lends_none s lib (GiveBack lease) a s' (λ l g. g) h, lends_none t lib (GiveBack lease) b t' (λ l g. g) k)
lends_both s t lib (Release parcel) a b s' t' same h k =
    (no_lease, lends_none s lib (Release parcel) a s' (λ l g. g) h, lends_none t lib (Release parcel) b t' (λ l g. g) k)
lends_both s t lib (Settle parcel back calls) a b s' t' same h k =
    (no_lease, lends_none s lib (Settle parcel back calls) a s' (λ l g. g) h, lends_none t lib (Settle parcel back calls) b t' (λ l g. g) k)
lends_both s t lib (SetMode ino mode back call) a b s' t' same h k =
    (no_lease, lends_none s lib (SetMode ino mode back call) a s' (λ l g. g) h, lends_none t lib (SetMode ino mode back call) b t' (λ l g. g) k)

-- from states of which the same is known it is told alike, and the same is known then
record OneCall (a b : Told) (s t : State) : Type 0 where
  alike : Alike a b
  known_same : known s ≡ known t

one_plain : (lib : LibNo) (s t : State) (ask : Ask) (a b : Told) (s' t' : State) → Stands s → Stands t → known s ≡ known t → answer_of a ≢ step.NoMemory → answer_of b ≢ step.NoMemory → IsPlain ask → Happens s lib ask a s' → Happens t lib ask b t' → OneCall a b s' t'
one_plain lib s t ask a b s' t' hs ht same some some' plain h k =
    let r = same_event_same_answer s t (event_of lib ask) (answer_of a) (answer_of b) s' t' hs.kept ht.kept same
    (plain_step s lib ask a s' plain h) (plain_step t lib ask b t' plain k) some some' in
    let l = lends_both s t lib ask a b s' t' same h k in
    record { alike = answers_alike l.0 a b l.1 l.2 some some' r.0; known_same = r.1 }

one_busy : (lib : LibNo) (s t : State) (ino mode : ℕ) (back : List Shown) (said : Option call.Call) (holder other : Holder) (s' t' : State) → Stands s → Stands t → known s ≡ known t
    → Happens s lib (SetMode ino mode back said) (NotModeSet (BusyMode holder)) s' → Happens t lib (SetMode ino mode back said) (NotModeSet (BusyMode other)) t' → OneCall (NotModeSet (BusyMode holder)) (NotModeSet (BusyMode other)) s' t'
one_busy lib s t ino mode back said holder other s' t' hs ht same h k =
    let r = modes_same lib s t hs.kept ht.kept same s' t' ino mode back (step.NotModeSet (BusyMode holder)) (step.NotModeSet (BusyMode other)) h.is_step.0.0 k.is_step.0.0 h.back k.back h.is_step.0.1 k.is_step.0.1 (λ w. cc w) (λ w. cc w) in
    let one : holder ≡ other = holders_same lib s t hs.kept ht.kept same s' t' ino mode back holder other r.0 in
    record {
      alike = subst (λ x. Alike (NotModeSet (BusyMode holder)) (NotModeSet (BusyMode x))) one (Same (NotModeSet (BusyMode holder)));
      known_same = ap known h.is_step.1 ∙ same ∙ sym (ap known k.is_step.1);
    }

one_call : (lib : LibNo) (s t : State) (p q : Call) (s' t' : State) → Stands s → Stands t → known s ≡ known t → AskSame p q → Happens s lib p.ask p.told s' → Happens t lib q.ask q.told t' → OneCall p.told q.told s' t'
one_call lib s t p q s' t' hs ht same both h k = by both.plain
  where
    second : Happens t lib p.ask q.told t'
    second = subst (λ x. Happens t lib x q.told t') (sym both.same) k

    by : IsPlain p.ask ⊎ (IsBusyMode p × IsBusyMode q) → OneCall p.told q.told s' t'
    by (inl plain) = one_plain lib s t p.ask p.told q.told s' t' hs ht same both.some both.some' plain h second
    by (inr busy) =
        let x : IsBusyMode p = busy.0 in
        let y : IsBusyMode q = busy.1 in
        let ask : Ask = SetMode x.ino x.mode x.back x.said in
        let h1 : Happens s lib ask (NotModeSet (BusyMode x.holder)) s' = subst (λ a. Happens s lib a (NotModeSet (BusyMode x.holder)) s') x.ask_is (subst (λ a. Happens s lib p.ask a s') x.told_is h) in
        let k1 : Happens t lib ask (NotModeSet (BusyMode y.holder)) t' = subst (λ a. Happens t lib a (NotModeSet (BusyMode y.holder)) t') x.ask_is (subst (λ a. Happens t lib p.ask a t') y.told_is second) in
        let o = one_busy lib s t x.ino x.mode x.back x.said x.holder y.holder s' t' hs ht same h1 k1 in
        record {
          alike = subst (λ a. Alike a q.told) (sym x.told_is) (subst (Alike (NotModeSet (BusyMode x.holder))) (sym y.told_is) o.alike);
          known_same = o.known_same;
        }

-- ---- calls that go by what was told

-- Two lists of calls: each call is the same where those before were told alike, and this is true where all were.
abbrev Agree : Type 0 → List Call → List Call → Type 0
Agree R [] [] = R
Agree R (p ∷ ps) (q ∷ qs) = AskSame p q × (Alike p.told q.told → Agree R ps qs)
Agree R [] (q ∷ qs) = ⊥
Agree R (p ∷ ps) [] = ⊥

agree_on : (R S : Type 0) (ps qs more others : List Call) → Agree R ps qs → (R → Agree S more others) → Agree S (ps ++ more) (qs ++ others)
agree_on R S [] [] more others a next = next a
agree_on R S [] (q ∷ qs) more others a next = absurd a
agree_on R S (p ∷ ps) [] more others a next = absurd a
agree_on R S (p ∷ ps) (q ∷ qs) more others a next = (a.0, λ alike. agree_on R S ps qs more others (a.1 alike) next)

agree_so : (R S : Type 0) (ps qs : List Call) → (R → S) → Agree R ps qs → Agree S ps qs
agree_so R S [] [] so a = so a
agree_so R S [] (q ∷ qs) so a = absurd a
agree_so R S (p ∷ ps) [] so a = absurd a
agree_so R S (p ∷ ps) (q ∷ qs) so a = (a.0, λ alike. agree_so R S ps qs so (a.1 alike))

agree_same : (R : Type 0) (cs : List Call) → ArePlain cs → ((c : Call) → In c cs → answer_of c.told ≢ step.NoMemory) → R → Agree R cs cs
agree_same R [] plain some r = r
agree_same R (c ∷ cs) plain some r = (
  record { same = refl; some = some c (inl refl); some' = some c (inl refl); plain = inl (plain c (inl refl)) },
  λ alike. agree_same R cs (λ x i. plain x (inr i)) (λ x i. some x (inr i)) r,
)

-- a call that gives no lease back is one part
plain_parts : (ask : Ask) (told : Told) → IsPlain ask → parts_of ask told ≡ record { ask = ask; told = told } ∷ []
plain_parts (Settle parcel back calls) SettledAll none =
    ap (λ (b : List Shown). map back_call b ++ record { ask = Settle parcel [] calls; told = SettledAll } ∷ []) none
    ∙ ap (λ (b : List Shown). record { ask = Settle parcel b calls; told = SettledAll } ∷ []) (sym none)
plain_parts (SetMode ino mode back call) ModeSet none =
    ap (λ (b : List Shown). map back_call b ++ record { ask = SetMode ino mode [] call; told = ModeSet } ∷ []) none
    ∙ ap (λ (b : List Shown). record { ask = SetMode ino mode b call; told = ModeSet } ∷ []) (sym none)
plain_parts ask told none = refl

-- of calls of which none gives one back
plain_all : (cs : List Call) → ArePlain cs → all_parts cs ≡ cs
plain_all [] plain = refl
plain_all (c ∷ cs) plain =
    ap (λ (l : List Call). l ++ all_parts cs) (plain_parts c.ask c.told (plain c (inl refl)))
    ∙ ap (λ (l : List Call). c ∷ l) (plain_all cs (λ x i. plain x (inr i)))

agree_parts : (R : Type 0) (ps qs : List Call) → ArePlain ps → ArePlain qs → Agree R ps qs → Agree R (all_parts ps) (all_parts qs)
agree_parts R ps qs plain plain' a =
    subst (λ xs. Agree R xs (all_parts qs)) (sym (plain_all ps plain)) (subst (Agree R ps) (sym (plain_all qs plain')) a)

-- ---- two orders

first_library : (a b : LibNo) (more others : List LibNo) → a ∷ more ≡ b ∷ others → a ≡ b
first_library a b more others e = cc e

other_libraries : (a b : LibNo) (more others : List LibNo) → a ∷ more ≡ b ∷ others → more ≡ others
other_libraries a b more others e = cc e

calls_own : (lib : LibNo) (p : Happening) (order : List Happening) → p.lib.0 ≡ lib.0 → calls_by lib (p ∷ order) ≡ p.call ∷ calls_by lib order
calls_own lib p order e =
    let rest : List Happening = filter (λ (q : Happening). q.lib.0 == lib.0) order in
    ap (λ (b : Bool). map (λ (q : Happening). q.call) (if b then p ∷ rest else rest)) (eq-eqb p.lib.0 lib.0 e)

calls_else : (lib : LibNo) (p : Happening) (order : List Happening) → p.lib.0 ≢ lib.0 → calls_by lib (p ∷ order) ≡ calls_by lib order
calls_else lib p order apart =
    let rest : List Happening = filter (λ (q : Happening). q.lib.0 == lib.0) order in
    ap (λ (b : Bool). map (λ (q : Happening). q.call) (if b then p ∷ rest else rest)) (ne_eqb p.lib.0 lib.0 apart)

-- in the same sequence, of libraries whose calls agree
orders_one : (R : LibNo → Type 0) (a b : List Happening) (s t s' t' : State) → Stands s → Stands t → known s ≡ known t → libraries_in a ≡ libraries_in b → ((lib : LibNo) → Agree (R lib) (calls_by lib a) (calls_by lib b)) → InOrder s a s' → InOrder t b t' → ((lib : LibNo) → R lib) × (known s' ≡ known t')
orders_one R [] [] s t s' t' hs ht same sequence agree one two = (agree, ap known one ∙ same ∙ sym (ap known two))
orders_one R [] (k ∷ b) s t s' t' hs ht same sequence agree one two = absurd (cc sequence)
orders_one R (h ∷ a) [] s t s' t' hs ht same sequence agree one two = absurd (cc sequence)
orders_one R (h ∷ a) (k ∷ b) s t s' t' hs ht same sequence agree one two =
    let lib_is : k.lib ≡ h.lib = sym (first_library h.lib k.lib (libraries_in a) (libraries_in b) sequence) in
    let own : Agree (R h.lib) (h.call ∷ calls_by h.lib a) (k.call ∷ calls_by h.lib b) =
    subst (λ ps. Agree (R h.lib) ps (k.call ∷ calls_by h.lib b)) (calls_own h.lib h a refl)
    (subst (Agree (R h.lib) (calls_by h.lib (h ∷ a))) (calls_own h.lib k b (ap (λ (l : LibNo). l.0) lib_is)) (agree h.lib)) in
    let first : Happens s h.lib h.call.ask h.call.told h.after = subst (λ x. Happens x h.lib h.call.ask h.call.told h.after) one.0 one.1 in
    let second : Happens t h.lib k.call.ask k.call.told k.after =
    subst (λ l. Happens t l k.call.ask k.call.told k.after) lib_is (subst (λ x. Happens x k.lib k.call.ask k.call.told k.after) two.0 two.1) in
    let o = one_call h.lib s t h.call k.call h.after k.after hs ht same own.0 first second in
    let rest : (lib : LibNo) → Agree (R lib) (calls_by lib a) (calls_by lib b) = λ lib.
    elim (cases_eq h.lib.0 lib.0) [
      | inl e ↦ subst (λ l. Agree (R l) (calls_by l a) (calls_by l b)) (same_library h.lib lib e) (own.1 o.alike)
      | inr apart ↦
          subst (λ ps. Agree (R lib) ps (calls_by lib b)) (calls_else lib h a apart)
          (subst (Agree (R lib) (calls_by lib (h ∷ a))) (calls_else lib k b (λ e. apart (ap (λ (l : LibNo). l.0) (sym lib_is) ∙ e))) (agree lib))
    ] in
    orders_one R a b h.after k.after s' t' (call_stands s h.lib h.call.ask h.call.told h.after hs first) (call_stands t h.lib k.call.ask k.call.told k.after ht second) o.known_same
    (other_libraries h.lib k.lib (libraries_in a) (libraries_in b) sequence) rest one.2 two.2

-- ---- a turn of a raw library

line_agrees : (lib : LibNo) (has : Has) (said : RawLine) (calls calls' : List Call) (told told' : LineAnswer) (has' has'' : Has) → LineComes lib has said calls told has' → LineComes lib has said calls' told' has'' → Agree ((told ≡ told') × (has' ≡ has'')) calls calls'
line_agrees lib has said calls calls' told told' has' has'' one two = by (ask_of has said) refl one two
  where
    by : (o : Option Ask) → ask_of has said ≡ o → MatchOption o (Alone has said calls told has') (λ ask. Asks lib has said ask calls told has') → MatchOption o (Alone has said calls' told' has'') (λ ask. Asks lib has said ask calls' told' has'') → Agree ((told ≡ told') × (has' ≡ has'')) calls calls'
    by None e a b =
        subst (λ ps. Agree ((told ≡ told') × (has' ≡ has'')) ps calls') (sym a.calls_are)
        (subst (Agree ((told ≡ told') × (has' ≡ has'')) []) (sym b.calls_are) (a.told_is ∙ sym b.told_is, a.has_is ∙ sym b.has_is))
    by (Some ask) e a b =
        let p : Call = record { ask = ask; told = a.answer } in
        let q : Call = record { ask = ask; told = b.answer } in
        let both : AskSame p q = record { same = refl; plain = inl (ask_plain has said ask e); some = told_some said a.answer told a.told_is; some' = told_some said b.answer told' b.told_is } in
        let so : Alike a.answer b.answer → (told ≡ told') × (has' ≡ has'') = λ alike.
        (let tolds : Some told ≡ Some told' = sym a.told_is ∙ told_alike said a.answer b.answer alike ∙ b.told_is in
        (cc tolds, a.has_is ∙ has_alike lib has said a.answer b.answer alike ∙ sym b.has_is)) in
        let agree : Agree ((told ≡ told') × (has' ≡ has'')) (p ∷ []) (q ∷ []) = (both, so) in
        subst (λ ps. Agree ((told ≡ told') × (has' ≡ has'')) ps calls') (sym a.calls_are)
        (subst (Agree ((told ≡ told') × (has' ≡ has'')) (p ∷ [])) (sym b.calls_are) agree)

end_agrees : (has : Has) (calls calls' : List Call) (end end' : EndAnswer) → EndComes has calls end → EndComes has calls' end' → Agree (end ≡ end') calls calls'
end_agrees has calls calls' end end' one two = by (has_nothing has) one two
  where
    backs : (R : Type 0) → R → Agree R (back_calls has.reads) (back_calls has.reads)
    backs R r = agree_same R (back_calls has.reads) (backs_plain has.reads) (backs_done has.reads) r

    by : (b : Bool) → MatchBool b (EndsAlone has calls end) (EndsAll has calls end) → MatchBool b (EndsAlone has calls' end') (EndsAll has calls' end') → Agree (end ≡ end') calls calls'
    by true a b =
        subst (λ ps. Agree (end ≡ end') ps calls') (sym a.calls_are)
        (subst (Agree (end ≡ end') (back_calls has.reads)) (sym b.calls_are) (backs (end ≡ end') (a.end_is ∙ sym b.end_is)))
    by false a b =
        let p : Call = release_call has (Judged a.answer) in
        let q : Call = release_call has (Judged b.answer) in
        let both : AskSame p q = record { same = refl; plain = inl refl; some = judged_some a.answer; some' = judged_some b.answer } in
        let so : Alike (Judged a.answer) (Judged b.answer) → end ≡ end' = λ alike.
        (let ends : Some (end_of a.answer) ≡ Some (end_of b.answer) = end_alike (Judged a.answer) (Judged b.answer) alike in
        a.end_is ∙ cc ends ∙ sym b.end_is) in
        let last : Agree (end ≡ end') (p ∷ []) (q ∷ []) = (both, so) in
        let agree : Agree (end ≡ end') (back_calls has.reads ++ p ∷ []) (back_calls has.reads ++ q ∷ []) =
        agree_on (Unit {0}) (end ≡ end') (back_calls has.reads) (back_calls has.reads) (p ∷ []) (q ∷ []) (backs (Unit {0}) tt) (λ u. last) in
        subst (λ ps. Agree (end ≡ end') ps calls') (sym a.calls_are)
        (subst (Agree (end ≡ end') (back_calls has.reads ++ p ∷ [])) (sym b.calls_are) agree)

-- two raw libraries have the same, and were told the same
abbrev NowSame : Share → Share → Heard → Heard → Type 0
NowSame share share' told told' = (has : Has) × (share ≡ Things has) × (share' ≡ Things has) × (told ≡ told')

-- calls of both, whose parts agree
abbrev GoAgreed : Type 0 → Going → Going → Going → Going → Type 0
GoAgreed R g g' h h' = (ps : List Call) × (qs : List Call) × desk.Calls Goes g ps g' × desk.Calls Goes h qs h' × Agree R (all_parts ps) (all_parts qs)

turn_agrees : (lib : LibNo) (turn : Turn) (has : Has) (told : Heard) (g g' h h' : Going) (share share' : Share) (told' told'' : Heard) → g.seat.lib ≡ lib → h.seat.lib ≡ lib → TurnGoes turn g (Things has) told g' share told' → TurnGoes turn h (Things has) told h' share' told'' → GoAgreed (NowSame share share' told' told'') g g' h h'
turn_agrees lib (Says line) has told g g' h h' (Things x) (Things y) told' told'' is is' c d =
    let one : LineComes lib has line.line c.0 c.1 x = subst (λ l. LineComes l has line.line c.0 c.1 x) is c.2 in
    let two : LineComes lib has line.line d.0 d.1 y = subst (λ l. LineComes l has line.line d.0 d.1 y) is' d.2 in
    let so : (c.1 ≡ d.1) × (x ≡ y) → NowSame (Things x) (Things y) told' told'' = λ r.
    (y, ap Things r.1, refl, c.4 ∙ ap (with_answer told) r.0 ∙ sym d.4) in
    let agree : Agree (NowSame (Things x) (Things y) told' told'') c.0 d.0 = agree_so ((c.1 ≡ d.1) × (x ≡ y)) (NowSame (Things x) (Things y) told' told'') c.0 d.0 so (line_agrees lib has line.line c.0 d.0 c.1 d.1 x y one two) in
    (c.0, d.0, c.3, d.3, agree_parts (NowSame (Things x) (Things y) told' told'') c.0 d.0 (line_plain lib has line.line c.0 c.1 x one) (line_plain lib has line.line d.0 d.1 y two) agree)
turn_agrees lib Ends has told g g' h h' (Things x) (Things y) told' told'' is is' c d =
    let so : c.1 ≡ d.1 → NowSame (Things x) (Things y) told' told'' = λ r. (nothing, ap Things c.4, ap Things d.4, c.5 ∙ ap (with_end told) r ∙ sym d.5) in
    let agree : Agree (NowSame (Things x) (Things y) told' told'') c.0 d.0 = agree_so (c.1 ≡ d.1) (NowSame (Things x) (Things y) told' told'') c.0 d.0 so (end_agrees has c.0 d.0 c.1 d.1 c.2 d.2) in
    (c.0, d.0, c.3, d.3, agree_parts (NowSame (Things x) (Things y) told' told'') c.0 d.0 (end_plain has c.0 c.1 c.2) (end_plain has d.0 d.1 d.2) agree)
turn_agrees lib (SaysHonest line) has told g g' h h' share share' told' told'' is is' c d = absurd c
turn_agrees lib (Says line) has told g g' h h' (InSession x) share' told' told'' is is' c d = absurd c
turn_agrees lib Ends has told g g' h h' (InSession x) share' told' told'' is is' c d = absurd c
turn_agrees lib (Says line) has told g g' h h' (Things x) (InSession y) told' told'' is is' c d = absurd d
turn_agrees lib Ends has told g g' h h' (Things x) (InSession y) told' told'' is is' c d = absurd d

-- ---- all turns of a raw library

-- the calls behind some, in two parts
two_parts : (base first later cs : List Call) (middle last : List Call) → middle ≡ base ++ first → last ≡ middle ++ later → last ≡ base ++ cs → cs ≡ first ++ later
two_parts base first later cs middle last a b all =
    append_cancel_left base cs (first ++ later) (sym all ∙ b ∙ ap (λ (l : List Call). l ++ later) a ∙ append_assoc base first later)

course_agrees : (lib : LibNo) (turns : List Turn) (p p' q q' : Place) (cs ds : List Call) → p.going.seat.lib ≡ lib → q.going.seat.lib ≡ lib → NowSame p.share q.share p.told q.told → CourseGoes p turns p' → CourseGoes q turns q' → p'.going.calls ≡ p.going.calls ++ cs → q'.going.calls ≡ q.going.calls ++ ds → Agree (p'.told ≡ q'.told) (all_parts cs) (all_parts ds)
course_agrees lib [] p p' q q' cs ds is is' now one two made made' =
    let none : (x x' : Place) (l : List Call) → x' ≡ x → x'.going.calls ≡ x.going.calls ++ l → l ≡ [] = λ x x' l e m.
    append_cancel_left x.going.calls l [] (sym m ∙ ap (λ (y : Place). y.going.calls) e ∙ sym (append-nil x.going.calls)) in
    let same : p'.told ≡ q'.told = ap (λ (x : Place). x.told) one ∙ now.3 ∙ sym (ap (λ (x : Place). x.told) two) in
    subst (λ ps. Agree (p'.told ≡ q'.told) (all_parts ps) (all_parts ds)) (sym (none p p' cs one made))
    (subst (λ qs. Agree (p'.told ≡ q'.told) [] (all_parts qs)) (sym (none q q' ds two made')) same)
course_agrees lib (turn ∷ turns) p p' q q' cs ds is is' now one two made made' =
    let m : Place = one.0 in
    let n : Place = two.0 in
    let c : TurnGoes turn p.going (Things now.0) p.told m.going m.share m.told = subst (λ (y : Share). TurnGoes turn p.going y p.told m.going m.share m.told) now.1 one.1 in
    let d : TurnGoes turn q.going (Things now.0) p.told n.going n.share n.told =
    subst (λ (t : Heard). TurnGoes turn q.going (Things now.0) t n.going n.share n.told) (sym now.3)
    (subst (λ (y : Share). TurnGoes turn q.going y q.told n.going n.share n.told) now.2 two.1) in
    let t = turn_agrees lib turn now.0 p.told p.going m.going q.going n.going m.share n.share m.told n.told is is' c d in
    let more : HasMore m.going.calls p'.going = course_keeps (HasMore m.going.calls) (more_stays m.going.calls) m turns p' ([], sym (append-nil m.going.calls)) one.2 in
    let others : HasMore n.going.calls q'.going = course_keeps (HasMore n.going.calls) (more_stays n.going.calls) n turns q' ([], sym (append-nil n.going.calls)) two.2 in
    let all : (xs ys : List Call) → all_parts (xs ++ ys) ≡ all_parts xs ++ all_parts ys = flat_map-append (λ (x : Call). parts_of x.ask x.told) in
    let parts : all_parts cs ≡ all_parts t.0 ++ all_parts more.0 =
    ap (λ (l : List Call). all_parts l) (two_parts p.going.calls t.0 more.0 cs m.going.calls p'.going.calls (made_calls t.0 p.going m.going t.2) more.1 made) ∙ all t.0 more.0 in
    let parts' : all_parts ds ≡ all_parts t.1 ++ all_parts others.0 =
    ap (λ (l : List Call). all_parts l) (two_parts q.going.calls t.1 others.0 ds n.going.calls q'.going.calls (made_calls t.1 q.going n.going t.3) others.1 made') ∙ all t.1 others.0 in
    let stays : (x : Going) (ask : Ask) (told : Told) (x' : Going) → x.seat.lib ≡ lib → Goes x ask told x' → x'.seat.lib ≡ lib = λ x ask told x' own goes. goes.turn.lib ∙ own in
    let there : m.going.seat.lib ≡ lib = turn_keeps (λ (x : Going). x.seat.lib ≡ lib) stays turn p.going p.share p.told m.going m.share m.told is one.1 in
    let there' : n.going.seat.lib ≡ lib = turn_keeps (λ (x : Going). x.seat.lib ≡ lib) stays turn q.going q.share q.told n.going n.share n.told is' two.1 in
    let agree : Agree (p'.told ≡ q'.told) (all_parts t.0 ++ all_parts more.0) (all_parts t.1 ++ all_parts others.0) =
    agree_on (NowSame m.share n.share m.told n.told) (p'.told ≡ q'.told) (all_parts t.0) (all_parts t.1) (all_parts more.0) (all_parts others.0) t.4
    (λ next. course_agrees lib turns m p' n q' more.0 others.0 there there' next one.2 two.2 more.1 others.1) in
    subst (λ ps. Agree (p'.told ≡ q'.told) ps (all_parts ds)) (sym parts) (subst (Agree (p'.told ≡ q'.told) (all_parts t.0 ++ all_parts more.0)) (sym parts') agree)

-- ---- an honest library

-- a part of a call to which want of memory wasn't told, and no verdict
record IsFair (c : Call) : Type 0 where
  some : answer_of c.told ≢ step.NoMemory
  unjudged : (answer : ReleaseAnswer) → c.told ≡ Judged answer → ⊥
  plain : IsPlain c.ask ⊎ IsBusyMode c

asked_some : (ask : Ask) (told : Told) → IsAsked ask told → answer_of told ≢ step.NoMemory
asked_some ask (Lent lease) is e = absurd (cc e)
asked_some ask (Given pages numbers) is e = absurd (cc e)
asked_some (Grant ino kind) (NotLent NotLive) is e = absurd (cc e)
asked_some (Grant ino kind) (NotLent (Denied n)) is e = absurd (cc e)
asked_some (Grant ino kind) (NotLent NoParent) is e = absurd (cc e)
asked_some (Grant ino kind) (NotLent (BusyGrant holder)) is e = absurd (cc e)
asked_some (Grant ino kind) (NotLent NoGrantMemory) is e = absurd (is refl)
asked_some (Allot pages numbers) (NotGiven (NoFreePages wanted free)) is e = absurd (cc e)
asked_some (Allot pages numbers) (NotGiven (NoFreeInodes wanted free)) is e = absurd (cc e)
asked_some (Allot pages numbers) (NotGiven NoAllotMemory) is e = absurd (is refl)
asked_some (Settle parcel back calls) SettledAll is e = absurd (cc e)
asked_some (SetMode ino mode back said) ModeSet is e = absurd (cc e)
asked_some (SetMode ino mode back said) (NotModeSet (BusyMode holder)) is e = absurd (cc e)
asked_some ask told is e = absurd is

asked_unjudged : (ask : Ask) (told : Told) → IsAsked ask told → (answer : ReleaseAnswer) → told ≡ Judged answer → ⊥
asked_unjudged ask told is answer e = by ask (subst (IsAsked ask) e is)
  where
    by : (ask : Ask) → IsAsked ask (Judged answer) → ⊥
    by (Grant ino kind) w = w
    by (Allot pages numbers) w = w
    by (GiveBack lease) w = w
    by (Release parcel) w = w
    by (Settle parcel back calls) w = w
    by (SetMode ino mode back said) w = w

one_fair : (x : Call) → IsFair x → (c : Call) → In c (x ∷ []) → IsFair c
one_fair x fair c i = elim i [ inl e ↦ subst IsFair (sym e) fair | inr none ↦ absurd none ]

behind_fair : (back : List Shown) (x : Call) → IsFair x → (c : Call) → In c (map back_call back ++ x ∷ []) → IsFair c
behind_fair back x fair c i =
    elim (In-cases c (map back_call back) (x ∷ []) i) [
      | inl j ↦
          (let m = map-In back_call c back j in
          let given : IsFair (back_call m.0) = record { some = λ e. absurd (cc e); unjudged = λ a e. absurd (cc e); plain = inl refl } in
          subst IsFair (sym m.2) given)
      | inr j ↦ one_fair x fair c j
    ]

-- a call that is one part
whole_fair : (s : State) (lib : LibNo) (ask : Ask) (told : Told) (s' : State) → IsAsked ask told → Happens s lib ask told s' → apart ask told ≡ record { ask = ask; told = told } ∷ [] → (c : Call) → In c (record { ask = ask; told = told } ∷ []) → IsFair c
whole_fair s lib ask told s' is h whole c i =
    let x : Call = record { ask = ask; told = told } in
    let there : In x (apart ask told) = subst (λ (l : List Call). In x l) (sym whole) (inl refl) in
    let fair : IsFair x = record { some = asked_some ask told is; unjudged = asked_unjudged ask told is; plain = inl (asked_plain s lib ask told s' is h x there) } in
    one_fair x fair c i

parts_fair : (s : State) (lib : LibNo) (ask : Ask) (told : Told) (s' : State) → IsAsked ask told → Happens s lib ask told s' → (c : Call) → In c (parts_of ask told) → IsFair c
parts_fair s lib (Settle parcel back calls) SettledAll s' is h c i =
    behind_fair back (record { ask = Settle parcel [] calls; told = SettledAll }) (record { some = λ e. absurd (cc e); unjudged = λ a e. absurd (cc e); plain = inl refl }) c i
parts_fair s lib (SetMode ino mode back said) ModeSet s' is h c i =
    behind_fair back (record { ask = SetMode ino mode [] said; told = ModeSet }) (record { some = λ e. absurd (cc e); unjudged = λ a e. absurd (cc e); plain = inl refl }) c i
parts_fair s lib (SetMode ino mode back said) (NotModeSet (BusyMode holder)) s' is h c i =
    one_fair (record { ask = SetMode ino mode back said; told = NotModeSet (BusyMode holder) })
    (record {
      some = λ e. absurd (cc e);
      unjudged = λ a e. absurd (cc e);
      plain = inr (record {
        ino = ino;
        mode = mode;
        back = back;
        said = said;
        holder = holder;
        ask_is = refl;
        told_is = refl;
      });
    }) c i
parts_fair s lib (Settle parcel back calls) (Lent lease) s' is h c i = whole_fair s lib (Settle parcel back calls) (Lent lease) s' is h refl c i
parts_fair s lib (Settle parcel back calls) (Given pages numbers) s' is h c i = whole_fair s lib (Settle parcel back calls) (Given pages numbers) s' is h refl c i
parts_fair s lib (SetMode ino mode back said) (Lent lease) s' is h c i = whole_fair s lib (SetMode ino mode back said) (Lent lease) s' is h refl c i
parts_fair s lib (SetMode ino mode back said) (Given pages numbers) s' is h c i = whole_fair s lib (SetMode ino mode back said) (Given pages numbers) s' is h refl c i
parts_fair s lib (Grant ino kind) told s' is h c i = whole_fair s lib (Grant ino kind) told s' is h refl c i
parts_fair s lib (Allot pages numbers) told s' is h c i = whole_fair s lib (Allot pages numbers) told s' is h refl c i
parts_fair s lib (GiveBack lease) told s' is h c i = whole_fair s lib (GiveBack lease) told s' is h refl c i
parts_fair s lib (Release parcel) told s' is h c i = whole_fair s lib (Release parcel) told s' is h refl c i
parts_fair s lib ask told s' is h c i = absurd is

-- all parts of its calls are so
abbrev AllFair : Going → Type 0
AllFair g = (c : Call) → In c (all_parts g.calls) → IsFair c

goes_fair : (g : Going) (ask : Ask) (told : Told) (g' : Going) → IsAsked ask told → Goes g ask told g' → AllFair g → AllFair g'
goes_fair g ask told g' is goes fair c i =
    let x : Call = record { ask = ask; told = told } in
    let parts : all_parts g'.calls ≡ all_parts g.calls ++ parts_of ask told =
    ap (λ (l : List Call). all_parts l) goes.calls_are ∙ flat_map-append (λ (y : Call). parts_of y.ask y.told) g.calls (x ∷ []) ∙ ap (λ (l : List Call). all_parts g.calls ++ l) (append-nil (parts_of ask told)) in
    elim (In-cases c (all_parts g.calls) (parts_of ask told) (subst (λ (l : List Call). In c l) parts i)) [
      | inl j ↦ fair c j
      | inr j ↦ parts_fair goes.turn.before g.seat.lib ask told goes.turn.after is goes.turn.did c j
    ]

-- it is in a session still
record FairSession (p : Place) : Type 0 where
  session : SessionSeen
  is : p.share ≡ InSession session
  fair : AllFair p.going

turn_fair : (turn : Turn) (g : Going) (x : SessionSeen) (told : Heard) (p : Place) → TurnGoes turn g (InSession x) told p.going p.share p.told → AllFair g → FairSession p
turn_fair turn g x told p goes fair = by turn p.share refl goes
  where
    by : (turn : Turn) (share : Share) → p.share ≡ share → TurnGoes turn g (InSession x) told p.going share p.told → FairSession p
    by (Says line) share is c = absurd c
    by (SaysHonest line) (Things has) is c = absurd c
    by (SaysHonest line) (InSession x') is c = record { session = x'; is = is; fair = line_keeps Goes sees_at AllFair goes_fair g p.going x x' line.line c.0 c.1 fair }
    by Ends (Things has) is c = absurd c
    by Ends (InSession x') is c = record { session = x'; is = is; fair = settle_keeps Goes sees_at AllFair goes_fair g p.going x x' c.0 fair }

course_fair : (p : Place) (turns : List Turn) (p' : Place) → FairSession p → CourseGoes p turns p' → FairSession p'
course_fair p [] p' h goes = subst FairSession (sym goes) h
course_fair p (turn ∷ turns) p' h goes =
    let middle : Place = goes.0 in
    let first : TurnGoes turn p.going (InSession h.session) p.told middle.going middle.share middle.told =
    subst (λ (y : Share). TurnGoes turn p.going y p.told middle.going middle.share middle.told) h.is goes.1 in
    course_fair middle turns p' (turn_fair turn p.going h.session p.told middle first h.fair) goes.2

first_ask : (a b : Ask) (more others : List Ask) → a ∷ more ≡ b ∷ others → a ≡ b
first_ask a b more others e = cc e

other_asks : (a b : Ask) (more others : List Ask) → a ∷ more ≡ b ∷ others → more ≡ others
other_asks a b more others e = cc e

-- alike answers but verdicts are the same
told_one : (a b : Told) → Alike a b → ((answer : ReleaseAnswer) → a ≡ Judged answer → ⊥) → a ≡ b
told_one a b (Same told) none = refl
told_one a b (BothRefused rule i x s i' x' s') none = absurd (none (RefusedParcel rule i x s) refl)

-- where both ask the same all along, their calls agree; and they are the same where all were told alike
fair_agree : (R : Type 0) (ps qs : List Call) → map (λ (c : Call). c.ask) ps ≡ map (λ (c : Call). c.ask) qs → ((c : Call) → In c ps → IsFair c) → ((c : Call) → In c qs → IsFair c) → (ps ≡ qs → R) → Agree R ps qs
fair_agree R [] [] asks fair fair' so = so refl
fair_agree R [] (q ∷ qs) asks fair fair' so = absurd (cc asks)
fair_agree R (p ∷ ps) [] asks fair fair' so = absurd (cc asks)
fair_agree R (p ∷ ps) (q ∷ qs) asks fair fair' so =
    let same : p.ask ≡ q.ask = first_ask p.ask q.ask (map (λ (c : Call). c.ask) ps) (map (λ (c : Call). c.ask) qs) asks in
    let x : IsFair p = fair p (inl refl) in
    let y : IsFair q = fair' q (inl refl) in
    let plain : IsPlain p.ask ⊎ (IsBusyMode p × IsBusyMode q) =
    elim x.plain [
      | inl plain ↦ inl plain
      | inr busy ↦ elim y.plain [ inl plain ↦ inl (subst IsPlain (sym same) plain) | inr also ↦ inr (busy, also) ]
    ] in
    let both : AskSame p q = record { same = same; some = x.some; some' = y.some; plain = plain } in
    let one : Alike p.told q.told → p ≡ q = λ alike.
    ap (λ (a : Ask). record { ask = a; told = p.told }) same ∙ ap (λ (t : Told). record { ask = q.ask; told = t }) (told_one p.told q.told alike x.unjudged) in (
      both,
      λ alike.
          fair_agree R ps qs (other_asks p.ask q.ask (map (λ (c : Call). c.ask) ps) (map (λ (c : Call). c.ask) qs) asks) (λ c i. fair c (inr i)) (λ c i. fair' c (inr i))
          (λ rest. so (ap (λ (c : Call). c ∷ ps) (one alike) ∙ ap (λ (l : List Call). q ∷ l) rest)),
    )

-- ---- two runs

among : (n l : ℕ) → ((1 ≤ l) × (l ≤ n)) ⊎ ((1 ≤ l) × (l ≤ n) → ⊥)
among n l =
    elim (cases_lt l 1) [
      | inl low ↦ inr (λ is. (let one = is.0 in omega (arith, low, one)))
      | inr up ↦ elim (cases_lt n l) [
        | inl high ↦ inr (λ is. (let most = is.1 in omega (arith, high, most)))
        | inr small ↦ inl (up, small)
      ]
    ]

not_raw : (lines : List (ScriptLine HonestLine)) (l : ScriptLib) → l.lines ≡ Honest lines → IsRaw l → ⊥
not_raw lines l honest raw = (let wrong : Honest lines ≡ Raw raw.0 = sym honest ∙ raw.1 in cc wrong)

-- two lists of one length that have the same at each place are one
same_lists : (xs ys : List Heard) → length xs ≡ length ys → ((n : ℕ) → n < length xs → get_or xs n untold ≡ get_or ys n untold) → xs ≡ ys
same_lists [] [] e each = refl
same_lists [] (y ∷ ys) e each = absurd (cc e)
same_lists (x ∷ xs) [] e each = absurd (cc e)
same_lists (x ∷ xs) (y ∷ ys) e each =
    let rest : length xs ≡ length ys = cc e in
    ap (λ z. z ∷ xs) (each 0 (omega arith)) ∙ ap (λ zs. y ∷ zs) (same_lists xs ys rest (λ n lt. each (suc n) (omega (arith, lt))))

module _ (is_left : DeskIsLeft) (others_leave : OthersLeave) (image : Image) (libs : List ScriptLib) (tolds tolds' : List Heard) (s s' : State) (log log' : List Entry) (ran : ScriptRan image libs tolds s log) (ran' : ScriptRan image libs tolds' s' log') where
  -- a library of the script is told the same in both
  abbrev ToldSame : LibNo → Type 0
  ToldSame lib = (l : ScriptLib) → IsLibraryOf libs lib l → (ran.last lib).told ≡ (ran'.last lib).told

  abbrev parts : LibNo → List Call
  parts lib = did (ran.last lib).going

  abbrev parts' : LibNo → List Call
  parts' lib = did (ran'.last lib).going

  abbrev place : LibNo → Share → Place
  place lib share = record { going = arrives (origin_in image libs) lib; share = share; told = untold }

  raw_agrees : (lib : LibNo) (l : ScriptLib) → IsLibraryOf libs lib l → IsRaw l → Agree (ToldSame lib) (parts lib) (parts' lib)
  raw_agrees lib l is raw =
      let a = ran.ran lib l is in
      let b = ran'.ran lib l is in
      let begins : a.share ≡ Things nothing = subst (λ (y : Lines). BeginsWith lib l.creds y a.share) raw.1 a.begins in
      let begins' : b.share ≡ Things nothing = subst (λ (y : Lines). BeginsWith lib l.creds y b.share) raw.1 b.begins in
      let agree : Agree ((ran.last lib).told ≡ (ran'.last lib).told) (parts lib) (parts' lib) =
      course_agrees lib (line_turns l.lines ++ Ends ∷ []) (place lib a.share) (ran.last lib) (place lib b.share) (ran'.last lib) (ran.last lib).going.calls (ran'.last lib).going.calls refl refl (nothing, begins, begins', refl) a.goes b.goes refl refl in
      agree_so ((ran.last lib).told ≡ (ran'.last lib).told) (ToldSame lib) (parts lib) (parts' lib) (λ same k other. same) agree

  honest_agrees : (lib : LibNo) (l : ScriptLib) (lines : List (ScriptLine HonestLine)) → IsLibraryOf libs lib l → l.lines ≡ Honest lines → map (λ (c : Call). c.ask) (parts lib) ≡ map (λ (c : Call). c.ask) (parts' lib) → Agree (ToldSame lib) (parts lib) (parts' lib)
  honest_agrees lib l lines is honest asks =
      let a = ran.ran lib l is in
      let b = ran'.ran lib l is in
      let first : Origin = origin_in image libs in
      let begins : BeginsWith lib l.creds (Honest lines) a.share = subst (λ (y : Lines). BeginsWith lib l.creds y a.share) honest a.begins in
      let begins' : BeginsWith lib l.creds (Honest lines) b.share = subst (λ (y : Lines). BeginsWith lib l.creds y b.share) honest b.begins in
      let turns : List Turn = line_turns l.lines ++ Ends ∷ [] in
      let p : Place = place lib a.share in
      let q : Place = place lib b.share in
      let x : SessionSeen = new_session lib l.creds begins.0 in
      let y : SessionSeen = new_session lib l.creds begins'.0 in
      let fair = course_fair p turns (ran.last lib) (record { session = x; is = begins.1; fair = λ c i. absurd i }) a.goes in
      let fair' = course_fair q turns (ran'.last lib) (record { session = y; is = begins'.1; fair = λ c i. absurd i }) b.goes in
      let at = arrives_at is_left others_leave first lib ran.left.begins in
      let creds : l.creds ≡ creds_of (started first) lib.0 = creds_at libs lib.0 l is.0 is.1 in
      let may : HoldsAt (sees_at (arrives first lib)) a.share = begins_at image libs lib l.creds l.lines a.share creds a.begins in
      let may' : HoldsAt (sees_at (arrives first lib)) b.share = begins_at image libs lib l.creds l.lines b.share creds b.begins in
      let told : parts lib ≡ parts' lib → (ran.last lib).told ≡ (ran'.last lib).told =
      course_at is_left others_leave first lib turns p (ran.last lib) q (ran'.last lib) x y at at begins.1 begins'.1 refl refl refl (subst (HoldsAt (sees_at (arrives first lib))) begins.1 may) (subst (HoldsAt (sees_at (arrives first lib))) begins'.1 may') a.goes b.goes in
      fair_agree (ToldSame lib) (parts lib) (parts' lib) asks fair.fair fair'.fair (λ same k other. told same)

  module _ (one : OneOrder (start image (creds_in libs)) (λ lib. (ran.last lib).going.calls) log s) (two : OneOrder (start image (creds_in libs)) (λ lib. (ran'.last lib).going.calls) log' s') (alike : CallAlike libs one.order two.order) where
    -- of a library of the script
    parts_agree : (lib : LibNo) (l : ScriptLib) → IsLibraryOf libs lib l → IsLibrary (creds_in libs) lib.0 → Agree (ToldSame lib) (parts lib) (parts' lib)
    parts_agree lib l is there = by l.lines refl
      where
        by : (lines : Lines) → l.lines ≡ lines → Agree (ToldSame lib) (parts lib) (parts' lib)
        by (Raw lines) e = raw_agrees lib l is (lines, e)
        by (Honest lines) e =
            elim (alike.asked lib l is) [
              | inl raw ↦ absurd (not_raw lines l e raw)
              | inr asks ↦
                  honest_agrees lib l lines is e
                  (ap (λ (cs : List Call). map (λ (c : Call). c.ask) cs) (sym (one.own lib there)) ∙ asks ∙ ap (λ (cs : List Call). map (λ (c : Call). c.ask) cs) (two.own lib there))
            ]

    calls_agree : (lib : LibNo) → Agree (ToldSame lib) (calls_by lib one.order) (calls_by lib two.order)
    calls_agree lib =
        elim (among (length (creds_in libs)) lib.0) [
          | inl is ↦
              (let l = script_library image libs lib is in
              subst (λ ps. Agree (ToldSame lib) ps (calls_by lib two.order)) (sym (one.own lib is))
              (subst (Agree (ToldSame lib) (parts lib)) (sym (two.own lib is)) (parts_agree lib l.0 l.1 is)))
          | inr out ↦
              (let none : ToldSame lib = λ l is. absurd (out (of_script lib l is)) in
              subst (λ ps. Agree (ToldSame lib) ps (calls_by lib two.order)) (sym (one.no_other lib out))
              (subst (Agree (ToldSame lib) []) (sym (two.no_other lib out)) none))
        ]
      where
        of_script : (lib : LibNo) (l : ScriptLib) → IsLibraryOf libs lib l → IsLibrary (creds_in libs) lib.0
        of_script lib l is =
            let low : 1 ≤ lib.0 = is.0 in
            let within : lib.0 - 1 < length libs = slice_get_within libs (lib.0 - 1) l is.1 in
            let many : length (creds_in libs) ≡ length libs = length-map libs _ in
            (low, omega (arith, low, within, many))

    come_to_one : EndAlike tolds tolds' s s'
    come_to_one =
        let first : State = start image (creds_in libs) in
        let stands : Stands first = record { kept = ran.left.begins; as_told = λ g i. absurd i; whole = λ g x i j. absurd i } in
        let r = orders_one ToldSame one.order two.order first first s s' stands stands refl alike.sequence calls_agree one.happen two.happen in
        let each : (n : ℕ) → n < length tolds → get_or tolds n untold ≡ get_or tolds' n untold = λ n lt.
        (let count : length tolds ≡ length libs = ran.told_count in
        let lib : LibNo = record { 0 = n + 1 } in
        let there = within_some libs n (omega (arith, lt, count)) in
        let at : lib.0 - 1 ≡ n = omega arith in
        let is : IsLibraryOf libs lib there.0 = (omega arith, subst (λ k. slice_get libs k ≡ Some there.0) (sym at) there.1) in
        let heard : heard_by tolds lib ≡ heard_by tolds' lib = sym (ran.told lib there.0 is) ∙ r.0 lib there.0 is ∙ ran'.told lib there.0 is in
        subst (λ k. get_or tolds k untold ≡ get_or tolds' k untold) at heard) in
        record { image = ap (λ (k : Known). k.image) r.1; told = same_lists tolds tolds' (ran.told_count ∙ sym ran'.told_count) each }

pub order_is_one : DeskIsLeft → OthersLeave → OrderIsOne
order_is_one is_left others_leave image libs tolds tolds' s s' log log' ran ran' one two alike = come_to_one is_left others_leave image libs tolds tolds' s s' log log' ran ran' one two alike
