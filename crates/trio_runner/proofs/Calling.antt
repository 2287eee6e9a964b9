-- What each line comes to at a desk.
use Rattle.trio_runner.proofs.Words.{if◌then◌else◌, ◌∙◌, ◌∷◌, ◌≡◌, Allot, AllotLine, Alone, Answer, AreMoves, Ask, Asks, BackLine, Call, Controller, DeskSeen, Done, Ended, Ends, Err, GiveBack, Given, GoesOn, Grant, GrantFault, GrantKind, GrantLine, Happens, Has, Heard, IfOk, InSession, Judged, Lent, LibNo, LibOut, LineAnswer, List, LogsCall, MatchOption, ModeFault, ModeLine, ModeSet, NoAllotMemory, NoGrantMemory, NoInodes, NoPages, NoReleaseMemory, None, NotClosedParcel, NotGiven, NotJudged, NotLent, NotModeSet, NotSettled, Noted, Ok, OnList, Option, RawLine, Release, ReleaseAnswer, ReleaseLine, Result, Said, Says, SaysHonest, SetMode, Settled, Share, Shown, Some, Things, Told, TookNext, TookTurn, Turn, TurnComes, TurnMade, TurnTaken, [], ap, ask_of, children_in, desk_of, false≢true, has_after, has_all_of, inl, inr, nothing, option_map, parcel_named, read_on, refl, subst, sym, told_grant, told_of, unnoted, with_end, with_told, ℕ}
use Rattle.std.proofs.Common.{OnOk, IsErr}
use Rattle.std.specs.Prelude.{IsFalse}
use Rattle.std.proofs.lemmas.Bool.{true_from_ne_false}
use Rattle.trio_nodes.specs.declared.answers.AllotFault.{AllotFault}
use Rattle.trio_nodes.specs.declared.entry.AllotAnswer.{AllotAnswer}
use Rattle.trio_nodes.specs.declared.entry.AllotAnswer.TheVariants.{Given as GivenAnswer, Refused as RefusedAnswer}
use Rattle.trio_desk.specs.Calls.{OneCall, Made, NotMade}
use Rattle.trio_raw.specs.Asked.{AfterAllot, AfterBack, AfterGrant, AfterMode, AfterRelease, Back, IsRefusal, NoAllot, NoGrant, NoRelease}
use Rattle.trio_raw.specs.declared.raw.RawFault.{RawFault}
use Rattle.trio_raw.specs.declared.raw.RawFault.TheVariants.{Absent, NotClosed, NoMemory}
use Rattle.trio_report.specs.declared.answer.LineAnswer.TheVariants as answered
use Rattle.trio_runner.specs.Line.{told_fault, told_unmoded, told_verdict, told_want}
use Rattle.trio_runner.specs.Players.{LineCalled}
use Rattle.trio_runner.proofs.Noting.{Stands, begins, line_noted, settle_noted}
use Rattle.trio_runner.proofs.Moves.{MovesMade, moves_made}

-- what follows of an answer
pub if_ok : {T E : Type 0} (r : Result T E) (P Q : T → Type 0) → ((x : T) → P x → Q x) → IfOk r P → IfOk r Q
if_ok (Ok x) P Q f h = f x h
if_ok (Err e) P Q f h = h

pub on_ok : {T E : Type 0} (r : Result T E) (A B : Type 0) → (A → B) → OnOk r A → OnOk r B
on_ok (Ok x) A B f h = f h
on_ok (Err e) A B f h = h

pub on_both : {T E : Type 0} (r : Result T E) (A B C : Type 0) → (A → B → C) → OnOk r A → OnOk r B → OnOk r C
on_both (Ok x) A B C f a b = f a b
on_both (Err e) A B C f a b = a

pub ok_is : {T E : Type 0} (r : Result T E) (x : T) (A : Type 0) → r ≡ Ok x → OnOk r A → A
ok_is (Ok y) x A e h = h
ok_is (Err y) x A e h = absurd (cc e)

-- nothing stands on any list
pub nothing_on_list : (out : LibOut) → OnList out nothing
nothing_on_list out = record {
  writes = λ f i. absurd i;
  reads = λ r i. absurd i;
  holds = λ h i. absurd i;
  pages = λ p i. absurd i;
  numbers = λ n i. absurd i;
  writes_once = refl;
  reads_once = refl;
  holds_once = refl;
  pages_once = refl;
  numbers_once = refl;
}

-- how a grant and a change of mode are told, by what the library is answered
abbrev pub GrantTold : GrantKind → Result ℕ GrantFault → LineAnswer → Type 0
GrantTold kind (Ok children) told = told ≡ told_grant kind children
GrantTold kind (Err fault) told = told_fault fault ≡ Some told

abbrev pub ModeTold : Result Unit ModeFault → LineAnswer → Type 0
ModeTold (Ok done) told = told ≡ answered.ModeSet
ModeTold (Err fault) told = told_unmoded fault ≡ Some told

-- how an allotment is
abbrev pub AllotTold : AllotAnswer → LineAnswer → Type 0
AllotTold (GivenAnswer pages numbers) told = told ≡ answered.Allotted pages numbers
AllotTold (RefusedAnswer fault) told = told_want fault ≡ Some told

-- how a release is that came to a verdict, or was not closed
abbrev pub ReleaseTold : Result ReleaseAnswer RawFault → LineAnswer → Type 0
ReleaseTold (Ok answer) told = told ≡ told_verdict answer
ReleaseTold (Err (NotClosed ino)) told = told ≡ answered.NotClosed ino
ReleaseTold (Err Absent) told = ⊥
ReleaseTold (Err NoMemory) told = ⊥

module _ {D : Type 0} (called : D → Ask → Told → D → Type 0) (d d' : D) (lib : LibNo) (has has' : Has) where
  abbrev Comes : RawLine → LineAnswer → Type 0
  Comes said told = LineCalled called d lib has said told d' has'

  asked : (said : RawLine) (ask : Ask) (answer : Told) (told : LineAnswer) → ask_of has said ≡ Some ask → called d ask answer d' → told_of said answer ≡ Some told → has' ≡ has_after lib has said answer → Comes said told
  asked said ask answer told e c t h =
      let calls : List Call = record { ask = ask; told = answer } ∷ [] in
      let asks : Asks lib has said ask calls told has' = record { answer = answer; calls_are = refl; told_is = t; has_is = h } in
      record {
        calls = calls;
        comes = subst (λ o. MatchOption o (Alone has said calls told has') (λ a. Asks lib has said a calls told has')) (sym e) asks;
        made = (d', c, refl);
      }

  pub grant_called : (ino : ℕ) (kind : GrantKind) (r : Result ℕ GrantFault) (told : LineAnswer) → OneCall called d (Grant ino kind) d' (AfterGrant has r has') (NoGrant has r has') → GrantTold kind r told → Comes (GrantLine ino kind) told
  grant_called ino kind r told (Made (Lent lease) c after) is =
      let t : GrantTold kind (Ok (children_in lease)) told = subst (λ x. GrantTold kind x told) after.0 is in
      asked (GrantLine ino kind) (Grant ino kind) (Lent lease) told refl c (ap Some (sym t)) after.1
  grant_called ino kind r told (Made (NotLent fault) c after) is =
      let t : GrantTold kind (Err fault) told = subst (λ x. GrantTold kind x told) after.0 is in
      asked (GrantLine ino kind) (Grant ino kind) (NotLent fault) told refl c t after.1
  grant_called ino kind r told (Made (Given ps ns) c after) is = absurd after
  grant_called ino kind r told (Made (NotGiven fault) c after) is = absurd after
  grant_called ino kind r told (Made Done c after) is = absurd after
  grant_called ino kind r told (Made (Judged answer) c after) is = absurd after
  grant_called ino kind r told (Made (NotJudged fault) c after) is = absurd after
  grant_called ino kind r told (Made ModeSet c after) is = absurd after
  grant_called ino kind r told (Made Settled c after) is = absurd after
  grant_called ino kind r told (Made NotSettled c after) is = absurd after
  grant_called ino kind r told (Made (NotModeSet fault) c after) is = absurd after
  grant_called ino kind r told (NotMade same alone) is =
      let t : GrantTold kind (Err NoGrantMemory) told = subst (λ x. GrantTold kind x told) alone.0 is in absurd (cc t)

  pub mode_called : (ino mode : ℕ) (r : Result Unit ModeFault) (told : LineAnswer) → OneCall called d (SetMode ino mode [] None) d' (AfterMode has r has') ⊥ → ModeTold r told → Comes (ModeLine ino mode) told
  mode_called ino mode r told (Made ModeSet c after) is =
      let t : ModeTold (Ok tt) told = subst (λ x. ModeTold x told) after.0 is in
      asked (ModeLine ino mode) (SetMode ino mode [] None) ModeSet told refl c (ap Some (sym t)) after.1
  mode_called ino mode r told (Made (NotModeSet fault) c after) is =
      let t : ModeTold (Err fault) told = subst (λ x. ModeTold x told) after.0 is in
      asked (ModeLine ino mode) (SetMode ino mode [] None) (NotModeSet fault) told refl c t after.1
  mode_called ino mode r told (Made (Lent lease) c after) is = absurd after
  mode_called ino mode r told (Made (NotLent fault) c after) is = absurd after
  mode_called ino mode r told (Made (Given ps ns) c after) is = absurd after
  mode_called ino mode r told (Made (NotGiven fault) c after) is = absurd after
  mode_called ino mode r told (Made Done c after) is = absurd after
  mode_called ino mode r told (Made (Judged answer) c after) is = absurd after
  mode_called ino mode r told (Made (NotJudged fault) c after) is = absurd after
  mode_called ino mode r told (Made Settled c after) is = absurd after
  mode_called ino mode r told (Made NotSettled c after) is = absurd after
  mode_called ino mode r told (NotMade same alone) is = absurd alone

  back_asked : (E : Type 0) (ino : ℕ) (lease : Shown) (u : Unit) → read_on has ino ≡ Some lease → OneCall called d (GiveBack lease) d' (AfterBack {E = E} has ino (Ok u) has') ⊥ → Comes (BackLine ino) answered.GivenBack
  back_asked E ino lease u e (Made Done c after) = asked (BackLine ino) (GiveBack lease) Done answered.GivenBack (ap (option_map GiveBack) e) c refl after.1
  back_asked E ino lease u e (Made (Lent l) c after) = absurd after
  back_asked E ino lease u e (Made (NotLent fault) c after) = absurd after
  back_asked E ino lease u e (Made (Given ps ns) c after) = absurd after
  back_asked E ino lease u e (Made (NotGiven fault) c after) = absurd after
  back_asked E ino lease u e (Made (Judged answer) c after) = absurd after
  back_asked E ino lease u e (Made (NotJudged fault) c after) = absurd after
  back_asked E ino lease u e (Made ModeSet c after) = absurd after
  back_asked E ino lease u e (Made Settled c after) = absurd after
  back_asked E ino lease u e (Made NotSettled c after) = absurd after
  back_asked E ino lease u e (Made (NotModeSet fault) c after) = absurd after
  back_asked E ino lease u e (NotMade same alone) = absurd alone

  pub back_called : (E : Type 0) (ino : ℕ) (u : Unit) → Back {E = E} called d has ino d' (Ok u) has' → Comes (BackLine ino) answered.GivenBack
  back_called E ino u back = by (read_on has ino) refl back
    where
      by : (o : Option Shown) → read_on has ino ≡ o → MatchOption o ((d' ≡ d) × IsErr {E = E} (Ok u) × (has' ≡ has)) (λ lease. OneCall called d (GiveBack lease) d' (AfterBack {E = E} has ino (Ok u) has') ⊥) → Comes (BackLine ino) answered.GivenBack
      by None e b = absurd (false≢true b.1)
      by (Some lease) e b = back_asked E ino lease u e b

  allot_refused : (E : Type 0) (pages numbers : ℕ) (fault : AllotFault) (answer : AllotAnswer) (told : LineAnswer) → called d (Allot pages numbers) (NotGiven fault) d' → has' ≡ has → IsRefusal {E = E} fault (Ok answer) → AllotTold answer told → Comes (AllotLine pages numbers) told
  allot_refused E pages numbers (NoPages wanted free) answer told c same is t =
      let a : answer ≡ RefusedAnswer (NoPages wanted free) = cc is in
      asked (AllotLine pages numbers) (Allot pages numbers) (NotGiven (NoPages wanted free)) told refl c (subst (λ x. AllotTold x told) a t) same
  allot_refused E pages numbers (NoInodes wanted free) answer told c same is t =
      let a : answer ≡ RefusedAnswer (NoInodes wanted free) = cc is in
      asked (AllotLine pages numbers) (Allot pages numbers) (NotGiven (NoInodes wanted free)) told refl c (subst (λ x. AllotTold x told) a t) same
  allot_refused E pages numbers NoAllotMemory answer told c same is t = absurd (false≢true is)

  pub allot_called : (E : Type 0) (pages numbers : ℕ) (answer : AllotAnswer) (told : LineAnswer) → OneCall called d (Allot pages numbers) d' (AfterAllot {E = E} lib has (Ok answer) has') (NoAllot {E = E} has (Ok answer) has') → AllotTold answer told → Comes (AllotLine pages numbers) told
  allot_called E pages numbers answer told (Made (Given ps ns) c after) t =
      let a : answer ≡ GivenAnswer ps ns = cc (after.0) in
      let is : told ≡ answered.Allotted ps ns = subst (λ x. AllotTold x told) a t in
      asked (AllotLine pages numbers) (Allot pages numbers) (Given ps ns) told refl c (ap Some (sym is)) after.1
  allot_called E pages numbers answer told (Made (NotGiven fault) c after) t = allot_refused E pages numbers fault answer told c after.1 after.0 t
  allot_called E pages numbers answer told (Made (Lent l) c after) t = absurd after
  allot_called E pages numbers answer told (Made (NotLent fault) c after) t = absurd after
  allot_called E pages numbers answer told (Made Done c after) t = absurd after
  allot_called E pages numbers answer told (Made (Judged verdict) c after) t = absurd after
  allot_called E pages numbers answer told (Made (NotJudged fault) c after) t = absurd after
  allot_called E pages numbers answer told (Made ModeSet c after) t = absurd after
  allot_called E pages numbers answer told (Made Settled c after) t = absurd after
  allot_called E pages numbers answer told (Made NotSettled c after) t = absurd after
  allot_called E pages numbers answer told (Made (NotModeSet fault) c after) t = absurd after
  allot_called E pages numbers answer told (NotMade same alone) t = absurd (false≢true alone.0)

  pub release_called : (inos pages numbers : List ℕ) (r : Result ReleaseAnswer RawFault) (told : LineAnswer) → (IsFalse (has_all_of has inos pages numbers) → r ≡ Err Absent) → OneCall called d (Release (parcel_named has inos pages numbers)) d' (AfterRelease has inos pages numbers r has') (NoRelease has inos pages numbers r has') → ReleaseTold r told → Comes (ReleaseLine inos pages numbers) told
  release_called inos pages numbers r told absent call is = by call
    where
      there : IsFalse (has_all_of has inos pages numbers) → ⊥
      there f = subst (λ x. ReleaseTold x told) (absent f) is

      said : RawLine
      said = ReleaseLine inos pages numbers

      ask : Ask
      ask = Release (parcel_named has inos pages numbers)

      asks : ask_of has said ≡ Some ask
      asks = ap (λ b. if b then Some ask else None) (true_from_ne_false (has_all_of has inos pages numbers) there)

      by : OneCall called d ask d' (AfterRelease has inos pages numbers r has') (NoRelease has inos pages numbers r has') → Comes said told
      by (Made (Judged answer) c after) =
          let t : ReleaseTold (Ok answer) told = subst (λ x. ReleaseTold x told) after.0 is in
          asked said ask (Judged answer) told asks c (ap Some (sym t)) after.1
      by (Made (NotJudged (NotClosedParcel ino)) c after) =
          let t : ReleaseTold (Err (NotClosed ino)) told = subst (λ x. ReleaseTold x told) after.0 is in
          asked said ask (NotJudged (NotClosedParcel ino)) told asks c (ap Some (sym t)) after.1
      by (Made (NotJudged NoReleaseMemory) c after) = absurd (subst (λ x. ReleaseTold x told) after.0 is)
      by (Made (Lent l) c after) = absurd after
      by (Made (NotLent fault) c after) = absurd after
      by (Made (Given ps ns) c after) = absurd after
      by (Made (NotGiven fault) c after) = absurd after
      by (Made Done c after) = absurd after
      by (Made ModeSet c after) = absurd after
      by (Made Settled c after) = absurd after
      by (Made NotSettled c after) = absurd after
      by (Made (NotModeSet fault) c after) = absurd after
      by (NotMade same alone) =
          elim alone.0 [
            | inl none ↦ absurd (there none.1)
            | inr want ↦ absurd (subst (λ x. ReleaseTold x told) want.0 is)
          ]

-- ---- turns over the controller

-- a desk each of whose calls happens on the controller behind it and is logged there, and keeps its reference and library
module _ {D N : Type 0} (called : D → Ask → Told → D → Type 0) (ctl : D → Controller) (name : D → N) (lib : D → LibNo) (is : (d : D) (ask : Ask) (told : Told) (d' : D) → called d ask told d' → Happens (ctl d).state (lib d) ask told (ctl d').state × (name d' ≡ name d) × (lib d' ≡ lib d) × LogsCall (ctl d) (lib d) ask told (ctl d')) where
  abbrev seen_at : D → DeskSeen
  seen_at d = desk_of (ctl d).state (lib d)

  -- a turn, as the definitions note it: the desk stands where the notes end
  record IsNoted (d d' : D) (turn : Turn) (share : Share) (told : Heard) (share' : Share) (told' : Heard) : Type 0 where
    notes : Noted
    comes : TurnComes (lib d) turn (unnoted (ctl d).state) share told notes share' told'
    stands : Stands called ctl name lib is (lib d) (ctl d) (name d) d' notes

  calls_stand : (d d' : D) (calls : List Call) (m : MovesMade called ctl name lib is d calls d')
      → Stands called ctl name lib is (lib d) (ctl d) (name d) d' (record { state = (ctl d').state; calls = calls; moves = m.moves })
  calls_stand d d' calls m = record { state = refl; happen = m.happen; log_is = m.log_is; first = m.first; begun = m.begun; same = m.same; same_lib = m.same_lib }

  turn_noted : (d d' : D) (turn : Turn) (share : Share) (answer : Answer) (share' : Share) (told told' : Heard) → TurnMade called seen_at turn d share answer d' share' → told' ≡ with_told told answer → IsNoted d d' turn share told share' told'
  turn_noted d d' (Says line) (Things has) (Said answer) (Things has') told told' l heard =
      let m = moves_made called ctl name lib is l.calls d d' l.made in
      record { notes = record { state = (ctl d').state; calls = l.calls; moves = m.moves }; comes = (answer, l.comes, heard); stands = calls_stand d d' l.calls m }
  turn_noted d d' (SaysHonest line) (InSession s) (Said answer) (InSession s') told told' c heard =
      let n = line_noted called ctl name lib is (lib d) (ctl d) (name d) d d' s s' line.line answer (begins called ctl name lib is (lib d) (ctl d) (name d) d refl refl refl) c in
      record { notes = n.0; comes = (answer, n.1, heard); stands = n.2 }
  turn_noted d d' Ends (Things has) (Ended end) (Things has') told told' l heard =
      let m = moves_made called ctl name lib is l.0.calls d d' l.0.made in
      record { notes = record { state = (ctl d').state; calls = l.0.calls; moves = m.moves }; comes = (end, l.0.comes, l.1, heard); stands = calls_stand d d' l.0.calls m }
  turn_noted d d' Ends (InSession s) (Ended end) (InSession s') told told' c heard =
      let n = settle_noted called ctl name lib is (lib d) (ctl d) (name d) d d' s s' (begins called ctl name lib is (lib d) (ctl d) (name d) d refl refl refl) c.0 in
      record { notes = n.0; comes = (n.1, heard ∙ ap (with_end told) c.1); stands = n.2 }
  turn_noted d d' turn share answer share' told told' c heard = absurd c

  pub turn_name : (d d' : D) (o : Option Turn) (share share' : Share) (told told' : Heard) → TurnTaken called seen_at o d share told d' share' told' → name d' ≡ name d
  turn_name d d' None share share' told told' t = ap name t.0
  turn_name d d' (Some turn) share share' told told' t = (turn_noted d d' turn share t.0 share' told told' t.1 t.2).stands.same

  pub turn_took : (d d' : D) (own : LibNo) (x x' : Controller) (o : Option Turn) (share share' : Share) (told told' : Heard) → lib d ≡ own → ctl d ≡ x → x' ≡ ctl d'
      → TurnTaken called seen_at o d share told d' share' told' → GoesOn (seen_at d') share' → TookNext own o x share told x' share' told'
  turn_took d d' own x x' None share share' told told' of at to t goes = (to ∙ ap ctl t.0 ∙ at, t.1, t.2)
  turn_took d d' own x x' (Some turn) share share' told told' of at to t goes =
      let n = turn_noted d d' turn share t.0 share' told told' t.1 t.2 in
      subst (λ l. TookTurn l turn x share told x' share' told') of
      (subst (λ y. TookTurn (lib d) turn y share told x' share' told') at
      (subst (λ y. TookTurn (lib d) turn (ctl d) share told y share' told') (sym to)
      (record {
        calls = n.notes.calls;
        moves = n.notes.moves;
        comes = subst (λ s. TurnComes (lib d) turn (unnoted (ctl d).state) share told (record { state = s; calls = n.notes.calls; moves = n.notes.moves }) share' told') (sym n.stands.state) n.comes;
        happen = subst (λ s. AreMoves (lib d) (ctl d).state n.notes.calls n.notes.moves s) (sym n.stands.state) n.stands.happen;
        log_is = n.stands.log_is;
        first = n.stands.first;
        begun = n.stands.begun;
        goes = subst (λ l. GoesOn (desk_of (ctl d').state l) share') n.stands.same_lib goes;
      })))
