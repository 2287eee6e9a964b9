-- What a library was told prints the entries that it made, turn after turn.
use Rattle.trio_runner.proofs.Words.{◌++◌, ◌+◌, ◌∙◌, ◌∷◌, ◌≡◌, AllByRecursion, Allot, AllotLine, Alone, Ask, Asks, BackLine, BeginsWith, Bool, Call, Creds, Denied, Done, EndAnswer, EndComes, EndSettled, Ends, EndsAll, EndsAlone, Entry, GiveBack, Given, Grant, GrantKind, GrantLine, Has, Heard, Hold, HoldLent, HonestLine, HonestLines, In, In-cases, InSession, IsBack, Judged, Lease, Lent, LibNo, LineAnswer, LineComes, LineMakes, Lines, List, MatchBool, MatchOption, ModeLine, ModeSet, NoAllotMemory, NoGrantMemory, NoInodes, NoPages, NoParent, NoReleaseMemory, None, NotGiven, NotJudged, NotLent, NotLive, NotModeSet, NotSettled, Option, Parcel, Peek, Poke, Prints, RawLine, RawLines, Read, ReadLent, Release, ReleaseAnswer, ReleaseLine, Says, SaysHonest, ScriptLine, SessionSeen, SetMode, Settled, Share, Shown, Some, State, Things, Told, Turn, Write, WriteLent, [], ap, append-nil, append_assoc, arith, ask_of, back_calls, call_told, calls_in, children_in, cond, end_of, entries_told, false, filter, filter-append, flat_map, flat_map-append, has_all_of, has_nothing, inl, inr, length, length-append, line_turns, map, map-append, nothing, option_map, parcel_named, poked, read_on, refl, release_call, subst, suc, sym, told_grant, told_of, true, untold, whole_parcel, with_answer, with_end, ℕ}
use Rattle.std.specs.Option.{is_some}
use Rattle.trio_nodes.specs.declared.answers.GrantFault.TheVariants.{Busy}
use Rattle.trio_nodes.specs.declared.answers.ReleaseAnswer.TheVariants.{Accepted, Refused}
use Rattle.trio_nodes.specs.declared.answers.ReleaseFault.TheVariants.{NotClosed}
use Rattle.trio_nodes.specs.declared.answers.ModeFault.TheVariants as unmoded
use Rattle.trio_ctl.specs.Answers.{children_told}
use Rattle.trio_raw.specs.Has.{peeked}
use Rattle.trio_report.specs.declared.answer.LineAnswer.TheVariants as answered
use Rattle.trio_runner.specs.Line.{told_alone, told_seen}
use Rattle.trio_runner.specs.Logged.{HonestPrints, LinesMake, RawPrints, calls_told, end_printed, end_with_entry, has_entry, printed}
use Rattle.trio_runner.proofs.Batches.{HonestMade, Replies, SettleMade}
use Rattle.trio_runner.proofs.Entries.{Make, make_parted, one_make}
use Rattle.trio_runner.proofs.Left.{with_replies}

-- ---- a line

-- a line that is answered so made these entries
pub record LineMade (es : List Entry) (told : LineAnswer) : Type 0 where
  pub prints : map printed es ≡ map Some (filter has_entry (told ∷ []))

one_made : (e : Entry) (told : LineAnswer) → printed e ≡ Some told → has_entry told ≡ true → LineMade (e ∷ []) told
one_made e told prints has = record { prints = ap (λ o. o ∷ []) prints ∙ ap (λ b. map Some (cond b (told ∷ []) [])) (sym has) }

none_made : (told : LineAnswer) → has_entry told ≡ false → LineMade [] told
none_made told has = record { prints = ap (λ b. map Some (cond b (told ∷ []) [])) (sym has) }

children_same : (lease : Lease) → children_told lease ≡ children_in lease
children_same (WriteLent f) = refl
children_same (ReadLent r) = refl
children_same (HoldLent h) = refl

grant_has_entry : (kind : GrantKind) (children : ℕ) → has_entry (told_grant kind children) ≡ true
grant_has_entry Read children = refl
grant_has_entry Write children = refl
grant_has_entry Hold children = refl

module _ (s : State) (lib : LibNo) where
  abbrev Made : Ask → Told → LineAnswer → Type 0
  Made ask answer told = LineMade (entries_told s lib ask answer) told

  -- it is told so
  told_so : (ask : Ask) (answer : Told) (a told : LineAnswer) → Made ask answer a → Some a ≡ Some told → Made ask answer told
  told_so ask answer a told m e = (let same : a ≡ told = cc e in subst (Made ask answer) same m)

  grant_made : (ino : ℕ) (kind : GrantKind) (answer : Told) (told : LineAnswer) → told_of (GrantLine ino kind) answer ≡ Some told → Made (Grant ino kind) answer told
  grant_made ino kind (Lent lease) told e =
      told_so (Grant ino kind) (Lent lease) (told_grant kind (children_in lease)) told
      (one_made _ (told_grant kind (children_in lease)) (ap (λ n. Some (told_grant kind n)) (children_same lease)) (grant_has_entry kind (children_in lease))) e
  grant_made ino kind (NotLent NotLive) told e = told_so (Grant ino kind) (NotLent NotLive) answered.NotLive told (one_made _ answered.NotLive refl refl) e
  grant_made ino kind (NotLent (Denied n)) told e = told_so (Grant ino kind) (NotLent (Denied n)) (answered.Denied n) told (one_made _ (answered.Denied n) refl refl) e
  grant_made ino kind (NotLent NoParent) told e = told_so (Grant ino kind) (NotLent NoParent) answered.NoParent told (one_made _ answered.NoParent refl refl) e
  grant_made ino kind (NotLent (Busy h)) told e = told_so (Grant ino kind) (NotLent (Busy h)) answered.Busy told (none_made answered.Busy refl) e
  grant_made ino kind (NotLent NoGrantMemory) told e = absurd (cc e)
  grant_made ino kind (Given ps ns) told e = absurd (cc e)
  grant_made ino kind (NotGiven fault) told e = absurd (cc e)
  grant_made ino kind Done told e = absurd (cc e)
  grant_made ino kind (Judged verdict) told e = absurd (cc e)
  grant_made ino kind (NotJudged fault) told e = absurd (cc e)
  grant_made ino kind ModeSet told e = absurd (cc e)
  grant_made ino kind Settled told e = absurd (cc e)
  grant_made ino kind NotSettled told e = absurd (cc e)
  grant_made ino kind (NotModeSet fault) told e = absurd (cc e)

  allot_made : (wanted many : ℕ) (answer : Told) (told : LineAnswer) → told_of (AllotLine wanted many) answer ≡ Some told → Made (Allot wanted many) answer told
  allot_made wanted many (Given ps ns) told e = told_so (Allot wanted many) (Given ps ns) (answered.Allotted ps ns) told (one_made _ (answered.Allotted ps ns) refl refl) e
  allot_made wanted many (NotGiven (NoPages w f)) told e = told_so (Allot wanted many) (NotGiven (NoPages w f)) (answered.NoPages w f) told (one_made _ (answered.NoPages w f) refl refl) e
  allot_made wanted many (NotGiven (NoInodes w f)) told e = told_so (Allot wanted many) (NotGiven (NoInodes w f)) (answered.NoInodes w f) told (one_made _ (answered.NoInodes w f) refl refl) e
  allot_made wanted many (NotGiven NoAllotMemory) told e = absurd (cc e)
  allot_made wanted many (Lent lease) told e = absurd (cc e)
  allot_made wanted many (NotLent fault) told e = absurd (cc e)
  allot_made wanted many Done told e = absurd (cc e)
  allot_made wanted many (Judged verdict) told e = absurd (cc e)
  allot_made wanted many (NotJudged fault) told e = absurd (cc e)
  allot_made wanted many ModeSet told e = absurd (cc e)
  allot_made wanted many Settled told e = absurd (cc e)
  allot_made wanted many NotSettled told e = absurd (cc e)
  allot_made wanted many (NotModeSet fault) told e = absurd (cc e)

  back_made : (ino : ℕ) (lease : Shown) (answer : Told) (told : LineAnswer) → told_of (BackLine ino) answer ≡ Some told → Made (GiveBack lease) answer told
  back_made ino lease Done told e = told_so (GiveBack lease) Done answered.GivenBack told (one_made _ answered.GivenBack refl refl) e
  back_made ino lease (Lent l) told e = absurd (cc e)
  back_made ino lease (NotLent fault) told e = absurd (cc e)
  back_made ino lease (Given ps ns) told e = absurd (cc e)
  back_made ino lease (NotGiven fault) told e = absurd (cc e)
  back_made ino lease (Judged verdict) told e = absurd (cc e)
  back_made ino lease (NotJudged fault) told e = absurd (cc e)
  back_made ino lease ModeSet told e = absurd (cc e)
  back_made ino lease Settled told e = absurd (cc e)
  back_made ino lease NotSettled told e = absurd (cc e)
  back_made ino lease (NotModeSet fault) told e = absurd (cc e)

  release_made : (inos pages numbers : List ℕ) (parcel : Parcel) (answer : Told) (told : LineAnswer) → told_of (ReleaseLine inos pages numbers) answer ≡ Some told → Made (Release parcel) answer told
  release_made inos pages numbers parcel (Judged Accepted) told e = told_so (Release parcel) (Judged Accepted) answered.Accepted told (one_made _ answered.Accepted refl refl) e
  release_made inos pages numbers parcel (Judged (Refused rule ino page slot)) told e =
      told_so (Release parcel) (Judged (Refused rule ino page slot)) (answered.Refused rule) told (one_made _ (answered.Refused rule) refl refl) e
  release_made inos pages numbers parcel (NotJudged (NotClosed n)) told e = told_so (Release parcel) (NotJudged (NotClosed n)) (answered.NotClosed n) told (none_made (answered.NotClosed n) refl) e
  release_made inos pages numbers parcel (NotJudged NoReleaseMemory) told e = absurd (cc e)
  release_made inos pages numbers parcel (Lent lease) told e = absurd (cc e)
  release_made inos pages numbers parcel (NotLent fault) told e = absurd (cc e)
  release_made inos pages numbers parcel (Given ps ns) told e = absurd (cc e)
  release_made inos pages numbers parcel (NotGiven fault) told e = absurd (cc e)
  release_made inos pages numbers parcel Done told e = absurd (cc e)
  release_made inos pages numbers parcel ModeSet told e = absurd (cc e)
  release_made inos pages numbers parcel Settled told e = absurd (cc e)
  release_made inos pages numbers parcel NotSettled told e = absurd (cc e)
  release_made inos pages numbers parcel (NotModeSet fault) told e = absurd (cc e)

  mode_made : (ino mode : ℕ) (answer : Told) (told : LineAnswer) → told_of (ModeLine ino mode) answer ≡ Some told → Made (SetMode ino mode [] None) answer told
  mode_made ino mode ModeSet told e = told_so (SetMode ino mode [] None) ModeSet answered.ModeSet told (one_made _ answered.ModeSet refl refl) e
  mode_made ino mode (NotModeSet unmoded.NotLive) told e = told_so (SetMode ino mode [] None) (NotModeSet unmoded.NotLive) answered.NotLive told (one_made _ answered.NotLive refl refl) e
  mode_made ino mode (NotModeSet unmoded.NotOwner) told e = told_so (SetMode ino mode [] None) (NotModeSet unmoded.NotOwner) answered.NotOwner told (one_made _ answered.NotOwner refl refl) e
  mode_made ino mode (NotModeSet unmoded.BadMode) told e = told_so (SetMode ino mode [] None) (NotModeSet unmoded.BadMode) answered.BadMode told (one_made _ answered.BadMode refl refl) e
  mode_made ino mode (NotModeSet (unmoded.Busy h)) told e = told_so (SetMode ino mode [] None) (NotModeSet (unmoded.Busy h)) answered.Busy told (none_made answered.Busy refl) e
  mode_made ino mode (NotModeSet unmoded.NoMemory) told e = absurd (cc e)
  mode_made ino mode (Lent lease) told e = absurd (cc e)
  mode_made ino mode (NotLent fault) told e = absurd (cc e)
  mode_made ino mode (Given ps ns) told e = absurd (cc e)
  mode_made ino mode (NotGiven fault) told e = absurd (cc e)
  mode_made ino mode Done told e = absurd (cc e)
  mode_made ino mode (Judged verdict) told e = absurd (cc e)
  mode_made ino mode (NotJudged fault) told e = absurd (cc e)
  mode_made ino mode Settled told e = absurd (cc e)
  mode_made ino mode NotSettled told e = absurd (cc e)

  asked_made : (has : Has) (said : RawLine) (ask : Ask) (answer : Told) (told : LineAnswer) → ask_of has said ≡ Some ask → told_of said answer ≡ Some told → Made ask answer told
  asked_made has (GrantLine ino kind) ask answer told e t = (let is : Grant ino kind ≡ ask = cc e in subst (λ a. Made a answer told) is (grant_made ino kind answer told t))
  asked_made has (AllotLine wanted many) ask answer told e t = (let is : Allot wanted many ≡ ask = cc e in subst (λ a. Made a answer told) is (allot_made wanted many answer told t))
  asked_made has (ModeLine ino mode) ask answer told e t = (let is : SetMode ino mode [] None ≡ ask = cc e in subst (λ a. Made a answer told) is (mode_made ino mode answer told t))
  asked_made has (BackLine ino) ask answer told e t = by (read_on has ino) e
    where
      by : (o : Option Shown) → option_map GiveBack o ≡ Some ask → Made ask answer told
      by None e = absurd (cc e)
      by (Some lease) e = (let is : GiveBack lease ≡ ask = cc e in subst (λ a. Made a answer told) is (back_made ino lease answer told t))
  asked_made has (ReleaseLine inos pages numbers) ask answer told e t = by (has_all_of has inos pages numbers) e
    where
      parcel : Parcel
      parcel = parcel_named has inos pages numbers

      by : (b : Bool) → cond b (Some (Release parcel)) None ≡ Some ask → Made ask answer told
      by false e = absurd (cc e)
      by true e = (let is : Release parcel ≡ ask = cc e in subst (λ a. Made a answer told) is (release_made inos pages numbers parcel answer told t))
  asked_made has (Poke at offset bytes) ask answer told e t = absurd (cc e)
  asked_made has (Peek at offset len) ask answer told e t = absurd (cc e)

-- what is told without asking has no entry
alone_none : (has : Has) (said : RawLine) → has_entry (told_alone has said) ≡ false
alone_none has (GrantLine ino kind) = refl
alone_none has (AllotLine wanted many) = refl
alone_none has (BackLine ino) = refl
alone_none has (ReleaseLine inos pages numbers) = refl
alone_none has (ModeLine ino mode) = refl
alone_none has (Poke at offset bytes) = by (is_some (poked has at offset bytes))
  where
    by : (b : Bool) → has_entry (cond b answered.Poked answered.Absent) ≡ false
    by true = refl
    by false = refl
alone_none has (Peek at offset len) = by (peeked has at offset len)
  where
    by : (o : Option (List ℕ)) → has_entry (told_seen o) ≡ false
    by None = refl
    by (Some bytes) = refl

line_made : (lib : LibNo) (said : RawLine) (has : Has) (calls : List Call) (es : List Entry) (told : LineAnswer) (has' : Has) → LineComes lib has said calls told has' → Make lib calls es → LineMade es told
line_made lib said has calls es told has' comes made = by (ask_of has said) refl comes
  where
    by : (o : Option Ask) → ask_of has said ≡ o → MatchOption o (Alone has said calls told has') (λ ask. Asks lib has said ask calls told has') → LineMade es told
    by None e a =
        let none : es ≡ [] = subst (λ (l : List Call). Make lib l es) a.calls_are made in
        subst (λ l. LineMade l told) (sym none) (none_made told (ap has_entry a.told_is ∙ alone_none has said))
    by (Some ask) e a =
        one_make lib (record { ask = ask; told = a.answer }) es (subst (λ (l : List Call). Make lib l es) a.calls_are made) (λ l. LineMade l told)
        (λ t. asked_made t lib has said ask a.answer told e a.told_is)

-- ---- an end

-- an end that is told so made these entries
pub record EndMade (es : List Entry) (end : EndAnswer) : Type 0 where
  pub of_backs : List Entry
  pub of_end : List Entry
  pub entries_are : es ≡ of_backs ++ of_end
  pub backs : AllByRecursion IsBack of_backs
  pub ends : map end_printed of_end ≡ map Some (end_with_entry end)

backs_made : (lib : LibNo) (calls : List Call) (es : List Entry) → ((c : Call) → In c calls → (r : Shown) × (c ≡ record { ask = GiveBack r; told = Done })) → Make lib calls es → AllByRecursion IsBack es
backs_made lib [] es are made = subst (AllByRecursion IsBack) (sym made) tt
backs_made lib (c ∷ calls) es are made =
    let is = are c (inl refl) in
    let rest = backs_made lib calls made.1 (λ d i. are d (inr i)) made.2 in
    subst (AllByRecursion IsBack) (sym made.3)
    (subst (λ (x : Call). AllByRecursion IsBack (entries_told made.0 lib x.ask x.told ++ made.1)) (sym is.1) (tt, rest))

back_calls_are : (rs : List Shown) (c : Call) → In c (back_calls rs) → (r : Shown) × (c ≡ record { ask = GiveBack r; told = Done })
back_calls_are [] c i = absurd i
back_calls_are (r ∷ rs) c i =
    elim (In-cases c (back_calls rs) (record { ask = GiveBack r; told = Done } ∷ []) i) [
      | inl j ↦ back_calls_are rs c j
      | inr j ↦ elim j [ inl e ↦ (r, e) | inr none ↦ absurd none ]
    ]

-- the entry of the release of all the rest
verdict_made : (lib : LibNo) (parcel : Parcel) (answer : ReleaseAnswer) (s : State) → map end_printed (entries_told s lib (Release parcel) (Judged answer)) ≡ map Some (end_with_entry (end_of answer))
verdict_made lib parcel Accepted s = refl
verdict_made lib parcel (Refused rule ino page slot) s = refl

end_made : (lib : LibNo) (has : Has) (calls : List Call) (es : List Entry) (end : EndAnswer) → EndComes has calls end → Make lib calls es → EndMade es end
end_made lib has calls es end comes made = by (has_nothing has) comes
  where
    by : (b : Bool) → MatchBool b (EndsAlone has calls end) (EndsAll has calls end) → EndMade es end
    by true a = record {
      of_backs = es;
      of_end = [];
      entries_are = sym (append-nil es);
      backs = backs_made lib (back_calls has.reads) es (back_calls_are has.reads) (subst (λ (l : List Call). Make lib l es) a.calls_are made);
      ends = ap (λ x. map Some (end_with_entry x)) (sym a.end_is);
    }
    by false a =
        let last : Call = release_call has (Judged a.answer) in
        let p = make_parted lib (back_calls has.reads) (last ∷ []) es (subst (λ (l : List Call). Make lib l es) a.calls_are made) in
        record {
          of_backs = p.0;
          of_end = p.1;
          entries_are = p.4;
          backs = backs_made lib (back_calls has.reads) p.0 (back_calls_are has.reads) p.2;
          ends = one_make lib last p.1 p.3 (λ l. map end_printed l ≡ map Some (end_with_entry (end_of a.answer))) (verdict_made lib (whole_parcel has) a.answer)
              ∙ ap (λ x. map Some (end_with_entry x)) (sym a.end_is);
        }

-- ---- turns

-- the entries that a turn makes, by what its library has and was told
abbrev pub TurnMakes : Turn → Share → Heard → List Entry → Share → Heard → Type 0
TurnMakes (Says line) (Things has) told es (Things has') told' = (answer : LineAnswer) × LineMade es answer × (told' ≡ with_answer told answer)
TurnMakes (SaysHonest line) (InSession x) told es (InSession x') told' = (answer : LineAnswer) × HonestMade x x' line.line answer es × (told' ≡ with_answer told answer)
TurnMakes Ends (Things has) told es (Things has') told' = (end : EndAnswer) × EndMade es end × (told' ≡ with_end told end)
TurnMakes Ends (InSession x) told es (InSession x') told' = SettleMade x.calls es × (told' ≡ with_end told (EndSettled (length x.calls)))
TurnMakes turn share told es share' told' = ⊥

-- those of a line's calls
pub line_makes : (lib : LibNo) (line : ScriptLine RawLine) (has : Has) (told : Heard) (calls : List Call) (answer : LineAnswer) (es : List Entry) (has' : Has) (told' : Heard) → LineComes lib has line.line calls answer has' → told' ≡ with_answer told answer → Make lib calls es → TurnMakes (Says line) (Things has) told es (Things has') told'
line_makes lib line has told calls answer es has' told' comes told_is made = (answer, line_made lib line.line has calls es answer has' comes made, told_is)

-- those of an end's
pub end_makes : (lib : LibNo) (has : Has) (told : Heard) (calls : List Call) (end : EndAnswer) (es : List Entry) (has' : Has) (told' : Heard) → EndComes has calls end → told' ≡ with_end told end → Make lib calls es → TurnMakes Ends (Things has) told es (Things has') told'
end_makes lib has told calls end es has' told' comes told_is made = (end, end_made lib has calls es end comes made, told_is)

-- ---- a raw library

module _ (all : List (ScriptLine RawLine)) where
  -- before its end a library's answers print the entries of its lines
  pub record RawBefore (left : List Turn) (share : Share) (heard : Heard) (es : List Entry) : Type 0 where
    pub things : Has
    pub share_is : share ≡ Things things
    pub lines_left : List (ScriptLine RawLine)
    pub left_are : left ≡ map Says lines_left
    pub count : length heard.answers + length lines_left ≡ length all
    pub lines : map printed es ≡ map Some (filter has_entry heard.answers)

  raw_said : (line : ScriptLine RawLine) (ls : List (ScriptLine RawLine)) (left : List Turn) (share : Share) (told : Heard) (es more : List Entry) (share' : Share) (told' : Heard) → left ≡ map Says ls → length told.answers + suc (length ls) ≡ length all → map printed es ≡ map Some (filter has_entry told.answers)
      → TurnMakes (Says line) share told more share' told' → RawBefore left share' told' (es ++ more)
  raw_said line ls left (Things has) told es more (Things has') told' e count lines c =
      subst (λ (h : Heard). RawBefore left (Things has') h (es ++ more)) (sym c.2)
      (record {
        things = has';
        share_is = refl;
        lines_left = ls;
        left_are = e;
        count = (let n : length (told.answers ++ c.0 ∷ []) ≡ length told.answers + 1 = length-append told.answers (c.0 ∷ []) in omega (arith, n, count));
        lines = map-append printed es more ∙ ap (λ l. l ++ map printed more) lines ∙ ap (λ l. map Some (filter has_entry told.answers) ++ l) c.1.prints
            ∙ sym (map-append Some (filter has_entry told.answers) (filter has_entry (c.0 ∷ [])))
            ∙ ap (map Some) (sym (filter-append has_entry told.answers (c.0 ∷ [])));
      })
  raw_said line ls left share told es more share' told' e count lines c = absurd c

  raw_line : (turn : Turn) (left : List Turn) (share : Share) (told : Heard) (es more : List Entry) (share' : Share) (told' : Heard) → RawBefore (turn ∷ left) share told es → TurnMakes turn share told more share' told' → RawBefore left share' told' (es ++ more)
  raw_line turn left share told es more share' told' b c = by b.lines_left b.left_are b.count
    where
      by : (ls : List (ScriptLine RawLine)) → turn ∷ left ≡ map Says ls → length told.answers + length ls ≡ length all → RawBefore left share' told' (es ++ more)
      by [] e count = absurd (cc e)
      by (line ∷ ls) e count =
          let is : turn ≡ Says line = cc e in
          let rest : left ≡ map Says ls = cc e in
          raw_said line ls left share told es more share' told' rest count b.lines (subst (λ u. TurnMakes u share told more share' told') is c)

  no_says : (ls : List (ScriptLine RawLine)) → [] ≡ map Says ls → length ls ≡ 0
  no_says [] e = refl
  no_says (l ∷ ls) e = absurd (cc e)

  raw_end : (share : Share) (told : Heard) (es more : List Entry) (share' : Share) (told' : Heard) → RawBefore [] share told es → TurnMakes Ends share told more share' told' → RawPrints all told' (es ++ more)
  raw_end (Things has) told es more (Things has') told' b c =
      let left : length b.lines_left ≡ 0 = no_says b.lines_left b.left_are in
      let count : length told.answers + length b.lines_left ≡ length all = b.count in
      subst (λ (h : Heard). RawPrints all h (es ++ more)) (sym c.2)
      (record {
        each = omega (arith, left, count);
        end = c.0;
        end_is = refl;
        of_lines = es;
        of_backs = c.1.of_backs;
        of_end = c.1.of_end;
        entries_are = ap (λ l. es ++ l) c.1.entries_are ∙ sym (append_assoc es c.1.of_backs c.1.of_end);
        lines_print = b.lines;
        backs = c.1.backs;
        end_prints = c.1.ends;
      })
  raw_end (InSession x) told es more share' told' b c = absurd (cc (b.share_is))
  raw_end (Things has) told es more (InSession x) told' b c = absurd c

-- ---- an honest library

-- lines, and one more
lines_more : (lines : List (ScriptLine HonestLine)) (answers : List LineAnswer) (es own : List Entry) (line : ScriptLine HonestLine) (told : LineAnswer) → LinesMake lines answers es → LineMakes line.line told own → LinesMake (lines ++ line ∷ []) (answers ++ told ∷ []) (es ++ own)
lines_more [] [] es own line told l m = (own, [], m, refl, ap (λ x. x ++ own) l ∙ sym (append-nil own))
lines_more [] (a ∷ answers) es own line told l m = absurd l
lines_more (k ∷ lines) [] es own line told l m = absurd l
lines_more (k ∷ lines) (a ∷ answers) es own line told l m =
    (l.0, l.1 ++ own, l.2, lines_more lines answers l.1 own line told l.3 m, ap (λ x. x ++ own) l.4 ∙ append_assoc l.0 l.1 own)

-- their calls, and that of one more
told_more : (lines : List (ScriptLine HonestLine)) (answers : List LineAnswer) (es : List Entry) (line : ScriptLine HonestLine) (told : LineAnswer) → LinesMake lines answers es → calls_told (lines ++ line ∷ []) (answers ++ told ∷ []) ≡ calls_told lines answers ++ call_told line.line told
told_more [] [] es line told l = append-nil (call_told line.line told)
told_more [] (a ∷ answers) es line told l = absurd l
told_more (k ∷ lines) [] es line told l = absurd l
told_more (k ∷ lines) (a ∷ answers) es line told l =
    ap (λ x. call_told k.line a ++ x) (told_more lines answers l.1 line told l.3) ∙ sym (append_assoc (call_told k.line a) (calls_told lines answers) (call_told line.line told))

module _ (all : List (ScriptLine HonestLine)) where
  -- Before its end the calls that a library's entries tell, and those that its session still has, are those of its lines so far.
  pub record HonestBefore (left : List Turn) (share : Share) (heard : Heard) (es : List Entry) : Type 0 where
    pub session : SessionSeen
    pub share_is : share ≡ InSession session
    pub lines_done : List (ScriptLine HonestLine)
    pub lines_left : List (ScriptLine HonestLine)
    pub all_are : all ≡ lines_done ++ lines_left
    pub left_are : left ≡ map SaysHonest lines_left
    pub calls : flat_map calls_in es ++ with_replies session.calls ≡ calls_told lines_done heard.answers
    pub made : LinesMake lines_done heard.answers es

  honest_said : (line : ScriptLine HonestLine) (done ls : List (ScriptLine HonestLine)) (left : List Turn) (session : SessionSeen) (share : Share) (told : Heard) (es more : List Entry) (share' : Share) (told' : Heard) → share ≡ InSession session → left ≡ map SaysHonest ls → all ≡ done ++ line ∷ ls
      → LinesMake done told.answers es → flat_map calls_in es ++ with_replies session.calls ≡ calls_told done told.answers → TurnMakes (SaysHonest line) share told more share' told' → HonestBefore left share' told' (es ++ more)
  honest_said line done ls left session (InSession x) told es more (InSession x') told' same e whole made calls c =
      let h : HonestMade x x' line.line c.0 more = c.1 in
      let is : session ≡ x = (let q : InSession x ≡ InSession session = same in cc q) in
      let old : Replies = flat_map calls_in es in
      let own : Replies = call_told line.line c.0 in
      subst (λ (y : Heard). HonestBefore left (InSession x') y (es ++ more)) (sym c.2)
      (record {
        session = x';
        share_is = refl;
        lines_done = done ++ line ∷ [];
        lines_left = ls;
        all_are = whole ∙ sym (append_assoc done (line ∷ []) ls);
        left_are = e;
        calls = ap (λ l. l ++ with_replies x'.calls) (flat_map-append calls_in es more) ∙ append_assoc old (flat_map calls_in more) (with_replies x'.calls) ∙ ap (λ l. old ++ l) h.tells
            ∙ sym (append_assoc old (with_replies x.calls) own) ∙ ap (λ (y : SessionSeen). (old ++ with_replies y.calls) ++ own) (sym is)
            ∙ ap (λ l. l ++ own) calls ∙ sym (told_more done told.answers es line c.0 made);
        made = lines_more done told.answers es more line c.0 made h.makes;
      })
  honest_said line done ls left session share told es more share' told' same e whole made calls c = absurd c

  honest_line : (turn : Turn) (left : List Turn) (share : Share) (told : Heard) (es more : List Entry) (share' : Share) (told' : Heard) → HonestBefore (turn ∷ left) share told es → TurnMakes turn share told more share' told' → HonestBefore left share' told' (es ++ more)
  honest_line turn left share told es more share' told' b c = by b.lines_left b.left_are b.all_are
    where
      by : (ls : List (ScriptLine HonestLine)) → turn ∷ left ≡ map SaysHonest ls → all ≡ b.lines_done ++ ls → HonestBefore left share' told' (es ++ more)
      by [] e whole = absurd (cc e)
      by (line ∷ ls) e whole =
          let is : turn ≡ SaysHonest line = cc e in
          let rest : left ≡ map SaysHonest ls = cc e in
          honest_said line b.lines_done ls left b.session share told es more share' told' b.share_is rest whole b.made b.calls
          (subst (λ u. TurnMakes u share told more share' told') is c)

  no_calls : (ls : List (ScriptLine HonestLine)) → [] ≡ map SaysHonest ls → ls ≡ []
  no_calls [] e = refl
  no_calls (l ∷ ls) e = absurd (cc e)

  honest_end : (share : Share) (told : Heard) (es more : List Entry) (share' : Share) (told' : Heard) → HonestBefore [] share told es → TurnMakes Ends share told more share' told' → HonestPrints all told' (es ++ more)
  honest_end (InSession x) told es more (InSession x') told' b c =
      let m : SettleMade x.calls more = c.0 in
      let is : b.session ≡ x = (let q : InSession x ≡ InSession b.session = b.share_is in cc q) in
      let whole : all ≡ b.lines_done = b.all_are ∙ ap (λ l. b.lines_done ++ l) (no_calls b.lines_left b.left_are) ∙ append-nil b.lines_done in
      subst (λ (y : Heard). HonestPrints all y (es ++ more)) (sym c.1)
      (record {
        count = length x.calls;
        end_is = refl;
        of_lines = es;
        of_end = more;
        entries_are = refl;
        calls = flat_map-append calls_in es more ∙ ap (λ l. flat_map calls_in es ++ l) m.tells ∙ ap (λ (y : SessionSeen). flat_map calls_in es ++ with_replies y.calls) (sym is)
            ∙ b.calls ∙ ap (λ ls. calls_told ls told.answers) (sym whole);
        lines_make = subst (λ ls. LinesMake ls told.answers es) (sym whole) b.made;
        end_makes = m.settles;
      })
  honest_end (Things has) told es more share' told' b c = absurd (cc (b.share_is))
  honest_end (InSession x) told es more (Things has) told' b c = absurd c

-- ---- a library

-- what holds before the rest of its turns, by what it has, was told and logged
abbrev pub Before : Lines → List Turn → Share → Heard → List Entry → Type 0
Before (RawLines lines) = RawBefore lines
Before (HonestLines lines) = HonestBefore lines

-- each turn leads on
pub line_leads : (lines : Lines) (turn : Turn) (left : List Turn) (share : Share) (told : Heard) (es more : List Entry) (share' : Share) (told' : Heard) → Before lines (turn ∷ left) share told es → TurnMakes turn share told more share' told' → Before lines left share' told' (es ++ more)
line_leads (RawLines lines) = raw_line lines
line_leads (HonestLines lines) = honest_line lines

-- and the end ends
pub end_leads : (lines : Lines) (share : Share) (told : Heard) (es more : List Entry) (share' : Share) (told' : Heard) → Before lines [] share told es → TurnMakes Ends share told more share' told' → Prints lines told' (es ++ more)
end_leads (RawLines lines) = raw_end lines
end_leads (HonestLines lines) = honest_end lines

-- so it begins
pub begins_before : (lib : LibNo) (creds : Creds) (lines : Lines) (share : Share) → BeginsWith lib creds lines share → Before lines (line_turns lines) share untold []
begins_before lib creds (RawLines lines) share begins =
    record { things = nothing; share_is = begins; lines_left = lines; left_are = refl; count = omega arith; lines = refl }
begins_before lib creds (HonestLines lines) share begins =
    record { session = _; share_is = begins.1; lines_done = []; lines_left = lines; all_are = refl; left_are = refl; calls = refl; made = refl }
