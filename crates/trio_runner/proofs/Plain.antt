-- What the lines of a library ask gives no lease back before it.
use Rattle.trio_runner.proofs.Words.{◌∙◌, ◌∷◌, ◌≡◌, Allot, AllotLine, Alone, Ask, Asks, BackLine, Bool, Call, Done, EndAnswer, EndComes, Ends, EndsAll, EndsAlone, GiveBack, GivenEvent, Grant, GrantLine, Happens, Has, Heard, In, In-cases, InSession, IsPlain, Judged, LibNo, LineAnswer, LineComes, List, MatchBool, MatchOption, ModeLine, Move, None, Noted, Notes, Option, Peek, Placed, Players, Poke, RawLine, Release, ReleaseLine, Says, SaysHonest, SetMode, Share, Shown, Some, State, TakesTurn, Things, Told, Turn, TurnComes, [], all_back, ap, ask_of, back_calls, cond, event_of, false, handed_back, has_all_of, has_nothing, inl, inr, option_map, parcel_named, read_on, refl, release_call, sees, share_of, subst, told_to, true, unnoted}
use Rattle.trio_runner.proofs.Sessions.{ArePlain, line_keeps, notes_plain, settle_keeps}

-- what such a call hands in was given
pub plain_given : (s : State) (lib : LibNo) (ask : Ask) (told : Told) (s' : State) → IsPlain ask → Happens s lib ask told s' → GivenEvent s (event_of lib ask)
plain_given s lib ask told s' p h = subst (λ (l : List Shown). GivenEvent (all_back s lib l) (event_of lib ask)) p h.given

pub ask_plain : (has : Has) (said : RawLine) (ask : Ask) → ask_of has said ≡ Some ask → IsPlain ask
ask_plain has (GrantLine ino kind) ask e = let is : Grant ino kind ≡ ask = cc e in subst IsPlain is refl
ask_plain has (AllotLine pages numbers) ask e = let is : Allot pages numbers ≡ ask = cc e in subst IsPlain is refl
ask_plain has (ModeLine ino mode) ask e = let is : SetMode ino mode [] None ≡ ask = cc e in subst IsPlain is refl
ask_plain has (BackLine ino) ask e = by (read_on has ino) e
  where
    by : (o : Option Shown) → option_map GiveBack o ≡ Some ask → IsPlain ask
    by None e = absurd (cc e)
    by (Some lease) e = let is : GiveBack lease ≡ ask = cc e in subst IsPlain is refl
ask_plain has (ReleaseLine inos pages numbers) ask e = by (has_all_of has inos pages numbers) e
  where
    by : (b : Bool) → cond b (Some (Release (parcel_named has inos pages numbers))) None ≡ Some ask → IsPlain ask
    by false e = absurd (cc e)
    by true e = let is : Release (parcel_named has inos pages numbers) ≡ ask = cc e in subst IsPlain is refl
ask_plain has (Poke at offset bytes) ask e = absurd (cc e)
ask_plain has (Peek at offset len) ask e = absurd (cc e)

pub backs_plain : (rs : List Shown) → ArePlain (back_calls rs)
backs_plain [] c i = absurd i
backs_plain (r ∷ rs) c i =
    elim (In-cases c (back_calls rs) (record { ask = GiveBack r; told = Done } ∷ []) i) [
      | inl j ↦ backs_plain rs c j
      | inr j ↦ elim j [ inl e ↦ ap (λ (x : Call). handed_back x.ask) e | inr none ↦ absurd none ]
    ]

pub line_plain : (lib : LibNo) (has : Has) (said : RawLine) (calls : List Call) (told : LineAnswer) (has' : Has) → LineComes lib has said calls told has' → ArePlain calls
line_plain lib has said calls told has' comes = by (ask_of has said) refl comes
  where
    by : (o : Option Ask) → ask_of has said ≡ o → MatchOption o (Alone has said calls told has') (λ ask. Asks lib has said ask calls told has') → ArePlain calls
    by None e a c i = absurd (subst (λ (l : List Call). In c l) a.calls_are i)
    by (Some ask) e a c i =
        elim (subst (λ (l : List Call). In c l) a.calls_are i) [ inl same ↦ ap (λ (x : Call). handed_back x.ask) same ∙ ask_plain has said ask e | inr none ↦ absurd none ]

pub end_plain : (has : Has) (calls : List Call) (end : EndAnswer) → EndComes has calls end → ArePlain calls
end_plain has calls end comes = by (has_nothing has) comes
  where
    by : (b : Bool) → MatchBool b (EndsAlone has calls end) (EndsAll has calls end) → ArePlain calls
    by true a c i = backs_plain has.reads c (subst (λ (l : List Call). In c l) a.calls_are i)
    by false a c i =
        elim (In-cases c (back_calls has.reads) (release_call has (Judged a.answer) ∷ []) (subst (λ (l : List Call). In c l) a.calls_are i)) [
          | inl j ↦ backs_plain has.reads c j
          | inr j ↦ elim j [ inl e ↦ ap (λ (x : Call). handed_back x.ask) e | inr none ↦ absurd none ]
        ]

none_plain : ArePlain []
none_plain c i = absurd i

-- the calls of a turn
comes_plain : (lib : LibNo) (turn : Turn) (s : State) (share : Share) (told : Heard) (d' : Noted) (share' : Share) (told' : Heard) → TurnComes lib turn (unnoted s) share told d' share' told' → ArePlain d'.calls
comes_plain lib (Says line) s (Things has) told d' (Things has') told' comes = line_plain lib has line.line d'.calls comes.0 has' comes.1
comes_plain lib (SaysHonest line) s (InSession x) told d' (InSession x') told' comes =
    line_keeps (Notes lib) (sees lib) (λ (d : Noted). ArePlain d.calls) (notes_plain lib) (unnoted s) d' x x' line.line comes.0 comes.1 none_plain
comes_plain lib Ends s (Things has) told d' (Things has') told' comes = end_plain has d'.calls comes.0 comes.1
comes_plain lib Ends s (InSession x) told d' (InSession x') told' comes =
    settle_keeps (Notes lib) (sees lib) (λ (d : Noted). ArePlain d.calls) (notes_plain lib) (unnoted s) d' x x' comes.0 none_plain
comes_plain lib turn s share told d' share' told' comes = absurd comes

pub turn_plain : (p : Players) (t : Placed) (moves : List Move) (p' : Players) (takes : TakesTurn p t moves p') → ArePlain takes.calls
turn_plain p t moves p' takes = comes_plain t.lib t.turn p.state (share_of p t.lib) (told_to p t.lib) (record { state = p'.state; calls = takes.calls; moves = moves }) takes.share' takes.told' takes.comes
