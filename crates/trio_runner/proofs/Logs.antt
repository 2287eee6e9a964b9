-- The log of a script is the entries of its moves.
use Rattle.trio_runner.proofs.Words.{◌++◌, ◌∙◌, ◌∷◌, ◌≡◌, AreEntries, AreMoves, Ask, Bundle, Call, CtlAnswer, Entry, IsPlain, LibNo, List, ModeSet, Move, Placed, Players, Plays, SetMode, Settle, Settled, State, TakesTurn, Told, [], all_back, answer_of, ap, append-nil, append_assoc, back_entries, backs_of, beside_of, bundle_of, entries_of, entries_told, event_of, handed_back, inl, inr, refl, subst, sym, turns_of, ℕ}
use Rattle.trio_state.specs.Step as step
use Rattle.trio_laws.specs.history.Entries.{Beside}
use Rattle.trio_ctl.specs.Logged.{entries_made}
use Rattle.trio_runner.specs.Logged.{MakesEntries}
use Rattle.trio_runner.specs.PlayLaws.{PlayedIsLogged}
use Rattle.trio_runner.proofs.Plain.{turn_plain}
use Rattle.trio_runner.proofs.Sessions.{ArePlain}

-- ---- a call

-- a call that hands nothing back gives nothing back
none_back : (ask : Ask) (told : Told) → IsPlain ask → backs_of ask told ≡ []
none_back (Settle parcel back calls) Settled plain = plain
none_back (SetMode ino mode back call) ModeSet plain = plain
none_back ask told plain = refl

-- the entry of a settle, and that of a change of mode, is the same from any state
settle_same : (s t : State) (x : Beside) (lib : ℕ) (b : Bundle) (answer : CtlAnswer) → entries_made s x (step.Settle lib b) answer ≡ entries_made t x (step.Settle lib b) answer
settle_same s t x lib b step.Settled = refl
settle_same s t x lib b answer = refl

mode_same : (s t : State) (x : Beside) (lib ino mode : ℕ) (answer : CtlAnswer) → entries_made s x (step.SetMode lib ino mode) answer ≡ entries_made t x (step.SetMode lib ino mode) answer
mode_same s t x lib ino mode step.ModeSet = refl
mode_same s t x lib ino mode (step.NotModeSet fault) = refl
mode_same s t x lib ino mode answer = refl

-- so it doesn't matter whether the leases are back that are handed in with it
from_any : (s : State) (lib : LibNo) (ask : Ask) (answer : CtlAnswer) → entries_made (all_back s lib (handed_back ask)) (beside_of ask) (event_of lib ask) answer ≡ entries_made s (beside_of ask) (event_of lib ask) answer
from_any s lib (Settle parcel back calls) answer = settle_same (all_back s lib back) s (beside_of (Settle parcel back calls)) lib.0 (bundle_of parcel) answer
from_any s lib (SetMode ino mode back call) answer = mode_same (all_back s lib back) s (beside_of (SetMode ino mode back call)) lib.0 ino mode answer
from_any s lib ask answer = refl

-- the move of a call that gives nothing back makes the call's entries
pub move_entries : (m : Move) (lib : LibNo) (ask : Ask) (told : Told) → backs_of ask told ≡ [] → m.event ≡ event_of lib ask → m.answer ≡ answer_of told → MakesEntries m (entries_told m.before lib ask told)
move_entries m lib ask told none event answer =
    let x : Beside = beside_of ask in
    record {
      lib = lib;
      ask = ask;
      told = told;
      event_is = event;
      answer_is = answer;
      entries_are = ap (λ backs. back_entries lib backs ++ entries_made (all_back m.before lib (handed_back ask)) x (event_of lib ask) (answer_of told)) none
          ∙ from_any m.before lib ask (answer_of told)
          ∙ ap (λ e. entries_made m.before x e (answer_of told)) (sym event) ∙ ap (entries_made m.before x m.event) (sym answer);
    }

calls_entries : (lib : LibNo) (s : State) (calls : List Call) (moves : List Move) (s' : State) → ArePlain calls → AreMoves lib s calls moves s' → AreEntries moves (entries_of lib calls moves)
calls_entries lib s [] [] s' plain a = refl
calls_entries lib s [] (m ∷ moves) s' plain a = absurd a
calls_entries lib s (c ∷ calls) [] s' plain a = absurd a
calls_entries lib s (c ∷ calls) (m ∷ moves) s' plain a = (
  entries_told m.before lib c.ask c.told,
  entries_of lib calls moves,
  move_entries m lib c.ask c.told (none_back c.ask c.told (plain c (inl refl))) (ap (λ (x : Move). x.event) a.0) (ap (λ (x : Move). x.answer) a.0),
  calls_entries lib m.after calls moves s' (λ d i. plain d (inr i)) a.2,
  refl,
)

pub entries_append : (moves more : List Move) (log others : List Entry) → AreEntries moves log → AreEntries more others → AreEntries (moves ++ more) (log ++ others)
entries_append [] more log others a b = subst (λ l. AreEntries more (l ++ others)) (sym a) b
entries_append (m ∷ moves) more log others a b =
    (a.0, a.1 ++ others, a.2, entries_append moves more a.1 others a.3 b, ap (λ l. l ++ others) a.4 ∙ append_assoc a.0 a.1 others)

-- ---- turns

-- what turns add to the log
record Adds (p : Players) (moves : List Move) (p' : Players) : Type 0 where
  entries : List Entry
  of : AreEntries moves entries
  log_is : p'.log ≡ p.log ++ entries

plays_entries : (p : Players) (turns : List Placed) (moves : List Move) (p' : Players) → Plays p turns moves p' → Adds p moves p'
plays_entries p [] moves p' plays =
    record { entries = []; of = subst (λ l. AreEntries l []) (sym plays.0) refl; log_is = ap (λ (q : Players). q.log) plays.1 ∙ sym (append-nil p.log) }
plays_entries p (t ∷ turns) moves p' plays =
    let takes : TakesTurn p t plays.first plays.middle = plays.takes in
    let own : List Entry = entries_of t.lib takes.calls plays.first in
    let rest = plays_entries plays.middle turns plays.others p' plays.rest in
    record {
      entries = own ++ rest.entries;
      of = subst (λ l. AreEntries l (own ++ rest.entries)) (sym plays.moves_are)
          (entries_append plays.first plays.others own rest.entries (calls_entries t.lib p.state takes.calls plays.first plays.middle.state (turn_plain p t plays.first plays.middle takes) takes.happen) rest.of);
      log_is = rest.log_is ∙ ap (λ l. l ++ rest.entries) takes.log_is ∙ append_assoc p.log own rest.entries;
    }

pub played_is_logged : PlayedIsLogged
played_is_logged image libs played =
    let adds = plays_entries played.first (turns_of libs) played.moves played.last played.plays in
    subst (AreEntries played.moves) (sym (adds.log_is ∙ ap (λ l. l ++ adds.entries) played.begins.log)) adds.of
