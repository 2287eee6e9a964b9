-- What a library of a script does on a thread of its own: its turns one after another, at its seat.
use Rattle.std.specs.Prelude.{◌≡◌, None, List, [], ◌∷◌, ◌++◌, length}
use Rattle.trio_rights.specs.declared.rights.LibNo.{LibNo}
use Rattle.trio_desk.specs.Call.{Ask, Told, DeskSeen}
use Rattle.trio_desk.specs.Calls.{Call}
use Rattle.trio_desk.specs.Calls as desk
use Rattle.trio_raw.specs.Has.{nothing}
use Rattle.trio_walk.specs.Asks.{Settles}
use Rattle.trio_turn.specs.Origins.{Origin}
use Rattle.trio_shared.specs.Left.{desk_left}
use Rattle.trio_shared.specs.Turns.{Seated, Calls}
use Rattle.trio_script.specs.declared.ScriptLib.{ScriptLib}
use Rattle.trio_report.specs.declared.answer.LineAnswer.{LineAnswer}
use Rattle.trio_report.specs.declared.report.EndAnswer.{EndAnswer}
use Rattle.trio_report.specs.declared.report.EndAnswer.TheVariants.{Settled}
use Rattle.trio_runner.specs.Line.{LineComes, EndComes}
use Rattle.trio_runner.specs.Honest.{HonestComes}
use Rattle.trio_runner.specs.Rounds.{Turn, Says, SaysHonest, Ends, line_turns}
use Rattle.trio_runner.specs.Play.{BeginsWith, Heard, Share, Things, InSession, untold, with_answer, with_end}

-- how far a library is: what is seen of its seat, and the calls that it has made
pub record Going : Type 0 where
  pub seat : Seated
  pub calls : List Call

-- it makes a call: a turn of its seat, or of a release two, of the controller; the call stands behind those before
pub record Goes (g : Going) (ask : Ask) (told : Told) (g' : Going) : Type 0 where
  pub turn : Calls g.seat ask told g'.seat
  pub calls_are : g'.calls ≡ g.calls ++ record { ask = ask; told = told } ∷ []

-- what it sees of its desk, by the entries that its seat has seen
abbrev pub sees_at : Going → DeskSeen
sees_at g = desk_left g.seat.first g.seat.seen g.seat.lib

-- What a turn comes to, by what the library has and was told. After its end a raw library has nothing; the end of an honest one is a
-- settle, which is told how many calls it handed in.
abbrev pub TurnGoes : Turn → Going → Share → Heard → Going → Share → Heard → Type 0
TurnGoes (Says line) g (Things has) told g' (Things has') told' =
    (calls : List Call) × (answer : LineAnswer) × LineComes g.seat.lib has line.line calls answer has' × desk.Calls Goes g calls g'
    × (told' ≡ with_answer told answer)
TurnGoes (SaysHonest line) g (InSession s) told g' (InSession s') told' =
    (answer : LineAnswer) × HonestComes Goes sees_at g s line.line answer g' s' × (told' ≡ with_answer told answer)
TurnGoes Ends g (Things has) told g' (Things has') told' =
    (calls : List Call) × (end : EndAnswer) × EndComes has calls end × desk.Calls Goes g calls g'
    × (has' ≡ nothing) × (told' ≡ with_end told end)
TurnGoes Ends g (InSession s) told g' (InSession s') told' = Settles Goes g s g' s' × (told' ≡ with_end told (Settled (length s.calls)))
TurnGoes turn g share told g' share' told' = ⊥

-- how far a library is, what it has, and what it was told
pub record Place : Type 0 where
  pub going : Going
  pub share : Share
  pub told : Heard

-- its turns, one after another
abbrev pub CourseGoes : Place → List Turn → Place → Type 0
CourseGoes p [] p' = p' ≡ p
CourseGoes p (turn ∷ turns) p' =
    (middle : Place) × TurnGoes turn p.going p.share p.told middle.going middle.share middle.told × CourseGoes middle turns p'

-- a library that has seen no entry and made no call
abbrev pub arrives : Origin → LibNo → Going
arrives first lib = record { seat = record { lib = lib; first = first; seen = []; begun = None }; calls = [] }

-- All of a library's script: its lines, and then its end.
pub record LibRan (first : Origin) (lib : LibNo) (l : ScriptLib) (last : Place) : Type 0 where
  pub share : Share
  pub begins : BeginsWith lib l.creds l.lines share
  pub goes : CourseGoes (record { going = arrives first lib; share = share; told = untold }) (line_turns l.lines ++ Ends ∷ []) last
