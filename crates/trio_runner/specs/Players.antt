-- What a turn of a library comes to at its desk, whatever its kind and its desk.
use Rattle.std.specs.Prelude.{◌≡◌, ⊤, List, length, Option, None, Some}
use Rattle.trio_rights.specs.declared.rights.LibNo.{LibNo}
use Rattle.trio_desk.specs.Call.{Ask, DeskSeen, Told}
use Rattle.trio_desk.specs.Calls.{Call, Calls}
use Rattle.trio_desk.specs.Out.{IsClosed}
use Rattle.trio_raw.specs.Has.{Has, OnList, nothing, whole_parcel}
use Rattle.trio_edit_laws.specs.Calls.{MayCall}
use Rattle.trio_walk.specs.Asks.{Settles}
use Rattle.trio_script.specs.declared.line.RawLine.{RawLine}
use Rattle.trio_report.specs.declared.answer.LineAnswer.{LineAnswer}
use Rattle.trio_report.specs.declared.report.EndAnswer.{EndAnswer}
use Rattle.trio_report.specs.declared.report.EndAnswer.TheVariants.{Settled}
use Rattle.trio_runner.specs.Line.{LineComes, EndComes}
use Rattle.trio_runner.specs.Honest.{HonestComes}
use Rattle.trio_runner.specs.Rounds.{Turn, Says, SaysHonest, Ends}
use Rattle.trio_runner.specs.Play.{Heard, Share, Things, InSession, with_answer, with_end}

-- when a library may go on at its desk: what a raw one has is out to it, and a session may make calls
abbrev pub GoesOn : DeskSeen → Share → Type 0
GoesOn desk (Things has) = OnList desk.out has
GoesOn desk (InSession session) = MayCall desk session

-- and come to its end: all that a raw one has is closed
abbrev pub HasClosed : DeskSeen → Share → Type 0
HasClosed desk (Things has) = IsClosed desk.out (whole_parcel has)
HasClosed desk (InSession session) = ⊤

-- a raw library's line was played at a desk: these calls were made of it, and this is what was told and what the library has then
pub record LineCalled {D : Type 0} (called : D → Ask → Told → D → Type 0) (d : D) (lib : LibNo) (has : Has) (said : RawLine) (told : LineAnswer) (d' : D) (has' : Has) : Type 0 where
  pub calls : List Call
  pub comes : LineComes lib has said calls told has'
  pub made : Calls called d calls d'

-- a raw library came to its end at a desk
pub record EndCalled {D : Type 0} (called : D → Ask → Told → D → Type 0) (d : D) (has : Has) (end : EndAnswer) (d' : D) : Type 0 where
  pub calls : List Call
  pub comes : EndComes has calls end
  pub made : Calls called d calls d'

-- what a turn is answered: a line, or an end
pub data Answer : Type 0 where
  Said : (answer : LineAnswer) → Answer
  Ended : (end : EndAnswer) → Answer

-- what a library was told, with one answer more
abbrev pub with_told : Heard → Answer → Heard
with_told told (Said answer) = with_answer told answer
with_told told (Ended end) = with_end told end

-- What a turn comes to at a desk, by what its library has: how it is answered, and what the library has then. After its end a raw library
-- has nothing; the end of an honest one is a settle, which is told how many calls it handed in.
abbrev pub TurnMade : {D : Type 0} → (D → Ask → Told → D → Type 0) → (D → DeskSeen) → Turn → D → Share → Answer → D → Share → Type 0
TurnMade called seen (Says line) d (Things has) (Said answer) d' (Things has') = LineCalled called d (seen d).lib has line.line answer d' has'
TurnMade called seen (SaysHonest line) d (InSession s) (Said answer) d' (InSession s') = HonestComes called seen d s line.line answer d' s'
TurnMade called seen Ends d (Things has) (Ended end) d' (Things has') = EndCalled called d has end d' × (has' ≡ nothing)
TurnMade called seen Ends d (InSession s) (Ended end) d' (InSession s') = Settles called d s d' s' × (end ≡ Settled (length s.calls))
TurnMade called seen turn d share answer d' share' = ⊥

-- a turn was taken at a desk, where one is left, and its answer is kept; else nothing changed
abbrev pub TurnTaken : {D : Type 0} → (D → Ask → Told → D → Type 0) → (D → DeskSeen) → Option Turn → D → Share → Heard → D → Share → Heard → Type 0
TurnTaken called seen None d share told d' share' told' = (d' ≡ d) × (share' ≡ share) × (told' ≡ told)
TurnTaken called seen (Some turn) d share told d' share' told' =
    (answer : Answer) × TurnMade called seen turn d share answer d' share' × (told' ≡ with_told told answer)
