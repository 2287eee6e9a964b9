-- The log of a script: which entries its moves make, and which of a library's entries its answers print.
use Rattle.std.specs.Prelude.{◌≡◌, ◌==◌, ⊤, ℕ, Bool, true, false, List, [], ◌∷◌, ◌++◌, length, map, Option, Some, None, Result, Ok, Err}
use Rattle.std.specs.List.{filter, flat_map, AllByRecursion}
use Rattle.trio_rights.specs.declared.rights.LibNo.{LibNo}
use Rattle.trio_nodes.specs.declared.entry.GrantAnswer.TheVariants.{Granted, Refused as NotGranted}
use Rattle.trio_nodes.specs.declared.entry.AllotAnswer.TheVariants.{Given, Refused as NotGiven}
use Rattle.trio_nodes.specs.declared.answers.ModeFault.{ModeFault}
use Rattle.trio_nodes.specs.declared.answers.ModeFault.TheVariants.{NotOwner}
use Rattle.trio_nodes.specs.declared.call.Answer.TheVariants.{Done as IsDone}
use Rattle.trio_nodes.specs.declared.call.Call.{Call}
use Rattle.trio_nodes.specs.declared.call.Done.{Done}
use Rattle.trio_nodes.specs.declared.call.Reply.{Reply}
use Rattle.trio_nodes.specs.declared.call.Reply.TheVariants.{Ok as IsReplied, Denied as IsDenied}
use Rattle.trio_nodes.specs.declared.entry.Entry.{Entry}
use Rattle.trio_nodes.specs.Handed.{Handed}
use Rattle.trio_nodes.specs.declared.entry.Entry.TheVariants.{Grant, Allot, Back, Raw, Batch, Mode}
use Rattle.trio_desk.specs.Call.{Ask, Told}
use Rattle.trio_state.specs.Run.{Move}
use Rattle.trio_laws.specs.Laws.{library_of}
use Rattle.trio_laws.specs.history.Entries.{event_of as event_told}
use Rattle.trio_ctl.specs.Desk.{event_of, answer_of, beside_of}
use Rattle.trio_ctl.specs.Logged.{entries_made}
use Rattle.trio_script.specs.declared.Lines.{Lines}
use Rattle.trio_script.specs.declared.Lines.TheVariants.{Raw as RawLines, Honest as HonestLines}
use Rattle.trio_script.specs.declared.line.RawLine.{RawLine}
use Rattle.trio_script.specs.declared.ScriptLine.{ScriptLine}
use Rattle.trio_script.specs.declared.honest.HonestLine.{HonestLine}
use Rattle.trio_script.specs.declared.honest.HonestLine.TheVariants.{Call as CallLine, Settle as SettleLine}
use Rattle.trio_report.specs.declared.answer.LineAnswer.{LineAnswer}
use Rattle.trio_report.specs.declared.answer.LineAnswer.TheVariants as answered
use Rattle.trio_report.specs.declared.report.EndAnswer.{EndAnswer}
use Rattle.trio_report.specs.declared.report.EndAnswer.TheVariants.{Nothing, Settled as EndSettled}
use Rattle.trio_runner.specs.Line.{told_grant, told_fault, told_want, told_verdict, told_unmoded, end_of}
use Rattle.trio_runner.specs.Play.{Heard}

-- ---- the entries of moves

-- A move is a call of a library. It makes the entry of its event and its answer, with what is told beside what was asked: one, or none
-- for an answer that makes none. A read lease that is given back with a call is a move of its own before it.
pub record MakesEntries (m : Move) (entries : List Entry) : Type 0 where
  pub lib : LibNo
  pub ask : Ask
  pub told : Told
  pub event_is : m.event ≡ event_of lib ask
  pub answer_is : m.answer ≡ answer_of told
  pub entries_are : entries ≡ entries_made m.before (beside_of ask) m.event m.answer

-- the log is the entries of the moves, in their order
abbrev pub AreEntries : List Move → List Entry → Type 0
AreEntries [] log = log ≡ []
AreEntries (m ∷ moves) log =
    (own : List Entry) × (others : List Entry) × MakesEntries m own × AreEntries moves others × (log ≡ own ++ others)

-- ---- what is printed of a library's entries

-- the entries of one library
abbrev pub entries_by : LibNo → List Entry → List Entry
entries_by lib log = filter (λ e. library_of (event_told e) == lib.0) log

-- The answer that the entry of a line prints. None for a batch, which no line makes, and for want of memory, of which there is no entry.
abbrev pub printed : Entry → Option LineAnswer
printed (Grant lib ino kind (Granted children)) = Some (told_grant kind children)
printed (Grant lib ino kind (NotGranted fault)) = told_fault fault
printed (Allot lib pages inodes (Given ps ns)) = Some (answered.Allotted ps ns)
printed (Allot lib pages inodes (NotGiven fault)) = told_want fault
printed (Back lib ino) = Some answered.GivenBack
printed (Raw lib verdict files bundle) = Some (told_verdict verdict)
printed (Mode lib ino mode (Ok done) call) = Some answered.ModeSet
printed (Mode lib ino mode (Err fault) call) = told_unmoded fault
printed (Batch lib calls handed) = None

-- a line that is answered so has an entry; all have, but where the controller wasn't asked, and for Busy and NotClosed
abbrev pub has_entry : LineAnswer → Bool
has_entry answered.Busy = false
has_entry (answered.NotClosed ino) = false
has_entry answered.Poked = false
has_entry (answered.Seen bytes) = false
has_entry answered.Absent = false
has_entry _ = true

-- the answer that the entry of an end prints: the verdict on all that was left
abbrev pub end_printed : Entry → Option EndAnswer
end_printed (Raw lib verdict files bundle) = Some (end_of verdict)
end_printed _ = None

-- the answer of an end, where it has an entry: an end that is told Nothing has none
abbrev pub end_with_entry : EndAnswer → List EndAnswer
end_with_entry Nothing = []
end_with_entry end = end ∷ []

-- a read lease was given back
abbrev pub IsBack : Entry → Type 0
IsBack (Back lib ino) = ⊤
IsBack _ = ⊥

-- Each line of a raw library was answered, and its end, and the answers print its entries, each once and in their order. First come
-- the entries of its lines: what they print is the answers, without those that have no entry. Then come the read leases that its
-- end gave back, which nothing prints, and last the release of its end, if it had anything else: what that prints is the end's answer.
pub record RawPrints (lines : List (ScriptLine RawLine)) (heard : Heard) (entries : List Entry) : Type 0 where
  pub each : length heard.answers ≡ length lines
  pub end : EndAnswer
  pub end_is : heard.end ≡ Some end
  pub of_lines : List Entry
  pub of_backs : List Entry
  pub of_end : List Entry
  pub entries_are : entries ≡ of_lines ++ of_backs ++ of_end
  pub lines_print : map printed of_lines ≡ map Some (filter has_entry heard.answers)
  pub backs : AllByRecursion IsBack of_backs
  pub end_prints : map end_printed of_end ≡ map Some (end_with_entry end)

-- ---- an honest library

-- the reply of a call that changes a mode, by how that ended: it is denied to all but the file's owner and uid 0
abbrev pub mode_replies : Result (Unit {0}) ModeFault → List Reply
mode_replies (Ok done) = IsReplied IsDone ∷ []
mode_replies (Err NotOwner) = IsDenied ∷ []
mode_replies (Err fault) = []

-- a call that was done, and its reply
abbrev pub call_and_reply : Done → Call × Reply
call_and_reply d = (d.call, d.reply)

-- The calls that an entry tells, each with its reply: those of a batch, and that of a change of mode by a call, which makes no file. One
-- that ended in another way than by a reply is none.
abbrev pub done_in : Entry → List Done
done_in (Batch lib calls handed) = calls
done_in (Mode lib ino mode answer (Some call)) = map (λ (reply : Reply). record { call = call; reply = reply; made = 0 }) (mode_replies answer)
done_in _ = []

-- the calls that an entry tells, each with its reply, without the numbers of what they made
abbrev pub calls_in : Entry → List (Call × Reply)
calls_in e = map call_and_reply (done_in e)

-- the call of a line, with the reply that the line was told: none for Busy, and none of a settle
abbrev pub call_told : HonestLine → LineAnswer → List (Call × Reply)
call_told (CallLine call) (answered.Replied reply) = (call, reply) ∷ []
call_told _ _ = []

-- the calls of lines that were answered so, each with its reply
abbrev pub calls_told : List (ScriptLine HonestLine) → List LineAnswer → List (Call × Reply)
calls_told (line ∷ lines) (told ∷ answers) = call_told line.line told ++ calls_told lines answers
calls_told _ _ = []

-- the entries of a settle of so many calls: those of the read leases that are given back, and then its batch
pub record IsSettle (count : ℕ) (entries : List Entry) : Type 0 where
  pub of_backs : List Entry
  pub backs : AllByRecursion IsBack of_backs
  pub lib : LibNo
  pub calls : List Done
  pub handed : Handed
  pub entries_are : entries ≡ of_backs ++ Batch lib calls handed ∷ []
  pub counts : count ≡ length calls

-- the entries of a line: those of a settle are a settle of as many calls as it was told; a call is told its reply, or Busy
abbrev pub LineMakes : HonestLine → LineAnswer → List Entry → Type 0
LineMakes (CallLine call) (answered.Replied reply) entries = ⊤
LineMakes (CallLine call) answered.Busy entries = ⊤
LineMakes SettleLine (answered.Settled count) entries = IsSettle count entries
LineMakes line told entries = ⊥

-- the entries of lines that were answered so, one after another
abbrev pub LinesMake : List (ScriptLine HonestLine) → List LineAnswer → List Entry → Type 0
LinesMake [] [] entries = entries ≡ []
LinesMake (line ∷ lines) (told ∷ answers) entries =
    (own : List Entry) × (others : List Entry) × LineMakes line.line told own × LinesMake lines answers others × (entries ≡ own ++ others)
LinesMake [] (told ∷ answers) entries = ⊥
LinesMake (line ∷ lines) [] entries = ⊥

-- Each line of an honest library was answered, and its end. The calls that its entries tell, each with its reply, are those of its
-- lines that weren't busy, each with the reply that the line was told: each once and in their order. And each count, that of the end
-- too, is that of the calls of its settle.
pub record HonestPrints (lines : List (ScriptLine HonestLine)) (heard : Heard) (entries : List Entry) : Type 0 where
  pub count : ℕ
  pub end_is : heard.end ≡ Some (EndSettled count)
  pub of_lines : List Entry
  pub of_end : List Entry
  pub entries_are : entries ≡ of_lines ++ of_end
  pub calls : flat_map calls_in entries ≡ calls_told lines heard.answers
  pub lines_make : LinesMake lines heard.answers of_lines
  pub end_makes : IsSettle count of_end

-- what a library was told prints its entries, by the kind of its lines
abbrev pub Prints : Lines → Heard → List Entry → Type 0
Prints (RawLines lines) heard entries = RawPrints lines heard entries
Prints (HonestLines lines) heard entries = HonestPrints lines heard entries
