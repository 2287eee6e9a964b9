-- The laws of scripts: what they come to is a run of the controller, at whose end nothing is out, and it is determined; the log is the
-- entries of that run, which the answers print.
use Rattle.std.specs.Prelude.{◌≡◌, ◌≢◌, List, [], ◌∷◌, ◌++◌}
use Rattle.trio_tables.specs.Out.{NoneOut}
use Rattle.trio_rights.specs.declared.rights.LibNo.{LibNo}
use Rattle.trio_layout.specs.Image.{Image, IsFit}
use Rattle.trio_layout.specs.Verifies.{Verifies}
use Rattle.trio_state.specs.State.{State, settled}
use Rattle.trio_state.specs.Run.{start, IsWhole, Trace, Move}
use Rattle.trio_script.specs.declared.Lines.TheVariants.{Honest}
use Rattle.trio_script.specs.declared.ScriptLib.{ScriptLib}
use Rattle.trio_script.specs.declared.ScriptLine.{ScriptLine}
use Rattle.trio_lists.specs.Lists.{In}
use Rattle.trio_script.specs.declared.honest.HonestLine.{HonestLine}
use Rattle.trio_report.specs.declared.answer.LineAnswer.{LineAnswer}
use Rattle.trio_report.specs.declared.answer.LineAnswer.TheVariants.{Busy}
use Rattle.trio_runner.specs.Rounds.{Placed}
use Rattle.trio_runner.specs.Play.{IsLibraryOf, Players, TakesTurn, Plays, Played, creds_in, told_to}
use Rattle.trio_runner.specs.Logged.{AreEntries, Prints, entries_by}

-- one turn more, at the end
abbrev pub PlaysMore : Type 0
PlaysMore =
    (p : Players) (turns : List Placed) (moves : List Move) (middle : Players) (t : Placed) (more : List Move) (p' : Players)
    → Plays p turns moves middle → TakesTurn middle t more p' → Plays p (turns ++ t ∷ []) (moves ++ more) p'

-- the moves of a script are a run of the controller, of events that hand in what was given
abbrev pub PlayedIsTrace : Type 0
PlayedIsTrace = (image : Image) (libs : List ScriptLib) (played : Played image libs) → Trace (start image (creds_in libs)) played.moves

-- no grant is open, and no page and no inode number is out by allotment
pub record NothingOut (s : State) : Type 0 where
  pub grants : s.open_grants ≡ []
  pub pages : NoneOut s.pages_out
  pub numbers : NoneOut s.numbers_out

-- at a script's end nothing is lent or out
abbrev pub PlayedEndsFree : Type 0
PlayedEndsFree =
    (image : Image) (libs : List ScriptLib) (played : Played image libs)
    → IsFit image.core → Verifies image → IsWhole image → NothingOut played.last.state

-- two plays come to the same: what each library is told, and the image that is settled at the end
pub record ComeToOne {image : Image} {libs : List ScriptLib} (a b : Played image libs) : Type 0 where
  pub tolds : a.last.told ≡ b.last.told
  pub settles : settled a.last.state ≡ settled b.last.state

-- What a script is told, and the image at its end, are determined by the image at its beginning and the script.
abbrev pub PlayedIsOne : Type 0
PlayedIsOne =
    (image : Image) (libs : List ScriptLib) (a b : Played image libs) → IsFit image.core → Verifies image → IsWhole image → ComeToOne a b

-- the log of a script is the entries of its moves, in their order
abbrev pub PlayedIsLogged : Type 0
PlayedIsLogged = (image : Image) (libs : List ScriptLib) (played : Played image libs) → AreEntries played.moves played.last.log

-- and the answers of each library print its entries
abbrev pub PlayedIsPrinted : Type 0
PlayedIsPrinted =
    (image : Image) (libs : List ScriptLib) (played : Played image libs) (lib : LibNo) (l : ScriptLib) → IsLibraryOf libs lib l
    → Prints l.lines (told_to played.last lib) (entries_by lib played.last.log)

-- In a script of one library, which is honest, no line is answered busy.
abbrev pub PlayedAlone : Type 0
PlayedAlone =
    (image : Image) (l : ScriptLib) (lines : List (ScriptLine HonestLine)) → l.lines ≡ Honest lines
    → (played : Played image (l ∷ [])) (answer : LineAnswer) → In answer (told_to played.last (record { 0 = 1 })).answers → answer ≢ Busy
