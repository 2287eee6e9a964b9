-- The laws of scripts that are run with a thread for each library.
use Rattle.std.specs.Prelude.{◌≡◌, ◌≢◌, ◌⊎◌, List, [], ◌∷◌, map}
use Rattle.trio_rights.specs.declared.rights.LibNo.{LibNo}
use Rattle.trio_nodes.specs.declared.entry.Entry.{Entry}
use Rattle.trio_layout.specs.Image.{Image, IsFit}
use Rattle.trio_layout.specs.Verifies.{Verifies}
use Rattle.trio_desk.specs.Call.{Ask}
use Rattle.trio_state.specs.State.{State, settled}
use Rattle.trio_state.specs.Run.{start, IsWhole}
use Rattle.trio_order.specs.Order.{Happening, calls_by, moves_in}
use Rattle.trio_order.specs.OrderLaws.{OneOrder}
use Rattle.trio_lists.specs.Lists.{In}
use Rattle.trio_script.specs.declared.Lines.TheVariants.{Honest, Raw}
use Rattle.trio_script.specs.declared.ScriptLib.{ScriptLib}
use Rattle.trio_script.specs.declared.ScriptLine.{ScriptLine}
use Rattle.trio_script.specs.declared.honest.HonestLine.{HonestLine}
use Rattle.trio_script.specs.declared.line.RawLine.{RawLine}
use Rattle.trio_report.specs.declared.answer.LineAnswer.{LineAnswer}
use Rattle.trio_report.specs.declared.answer.LineAnswer.TheVariants.{Busy}
use Rattle.trio_runner.specs.Logged.{AreEntries, Prints, entries_by}
use Rattle.trio_runner.specs.Play.{Heard, IsLibraryOf, creds_in, heard_by}
use Rattle.trio_runner.specs.PlayLaws.{NothingOut}
use Rattle.trio_runner.specs.Runs.{ScriptRan}

-- All calls of all libraries are one order: in it they happen one after another on one controller, from the image to the last state,
-- and make just the log.
abbrev pub RanIsOrder : Type 0
RanIsOrder =
    (image : Image) (libs : List ScriptLib) (tolds : List Heard) (s' : State) (log : List Entry)
    → IsFit image.core → Verifies image → IsWhole image → (ran : ScriptRan image libs tolds s' log)
    → OneOrder (start image (creds_in libs)) (λ lib. (ran.last lib).going.calls) log s'

-- the log is the entries of the moves of such an order, one after another
abbrev pub OrderIsLogged : Type 0
OrderIsLogged =
    (image : Image) (libs : List ScriptLib) (tolds : List Heard) (s' : State) (log : List Entry) (ran : ScriptRan image libs tolds s' log)
    (one : OneOrder (start image (creds_in libs)) (λ lib. (ran.last lib).going.calls) log s')
    → AreEntries (moves_in one.order) log

-- at the end nothing is lent or out
abbrev pub RanEndsFree : Type 0
RanEndsFree =
    (image : Image) (libs : List ScriptLib) (tolds : List Heard) (s' : State) (log : List Entry)
    → ScriptRan image libs tolds s' log → NothingOut s'

-- and the answers of each library print its entries
abbrev pub RanIsPrinted : Type 0
RanIsPrinted =
    (image : Image) (libs : List ScriptLib) (tolds : List Heard) (s' : State) (log : List Entry) (ran : ScriptRan image libs tolds s' log)
    (lib : LibNo) (l : ScriptLib) → IsLibraryOf libs lib l → Prints l.lines (heard_by tolds lib) (entries_by lib log)

-- In a script of one library, which is honest, no line is answered busy.
abbrev pub RanAlone : Type 0
RanAlone =
    (image : Image) (l : ScriptLib) (lines : List (ScriptLine HonestLine)) → l.lines ≡ Honest lines
    → (tolds : List Heard) (s' : State) (log : List Entry) → ScriptRan image (l ∷ []) tolds s' log
    → (answer : LineAnswer) → In answer (heard_by tolds (record { 0 = 1 })).answers → answer ≢ Busy

-- the library's lines are raw
abbrev pub IsRaw : ScriptLib → Type 0
IsRaw l = (lines : List (ScriptLine RawLine)) × (l.lines ≡ Raw lines)

-- the libraries in the sequence in which they call
abbrev pub libraries_in : List Happening → List LibNo
libraries_in order = map (λ h. h.lib) order

-- what a library asks in an order
abbrev pub asks_by : LibNo → List Happening → List Ask
asks_by lib order = map (λ c. c.ask) (calls_by lib order)

-- in both orders the libraries call in the same sequence, and each library that isn't raw asks the same
pub record CallAlike (libs : List ScriptLib) (a b : List Happening) : Type 0 where
  pub sequence : libraries_in a ≡ libraries_in b
  pub asked : (lib : LibNo) (l : ScriptLib) → IsLibraryOf libs lib l → IsRaw l ⊎ (asks_by lib a ≡ asks_by lib b)

-- two runs end alike: what each library was told, and the image that is settled at the end
pub record EndAlike (tolds tolds' : List Heard) (s s' : State) : Type 0 where
  pub told : tolds ≡ tolds'
  pub image : settled s ≡ settled s'

-- The order of the calls determines the output: two runs of a script on an image, in whose orders the libraries call in the same sequence
-- and the honest ones ask the same, end alike. Nothing is assumed of what raw ones ask, nor of what anyone is told.
abbrev pub OrderIsOne : Type 0
OrderIsOne =
    (image : Image) (libs : List ScriptLib) (tolds tolds' : List Heard) (s s' : State) (log log' : List Entry)
    (ran : ScriptRan image libs tolds s log) (ran' : ScriptRan image libs tolds' s' log')
    (one : OneOrder (start image (creds_in libs)) (λ lib. (ran.last lib).going.calls) log s)
    (one' : OneOrder (start image (creds_in libs)) (λ lib. (ran'.last lib).going.calls) log' s')
    → CallAlike libs one.order one'.order → EndAlike tolds tolds' s s'
