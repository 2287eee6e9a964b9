-- What a library is told that has the controller to itself.
use Rattle.std.specs.Prelude.{◌≡◌, ◌≢◌, ⊤, List, [], ◌∷◌}
use Rattle.trio_lists.specs.Lists.{In}
use Rattle.trio_report.specs.declared.answer.LineAnswer.{LineAnswer}
use Rattle.trio_report.specs.declared.answer.LineAnswer.TheVariants.{Busy}
use Rattle.trio_script.specs.declared.Lines.TheVariants.{Honest}
use Rattle.trio_script.specs.declared.ScriptLib.{ScriptLib}
use Rattle.trio_script.specs.declared.ScriptLine.{ScriptLine}
use Rattle.trio_script.specs.declared.honest.HonestLine.{HonestLine}
use Rattle.trio_runner.specs.Play.{Heard, heard_by}

-- in a script of one library, which is honest, no line is answered busy
abbrev pub NeverBusyAlone : List ScriptLib → List Heard → Type 0
NeverBusyAlone (l ∷ []) tolds =
    (lines : List (ScriptLine HonestLine)) → l.lines ≡ Honest lines
    → (answer : LineAnswer) → In answer (heard_by tolds (record { 0 = 1 })).answers → answer ≢ Busy
NeverBusyAlone libs tolds = ⊤
