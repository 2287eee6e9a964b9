-- What is told of the workload once it was played.
use Rattle.std.specs.Prelude.{ℕ, Bool, true, false, List, [], ◌∷◌, ◌++◌, length, map, codes}
use Rattle.std.specs.Fmt.{decimal}
use Rattle.std.specs.List.{count_by, sum_by}
use Rattle.trio_rights.specs.declared.kind.Kind.{Kind}
use Rattle.trio_rights.specs.declared.kind.Kind.TheVariants.{Regular, Directory, Link}
use Rattle.trio_layout.specs.Tree.{TreeLine}
use Rattle.trio_nodes.specs.declared.call.Reply.TheVariants.{Ok}
use Rattle.trio_script.specs.declared.honest.HonestLine.{HonestLine}
use Rattle.trio_script.specs.declared.honest.HonestLine.TheVariants.{Call, Settle}
use Rattle.trio_script.specs.declared.Lines.{Lines}
use Rattle.trio_script.specs.declared.Lines.TheVariants.{Raw, Honest}
use Rattle.trio_report.specs.declared.answer.LineAnswer.{LineAnswer}
use Rattle.trio_gen.specs.declared.summary.Tally.{Tally}
use Rattle.trio_report.specs.declared.answer.LineAnswer.TheVariants.{Replied, Busy}

-- the line is a call
abbrev pub is_call : HonestLine → Bool
is_call (Call call) = true
is_call Settle = false

-- the answer to a line, where it is a call
abbrev pub answer_where : Bool → LineAnswer → List LineAnswer
answer_where true answer = answer ∷ []
answer_where false answer = []

-- of the answers to lines, by whether each line is a call: those to calls
abbrev pub answers_where : List Bool → List LineAnswer → List LineAnswer
answers_where (call ∷ calls) (answer ∷ answers) = answer_where call answer ++ answers_where calls answers
answers_where _ _ = []

-- which of a library's lines are calls; a raw library makes none
abbrev pub calls_among : Lines → List Bool
calls_among (Raw lines) = []
calls_among (Honest lines) = map (λ l. is_call l.line) lines

-- the answers to a library's calls, in their order
abbrev pub call_answers : Lines → List LineAnswer → List LineAnswer
call_answers lines answers = answers_where (calls_among lines) answers

-- the call was done
abbrev pub is_ok : LineAnswer → Bool
is_ok (Replied (Ok answer)) = true
is_ok answer = false

-- an open grant kept the call from being done
abbrev pub is_busy : LineAnswer → Bool
is_busy Busy = true
is_busy answer = false

-- the size of a regular file; the bytes of a directory and of a link don't count
abbrev pub size_of : Kind → ℕ → ℕ
size_of Regular size = size
size_of Directory size = 0
size_of Link size = 0

-- the sizes of all regular files of a tree
abbrev pub bytes_in : List TreeLine → ℕ
bytes_in tree = sum_by (λ l. size_of l.kind l.size) tree

-- how many calls there were, those that were done, those that were busy, and the bytes of the files
abbrev pub tally_of : List LineAnswer → List TreeLine → Tally
tally_of answers tree = record {
  calls = length answers;
  ok = count_by is_ok answers;
  busy = count_by is_busy answers;
  bytes = bytes_in tree;
}

-- the words for a workload: its number, its files and its calls
abbrev pub calls_text : ℕ → ℕ → ℕ → List ℕ
calls_text number files calls = codes "gen number " ++ decimal number ++ codes " files " ++ decimal files ++ codes " calls " ++ decimal calls

-- the words behind them: how many calls were done and busy, and the bytes
abbrev pub ends_text : ℕ → ℕ → ℕ → List ℕ
ends_text ok busy bytes = codes " ok " ++ decimal ok ++ codes " busy " ++ decimal busy ++ codes " bytes " ++ decimal bytes ++ codes "\n"

-- the line that tells of the workload of this number and so many files
abbrev pub tally_line : ℕ → ℕ → Tally → List ℕ
tally_line number files t = calls_text number files t.calls ++ ends_text t.ok t.busy t.bytes

-- the line, by the answers to the calls and the tree at the end
abbrev pub summary_line : ℕ → ℕ → List LineAnswer → List TreeLine → List ℕ
summary_line number files answers tree = tally_line number files (tally_of answers tree)
