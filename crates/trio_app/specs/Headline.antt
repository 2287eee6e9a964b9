-- What holds of a script's moves: the claim, of this run; and what holds of the log that its controller stored.
use Rattle.std.specs.Prelude.{◌≡◌, ℕ, List, Some, IsTrue}
use Rattle.trio_rights.specs.Row.{Row}
use Rattle.trio_rights.specs.declared.rights.Creds.{Creds}
use Rattle.trio_rights.specs.declared.rights.LibNo.{LibNo}
use Rattle.trio_lists.specs.Lists.{In, is_among}
use Rattle.trio_layout.specs.Image.{Image, row_at}
use Rattle.trio_state.specs.Kept.{Kept}
use Rattle.trio_rights.specs.Bundle.{Bundle}
use Rattle.trio_state.specs.Run.{start, Move, Trace}
use Rattle.trio_state.specs.State.{State, settled}
use Rattle.trio_state.specs.Tells.{Why}
use Rattle.trio_state.specs.Step.{Release, Refused}
use Rattle.trio_laws.specs.Laws.{IsVerdict, IsBack, IsUntouched, IsElsewhere, HasNone, RowGoes, library_of}
use Rattle.trio_laws.specs.ContentLaws.{HasSameContent}
use Rattle.trio_surveys.specs.Tree.{IsTree}
use Rattle.trio_app.specs.HeldContent.{Accepts}
use Rattle.trio_nodes.specs.declared.entry.Entry.{Entry}
use Rattle.trio_nodes.specs.Legal.{Legal}
use Rattle.trio_state.specs.ImageNodes.{nodes_of}
use Rattle.trio_laws.specs.history.Replays.{Replays}
use Rattle.trio_script.specs.declared.ScriptLib.{ScriptLib}
use Rattle.trio_runner.specs.Play.{Heard, IsLibraryOf, creds_in, heard_by}
use Rattle.trio_runner.specs.Logged.{AreEntries, Prints, entries_by}
use Rattle.trio_runner.specs.History.{CallsAreHistory}

-- The moves are a run of the controller from the image's state, of events that hand in what was given, with any bytes.
-- The first state and the state after each move are kept: the settled image verifies. It is one connected tree, with
-- each page owned once and rights as in the shadow table. A bundle is accepted exactly where the whole image with its
-- bytes would be sound by an allowed change, and refused exactly where not; then what the checkpoints cover is back,
-- byte for byte. And libraries are apart: a live file on which a library has no open write grant and no hold is the same
-- after each event of that library, but for a change of its mode and for a write grant on it; a file that an accepted bundle
-- merely holds keeps its content and its pages, wherever it stands then; and the row of a live number stays, or its library
-- holds the file, or changes its mode for the owner or for uid 0.
pub record Headline (image : Image) (creds : List Creds) (moves : List Move) : Type 0 where
  pub run : Trace (start image creds) moves
  pub begins : Kept (start image creds) × IsTree image
  pub verifies : (m : Move) → In m moves → Kept m.after
  pub tree : (m : Move) → In m moves → IsTree (settled m.after)
  pub judged :
      (m : Move) (lib : ℕ) (b : Bundle) → In m moves → m.event ≡ Release lib b
      → IsVerdict m.before lib b m.answer m.after
  pub back :
      (m : Move) (lib : ℕ) (b : Bundle) (why : Why) → In m moves → m.event ≡ Release lib b → m.answer ≡ Refused why
      → IsBack m.before b m.after
  pub isolated :
      (m : Move) (n : ℕ) (r : Row) → In m moves → row_at (settled m.before) n ≡ Some r
      → HasNone m.before (library_of m.event) n → IsElsewhere n m.event m.answer
      → IsUntouched (settled m.before) (settled m.after) n
  pub held :
      (m : Move) (b : Bundle) (n : ℕ) (r q : Row) → In m moves → Accepts m.event m.answer b
      → row_at (settled m.before) n ≡ Some r → IsTrue (is_among n b.holds) → row_at (settled m.after) n ≡ Some q
      → HasSameContent (settled m.before) (settled m.after) n
  pub rows :
      (m : Move) (n : ℕ) (r : Row) → In m moves → row_at (settled m.before) n ≡ Some r
      → RowGoes m.before m.event n r (row_at (settled m.after) n)

-- The log that the controller of a script stored, by the script's moves, what its libraries were told, and the last state. It is the
-- entries of the moves, in their order. It replays from the image that was read to the state at the end, and it is legal, with the
-- libraries' credentials, from the nodes of that image to those of the image that is settled at the end. Where no raw library releases
-- or changes a mode, its calls are a history of the tree on one thread. And the answers of each library print its entries, each once and
-- in their order.
pub record StoredLog (image : Image) (libs : List ScriptLib) (moves : List Move) (tolds : List Heard) (log : List Entry) (last : State) : Type 0 where
  pub entries : AreEntries moves log
  pub replays : Replays image (creds_in libs) log last
  pub legal : Legal (nodes_of image) (creds_in libs) log (nodes_of (settled last))
  pub one_thread : CallsAreHistory (nodes_of image) (creds_in libs) log (nodes_of (settled last))
  pub printed : (lib : LibNo) (l : ScriptLib) → IsLibraryOf libs lib l → Prints l.lines (heard_by tolds lib) (entries_by lib log)
