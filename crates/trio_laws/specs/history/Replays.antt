-- A log replayed by the controller's steps, and what a library has out after it.
use Rattle.std.specs.Prelude.{◌≡◌, ℕ, ◌==◌, List, [], ◌∷◌}
use Rattle.std.specs.List.{filter}
use Rattle.trio_rights.specs.declared.rights.Creds.{Creds}
use Rattle.trio_layout.specs.Image.{Image}
use Rattle.trio_state.specs.State.{State}
pub use Rattle.trio_state.specs.State.{IsLibrary}
use Rattle.trio_state.specs.Given.{GivenEvent}
use Rattle.trio_state.specs.Step.{Step}
use Rattle.trio_state.specs.Run.{start}
use Rattle.trio_nodes.specs.declared.entry.Entry.{Entry}
use Rattle.trio_laws.specs.Laws.{library_of}
use Rattle.trio_laws.specs.OutLaws.{HasOut, numbers_to}
use Rattle.trio_laws.specs.Known.{Known, known, known_after}
use Rattle.trio_laws.specs.history.Entries.{event_of, answer_of}

-- From s each entry in order tells of an event of one of the libraries, which hands in what was given to it, and of the answer
-- of a step; the steps come to s'.
abbrev pub ReplaysFrom : State → List Entry → State → Type 0
ReplaysFrom s [] s' = s' ≡ s
ReplaysFrom s (e ∷ es) s' =
    (mid : State) × IsLibrary s.creds (library_of (event_of e)) × GivenEvent s (event_of e)
    × Step s (event_of e) (answer_of e) mid × ReplaysFrom mid es s'

-- so from an image with nothing out
abbrev pub Replays : Image → List Creds → List Entry → State → Type 0
Replays image creds log s = ReplaysFrom (start image creds) log s

-- ---- what is out, by the log alone

-- what is known after entries in order
abbrev pub known_from : Known → List Entry → Known
known_from k [] = k
known_from k (e ∷ es) = known_from (known_after k (event_of e) (answer_of e)) es

-- what a library has out, by what is known: its open grants with what each lent, its pages and its inode numbers
abbrev pub out_known : Known → ℕ → HasOut
out_known k lib = record {
  grants = filter (λ g. g.lib == lib) k.grants;
  pages = numbers_to k.pages_out lib;
  numbers = numbers_to k.numbers_out lib;
}

-- what a library has out after a log that begins with an image
abbrev pub out_in : Image → List Creds → List Entry → ℕ → HasOut
out_in image creds log lib = out_known (known_from (known (start image creds)) log) lib
