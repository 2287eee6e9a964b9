-- The law that what several libraries do on threads is one order of calls.
use Rattle.std.specs.Prelude.{◌≡◌, List, [], ◌∷◌, ◌++◌}
use Rattle.trio_rights.specs.declared.rights.Creds.{Creds}
use Rattle.trio_rights.specs.declared.rights.LibNo.{LibNo}
use Rattle.trio_lists.specs.Lists.{In}
use Rattle.trio_layout.specs.Image.{Image, IsFit}
use Rattle.trio_layout.specs.Verifies.{Verifies}
use Rattle.trio_nodes.specs.declared.entry.Entry.{Entry}
use Rattle.trio_desk.specs.Calls.{Call}
use Rattle.trio_state.specs.State.{State, IsLibrary}
use Rattle.trio_state.specs.Run.{start, IsWhole, Trace}
use Rattle.trio_laws.specs.history.Replays.{Replays, ReplaysFrom}
use Rattle.trio_laws.specs.session.Others.{state_after}
use Rattle.trio_turn.specs.Logs.{made_by}
use Rattle.trio_ctl.specs.Desk.{Happens, entries_told}
use Rattle.trio_order.specs.Order.{Along, Happening, InOrder, all_parts, calls_by, entries_in, moves_in}

-- One order of the calls of all libraries. It has each library's calls, in their parts, all of them and in their order, and no others.
-- From the first state to the last they happen one after another. Their entries, one after another, are the log, and each call's
-- lead from the state that it finds to the one that it leaves: where it makes none, nothing changes. And as moves the calls are a run
-- of the controller to the same state, of events that hand in what was given.
pub record OneOrder (first : State) (courses : LibNo → List Call) (log : List Entry) (last : State) : Type 0 where
  pub order : List Happening
  pub own : (lib : LibNo) → IsLibrary first.creds lib.0 → calls_by lib order ≡ all_parts (courses lib)
  pub no_other : (lib : LibNo) → (IsLibrary first.creds lib.0 → ⊥) → calls_by lib order ≡ []
  pub happen : InOrder first order last
  pub entries : entries_in order ≡ log
  pub replay : (h : Happening) → In h order → ReplaysFrom h.before (entries_told h.before h.lib h.call.ask h.call.told) h.after
  pub trace : Trace first (moves_in order)
  pub ends : state_after first (moves_in order) ≡ last

-- From an image that verifies: a log that replays, and each library's calls along it, as it found them, come from one order of all
-- calls.
abbrev pub ThreadsAreOrder : Type 0
ThreadsAreOrder =
    (image : Image) (creds : List Creds) (courses : LibNo → List Call) (log : List Entry) (last : State)
    → IsFit image.core → Verifies image → IsWhole image → Replays image creds log last
    → ((lib : LibNo) → IsLibrary creds lib.0 → Along (start image creds) lib [] log (courses lib))
    → OneOrder (start image creds) courses log last

-- ---- how a library's calls come to lie along the log

-- where a library has seen a log, and then others made entries, and then it called: its calls are along what it has seen now
abbrev pub CallsGrow : Type 0
CallsGrow =
    (first : State) (lib : LibNo) (seen others : List Entry) (calls : List Call) (c : Call) (before after : State)
    → Along first lib [] seen calls → made_by lib.0 others ≡ []
    → ReplaysFrom first (seen ++ others) before → Happens before lib c.ask c.told after
    → ReplaysFrom first ((seen ++ others) ++ entries_told before lib c.ask c.told) after
    → Along first lib [] ((seen ++ others) ++ entries_told before lib c.ask c.told) (calls ++ c ∷ [])

-- so they are where others made entries and the library didn't call
abbrev pub CallsEnd : Type 0
CallsEnd =
    (first : State) (lib : LibNo) (seen others : List Entry) (calls : List Call)
    → Along first lib [] seen calls → made_by lib.0 others ≡ [] → Along first lib [] (seen ++ others) calls
