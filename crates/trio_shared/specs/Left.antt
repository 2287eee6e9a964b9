-- What a log leaves, from the image that a controller began from.
use Rattle.std.specs.Prelude.{◌≡◌, List}
use Rattle.trio_rights.specs.declared.rights.LibNo.{LibNo}
use Rattle.trio_desk.specs.Call.{DeskSeen}
use Rattle.trio_desk.specs.Out.{LibOut}
use Rattle.trio_nodes.specs.declared.entry.Entry.{Entry}
use Rattle.trio_state.specs.Kept.{Kept}
use Rattle.trio_state.specs.Run.{start}
use Rattle.trio_state.specs.State.{State, creds_of}
use Rattle.trio_laws.specs.Known.{Known, known, plain_state}
use Rattle.trio_laws.specs.history.Recorded.{IsRecorded}
use Rattle.trio_laws.specs.history.Replays.{known_from}
use Rattle.trio_laws.specs.session.Lent.{root_of, sizes_of}
use Rattle.trio_ctl.specs.Ctl.{Controller}
use Rattle.trio_ctl.specs.Desk.{out_of}
use Rattle.trio_ctl.specs.Logged.{recorded}
use Rattle.trio_turn.specs.Origins.{Origin}

-- what a controller began from
abbrev pub origin_of : Controller → Origin
origin_of c = record { image = c.first; creds = c.state.creds }

-- the state of the image before the first entry
abbrev pub started : Origin → State
started first = start first.image first.creds

-- The entries leave this state: with it the log is legal from the nodes of the image and replays from the image.
pub record Leaves (first : Origin) (log : List Entry) (s : State) : Type 0 where
  pub begins : Kept (started first)
  pub creds : s.creds ≡ first.creds
  pub all : IsRecorded (recorded first.image s log)

-- ---- by the log alone

-- what is known after the entries
abbrev pub left_by : Origin → List Entry → Known
left_by first log = known_from (known (started first)) log

-- what a library has out then
abbrev pub out_left : Origin → List Entry → LibNo → LibOut
out_left first log lib = out_of (plain_state (left_by first log)) lib

-- What is seen of its desk then. Its credentials, the sizes of the image and the rights of its root are those of the start.
abbrev pub desk_left : Origin → List Entry → LibNo → DeskSeen
desk_left first log lib = record {
  lib = lib;
  creds = creds_of (started first) lib.0;
  out = out_left first log lib;
  sizes = sizes_of (started first);
  root = root_of (started first);
}
