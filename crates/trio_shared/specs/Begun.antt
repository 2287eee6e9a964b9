-- The mark of a release that has begun and not ended.
use Rattle.std.specs.Prelude.{ℕ, ◌==◌, List, map}
use Rattle.std.specs.List.{find}
use Rattle.std.specs.Option.{option_map, option_map_or}
use Rattle.trio_lease.specs.Shown.{Shown}
use Rattle.trio_desk.specs.Out.{LibOut}
use Rattle.trio_state.specs.Moves.{FileOutline, Outline, begun_by}
use Rattle.trio_ctl.specs.Ctl.{Controller, underway_of}
use Rattle.trio_ctl.specs.Desk.{out_of}
use Rattle.trio_turn.specs.Marks.{Mark}
use Rattle.trio_turn.specs.declared.logged.Begun.{Begun}
use Rattle.trio_turn.specs.declared.logged.BegunLease.{BegunLease}

-- the number of the entry that granted a file that is lent for writing; 0 where none is
abbrev pub entry_on : List Shown → ℕ → ℕ
entry_on writes ino = option_map_or (λ w. w.entry) (find (λ w. w.ino == ino) writes) 0

-- a write lease of such a release, by its outline
abbrev pub lease_mark : List Shown → FileOutline → BegunLease
lease_mark writes f = record { ino = f.ino; kind = f.kind; entry = entry_on writes f.ino; index = f.index; blocks = f.blocks }

-- the mark of a release of this outline, of a library that has this out
abbrev pub mark_of : LibOut → Outline → Begun
mark_of out o = record { leases = map (lease_mark out.writes) o.writes; holds = o.holds; pages = o.pages; numbers = o.numbers }

-- the mark of what a library has begun of the controller
abbrev pub marked : Controller → ℕ → Mark
marked c lib = option_map (mark_of (out_of c.state (record { 0 = lib }))) (begun_by (underway_of c) lib)
