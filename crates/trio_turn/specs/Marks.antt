-- What a library has begun.
use Rattle.std.specs.Prelude.{Option}
use Rattle.trio_turn.specs.declared.logged.Begun.{Begun}

-- the mark of a library: the release that it has begun and not ended, or none
abbrev pub Mark : Type 0
Mark = Option Begun
