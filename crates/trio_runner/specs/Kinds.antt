-- The kinds of libraries: which lines a library can play, and what the libraries of this crate's two kinds have.
use Rattle.std.specs.Prelude.{⊤}
use Rattle.trio_script.specs.declared.Lines.{Lines}
use Rattle.trio_script.specs.declared.Lines.TheVariants.{Raw as RawLines, Honest as HonestLines}
use Rattle.trio_runner.specs.Play.{Share, Things, InSession}
use Rattle.trio_runner.specs.declared.kinds.AnyPlayer.{AnyPlayer}
use Rattle.trio_runner.specs.declared.kinds.AnyPlayer.TheVariants.{Raw, Honest}

-- lines are of the kind of what a library has: a raw one has things, an honest one a session
abbrev pub Suits : Lines → Share → Type 0
Suits (RawLines lines) (Things has) = ⊤
Suits (HonestLines lines) (InSession session) = ⊤
Suits lines share = ⊥

-- what a library of one of the two kinds has
abbrev pub share_in : AnyPlayer → Share
share_in (Raw raw) = Things raw.has
share_in (Honest session) = InSession session
