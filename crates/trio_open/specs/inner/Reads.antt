-- Which grant ends when a read lease is given back. Cited by functions that the controller alone calls.
use Rattle.std.specs.Prelude.{ℕ, ◌==◌, Bool, ◌&&◌}
use Rattle.trio_nodes.specs.GrantKinds.{is_read}
use Rattle.trio_state.specs.State.{OpenGrant}

-- the grant is the library's for reading the file
abbrev pub is_read_of : ℕ → ℕ → OpenGrant → Bool
is_read_of lib ino g = g.lib == lib && g.ino == ino && is_read g.kind
