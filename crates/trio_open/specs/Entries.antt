-- The entries of a history, by their number.
use Rattle.std.specs.Prelude.{ℕ, ◌+◌, ◌<◌, ◌^◌, List, length, Option, is_some}
use Rattle.std.specs.List.{count_by, filter}
use Rattle.trio_nodes.specs.GrantKinds.{is_read}
use Rattle.trio_state.specs.Moves.{Outline}
use Rattle.trio_state.specs.State.{OpenGrant}

-- how many were made, and how many are promised
pub record Entries : Type 0 where
  pub made : ℕ
  pub promised : ℕ

-- how many of these grants are for reading
abbrev pub reads_among : List OpenGrant → ℕ
reads_among grants = length (filter (λ g. is_read g.kind) grants)

-- how many releases have begun and not ended
abbrev pub begun_among : List (Option Outline) → ℕ
begun_among begun = count_by is_some begun

-- there is room for so many entries beside those that are promised
abbrev pub HasRoom : Entries → ℕ → Type 0
HasRoom entries more = entries.made + entries.promised + more < 2 ^ 64
