-- How a bundle stands among the rows and nodes that it is judged by.
use Rattle.std.specs.Prelude.{◌≡◌, ℕ, List, map, None, Some, is_some, IsTrue}
use Rattle.trio_rights.specs.Row.{Row, row_in}
use Rattle.trio_lists.specs.Lists.{In}
use Rattle.trio_layout.specs.Case.{Case}
use Rattle.trio_nodes.specs.Nodes.{Nodes}
use Rattle.trio_desk.specs.Agrees.{SaySame}

-- the files that a case's bundle has for writing
abbrev pub written_numbers : Case → List ℕ
written_numbers c = map (λ w. w.ino) c.bundle.writes

-- The rows say the same as these nodes. The bundle's written and held files live, and no file is both; a held file's directory is
-- written. Its new numbers are not live.
pub record IsAmong (c : Case) (nodes : Nodes) : Type 0 where
  pub same : SaySame c.rows nodes
  pub written : (n : ℕ) → In n (written_numbers c) → IsTrue (is_some (row_in c.rows n))
  pub held : (n : ℕ) → In n c.bundle.holds → IsTrue (is_some (row_in c.rows n))
  pub apart : (n : ℕ) → In n c.bundle.holds → In n (written_numbers c) → ⊥
  pub closed : (n : ℕ) (r : Row) → In n c.bundle.holds → row_in c.rows n ≡ Some r → In r.parent (written_numbers c)
  pub new : (n : ℕ) → In n c.bundle.numbers → row_in c.rows n ≡ None

-- the file is none of the bundle's: it has neither a write lease nor a hold on it
abbrev pub IsForeign : Case → ℕ → Type 0
IsForeign c n = (In n (written_numbers c) → ⊥) × (In n c.bundle.holds → ⊥)
