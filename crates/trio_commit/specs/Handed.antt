-- What a bundle brings home.
use Rattle.std.specs.Prelude.{◌≡◌, ℕ, List, map, Option, Some}
use Rattle.std.specs.List.{flat_map}
use Rattle.std.specs.Option.{option_map_or}
use Rattle.trio_lists.specs.Lists.{In}
use Rattle.trio_rights.specs.declared.rights.LibNo.{LibNo}
use Rattle.trio_rights.specs.Bundle.{Bundle, Written}
use Rattle.trio_rights.specs.Sheets.{Sheet, sheet_numbers}
use Rattle.trio_layout.specs.Body.{guard_in}
use Rattle.trio_tables.specs.Out.{lib_at}
use Rattle.trio_allot.specs.Out.{OutByNumber}
use Rattle.trio_checkpoint.specs.Covered.{Checkpointed}
use Rattle.trio_state.specs.Bundles.{uncovered_of}
use Rattle.trio_commit.specs.Store.{checkpoint_at, covered_at}

-- the allotted pages and numbers of a bundle are out to this library
pub record AreOutTo (outs : OutByNumber) (lib : LibNo) (b : Bundle) : Type 0 where
  pub pages : (n : ℕ) → In n (sheet_numbers b.pages) → lib_at outs.pages n ≡ Some lib
  pub numbers : (n : ℕ) → In n b.numbers → lib_at outs.numbers n ≡ Some lib

-- the numbers of the written files
abbrev pub written_numbers : Bundle → List ℕ
written_numbers b = map (λ w. w.ino) b.writes

-- the pages that the checkpoints of the written files cover
abbrev pub written_covered : List (Option Checkpointed) → Bundle → List Sheet
written_covered checkpoints b = flat_map (covered_at checkpoints) (written_numbers b)

-- the body that a written file was lent with, as its checkpoint has it; without a checkpoint, the one in its lease
abbrev pub body_before : List (Option Checkpointed) → Written → List ℕ
body_before checkpoints w = option_map_or (λ c. c.body) (checkpoint_at checkpoints w.ino) w.body

-- The blocks of the written files that no checkpoint covers, by the kinds of their leases and by the guards that they were lent
-- with. What their writers made of the guards doesn't count.
abbrev pub lent_uncovered : List (Option Checkpointed) → Bundle → List Sheet
lent_uncovered checkpoints b = flat_map (λ w. uncovered_of w.kind (guard_in (body_before checkpoints w)) w.blocks) b.writes
