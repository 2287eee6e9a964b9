use Rattle.std.proofs.Common.{◌≡◌}
use Rattle.trio_grants.specs.Grants.{least, lowest_held}
use Rattle.trio_grants.proofs.table.GrantTable.holds.Given as goal

-- the lowest so far and the rest give the lowest number of all
abbrev pub invariant-loop-grant : goal.invariant-loop-grant
invariant-loop-grant l =
    (goal.iterator-loop-grant).can_next l.grant-iterator ×
    (goal.iterator-loop-grant).is_finite l.grant-iterator ×
    (least l.lowest (lowest_held l.lib l.from l.grant-iterator) ≡ lowest_held l.lib l.from l.self)
