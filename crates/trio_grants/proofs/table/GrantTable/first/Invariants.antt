use Rattle.std.proofs.Common.{◌≡◌}
use Rattle.trio_grants.specs.Grants.{first_with}
use Rattle.trio_grants.specs.inner.Search.{meets, lower, lowest}
use Rattle.trio_grants.proofs.table.GrantTable.first.Given as goal

-- the first so far and the rest give the first of all
abbrev pub invariant-loop-grant : goal.invariant-loop-grant
invariant-loop-grant l =
    (goal.iterator-loop-grant).can_next l.grant-iterator ×
    (goal.iterator-loop-grant).is_finite l.grant-iterator ×
    (lower l.first (lowest (meets l.asked) l.grant-iterator) ≡ first_with (meets l.asked) l.self)
