use Rattle.std.proofs.Common.{◌∙◌, ap, sym, Some, None, if◌then◌else◌}
use Rattle.slab.specs.Slab.{entries_from}
use Rattle.trio_grants.specs.Grants.{first_with}
use Rattle.trio_grants.specs.inner.Search.{meets, lower, lowest}
use Rattle.trio_grants.proofs.Sorting.{first_with-by_entry, lower_assoc}
use Rattle.trio_grants.proofs.table.GrantTable.first.Goals as goal

pub loop-grant-init : goal.loop-grant-init
loop-grant-init c =
    let m = meets c.args.asked.now in (
      tt,
      tt,
      ap (lowest m) (c.into_iter-grant-iterator.ensures.into_iter_gives ∙ c.iter-grant-items.ensures.rest)
          ∙ sym (first_with-by_entry m (entries_from 0 c.self.inside.grants.slots))
          ∙ ap (first_with m) c.self.view_is,
    )

pub loop-grant-preserved : goal.loop-grant-preserved
loop-grant-preserved c =
    let m = meets c.args.asked.now in
    let next = c.in-Some.grant.now in (
      tt,
      tt,
      ap (λ b. lower b (lowest m c.next.new.self)) c.earlier-first.ensures
          ∙ lower_assoc c.loop-grant.first (if m next then Some next else None) (lowest m c.next.new.self)
          ∙ ap (λ l. lower c.loop-grant.first (lowest m l)) (sym c.in-Some.ensures.steps)
          ∙ c.loop-grant.invariant.2,
    )
