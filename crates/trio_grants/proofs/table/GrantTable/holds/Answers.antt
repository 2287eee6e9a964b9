use Rattle.std.proofs.Common.{◌∙◌, ap, sym}
use Rattle.slab.specs.Slab.{entries_from}
use Rattle.trio_grants.specs.Grants.{least, held_number, lowest_held}
use Rattle.trio_grants.proofs.Sorting.{held-by_entry, least_assoc}
use Rattle.trio_grants.proofs.table.GrantTable.holds.Goals as goal

pub loop-grant-init : goal.loop-grant-init
loop-grant-init c =
    let m = lowest_held c.args.lib c.args.from in (
      tt,
      tt,
      ap m (c.into_iter-grant-iterator.ensures.into_iter_gives ∙ c.iter-grant-items.ensures.rest)
          ∙ sym (held-by_entry c.args.lib c.args.from (entries_from 0 c.self.inside.grants.slots))
          ∙ ap m c.self.view_is,
    )

pub loop-grant-preserved : goal.loop-grant-preserved
loop-grant-preserved c =
    let m = lowest_held c.args.lib c.args.from in
    let next = held_number c.args.lib c.args.from c.in-Some.grant.now in (
      tt,
      tt,
      ap (λ b. least b (m c.next.new.self)) c.lower_number-lowest.ensures
          ∙ least_assoc c.loop-grant.lowest next (m c.next.new.self)
          ∙ ap (λ l. least c.loop-grant.lowest (m l)) (sym c.in-Some.ensures.steps)
          ∙ c.loop-grant.invariant.2,
    )
