use Rattle.trio_auxdir.proofs.Words.{◌<◌, ◌^◌, ◌∙◌, ◌≡◌, ap, arith, filter, length, rules}
use Rattle.std.specs.Option.{is_some}
use Rattle.trio_auxdir.specs.Directory.{Directory}
use Rattle.trio_auxdir.proofs.Counted.{length-filter_some, length-order}
use Rattle.trio_auxdir.proofs.directory.HashedDir.len.Goals as goal

pub overflow_cast-result : goal.overflow_cast-result
overflow_cast-result c =
    let len : c.len.result ≡ length c.self.inside.order.items = search rules in
    let named = length-order c.self.inside.slots.items c.self.inside.order.items c.self.invariant.index.sorted in
    let lt : c.len.result < 2 ^ 32 = omega (arith, len, named, length-filter_some c.self.inside.slots.items, c.self.invariant.few) in
    search (rules, lt)

pub returns : goal.returns
returns c =
    let len : c.len.result ≡ length c.self.inside.order.items = search rules in
    len ∙ length-order c.self.inside.slots.items c.self.inside.order.items c.self.invariant.index.sorted
    ∙ ap (λ (d : Directory). length (filter is_some d.slots)) c.self.view_is
