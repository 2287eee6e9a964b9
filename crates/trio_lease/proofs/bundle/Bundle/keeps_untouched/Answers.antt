use Rattle.trio_lease.proofs.Words.{◌<◌, ◌∙◌, ◌≡◌, ◌≤◌, KeepsUntouched, LentFile, List, ap, length, slice_index_or, subst}
use Rattle.trio_lease.proofs.Untouched.{one_more, all_told}
use Rattle.trio_lease.proofs.bundle.Bundle.keeps_untouched.Goals as goal

pub loop-lease-preserved : goal.loop-lease-preserved
loop-lease-preserved c =
    let same : c.deref-lease-items.result.now ≡ c.args.self.now.writes = c.deref-lease-items.ensures.value ∙ ap (λ b. b.writes) c.self.view_is in
    let item = c.lease-item.result in
    let i = c.loop-lease.lease-index in
    let Within : List LentFile → Type 0 = λ xs. i < length xs in
    let Is : List LentFile → Type 0 = λ xs. item ≡ slice_index_or xs i item in
    one_more KeepsUntouched c.args.self.now.writes i item (subst Within same c.loop-lease-test.true) (subst Is same c.lease-item.is) c.keeps_untouched.ensures c.loop-lease.invariant

pub returns : goal.returns
returns c =
    let same : c.deref-lease-items.result.now ≡ c.args.self.now.writes = c.deref-lease-items.ensures.value ∙ ap (λ b. b.writes) c.self.view_is in
    let Past : List LentFile → Type 0 = λ xs. length xs ≤ c.loop-lease.lease-index in
    all_told KeepsUntouched c.args.self.now.writes c.loop-lease.lease-index (subst Past same c.loop-lease-test.false) c.loop-lease.invariant
