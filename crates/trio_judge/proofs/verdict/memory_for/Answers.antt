use Rattle.trio_judge.proofs.Words.{◌∙◌, ◌≡◌, ap, arith}
use Rattle.trio_layout.specs.Range.{core_count}
use Rattle.trio_case.specs.declared.size.BundleSize.{BundleSize}
use Rattle.trio_judge.proofs.verdict.memory_for.Goals as goal

pub returns : goal.returns
returns c =
    let size = rw c.bundle.ensures.bundle at c.in_ok-size.ensures in
    let core : core_count c.range-range.result ≡ core_count c.args.case.now.range = ap core_count c.range-range.ensures in
    c.in_ok-memory.ensures c.args.case.now
    (record {
      pages = omega (arith, ap (λ (s : BundleSize). s.pages) size);
      values = omega (arith, ap (λ (s : BundleSize). s.values) size);
      holds = omega (arith, ap (λ (s : BundleSize). s.holds) size);
      inodes = omega (arith, ap (λ (s : BundleSize). s.inodes) size);
      lists = λ lists. ap (λ (s : BundleSize). s.lists) size ∙ lists;
    })
    (omega (arith, core, c.saturating_sub-core.ensures))
