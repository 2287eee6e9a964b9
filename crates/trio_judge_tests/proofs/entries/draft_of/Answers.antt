use Rattle.trio_judge_tests.proofs.Words.{◌∙◌, ap, arith}
use Rattle.trio_case.specs.declared.size.BundleSize.{BundleSize}
use Rattle.trio_judge_tests.proofs.entries.draft_of.Goals as goal

pub begun-requires : goal.begun-requires
begun-requires c =
    let size = c.in_ok-size.ensures in
    c.in_ok-memory.ensures c.args.bundle.now (record {
      pages = omega (arith, ap (λ (s : BundleSize). s.pages) size);
      values = omega (arith, ap (λ (s : BundleSize). s.values) size);
      holds = omega (arith, ap (λ (s : BundleSize). s.holds) size);
      inodes = omega (arith, ap (λ (s : BundleSize). s.inodes) size);
      lists = λ t. ap (λ (s : BundleSize). s.lists) size ∙ t;
    })
