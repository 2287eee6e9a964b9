use Rattle.trio_case.proofs.Words.{◌∙◌, ap, arith}
use Rattle.trio_case.specs.declared.size.BundleSize.{BundleSize}
use Rattle.trio_case.proofs.case.memory_for.Goals as goal

pub returns : goal.returns
returns c =
    c.in_ok-memory.ensures c.args.bundle.now (record {
      pages = omega (arith, ap (λ (s : BundleSize). s.pages) c.in_ok-of.ensures);
      values = omega (arith, ap (λ (s : BundleSize). s.values) c.in_ok-of.ensures);
      holds = omega (arith, ap (λ (s : BundleSize). s.holds) c.in_ok-of.ensures);
      inodes = omega (arith, ap (λ (s : BundleSize). s.inodes) c.in_ok-of.ensures);
      lists = λ on. ap (λ (s : BundleSize). s.lists) c.in_ok-of.ensures ∙ on;
    })
