use Rattle.trio_ctl.proofs.Words.{◌∙◌, BundleSize, ap, arith, sym}
use Rattle.trio_ctl.proofs.kit.Kit.of.Goals as goal

pub returns : goal.returns
returns c =
    let size = c.in_ok-size.ensures in
    c.in_ok-kit.ensures (record { range = c.args.range; inodes = c.args.inodes }) c.args.bundle.now
    (record {
      pages = omega (arith, ap (λ (s : BundleSize). s.pages) size);
      values = omega (arith, ap (λ (s : BundleSize). s.values) size);
      holds = omega (arith, ap (λ (s : BundleSize). s.holds) size);
      inodes = omega (arith, ap (λ (s : BundleSize). s.inodes) size);
      lists = λ writes. ap (λ (s : BundleSize). s.lists) size ∙ writes;
    })
    (sym c.core_pages.ensures)
