use Rattle.trio_ctl.proofs.Words.{◌∙◌, ap, core_count, subst, sym}
use Rattle.trio_case.specs.Memory.{IsWithin}
use Rattle.trio_ctl.proofs.kit.Kit.with.Goals as goal

pub returns : goal.returns
returns c = λ z b fits core. record {
  case = c.in_ok-case.ensures b fits;
  room = λ k bundle range inodes. c.in-Ok.ensures k (subst (λ x. IsWithin x c.args.size) (sym bundle) fits) (ap core_count range ∙ core);
  draft = c.in-Ok-with.ensures b fits;
}
