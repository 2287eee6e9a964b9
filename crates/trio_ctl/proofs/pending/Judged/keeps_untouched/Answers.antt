use Rattle.trio_ctl.proofs.Words.{◌∙◌, Bundled, In, KeepsUntouched, LentFile, ap, subst}
use Rattle.trio_ctl.specs.Pending.{JudgedCase}
use Rattle.trio_ctl.proofs.pending.Judged.keeps_untouched.Goals as goal

pub returns : goal.returns
returns c =
    subst (λ (b : Bundled). (f : LentFile) → In f b.writes → KeepsUntouched f) (c.bundle.ensures.bundle ∙ ap (λ (j : JudgedCase). j.case.bundle) c.self.view_is)
    c.keeps_untouched.ensures
