use Rattle.trio_app.proofs.Words.{ImagePages, IsRunEnd, image_in, subst, sym}
use Rattle.trio_app.proofs.Ends.{run_end}
use Rattle.trio_app.proofs.script.run_in_turns.Goals as goal

pub returns : goal.returns
returns c =
    let told = c.in_ok-report.ensures.report in
    let text = rw c.deref.ensures.value at told in
    subst (λ (last : ImagePages). IsRunEnd (image_in c.args.image.superblock c.args.image.pages) c.args.libs.now c.in_ok-report.report.items last.pages) (sym c.in_ok-report.ensures.image)
    (run_end (image_in c.args.image.superblock c.args.image.pages) c.in_ok-end.end.image.superblock c.in_ok-end.end.image.pages c.args.libs.now c.in_ok-end.end.tolds.items c.in_ok-report.report.items c.in_ok-end.ensures text)
