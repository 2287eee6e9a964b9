use Rattle.trio_session_tests.proofs.Words.{◌∙◌, Controller, LibNo, MayCall, ap, creds_of, desk_of, subst, sym}
use Rattle.trio_session_tests.proofs.Begins.{begins}
use Rattle.trio_session_tests.proofs.desks.hears.Goals as goal

pub does-heard-requires : goal.does-heard-requires
does-heard-requires c =
    let desk = c.of-desk in
    let at : LibNo → Type 0 = λ l. MayCall (desk_of desk.result.ctl.now.state l) c.new-session.result in
    let creds = c.creds.ensures.creds ∙ ap (λ (x : Controller). creds_of x.state desk.result.lib.0) desk.ensures.ctl ∙ ap (λ (l : LibNo). creds_of c.args.ctl.now.state l.0) desk.ensures.lib in
    subst at (sym desk.ensures.lib)
    (subst (λ (x : Controller). MayCall (desk_of x.state c.args.lib) c.new-session.result) (sym desk.ensures.ctl)
    (begins c.args.ctl.now c.args.lib c.creds.result c.new-session.result c.requires creds c.new-session.ensures))
