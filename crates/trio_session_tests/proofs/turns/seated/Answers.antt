use Rattle.trio_session_tests.proofs.Words.{◌∙◌, Controller, LibNo, MayPlay, ap, creds_of, subst, sym, underway_of}
use Rattle.trio_session_tests.proofs.Begins.{begins}
use Rattle.trio_session_tests.proofs.turns.seated.Goals as goal

pub returns-clause-may : goal.returns-clause-may
returns-clause-may c =
    let desk = c.of-desk in
    let after = c.ctl-1.given.1 (sym desk.ensures.same_reference) in
    let creds = c.creds.ensures.creds ∙ ap (λ (x : Controller). creds_of x.state desk.result.lib.0) desk.ensures.ctl ∙ ap (λ (l : LibNo). creds_of c.args.ctl.now.state l.0) desk.ensures.lib in
    subst (λ (x : Controller). MayPlay (underway_of x) c.args.lib c.new.result) (sym (after ∙ desk.ensures.ctl))
    (record { library = c.requires.library; idle = c.requires.idle; may = begins c.args.ctl.now c.args.lib c.creds.result c.new.result c.requires creds c.new.ensures })
