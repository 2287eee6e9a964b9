use Rattle.std.proofs.Common.{◌∙◌, ap, subst, sym}
use Rattle.trio_rights.specs.declared.rights.LibNo.{LibNo}
use Rattle.trio_desk.specs.Out.{OutAlike, nothing_out}
use Rattle.trio_state.specs.State.{creds_of}
use Rattle.trio_edit_laws.specs.Calls.{MayCall}
use Rattle.trio_ctl.specs.Ctl.{Controller}
use Rattle.trio_ctl.specs.Desk.{desk_of, out_of}
use Rattle.trio_bench.proofs.Started.{begins}
use Rattle.trio_bench.proofs.sessions.nanos_on.Goals as goal

pub nanos_at-nanos-requires : goal.nanos_at-nanos-requires
nanos_at-nanos-requires g c =
    let desk = c.of-desk in
    let state = desk.result.ctl.now.state in
    let one : LibNo = record { 0 = 1 } in
    let none : OutAlike (out_of state one) nothing_out = subst (λ (x : Controller). OutAlike (out_of x.state one) nothing_out) (sym desk.ensures.ctl) (c.requires.none one) in
    subst (λ (l : LibNo). MayCall (desk_of state l) c.new-session.result) (sym desk.ensures.lib)
    (begins state one c.creds.result c.new-session.result none (c.creds.ensures.creds ∙ ap (λ (l : LibNo). creds_of state l.0) desk.ensures.lib) c.new-session.ensures)

pub of-desk-requires-clause-idle : goal.of-desk-requires-clause-idle
of-desk-requires-clause-idle g c = c.requires.idle 1
