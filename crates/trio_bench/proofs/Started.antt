-- Nothing is out to a library of a controller that was started, so a new session may make calls.
use Rattle.std.proofs.Common.{◌≡◌, List, [], Option, Some, None, IfSome, refl, sym, ap, ◌∙◌, subst}
use Rattle.trio_rights.specs.declared.rights.Creds.{Creds}
use Rattle.trio_rights.specs.declared.rights.LibNo.{LibNo}
use Rattle.trio_desk.specs.Edits.{nothing}
use Rattle.trio_desk.specs.Out.{OutAlike, nothing_out}
use Rattle.trio_state.specs.State.{State, creds_of}
use Rattle.trio_state.specs.Run.{start}
use Rattle.trio_session.specs.Seen.{SessionSeen, emptied}
use Rattle.trio_edit_laws.specs.Calls.{MayCall}
use Rattle.trio_edit_laws.proofs.Called.{begins_to_call}
use Rattle.trio_ctl.specs.Ctl.{Controller}
use Rattle.trio_ctl.specs.Desk.{desk_of, out_of}
use Rattle.trio_runner.proofs.EndFree.{nothing_at_start}

pub free_started : (r : Option Controller) (creds : List Creds) → IfSome r (λ ctl. ctl.state ≡ start ctl.state.home creds)
    → IfSome r (λ ctl. (lib : LibNo) → OutAlike (out_of ctl.state lib) nothing_out)
free_started (Some ctl) creds same = λ lib. subst (λ (s : State). OutAlike (out_of s lib) nothing_out) (sym same) (nothing_at_start ctl.state.home creds lib)
free_started None creds same = tt

pub begins : (s : State) (lib : LibNo) (creds' : Creds) (session : SessionSeen) → OutAlike (out_of s lib) nothing_out → creds' ≡ creds_of s lib.0
    → session ≡ record { lib = lib; creds = creds'; parcel = nothing; chains = []; made = []; cleared = []; reads = []; calls = []; placed = 0; indexed = []; finds = 0; room = session.room }
    → MayCall (desk_of s lib) session
begins s lib creds' session none same empty =
    begins_to_call (desk_of s lib) session (record {
      lib = ap (λ (x : SessionSeen). x.lib) empty;
      creds = ap (λ (x : SessionSeen). x.creds) empty ∙ same;
      out = none;
      empty = subst (λ (x : SessionSeen). x ≡ emptied x) (sym empty) refl;
    })
