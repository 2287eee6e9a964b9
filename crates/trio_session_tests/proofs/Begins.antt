-- What is out to a library of a controller that was started, and to another one after a call.
use Rattle.trio_session_tests.proofs.Words.{◌∙◌, ◌≡◌, ◌≤◌, Ask, Controller, Creds, DeskSeen, Happens, Image, IsRecorded, LibNo, List, LogsCall, MayBegin, MayCall, NothingIsOut, SessionSeen, Told, [], ap, begun_like, creds_of, desk_of, happens_creds, length, others_see, recorded, refl, subst, sym, underway_of}
use Rattle.std.proofs.Common.{Result, Ok, Err, arith}
use Rattle.std.specs.Prelude.{IfOk, IfSome}
use Rattle.std.specs.Result.{result_ok}
use Rattle.trio_desk.specs.Edits.{nothing}
use Rattle.trio_desk.specs.Out.{OutAlike, nothing_out}
use Rattle.trio_state.specs.Run.{start}
use Rattle.trio_state.specs.State.{State}
use Rattle.trio_session.specs.Seen.{emptied}
use Rattle.trio_edit_laws.proofs.Called.{begins_to_call}
use Rattle.trio_ctl.specs.Ctl.{NoneBegun}
use Rattle.trio_ctl.specs.Desk.{out_of}
use Rattle.trio_runner.proofs.EndFree.{nothing_at_start}

-- nothing is out to anybody of a controller that was started
pub none_started : {E : Type 0} (r : Result Controller E) (image : Image) (creds : List Creds) → IfOk r (λ ctl. ctl.state ≡ start image creds) → IfOk r NoneBegun → IfSome (result_ok r) NothingIsOut
none_started (Ok ctl) image creds same idle = record { out = λ lib. subst (λ (s : State). OutAlike (out_of s lib) nothing_out) (sym same) (nothing_at_start image creds lib); idle = idle }
none_started (Err back) image creds same idle = tt

-- so each of its two libraries may begin
pub may_begin : (c : Controller) (lib : LibNo) → length c.state.creds ≡ 2 → NothingIsOut c → 1 ≤ lib.0 → lib.0 ≤ 2 → MayBegin c lib
may_begin c lib two none one few = record { library = (one, omega (arith, two, few)); idle = none.idle lib.0; out = none.out lib }

-- and so may another than the one at whose desk a call happens
pub begins_beside : (c c' : Controller) (lib other : LibNo) (ask : Ask) (told : Told) → IsRecorded (recorded c.first c.state c.log) → Happens c.state lib ask told c'.state → LogsCall c lib ask told c'
    → (other.0 ≡ lib.0 → ⊥) → MayBegin c other → MayBegin c' other
begins_beside c c' lib other ask told r is logs apart may = record {
  library = (may.library.0, subst (λ (cs : List Creds). other.0 ≤ length cs) (sym (happens_creds c.state lib ask told c'.state is)) may.library.1);
  idle = begun_like (underway_of c) (underway_of c') other.0 logs.begun ∙ may.idle;
  out = subst (λ (d : DeskSeen). OutAlike d.out nothing_out) (sym (others_see c.state lib other ask told c'.state r.kept r.whole apart is)) may.out;
}

-- a new session at its desk
pub begins : (c : Controller) (lib : LibNo) (creds' : Creds) (session : SessionSeen) → MayBegin c lib → creds' ≡ creds_of c.state lib.0
    → session ≡ record { lib = lib; creds = creds'; parcel = nothing; chains = []; made = []; cleared = []; reads = []; calls = []; placed = 0; indexed = []; finds = 0; room = session.room } → MayCall (desk_of c.state lib) session
begins c lib creds' session may creds_are empty = begins_to_call (desk_of c.state lib) session (record {
  lib = ap (λ (x : SessionSeen). x.lib) empty;
  creds = ap (λ (x : SessionSeen). x.creds) empty ∙ creds_are;
  out = may.out;
  empty = subst (λ (x : SessionSeen). x ≡ emptied x) (sym empty) refl;
})
