-- The words that the proofs of this crate share: of the standard library, of the crates below, and of this crate's own definitions.
pub use Rattle.std.proofs.Common.{◌++◌, ◌∙◌, ◌∷◌, ◌≡◌, ◌≤◌, List, [], ap, length, refl, rules, subst, sym}
pub use Rattle.trio_ctl.proofs.DeskSteps.{happens_creds, others_see}
pub use Rattle.trio_ctl.specs.Ctl.{Controller, underway_of}
pub use Rattle.trio_ctl.specs.Desk.{Happens, LogsCall, desk_of}
pub use Rattle.trio_ctl.specs.Logged.{recorded}
pub use Rattle.trio_desk.specs.Call.{Ask, DeskSeen, Told}
pub use Rattle.trio_edit_laws.specs.Calls.{MayCall}
pub use Rattle.trio_laws.proofs.acts.Underways.{begun_like}
pub use Rattle.trio_laws.specs.history.Recorded.{IsRecorded}
pub use Rattle.trio_layout.specs.Image.{Image}
pub use Rattle.trio_rights.specs.declared.rights.Creds.{Creds}
pub use Rattle.trio_rights.specs.declared.rights.LibNo.{LibNo}
pub use Rattle.trio_runner.proofs.Moves.{Stands}
pub use Rattle.trio_session.specs.Seen.{SessionSeen}
pub use Rattle.trio_state.specs.State.{creds_of}
pub use Rattle.trio_session_tests.specs.Begins.{MayBegin, NothingIsOut, second_lib}
pub use Rattle.trio_session_tests.specs.Turns.{MayPlay, first_lib}
