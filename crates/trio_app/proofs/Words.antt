-- The words that the proofs of this crate share: of the standard library, of the crates below, and of this crate's own definitions.
pub use Rattle.std.proofs.Common.{◌&&◌, ◌++◌, ◌+◌, ◌<◌, ◌∙◌, ◌∷◌, ◌≡◌, ◌≤◌, ◌⊎◌, Bool, List, None, Option, Some, [], ap, arith, false, get_or, inl, inr, length, min, refl, rules, subst, suc, sym, take, true, zero, ℕ}
pub use Rattle.std.proofs.lemmas.Bool.{and_parts, leb-true}
pub use Rattle.std.proofs.lemmas.List.{append-nil, append_assoc}
pub use Rattle.std.proofs.lemmas.List.Elements.{All-contains_itself}
pub use Rattle.std.specs.Prelude.{if◌then◌else◌, Contains, IfSome, codes, nat_le}
pub use Rattle.std.specs.Str.{bytes_eq}
pub use Rattle.trio_commands.specs.Check.{CheckComesTo}
pub use Rattle.trio_commands.specs.Command.{Command, check, command_of, gen, gen_of, help, migrate, new_image, new_of, run, run_of, tree, turns, unknown, version, without_threads}
pub use Rattle.trio_commands.specs.Inputs.{InputsRead}
pub use Rattle.trio_commands.specs.Migrate.{MigrateComesTo}
pub use Rattle.trio_commands.specs.New.{NewComesTo}
pub use Rattle.trio_commands.specs.Report.{told_counts}
pub use Rattle.trio_commands.specs.Status.{code_of}
pub use Rattle.trio_commands.specs.Tree.{TreeComesTo}
pub use Rattle.trio_commands.specs.declared.status.Status.{Status}
pub use Rattle.trio_commands.specs.declared.status.Status.TheVariants.{BadScript, Done, NoMemory, NotVerified, ReadFault, TooLong, Usage, WriteFault}
pub use Rattle.trio_commands.specs.declared.words.TreeForm.{TreeForm}
pub use Rattle.trio_commands.specs.declared.words.TreeForm.TheVariants.{Json, Lines}
pub use Rattle.trio_ctl.specs.Logged.{recorded}
pub use Rattle.trio_image.specs.Counts.{counts_of}
pub use Rattle.trio_image.specs.Image.{ImagePages}
pub use Rattle.trio_io.specs.Names.{texts_of}
pub use Rattle.trio_io.specs.Shelf.{Rose, Shelf, SinkSeen}
pub use Rattle.trio_laws.specs.history.Recorded.{IsRecorded}
pub use Rattle.trio_layout.specs.Core.{Core}
pub use Rattle.trio_layout.specs.Image.{Image}
pub use Rattle.trio_layout.specs.Tree.{TreeLine, tree_of}
pub use Rattle.trio_layout.specs.declared.superblock.Superblock.{Superblock}
pub use Rattle.trio_nodes.specs.declared.entry.Entry.{Entry}
pub use Rattle.trio_report.specs.Report.{counts_text, tree_text}
pub use Rattle.trio_rights.specs.declared.rights.Creds.{Creds}
pub use Rattle.trio_runner.specs.Play.{Heard, Played, creds_in}
pub use Rattle.trio_runner.specs.RunLaws.{OrderIsLogged, OrderIsOne, RanEndsFree, RanIsOrder, RanIsPrinted}
pub use Rattle.trio_runner.specs.Runs.{ScriptRan}
pub use Rattle.trio_script.specs.Words.{number_of}
pub use Rattle.trio_script.specs.declared.ScriptLib.{ScriptLib}
pub use Rattle.trio_state.specs.Given.{GivenEvent}
pub use Rattle.trio_state.specs.Kept.{Kept}
pub use Rattle.trio_state.specs.Run.{start}
pub use Rattle.trio_state.specs.State.{State, settled}
pub use Rattle.trio_state.specs.Step.{CtlAnswer, Event, Release, Step}
pub use Rattle.trio_survey.specs.Stored.{core_in, image_in}
pub use Rattle.trio_tables.specs.Out.{NoneOut}
pub use Rattle.trio_app.specs.Gen.{GenComesTo, calls_told}
pub use Rattle.trio_app.specs.Main.{ComesTo, Main}
pub use Rattle.trio_app.specs.OnScript.{ScriptComesTo}
pub use Rattle.trio_app.specs.Report.{libs_text}
pub use Rattle.trio_app.specs.Run.{RunDone}
pub use Rattle.trio_app.specs.Turns.{TurnsDone}
pub use Rattle.trio_app.specs.inner.RunEnd.{IsPlayEnd, IsRunEnd, IsThreadsRunEnd}
