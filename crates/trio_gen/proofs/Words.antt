-- The words that the proofs of this crate share: of the standard library, of the crates below, and of this crate's own definitions.
pub use Rattle.std.proofs.Common.{◌%◌, ◌*◌, ◌++◌, ◌+◌, ◌<◌, ◌^◌, ◌∙◌, ◌∷◌, ◌≡◌, ◌≤◌, Bool, List, [], ap, arith, false, get_or, length, map, refl, suc, sym, take, true, zero, ℕ}
pub use Rattle.std.proofs.lemmas.List.{append-nil}
pub use Rattle.std.specs.Fmt.{decimal}
pub use Rattle.std.specs.List.{AllByRecursion, sum_by}
pub use Rattle.std.specs.Prelude.{codes}
pub use Rattle.trio_layout.specs.Tree.{TreeLine}
pub use Rattle.trio_script.specs.Within.{AreWithin, SaysWithin}
pub use Rattle.trio_script.specs.declared.ScriptLine.{ScriptLine}
pub use Rattle.trio_script.specs.declared.honest.HonestLine.{HonestLine}
pub use Rattle.trio_gen.specs.Summary.{answers_where, is_call}
pub use Rattle.trio_gen.specs.Workload.{directories_of, file_in, home, libraries_at, libraries_lines, library_lines, line_behind, numbered, part_in}
