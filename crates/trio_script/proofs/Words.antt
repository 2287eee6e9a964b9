-- The words that the proofs of this crate share: of the standard library, of the crates below, and of this crate's own definitions.
pub use Rattle.std.proofs.Common.{◌&&◌, ◌*◌, ◌++◌, ◌+◌, ◌-◌, ◌<◌, ◌==◌, ◌^◌, ◌||◌, ◌∙◌, ◌∷◌, ◌≡◌, ◌≢◌, ◌≤◌, Bool, Err, List, None, Option, Some, [], add-one, ap, append_assoc, arith, drop, eqb, false, get_or, is_some, length, map, nat_lt, not, refl, subst, suc, sym, take, true, zero, ℕ}
pub use Rattle.std.proofs.Math.Seq.{drop-cons}
pub use Rattle.std.proofs.lemmas.Bool.{and_parts}
pub use Rattle.std.proofs.lemmas.Bool.Decides.{nat_tests}
pub use Rattle.std.proofs.lemmas.List.{append-nil}
pub use Rattle.std.specs.List.{AllByRecursion, list_any}
pub use Rattle.std.specs.Prelude.{codes}
pub use Rattle.std.specs.Str.{bytes_eq}
pub use Rattle.trio_script.specs.Honest.{honest_said}
pub use Rattle.trio_script.specs.Said.{library_said}
pub use Rattle.trio_script.specs.Script.{lib_with, libs_from, lines_of, names_library, own_lines, said_at, says_library}
pub use Rattle.trio_script.specs.Words.{are_new, digits_after, hex_bytes, text_of, words_of}
pub use Rattle.trio_script.specs.declared.Lines.TheVariants.{Honest, Raw}
pub use Rattle.trio_script.specs.declared.library.Begun.{Begun}
pub use Rattle.trio_script.specs.declared.library.BegunLines.{BegunLines}
pub use Rattle.trio_script.specs.declared.library.BegunLines.TheVariants.{Honest as HonestBegun, Raw as RawBegun}
pub use Rattle.trio_script.specs.declared.library.LibLine.{LibLine}
pub use Rattle.trio_script.specs.inner.Taken.{count_of, libs_and, libs_as, libs_with, lines_and, lines_seen}
