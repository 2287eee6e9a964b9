-- The words that the proofs of this crate share: of the standard library, of the crates below, and of this crate's own definitions.
pub use Rattle.std.proofs.Common.{if◌then◌else◌, ◌++◌, ◌+◌, ◌<◌, ◌||◌, ◌∙◌, ◌∷◌, ◌≡◌, ◌⊎◌, Bool, Err, List, None, Ok, Option, Result, Some, [], ap, arith, cond, drop, eqb, false, get_or, inl, inr, is_some, length, ltb, not, refl, rules, subst, suc, sym, take, true, zero, ℕ}
pub use Rattle.std.proofs.lemmas.Bool.{both_ways, false≢true}
pub use Rattle.std.proofs.lemmas.List.{append_assoc}
pub use Rattle.std.proofs.lemmas.Result.{err_from_is_err_and}
pub use Rattle.std.proofs.lemmas.Slice.Eq.{bytes_eq-Decides}
pub use Rattle.std.specs.Option.{ok_or}
pub use Rattle.std.specs.Prelude.{MatchBool}
pub use Rattle.std.specs.Str.{bytes_eq}
pub use Rattle.trio_nodes.proofs.NodeFacts.{set-with_node}
pub use Rattle.trio_nodes.specs.After.{call_nodes}
pub use Rattle.trio_nodes.specs.Apply.{Applied, applied, chmod, done, guard, in_directory, is_done, largest_size, link_mode, list, listed_in, make, new_node, of_node, put_at, reached, read, readlink, refused, rename, resized, rmdir, size_of, stat, truncate, unlink, write}
pub use Rattle.trio_nodes.specs.Found.{found_from, path_found, then_found}
pub use Rattle.trio_nodes.specs.Legal.{MadeFits}
pub use Rattle.trio_nodes.specs.Nodes.{Nodes, count_in, find_named, names_in, node_at, with_node}
pub use Rattle.trio_nodes.specs.Tree.{IsDirectory, IsTree}
pub use Rattle.trio_nodes.specs.Walk.{Path, dir_of, enter, is_above, is_root, lacks, name_of, need_at, same_path, walk, walk_from, walk_into}
pub use Rattle.trio_nodes.specs.declared.call.Answer.{Answer}
pub use Rattle.trio_nodes.specs.declared.call.Answer.TheVariants.{Bytes, Count, Done as IsDone, Names as AreNames, Stat as IsStat}
pub use Rattle.trio_nodes.specs.declared.call.Call.{Call}
pub use Rattle.trio_nodes.specs.declared.call.Call.TheVariants.{Chmod, Create, Guard, List as ListNames, Mkdir, Read, Readlink, Rename, Rmdir, Stat, Symlink, Truncate, Unlink, Write}
pub use Rattle.trio_nodes.specs.declared.call.Reply.{Reply}
pub use Rattle.trio_nodes.specs.declared.call.Reply.TheVariants.{Denied, Exists, IntoItself, IsDir, IsLink, NotDir, NotEmpty, NotFound, NotLink, Ok as Replied, TooLarge}
pub use Rattle.trio_nodes.specs.declared.node.Node.{Node}
pub use Rattle.trio_rights.proofs.KindFacts.{is_directory-false, is_directory-true}
pub use Rattle.trio_rights.specs.ByKind.{is_directory, is_link}
pub use Rattle.trio_rights.specs.declared.kind.Kind.{Kind}
pub use Rattle.trio_rights.specs.declared.kind.Kind.TheVariants.{Directory, Link, Regular}
pub use Rattle.trio_rights.specs.declared.rights.Creds.{Creds}
pub use Rattle.trio_rights.specs.declared.rights.Mode.{Mode}
pub use Rattle.trio_rights.specs.declared.rights.Need.{Need}
pub use Rattle.trio_rights.specs.declared.rights.Need.TheVariants.{Read as ToRead, Write as ToWrite}
pub use Rattle.trio_onetree.specs.CallLaws.{changed_node, changed_number, only_looks}
pub use Rattle.trio_onetree.specs.inner.Gives.{Reached, on_file}
pub use Rattle.trio_onetree.specs.inner.Paths.{paths_of}
