-- The words that the proofs of this crate share: of the standard library, of the crates below, and of this crate's own definitions.
pub use Rattle.std.proofs.Common.{◌&&◌, ◌++◌, ◌+◌, ◌<◌, ◌∙◌, ◌∷◌, ◌≡◌, ◌≤◌, ◌⊎◌, Bool, List, None, Ok, Option, Some, [], ap, arith, cond, drop, eqb, false, inl, inr, leb, length, ltb, not, refl, subst, suc, sym, take, true, vec_capacity, vec_len, ℕ}
pub use Rattle.std.proofs.lemmas.Bool.{and_from, and_parts, both_ways, cases_Bool, eqb-true, ltb-true, ne_eqb, not_from_false}
pub use Rattle.std.proofs.lemmas.List.{append_assoc, map-append}
pub use Rattle.std.specs.List.{cons_option, find, list_all, position}
pub use Rattle.std.specs.Prelude.{map, slice_get}
pub use Rattle.trio_desk.specs.Call.{Done, Given, Judged, NotJudged, Release, TellsClosed}
pub use Rattle.trio_desk.specs.Calls.{Calls, Made}
pub use Rattle.trio_desk.specs.Contents.{Sizes}
pub use Rattle.trio_desk.specs.Out.{AreWhole, IsClosed, IsFreshLease, IsLent, LibOut, OutAlike, Parcel, SameFile, WasGiven, file_numbers, hold_numbers, ino_numbers, page_numbers, parcel_of, with_allotted, with_lease, without_parcel, without_read}
pub use Rattle.trio_lease.specs.Bundles.{Bundled}
pub use Rattle.trio_lease.specs.Shown.{LentFile, Shown}
pub use Rattle.trio_lease.specs.declared.lease.Lease.{Lease}
pub use Rattle.trio_lease.specs.declared.lease.Lease.TheVariants.{Hold, Read, Write}
pub use Rattle.trio_lease.specs.declared.parts.FreshParts.{FreshParts}
pub use Rattle.trio_lease.specs.declared.parts.HoldParts.{HoldParts}
pub use Rattle.trio_lease.specs.declared.parts.InoParts.{InoParts}
pub use Rattle.trio_lists.proofs.Filters.{find-In}
pub use Rattle.trio_lists.proofs.Marked.{are_new-append}
pub use Rattle.trio_lists.proofs.Members.{In-cases, In-left, In-map, In-right, map-In}
pub use Rattle.trio_lists.proofs.New.{are_new-fewer, are_new-first, is_among-not}
pub use Rattle.trio_lists.specs.Lists.{In, are_new, is_among}
pub use Rattle.trio_nodes.specs.declared.answers.ReleaseFault.TheVariants.{NoMemory as NoReleaseMemory}
pub use Rattle.trio_nodes.specs.declared.spot.Spot.TheVariants.{Fresh}
pub use Rattle.trio_rights.specs.declared.rights.LibNo.{LibNo}
pub use Rattle.trio_raw.specs.Asked.{back_calls}
pub use Rattle.trio_raw.specs.Has.{Has, HasLeases, Held, OnList, has_all_of, has_read, keeps_allotted, keeps_lease, named, parcel_named, read_numbers, read_on, rest_of, whole_parcel, with_parcel, with_reads, without, without_all}
pub use Rattle.trio_raw.specs.inner.Stock.{with_given}
