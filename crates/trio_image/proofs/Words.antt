-- The words that the proofs of this crate share: of the standard library, of the crates below, and of this crate's own definitions.
pub use Rattle.std.proofs.Common.{◌*◌, ◌++◌, ◌+◌, ◌-◌, ◌/◌, ◌<◌, ◌∙◌, ◌∷◌, ◌≡◌, ◌≢◌, ◌≤◌, Bool, List, None, Ok, Option, Some, [], ap, arith, drop, get_or, inl, inr, length, refl, rules, subst, suc, sym, take, true, zero, ℕ}
pub use Rattle.std.proofs.Math.Seq.{drop-append_seam, take-append_seam}
pub use Rattle.std.proofs.lemmas.Bool.{eq-eqb}
pub use Rattle.std.proofs.lemmas.List.{drop-drop, get_or-append-add, get_or_append_left, length-append, length-drop, length-take}
pub use Rattle.std.proofs.lemmas.List.Folds.{list_all-append}
pub use Rattle.std.proofs.lemmas.Result.{err_from_is_err_and}
pub use Rattle.std.specs.List.{list_all}
pub use Rattle.std.specs.Option.{option_map}
pub use Rattle.std.specs.Prelude.{if◌then◌else◌, ◌==◌}
pub use Rattle.std.specs.Str.{bytes_eq}
pub use Rattle.trio_io.proofs.Loading.{OnlyReads-trans}
pub use Rattle.trio_io.specs.Shelf.{Shelf}
pub use Rattle.trio_layout.proofs.Reading.{true-bytes_eq}
pub use Rattle.trio_layout.proofs.Superblocks.{only, superblock_facts}
pub use Rattle.trio_layout.specs.Body.{body_at}
pub use Rattle.trio_layout.specs.Chain.{chain_of}
pub use Rattle.trio_layout.specs.Core.{Core}
pub use Rattle.trio_layout.specs.Slot.{slot_of}
pub use Rattle.trio_layout.specs.Superblock.{IsSuperblock, IsSuperblockOf, current_version, superblock_fits}
pub use Rattle.trio_layout.specs.declared.body.Body.{Body}
pub use Rattle.trio_layout.specs.declared.range.CoreRange.{CoreRange}
pub use Rattle.trio_layout.specs.declared.superblock.Superblock.{Superblock}
pub use Rattle.trio_lists.proofs.Tabulated.{tabulated-get, tabulated-length}
pub use Rattle.trio_lists.specs.Lists.{tabulated}
pub use Rattle.trio_page.proofs.Cursor.{length-zeros}
pub use Rattle.trio_page.specs.Field.{zeros}
pub use Rattle.trio_rights.specs.Row.{Row, row_in}
pub use Rattle.trio_state.specs.ImageNodes.{body_of_row, content_of, joined_pages, name_by_row, name_said, node_by_row, note_by_row}
pub use Rattle.trio_survey.specs.OldVersion.{old_version}
pub use Rattle.trio_survey.specs.Seen.{core_with}
pub use Rattle.trio_survey.specs.Stored.{BytesVerify, HasPage, HasSuperblock, PagesVerify, StoresTables, bytes_in, core_in, image_in, pages_in}
pub use Rattle.trio_tables.specs.Row.{as_row}
pub use Rattle.trio_tables.specs.Stored.{owner_bytes, padded_to_pages, shadow_bytes}
pub use Rattle.trio_image.specs.Counts.{counts_of, owned_count}
pub use Rattle.trio_image.specs.Fault.{HasLength, HasLengthOf, IsBadSuper, IsBadSuperOf, IsOfOther, IsOutside, IsPagesFault}
pub use Rattle.trio_image.specs.Front.{FillsPages, owner_count, shadow_count, table_pages}
pub use Rattle.trio_image.specs.Image.{ImagePages, IsVerified, IsWholeImage, IsWholeImageOf, TablesAre, is_whole_page}
pub use Rattle.trio_image.specs.Load.{LoadFails}
pub use Rattle.trio_image.specs.Made.{IsMade, new_counts}
pub use Rattle.trio_image.specs.declared.fault.LoadFault.{LoadFault}
pub use Rattle.trio_image.specs.declared.fault.LoadFault.TheVariants.{BadSuper, Fails, Length, NoMemory, OldVersion, ReadFault, TooLong}
pub use Rattle.trio_image.specs.inner.NewTables.{zero_pages}
pub use Rattle.trio_image.specs.inner.Reading.{IsPartOf}
pub use Rattle.trio_image.specs.Reading.{AreFilePages, IsFileOf, IsFirstPageFault}
