-- The words that the proofs of this crate share: of the standard library, of the crates below, and of this crate's own definitions.
pub use Rattle.std.proofs.Common.{◌%◌, ◌&&◌, ◌++◌, ◌+◌, ◌/◌, ◌<◌, ◌∙◌, ◌∷◌, ◌≡◌, ◌⊎◌, Bool, Err, IsSome, List, None, Ok, Option, Result, Some, [], ap, append_assoc, arith, cond, drop, eqb, false, get_or, inl, inr, length, refl, subst, suc, sym, take, true, zero, ℕ}
pub use Rattle.std.proofs.Math.Bool.{or-false, or-true}
pub use Rattle.std.proofs.Math.Seq.{take-suc}
pub use Rattle.std.proofs.lemmas.Bool.{eq-eqb, eqb-true, false≢true, ne_eqb}
pub use Rattle.std.proofs.lemmas.List.{append-nil, length-append, map-append}
pub use Rattle.std.proofs.lemmas.List.Folds.{find-append}
pub use Rattle.std.proofs.lemmas.Option.{slice_get-get_or}
pub use Rattle.std.specs.Int.{w32}
pub use Rattle.std.specs.List.{find, flat_map, list_any}
pub use Rattle.std.specs.Option.{option_and_then, option_map, option_map_or, option_or}
pub use Rattle.std.specs.Prelude.{◌||◌, ◌≢◌, is_some, map, not, slice_get, slice_index_or}
pub use Rattle.trio_auxdir.specs.Places.{place_at}
pub use Rattle.trio_auxdir.specs.Slots.{slot_with, slots_of}
pub use Rattle.trio_auxdir.specs.declared.place.Place.{Place}
pub use Rattle.trio_desk.specs.Agrees.{HasFile, HasRights}
pub use Rattle.trio_desk.specs.Among.{IsAmong}
pub use Rattle.trio_desk.specs.Call.{Ask, DeskSeen, Grant, NotLent, SeenAfter, Told}
pub use Rattle.trio_desk.specs.Calls.{Call, Calls, Made, NotMade, OneCall}
pub use Rattle.trio_desk.specs.Contents.{Rights, Sizes, entries_shown, rights_in, rights_of}
pub use Rattle.trio_desk.specs.Out.{IsFreshLease, IsLeaseFor, IsWellLent, LibOut, Parcel, file_numbers, files_out, hold_numbers, ino_numbers, kind_lent, numbers_of_file, pages_out}
pub use Rattle.trio_desk.specs.Ready.{ArePossible, bundle_of, lent_files, parcel_case}
pub use Rattle.trio_desk.specs.Refusals.{HasCause}
pub use Rattle.trio_desk.specs.Shows.{Naming, Shows, naming_of}
pub use Rattle.trio_laws.proofs.session.Edges.{was_there}
pub use Rattle.trio_laws.proofs.session.LentNodes.{entry_node, mapped}
pub use Rattle.trio_laws.specs.session.Sees.{AboveIsOpen, IsLeaseIn, IsView, Lists}
pub use Rattle.trio_laws.specs.session.Takes.{case_as_stands, pages_in_hand}
pub use Rattle.trio_layout.specs.Case.{Case}
pub use Rattle.trio_layout.specs.Chain.{Chain}
pub use Rattle.trio_layout.specs.Entries.{Listed, body_in_slot, slot_bytes}
pub use Rattle.trio_layout.specs.Slot.{slot_of}
pub use Rattle.trio_layout.specs.declared.slot.EntryPart.{EntryPart}
pub use Rattle.trio_layout.specs.declared.slot.SlotRead.{SlotRead}
pub use Rattle.trio_layout.specs.declared.slot.SlotRead.TheVariants.{Bad, Empty, Entry}
pub use Rattle.trio_lease.specs.Shown.{LentFile, Shown}
pub use Rattle.trio_lease.specs.Views.{lent_sheet, written_in}
pub use Rattle.trio_lease.specs.declared.lease.Lease.{Lease}
pub use Rattle.trio_lease.specs.declared.lease.Lease.TheVariants.{Hold as HoldLease, Read as ReadLease, Write as WriteLease}
pub use Rattle.trio_lease.specs.declared.parts.HoldParts.{HoldParts}
pub use Rattle.trio_lease.specs.declared.parts.LentPage.{LentPage}
pub use Rattle.trio_lists.proofs.Filters.{find-In, some_one}
pub use Rattle.trio_lists.proofs.Members.{In-cases, In-flat, In-is_among, In-left, In-map, In-right, map-In}
pub use Rattle.trio_lists.specs.Lists.{In, gathered}
pub use Rattle.trio_nodes.specs.After.{batch_nodes}
pub use Rattle.trio_nodes.specs.Legal.{rights_rows}
pub use Rattle.trio_nodes.specs.Nodes.{Nodes, find_named, node_at}
pub use Rattle.trio_nodes.specs.Tree.{IsDirectory, IsTree}
pub use Rattle.trio_nodes.specs.Walk.{Path, and_then, enter, enter_node, lacks, need_at, walk, walk_from}
pub use Rattle.trio_nodes.specs.declared.answers.GrantFault.{GrantFault}
pub use Rattle.trio_nodes.specs.declared.answers.GrantFault.TheVariants.{Busy as BusyGrant, Denied as DeniedGrant, NoMemory as NoGrantMemory}
pub use Rattle.trio_nodes.specs.declared.call.Done.{Done}
pub use Rattle.trio_nodes.specs.declared.call.Reply.TheVariants.{Denied, Exists, IntoItself, IsDir, IsLink, NoInodes, NoSpace, NotDir, NotEmpty, NotFound, NotLink, TooLarge}
pub use Rattle.trio_nodes.specs.declared.grant.GrantKind.{GrantKind}
pub use Rattle.trio_nodes.specs.declared.grant.GrantKind.TheVariants.{Hold, Read, Write}
pub use Rattle.trio_nodes.specs.declared.grant.Holder.{Holder}
pub use Rattle.trio_nodes.specs.declared.node.Node.{Node}
pub use Rattle.trio_onetree.proofs.Children.{find_named-Child}
pub use Rattle.trio_onetree.proofs.TreeStays.{tree_stays_through}
pub use Rattle.trio_page.specs.Field.{number_at}
pub use Rattle.trio_page.specs.Home.{raised}
pub use Rattle.trio_rights.proofs.KindFacts.{is_directory-true}
pub use Rattle.trio_rights.specs.Bundle.{Written}
pub use Rattle.trio_rights.specs.ByKind.{is_directory}
pub use Rattle.trio_rights.specs.May.{ancestors, row_permits}
pub use Rattle.trio_rights.specs.Rights.{permits}
pub use Rattle.trio_rights.specs.Row.{Row, row_in}
pub use Rattle.trio_rights.specs.Sheets.{Sheet}
pub use Rattle.trio_rights.specs.declared.kind.Kind.{Kind}
pub use Rattle.trio_rights.specs.declared.kind.Kind.TheVariants.{Directory, Link, Regular}
pub use Rattle.trio_rights.specs.declared.rights.Creds.{Creds}
pub use Rattle.trio_rights.specs.declared.rights.LibNo.{LibNo}
pub use Rattle.trio_rights.specs.declared.rights.Mode.{Mode}
pub use Rattle.trio_rights.specs.declared.rights.Need.{Need}
pub use Rattle.trio_rights.specs.declared.rights.Need.TheVariants.{Read as ToRead, Write as ToWrite}
pub use Rattle.trio_session.proofs.Lists.{slice_get-In}
pub use Rattle.trio_session.proofs.Pages.{sheets_of}
pub use Rattle.trio_session.specs.Asked.{SameBut, with_lease}
pub use Rattle.trio_session.specs.Layout.{page_in}
pub use Rattle.trio_session.specs.Seen.{IsOn, MadeFile, Room, SessionSeen, block_shown, body_in, body_shown, chain_in, dir_pages, entry_in, entry_shown, every_number, held_file, in_hand, kind_shown, made_body, made_file, no_chain, number_shown, open_kind, place_in, place_of, place_shown, read_file, serves, slots_shown, written_file}
pub use Rattle.trio_walk.specs.Needs.{Needed, asked, asked_beside, entered_needs, found_needs, into_needs, kind_for, needs_from, reached_by, serves_need, walk_needs}
pub use Rattle.trio_walk.specs.Walks.{EndsBy, HasMet, IsLentNow, IsLive, IsMet, IsMetIn, IsOwnBusy, LooksUp, MayLookIn, MayTake, MayWalk, RightsAre, SameSeen, SeesOpen, TakenAs, Took, TookLeases, Walked, Walks, Way, denies, file_of, gives_met, lent_call, need_of, one_need, pages_looked, served_by, with_leases}
pub use Rattle.trio_walk.specs.declared.met.Met.{Met}
pub use Rattle.trio_walk.specs.declared.outcome.Outcome.{Outcome}
pub use Rattle.trio_walk.specs.declared.outcome.Outcome.TheVariants.{Replied}
pub use Rattle.trio_walk.specs.declared.walks.WalkEnd.{WalkEnd}
pub use Rattle.trio_walk.specs.declared.walks.WalkEnd.TheVariants.{At, Busy, NoMemory, Reply}
pub use Rattle.trio_walk.specs.inner.Settling.{Gives, Leaves}
pub use Rattle.trio_walk.specs.inner.Steps.{Entered, Enters, body_refuses, here, met_of, rights_at, root_met}
