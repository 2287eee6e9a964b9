-- The words that the proofs of this crate share: of the standard library, of the crates below, and of this crate's own definitions.
pub use Rattle.std.proofs.Common.{◌%◌, ◌&&◌, ◌++◌, ◌+◌, ◌-◌, ◌<◌, ◌∙◌, ◌∷◌, ◌≡◌, ◌≢◌, ◌≤◌, ◌⊎◌, Bool, Err, List, None, Ok, Option, Result, Some, [], ap, append_assoc, arith, cond, drop, eqb, false, inl, inr, leb, length, ltb, min, refl, rules, subst, suc, sym, take, true, zero, ℕ}
pub use Rattle.std.proofs.lemmas.Bool.{cases_eq, eqb-true, false≢true, ne_eqb}
pub use Rattle.std.proofs.lemmas.List.{append-nil, map-append}
pub use Rattle.std.proofs.lemmas.Simd.{map-map}
pub use Rattle.std.specs.List.{filter, find}
pub use Rattle.std.specs.Option.{ok_or, option_and_then, option_map, option_map_or, option_or}
pub use Rattle.std.specs.Prelude.{◌||◌, MatchResult, is_some, map, not}
pub use Rattle.trio_auxdir.specs.declared.place.Place.{Place}
pub use Rattle.trio_deeds.specs.Slots.{MayPut, PutFile}
pub use Rattle.trio_desk.specs.Agrees.{HasRights}
pub use Rattle.trio_desk.specs.Call.{Allot, Ask, DeskSeen, Grant, ModeSet, NotGiven, NotLent, NotModeSet, NotSettled, Settled, Told}
pub use Rattle.trio_desk.specs.Calls.{Calls, Made, NotMade, OneCall}
pub use Rattle.trio_desk.specs.Contents.{AreWithinLimits, Rights, rights_in, rights_of}
pub use Rattle.trio_desk.specs.Edits.{DoesCall, MayShow, TakesMore}
pub use Rattle.trio_desk.specs.Out.{Parcel, hold_numbers, ino_numbers, kind_lent}
pub use Rattle.trio_desk.specs.Ready.{ArePossible, IsChmod, Moded, chmod_walk, moded_in}
pub use Rattle.trio_desk.specs.Shows.{bytes_now, guard_now, naming_of, with_judged}
pub use Rattle.trio_edit_laws.proofs.Alike.{may_alike}
pub use Rattle.trio_edit_laws.proofs.Allotting.{asks_fault, asks_short, told_fault}
pub use Rattle.trio_edit_laws.proofs.Called.{may_same, may_settled, settle_may}
pub use Rattle.trio_edit_laws.proofs.Noting.{may_noted as note_done}
pub use Rattle.trio_edit_laws.proofs.OpenChain.{open_chain}
pub use Rattle.trio_edit_laws.proofs.Shown.{shown_by}
pub use Rattle.trio_edit_laws.proofs.Sized.{size_fits-body_of}
pub use Rattle.trio_edit_laws.proofs.Walkable.{shows_calls, view_calls}
pub use Rattle.trio_edit_laws.proofs.directories.Cleared.{clear_leaves}
pub use Rattle.trio_edit_laws.proofs.directories.Sees.{sees_directory}
pub use Rattle.trio_edit_laws.specs.Allotting.{HasNumbers, Wanted}
pub use Rattle.trio_edit_laws.specs.Calls.{MayCall}
pub use Rattle.trio_edit_laws.specs.DirLaws.{Changes, LeavesCleared, StaysTree}
pub use Rattle.trio_edit_laws.specs.Written.{MayEdit}
pub use Rattle.trio_laws.proofs.session.DirCalls.{done_is_tree, moves_entry, needs_write, refused_at_entry, refused_by_name, refused_by_path}
pub use Rattle.trio_laws.specs.session.DirCalls.{ComesAcross, ComesInto, early_refusal, made_in, name_refusal, write_paths}
pub use Rattle.trio_laws.specs.session.FileCalls.{gives}
pub use Rattle.trio_laws.specs.session.Sees.{IsView}
pub use Rattle.trio_edit_laws.specs.session.SlotEdits.{with_changed}
pub use Rattle.trio_laws.specs.session.Takes.{case_in_hand}
pub use Rattle.trio_layout.specs.Body.{block_count, body_of}
pub use Rattle.trio_layout.specs.Chain.{Chain}
pub use Rattle.trio_layout.specs.Entries.{slot_bytes}
pub use Rattle.trio_layout.specs.Slot.{slot_of}
pub use Rattle.trio_layout.specs.declared.body.Body.{Body}
pub use Rattle.trio_layout.specs.declared.range.CoreRange.{CoreRange}
pub use Rattle.trio_layout.specs.declared.slot.EntryPart.{EntryPart}
pub use Rattle.trio_lease.specs.Shown.{LentFile, Shown}
pub use Rattle.trio_lease.specs.declared.lease.Lease.{Lease}
pub use Rattle.trio_lease.specs.declared.lease.Lease.TheVariants.{Hold as HoldLease, Read as ReadLease, Write as WriteLease}
pub use Rattle.trio_lease.specs.declared.parts.HoldParts.{HoldParts}
pub use Rattle.trio_lease.specs.declared.parts.InoParts.{InoParts}
pub use Rattle.trio_lists.proofs.Filters.{find-In, some_one}
pub use Rattle.trio_lists.proofs.Members.{In-cases, In-is_among, In-map, In-right, is_among-In}
pub use Rattle.trio_lists.specs.Lists.{In, is_among}
pub use Rattle.trio_names.specs.Name.{is_name}
pub use Rattle.trio_nodes.specs.After.{batch_nodes}
pub use Rattle.trio_nodes.specs.Apply.{Applied, LacksRoom, applied, done, is_done, largest_size, link_mode, makes_file, reached, refused}
pub use Rattle.trio_nodes.specs.Nodes.{Nodes, count_in, find_named, is_in, node_at, with_node}
pub use Rattle.trio_nodes.specs.Tree.{IsDirectory, IsTree}
pub use Rattle.trio_nodes.specs.Walk.{Path, and_then, dir_of, enter, is_above, is_root, name_of, need_at, walk, walk_into}
pub use Rattle.trio_nodes.specs.declared.answers.AllotFault.{AllotFault}
pub use Rattle.trio_nodes.specs.declared.answers.AllotFault.TheVariants.{NoInodes as NoFreeInodes, NoMemory as NoAllotMemory, NoPages}
pub use Rattle.trio_nodes.specs.declared.answers.GrantFault.TheVariants.{Busy as BusyGrant, Denied as DeniedGrant, NoMemory as NoGrantMemory}
pub use Rattle.trio_nodes.specs.declared.answers.ModeFault.{ModeFault}
pub use Rattle.trio_nodes.specs.declared.answers.ModeFault.TheVariants.{BadMode, Busy as BusyMode, NoMemory as NoModeMemory, NotLive, NotOwner}
pub use Rattle.trio_nodes.specs.declared.call.Answer.TheVariants.{Done as IsDone, Names}
pub use Rattle.trio_nodes.specs.declared.call.Call.{Call}
pub use Rattle.trio_nodes.specs.declared.call.Call.TheVariants.{Chmod, Create, List as ListNames, Mkdir, Rename, Rmdir, Symlink, Unlink}
pub use Rattle.trio_nodes.specs.declared.call.Done.{Done}
pub use Rattle.trio_nodes.specs.declared.call.Reply.{Reply}
pub use Rattle.trio_nodes.specs.declared.call.Reply.TheVariants.{Denied, Exists, IntoItself, IsDir, IsLink, NoInodes, NoSpace, NotDir, NotEmpty, NotFound, NotLink, Ok as IsReplied, TooLarge}
pub use Rattle.trio_nodes.specs.declared.grant.GrantKind.{GrantKind}
pub use Rattle.trio_nodes.specs.declared.grant.GrantKind.TheVariants.{Hold, Read}
pub use Rattle.trio_nodes.specs.declared.grant.Holder.{Holder}
pub use Rattle.trio_nodes.specs.declared.node.Node.{Node}
pub use Rattle.trio_onetree.proofs.Children.{Child-find_named, find_named-Child}
pub use Rattle.trio_onetree.proofs.TreeStays.{tree_stays_through}
pub use Rattle.trio_page.specs.Home.{raised}
pub use Rattle.trio_rights.proofs.KindFacts.{is_directory-false, is_directory-true, kind_cases}
pub use Rattle.trio_rights.specs.ByKind.{is_directory}
pub use Rattle.trio_rights.specs.Rights.{permits}
pub use Rattle.trio_rights.specs.Row.{Row}
pub use Rattle.trio_rights.specs.declared.kind.Kind.{Kind}
pub use Rattle.trio_rights.specs.declared.kind.Kind.TheVariants.{Directory, Link, Regular}
pub use Rattle.trio_rights.specs.declared.rights.Creds.{Creds}
pub use Rattle.trio_rights.specs.declared.rights.Mode.{Mode}
pub use Rattle.trio_rights.specs.declared.rights.Need.{Need}
pub use Rattle.trio_rights.specs.declared.rights.Need.TheVariants.{Read as ToRead}
pub use Rattle.trio_session.proofs.Alike.{alike_finds, alike_room, alike_then, on_alike}
pub use Rattle.trio_session.proofs.Others.{fill_alike}
pub use Rattle.trio_session.specs.Asked.{Allots, IsAlike, SameDesk, allot_asks, took, with_lease}
pub use Rattle.trio_session.specs.Deeds.{as_lent, link_made, moved_shown, names_here, new_body, new_number, slot_growth, with_slot}
pub use Rattle.trio_session.specs.Layout.{growth, size_in}
pub use Rattle.trio_session.specs.Seen.{HasReadsAlone, IsOn, IsOpenDir, MadeFile, Room, SessionSeen, body_in, body_shown, chain_in, clear, emptied, empty_shown, entry_count, entry_in, entry_shown, every_number, fill, grant_in, held_file, in_hand, is_allotted, kind_shown, made_body, made_file, no_chain, number_shown, open_kind, place_in, place_shown, read_file, retitle, room_in, serves, slots_shown, spare_numbers, spare_pages, used_numbers, written_file}
pub use Rattle.trio_walk.proofs.Agreeing.{IsAt, asked_beside-In, in_order, one_path}
pub use Rattle.trio_walk.proofs.Possible.{calls_same, lib_same, moment_possible}
pub use Rattle.trio_walk.proofs.Retrying.{settled}
pub use Rattle.trio_walk.proofs.Ways.{Went}
pub use Rattle.trio_walk.proofs.Then.{asks_lent, calls_then, given_all, possible_then, short_ends}
pub use Rattle.trio_walk.specs.Asks.{AskedBy, IsNotBusy, TryEnds, grant_ask, noted}
pub use Rattle.trio_walk.specs.Needs.{Needed, asked, asked_beside, chmod_needs, dir_needs, into_needs, kind_for, moving_needs, named_needs, node_needs, reached_by, removing_needs, walk_needs}
pub use Rattle.trio_walk.specs.Tries.{BusyAt, HasNothing, OthersHold, allot_reply, try_end}
pub use Rattle.trio_walk.specs.Walks.{AreAsked, EndsBy, FindsEntry, HasMet, InAllShown, IsHad, IsListed, IsMet, IsMetIn, IsStopped, LooksUp, MayLookIn, MayWalk, RightsAre, Took, Walked, WalksInto, WalksTo, Way, gives_met, lent_call, need_of, one_need, served_by, shows_root, with_leases}
pub use Rattle.trio_walk.specs.declared.attempts.TryEnd.{TryEnd}
pub use Rattle.trio_walk.specs.declared.met.Met.{Met}
pub use Rattle.trio_walk.specs.declared.outcome.Outcome.{Outcome}
pub use Rattle.trio_walk.specs.declared.outcome.Outcome.TheVariants.{Busy, NoMemory, Replied}
pub use Rattle.trio_walk.specs.declared.outcome.Stop.{Stop}
pub use Rattle.trio_walk.specs.declared.outcome.Stop.TheVariants.{Busy as IsBusy, NoMemory as LacksMemory}
pub use Rattle.trio_walk.specs.declared.walks.WalkEnd.{WalkEnd}
pub use Rattle.trio_walk.specs.declared.walks.WalkEnd.TheVariants.{At, Busy as IsBusyWalk, NoMemory as NoWalkMemory, Reply as IsReply}
pub use Rattle.trio_calls_dir.specs.Asks.{ComesBy, ComesTo, DirTried, Target, edited, made_by, moved, numbers_for, pages_for, wants_of}
pub use Rattle.trio_calls_dir.specs.Chmods.{ComesSo, EndsHandedIn, EndsModed, LeavesBy, NamesOther, hand_in_ask, mode_ask}
pub use Rattle.trio_calls_dir.specs.Dir.{DirCalled, IsDirCall}
pub use Rattle.trio_calls_dir.specs.declared.chmods.ChmodTry.{ChmodTry}
pub use Rattle.trio_calls_dir.specs.inner.Chmods.{Finds, IsRetold, RefusesSo, TriesCall, comes_of, owner_met}
pub use Rattle.trio_calls_dir.specs.inner.Goes.{AfterTry, Goes, IsNames, IsNumber, IsOfDir, IsRefusal, IsRefusedAs, LeavesHere, MakesNew, New, NewDirectory, NewFile, NewLink, StopsBy, asks_from, body_made, making, new_bytes, new_kind, new_mode, new_path, number_made, put_new, removing, try_ends, without_file}
pub use Rattle.trio_calls_dir.specs.inner.Lists.{ComesHere, list_reply, listing_at, met_refusal}
pub use Rattle.trio_calls_dir.specs.inner.Moves.{IsAcross, IsFound, IsFree, IsOut, IsRename, MayMove, NeedsBusyAt, across_needs, both_dirs}
pub use Rattle.trio_calls_dir.specs.inner.Rooms.{HasPlaces, MadeRoom, RoomEnds, new_pages}
