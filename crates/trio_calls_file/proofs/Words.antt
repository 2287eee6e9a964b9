-- The words that the proofs of this crate share: of the standard library, of the crates below, and of this crate's own definitions.
pub use Rattle.std.proofs.Common.{◌++◌, ◌+◌, ◌-◌, ◌/◌, ◌<◌, ◌∙◌, ◌∷◌, ◌≡◌, ◌≤◌, ◌⊎◌, Bool, Err, List, None, Ok, Option, Result, Some, [], ap, append_assoc, arith, cond, drop, eqb, false, inl, inr, leb, length, ltb, max, refl, subst, suc, sym, take, true, zero, ℕ}
pub use Rattle.std.proofs.lemmas.Bool.{eqb-true, false≢true}
pub use Rattle.std.proofs.lemmas.List.{append-nil, map-append}
pub use Rattle.std.specs.Option.{option_map}
pub use Rattle.std.specs.Prelude.{◌||◌, ◌≢◌, MatchResult, is_some, map, not}
pub use Rattle.trio_deeds.specs.Reads.{entries_counted}
pub use Rattle.trio_desk.specs.Agrees.{HasRights}
pub use Rattle.trio_desk.specs.Call.{Ask, DeskSeen, Grant, NotGiven, NotLent, Told}
pub use Rattle.trio_desk.specs.Contents.{AreWithinLimits, Rights, rights_in, rights_of}
pub use Rattle.trio_desk.specs.Edits.{DoesCall, MayShow}
pub use Rattle.trio_desk.specs.Out.{Parcel}
pub use Rattle.trio_desk.specs.Ready.{ArePossible}
pub use Rattle.trio_edit_laws.proofs.Alike.{may_alike}
pub use Rattle.trio_edit_laws.proofs.Called.{may_same}
pub use Rattle.trio_edit_laws.proofs.OpenChain.{open_chain}
pub use Rattle.trio_edit_laws.proofs.Reading.{length-bytes_in, sees_bytes}
pub use Rattle.trio_edit_laws.proofs.Resized.{length-resized}
pub use Rattle.trio_edit_laws.proofs.Shown.{shown_by}
pub use Rattle.trio_edit_laws.proofs.Walkable.{shows_calls}
pub use Rattle.trio_edit_laws.proofs.directories.Sees.{sees_directory}
pub use Rattle.trio_edit_laws.specs.Calls.{MayCall}
pub use Rattle.trio_edit_laws.specs.Written.{bytes_in}
pub use Rattle.trio_laws.proofs.session.FileCalls.{done_by_bytes, refused_by_check}
pub use Rattle.trio_laws.proofs.session.LentNodes.{mapped}
pub use Rattle.trio_laws.proofs.session.Sees.{sees_root}
pub use Rattle.trio_laws.specs.session.FileCalls.{file_path, gives, refusal}
pub use Rattle.trio_laws.specs.session.FileEdits.{with_content}
pub use Rattle.trio_layout.specs.Body.{block_count}
pub use Rattle.trio_lease.specs.Shown.{Shown}
pub use Rattle.trio_lease.specs.declared.lease.Lease.{Lease}
pub use Rattle.trio_lease.specs.declared.lease.Lease.TheVariants.{Hold as HoldLease, Read as ReadLease, Write as WriteLease}
pub use Rattle.trio_lists.proofs.Members.{In-cases}
pub use Rattle.trio_lists.specs.Lists.{In}
pub use Rattle.trio_nodes.specs.After.{batch_nodes}
pub use Rattle.trio_nodes.specs.Apply.{applied, is_done, largest_size, put_at, resized}
pub use Rattle.trio_nodes.specs.Nodes.{Nodes, node_at}
pub use Rattle.trio_nodes.specs.Walk.{Path, walk}
pub use Rattle.trio_nodes.specs.declared.answers.AllotFault.{AllotFault}
pub use Rattle.trio_nodes.specs.declared.answers.GrantFault.TheVariants.{Busy as BusyGrant, Denied as DeniedGrant}
pub use Rattle.trio_nodes.specs.declared.call.Answer.TheVariants.{Bytes, Count}
pub use Rattle.trio_nodes.specs.declared.call.Call.{Call}
pub use Rattle.trio_nodes.specs.declared.call.Call.TheVariants.{Chmod, Create, Guard, List as ListNames, Mkdir, Read, Readlink, Rename, Rmdir, Stat, Symlink, Truncate, Unlink, Write}
pub use Rattle.trio_nodes.specs.declared.call.Done.{Done}
pub use Rattle.trio_nodes.specs.declared.call.Reply.{Reply}
pub use Rattle.trio_nodes.specs.declared.call.Reply.TheVariants.{Denied, Exists, IntoItself, IsDir, IsLink, NoInodes, NoSpace, NotDir, NotEmpty, NotFound, NotLink, Ok as IsReplied, TooLarge}
pub use Rattle.trio_nodes.specs.declared.grant.GrantKind.{GrantKind}
pub use Rattle.trio_nodes.specs.declared.grant.GrantKind.TheVariants.{Read as ReadGrant, Write as WriteGrant}
pub use Rattle.trio_nodes.specs.declared.grant.Holder.{Holder}
pub use Rattle.trio_nodes.specs.declared.node.Node.{Node}
pub use Rattle.trio_rights.proofs.KindFacts.{is_directory-false, kind_cases}
pub use Rattle.trio_rights.specs.ByKind.{is_directory, is_link, takes_offsets}
pub use Rattle.trio_rights.specs.Row.{Row}
pub use Rattle.trio_rights.specs.declared.kind.Kind.{Kind}
pub use Rattle.trio_rights.specs.declared.kind.Kind.TheVariants.{Directory, Link, Regular}
pub use Rattle.trio_rights.specs.declared.rights.Creds.{Creds}
pub use Rattle.trio_rights.specs.declared.rights.Need.{Need}
pub use Rattle.trio_rights.specs.declared.rights.Need.TheVariants.{Read as ToRead}
pub use Rattle.trio_session.proofs.Alike.{alike_by, alike_room, alike_then, on_alike}
pub use Rattle.trio_session.proofs.Others.{put_alike}
pub use Rattle.trio_session.proofs.Shows.{body_had-open}
pub use Rattle.trio_session.specs.Asked.{Allots, IsAlike, SameDesk, allot_asks, took, with_lease}
pub use Rattle.trio_session.specs.Deeds.{IsHad, body_had, bytes_had, sized}
pub use Rattle.trio_session.specs.Layout.{growth, size_in}
pub use Rattle.trio_session.specs.Seen.{IsOn, IsOpenFile, SessionSeen, body_in, chain_in, in_hand, kind_shown, open_kind, pages_shown, put, read_file, room_in, serves, set_guard, spare_numbers, spare_pages}
pub use Rattle.trio_walk.proofs.Ways.{Went}
pub use Rattle.trio_walk.proofs.Then.{asks_lent, both_then}
pub use Rattle.trio_walk.specs.Asks.{AskedBy, IsNotBusy, TryEnds, grant_ask, noted}
pub use Rattle.trio_walk.specs.Needs.{Needed, asked, asked_beside, own_needs, path_of, walk_needs}
pub use Rattle.trio_walk.specs.Tries.{HasNothing, OthersHold}
pub use Rattle.trio_walk.specs.Walks.{HasMet, InAllShown, InBoth, IsMet, IsMetIn, MayTake, MayWalk, Took, Walked, Walks, Way, gives_met, lent_call, need_of, one_need, served_by, shows_root, with_leases}
pub use Rattle.trio_walk.specs.declared.met.Met.{Met}
pub use Rattle.trio_walk.specs.declared.outcome.Outcome.{Outcome}
pub use Rattle.trio_walk.specs.declared.outcome.Outcome.TheVariants.{Busy, NoMemory, Replied}
pub use Rattle.trio_walk.specs.declared.outcome.Stop.{Stop}
pub use Rattle.trio_walk.specs.declared.outcome.Stop.TheVariants.{NoMemory as LacksMemory}
pub use Rattle.trio_walk.specs.declared.walks.WalkEnd.TheVariants.{At, NoMemory as HasNoMemory, Reply as IsReply}
pub use Rattle.trio_calls_file.specs.Asks.{FileTried, IsFileCall, edited, growth_of, new_length, walked_growth, wanted_pages}
pub use Rattle.trio_calls_file.specs.inner.Goes.{AfterTry, CallBusyAt, ComesHere, Goes, IsBytes, IsPlain, IsRead, LeavesHere, MayBeDone, RepliesTo, Unrefused, asks_at, bytes_refusal, checked, grant_for, met_needs, need_for, refusal_at, text_refusal, try_ends, wants_pages_for}
pub use Rattle.trio_calls_file.specs.inner.Rooms.{HasPlaces, MadeRoom}
