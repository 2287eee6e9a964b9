-- What a controller has may cross to other threads.
use denote.Param.Send.{IsSend, sendable, recorded_send, struct_send}
use denote.Struct.Declared.{shape}
use Rattle.std.proofs.Crossing.{crosses}
use Rattle.std.proofs.MapsCrossing as maps
use Rattle.trio_case.specs.contracts.index.PageIndex as page_index
use Rattle.trio_case.specs.contracts.memory.CaseMemory as case_memory
use Rattle.trio_case.specs.contracts.room.PageRoom as page_room
use Rattle.trio_judge.specs.contracts.verdict.RoomMemory as room_memory
use Rattle.trio_nodes.specs.contracts.entry.RawFile as raw_file
use Rattle.trio_nodes.specs.contracts.entry.AllotAnswer as allot_answer
use Rattle.trio_nodes.specs.contracts.entry.GrantAnswer as grant_answer
use Rattle.trio_nodes.specs.contracts.raw.PlacedBlock as placed
use Rattle.trio_nodes.specs.contracts.raw.RawBundle as raw_bundle
use Rattle.trio_page.specs.contracts.page.Page as page
use Rattle.trio_page.specs.contracts.home.Home as home
use Rattle.trio_tables.specs.contracts.shadow.Shadow as shadow
use Rattle.trio_tables.specs.contracts.owners.Owners as owners
use Rattle.trio_allot.specs.contracts.allot.Allotments as allotments
use Rattle.trio_checkpoint.specs.contracts.checkpoint.Checkpoint as checkpoint
use Rattle.trio_commit.specs.contracts.store.Store as store
use Rattle.trio_grants.specs.contracts.table.GrantTable as grants
use Rattle.trio_log.specs.contracts.log.Log as log
use Rattle.trio_nodes.specs.contracts.entry.Entry as entry
use Rattle.trio_entries.specs.contracts.notes.Notes as notes
use Rattle.trio_entries.specs.contracts.draft.Draft as draft
use Rattle.trio_entries.specs.contracts.draft.DraftMemory as draft_memory
use Rattle.trio_open.specs.contracts.open.OpenFile as opened
use Rattle.trio_open.specs.contracts.history.History as history
use Rattle.trio_ctl.specs.contracts.kit.Kit as kit
use Rattle.trio_ctl.specs.contracts.spares.Spares as spares
use Rattle.trio_ctl.specs.contracts.registry.Registry as registry
use Rattle.trio_ctl.specs.contracts.ctl.Ctl as ctl
use Rattle.trio_ctl.specs.contracts.ctl.Ctl.TheInside as inside
use Rattle.trio_nodes.specs.contracts.shared.SharedBytes as shared
use Rattle.trio_nodes.specs.contracts.call.Call as call
use Rattle.trio_nodes.specs.contracts.call.Done as done
use Rattle.trio_nodes.specs.contracts.call.Reply as reply
use Rattle.trio_nodes.specs.contracts.entry.Handed as handed

pub page_sends : IsSend page.the_row
page_sends = search (sendable, crosses, maps.crosses) depth 60 fits 100000

pub home_sends : IsSend home.the_row
home_sends = search (sendable, crosses, maps.crosses, page_sends) depth 60 fits 100000

pub shadow_sends : IsSend shadow.the_row
shadow_sends = search (sendable, crosses, maps.crosses) depth 60 fits 100000

pub owners_sends : IsSend owners.the_row
owners_sends = search (sendable, crosses, maps.crosses) depth 60 fits 100000

pub allotments_sends : IsSend allotments.the_row
allotments_sends = search (sendable, crosses, maps.crosses) depth 60 fits 100000

pub checkpoint_sends : IsSend checkpoint.the_row
checkpoint_sends = search (sendable, crosses, maps.crosses, page_sends) depth 60 fits 100000

pub grants_sends : IsSend grants.the_row
grants_sends = search (sendable, crosses, maps.crosses) depth 60 fits 100000

pub shared_sends : IsSend shared.the_row
shared_sends = search (sendable, crosses, maps.crosses) depth 60 fits 100000

pub call_sends : IsSend call.the_row
call_sends = search (sendable, crosses, maps.crosses, shared_sends) depth 60 fits 100000

pub reply_sends : IsSend reply.the_row
reply_sends = search (sendable, crosses, maps.crosses, shared_sends) depth 60 fits 100000

pub done_sends : IsSend done.the_row
done_sends = search (sendable, crosses, maps.crosses, call_sends, reply_sends) depth 60 fits 100000

pub handed_sends : IsSend handed.the_row
handed_sends = search (sendable, crosses, maps.crosses, page_sends) depth 60 fits 100000

pub raw_file_sends : IsSend raw_file.the_row
raw_file_sends = search (sendable, crosses, maps.crosses) depth 60 fits 100000

pub placed_sends : IsSend placed.the_row
placed_sends = search (sendable, crosses, maps.crosses) depth 60 fits 100000

pub raw_bundle_sends : IsSend raw_bundle.the_row
raw_bundle_sends = search (sendable, crosses, maps.crosses, handed_sends, placed_sends) depth 60 fits 100000

pub allot_answer_sends : IsSend allot_answer.the_row
allot_answer_sends = search (sendable, crosses, maps.crosses) depth 60 fits 100000

pub grant_answer_sends : IsSend grant_answer.the_row
grant_answer_sends = search (sendable, crosses, maps.crosses) depth 60 fits 100000

pub index_sends : IsSend page_index.the_row
index_sends = search (sendable, crosses, maps.crosses) depth 60 fits 100000

pub entry_sends : IsSend entry.the_row
entry_sends = search (sendable, crosses, raw_file_sends, raw_bundle_sends, allot_answer_sends, grant_answer_sends, handed_sends, done_sends, call_sends) depth 60 fits 100000

pub log_sends : IsSend log.the_row
log_sends = search (sendable, crosses, maps.crosses, entry_sends) depth 60 fits 100000

pub notes_sends : IsSend notes.the_row
notes_sends = search (sendable, crosses, maps.crosses) depth 60 fits 100000

pub draft_sends : IsSend draft.the_row
draft_sends = search (sendable, crosses, maps.crosses, raw_file_sends, placed_sends, index_sends) depth 60 fits 100000

pub open_sends : IsSend opened.the_row
open_sends = search (sendable, crosses, maps.crosses, page_sends) depth 60 fits 100000

pub history_sends : IsSend history.the_row
history_sends = search (sendable, crosses, maps.crosses) depth 60 fits 100000

pub store_sends : IsSend store.the_row
store_sends = search (sendable, crosses, maps.crosses, home_sends, shadow_sends, owners_sends, allotments_sends, checkpoint_sends) depth 60 fits 100000

pub registry_sends : IsSend registry.the_row
registry_sends = search (sendable, crosses, maps.crosses, store_sends, grants_sends, open_sends, draft_sends, history_sends) depth 60 fits 100000

pub case_memory_sends : IsSend (case_memory.the_field).row
case_memory_sends = search (sendable, crosses, maps.crosses) depth 60 fits 100000

pub page_room_sends : IsSend page_room.the_row
page_room_sends = search (sendable, crosses, maps.crosses) depth 60 fits 100000

pub room_memory_sends : IsSend (room_memory.the_field).row
room_memory_sends = search (sendable, crosses, maps.crosses, page_room_sends) depth 60 fits 100000

pub draft_memory_sends : IsSend (draft_memory.the_field).row
draft_memory_sends = search (sendable, crosses, maps.crosses, raw_file_sends, placed_sends, index_sends) depth 60 fits 100000

pub kit_sends : IsSend kit.the_row
kit_sends = recorded_send _ _ _ (kit.the_type).to_one (struct_send (shape kit.the_type) (case_memory_sends, (room_memory_sends, (draft_memory_sends, tt))))

pub spares_sends : IsSend spares.the_row
spares_sends = search (sendable, crosses, maps.crosses, kit_sends) depth 60 fits 100000

pub registry_field_sends : IsSend (registry.the_field).row
registry_field_sends = search (sendable, crosses, maps.crosses, registry_sends, store_sends, grants_sends, open_sends, draft_sends, history_sends) depth 60 fits 100000

pub log_field_sends : IsSend (log.the_field).row
log_field_sends = search (sendable, crosses, maps.crosses, log_sends, entry_sends) depth 60 fits 100000

pub notes_field_sends : IsSend (notes.the_field).row
notes_field_sends = search (sendable, crosses, maps.crosses, notes_sends) depth 60 fits 100000

pub spares_field_sends : IsSend (spares.the_field).row
spares_field_sends = search (sendable, crosses, maps.crosses, spares_sends, kit_sends) depth 60 fits 100000

-- what it has inside
pub inside_sends : IsSend inside.the_row
inside_sends =
    recorded_send _ _ _ (inside.the_type).to_one
    (struct_send (shape inside.the_type) (registry_field_sends, (log_field_sends, (notes_field_sends, (spares_field_sends, (search (sendable, crosses), tt))))))

-- the controller
pub ctl_sends : IsSend ctl.the_row
ctl_sends = search (sendable, crosses, maps.crosses, inside_sends) depth 60 fits 100000
