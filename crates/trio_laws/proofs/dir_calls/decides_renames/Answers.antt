use Rattle.trio_laws.proofs.session.DirCalls.{rename_refused_by_walk, rename_refused_by_name, moves_entry, retitles_entry, no_room_to_move}
use Rattle.trio_laws.proofs.dir_calls.decides_renames.Goals as goal

pub returns : goal.returns
returns c = record { walk = rename_refused_by_walk; name = rename_refused_by_name; moves = moves_entry; retitles = retitles_entry; room = no_room_to_move }
