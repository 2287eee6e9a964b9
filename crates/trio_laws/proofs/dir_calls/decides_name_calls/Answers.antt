use Rattle.trio_laws.proofs.session.DirCalls.{name_refused_by_walk, refused_by_name, refused_at_entry, makes_entry, removes_entry, no_room_to_make}
use Rattle.trio_laws.proofs.dir_calls.decides_name_calls.Goals as goal

pub returns : goal.returns
returns c = record { walk = name_refused_by_walk; name = refused_by_name; entry = refused_at_entry; makes = makes_entry; removes = removes_entry; room = no_room_to_make }
