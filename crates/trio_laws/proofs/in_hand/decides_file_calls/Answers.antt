use Rattle.trio_laws.proofs.session.FileCalls.{refused_by_walk, refused_by_check, done_by_bytes, stats_directory, refused_for_room}
use Rattle.trio_laws.proofs.in_hand.decides_file_calls.Goals as goal

pub returns : goal.returns
returns c = record { walk = refused_by_walk; check = refused_by_check; bytes = done_by_bytes; directory = stats_directory; room = refused_for_room }
