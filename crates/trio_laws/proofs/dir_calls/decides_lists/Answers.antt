use Rattle.trio_laws.proofs.session.DirCalls.{list_refused_by_walk, list_refused_by_check, lists_names}
use Rattle.trio_laws.proofs.session.DirNames.{names_in_order}
use Rattle.trio_laws.proofs.dir_calls.decides_lists.Goals as goal

pub returns : goal.returns
returns c = record { walk = list_refused_by_walk; check = list_refused_by_check; names = lists_names; order = names_in_order }
