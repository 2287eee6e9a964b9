use Rattle.trio_laws.proofs.session.Sees.{sees_root, sees_lease, sees_entry_rights, sees_lent, sees_judged, sees_made, sees_written, sees_untouched, untouched_reads}
use Rattle.trio_laws.proofs.in_hand.sees_nodes.Goals as goal

pub returns : goal.returns
returns c = record { root = sees_root; lease = sees_lease; rights = sees_entry_rights; lent = sees_lent; judged = sees_judged; made = sees_made; written = sees_written; untouched = sees_untouched; reads = untouched_reads }
