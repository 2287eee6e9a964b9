use Rattle.trio_edit_laws.proofs.session.Chains.{reads_named, named_reads, shares_stay, bytes_many, bytes_cut, bytes_grow, bytes_put}
use Rattle.trio_edit_laws.proofs.in_hand.chains_read.Goals as goal

pub returns : goal.returns
returns c = record { named = reads_named; reads = named_reads; stay = shares_stay; many = bytes_many; cut = bytes_cut; grow = bytes_grow; put = bytes_put }
