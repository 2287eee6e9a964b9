use Rattle.trio_entries.proofs.Words.{◌≡◌, LentFile, head_in, map, take, vec_capacity}
use Rattle.trio_entries.proofs.outline.add_heads.Given as goal

abbrev pub invariant-loop-lease : goal.invariant-loop-lease
invariant-loop-lease l =
    (l.heads.items ≡ map (λ (f : LentFile). head_in f.stands) (take l.lease-index l.leases)) × (vec_capacity l.heads ≡ vec_capacity l.fn.heads)
