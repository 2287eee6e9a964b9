use Rattle.trio_ctl.proofs.Words.{◌+◌, ◌≡◌, ◌≤◌, All, Serves, vec_capacity, vec_len}
use Rattle.trio_ctl.proofs.spares.Spares.more.Given as goal

abbrev pub invariant-loop : goal.invariant-loop
invariant-loop l =
    (vec_len l.kits + l.kept ≡ l.counter) × (l.kept ≤ l.wanted) × (l.wanted ≤ vec_capacity l.kits)
    × All (Serves (record { range = l.fn.range; inodes = l.fn.inodes }) l.each) l.kits.items
