use Rattle.trio_ctl.proofs.Words.{◌+◌, ◌≡◌, All, Serves, Sizes, vec_capacity, vec_len}
use Rattle.trio_ctl.proofs.spares.Spares.keep.Given as goal

abbrev pub invariant-loop-kit : goal.invariant-loop-kit
invariant-loop-kit l =
    (l.bytes ≡ l.initial.self.bytes) × (vec_len l.kits + vec_len l.self.kits ≡ vec_len l.initial.kits + vec_len l.initial.self.kits)
    × (vec_capacity l.kits ≡ vec_capacity l.initial.kits)
    × ((z : Sizes) → All (Serves z l.bytes) l.initial.self.kits.items → All (Serves z l.bytes) l.initial.kits.items → All (Serves z l.bytes) l.self.kits.items × All (Serves z l.bytes) l.kits.items)

abbrev pub decreases-loop-kit : goal.decreases-loop-kit
decreases-loop-kit l = vec_len l.self.kits
