use Rattle.trio_entries.proofs.Words.{◌++◌, ◌+◌, ◌-◌, ◌≡◌, IsRoom, length, pages_of, take, ℕ}
use Rattle.trio_entries.proofs.handed.Room.add_all.Given as goal

abbrev pub invariant-loop-i : goal.invariant-loop-i
invariant-loop-i l =
    (l.self.pages.items ≡ l.fn.self.pages.items ++ take l.i (pages_of l.source))
    × (IsRoom (length (pages_of l.source) - l.i) l.self × ((n : ℕ) → IsRoom (n + length (pages_of l.source)) l.fn.self → IsRoom (n + (length (pages_of l.source) - l.i)) l.self))
