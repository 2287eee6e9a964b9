-- How many pages a bundle has. Cited by functions that the controller alone calls.
use Rattle.std.specs.Prelude.{ℕ, ◌+◌, List, [], ◌∷◌, length}
use Rattle.trio_lease.specs.Shown.{LentFile}

-- how many pages these leases show
abbrev pub pages_shown : List LentFile → ℕ
pages_shown [] = 0
pages_shown (f ∷ fs) = length f.stands.index + length f.stands.blocks + pages_shown fs
