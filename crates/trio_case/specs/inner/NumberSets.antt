-- A set of numbers. Cited by private functions and by the invariant of a listing alone.
use Rattle.std.specs.Prelude.{ℕ, ◌≡◌, ◌≤◌, List, length}
use Rattle.trio_lists.specs.Lists.{is_among}

-- its numbers, and how many it has room for
pub record NumbersShown : Type 0 where
  pub numbers : List ℕ
  pub room : ℕ

-- it has just these numbers, and no more of them
pub record HasJust (those : List ℕ) (s : NumbersShown) : Type 0 where
  pub each : (n : ℕ) → is_among n s.numbers ≡ is_among n those
  pub few : length s.numbers ≤ length those
