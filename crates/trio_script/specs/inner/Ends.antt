-- Where a line ends. Cited by private functions alone.
use Rattle.std.specs.Prelude.{◌≡◌, ◌≢◌, ◌<◌, ℕ, List, length, slice_index}

-- the first `count` bytes are no line ends
abbrev pub IsPlain : List ℕ → ℕ → Type 0
IsPlain bytes count = (k : ℕ) → k < count → slice_index bytes k ≢ 10

-- the first line end stands here
pub record EndsLine (bytes : List ℕ) (end : ℕ) : Type 0 where
  pub within : end < length bytes
  pub here : slice_index bytes end ≡ 10
  pub plain : IsPlain bytes end
