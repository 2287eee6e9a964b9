-- What a name is, as bytes.
use Rattle.std.specs.Prelude.{ℕ, ◌≡◌, ◌==◌, ◌-◌, ◌≤◌, nat_lt, nat_le, Bool, not, ◌&&◌, IsTrue, List, [], ◌∷◌, length, take, drop, replicate}
use Rattle.std.specs.List.{list_all}
use Rattle.std.specs.Str.{bytes_eq}

-- 1 to 184 bytes, none of them 0 or a slash (47), and neither one dot (46) nor two: a test that computes
abbrev pub is_name : List ℕ → Bool
is_name bytes =
    nat_lt 0 (length bytes) && nat_le (length bytes) 184 && list_all (λ b. not (b == 0) && not (b == 47)) bytes
    && not (bytes_eq bytes (46 ∷ [])) && not (bytes_eq bytes (46 ∷ 46 ∷ []))

-- the bytes are a name
abbrev pub IsName : List ℕ → Type 0
IsName bytes = IsTrue (is_name bytes)

-- how a `Name` is kept: the bytes of a name in a room of 184, and zeros behind them
pub record IsStored (len : ℕ) (bytes : List ℕ) : Type 0 where
  pub name : IsName (take len bytes)
  pub fits : len ≤ 184
  pub zeros : drop len bytes ≡ replicate (184 - len) 0
  pub whole : length bytes ≡ 184
