-- Numbers that stand once. Cited by private functions alone.
use Rattle.std.specs.Prelude.{ℕ, ◌≡◌, Bool, true, [], length, map}
use Rattle.trio_lists.specs.Lists.{In, are_new}
use Rattle.trio_layout.specs.Listing.{Listing}
use Rattle.trio_case.specs.Cases.{CaseShown, lent_numbers}

-- the leases and holds of a case are of one file each
abbrev pub lent_once : CaseShown → Bool
lent_once k = are_new [] (lent_numbers k.bundle)

-- The leases and holds are of one file each, each entry is of another number, and the held files are those of the bundle's
-- holds, each once.
pub record AreListedOnce (k : CaseShown) (l : Listing) : Type 0 where
  pub lent : lent_once k ≡ true
  pub entries : are_new [] (map (λ e. e.ino) l.entries) ≡ true
  pub held : are_new [] l.held ≡ true
  pub holds : (n : ℕ) → In n l.held → In n (map (λ h. h.ino) k.bundle.holds)
  pub count : length l.held ≡ length k.bundle.holds
