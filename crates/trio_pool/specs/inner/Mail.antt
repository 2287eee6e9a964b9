-- The rule of a mail's queue, and its tokens.
use Rattle.std.specs.Prelude.{◌≡◌, ◌⊎◌, ℕ, List, [], ◌∷◌, Option, Some, None}
use mathlib.Core.Option.{some}
use lib.ListN.{get_elem?}
use Rattle.trio_pool.specs.declared.mail.MailToken.{MailToken}

-- the same token, after a step with it
abbrev pub IsSameToken : {J : Type 0} → MailToken J → MailToken J → Type 0
IsSameToken t u = (u.token.table_id ≡ t.token.table_id) × (u.library ≡ t.library)

module _ {J : Type 0} (library : J → ℕ) where
  -- nothing was put yet, and the one token knows nothing; or all that is held is of one library, and each token knows it
  abbrev pub OfOneLibrary : List J → List (Option ℕ) → Type 0
  OfOneLibrary held views =
      ((held ≡ []) × (views ≡ None ∷ []))
      ⊎ ((l : ℕ) × ((k : ℕ) (x : J) → get_elem? held k ≡ some x → library x ≡ l) × ((j : ℕ) (v : Option ℕ) → get_elem? views j ≡ some v → v ≡ Some l))
