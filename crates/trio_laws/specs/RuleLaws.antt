-- The laws of local judgement: the four rules on a bundle, which look at the bundle, the rows and the credentials
-- alone, say what the survey of the whole image with its bytes says.
use Rattle.std.specs.Prelude.{◌≡◌, ◌↔◌, ℕ, None, IsTrue, IsFalse, slice_index}
use Rattle.trio_layout.specs.Range.{is_core}
use Rattle.trio_layout.specs.Core.{Location}
use Rattle.trio_layout.specs.Image.{Image, row_at}
use Rattle.trio_rights.specs.Bundle.{Bundle}
use Rattle.trio_layout.specs.Accept.{is_accepted, next}
use Rattle.trio_layout.specs.Case.{Case}
use Rattle.trio_layout.specs.Listing.{Listing, listing}
use Rattle.trio_layout.specs.Rules.{meets_grammar, meets_owning, meets_rights, meets_rules}
use Rattle.trio_layout.specs.Broken.{Breaks}
use Rattle.trio_layout.specs.Tables.{row_after, owner_after}
use Rattle.trio_layout.specs.Copied.{with_copied}
use Rattle.trio_state.specs.State.{State, settled, creds_of}
use Rattle.trio_state.specs.Bundles.{parted_hold}
use Rattle.trio_state.specs.Kept.{Kept}
use Rattle.trio_state.specs.Given.{GivenTo}
use Rattle.trio_state.specs.Tells.{case_in}

-- a bundle that is closed and was given to its library, in a kept state
pub record IsJudgeable (s : State) (lib : ℕ) (b : Bundle) : Type 0 where
  pub kept : Kept s
  pub given : GivenTo s lib b
  pub closed : parted_hold s lib b ≡ None

-- such a bundle meets the four rules exactly where it is accepted
abbrev pub RulesAreAccept : Type 0
RulesAreAccept =
    (s : State) (lib : ℕ) (b : Bundle) → IsJudgeable s lib b
    → IsTrue (meets_rules (case_in s lib b)) ↔ IsTrue (is_accepted (settled s) (creds_of s lib) b)

-- a bundle breaks a rule, and the lowest is named with a place, exactly where it doesn't meet all four
abbrev pub BreaksWhereNotMet : Type 0
BreaksWhereNotMet =
    (c : Case) → IsFalse (meets_rules c) ↔ ((rule : ℕ) × (ino : ℕ) × (place : Location) × Breaks c rule ino place)

-- the rows of the image are those that the listing says of the rows before it
abbrev pub RowsFollow : Listing → Image → Image → Type 0
RowsFollow l before after = (n : ℕ) → row_at after n ≡ row_after l before.rows n

-- and so are the owners of its core pages
abbrev pub OwnersFollow : Listing → Image → Image → Type 0
OwnersFollow l before after =
    (page : ℕ) → IsTrue (is_core before.core.range page)
    → slice_index after.owners page ≡ owner_after l before.owners page

-- after a bundle that is accepted the tables are those that its listing says
abbrev pub ListingGivesTables : Type 0
ListingGivesTables =
    (s : State) (lib : ℕ) (b : Bundle) → IsJudgeable s lib b → IsTrue (is_accepted (settled s) (creds_of s lib) b)
    → RowsFollow (listing (case_in s lib b)) (settled s) (next (settled s) b)
    × OwnersFollow (listing (case_in s lib b)) (settled s) (next (settled s) b)

-- the rows of written and held files and of recorded children of written ones are all that I1, I2, I4 and the listing
-- look at
abbrev pub CopiedRowsSuffice : Type 0
CopiedRowsSuffice =
    (s : State) (lib : ℕ) (b : Bundle) → IsJudgeable s lib b
    → let c = case_in s lib b in
    (meets_grammar (with_copied c) ≡ meets_grammar c)
    × (meets_owning (with_copied c) ≡ meets_owning c)
    × (meets_rights (with_copied c) ≡ meets_rights c)
    × (listing (with_copied c) ≡ listing c)
