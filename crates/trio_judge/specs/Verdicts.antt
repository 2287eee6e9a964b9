-- What a verdict says of a case.
use Rattle.std.specs.Prelude.{◌≡◌, ◌*◌, ◌≤◌, ◌⊎◌, ⊤, Bool, true, false, ◌&&◌, length, IsTrue, MatchOption}
use Rattle.trio_rights.specs.Bundle.{bundle_pages}
use Rattle.trio_layout.specs.declared.refusal.Rule.TheVariants.{Grammar, Owning, Rights}
use Rattle.trio_layout.specs.Rule.{rule_number}
use Rattle.trio_layout.specs.Core.{Location}
use Rattle.trio_layout.specs.Case.{Case}
use Rattle.trio_layout.specs.Listing.{listing}
use Rattle.trio_layout.specs.Rules.{meets_grammar, meets_owning, meets_rights}
use Rattle.trio_layout.specs.Broken.{BreaksGrammar, BreaksOwning, BreaksRights}
use Rattle.trio_judge.specs.declared.verdict.Verdict.{Verdict}
use Rattle.trio_judge.specs.declared.verdict.Verdict.TheVariants.{Sound, Broken}

-- the bundle meets I1, I2 and I4
abbrev pub meets_three : Case → Bool
meets_three c = meets_grammar c && meets_owning c && meets_rights c

-- the verdict is that it does
abbrev pub is_sound : Verdict → Bool
is_sound (Sound l) = true
is_sound (Broken rule ino page slot l) = false

-- the rule is the lowest of the three that fails, and fails at this file and place
abbrev pub IsLowest : Case → Verdict → Type 0
IsLowest c (Sound l) = ⊤
IsLowest c (Broken rule ino page slot l) =
    let place : Location = record { page = page; slot = slot } in
    ((rule ≡ rule_number Grammar) × BreaksGrammar c ino place)
    ⊎ (((rule ≡ rule_number Owning) × IsTrue (meets_grammar c) × BreaksOwning c ino place)
    ⊎ ((rule ≡ rule_number Rights) × IsTrue (meets_grammar c) × IsTrue (meets_owning c) × BreaksRights c ino place))

-- a verdict that the three are met, or that I4 alone of them fails, has the listing of the case, and no other has one
abbrev pub HasListing : Case → Verdict → Type 0
HasListing c (Sound l) = l.listing ≡ listing c
HasListing c (Broken rule ino page slot l) = MatchOption l (rule ≡ rule_number Rights → ⊥) (λ x. (rule ≡ rule_number Rights) × (x.listing ≡ listing c))

-- the listing of a verdict, if it has one, has at most 16 entries for each page of the bundle
abbrev pub HasFewEntries : Case → Verdict → Type 0
HasFewEntries c (Sound l) = length l.listing.entries ≤ 16 * length (bundle_pages c.bundle)
HasFewEntries c (Broken rule ino page slot l) =
    MatchOption l ⊤ (λ x. length x.listing.entries ≤ 16 * length (bundle_pages c.bundle))
