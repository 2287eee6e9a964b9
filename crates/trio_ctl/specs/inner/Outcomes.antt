-- What comes of a bundle. Cited by private functions alone.
use Rattle.std.specs.Prelude.{◌≡◌, ◌≤◌, ◌*◌, ⊤, length, IsTrue}
use Rattle.trio_rights.specs.Bundle.{Bundle, bundle_pages}
use Rattle.trio_layout.specs.Broken.{Breaks}
use Rattle.trio_layout.specs.Case.{Case}
use Rattle.trio_layout.specs.Listing.{listing}
use Rattle.trio_layout.specs.Rules.{meets_rules}
use Rattle.trio_nodes.specs.declared.answers.ReleaseAnswer.{ReleaseAnswer}
use Rattle.trio_nodes.specs.declared.answers.ReleaseAnswer.TheVariants.{Accepted as AcceptedBundle, Refused as RefusedBundle}
use Rattle.trio_ctl.specs.declared.outcome.Outcome.{Outcome}
use Rattle.trio_ctl.specs.declared.outcome.Outcome.TheVariants.{Accepted, Refused}

-- what is listed of an accepted bundle is no more than its pages can name
abbrev pub HasFew : Bundle → Outcome → Type 0
HasFew b (Accepted l) = length l.listing.entries ≤ 16 * length (bundle_pages b)
HasFew b (Refused rule ino page slot) = ⊤

-- the verdict of an outcome
abbrev pub verdict_on : Outcome → ReleaseAnswer
verdict_on (Accepted l) = AcceptedBundle
verdict_on (Refused rule ino page slot) = RefusedBundle rule ino page slot

-- the four rules hold, and this is the listing; or this rule is the lowest that fails, and does so at this file and place
abbrev pub IsOutcome : Case → Outcome → Type 0
IsOutcome c (Accepted l) = IsTrue (meets_rules c) × (l.listing ≡ listing c)
IsOutcome c (Refused rule ino page slot) = Breaks c rule ino (record { page = page; slot = slot })
