-- Laws for the end of a release: what is put where, and what is settled then.
use Rattle.std.specs.Prelude.{◌≡◌, ◌≢◌, ◌⊎◌, ◌<◌, ℕ, List, [], ◌++◌, map, Option, Some, None, Ok, length, slice_get, IsTrue}
use Rattle.std.specs.List.{flat_map}
use Rattle.trio_rights.specs.declared.kind.Kind.TheVariants.{Directory}
use Rattle.trio_rights.specs.Row.{Row}
use Rattle.trio_nodes.specs.declared.grant.GrantKind.TheVariants.{Write}
use Rattle.trio_lists.specs.Lists.{In, are_new}
use Rattle.trio_layout.specs.Range.{is_core}
use Rattle.trio_layout.specs.Core.{page_of}
use Rattle.trio_layout.specs.Chain.{Chain}
use Rattle.trio_rights.specs.Sheets.{Sheet, sheet_numbers, with_pages}
use Rattle.trio_layout.specs.Image.{row_at, settled_body}
use Rattle.trio_state.specs.State.{OpenGrant, State, settled, creds_of}
use Rattle.trio_layout.specs.Pages.{settled_chain}
use Rattle.trio_rights.specs.Bundle.{Bundle, bundle_sheets}
use Rattle.trio_layout.specs.Accept.{is_accepted, next}
use Rattle.trio_state.specs.Bundles.{grants_after, is_in_bundle, lent_part, refused_image, uncovered}
use Rattle.trio_state.specs.Kept.{Kept}
use Rattle.trio_state.specs.Given.{GivenTo}

-- the sheets of the checkpoints of grants
abbrev pub checkpoints_of : List OpenGrant → List Sheet
checkpoints_of grants = flat_map (λ g. g.checkpoint) grants

-- what stands at a place afterwards: nothing where a page is absent before, else this
abbrev pub unless_absent : Option (Option (List ℕ)) → Option (Option (List ℕ)) → Option (Option (List ℕ))
unless_absent None after = after
unless_absent (Some None) after = Some None
unless_absent (Some (Some bytes)) after = after

-- How an accepted image is spread over home and the checkpoints of the grants that stay open: the pages that are at home once the
-- bundle's are there get what the image has, each covered page too, and all others stay absent.
pub record IsSpread (s : State) (b : Bundle) (after pages : List (Option (List ℕ))) (grants : List OpenGrant) : Type 0 where
  pub count : length pages ≡ length after
  pub home : (p : ℕ) → slice_get pages p ≡ unless_absent (slice_get (with_pages (bundle_sheets b) s.home.core.pages) p) (slice_get after p)
  pub covered : (g : OpenGrant) (x : Sheet) → In g grants → In x g.checkpoint → slice_get after x.page ≡ Some (Some x.bytes)

-- spread so, just that image is settled
abbrev pub AcceptedSettles : Type 0
AcceptedSettles =
    (s : State) (lib : ℕ) (b : Bundle) (pages : List (Option (List ℕ))) (grants : List OpenGrant)
    → Kept s → GivenTo s lib b → IsTrue (is_accepted (settled s) (creds_of s lib) b)
    → map lent_part grants ≡ map lent_part (grants_after s lib b)
    → IsSpread s b (next (settled s) b).core.pages pages grants
    → with_pages (checkpoints_of grants) pages ≡ (next (settled s) b).core.pages

-- A refusal: the checkpoints of the bundle's grants, in any order and number, are put back at home, then the uncovered blocks and
-- the allotted pages as handed in. With the checkpoints of the grants that stay open the image of a refusal is settled.
abbrev pub RefusedSettles : Type 0
RefusedSettles =
    (s : State) (lib : ℕ) (b : Bundle) (sheets : List Sheet) → Kept s → GivenTo s lib b
    → ((x : Sheet) → In x sheets → (g : OpenGrant) × In g s.open_grants × IsTrue (is_in_bundle lib b g) × In x g.checkpoint)
    → ((g : OpenGrant) (x : Sheet) → In g s.open_grants → IsTrue (is_in_bundle lib b g) → In x g.checkpoint → In x sheets)
    → with_pages (checkpoints_of (grants_after s lib b)) (with_pages (uncovered (settled s) b ++ b.pages) (with_pages sheets s.home.core.pages))
    ≡ (refused_image (settled s) b).core.pages

-- What a file that is to be lent has is at home: a live file on which no write grant is open.
abbrev pub LendableIsHome : Type 0
LendableIsHome =
    (s : State) (ino : ℕ) (r : Row) → Kept s → row_at s.home ino ≡ Some r
    → ((g : OpenGrant) → In g s.open_grants → g.kind ≡ Write → g.ino ≢ ino)
    → (c : Chain) × (settled_chain (settled s) r.kind ino ≡ Ok c)
    × ((p : ℕ) → In p (c.index ++ c.blocks) → (bytes : List ℕ) × (slice_get s.home.core.pages p ≡ Some (Some bytes)) × (page_of (settled s).core p ≡ Some bytes) × IsTrue (is_core s.home.core.range p))
    × IsTrue (are_new [] (c.index ++ c.blocks))
    × (length (settled_body (settled s) ino) ≡ 64)

-- The body of a live file but the root stands, in the settled image, on a core page of its parent, which is a directory: at home
-- where no checkpoint has the page, or else on a page of the checkpoint of the write grant that is open on the parent.
abbrev pub BodyStands : Type 0
BodyStands =
    (s : State) (ino : ℕ) (r : Row) → Kept s → row_at s.home ino ≡ Some r → ino ≢ 1
    → (r.slot < 16)
    × ((bytes : List ℕ) × (page_of (settled s).core r.page ≡ Some bytes))
    × (((In r.page (sheet_numbers (checkpoints_of s.open_grants)) → ⊥) × (slice_get s.home.core.pages r.page ≡ Some (page_of (settled s).core r.page)))
    ⊎ ((g : OpenGrant) × In g s.open_grants × (g.kind ≡ Write) × (g.ino ≡ r.parent) × In r.page (sheet_numbers g.blocks) × (g.of ≡ Directory)
    × In r.page (sheet_numbers g.checkpoint)
    × ((x : Sheet) → In x g.checkpoint → x.page ≡ r.page → page_of (settled s).core r.page ≡ Some x.bytes)))
