-- A bundle in the words of its leases, and what of it has its place.
use Rattle.trio_commit.proofs.Words.{◌∙◌, ◌∷◌, ◌≡◌, Bundle, Checkpointed, IsTrue, IsWithinImage, LentFile, List, Option, OutByNumber, Pages, Sheet, Written, [], all_below, ap, as_before, bundle_in, lease_numbers, length, length-with_pages, map, refl, sheet_numbers, subst, sym, with_pages, written_in, ℕ}
use Rattle.std.proofs.Common.{is_some}
use Rattle.trio_rights.specs.declared.rights.LibNo.{LibNo}
use Rattle.trio_tables.proofs.OutLemmas.{within_some}
use Rattle.trio_lease.specs.Bundles.{Bundled, bundled}
use Rattle.trio_lease.specs.declared.bundle.BundleParts.{BundleParts}
use Rattle.trio_commit.specs.Handed.{AreOutTo, written_numbers}
use Rattle.trio_commit.proofs.Bringing.{numbers_before}
use Rattle.trio_commit.proofs.Cells.{below_from}

-- the numbers of the written files, by the bundle and by its leases
pub lease_numbers-written : (files : List LentFile) → map (λ (w : Written). w.ino) (map (λ (f : LentFile). written_in f.stands) files) ≡ lease_numbers files
lease_numbers-written [] = refl
lease_numbers-written (f ∷ files) = ap (λ ns. f.stands.ino ∷ ns) (lease_numbers-written files)

-- the same by leases that have the bodies of before
pub numbers_are : (parts : BundleParts) (b : Bundled) (cs : List (Option Checkpointed)) → bundled parts ≡ b → lease_numbers (map (as_before cs) parts.writes.items) ≡ written_numbers (bundle_in b)
numbers_are parts b cs is =
    numbers_before cs parts.writes.items
    ∙ sym (lease_numbers-written parts.writes.items)
    ∙ ap (λ (b : Bundled). written_numbers (bundle_in b)) is

-- what is out to a library has its place
pub out_within : (outs : OutByNumber) (lib : LibNo) (b : Bundle) → AreOutTo outs lib b → IsWithinImage outs b
out_within outs lib b out = record {
  pages = below_from (length outs.pages) (sheet_numbers b.pages) (λ n i. within_some outs.pages n (ap is_some (out.pages n i)));
  numbers = below_from (length outs.numbers) b.numbers (λ n i. within_some outs.numbers n (ap is_some (out.numbers n i)));
}

-- pages that are put leave the places as they are
pub still_within : (home now : Pages) (sheets : List Sheet) (numbers : List ℕ) → now ≡ record home { pages = with_pages sheets home.pages } → IsTrue (all_below (length home.pages) numbers) → IsTrue (all_below (length now.pages) numbers)
still_within home now sheets numbers is below =
    let n : length now.pages ≡ length home.pages = ap (λ (h : Pages). length h.pages) is ∙ length-with_pages sheets home.pages in
    subst (λ k. IsTrue (all_below k numbers)) (sym n) below
