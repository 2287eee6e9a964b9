-- What is found by number. Cited by private functions alone.
use Rattle.std.specs.Prelude.{ℕ, ◌≡◌, ◌==◌, ◌<◌, ◌^◌, ◌&&◌, Bool, true, List, ◌++◌, length, map, Option, None, Some, is_some, slice_index_or}
use Rattle.std.specs.List.{find, list_any}
use Rattle.std.specs.List.Sorted.{IsNonDecreasing}
use Rattle.std.specs.Option.{option_and_then}
use Rattle.trio_lists.specs.Lists.{In, is_among}
use Rattle.trio_layout.specs.Listing.{Listing, ListedEntry}
use Rattle.trio_lease.specs.Shown.{LentFile}
use Rattle.trio_case.specs.Cases.{CaseShown, case_in}
use Rattle.trio_case.specs.Indexed.{IsIndexOf}
use Rattle.trio_case.specs.Order.{place_of}
use Rattle.trio_nodes.specs.Handed.{Handed}
use Rattle.trio_nodes.specs.declared.entry.HandedPage.{HandedPage}
use Rattle.trio_state.specs.Listed.{Notes, is_marked}
use Rattle.trio_rights.specs.Bundle.{bundle_pages}
use Rattle.trio_lease.specs.Views.{bundle_in}
use Rattle.trio_entries.specs.inner.Slots.{IsReadable}
use Rattle.trio_entries.specs.declared.finder.Finder.{Finder}

-- the numbers of the written files of a case, and those that were handed in
abbrev pub own_numbers : CaseShown → List ℕ
own_numbers k = map (λ f. f.stands.ino) k.bundle.writes ++ map (λ n. n.no) k.bundle.inodes

-- the finder has looked at the pages of this case
pub record IsFinderOf (k : CaseShown) (f : Finder) : Type 0 where
  pub pages : IsIndexOf k f.pages
  pub few : length (bundle_pages (bundle_in k.bundle)) < 2 ^ 32

-- the place that is noted of a number, in the order of the case's own
abbrev pub judged_place : CaseShown → List (Option ℕ) → ℕ → Option ℕ
judged_place k judged n = option_and_then (λ at. slice_index_or judged at None) (place_of n (own_numbers k))

-- the finder knows where the file of each number stands in this listing of the case
abbrev pub IsJudgedBy : CaseShown → Listing → Finder → Type 0
IsJudgedBy k l f = (n : ℕ) → judged_place k f.judged.items n ≡ place_of n (map (λ f. f.ino) l.files)

-- a page of this number is marked
abbrev pub has_mark : ℕ → List HandedPage → Bool
has_mark n pages = list_any (λ p. p.no == n && p.touched) pages

-- the finder knows which blocks are marked of a bundle that was handed in so
pub record IsMarkedBy (h : Handed) (f : Finder) : Type 0 where
  pub marked : (n : ℕ) → is_among n f.marked.items ≡ is_marked h n
  pub rising : IsNonDecreasing f.marked.items

-- each entry can be read, and is the first that names its number
abbrev pub IsToldBy : CaseShown → Listing → Type 0
IsToldBy k l =
    (e : ListedEntry) → In e l.entries → IsReadable (case_in k) e × (find (λ x. x.ino == e.ino) l.entries ≡ Some e)

-- something is noted of each written file
abbrev pub AreWrittenNoted : CaseShown → Notes → Type 0
AreWrittenNoted k notes =
    (f : LentFile) → In f k.bundle.writes → is_some (slice_index_or notes f.stands.ino None) ≡ true
