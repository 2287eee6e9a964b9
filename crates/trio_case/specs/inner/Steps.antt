-- What the steps of reading a file answer. Cited by private functions alone.
use Rattle.std.specs.Prelude.{ℕ, ◌≡◌, Bool, List, ◌++◌, length, take, Option, None, Some, slice_get, Result, Ok, Err}
use Rattle.trio_layout.specs.declared.range.CoreRange.{CoreRange}
use Rattle.trio_layout.specs.Index.{index_of}
use Rattle.trio_layout.specs.Core.{page_of, Location}
use Rattle.trio_layout.specs.Within.{entries_where}
use Rattle.trio_layout.specs.Case.{bundle_core}
use Rattle.trio_case.specs.Cases.{CaseShown, case_in}
use Rattle.trio_case.specs.Order.{place_of}
use Rattle.trio_case.specs.Rooms.{entries_kept, SaysIndex}
use Rattle.trio_case.specs.declared.kept.KeptPages.{KeptPages}
use Rattle.trio_case.specs.declared.kept.KeptPage.{KeptPage}
use Rattle.trio_case.specs.declared.kept.KeptIndex.{KeptIndex}
use Rattle.trio_case.specs.declared.chain.IndexRead.{IndexRead}
use Rattle.trio_case.specs.declared.chain.IndexRead.TheVariants.{Absent, Bad, Next}

-- a list begins with another
abbrev pub IsFront : {X : Type 0} → List X → List X → Type 0
IsFront front all = take (length front) all ≡ front

-- the page of this number stands at this place among the kept pages
pub record StandsAt (kept : KeptPages) (no : ℕ) (at : ℕ) (p : KeptPage) : Type 0 where
  pub listed : place_of no kept.order.items ≡ Some at
  pub page : slice_get kept.pages.items at ≡ Some p

-- the bytes are outside the grammar as an index page with so many numbers and this place in the chain
abbrev pub IsBadIndex : Option (List ℕ) → ℕ → Bool → CoreRange → Type 0
IsBadIndex page used last range = (bytes : List ℕ) × (page ≡ Some bytes) × (index_of used last range bytes ≡ None)

-- an index page of which this is kept
pub record IsIndexKept (page : Option (List ℕ)) (range : CoreRange) (numbers : List ℕ) (i : KeptIndex) : Type 0 where
  pub bytes : List ℕ
  pub here : page ≡ Some bytes
  pub says : SaysIndex range numbers bytes i

-- an index page as it was just read, with its numbers at the end of those that are kept
pub record IsIndexRead (page : Option (List ℕ)) (used : ℕ) (last : Bool) (range : CoreRange) (numbers : List ℕ) (i : KeptIndex) : Type 0 where
  pub bytes : List ℕ
  pub here : page ≡ Some bytes
  pub used_is : i.used ≡ used
  pub last_is : i.last ≡ last
  pub says : SaysIndex range numbers bytes i

-- An index page was read for so many numbers and this place in the chain: it is absent, outside the grammar, or in it,
-- and then its numbers were appended.
abbrev pub IndexAnswer : Option (List ℕ) → ℕ → Bool → CoreRange → IndexRead → List ℕ → List ℕ → Type 0
IndexAnswer page used last range Absent old new = (page ≡ None) × (new ≡ old)
IndexAnswer page used last range Bad old new = IsBadIndex page used last range
IndexAnswer page used last range (Next next) old new =
    (bytes : List ℕ) × (numbers : List ℕ) × (page ≡ Some bytes)
    × (index_of used last range bytes ≡ Some (record { numbers = numbers; next = next })) × (new ≡ old ++ numbers)

-- what is kept of this block is all that it lists: its entries, or nothing where it is none of the bundle's
abbrev pub IsDone : CaseShown → KeptPages → ℕ → Type 0
IsDone k kept page = entries_where k.inodes page (page_of (bundle_core (case_in k)) page) ≡ Ok (entries_kept kept page)

-- a block was read: what it lists is kept, or it has this fault
abbrev pub BlockAnswer : {X : Type 0} → CaseShown → KeptPages → ℕ → Result X Location → Type 0
BlockAnswer k kept page (Ok t) = IsDone k kept page
BlockAnswer k kept page (Err place) =
    entries_where k.inodes page (page_of (bundle_core (case_in k)) page) ≡ Err place
