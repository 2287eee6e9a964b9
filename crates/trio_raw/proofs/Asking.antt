-- What comes of an answer of the desk, by cases of it.
use Rattle.trio_raw.proofs.Words.{◌++◌, ◌+◌, ◌<◌, ◌∙◌, ◌∷◌, ◌≡◌, ◌≤◌, FreshParts, Given, Has, HasLeases, In, In-right, InoParts, IsClosed, LibNo, LibOut, List, NoReleaseMemory, None, NotJudged, Ok, OnList, OutAlike, Parcel, Shown, Sizes, Some, TellsClosed, [], and_parts, ap, are_new, are_new-fewer, arith, eqb, eqb-true, false, find-In, has_read, inl, ino_numbers, inr, is_among, keeps_allotted, leb, length, ltb, ltb-true, not, page_numbers, read_on, refl, subst, sym, true, with_allotted, with_given, with_reads, ℕ}
use Rattle.std.specs.Prelude.{is_some}
use Rattle.std.proofs.lemmas.List.{length-map}
use Rattle.std.specs.List.{filter, flat_map}
use Rattle.trio_nodes.specs.declared.answers.ReleaseFault.{ReleaseFault}
use Rattle.trio_nodes.specs.declared.answers.ReleaseFault.TheVariants.{NotClosed as NotClosedParcel}
use Rattle.trio_nodes.specs.declared.entry.AllotAnswer.{AllotAnswer}
use Rattle.trio_nodes.specs.declared.entry.AllotAnswer.TheVariants.{Given as GivenAnswer}
use Rattle.trio_lease.specs.declared.fresh.Allotted.{Allotted}
use Rattle.trio_desk.specs.Contents.{AreWithinLimits}
use Rattle.trio_desk.specs.Out.{AreRising, HasWanted, IsFreshAllotment, numbers_of_file, pages_out, without_reads}
use Rattle.trio_raw.specs.Has.{without_read}
use Rattle.trio_raw.specs.Asked.{AfterAllot}
use Rattle.trio_lease.proofs.Numbered.{found_among}
use Rattle.trio_raw.proofs.Places.{without-same}
use Rattle.trio_raw.proofs.Standing.{stands-allotted}

-- where no lease is given back, all that is out stays so
pub mode_alike : (out out' : LibOut) (back : List Shown) → back ≡ [] → OutAlike out' (without_reads out back) → OutAlike out' out
mode_alike out out' back none h =
    let g = subst (λ (l : List Shown). OutAlike out' (without_reads out l)) none h in
    record { writes = g.writes; reads = g.reads ∙ all_stay out.reads; holds = g.holds; pages = g.pages; numbers = g.numbers }
  where
    all_stay : (rs : List Shown) → filter (λ (r : Shown). not (is_among r.ino [])) rs ≡ rs
    all_stay [] = refl
    all_stay (r ∷ rs) = ap (λ l. r ∷ l) (all_stay rs)

-- a closed parcel comes back for want of memory alone
pub only_memory : (out : LibOut) (b : Parcel) (fault : ReleaseFault) → IsClosed out b → TellsClosed out b (NotJudged fault) → fault ≡ NoReleaseMemory
only_memory out b (NotClosedParcel n) closed parted = absurd (parted.parted (closed parted.hold parted.is_out))
only_memory out b NoReleaseMemory closed parted = refl

-- ---- allotments

-- new to all pages that are out, so to the allotted ones
new_pages : (out : LibOut) (ns : List ℕ) → are_new (pages_out out) ns ≡ true → are_new out.pages ns ≡ true
new_pages out ns new = are_new-fewer out.pages (pages_out out) ns (λ n i. In-right n (flat_map numbers_of_file out.writes) out.pages i) new

-- what is allotted is zero pages and numbers
given_is : (lib : LibNo) (sizes : Sizes) (out : LibOut) (has : Has) (given : Allotted) → IsFreshAllotment lib sizes out given → with_given has given ≡ keeps_allotted lib has (page_numbers given.pages.items) (ino_numbers given.inodes.items)
given_is lib sizes out has given fresh =
    same (ap (λ l. has.pages ++ l) fresh.pages_are) (ap (λ l. has.inodes ++ l) fresh.inodes_are)
  where
    same : {p p' : List FreshParts} {n n' : List InoParts} → p ≡ p' → n ≡ n' → ◌≡◌ {A = Has} (record has { pages = p; inodes = n }) (record has { pages = p'; inodes = n' })
    same x y = rw (x, y) refl

pub allot_after : {E : Type 0} (lib : LibNo) (sizes : Sizes) (out : LibOut) (has has' : Has) (given : Allotted) (answer : AllotAnswer) → IsFreshAllotment lib sizes out given → answer ≡ GivenAnswer (page_numbers given.pages.items) (ino_numbers given.inodes.items) → has' ≡ with_given has given → AfterAllot {E = E} lib has (Ok answer) has' (Given (page_numbers given.pages.items) (ino_numbers given.inodes.items))
allot_after lib sizes out has has' given answer fresh is added = (ap Ok is, added ∙ given_is lib sizes out has given fresh)

pub allot_stands : (lib : LibNo) (sizes : Sizes) (out : LibOut) (has has' : Has) (given : Allotted) → IsFreshAllotment lib sizes out given → has' ≡ with_given has given → OnList out has → OnList (with_allotted out (page_numbers given.pages.items) (ino_numbers given.inodes.items)) has'
allot_stands lib sizes out has has' given fresh added h =
    subst (OnList (with_allotted out (page_numbers given.pages.items) (ino_numbers given.inodes.items))) (sym (added ∙ given_is lib sizes out has given fresh))
    (stands-allotted lib out has (page_numbers given.pages.items) (ino_numbers given.inodes.items) h (new_pages out (page_numbers given.pages.items) fresh.pages) fresh.numbers)

pub allot_leases : (out : LibOut) (has has' : Has) (given : Allotted) → has' ≡ with_given has given → HasLeases out has → HasLeases (with_allotted out (page_numbers given.pages.items) (ino_numbers given.inodes.items)) has'
allot_leases out has has' given added l =
    subst (HasLeases (with_allotted out (page_numbers given.pages.items) (ino_numbers given.inodes.items))) (sym added) (record { writes = l.writes; holds = l.holds })

-- numbers that rise between two bounds are no more than there are between them
rising_count : (ns : List ℕ) (low high : ℕ) → low ≤ high → AreRising ns → ((n : ℕ) → In n ns → (low ≤ n) × (n < high)) → low + length ns ≤ high
rising_count [] low high fits rise within = omega (arith, fits)
rising_count (n ∷ ns) low high fits rise within =
    let here = within n (inl refl) in
    let from = here.0 in
    let to = here.1 in
    let more =
    rising_count ns (n + 1) high (omega (arith, to)) rise.1
    (λ m i. (let above = rise.0 m i in let below = (within m (inr i)).1 in (omega (arith, above), below)))
    in
    omega (arith, more, from)

-- no allotment has more pages than an image, nor more inode numbers
pub few_pages : (lib : LibNo) (sizes : Sizes) (out : LibOut) (given : Allotted) (pages numbers : ℕ) → AreWithinLimits sizes → IsFreshAllotment lib sizes out given → HasWanted pages numbers given → (length given.pages.items ≤ pages) × (length given.pages.items ≤ 8192)
few_pages lib sizes out given pages numbers limits fresh wanted =
    let below : (n : ℕ) → In n (page_numbers given.pages.items) → n < sizes.range.end = λ n i. ltb-true n sizes.range.end (and_parts (leb sizes.range.first n) (ltb n sizes.range.end) (fresh.core n i)).1 in
    let counted = rising_count (page_numbers given.pages.items) 0 sizes.range.end (omega arith) wanted.pages_rise (λ n i. (let b = below n i in (omega arith, b))) in
    let many = length-map given.pages.items (λ (p : FreshParts). p.no.0) in
    let asked = wanted.pages in
    let most = limits.pages in
    (omega (arith, asked), omega (arith, counted, many, most))

pub few_numbers : (lib : LibNo) (sizes : Sizes) (out : LibOut) (given : Allotted) (pages numbers : ℕ) → AreWithinLimits sizes → IsFreshAllotment lib sizes out given → HasWanted pages numbers given → (length given.inodes.items ≤ numbers) × (length given.inodes.items ≤ 16384)
few_numbers lib sizes out given pages numbers limits fresh wanted =
    let counted = rising_count (ino_numbers given.inodes.items) 1 (sizes.inodes + 1) (omega arith) wanted.numbers_rise
    (λ n i. (let from = (fresh.range n i).0 in let to = (fresh.range n i).1 in (omega (arith, from), omega (arith, to)))) in
    let many = length-map given.inodes.items (λ (n : InoParts). n.no) in
    let asked = wanted.numbers in
    let most = limits.inodes in
    (omega (arith, asked), omega (arith, counted, many, most))

-- ---- read leases

-- where there is no read lease on the file, nothing is without it
pub back_none : (has : Has) (ino : ℕ) → read_on has ino ≡ None → without_read has ino ≡ has
back_none has ino none = ap (with_reads has) (without-same (λ (r : Shown). r.ino) has.reads ino none)

pub read_none : (has : Has) (ino : ℕ) → read_on has ino ≡ None → has_read has ino ≡ false
read_none has ino none = sym (found_among (λ (r : Shown). r.ino) has.reads ino) ∙ ap is_some none

pub read_some : (has : Has) (ino : ℕ) (lease : Shown) → read_on has ino ≡ Some lease → has_read has ino ≡ true
read_some has ino lease some = sym (found_among (λ (r : Shown). r.ino) has.reads ino) ∙ ap is_some some

-- the lease is had, and is on the file
pub read_there : (has : Has) (ino : ℕ) (lease : Shown) → read_on has ino ≡ Some lease → In lease has.reads × (lease.ino ≡ ino)
read_there has ino lease some =
    let r = find-In (λ (r : Shown). eqb r.ino ino) has.reads lease some in
    (r.0, eqb-true lease.ino ino r.1)
