-- Pages that are brought home one list after another.
use Rattle.trio_commit.proofs.Words.{if◌then◌else◌, ◌++◌, ◌<◌, ◌∙◌, ◌∷◌, ◌≡◌, All, Bool, Checkpointed, IsTrue, IsWithinImage, LentFile, LentPage, List, Option, OutByNumber, Pages, Sheet, Written, [], all_below, ap, as_before, below_at, below_parts, bundle_in, bundle_sheets, false, file_sheets, flat_map, fresh_sheet, lease_numbers, length, length-with_all, length-with_pages, lent_sheets, map, map-append, page_numbers, refl, reverse, sheet_numbers, subst, sym, true, uncovered_sheets, with_all, with_pages, written_in, written_pages, ℕ}
use Rattle.std.proofs.lemmas.List.Elements.{All-from_get_or}
use Rattle.std.proofs.lemmas.List.{reverse-append}
use Rattle.std.proofs.lemmas.List.Folds.{flat_map-map}
use Rattle.trio_rights.specs.declared.kind.Kind.{Kind}
use Rattle.trio_rights.specs.ByKind.{covers_blocks}
use Rattle.trio_layout.specs.Body.{guard_in}
use Rattle.trio_lease.specs.Bundles.{Bundled, bundled}
use Rattle.trio_lease.specs.declared.bundle.BundleParts.{BundleParts}
use Rattle.trio_allot.specs.Out.{inode_numbers, outs_after}
use Rattle.trio_state.specs.Bundles.{uncovered_of}
use Rattle.trio_lease.specs.Views.{lent_sheet}
use Rattle.trio_commit.specs.Handed.{body_before}
use Rattle.trio_checkpoint.proofs.Restoring.{below_joined, with_pages-append}
use Rattle.trio_commit.proofs.Cells.{with_all-append}
use Rattle.trio_commit.proofs.Outs.{fresh_numbers}

-- With the pages that are left put too, home is as the start with all of them put.
pub record Left (home start : Pages) (rest all : List Sheet) : Type 0 where
  pub pages : with_pages rest home.pages ≡ with_pages all start.pages
  pub below : IsTrue (all_below (length home.pages) (sheet_numbers rest))
  pub looked : home.looked ≡ start.looked

pub front_within : (home start : Pages) (rest all xs ys : List Sheet) → Left home start rest all → rest ≡ xs ++ ys → IsTrue (all_below (length home.pages) (sheet_numbers xs))
front_within home start rest all xs ys left parts =
    (below_parts (length home.pages) xs ys (subst (λ zs. IsTrue (all_below (length home.pages) (sheet_numbers zs))) parts left.below)).0

pub less_left : (home start now : Pages) (rest all xs ys : List Sheet) → Left home start rest all → rest ≡ xs ++ ys → now ≡ record home { pages = with_pages xs home.pages } → Left now start ys all
less_left home start now rest all xs ys left parts put =
    let n : length now.pages ≡ length home.pages = ap (λ (h : Pages). length h.pages) put ∙ length-with_pages xs home.pages in
    record {
      pages = ap (λ (h : Pages). with_pages ys h.pages) put
          ∙ sym (with_pages-append xs ys home.pages)
          ∙ ap (λ zs. with_pages zs home.pages) (sym parts)
          ∙ left.pages;
      below = subst (λ k. IsTrue (all_below k (sheet_numbers ys))) (sym n)
          (below_parts (length home.pages) xs ys (subst (λ zs. IsTrue (all_below (length home.pages) (sheet_numbers zs))) parts left.below)).1;
      looked = ap (λ (h : Pages). h.looked) put ∙ left.looked;
    }

-- pages of two lists that are nobody's, one list after the other
pub disowned_both : (owners mid after : List ℕ) (xs ys : List LentPage) → mid ≡ with_all 0 (sheet_numbers (lent_sheets xs)) owners → after ≡ with_all 0 (sheet_numbers (lent_sheets ys)) mid
    → after ≡ with_all 0 (sheet_numbers (lent_sheets xs ++ lent_sheets ys)) owners
disowned_both owners mid after xs ys first second =
    second
    ∙ ap (with_all 0 (sheet_numbers (lent_sheets ys))) first
    ∙ sym (with_all-append 0 (sheet_numbers (lent_sheets xs)) (sheet_numbers (lent_sheets ys)) owners)
    ∙ ap (λ ns. with_all 0 ns owners) (sym (map-append (λ (x : Sheet). x.page) (lent_sheets xs) (lent_sheets ys)))

-- The same of home and of the owners: with the pages that are left put, and nobody's, both are as with all of them.
pub record LeftBoth (home start : Pages) (owners first : List ℕ) (rest all : List Sheet) : Type 0 where
  pub left : Left home start rest all
  pub disowned : with_all 0 (sheet_numbers rest) owners ≡ with_all 0 (sheet_numbers all) first
  pub table : length owners ≡ length home.pages

pub less_both : (home start now : Pages) (owners first after : List ℕ) (rest all xs ys : List Sheet) → LeftBoth home start owners first rest all → rest ≡ xs ++ ys
    → now ≡ record home { pages = with_pages xs home.pages } → after ≡ with_all 0 (sheet_numbers xs) owners → LeftBoth now start after first ys all
less_both home start now owners first after rest all xs ys left parts put freed = record {
  left = less_left home start now rest all xs ys left.left parts put;
  disowned =
      ap (with_all 0 (sheet_numbers ys)) freed
      ∙ sym (with_all-append 0 (sheet_numbers xs) (sheet_numbers ys) owners)
      ∙ ap (λ ns. with_all 0 ns owners) (sym (map-append (λ (x : Sheet). x.page) xs ys) ∙ ap sheet_numbers (sym parts))
      ∙ left.disowned;
  table =
      ap length freed ∙ length-with_all 0 (sheet_numbers xs) owners ∙ left.table
      ∙ sym (ap (λ (h : Pages). length h.pages) put ∙ length-with_pages xs home.pages);
}

-- the last of a list stands at the front of the reversed one
pub last_first : {X Y : Type 0} (f : X → List Y) (items rest : List X) (x : X) → items ≡ rest ++ x ∷ [] → flat_map f (reverse items) ≡ f x ++ flat_map f (reverse rest)
last_first f items rest x is =
    ap (λ xs. flat_map f (reverse xs)) is ∙ ap (flat_map f) (reverse-append rest (x ∷ []))

-- ---- the pages of a bundle

pub sheets_are : (parts : BundleParts) (b : Bundled) → bundled parts ≡ b → bundle_sheets (bundle_in b) ≡ flat_map file_sheets parts.writes.items ++ map fresh_sheet parts.pages.items
sheets_are parts b is =
    ap (λ (b : Bundled). bundle_sheets (bundle_in b)) (sym is)
    ∙ ap (λ ss. ss ++ map fresh_sheet parts.pages.items)
    (flat_map-map (λ (w : Written). w.index ++ w.blocks) (λ (f : LentFile). written_in f.stands) parts.writes.items)

pub pages_are : (parts : BundleParts) (b : Bundled) → bundled parts ≡ b → sheet_numbers (flat_map file_sheets parts.writes.items) ≡ written_pages (bundle_in b)
pages_are parts b is =
    ap sheet_numbers (sym (flat_map-map (λ (w : Written). w.index ++ w.blocks) (λ (f : LentFile). written_in f.stands) parts.writes.items))
    ∙ ap (λ (b : Bundled). written_pages (bundle_in b)) is

-- the blocks that no checkpoint covers, by leases that have the bodies of before
pub uncovered_are : (cs : List (Option Checkpointed)) (files : List LentFile) → flat_map uncovered_sheets (map (as_before cs) files) ≡ flat_map (λ (w : Written). uncovered_of w.kind (guard_in (body_before cs w)) w.blocks) (map (λ (f : LentFile). written_in f.stands) files)
uncovered_are cs [] = refl
uncovered_are cs (f ∷ files) = ap (λ ss. uncovered_sheets (as_before cs f) ++ ss) (uncovered_are cs files)

-- such leases have the pages and the numbers that they had
sheets_before : (cs : List (Option Checkpointed)) (files : List LentFile)
    → flat_map (λ (w : Written). w.index ++ w.blocks) (map (λ (f : LentFile). written_in f.stands) (map (as_before cs) files)) ≡ flat_map (λ (w : Written). w.index ++ w.blocks) (map (λ (f : LentFile). written_in f.stands) files)
sheets_before cs [] = refl
sheets_before cs (f ∷ files) = ap (λ ss. file_sheets f ++ ss) (sheets_before cs files)

pub pages_before : (cs : List (Option Checkpointed)) (files : List LentFile) (pages : List Sheet) (now : List LentFile) → now ≡ map (as_before cs) files
    → sheet_numbers (flat_map (λ (w : Written). w.index ++ w.blocks) (map (λ (f : LentFile). written_in f.stands) now) ++ pages) ≡ sheet_numbers (flat_map (λ (w : Written). w.index ++ w.blocks) (map (λ (f : LentFile). written_in f.stands) files) ++ pages)
pages_before cs files pages now is =
    ap (λ fs. sheet_numbers (flat_map (λ (w : Written). w.index ++ w.blocks) (map (λ (f : LentFile). written_in f.stands) fs) ++ pages)) is
    ∙ ap (λ ss. sheet_numbers (ss ++ pages)) (sheets_before cs files)

pub numbers_before : (cs : List (Option Checkpointed)) (files : List LentFile) → lease_numbers (map (as_before cs) files) ≡ lease_numbers files
numbers_before cs [] = refl
numbers_before cs (f ∷ files) = ap (λ ns. f.stands.ino ∷ ns) (numbers_before cs files)

pub All-below : (n : ℕ) (xs : List ℕ) → IsTrue (all_below n xs) → All (λ m. m < n) xs
All-below n xs below = All-from_get_or (λ m. m < n) xs 0 (λ i lt. below_at n xs i lt below)

-- what of a bundle was allotted, by its parts
pub places_of : (parts : BundleParts) (b : Bundled) (outs : OutByNumber) → bundled parts ≡ b → IsWithinImage outs (bundle_in b)
    → All (λ n. n < length outs.pages) (page_numbers parts.pages.items) × All (λ n. n < length outs.numbers) (inode_numbers parts.inodes.items)
places_of parts b outs is h =
    let h' : IsWithinImage outs (bundle_in (bundled parts)) = subst (λ (x : Bundled). IsWithinImage outs (bundle_in x)) (sym is) h in
    (subst (All (λ n. n < length outs.pages)) (fresh_numbers parts.pages.items) (All-below (length outs.pages) (sheet_numbers (bundle_in (bundled parts)).pages) h'.pages), All-below (length outs.numbers) (inode_numbers parts.inodes.items) h'.numbers)

pub returned_are : (parts : BundleParts) (b : Bundled) (outs : OutByNumber) → bundled parts ≡ b
    → outs_after outs (page_numbers parts.pages.items) (inode_numbers parts.inodes.items) ≡ outs_after outs (sheet_numbers (bundle_in b).pages) (bundle_in b).numbers
returned_are parts b outs is =
    ap (λ ns. outs_after outs ns (inode_numbers parts.inodes.items)) (sym (fresh_numbers parts.pages.items))
    ∙ ap (λ (x : Bundled). outs_after outs (sheet_numbers (bundle_in x).pages) (bundle_in x).numbers) is

file_within : (n : ℕ) (kind : Kind) (guarded : Bool) (index blocks : List Sheet) → IsTrue (all_below n (sheet_numbers (index ++ blocks))) → IsTrue (all_below n (sheet_numbers (uncovered_of kind guarded blocks)))
file_within n kind guarded index blocks below = by (covers_blocks kind guarded)
  where
    by : (t : Bool) → IsTrue (all_below n (sheet_numbers (if t then [] else blocks)))
    by false = (below_parts n index blocks below).1
    by true = refl

uncovered_within : (n : ℕ) (files : List LentFile) → IsTrue (all_below n (sheet_numbers (flat_map file_sheets files))) → IsTrue (all_below n (sheet_numbers (flat_map uncovered_sheets files)))
uncovered_within n [] below = refl
uncovered_within n (f ∷ files) below =
    let parts = below_parts n (file_sheets f) (flat_map file_sheets files) below in
    below_joined n (uncovered_sheets f) (flat_map uncovered_sheets files)
    (file_within n f.stands.kind (guard_in f.stands.body) (map lent_sheet f.stands.index) (map lent_sheet f.stands.blocks) parts.0)
    (uncovered_within n files parts.1)

-- pages of a bundle that no checkpoint covers are within where all of its pages are
pub less_within : (n : ℕ) (files : List LentFile) (allotted : List Sheet) → IsTrue (all_below n (sheet_numbers (flat_map file_sheets files ++ allotted)))
    → IsTrue (all_below n (sheet_numbers (flat_map uncovered_sheets files ++ allotted)))
less_within n files allotted below =
    let parts = below_parts n (flat_map file_sheets files) allotted below in
    below_joined n (flat_map uncovered_sheets files) allotted (uncovered_within n files parts.0) parts.1
