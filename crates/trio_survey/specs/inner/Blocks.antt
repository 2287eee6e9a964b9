-- What is kept of directory blocks. Cited by private functions alone.
use Rattle.std.specs.Prelude.{◌≡◌, ℕ, ◌+◌, ◌-◌, ◌<◌, ◌≤◌, Bool, false, List, [], length, map, take, drop, Option, None, Some, MatchOption, Result, Ok, Err, MatchResult, if◌then◌else◌, slice_get, slice_index_or, ⊤}
use Rattle.std.specs.Option.{option_map_or}
use Rattle.std.specs.Ordering.{nat_cmp}
use Rattle.std.specs.Cmp.Lexicographic.{slice_cmp}
use Rattle.std.specs.BTreeMap.{BTreeMap, get}
use Rattle.trio_lists.specs.Lists.{In}
use Rattle.trio_layout.specs.declared.range.CoreRange.{CoreRange}
use Rattle.trio_layout.specs.Range.{core_count, is_core}
use Rattle.trio_layout.specs.Entries.{Listed, has_name, page_entries}
use Rattle.trio_survey.specs.Seen.{core_with}
use Rattle.trio_survey.specs.declared.blocks.DirEntry.{DirEntry}
use Rattle.trio_survey.specs.declared.blocks.KeptBlocks.{KeptBlocks}
use Rattle.trio_survey.specs.declared.blocks.Span.{Span}
use Rattle.trio_layout.specs.Core.{Location}

-- ---- lists

-- the part of a list that a span names
abbrev pub part : {X : Type 0} → Span → List X → List X
part s xs = take s.len (drop s.from xs)

-- a list begins with another
abbrev pub IsFront : {X : Type 0} → List X → List X → Type 0
IsFront front all = take (length front) all ≡ front

-- ---- names

-- Each name is found by its number, and a number by its name.
pub record AreNumbered (names : List (List ℕ)) (numbers : BTreeMap (List ℕ) ℕ) : Type 0 where
  pub number_of : (i : ℕ) → i < length names → get (slice_cmp nat_cmp) numbers (slice_index_or names i []) ≡ Some i
  pub name_of : (name : List ℕ) (i : ℕ) → get (slice_cmp nat_cmp) numbers name ≡ Some i → slice_get names i ≡ Some name

-- equal names have equal numbers
abbrev pub AreApart : List (List ℕ) → Type 0
AreApart names =
    (i j : ℕ) → i < length names → j < length names → slice_index_or names i [] ≡ slice_index_or names j [] → i ≡ j

-- Equal names have equal numbers, there is a mark for each, and just the names of the entries seen are marked.
pub record MarksNames (names : List (List ℕ)) (marks : List Bool) (seen : List Listed) : Type 0 where
  pub apart : AreApart names
  pub within : length names ≤ length marks
  pub marked : (i : ℕ) → i < length names → slice_index_or marks i false ≡ has_name (slice_index_or names i []) seen

-- ---- entries

-- an entry at its place, by the names of which it has one
abbrev pub entry_seen : List (List ℕ) → DirEntry → Listed
entry_seen names l = record {
  entry = record { ino = l.ino; kind = l.kind; name = slice_index_or names l.name [] };
  page = l.page;
  slot = l.slot;
  body = l.body;
}

-- each entry has one of the names
abbrev pub AreNamed : List (List ℕ) → List DirEntry → Type 0
AreNamed names entries = (l : DirEntry) → In l entries → l.name < length names

-- a part of the entries, each of which has one of the names
pub record IsPart (names : List (List ℕ)) (entries : List DirEntry) (s : Span) : Type 0 where
  pub within : s.from + s.len ≤ length entries
  pub named : AreNamed names (part s entries)

-- ---- blocks

-- what a page says as a directory block; None where it wasn't read as one, or isn't a core page
abbrev pub block_kept : CoreRange → List (Option (Result Span Location)) → ℕ → Option (Result Span Location)
block_kept range read page = if is_core range page then slice_index_or read (page - range.first) None else None

-- the entries of a directory block that was read; a bad one has none
abbrev pub entries_said : List (List ℕ) → List DirEntry → Result Span Location → List Listed
entries_said names entries (Ok s) = map (entry_seen names) (part s entries)
entries_said names entries (Err place) = []

-- the entries that were read on a page as a directory block; none where it wasn't read
abbrev pub entries_kept : CoreRange → KeptBlocks → ℕ → List Listed
entries_kept range kept page =
    option_map_or (entries_said kept.names.names.items kept.entries.items) (block_kept range kept.read.items page) []

-- the names have their numbers
abbrev pub HasNumbers : KeptBlocks → Type 0
HasNumbers kept = AreNumbered kept.names.names.items kept.names.numbers

-- there is a place for each core page, and what is kept of a block is a part of the entries
pub record HasParts (range : CoreRange) (kept : KeptBlocks) : Type 0 where
  pub count : length kept.read.items ≡ core_count range
  pub numbered : HasNumbers kept
  pub each : (place : ℕ) → MatchOption (slice_index_or kept.read.items place None) ⊤
      (λ r. MatchResult r (IsPart kept.names.names.items kept.entries.items) (λ _. ⊤))

-- what is kept of a block is what it lists: its entries, or its first bad slot
abbrev pub SaysBlock : List (Option (List ℕ)) → CoreRange → ℕ → ℕ → List (List ℕ) → List DirEntry → Result Span Location → Type 0
SaysBlock pages range inodes page names entries r =
    MatchResult r (λ s. page_entries (core_with pages range inodes) page ≡ Ok (map (entry_seen names) (part s entries)))
    (λ place. page_entries (core_with pages range inodes) page ≡ Err place)

-- the same of each block that was read
abbrev pub SaysBlocks : List (Option (List ℕ)) → CoreRange → ℕ → KeptBlocks → Type 0
SaysBlocks pages range inodes kept =
    (page : ℕ) → MatchOption (block_kept range kept.read.items page) ⊤ (SaysBlock pages range inodes page kept.names.names.items kept.entries.items)

-- names and entries were appended
pub record GoesOn (old new : KeptBlocks) : Type 0 where
  pub read : new.read.items ≡ old.read.items
  pub numbered : HasNumbers new
  pub names : IsFront old.names.names.items new.names.names.items
  pub entries : IsFront old.entries.items new.entries.items

-- the block was read, and its slots are in the grammar
abbrev pub IsGood : CoreRange → KeptBlocks → ℕ → Type 0
IsGood range kept page = (s : Span) × (block_kept range kept.read.items page ≡ Some (Ok s))

-- the blocks that were read stay so
abbrev pub StaysRead : CoreRange → KeptBlocks → KeptBlocks → Type 0
StaysRead range old new = (page : ℕ) → IsGood range old page → IsGood range new page

-- a block was read: what it lists is kept, or it has this fault
abbrev pub BlockAnswer : {X : Type 0} → List (Option (List ℕ)) → CoreRange → ℕ → KeptBlocks → ℕ → Result X Location → Type 0
BlockAnswer pages range inodes kept page r =
    MatchResult r (λ _. IsGood range kept page) (λ place. page_entries (core_with pages range inodes) page ≡ Err place)
