-- The lowest rule that a bundle breaks, with a file and a place at which it does. Of a clause on an entry the file is
-- the directory that has it, and the place the entry's; of a clause on a page it is the file that lists it. I3 names
-- a number alone.
use Rattle.std.specs.Prelude.{◌≡◌, ◌<◌, ℕ, ◌⊎◌, List, ◌∷◌, ◌++◌, IsTrue, IsFalse, Err, Option, map}
use Rattle.std.specs.List.{flat_map}
use Rattle.trio_rights.specs.Row.{Row, row_in}
use Rattle.trio_lists.specs.Lists.{In, is_among}
use Rattle.trio_layout.specs.declared.refusal.Rule.TheVariants.{Grammar, Owning, Edges, Rights}
use Rattle.trio_layout.specs.Rule.{rule_number}
use Rattle.trio_layout.specs.Core.{Location, at_page, nowhere}
use Rattle.trio_layout.specs.Survey.{Met, numbers}
use Rattle.trio_layout.specs.Sound.{PageListing}
use Rattle.trio_rights.specs.Bundle.{bundle_pages}
use Rattle.trio_layout.specs.Case.{Case, file_in}
use Rattle.trio_layout.specs.JudgedFiles.{judged_files, judged_entries, pages_within}
use Rattle.trio_layout.specs.Listing.{Listing, ListedEntry, listing}
use Rattle.trio_layout.specs.Edges.{stays_listed, leaves_none, comes_to_root, meets_edges}
use Rattle.trio_layout.specs.Rules.{entry_in_grammar, entry_is_own, entry_keeps_rights, file_keeps_rights, meets_grammar, meets_owning}

-- an entry of a judged directory, at this file and place
pub record EntryAt (c : Case) (ino : ℕ) (place : Location) (e : Met) : Type 0 where
  pub among : In e (judged_entries c)
  pub directory : e.parent ≡ ino
  pub page : e.page ≡ place.page
  pub slot : e.slot ≡ place.slot

-- a judged file with this number
pub record FileAt (c : Case) (ino : ℕ) (m : Met) : Type 0 where
  pub among : In m (judged_files c)
  pub number : m.ino ≡ ino

-- I1 fails: of a judged file at the place where it leaves the grammar, or of the body of an entry
abbrev pub BreaksGrammar : Case → ℕ → Location → Type 0
BreaksGrammar c ino place =
    ((m : Met) × FileAt c ino m × (file_in c m ≡ Err place))
    ⊎ ((e : Met) × EntryAt c ino place e × IsFalse (entry_in_grammar c e))

-- the listings of pages by the judged files, in order
abbrev pub judged_listings : Case → List PageListing
judged_listings c = flat_map (λ m. map (λ p. record { ino = m.ino; page = p }) (pages_within c m)) (judged_files c)

-- a page that the file lists and that a file lists before, or it itself
pub record ListsAgain (c : Case) (ino : ℕ) (page : ℕ) : Type 0 where
  pub earlier : List PageListing
  pub later : List PageListing
  pub order : judged_listings c ≡ earlier ++ record { ino = ino; page = page } ∷ later
  pub seen : IsTrue (is_among page (map (λ l. l.page) earlier))

-- an entry with a number that an entry has before
pub record NamesAgain (c : Case) (ino : ℕ) (place : Location) : Type 0 where
  pub earlier : List Met
  pub again : Met
  pub later : List Met
  pub order : judged_entries c ≡ earlier ++ again ∷ later
  pub directory : again.parent ≡ ino
  pub page : again.page ≡ place.page
  pub slot : again.slot ≡ place.slot
  pub seen : IsTrue (is_among again.ino (numbers earlier))

-- a judged file lists this page, which is none of the bundle's
abbrev pub ListsForeign : Case → ℕ → ℕ → Type 0
ListsForeign c ino page =
    (m : Met) × FileAt c ino m × In page (pages_within c m) × IsFalse (is_among page (bundle_pages c.bundle))

-- I2 fails: of a page that isn't the bundle's or is listed again, or of an entry that isn't its own or is listed again
abbrev pub BreaksOwning : Case → ℕ → Location → Type 0
BreaksOwning c ino place =
    ((page : ℕ) × ListsForeign c ino page × (place ≡ at_page page))
    ⊎ (((page : ℕ) × ListsAgain c ino page × (place ≡ at_page page))
    ⊎ (((e : Met) × EntryAt c ino place e × IsFalse (entry_is_own c e)) ⊎ NamesAgain c ino place))

-- I3 fails: of a recorded child that is lost, a held file dropped over its children, or a directory moved below itself
abbrev pub BreaksEdges : Listing → List (Option Row) → ℕ → Type 0
BreaksEdges l rows ino =
    ((0 < ino) × IsFalse (stays_listed l ino (row_in rows ino)))
    ⊎ ((In ino l.held × IsFalse (leaves_none l rows ino))
    ⊎ ((e : ListedEntry) × In e l.entries × (e.ino ≡ ino) × IsFalse (comes_to_root l rows e)))

-- I4 fails: of an entry, or of the rights in a judged file's body, which stand at no place
abbrev pub BreaksRights : Case → ℕ → Location → Type 0
BreaksRights c ino place =
    ((e : Met) × EntryAt c ino place e × IsFalse (entry_keeps_rights c e))
    ⊎ ((m : Met) × FileAt c ino m × IsFalse (file_keeps_rights c m (file_in c m)) × (place ≡ nowhere))

-- the lowest rule that the bundle breaks, with a file and a place at which it does
abbrev pub Breaks : Case → ℕ → ℕ → Location → Type 0
Breaks c rule ino place =
    ((rule ≡ rule_number Grammar) × BreaksGrammar c ino place)
    ⊎ (((rule ≡ rule_number Owning) × IsTrue (meets_grammar c) × BreaksOwning c ino place)
    ⊎ (((rule ≡ rule_number Edges) × IsTrue (meets_grammar c) × IsTrue (meets_owning c)
    × BreaksEdges (listing c) c.rows ino × (place ≡ nowhere))
    ⊎ ((rule ≡ rule_number Rights) × IsTrue (meets_grammar c) × IsTrue (meets_owning c) × IsTrue (meets_edges (listing c) c.rows)
    × BreaksRights c ino place)))
