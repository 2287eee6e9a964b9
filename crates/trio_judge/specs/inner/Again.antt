-- What is remembered of the directories passed, so that none that lists the same is gone over again. Cited by private functions alone.
use Rattle.std.specs.Prelude.{ℕ, ◌≡◌, ◌<◌, Bool, true, List, length, Some, Ok, is_some}
use Rattle.std.specs.List.{list_all}
use Rattle.trio_rights.specs.declared.kind.Kind.TheVariants.{Directory}
use Rattle.trio_rights.specs.ByKind.{is_directory}
use Rattle.trio_rights.specs.Bundle.{bundle_pages}
use Rattle.trio_lists.specs.Lists.{In, is_among}
use Rattle.trio_layout.specs.declared.body.Body.{Body}
use Rattle.trio_layout.specs.declared.range.CoreRange.{CoreRange}
use Rattle.trio_layout.specs.Body.{block_count, body_of}
use Rattle.trio_layout.specs.Chain.{Chain}
use Rattle.trio_layout.specs.Entries.{Listed}
use Rattle.trio_layout.specs.Survey.{Met}
use Rattle.trio_layout.specs.Case.{Case, bundle_core}
use Rattle.trio_layout.specs.Within.{chain_of_within, entries_within}
use Rattle.trio_case.specs.Order.{is_marked}

-- the body in the slot of an entry is in the grammar for the entry's kind
abbrev pub has_body : CoreRange → Listed → Bool
has_body range l = is_some (body_of l.entry.kind range l.body)

-- As those of a directory, these blocks and the bodies in their entries are in the grammar, and the entries that name
-- one of the bundle's numbers name one of these.
pub record AreFound (c : Case) (found blocks : List ℕ) : Type 0 where
  pub entries : List Listed
  pub read : entries_within (bundle_core c) Directory blocks ≡ Ok entries
  pub bodies : list_all (has_body c.range) entries ≡ true
  pub known : (l : Listed) → In l entries → is_among l.entry.ino c.bundle.numbers ≡ true → is_among l.entry.ino found ≡ true

-- of these entries, each number of the bundle's is among these
abbrev pub AreAllFound : Case → List ℕ → List Met → Type 0
AreAllFound c found es = (e : Met) → In e es → is_among e.ino c.bundle.numbers ≡ true → is_among e.ino found ≡ true

-- so it is with the blocks of any file whose chain begins with this index page
abbrev pub IsFoundHead : Case → List ℕ → ℕ → Type 0
IsFoundHead c found head =
    (b : Body) (chain : Chain) → b.head ≡ head → 0 < block_count b.size → chain_of_within (bundle_core c) b ≡ Ok chain → AreFound c found chain.blocks

-- there is a mark for each page of the bundle, and so it is with each of the marked index pages
pub record AreFoundHeads (c : Case) (found : List ℕ) (heads : List Bool) : Type 0 where
  pub places : length heads ≡ length (bundle_pages c.bundle)
  pub each : (head : ℕ) → is_marked (bundle_pages c.bundle) heads head ≡ true → IsFoundHead c found head

-- a directory with a chain in the grammar that begins with a marked index page
pub record IsListedBefore (c : Case) (heads : List Bool) (m : Met) : Type 0 where
  pub directory : is_directory m.kind ≡ true
  pub body : Body
  pub reads : body_of m.kind c.range m.body ≡ Some body
  pub blocks : 0 < block_count body.size
  pub chain : Chain
  pub whole : chain_of_within (bundle_core c) body ≡ Ok chain
  pub head : is_marked (bundle_pages c.bundle) heads body.head ≡ true
