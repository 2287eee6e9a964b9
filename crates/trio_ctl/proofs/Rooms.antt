-- How many things a bundle has that was given to a library: each is of a table that has a place for each number.
use Rattle.trio_ctl.proofs.Words.{◌+◌, ◌-◌, ◌<◌, ◌∙◌, ◌≤◌, Bundle, Bundled, Creds, Entries, GivenTo, HoldParts, In, InoParts, IsControlled, Kept, Keyed, LentFile, List, Opened, Option, Outline, State, Store, Written, ap, arith, bundle_in, bundle_pages, grants_in, is_some, length, length-map, map, map-In, state_of, subst, superblock_at_home, superblock_facts, sym, within_some, written_in, ℕ}
use Rattle.trio_layout.proofs.Walks.{pigeons}
use Rattle.trio_case.proofs.Making.{few_pages}
use Rattle.trio_ctl.proofs.Judging.{pages_core, pages_new}

-- ---- what is given is no more than its table has

module _ (s : State) (kept : Kept s) (lib : ℕ) (b : Bundle) (given : GivenTo s lib b) where
  pub pages_few : length (bundle_pages b) ≤ s.home.core.range.end
  pages_few = few_pages s.home.core.range (bundle_pages b) (pages_core s lib b kept given) (pages_new s lib b kept given)

  pub writes_few : length b.writes ≤ length s.home.rows
  writes_few =
      let few = pigeons (length s.home.rows) (map (λ (w : Written). w.ino) b.writes) given.writes_once below in
      let n = length-map b.writes (λ (w : Written). w.ino) in
      omega (arith, few, n)
    where
      below : (x : ℕ) → In x (map (λ (w : Written). w.ino) b.writes) → x < length s.home.rows
      below x i =
          let w = map-In (λ (w : Written). w.ino) x b.writes i in
          let g = given.writes w.0 w.1 in
          subst (λ n. n < length s.home.rows) (g.ino ∙ sym w.2) (within_some s.home.rows g.grant.ino (kept.live g.grant g.is_open))

  pub holds_few : length b.holds ≤ length s.home.rows
  holds_few = pigeons (length s.home.rows) b.holds given.holds_once (λ x i.
      let g = given.holds x i in
      subst (λ n. n < length s.home.rows) g.ino (within_some s.home.rows g.grant.ino (kept.live g.grant g.is_open)))

  pub numbers_few : length b.numbers ≤ s.home.core.inodes + 1
  numbers_few =
      let few = pigeons (length s.numbers_out) b.numbers given.numbers_once (λ x i. within_some s.numbers_out x (ap is_some (given.numbers x i))) in
      let placed = kept.numbers_placed in
      omega (arith, few, placed)

-- ---- of a registry

module _ (s : Store) (first : ℕ) (table : List Keyed) (files : List Opened) (creds : List Creds) (entries : Entries) (begun : List (Option Outline)) (k : IsControlled s first table files creds entries begun) (b : Bundled) where
  abbrev st : State
  st = state_of s first (grants_in files) creds entries.made

  -- how many things there are in a bundle that was given to a library
  pub counts_few : (lib : ℕ) → GivenTo st lib (bundle_in b) → (length (bundle_pages (bundle_in b)) ≤ 8192) × (length b.writes ≤ 16385) × (length b.holds ≤ 16385) × (length b.inodes ≤ 16385)
  counts_few lib given =
      let kept = k.stored.kept in
      let facts = superblock_facts (superblock_at_home s first) k.stored.fits in
      let sized : (length s.home.pages ≤ 8192) × (length s.rows - 1 ≤ 16384) = (facts.pages, facts.inodes) in
      let pages = pages_few st kept lib (bundle_in b) given in
      let writes = writes_few st kept lib (bundle_in b) given in
      let holds = holds_few st kept lib (bundle_in b) given in
      let numbers = numbers_few st kept lib (bundle_in b) given in
      let w = length-map b.writes (λ (f : LentFile). written_in f.stands) in
      let h = length-map b.holds (λ (x : HoldParts). x.ino) in
      let n = length-map b.inodes (λ (x : InoParts). x.no) in
      (omega (arith, pages, sized), omega (arith, writes, w, sized), omega (arith, holds, h, sized), omega (arith, numbers, n, sized))
