-- What a grant lends is well formed: its body, its chain and its entries are in the grammar, by its own pages alone.
use Rattle.trio_ctl.proofs.Words.{AreWhole, Chain, Core, Err, In, In-cases, In-left, In-map, In-right, IsWellLent, Kept, Kind, LentPage, List, Location, None, Ok, Ok-one, OpenGrant, Option, Result, Row, Sheet, Shown, Some, State, Write, [], and_parts, ap, are_new, arith, at_page, block_sheets, body_of, chain_of, cond, entries_of_kind, entries_on, gathered, index_sheets, inl, inr, is_directory, lendable_is_home, length, length-replicate, lent_numbers, lent_sheet, ltb-true, map, map-append, map-map, met_at, nat_le, nat_lt, numbers_of_file, option_and_then, page_entries, page_from, page_of, page_there, place_there, plain, reads_from, refl, replicate, result_then, result_then-Ok, row_at, settled, settled_body, settled_chain, sheet_numbers, sheets_all, sheets_in, sheets_of, sizes_of, subst, suc, sym, there_or, true, with_pages_known, zero, ℕ, ◌++◌, ◌-◌, ◌<◌, ◌==◌, ◌∙◌, ◌∷◌, ◌≡◌}
use Rattle.std.proofs.Common.{min}
use Rattle.std.specs.Result.{is_ok}
use Rattle.trio_lists.specs.Lists.{both, result_map}
use Rattle.trio_layout.specs.Body.{block_count, body_at}
use Rattle.trio_layout.specs.Chain.{chain_from, index_count, index_page, with_index}
use Rattle.trio_layout.specs.Entries.{with_names_apart}
use Rattle.trio_layout.specs.Index.{Index, index_of}
use Rattle.trio_surveys.proofs.Images.{MetAt}
use Rattle.trio_desk.specs.Out.{lent_core}
use Rattle.trio_laws.proofs.history.Follows.{body_is_at}
use Rattle.trio_laws.proofs.history.Listing.{body_met, chain_met}

-- ---- a core that has the pages of a file reads the file alike

module _ (core other : Core) (range : other.range ≡ core.range) where
  -- the pages of these numbers are the same
  abbrev Alike : List ℕ → Type 0
  Alike ns = (p : ℕ) → In p ns → page_of other p ≡ page_of core p

  chain_alike : (more blocks page : ℕ) (c : Chain) → chain_from core more blocks page ≡ Ok c → Alike c.index → chain_from other more blocks page ≡ Ok c
  chain_alike zero blocks page c e same = e
  chain_alike (suc more) blocks page c e same =
      let rest : Index → Result Chain Location = λ i. result_map (with_index page i) (chain_from core more (blocks - 511) i.next) in
      let h = result_then-Ok rest (index_page core page (min blocks 511) (more == 0)) c e in
      by h.0 h.1 (λ d e same. chain_alike more (blocks - 511) h.0.next d e same) (chain_from core more (blocks - 511) h.0.next) refl h.2
    where
      by : (i : Index) → index_page core page (min blocks 511) (more == 0) ≡ Ok i → ((d : Chain) → chain_from core more (blocks - 511) i.next ≡ Ok d → Alike d.index → chain_from other more (blocks - 511) i.next ≡ Ok d)
          → (r : Result Chain Location) → chain_from core more (blocks - 511) i.next ≡ r → result_map (with_index page i) r ≡ Ok c → chain_from other (suc more) blocks page ≡ Ok c
      by i at again (Err place) r e = absurd cc
      by i at again (Ok d) r e =
          let is : with_index page i d ≡ c = cc e in
          let numbers : page ∷ d.index ≡ c.index = ap (λ (x : Chain). x.index) is in
          let here : page_of other page ≡ page_of core page = same page (subst (λ l. In page l) numbers (inl refl)) in
          let first : index_page other page (min blocks 511) (more == 0) ≡ Ok i =
          ap (λ q. there_or (at_page page) (option_and_then (index_of (min blocks 511) (more == 0) q) (page_of other page))) range
          ∙ ap (λ o. there_or (at_page page) (option_and_then (index_of (min blocks 511) (more == 0) core.range) o)) here ∙ at in
          let later = again d r (λ p j. same p (subst (λ l. In p l) numbers (inr j))) in
          ap (λ o. result_then (λ i. result_map (with_index page i) (chain_from other more (blocks - 511) i.next)) o) first
          ∙ ap (result_map (with_index page i)) later ∙ e

  module _ (inodes : other.inodes ≡ core.inodes) where
    gathered_alike : (ns : List ℕ) → Alike ns → gathered (page_entries other) ns ≡ gathered (page_entries core) ns
    gathered_alike [] same = refl
    gathered_alike (p ∷ ps) same =
        ap (λ n. both (result_then (entries_on n p) (there_or (at_page p) (page_of other p))) (gathered (page_entries other) ps)) inodes
        ∙ ap (λ o. both (result_then (entries_on core.inodes p) (there_or (at_page p) o)) (gathered (page_entries other) ps)) (same p (inl refl))
        ∙ ap (both (page_entries core p)) (gathered_alike ps (λ q i. same q (inr i)))

    entries_alike : (kind : Kind) (ns : List ℕ) → Alike ns → entries_of_kind other kind ns ≡ entries_of_kind core kind ns
    entries_alike kind ns same = ap (λ r. cond (is_directory kind) (result_then with_names_apart r) (Ok [])) (gathered_alike ns same)

-- no page
abbrev the_none : Option (List ℕ)
the_none = None

-- ---- the numbers of lent pages

sheet_numbers_of : (pages : List LentPage) → lent_numbers pages ≡ sheet_numbers (map lent_sheet pages)
sheet_numbers_of pages = sym (map-map (λ (x : Sheet). x.page) lent_sheet pages)

-- the body of a live file is in the grammar
pub good_body : (s : State) (k : Kept s) (ino : ℕ) (r : Row) → row_at s.home ino ≡ Some r → body_of r.kind s.home.core.range (settled_body (settled s) ino) ≡ Some (body_at (settled_body (settled s) ino))
good_body s k ino r row =
    let core = (settled s).core in
    let file = met_at (settled s) k.fit k.verifies ino r row in
    let kind : r.kind ≡ file.met.kind = ap (λ (x : Row). x.kind) file.row in
    let read : body_of r.kind core.range (settled_body (settled s) ino) ≡ Some file.file.body =
    ap (λ q. body_of q core.range (settled_body (settled s) ino)) kind ∙ ap (body_of file.met.kind core.range) (body_met (settled s) k.fit k.verifies ino r row) ∙ (reads_from core file.met file.file file.read).body in
    read ∙ ap Some (sym (body_is_at r.kind core.range (settled_body (settled s) ino) file.file.body read))

-- ---- a lease as it is given

module _ (s : State) (k : Kept s) (ino : ℕ) (r : Row) (row : row_at s.home ino ≡ Some r) (free : (g : OpenGrant) → In g s.open_grants → g.kind ≡ Write → g.ino ≡ ino → ⊥)
    (f : Shown) (kind : f.kind ≡ r.kind) (body : f.body ≡ settled_body (settled s) ino)
    (index : map lent_sheet f.index ≡ index_sheets (settled s).core (settled_chain (settled s) r.kind ino)) (blocks : map lent_sheet f.blocks ≡ block_sheets (settled s).core (settled_chain (settled s) r.kind ino)) where
  abbrev core : Core
  core = (settled s).core

  abbrev file : MetAt (settled s).core plain ino r
  file = met_at (settled s) k.fit k.verifies ino r row

  abbrev c : Chain
  c = file.file.chain

  abbrev own : List ℕ
  own = c.index ++ c.blocks

  home : (p : ℕ) → In p own → (bytes : List ℕ) × (page_of core p ≡ Some bytes)
  home p i =
      let h = lendable_is_home s ino r k row free in
      let same : h.0 ≡ c = Ok-one (settled_chain (settled s) r.kind ino) h.0 c h.1 (chain_met (settled s) k.fit k.verifies ino r row) in
      let t = h.2 p (subst (λ (x : Chain). In p (x.index ++ x.blocks)) (sym same) i) in
      (t.0, t.2)

  pub own_new : are_new [] own ≡ true
  own_new =
      let h = lendable_is_home s ino r k row free in
      let same : h.0 ≡ c = Ok-one (settled_chain (settled s) r.kind ino) h.0 c h.1 (chain_met (settled s) k.fit k.verifies ino r row) in
      subst (λ (x : Chain). are_new [] (x.index ++ x.blocks) ≡ true) same h.3

  index_are : map lent_sheet f.index ≡ sheets_of core c.index
  index_are = index ∙ ap (index_sheets core) (chain_met (settled s) k.fit k.verifies ino r row)

  blocks_are : map lent_sheet f.blocks ≡ sheets_of core c.blocks
  blocks_are = blocks ∙ ap (block_sheets core) (chain_met (settled s) k.fit k.verifies ino r row)

  index_numbers : lent_numbers f.index ≡ c.index
  index_numbers = sheet_numbers_of f.index ∙ ap sheet_numbers index_are ∙ sheets_all core c.index (λ p i. home p (In-left p c.index c.blocks i))

  block_numbers : lent_numbers f.blocks ≡ c.blocks
  block_numbers = sheet_numbers_of f.blocks ∙ ap sheet_numbers blocks_are ∙ sheets_all core c.blocks (λ p i. home p (In-right p c.index c.blocks i))

  pub numbers_are : numbers_of_file f ≡ own
  numbers_are = ap (λ ns. ns ++ lent_numbers f.blocks) index_numbers ∙ ap (λ ns. c.index ++ ns) block_numbers

  whole : (pages : List LentPage) (ns : List ℕ) → map lent_sheet pages ≡ sheets_of core ns → AreWhole pages
  whole pages ns e p i =
      let t = sheets_in core ns (lent_sheet p) (subst (λ xs. In (lent_sheet p) xs) e (In-map lent_sheet p pages i)) in
      k.fit.full p.no.0 p.page t.1

  body_is : f.body ≡ file.met.body
  body_is = body ∙ body_met (settled s) k.fit k.verifies ino r row

  kind_is : f.kind ≡ file.met.kind
  kind_is = kind ∙ ap (λ (x : Row). x.kind) file.row

  read_body : body_of f.kind core.range f.body ≡ Some file.file.body
  read_body = ap (λ q. body_of q core.range f.body) kind_is ∙ ap (body_of file.met.kind core.range) body_is ∙ (reads_from core file.met file.file file.read).body

  spelled : body_at f.body ≡ file.file.body
  spelled = body_is_at f.kind core.range f.body file.file.body read_body

  abbrev lent : Core
  lent = lent_core (sizes_of s) f

  sheets : map lent_sheet (f.index ++ f.blocks) ≡ sheets_of core c.index ++ sheets_of core c.blocks
  sheets = map-append lent_sheet f.index f.blocks ∙ ap (λ xs. xs ++ map lent_sheet f.blocks) index_are ∙ ap (λ xs. sheets_of core c.index ++ xs) blocks_are

  -- each page of the file is in the core of the lease what it is in the settled image
  alike : (p : ℕ) → In p own → page_of lent p ≡ page_of core p
  alike p i =
      let t = home p i in
      let q = page_there core p t.0 t.1 in
      let long : length (replicate core.range.end (the_none)) ≡ core.range.end = length-replicate core.range.end the_none in
      let below : p < core.range.end = ltb-true p core.range.end (and_parts (nat_le core.range.first p) (nat_lt p core.range.end) q.0).1 in
      let place = place_there (replicate core.range.end the_none) p (omega (arith, below, long)) in
      let among : In p (sheet_numbers (map lent_sheet (f.index ++ f.blocks))) =
      subst (λ ns. In p ns) (sym (sym (sheet_numbers_of (f.index ++ f.blocks)) ∙ map-append (λ (x : LentPage). x.no.0) f.index f.blocks ∙ numbers_are)) i in
      page_from lent p t.0 q.0
      (with_pages_known (map lent_sheet (f.index ++ f.blocks)) (replicate core.range.end the_none) p t.0 place.0 among
      (λ x j e. by x t.0 (subst (λ o. page_of core o ≡ Some t.0) (sym e) t.1) (subst (λ xs. In x xs) sheets j)) place.1)
      ∙ sym t.1
    where
      by : (x : Sheet) (bytes : List ℕ) → page_of core x.page ≡ Some bytes → In x (sheets_of core c.index ++ sheets_of core c.blocks) → x.bytes ≡ bytes
      by x bytes e j =
          let there : page_of core x.page ≡ Some x.bytes = elim (In-cases x (sheets_of core c.index) (sheets_of core c.blocks) j) [ inl a ↦ (sheets_in core c.index x a).1 | inr b ↦ (sheets_in core c.blocks x b).1 ] in
          let same : Some x.bytes ≡ Some bytes = sym there ∙ e in
          cc same

  pub well_lent : IsWellLent (sizes_of s) f
  well_lent =
      let f' = reads_from core file.met file.file file.read in
      let chain : chain_of lent (body_at f.body) ≡ Ok c =
      ap (chain_of lent) spelled
      ∙ chain_alike core lent refl (index_count (block_count file.file.body.size)) (block_count file.file.body.size) file.file.body.head c f'.chain (λ p i. alike p (In-left p c.index c.blocks i)) in
      record {
        index = whole f.index c.index index_are;
        blocks = whole f.blocks c.blocks blocks_are;
        once = ap (are_new []) numbers_are ∙ own_new;
        body = read_body ∙ ap Some (sym spelled);
        chain = chain ∙ ap (λ ns. Ok (record { index = ns; blocks = c.blocks })) (sym index_numbers) ∙ ap (λ ns. Ok (record { index = lent_numbers f.index; blocks = ns })) (sym block_numbers);
        entries =
            ap (λ ns. is_ok (entries_of_kind lent f.kind ns)) block_numbers
            ∙ ap is_ok (entries_alike core lent refl refl f.kind c.blocks (λ p i. alike p (In-right p c.index c.blocks i)))
            ∙ ap (λ q. is_ok (entries_of_kind core q c.blocks)) kind_is
            ∙ ap is_ok f'.entries;
      }
