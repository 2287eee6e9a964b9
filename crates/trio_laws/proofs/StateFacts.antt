-- What follows from `Kept` of open grants and pages.
use Rattle.trio_laws.proofs.Words.{AllPairs, AllPairs-In, Bool, Core, GrantKind, In, In-is_among, In-left, In-list_any, In-right, Kept, Kind, List, MayBothStand, Met, MetAt, None, OpenGrant, Option, Row, Sheet, Some, State, TablesOf, Write, [], and_from, and_parts, ap, arith, cond, covered, covers_blocks, false, false≢true, flat_map, flat_map-In, free_unlisted, inl, inr, is_among-In, is_core, is_directory, is_lent, is_read, is_write, leb, list_any-In, listed_is_core, ltb, ltb-true, map-In, map-append, met_row, or_right, page_from, page_of, page_owner, pages_are, pages_of, place_there, plain, read_met, refl, row_at, row_at_is, settled, sheet_numbers, slice_get, sound_parts, subst, survey, sym, true, with_pages_absent, ℕ, ◌&&◌, ◌++◌, ◌<◌, ◌∙◌, ◌∷◌, ◌≡◌, ◌||◌}

pub write_is : (k : GrantKind) → is_write k ≡ true → k ≡ Write
write_is k e = search (arith, false≢true)

write_reads : (k : GrantKind) (b : Bool) → k ≡ Write → (is_read k && b) ≡ true → ⊥
write_reads k b e h = search (arith, false≢true)

reads_right : (a b : Bool) → (a && b) ≡ true → (b && a) ≡ true
reads_right a b e = search (arith, false≢true)

-- a write grant is alone on its file
pub write_alone : (gs : List OpenGrant) (g h : OpenGrant) → AllPairs MayBothStand gs → In g gs → In h gs → g.kind ≡ Write → g.ino ≡ h.ino → g ≡ h
write_alone gs g h pairs i j w e =
    elim (AllPairs-In MayBothStand gs g h pairs i j) [
      | inl same ↦ same
      | inr one ↦ search (arith, write_reads, reads_right)
    ]

pub covered_write : (kind : GrantKind) (of : Kind) (guarded : Bool) (index blocks : List Sheet) (p : ℕ) → In p (sheet_numbers (covered kind of guarded index blocks)) → (kind ≡ Write) × In p (sheet_numbers (index ++ blocks))
covered_write kind of guarded index blocks p i = search (arith, map-append, In-left)

-- the numbers that a checkpoint covers go by the numbers of the pages
pub covered_numbers : (of : Kind) (guarded : Bool) (index index' blocks blocks' : List Sheet) → sheet_numbers index ≡ sheet_numbers index' → sheet_numbers blocks ≡ sheet_numbers blocks' → sheet_numbers (covered Write of guarded index blocks) ≡ sheet_numbers (covered Write of guarded index' blocks')
covered_numbers of guarded index index' blocks blocks' i b = by (covers_blocks of guarded)
  where
    by : (t : Bool) → sheet_numbers (cond t (index ++ blocks) index) ≡ sheet_numbers (cond t (index' ++ blocks') index')
    by true =
        map-append (λ (x : Sheet). x.page) index blocks
        ∙ ap (λ l. l ++ sheet_numbers blocks) i
        ∙ ap (λ l. sheet_numbers index' ++ l) b
        ∙ sym (map-append (λ (x : Sheet). x.page) index' blocks')
    by false = i

-- a guarded file's blocks are covered
pub covered_block : (of : Kind) (guarded : Bool) (index blocks : List Sheet) (p : ℕ) → guarded ≡ true → In p (sheet_numbers blocks) → In p (sheet_numbers (covered Write of guarded index blocks))
covered_block of guarded index blocks p t i =
    let c : covers_blocks of guarded ≡ true = or_right (is_directory of) guarded t in
    subst (λ z. In p (sheet_numbers (cond z (index ++ blocks) index))) (sym c)
    (subst (λ l. In p l) (sym (map-append (λ (x : Sheet). x.page) index blocks)) (In-right p (sheet_numbers index) (sheet_numbers blocks) i))

or_none : (a b : Bool) → (a || b) ≡ false → (a ≡ false) × (b ≡ false)
or_none true b e = absurd cc
or_none false b e = (refl, e)

-- what is covered and is no directory is guarded
pub covered_kind : (of : Kind) (guarded : Bool) → is_directory of ≡ false → covers_blocks of guarded ≡ true → guarded ≡ true
covered_kind of guarded d e = sym (ap (λ t. t || guarded) d) ∙ e

-- a file whose blocks aren't covered is no directory, and isn't guarded
pub uncovered_kind : (of : Kind) (guarded : Bool) → covers_blocks of guarded ≡ false → (is_directory of ≡ false) × (guarded ≡ false)
uncovered_kind of guarded e = or_none (is_directory of) guarded e

pub numbers_flat : (gs : List OpenGrant) (p : ℕ) → In p (sheet_numbers (flat_map (λ g. g.checkpoint) gs)) → (g : OpenGrant) × In g gs × In p (sheet_numbers g.checkpoint)
numbers_flat gs p i =
    let r = map-In (λ (x : Sheet). x.page) p (flat_map (λ g. g.checkpoint) gs) i in
    let q = flat_map-In (λ (g : OpenGrant). g.checkpoint) r.0 gs r.1 in
    (q.0, q.1, in_map q.0.checkpoint r.0 q.2 r.2)
  where
    in_map : (xs : List Sheet) (x : Sheet) → In x xs → p ≡ x.page → In p (sheet_numbers xs)
    in_map [] x i e = i
    in_map (z ∷ zs) x (inl s) e = inl (e ∙ ap (λ (y : Sheet). y.page) s)
    in_map (z ∷ zs) x (inr i) e = inr (in_map zs x i e)

-- a lent page, with the grant that lent it
pub lent_by : (gs : List OpenGrant) (p : ℕ) → is_lent gs p ≡ true → (g : OpenGrant) × In g gs × (g.kind ≡ Write) × In p (sheet_numbers (g.index ++ g.blocks))
lent_by gs p lent = search (arith, list_any-In, and_parts, write_is, is_among-In)

pub by_lent : (gs : List OpenGrant) (g : OpenGrant) (p : ℕ) → In g gs → g.kind ≡ Write → In p (sheet_numbers (g.index ++ g.blocks)) → is_lent gs p ≡ true
by_lent gs g p i kind a = search (arith, In-list_any, and_from, In-is_among)

module _ (s : State) (k : Kept s) where
  pub tables : TablesOf (settled s) (settled s).core plain
  tables = record { rows = k.verifies.rows; owners = k.verifies.owners }

  -- the file of a live number
  pub live_met : (n : ℕ) (r : Row) → row_at s.home n ≡ Some r → MetAt (settled s).core plain n r
  live_met n r e =
      met_row (settled s).core plain k.fit k.verifies.sound n r (sym (row_at_is (settled s).core plain k.fit k.verifies.sound (settled s) tables n) ∙ e)

  -- the pages that a write grant lent are those of its file
  pub lent_met : (g : OpenGrant) (i : In g s.open_grants) (w : g.kind ≡ Write) (p : ℕ) → In p (sheet_numbers (g.index ++ g.blocks)) → In p (pages_of (settled s).core (k.lent g i w).met)
  lent_met g i w p a = search (arith, map-append, pages_are)

  -- a page in a checkpoint was lent
  pub checkpoint_lent : (p : ℕ) → In p (sheet_numbers (flat_map (λ g. g.checkpoint) s.open_grants)) → (g : OpenGrant) × In g s.open_grants × (g.kind ≡ Write) × In p (sheet_numbers (g.index ++ g.blocks))
  checkpoint_lent p i = search (arith, numbers_flat, covered_write)

  -- a page of a file that a write grant lent is of that grant's file
  pub lent_file : (m : Met) (p : ℕ) (g : OpenGrant) → In m (survey (settled s).core plain) → In p (pages_of (settled s).core m) → In g s.open_grants → g.kind ≡ Write → In p (sheet_numbers (g.index ++ g.blocks)) → g.ino ≡ m.ino
  lent_file m p g i a j w b =
      let l = k.lent g j w in
      let same : l.met ≡ m = page_owner (settled s).core (survey (settled s).core plain) l.met m p (sound_parts (settled s).core plain k.verifies.sound).paged l.stands i (lent_met g j w p b) a in
      sym l.number ∙ ap (λ (x : Met). x.ino) same

  -- the pages of a file that no write grant has lent are there
  pub pages_there : (m : Met) (p : ℕ) → In m (survey (settled s).core plain) → In p (pages_of (settled s).core m) → ((g : OpenGrant) → In g s.open_grants → g.kind ≡ Write → g.ino ≡ m.ino → ⊥) → (bytes : List ℕ) × (page_of (settled s).core p ≡ Some bytes)
  pages_there m p i a none =
      let core : Core = (settled s).core in
      let f = read_met core plain k.fit k.verifies.sound m i in
      let c : is_core core.range p ≡ true = listed_is_core core m f.0 p f.1 a in
      let below : p < core.range.end = ltb-true p core.range.end (and_parts (leb core.range.first p) (ltb p core.range.end) c).1 in
      let long = k.fit.long in
      let r = place_there core.pages p (omega (arith, below, long)) in
      by_place r.0 r.1 c
    where
      by_place : (o : Option (List ℕ)) → slice_get (settled s).core.pages p ≡ Some o → is_core (settled s).core.range p ≡ true → (bytes : List ℕ) × (page_of (settled s).core p ≡ Some bytes)
      by_place (Some b) e c = (b, page_from (settled s).core p b c e)
      by_place None e c =
          let w = with_pages_absent (flat_map (λ g. g.checkpoint) s.open_grants) s.home.core.pages p e in
          absurd (elim (k.absent p w.1 c) [
            | inl lent ↦ (let q = lent_by s.open_grants p lent in none q.0 q.1 q.2 (lent_file m p q.0 i a q.1 q.2 q.3))
            | inr out ↦
                free_unlisted (settled s).core plain k.fit k.verifies.sound (settled s) tables p (k.out_free p out) m i a
          ])

-- a grant that doesn't read alone is alone on its file
pub alone : (gs : List OpenGrant) (g h : OpenGrant) → AllPairs MayBothStand gs → In g gs → In h gs → is_read g.kind ≡ false → g.ino ≡ h.ino → g ≡ h
alone gs g h pairs i j w e =
    elim (AllPairs-In MayBothStand gs g h pairs i j) [
      | inl same ↦ same
      | inr one ↦ search (arith, false≢true, and_parts)
    ]
