-- A write grant on a file without open grants keeps what holds of a state.
use Rattle.trio_laws.proofs.Words.{AgreeOn, Bool, Core, Directory, FileRead, HasLentBlocks, Hold, In, In-cases, In-is_among, In-left, In-list_any, In-right, IsFit, Kept, Kind, LentIsListed, Link, List, MayBothStand, Met, None, OpenGrant, Option, Pages, Regular, Row, Sheet, Some, State, Write, [], all_pairs_push, among_cases, ap, append-nil, are_new, arith, block_sheets, body_of, chain_of, cond, covered, covers_blocks, eqb, false, false≢true, file_agrees, file_of, flat_map, flat_map-append, get_or, get_or-In, guard_in, has_parent_grant, index_apart, inl, inr, is_among, is_directory, is_directory-false, is_some, is_write, length-with_pages, length-without, lent_pages, list_any, list_any-append, map-In, map-append, nowhere, opened, opens, or_left, page_of, page_owner, page_same, page_there, pages_are, pages_of, pages_read, place_there, place_within, plain, reads_from, refl, result_then, row_at, row_at_is, row_by, row_met, settled, settled_body, settled_body_met, settled_chain, sheet_numbers, sheets_all, sheets_in, sheets_of, slice_get, some_of, sound_parts, subst, survey, sym, there_or, true, with_other, with_pages, with_pages-append, with_pages_apart, with_pages_cong, with_pages_known, without_absent, without_apart, without_pages, without_there, ℕ, ◌&&◌, ◌++◌, ◌∙◌, ◌∷◌, ◌≡◌, ◌⊎◌}
use Rattle.std.specs.Prelude.{Ok}
use Rattle.trio_layout.specs.Sound.{listed_pages}
use Rattle.trio_layout.specs.Pages.{index_sheets}
use Rattle.trio_laws.proofs.Agreeing.{image_with, verifies_still, met_still, lent_still, body_still}
use Rattle.trio_laws.proofs.Bundles.{in_numbers}
use Rattle.trio_laws.proofs.StateFacts.{tables, pages_there, lent_file, checkpoint_lent, uncovered_kind}

-- a page that is read is an index page or a block of a directory
pub read_cases : (kind : Kind) (f : FileRead) (p : ℕ) → In p (pages_read kind f) → In p f.chain.index ⊎ (In p f.chain.blocks × (kind ≡ Directory))
read_cases Regular f p i = inl i
read_cases Directory f p i = elim (In-cases p f.chain.index f.chain.blocks i) [ inl a ↦ inl a | inr b ↦ inr (b, refl) ]
read_cases Link f p i = inl i

-- a block of what is no directory is read of no file
pub block_unread : (core : Core) (files : List Met) (m m' : Met) (f f' : FileRead) (p : ℕ) → are_new [] (listed_pages core files) ≡ true → In m files → file_of core m ≡ Ok f → In p f.chain.blocks → is_directory m.kind ≡ false → In m' files → file_of core m' ≡ Ok f' → In p (pages_read m'.kind f') → ⊥
block_unread core files m m' f f' p new i e a plain' j e' b =
    elim (read_cases m'.kind f' p b) [
      | inl index ↦ index_apart core files m' m f' f p new j i e' e index a
      | inr block ↦
          let pa : In p (pages_of core m) = subst (λ l. In p l) (sym (pages_are core m f e)) (In-right p f.chain.index f.chain.blocks a) in
          let pb : In p (pages_of core m') = subst (λ l. In p l) (sym (pages_are core m' f' e')) (In-right p f'.chain.index f'.chain.blocks block.0) in
          let same : m' ≡ m = page_owner core files m' m p new j i pb pa in
          is_directory-false m.kind plain' (sym (ap (λ (x : Met). x.kind) same) ∙ block.1)
    ]

-- what a checkpoint covers of a file's pages
covers : (of : Kind) (guarded : Bool) (index blocks : List Sheet) (x : Sheet) → In x (covered Write of guarded index blocks) → In x (index ++ blocks)
covers of guarded index blocks x i = by (covers_blocks of guarded) i
  where
    by : (t : Bool) → In x (cond t (index ++ blocks) index) → In x (index ++ blocks)
    by true i = i
    by false i = In-left x index blocks i

-- and what it doesn't: blocks of what is no directory and isn't guarded
pub uncovers : (of : Kind) (guarded : Bool) (index blocks : List Sheet) (p : ℕ) → In p (sheet_numbers (index ++ blocks)) → (In p (sheet_numbers (covered Write of guarded index blocks)) → ⊥) → In p (sheet_numbers blocks) × (covers_blocks of guarded ≡ false)
uncovers of guarded index blocks p i none = by (covers_blocks of guarded) refl none
  where
    by : (t : Bool) → covers_blocks of guarded ≡ t → (In p (sheet_numbers (cond t (index ++ blocks) index)) → ⊥) → In p (sheet_numbers blocks) × (covers_blocks of guarded ≡ false)
    by true e none = absurd (none i)
    by false e none =
        elim (In-cases p (sheet_numbers index) (sheet_numbers blocks) (subst (λ l. In p l) (map-append (λ (x : Sheet). x.page) index blocks) i)) [
          | inl a ↦ absurd (none a)
          | inr b ↦ (b, e)
        ]

module _ (s : State) (k : Kept s) (lib : ℕ) (m : Met) (f : FileRead) (i : In m (survey (settled s).core plain)) (e : file_of (settled s).core m ≡ Ok f) (free : (g : OpenGrant) → In g s.open_grants → g.ino ≡ m.ino → ⊥) where
  abbrev pub g : OpenGrant
  g = opened s lib m.ino Write (row_by m f.body)

  abbrev pub pages : Pages
  pages = with_pages (flat_map (λ g. g.checkpoint) (s.open_grants ++ g ∷ [])) (without_pages (lent_pages g) s.home.core.pages)

  abbrev pub core : Core
  core = (settled s).core

  chain_is : settled_chain (settled s) m.kind m.ino ≡ Ok f.chain
  chain_is =
      let r = reads_from core m f e in
      let body : settled_body (settled s) m.ino ≡ m.body = settled_body_met (settled s) m k.fit k.verifies.sound (tables s k) i in
      ap (λ b. result_then (chain_of core) (there_or nowhere (body_of m.kind core.range b))) body ∙ ap (λ o. result_then (chain_of core) (there_or nowhere o)) r.body ∙ r.chain

  index_is : g.index ≡ sheets_of core f.chain.index
  index_is = ap (index_sheets core) chain_is

  blocks_are : g.blocks ≡ sheets_of core f.chain.blocks
  blocks_are = ap (block_sheets core) chain_is

  there : (p : ℕ) → In p (f.chain.index ++ f.chain.blocks) → (bytes : List ℕ) × (page_of core p ≡ Some bytes)
  there p a = pages_there s k m p i (subst (λ l. In p l) (sym (pages_are core m f e)) a) (λ h j w. free h j)

  index_numbers : sheet_numbers g.index ≡ f.chain.index
  index_numbers = ap sheet_numbers index_is ∙ sheets_all core f.chain.index (λ p a. there p (In-left p f.chain.index f.chain.blocks a))

  block_numbers : sheet_numbers g.blocks ≡ f.chain.blocks
  block_numbers = ap sheet_numbers blocks_are ∙ sheets_all core f.chain.blocks (λ p a. there p (In-right p f.chain.index f.chain.blocks a))

  pub lent_numbers : sheet_numbers (g.index ++ g.blocks) ≡ f.chain.index ++ f.chain.blocks
  lent_numbers = map-append (λ (x : Sheet). x.page) g.index g.blocks ∙ ap (λ l. l ++ sheet_numbers g.blocks) index_numbers ∙ ap (λ l. f.chain.index ++ l) block_numbers

  -- a sheet that is lent has the settled bytes
  sheet_bytes : (x : Sheet) → In x (g.index ++ g.blocks) → page_of core x.page ≡ Some x.bytes
  sheet_bytes x j =
      elim (In-cases x g.index g.blocks j) [
        | inl a ↦ (sheets_in core f.chain.index x (subst (λ l. In x l) index_is a)).1
        | inr b ↦ (sheets_in core f.chain.blocks x (subst (λ l. In x l) blocks_are b)).1
      ]

  abbrev before : Pages
  before = with_pages (flat_map (λ g. g.checkpoint) s.open_grants) (without_pages (lent_pages g) s.home.core.pages)

  pages_are_two : pages ≡ with_pages g.checkpoint before
  pages_are_two = search (arith, flat_map-append, append-nil, with_pages-append)

  -- each page is as it was, or it is a block that isn't covered, and absent
  pub pages_now : (p : ℕ) → (slice_get pages p ≡ slice_get core.pages p) ⊎ (In p f.chain.blocks × (covers_blocks m.kind (guard_in g.body) ≡ false) × (slice_get pages p ≡ Some None))
  pages_now p =
      elim (among_cases p (sheet_numbers g.checkpoint)) [
        | inl covered' ↦
            let x = map-In (λ (x : Sheet). x.page) p g.checkpoint covered' in
            let same : (y : Sheet) → In y g.checkpoint → y.page ≡ p → y.bytes ≡ x.0.bytes =
            λ y j on.
            let a : Some y.bytes ≡ Some x.0.bytes = sym (sheet_bytes y (covers m.kind (guard_in g.body) g.index g.blocks y j)) ∙ ap (page_of core) (on ∙ x.2) ∙ sheet_bytes x.0 (covers m.kind (guard_in g.body) g.index g.blocks x.0 x.1) in
            cc a in
            let was = (page_there core x.0.page x.0.bytes (sheet_bytes x.0 (covers m.kind (guard_in g.body) g.index g.blocks x.0 x.1))).1 in
            let was' : slice_get core.pages p ≡ Some (Some x.0.bytes) = ap (slice_get core.pages) x.2 ∙ was in
            let lower = place_within core.pages p (Some x.0.bytes) was' in
            let n1 = length-with_pages (flat_map (λ g. g.checkpoint) s.open_grants) s.home.core.pages in
            let n2 = length-with_pages (flat_map (λ g. g.checkpoint) s.open_grants) (without_pages (lent_pages g) s.home.core.pages) in
            let n3 = length-without (lent_pages g) s.home.core.pages in
            let r = place_there before p (omega (arith, lower, n1, n2, n3)) in
            inl (ap (λ l. slice_get l p) pages_are_two ∙ with_pages_known g.checkpoint before p x.0.bytes r.0 covered' same r.1 ∙ sym was')
        | inr uncovered' ↦
            let now : slice_get pages p ≡ slice_get before p = ap (λ l. slice_get l p) pages_are_two ∙ with_pages_apart g.checkpoint before p uncovered' in
            elim (among_cases p (lent_pages g)) [
              | inl lent ↦
                  let u = uncovers m.kind (guard_in g.body) g.index g.blocks p lent uncovered' in
                  let block : In p f.chain.blocks = subst (λ l. In p l) block_numbers u.0 in
                  let mine : In p (pages_of core m) = subst (λ l. In p l) (sym (pages_are core m f e)) (In-right p f.chain.index f.chain.blocks block) in
                  let none : In p (sheet_numbers (flat_map (λ g. g.checkpoint) s.open_grants)) → ⊥ =
                  λ a. let q = checkpoint_lent s k p a in free q.0 q.1 (lent_file s k m p q.0 i mine q.1 q.2 q.3) in
                  let b = there p (In-right p f.chain.index f.chain.blocks block) in
                  let was = (page_there core p b.0 b.1).1 in
                  let home : slice_get s.home.core.pages p ≡ Some (Some b.0) = sym (with_pages_apart (flat_map (λ g. g.checkpoint) s.open_grants) s.home.core.pages p none) ∙ was in
                  inr (block, u.1, now ∙ with_pages_apart (flat_map (λ g. g.checkpoint) s.open_grants) (without_pages (lent_pages g) s.home.core.pages) p none ∙ without_there (lent_pages g) s.home.core.pages p (Some b.0) lent home)
              | inr none ↦
                  inl (now ∙ with_pages_cong (flat_map (λ g. g.checkpoint) s.open_grants) (without_pages (lent_pages g) s.home.core.pages) s.home.core.pages p (without_apart (lent_pages g) s.home.core.pages p none))
            ]
      ]

  pub agree : AgreeOn core (with_other core pages) (survey core plain)
  agree m' f' p j e' a =
      elim (pages_now p) [
        | inl same ↦ page_same core pages p same
        | inr gone ↦ absurd (block_unread core (survey core plain) m m' f f' p (sound_parts core plain k.verifies.sound).paged i e gone.0 (uncovered_kind m.kind (guard_in g.body) gone.1).0 j e' a)
      ]

  pub fit' : IsFit (with_other core pages)
  fit' = record {
    full = λ p bytes h.
        elim (pages_now p) [
          | inl same ↦ k.fit.full p bytes (sym (page_same core pages p same) ∙ h)
          | inr gone ↦
              let t : slice_get pages p ≡ Some (Some bytes) = (page_there (with_other core pages) p bytes h).1 in
              let no' : Some None ≡ Some (Some bytes) = sym gone.2 ∙ t in
              absurd (cc no')
        ];
    long = search (arith, length-with_pages, length-without);
    numbers = k.fit.numbers;
  }

  any_more : (p : OpenGrant → Bool) → list_any p s.open_grants ≡ true → list_any p (s.open_grants ++ g ∷ []) ≡ true
  any_more p h = list_any-append p s.open_grants (g ∷ []) ∙ or_left (list_any p s.open_grants) (list_any p (g ∷ [])) h

  old_or_new : (h : OpenGrant) → In h (s.open_grants ++ g ∷ []) → In h s.open_grants ⊎ (h ≡ g)
  old_or_new h j =
      elim (In-cases h s.open_grants (g ∷ []) j) [
        | inl old ↦ inl old
        | inr new ↦ elim new [ inl same ↦ inr same | inr none ↦ absurd none ]
      ]

  parent_more : (l : ℕ) (r : Option Row) → has_parent_grant s l r ≡ true → has_parent_grant ((opens s g)) l r ≡ true
  parent_more l None h = h
  parent_more l (Some r) h = any_more (λ (x : OpenGrant). eqb x.lib l && eqb x.ino r.parent && is_write x.kind) h

  -- the body that a grant lent is settled still
  body_more : (h : OpenGrant) → In h s.open_grants → h.body ≡ settled_body (image_with (settled s) pages) h.ino
  body_more h j =
      let row = some_of (row_at s.home h.ino) (k.live h j) in
      k.bodies h j ∙ sym (body_still (settled s) pages k.fit fit' k.verifies agree h.ino row.0 row.1)

  -- the blocks of a guarded file are settled as they were lent
  guarded_more : (h : OpenGrant) → In h s.open_grants → h.kind ≡ Write → HasLentBlocks (settled s) h → HasLentBlocks (image_with (settled s) pages) h
  guarded_more h j w was x a =
      elim (pages_now x.page) [
        | inl same ↦ page_same core pages x.page same ∙ was x a
        | inr gone ↦
            let mine : In x.page (pages_of core m) = subst (λ l. In x.page l) (sym (pages_are core m f e)) (In-right x.page f.chain.index f.chain.blocks gone.0) in
            let theirs : In x.page (sheet_numbers (h.index ++ h.blocks)) = in_numbers (h.index ++ h.blocks) x x.page (In-right x h.index h.blocks a) refl in
            absurd (free h j (lent_file s k m x.page h i mine j w theirs))
      ]

  guarded_new : guard_in g.body ≡ true → HasLentBlocks (image_with (settled s) pages) g
  guarded_new t x a =
      elim (pages_now x.page) [
        | inl same ↦ page_same core pages x.page same ∙ sheet_bytes x (In-right x g.index g.blocks a)
        | inr gone ↦ absurd (false≢true (sym (uncovered_kind m.kind (guard_in g.body) gone.1).1 ∙ t))
      ]

  lent_new : LentIsListed (image_with (settled s) pages) g
  lent_new = record {
    met = m;
    file = f;
    stands = met_still (settled s) pages k.fit fit' k.verifies agree m i;
    read = file_agrees core pages (survey core plain) (sound_parts core plain k.verifies.sound).grammar agree m i ∙ e;
    number = refl;
    of = refl;
    index = index_numbers;
    blocks = block_numbers;
  }

  row_is : row_at s.home m.ino ≡ Some (row_by m f.body)
  row_is = row_at_is core plain k.fit k.verifies.sound (settled s) (tables s k) m.ino ∙ row_met core plain k.fit k.verifies.sound m f i e

  -- the state after the grant
  pub write_grant_kept : Kept ((opens s (opened s lib m.ino Write (row_by m f.body))))
  write_grant_kept = record {
    fit = fit';
    verifies = verifies_still (settled s) pages k.fit fit' k.verifies agree;
    live = λ h j. elim (old_or_new h j) [
      | inl old ↦ k.live h old
      | inr new ↦ ap (λ (x : OpenGrant). is_some (row_at s.home x.ino)) new ∙ ap is_some row_is
    ];
    apart = all_pairs_push MayBothStand s.open_grants g k.apart (λ n d l same. absurd (free (get_or s.open_grants n d) (get_or-In s.open_grants n d l) same));
    bodies = λ h j. elim (old_or_new h j) [
      | inl old ↦ body_more h old
      | inr new ↦
          let B : OpenGrant → Type 0 = λ x. x.body ≡ settled_body (image_with (settled s) pages) x.ino in
          subst B (sym new) (sym (body_still (settled s) pages k.fit fit' k.verifies agree m.ino (row_by m f.body) row_is))
    ];
    held = λ h j w. elim (old_or_new h j) [
      | inl old ↦ parent_more h.lib (row_at s.home h.ino) (k.held h old w)
      | inr new ↦ let wrong : Write ≡ Hold = sym (ap (λ (x : OpenGrant). x.kind) new) ∙ w in absurd (cc wrong)
    ];
    lent = λ h j w. elim (old_or_new h j) [
      | inl old ↦ lent_still (settled s) pages k.fit fit' k.verifies agree h (k.lent h old w)
      | inr new ↦ let L : OpenGrant → Type 0 = λ x. LentIsListed (image_with (settled s) pages) x in subst L (sym new) lent_new
    ];
    checkpoints = λ h j. elim (old_or_new h j) [
      | inl old ↦ k.checkpoints h old
      | inr new ↦ search arith
    ];
    guarded = λ h j w d t. elim (old_or_new h j) [
      | inl old ↦ guarded_more h old w (k.guarded h old w d t)
      | inr new ↦
          let L : OpenGrant → Type 0 = λ x. HasLentBlocks (image_with (settled s) pages) x in
          subst L (sym new) (guarded_new (sym (ap (λ (x : OpenGrant). guard_in x.body) new) ∙ t))
    ];
    absent = λ p gone c. elim (without_absent (lent_pages g) s.home.core.pages p gone) [
      | inl lent ↦
          inl (In-list_any (λ (x : OpenGrant). is_write x.kind && is_among p (sheet_numbers (x.index ++ x.blocks))) g (s.open_grants ++ g ∷ []) (In-right g s.open_grants (g ∷ []) (inl refl)) (In-is_among p (sheet_numbers (g.index ++ g.blocks)) lent))
      | inr old ↦ search (arith, any_more)
    ];
    pages_placed = k.pages_placed;
    out_free = k.out_free;
    numbers_placed = k.numbers_placed;
    numbers_free = k.numbers_free;
  }
