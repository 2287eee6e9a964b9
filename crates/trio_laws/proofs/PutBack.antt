-- After a refusal the image of a refusal is settled, once the bundle's checkpoints are back at home.
use Rattle.trio_laws.proofs.Words.{Bool, Bundle, Core, GivenTo, In, In-cases, In-filter, In-flat, In-left, In-right, Kept, Kind, List, None, OpenGrant, Pages, Sheet, Some, State, Write, Written, among_cases, ap, arith, bundle_pages, bundle_sheets, cases_Bool, checkpoints_of, cond, covered, covers_blocks, false, filter-In, flat_map-In, free_unlisted, grants_after, guard_in, guard_of, index_apart, inl, inr, is_in_bundle, is_some, map-In, not, not_from_false, pages_same, plain, refl, refused_image, settled, sheet_numbers, slice_get, slice_index, sound_parts, subst, survey, sym, true, uncovered, with_pages, with_pages-append, with_pages_apart, with_pages_cong, ℕ, ◌++◌, ◌∙◌, ◌≡◌}
use Rattle.trio_laws.proofs.Accepting.{handed_back}
use Rattle.trio_laws.proofs.Bundles.{in_numbers}
use Rattle.trio_laws.proofs.Checkpoints.{with_pages_like, checkpoint_from, one_lender, checkpoints_one}
use Rattle.trio_laws.proofs.Uncovered.{uncovered_from, uncovered_handed}
use Rattle.trio_laws.proofs.StateFacts.{covered_write, tables, lent_met}

-- a checkpoint that doesn't cover the blocks covers the index pages alone
covered_index : (of : Kind) (guarded : Bool) (index blocks : List Sheet) (p : ℕ) → covers_blocks of guarded ≡ false → In p (sheet_numbers (covered Write of guarded index blocks)) → In p (sheet_numbers index)
covered_index of guarded index blocks p e i = subst (λ t. In p (sheet_numbers (cond t (index ++ blocks) index))) e i

in_append : (p : ℕ) (blocks index : List Sheet) → In p (sheet_numbers blocks) → In p (sheet_numbers (index ++ blocks))
in_append p blocks index i = search (arith, map-In, in_numbers, In-right)

module _ (s : State) (k : Kept s) (lib : ℕ) (b : Bundle) (given : GivenTo s lib b) where
  abbrev core : Core
  core = (settled s).core

  -- a block of a written file that isn't covered is in no checkpoint
  block_bare : (w : Written) (x : Sheet) (p : ℕ) → In w b.writes → covers_blocks w.kind (guard_of (settled s) w.ino) ≡ false → In p (sheet_numbers w.blocks) → In x (checkpoints_of s.open_grants) → p ≡ x.page → ⊥
  block_bare w x p i uncovered' a j on =
      let files = survey core plain in
      let c = checkpoint_from s k x j in
      let g : OpenGrant = c.0 in
      let y = given.writes w i in
      let mine : In p (sheet_numbers (y.grant.index ++ y.grant.blocks)) = in_append p y.grant.blocks y.grant.index (subst (λ l. In p l) y.blocks a) in
      let theirs : In p (sheet_numbers (g.index ++ g.blocks)) = subst (λ n. In n (sheet_numbers (g.index ++ g.blocks))) (sym on) c.4 in
      let same : g ≡ y.grant = one_lender s k p g y.grant c.1 y.is_open c.3 y.kind theirs mine in
      let of : g.of ≡ w.kind = ap (λ (z : OpenGrant). z.of) same ∙ y.of in
      let guarded : guard_in g.body ≡ guard_of (settled s) w.ino = ap guard_in (k.bodies g c.1) ∙ ap (guard_of (settled s)) (ap (λ (z : OpenGrant). z.ino) same ∙ y.ino) in
      let bare' : covers_blocks g.of (guard_in g.body) ≡ false = ap (λ t. covers_blocks t (guard_in g.body)) of ∙ ap (covers_blocks w.kind) guarded ∙ uncovered' in
      let numbers : sheet_numbers g.checkpoint ≡ sheet_numbers (covered Write g.of (guard_in g.body) g.index g.blocks) =
      k.checkpoints g c.1 ∙ ap (λ t. sheet_numbers (covered t g.of (guard_in g.body) g.index g.blocks)) c.3 in
      let index : In p (sheet_numbers g.index) =
      covered_index g.of (guard_in g.body) g.index g.blocks p bare' (subst (λ l. In p l) numbers (in_numbers g.checkpoint x p c.2 on)) in
      let l = k.lent g c.1 c.3 in
      let l' = k.lent y.grant y.is_open y.kind in
      index_apart core files l.met l'.met l.file l'.file p (sound_parts core plain k.verifies.sound).paged l.stands l'.stands l.read l'.read
      (subst (λ ns. In p ns) l.index index)
      (subst (λ ns. In p ns) (y.blocks ∙ l'.blocks) a)

  -- no checkpoint covers what is uncovered
  pub bare : (p : ℕ) → In p (sheet_numbers (uncovered (settled s) b ++ b.pages)) → In p (sheet_numbers (checkpoints_of s.open_grants)) → ⊥
  bare p i j =
      let r = map-In (λ (x : Sheet). x.page) p (uncovered (settled s) b ++ b.pages) i in
      let q = map-In (λ (x : Sheet). x.page) p (checkpoints_of s.open_grants) j in
      elim (uncovered_from s k lib b given r.0 r.1) [
        | inr w ↦ block_bare w.0 q.0 p w.1 w.2 (in_numbers w.0.blocks r.0 p w.3 r.2) q.1 q.2
        | inl handed ↦
            let c = checkpoint_from s k q.0 q.1 in
            let l = k.lent c.0 c.1 c.3 in
            let theirs : In p (sheet_numbers (c.0.index ++ c.0.blocks)) = subst (λ n. In n (sheet_numbers (c.0.index ++ c.0.blocks))) (sym q.2) c.4 in
            let o = given.pages p (in_numbers b.pages r.0 p handed r.2) in
            let z : slice_index s.home.owners p ≡ 0 = k.out_free p (ap is_some o) in
            free_unlisted core plain k.fit k.verifies.sound (settled s) (tables s k) p z l.met l.stands (lent_met s k c.0 c.1 c.3 p theirs)
      ]

  module _ (sheets : List Sheet) (from : (x : Sheet) → In x sheets → (g : OpenGrant) × In g s.open_grants × (is_in_bundle lib b g ≡ true) × In x g.checkpoint) (all : (g : OpenGrant) (x : Sheet) → In g s.open_grants → is_in_bundle lib b g ≡ true → In x g.checkpoint → In x sheets) where
    -- the checkpoints of the grants that stay, of all, and what is put in place as it was handed in
    abbrev left : List Sheet
    left = checkpoints_of (grants_after s lib b)

    abbrev every : List Sheet
    every = checkpoints_of s.open_grants

    abbrev handed : List Sheet
    handed = uncovered (settled s) b ++ b.pages

    abbrev home : Pages
    home = s.home.core.pages

    left_every : (x : Sheet) → In x left → In x every
    left_every x i =
        let r = flat_map-In (λ (g : OpenGrant). g.checkpoint) x (grants_after s lib b) i in
        let f = filter-In (λ (g : OpenGrant). not (is_in_bundle lib b g)) r.0 s.open_grants r.1 in
        In-flat (λ (g : OpenGrant). g.checkpoint) r.0 x s.open_grants f.0 r.2

    sheets_every : (x : Sheet) → In x sheets → In x every
    sheets_every x i = (let r = from x i in In-flat (λ (g : OpenGrant). g.checkpoint) r.0 x s.open_grants r.1 r.3)

    -- they are over pages of the bundle
    pub sheets_handed : (x : Sheet) → In x sheets → In x.page (bundle_pages b)
    sheets_handed x i =
        let r = from x i in
        let c = covered_write r.0.kind r.0.of (guard_in r.0.body) r.0.index r.0.blocks x.page (subst (λ l. In x.page l) (k.checkpoints r.0 r.1) (in_numbers r.0.checkpoint x x.page r.3 refl)) in
        handed_back s k lib b given r.0 x.page r.1 c.0 r.2 c.1

    -- a page that is absent at home stays so unless it is the bundle's
    pub refused_away : (p : ℕ) → slice_get home p ≡ Some None → (In p (bundle_pages b) → ⊥) → slice_get (with_pages handed (with_pages sheets home)) p ≡ Some None
    refused_away p gone other =
        with_pages_apart handed (with_pages sheets home) p
        (λ i. let r = map-In (λ (x : Sheet). x.page) p handed i in other (in_numbers (bundle_sheets b) r.0 p (uncovered_handed s k lib b given r.0 r.1) r.2))
        ∙ with_pages_apart sheets home p
        (λ i. let r = map-In (λ (x : Sheet). x.page) p sheets i in other (subst (λ n. In n (bundle_pages b)) (sym r.2) (sheets_handed r.0 r.1)))
        ∙ gone

    parts_every : (x : Sheet) → In x (sheets ++ left) → In x every
    parts_every x i = elim (In-cases x sheets left i) [ inl a ↦ sheets_every x a | inr a ↦ left_every x a ]

    every_parts : (x : Sheet) → In x every → In x (sheets ++ left)
    every_parts x i =
        let r = flat_map-In (λ (g : OpenGrant). g.checkpoint) x s.open_grants i in
        elim (cases_Bool (is_in_bundle lib b r.0)) [
          | inl own ↦ In-left x sheets left (all r.0 x r.1 own r.2)
          | inr out ↦
              let j = In-filter (λ (g : OpenGrant). not (is_in_bundle lib b g)) r.0 s.open_grants r.1 (not_from_false (is_in_bundle lib b r.0) out) in
              In-right x sheets left (In-flat (λ (g : OpenGrant). g.checkpoint) r.0 x (grants_after s lib b) j r.2)
        ]

    numbers_of : (xs : List Sheet) → ((x : Sheet) → In x xs → In x every) → (p : ℕ) → In p (sheet_numbers xs) → In p (sheet_numbers every)
    numbers_of xs h p i =
        let r = map-In (λ (x : Sheet). x.page) p xs i in in_numbers every r.0 p (h r.0 r.1) r.2

    page_then : (p : ℕ) → slice_get (with_pages left (with_pages handed (with_pages sheets home))) p ≡ slice_get (with_pages handed (with_pages every home)) p
    page_then p =
        elim (among_cases p (sheet_numbers handed)) [
          | inl i ↦
              with_pages_apart left (with_pages handed (with_pages sheets home)) p (λ j. bare p i (numbers_of left left_every p j))
              ∙ with_pages_cong handed (with_pages sheets home) (with_pages every home) p
              (with_pages_apart sheets home p (λ j. bare p i (numbers_of sheets sheets_every p j)) ∙ sym (with_pages_apart every home p (bare p i)))
          | inr none ↦
              with_pages_cong left (with_pages handed (with_pages sheets home)) (with_pages sheets home) p (with_pages_apart handed (with_pages sheets home) p none)
              ∙ ap (λ ps. slice_get ps p) (sym (with_pages-append sheets left home))
              ∙ with_pages_like (sheets ++ left) every home p parts_every every_parts (checkpoints_one s k)
              ∙ sym (with_pages_apart handed (with_pages every home) p none)
        ]

    pub refused_settles : with_pages left (with_pages handed (with_pages sheets home)) ≡ (refused_image (settled s) b).core.pages
    refused_settles =
        pages_same (with_pages left (with_pages handed (with_pages sheets home))) (with_pages handed (with_pages every home)) page_then
