-- Sheets that go by no order, and the checkpoints of a state that is kept.
use Rattle.trio_laws.proofs.Words.{Bool, Core, In, In-flat, In-right, Kept, Kind, List, None, OpenGrant, Option, Pages, Sheet, Some, State, Write, [], among_cases, and_parts, ap, are_new, are_new-append, are_new-before, arith, cases_eq, checkpoints_of, covered, flat_map-In, guard_in, inl, inr, is_among, is_core, leb, length, length-with_pages, listed_is_core, ltb, ltb-true, map-In, map-append, ne_eqb, not, page_from, page_of, pages_are, pages_new, pages_of, place_there, plain, refl, settled, sheet_numbers, slice_get, slice_set, sound_parts, subst, survey, sym, true, with_pages, with_pages_apart, with_pages_known, ℕ, ◌++◌, ◌<◌, ◌∙◌, ◌∷◌, ◌≡◌}
use Rattle.trio_laws.proofs.Bundles.{in_numbers}
use Rattle.trio_surveys.proofs.SheetLaws.{get-set_same, get-set_other}
use Rattle.trio_laws.proofs.StateFacts.{covered_block, covered_write, write_alone, lent_met, lent_file}

set_past : (pages : Pages) (k n : ℕ) (x : Option (List ℕ)) → slice_get pages n ≡ None → slice_get (slice_set pages k x) n ≡ None
set_past pages k n x e = search (arith, cases_eq, get-set_same, get-set_other, ne_eqb)

with_pages_past : (ss : List Sheet) (pages : Pages) (n : ℕ) → slice_get pages n ≡ None → slice_get (with_pages ss pages) n ≡ None
with_pages_past [] pages n e = e
with_pages_past (s ∷ ss) pages n e =
    with_pages_past ss (slice_set pages s.page (Some s.bytes)) n (set_past pages s.page n (Some s.bytes) e)

-- sheets of one page have the same bytes
abbrev pub OneEach : List Sheet → Type 0
OneEach ss = (x y : Sheet) → In x ss → In y ss → x.page ≡ y.page → x.bytes ≡ y.bytes

-- the same sheets, in any order and number, put the same in place
pub with_pages_like : (xs ys : List Sheet) (pages : Pages) (n : ℕ) → ((x : Sheet) → In x xs → In x ys) → ((x : Sheet) → In x ys → In x xs) → OneEach ys → slice_get (with_pages xs pages) n ≡ slice_get (with_pages ys pages) n
with_pages_like xs ys pages n there back one = by_place (slice_get pages n) refl
  where
    by_place : (o : Option (Option (List ℕ))) → slice_get pages n ≡ o → slice_get (with_pages xs pages) n ≡ slice_get (with_pages ys pages) n
    by_place None e = with_pages_past xs pages n e ∙ sym (with_pages_past ys pages n e)
    by_place (Some o) e =
        elim (among_cases n (sheet_numbers ys)) [
          | inl i ↦
              let r = map-In (λ (x : Sheet). x.page) n ys i in
              with_pages_known xs pages n r.0.bytes o (in_numbers xs r.0 n (back r.0 r.1) r.2) (λ x j on. one x r.0 (there x j) r.1 (on ∙ r.2)) e
              ∙ sym (with_pages_known ys pages n r.0.bytes o i (λ x j on. one x r.0 j r.1 (on ∙ r.2)) e)
          | inr none ↦
              with_pages_apart xs pages n
              (λ i.
              let r = map-In (λ (x : Sheet). x.page) n xs i in
              none (in_numbers ys r.0 n (there r.0 r.1) r.2))
              ∙ sym (with_pages_apart ys pages n none)
        ]

-- sheets whose numbers differ
pub one_sheet : (seen : List ℕ) (xs : List Sheet) (x y : Sheet) → are_new seen (sheet_numbers xs) ≡ true → In x xs → In y xs → x.page ≡ y.page → x ≡ y
one_sheet seen [] x y new i j e = absurd i
one_sheet seen (z ∷ zs) x y new i j e =
    let parts = and_parts (not (is_among z.page seen)) (are_new (seen ++ z.page ∷ []) (sheet_numbers zs)) new in
    let once : (w : Sheet) → In w zs → w.page ≡ z.page → ⊥ =
    λ w a on.
    let here : In z.page (seen ++ z.page ∷ []) = In-right z.page seen (z.page ∷ []) (inl refl) in
    are_new-before z.page (seen ++ z.page ∷ []) (sheet_numbers zs) parts.1 (in_numbers zs w z.page a (sym on)) here in
    elim i [
      | inl a ↦ search arith
      | inr a ↦
          elim j [
            | inl b ↦ absurd (once x a (e ∙ ap (λ (w : Sheet). w.page) b))
            | inr b ↦ one_sheet (seen ++ z.page ∷ []) zs x y parts.1 a b e
          ]
    ]

covered_new : (of : Kind) (guarded : Bool) (index blocks : List Sheet) → are_new [] (sheet_numbers (index ++ blocks)) ≡ true → are_new [] (sheet_numbers (covered Write of guarded index blocks)) ≡ true
covered_new of guarded index blocks h = search (arith, and_parts, are_new-append, map-append)

module _ (s : State) (k : Kept s) where
  -- a sheet of a checkpoint, with its grant
  pub checkpoint_from : (x : Sheet) → In x (checkpoints_of s.open_grants) → (g : OpenGrant) × In g s.open_grants × In x g.checkpoint × (g.kind ≡ Write) × In x.page (sheet_numbers (g.index ++ g.blocks))
  checkpoint_from x i =
      let r = flat_map-In (λ (g : OpenGrant). g.checkpoint) x s.open_grants i in
      let g : OpenGrant = r.0 in
      let a : In x.page (sheet_numbers g.checkpoint) = in_numbers g.checkpoint x x.page r.2 refl in
      let c = covered_write g.kind g.of (guard_in g.body) g.index g.blocks x.page (subst (λ l. In x.page l) (k.checkpoints g r.1) a) in
      (g, r.1, r.2, c.0, c.1)

  -- a page that two open write grants lent is lent by one grant
  pub one_lender : (p : ℕ) (g h : OpenGrant) → In g s.open_grants → In h s.open_grants → g.kind ≡ Write → h.kind ≡ Write → In p (sheet_numbers (g.index ++ g.blocks)) → In p (sheet_numbers (h.index ++ h.blocks)) → g ≡ h
  one_lender p g h i j w v a b =
      let l = k.lent g i w in
      let ino : h.ino ≡ l.met.ino = lent_file s k l.met p h l.stands (lent_met s k g i w p a) j v b in
      write_alone s.open_grants g h k.apart i j w (sym (ino ∙ l.number))

  checkpoint_new : (g : OpenGrant) → In g s.open_grants → g.kind ≡ Write → are_new [] (sheet_numbers g.checkpoint) ≡ true
  checkpoint_new g i w =
      let l = k.lent g i w in
      let core : Core = (settled s).core in
      let pages : sheet_numbers (g.index ++ g.blocks) ≡ pages_of core l.met =
      map-append (λ (x : Sheet). x.page) g.index g.blocks ∙ ap (λ x. x ++ sheet_numbers g.blocks) l.index ∙ ap (λ x. l.file.chain.index ++ x) l.blocks ∙ sym (pages_are core l.met l.file l.read) in
      let new : are_new [] (pages_of core l.met) ≡ true = pages_new core (survey core plain) l.met (sound_parts core plain k.verifies.sound).paged l.stands in
      ap (are_new []) (k.checkpoints g i ∙ ap (λ t. sheet_numbers (covered t g.of (guard_in g.body) g.index g.blocks)) w)
      ∙ covered_new g.of (guard_in g.body) g.index g.blocks (ap (are_new []) pages ∙ new)

  -- a block of a guarded file is covered
  pub guarded_covered : (g : OpenGrant) (x : Sheet) → In g s.open_grants → g.kind ≡ Write → guard_in g.body ≡ true → In x g.blocks → In x.page (sheet_numbers (checkpoints_of s.open_grants))
  guarded_covered g x i w t a =
      let numbers : sheet_numbers g.checkpoint ≡ sheet_numbers (covered Write g.of (guard_in g.body) g.index g.blocks) =
      k.checkpoints g i ∙ ap (λ z. sheet_numbers (covered z g.of (guard_in g.body) g.index g.blocks)) w in
      let inside : In x.page (sheet_numbers g.checkpoint) =
      subst (λ ns. In x.page ns) (sym numbers) (covered_block g.of (guard_in g.body) g.index g.blocks x.page t (in_numbers g.blocks x x.page a refl)) in
      let z = map-In (λ (v : Sheet). v.page) x.page g.checkpoint inside in
      in_numbers (checkpoints_of s.open_grants) z.0 x.page (In-flat (λ (g : OpenGrant). g.checkpoint) g z.0 s.open_grants i z.1) z.2

  -- no page stands in the checkpoints with different bytes
  pub checkpoints_one : OneEach (checkpoints_of s.open_grants)
  checkpoints_one x y i j e = search (arith, checkpoint_from, one_lender, one_sheet, checkpoint_new)

  -- a covered page is settled as its sheet says
  pub checkpoint_settled : (x : Sheet) → In x (checkpoints_of s.open_grants) → page_of (settled s).core x.page ≡ Some x.bytes
  checkpoint_settled x i =
      let core : Core = (settled s).core in
      let home : Pages = s.home.core.pages in
      let a = checkpoint_from x i in
      let l = k.lent a.0 a.1 a.3 in
      let c : is_core core.range x.page ≡ true = listed_is_core core l.met l.file x.page l.read (lent_met s k a.0 a.1 a.3 x.page a.4) in
      let below : x.page < core.range.end = ltb-true x.page core.range.end (and_parts (leb core.range.first x.page) (ltb x.page core.range.end) c).1 in
      let long = k.fit.long in
      let count = length-with_pages (checkpoints_of s.open_grants) home in
      let inside : x.page < length home = omega (arith, below, long, count) in
      let r = place_there home x.page inside in
      page_from core x.page x.bytes c
      (with_pages_known (checkpoints_of s.open_grants) home x.page x.bytes r.0 (in_numbers (checkpoints_of s.open_grants) x x.page i refl) (λ y j on. checkpoints_one y x j i on) r.1)
