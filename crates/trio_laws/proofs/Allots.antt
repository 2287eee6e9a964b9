-- An allotment keeps what holds of a state.
use Rattle.trio_laws.proofs.Words.{AgreeOn, Allot, Core, CtlAnswer, In, In-is_among, In-right, IsFit, Kept, LibNo, List, None, Option, Pages, Row, Some, State, Step, WasAllotted, [], allots, among_cases, and_parts, ap, arith, both_ways, eqb-true, false, false_from_ne_true, false≢true, filter-In, flat_map, free_numbers, free_pages, free_unlisted, has_parent_grant, inl, inr, is_among, is_among-In, is_core, is_out, is_out-given, is_some, length, length-with_all, length-with_pages, length-without, lib_at-others, lib_at-set, ltb-true, not-true, out_with, page_same, page_there, pages_are, place_there, place_within, plain, refl, row_at, settled, sheet_numbers, slice_get, slice_index, some_of, subst, suc, survey, sym, take, true, with_other, with_pages, with_pages_apart, with_pages_cong, without_absent, without_apart, without_pages, without_there, zero, ℕ, ◌<◌, ◌∙◌, ◌∷◌, ◌≡◌, ◌⊎◌, ◌++◌}
use Rattle.trio_laws.proofs.Agreeing.{verifies_still, lent_still, body_still}
use Rattle.trio_laws.proofs.Bundles.{in_numbers}
use Rattle.trio_laws.proofs.Cases.{after_allot}
use Rattle.trio_laws.proofs.Grants.{logged_kept}
use Rattle.trio_laws.proofs.Refusing.{read_listed}
use Rattle.trio_laws.proofs.StateFacts.{tables, checkpoint_lent, lent_met}

take_in : (n : ℕ) (xs : List ℕ) (x : ℕ) → In x (take n xs) → In x xs
take_in zero xs x i = absurd i
take_in (suc n) [] x i = absurd i
take_in (suc n) (y ∷ ys) x (inl e) = inl e
take_in (suc n) (y ∷ ys) x (inr i) = inr (take_in n ys x i)

-- where no row is there, it is none
pub none_row : (o : Option Row) → is_some o ≡ false → o ≡ None
none_row None e = refl
none_row (Some r) e = absurd (false≢true (sym e))

module _ (s : State) (lib count many : ℕ) where
  abbrev pub ps : List ℕ
  ps = take count (free_pages s)

  abbrev pub ns : List ℕ
  ns = take many (free_numbers s)

  pub page_free : (p : ℕ) → In p ps → (slice_index s.home.owners p ≡ 0) × (is_out s.pages_out p ≡ false)
  page_free p i = search (arith, filter-In, take_in, and_parts, eqb-true, not-true)

  pub number_free : (n : ℕ) → In n ns → (row_at s.home n ≡ None) × (is_out s.numbers_out n ≡ false)
  number_free n i = search (arith, filter-In, take_in, and_parts, none_row, not-true)

  -- what was out stays so: it isn't free
  pub pages_apart : (other n : ℕ) → WasAllotted s.pages_out other n → WasAllotted (out_with s.pages_out lib ps) other n
  pages_apart other n out =
      lib_at-others (Some (record { 0 = lib })) ps n s.pages_out
      (false_from_ne_true (is_among n ps) (λ t. both_ways (is_out s.pages_out n) (page_free n (is_among-In n ps t)).1 (ap is_some out)))
      ∙ out

  pub numbers_apart : (other n : ℕ) → WasAllotted s.numbers_out other n → WasAllotted (out_with s.numbers_out lib ns) other n
  numbers_apart other n out =
      lib_at-others (Some (record { 0 = lib })) ns n s.numbers_out
      (false_from_ne_true (is_among n ns) (λ t. both_ways (is_out s.numbers_out n) (number_free n (is_among-In n ns t)).1 (ap is_some out)))
      ∙ out

  module _ (k : Kept s) where
    abbrev pub core : Core
    core = (settled s).core

    abbrev pub pages : Pages
    pages = with_pages (flat_map (λ g. g.checkpoint) s.open_grants) (without_pages ps s.home.core.pages)

    pub uncovered' : (p : ℕ) → In p ps → In p (sheet_numbers (flat_map (λ g. g.checkpoint) s.open_grants)) → ⊥
    uncovered' p i j =
        let g = checkpoint_lent s k p j in
        free_unlisted core plain k.fit k.verifies.sound (settled s) (tables s k) p (page_free p i).0 (k.lent g.0 g.1 g.2).met (k.lent g.0 g.1 g.2).stands (lent_met s k g.0 g.1 g.2 p g.3)

    pub pages_now : (p : ℕ) → (slice_get pages p ≡ slice_get core.pages p) ⊎ (In p ps × ((b : List ℕ) → slice_get pages p ≡ Some (Some b) → ⊥))
    pages_now p =
        elim (among_cases p ps) [
          | inr none ↦ inl (with_pages_cong (flat_map (λ g. g.checkpoint) s.open_grants) (without_pages ps s.home.core.pages) s.home.core.pages p (without_apart ps s.home.core.pages p none))
          | inl taken ↦
              inr (
                taken,
                λ b e.
                    let now : slice_get (without_pages ps s.home.core.pages) p ≡ Some (Some b) = sym (with_pages_apart (flat_map (λ g. g.checkpoint) s.open_grants) (without_pages ps s.home.core.pages) p (uncovered' p taken)) ∙ e in
                    let l = place_within (without_pages ps s.home.core.pages) p (Some b) now in
                    let n = length-without ps s.home.core.pages in
                    let r = place_there s.home.core.pages p (omega (arith, l, n)) in
                    let gone = without_there ps s.home.core.pages p r.0 taken r.1 in
                    let wrong : Some None ≡ Some (Some b) = sym gone ∙ now in
                    absurd (cc wrong),
              )
        ]

    pub agree : AgreeOn core (with_other core pages) (survey core plain)
    agree m f p i e a =
        elim (pages_now p) [
          | inl same ↦ page_same core pages p same
          | inr gone ↦
              absurd (free_unlisted core plain k.fit k.verifies.sound (settled s) (tables s k) p (page_free p gone.0).0 m i (subst (λ l. In p l) (sym (pages_are core m f e)) (read_listed m.kind f p a)))
        ]

    pub fit' : IsFit (with_other core pages)
    fit' = record {
      full = λ p bytes h.
          elim (pages_now p) [
            | inl same ↦ k.fit.full p bytes (sym (page_same core pages p same) ∙ h)
            | inr gone ↦ absurd (gone.1 bytes (page_there (with_other core pages) p bytes h).1)
          ];
      long = search (arith, length-with_pages, length-without);
      numbers = k.fit.numbers;
    }

    parent_same : (l : ℕ) (r : Option Row) → has_parent_grant s l r ≡ true → has_parent_grant (allots s lib ps ns) l r ≡ true
    parent_same l None e = e
    parent_same l (Some r) e = e

    abbrev library : LibNo
    library = record { 0 = lib }

    -- a core page has its place among those that may be out
    within : (p : ℕ) → is_core core.range p ≡ true → p < length s.pages_out
    within p c = search (arith, ltb-true, and_parts)

    out_stays : (p : ℕ) → p < length s.pages_out → is_out s.pages_out p ≡ true → is_out (out_with s.pages_out lib ps) p ≡ true
    out_stays p lt out = search (arith, lib_at-set, lib_at-others)

    pub allots_kept : Kept (allots s lib ps ns)
    allots_kept = record {
      fit = fit';
      verifies = verifies_still (settled s) pages k.fit fit' k.verifies agree;
      live = k.live;
      apart = k.apart;
      bodies = λ g i.
          let r = some_of (row_at s.home g.ino) (k.live g i) in
          k.bodies g i ∙ sym (body_still (settled s) pages k.fit fit' k.verifies agree g.ino r.0 r.1);
      held = λ g i w. parent_same g.lib (row_at s.home g.ino) (k.held g i w);
      lent = λ g i w. lent_still (settled s) pages k.fit fit' k.verifies agree g (k.lent g i w);
      checkpoints = k.checkpoints;
      guarded = λ g i w d t x a. elim (pages_now x.page) [
        | inl same ↦ page_same core pages x.page same ∙ k.guarded g i w d t x a
        | inr gone ↦
            let lent : In x.page (sheet_numbers (g.index ++ g.blocks)) = in_numbers (g.index ++ g.blocks) x x.page (In-right x g.index g.blocks a) refl in
            absurd (free_unlisted core plain k.fit k.verifies.sound (settled s) (tables s k) x.page (page_free x.page gone.0).0 (k.lent g i w).met (k.lent g i w).stands (lent_met s k g i w x.page lent))
      ];
      absent = search (arith, without_absent, lib_at-set, within, In-is_among, out_stays);
      pages_placed = length-with_all (Some library) ps s.pages_out ∙ k.pages_placed;
      out_free = search (arith, is_out-given, page_free, is_among-In);
      numbers_placed = length-with_all (Some library) ns s.numbers_out ∙ k.numbers_placed;
      numbers_free = search (arith, is_out-given, number_free, is_among-In);
    }

-- a step of an allotment
pub allot_kept : (s s' : State) (lib count many : ℕ) (answer : CtlAnswer) → Kept s → Step s (Allot lib count many) answer s' → Kept s'
allot_kept s s' lib count many answer k step =
    let K : State → Type 0 = λ x. Kept x in
    elim step [
      | inl does ↦ subst K (sym does.1) (after_allot Kept s lib count many (logged_kept s k) (allots_kept s lib count many k))
      | inr none ↦ subst K (sym none.2) k
    ]
