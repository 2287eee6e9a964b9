-- An accepted image that is spread over home and the checkpoints is settled.
use Rattle.trio_laws.proofs.Words.{Bundle, Core, GivenTo, In, In-filter, In-flat, In-map, IsFit, IsSpread, Kept, List, None, OpenGrant, Option, Pages, Pick, Sheet, Some, State, all_listed, among_cases, ap, arith, bodies_are, bundle_pages, bundle_sheets, cases_Bool, checkpoints_of, creds_of, false, flat_map-In, grants_after, inl, inr, is_accepted, is_in_bundle, is_sound, length, length-with_pages, lent_part, listed_no_root, map, map-In, next, not, not_from_false, option_map, page_there, pages_same, place_there, place_within, proposed, proposed_pick, put_on, refl, settled, sheet_numbers, slice_get, subst, sym, true, unless_absent, with_bodies-get, with_pages, with_pages_absent, with_pages_apart, with_pages_known, ℕ, ◌++◌, ◌<◌, ◌∙◌, ◌≡◌}
use Rattle.trio_surveys.proofs.Accepted.{length-bodies}
use Rattle.trio_laws.proofs.Accepting.{handed_back}
use Rattle.trio_laws.proofs.Bundles.{in_numbers}
use Rattle.trio_laws.proofs.Checkpoints.{checkpoint_from, checkpoint_settled}
use Rattle.trio_laws.proofs.Ended.{blank_numbers}
use Rattle.trio_laws.proofs.Survivors.{fit_now, sound_now}

-- a place of which the image has the page is there, whether or not the page is absent
place_either : (before after : Option (Option (List ℕ))) (bytes : List ℕ) → after ≡ Some (Some bytes) → (o : Option (List ℕ)) × (unless_absent before after ≡ Some o)
place_either None after bytes e = (Some bytes, e)
place_either (Some None) after bytes e = (None, refl)
place_either (Some (Some b)) after bytes e = (Some bytes, e)

page_kept : (before after : Option (Option (List ℕ))) → (before ≡ Some None → after ≡ Some None) → unless_absent before after ≡ after
page_kept before after h = search arith

-- a page that is there stays there
still_there : (sheets : List Sheet) (pages : Pages) (n : ℕ) (bytes : List ℕ) → slice_get pages n ≡ Some (Some bytes) → (other : List ℕ) × (slice_get (with_pages sheets pages) n ≡ Some (Some other))
still_there sheets pages n bytes e =
    let r = place_there (with_pages sheets pages) n (subst (λ l. n < l) (sym (length-with_pages sheets pages)) (place_within pages n (Some bytes) e)) in
    by_place r.0 r.1
  where
    by_place : (o : Option (List ℕ)) → slice_get (with_pages sheets pages) n ≡ Some o → (other : List ℕ) × (slice_get (with_pages sheets pages) n ≡ Some (Some other))
    by_place None gone = (let wrong : Some None ≡ Some (Some bytes) = sym (with_pages_absent sheets pages n gone).1 ∙ e in absurd (cc wrong))
    by_place (Some other) there = (other, there)

-- a page that is absent at home stays so unless it is the bundle's
pub accepted_away : (s : State) (b : Bundle) (after pages : Pages) (grants : List OpenGrant) → IsSpread s b after pages grants → (p : ℕ) → slice_get s.home.core.pages p ≡ Some None → (In p (bundle_pages b) → ⊥) → slice_get pages p ≡ Some None
accepted_away s b after pages grants spread p gone other =
    spread.home p ∙ ap (λ o. unless_absent o (slice_get after p)) (with_pages_apart (bundle_sheets b) s.home.core.pages p other ∙ gone)

one_bytes : (o : Option (Option (List ℕ))) (x y : List ℕ) → o ≡ Some (Some x) → o ≡ Some (Some y) → x ≡ y
one_bytes o x y e f = (let s : Some (Some x) ≡ Some (Some y) = sym e ∙ f in cc s)

module _ (s : State) (k : Kept s) (lib : ℕ) (b : Bundle) (given : GivenTo s lib b) (accepted : is_accepted (settled s) (creds_of s lib) b ≡ true) where
  abbrev core : Core
  core = proposed (settled s) b

  abbrev pick : Pick
  pick = proposed_pick (settled s) b

  abbrev after : Pages
  after = (next (settled s) b).core.pages

  fit : IsFit core
  fit = fit_now s k lib (creds_of s lib) b given accepted

  sound : is_sound core pick ≡ true
  sound = sound_now s k lib (creds_of s lib) b given accepted

  -- a page of the image, by what the bundle leaves at its number
  after_get : (p : ℕ) → slice_get after p ≡ option_map (option_map (put_on p (all_listed core pick))) (slice_get core.pages p)
  after_get p = ap (λ ps. slice_get ps p) (bodies_are core pick fit sound) ∙ with_bodies-get p (all_listed core pick) core.pages (listed_no_root core pick fit sound)

  pub next_long : length after ≡ length s.home.core.pages
  next_long = search (arith, length-bodies, length-with_pages)

  -- a covered page is there
  pub next_there : (x : Sheet) → In x (checkpoints_of s.open_grants) → (bytes : List ℕ) × (slice_get after x.page ≡ Some (Some bytes))
  next_there x i =
      let here = page_there (settled s).core x.page x.bytes (checkpoint_settled s k x i) in
      let w = still_there (bundle_sheets b) (settled s).core.pages x.page x.bytes here.1 in (
        put_on x.page (all_listed core pick) w.0,
        after_get x.page ∙ ap (option_map (option_map (put_on x.page (all_listed core pick)))) w.1,
      )

  module _ (pages : Pages) (grants : List OpenGrant) (like : map lent_part grants ≡ map lent_part (grants_after s lib b)) (spread : IsSpread s b (next (settled s) b).core.pages pages grants) where
    -- a page that a grant covers which stays open is covered then
    covered_then : (g : OpenGrant) (p : ℕ) → In g s.open_grants → is_in_bundle lib b g ≡ false → In p (sheet_numbers g.checkpoint) → In p (sheet_numbers (checkpoints_of grants))
    covered_then g p i out a =
        let j = In-filter (λ (g : OpenGrant). not (is_in_bundle lib b g)) g s.open_grants i (not_from_false (is_in_bundle lib b g) out) in
        let m : In (lent_part g) (map lent_part grants) = subst (λ l. In (lent_part g) l) (sym like) (In-map lent_part g (grants_after s lib b) j) in
        let r = map-In lent_part (lent_part g) grants m in
        let same : sheet_numbers g.checkpoint ≡ sheet_numbers r.0.checkpoint =
        sym (blank_numbers g.checkpoint) ∙ ap (λ (x : OpenGrant). sheet_numbers x.checkpoint) r.2 ∙ blank_numbers r.0.checkpoint in
        let q = map-In (λ (x : Sheet). x.page) p r.0.checkpoint (subst (λ l. In p l) same a) in
        in_numbers (checkpoints_of grants) q.0 p (In-flat (λ (g : OpenGrant). g.checkpoint) r.0 q.0 grants r.1 q.1) q.2

    -- a page that no grant covers then, and that the bundle leaves absent at home, is absent from the image
    absent_stays : (p : ℕ) → (In p (sheet_numbers (checkpoints_of grants)) → ⊥) → slice_get (with_pages (bundle_sheets b) s.home.core.pages) p ≡ Some None → slice_get after p ≡ Some None
    absent_stays p none e =
        let w = with_pages_absent (bundle_sheets b) s.home.core.pages p e in
        let bare : In p (sheet_numbers (checkpoints_of s.open_grants)) → ⊥ =
        λ i.
        let r = map-In (λ (x : Sheet). x.page) p (checkpoints_of s.open_grants) i in
        let c = checkpoint_from s k r.0 r.1 in
        elim (cases_Bool (is_in_bundle lib b c.0)) [
          | inl own ↦ w.0 (handed_back s k lib b given c.0 p c.1 c.3 own (subst (λ n. In n (sheet_numbers (c.0.index ++ c.0.blocks))) (sym r.2) c.4))
          | inr out ↦ none (covered_then c.0 p c.1 out (in_numbers c.0.checkpoint r.0 p c.2 r.2))
        ] in
        search (arith, after_get, with_pages_apart)

    page_then : (p : ℕ) → slice_get (with_pages (checkpoints_of grants) pages) p ≡ slice_get after p
    page_then p =
        elim (among_cases p (sheet_numbers (checkpoints_of grants))) [
          | inl i ↦
              let at : (x : Sheet) → In x (checkpoints_of grants) → x.page ≡ p → slice_get after p ≡ Some (Some x.bytes) =
              λ x j on.
              let q = flat_map-In (λ (g : OpenGrant). g.checkpoint) x grants j in
              ap (slice_get after) (sym on) ∙ spread.covered q.0 x q.1 q.2 in
              let r = map-In (λ (x : Sheet). x.page) p (checkpoints_of grants) i in
              let here = at r.0 r.1 (sym r.2) in
              let o = place_either (slice_get (with_pages (bundle_sheets b) s.home.core.pages) p) (slice_get after p) r.0.bytes here in
              with_pages_known (checkpoints_of grants) pages p r.0.bytes o.0 i (λ x j on. one_bytes (slice_get after p) x.bytes r.0.bytes (at x j on) here) (spread.home p ∙ o.1)
              ∙ sym here
          | inr none ↦ search (arith, with_pages_apart, page_kept, absent_stays)
        ]

    pub accepted_settles : with_pages (checkpoints_of grants) pages ≡ after
    accepted_settles = pages_same (with_pages (checkpoints_of grants) pages) after page_then
