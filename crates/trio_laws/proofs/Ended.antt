-- What the end of a bundle leaves of grants and of what is out, whatever the verdict.
use Rattle.trio_laws.proofs.Words.{AllPairs, AllPairs-filter, Bundle, Ends, GivenTo, Hold, Image, In, In-filter, In-is_among, In-list_any, In-map, Kept, List, MayBothStand, None, OpenGrant, Option, Row, Sheet, Some, State, Write, Written, [], among_cases, and_from, and_parts, ap, arith, blank, both_ways, covered, eq-eqb, eqb, eqb-true, false, false_from_ne_true, false≢true, filter-In, find, find-In, flat_map, get_or, grants_after, guard_in, has_parent_grant, inl, inr, is_among, is_among-In, is_hold, is_in_bundle, is_lent, is_out, is_some, is_write, is_written, length, length-map, length-with_all, lent_part, lib_at-others, list_any-In, map, map-In, not, not-true, not_from_false, or_cases, refl, row_at, sheet_numbers, slice_get, subst, sym, true, with_pages_apart, ℕ, ◌&&◌, ◌++◌, ◌+◌, ◌<◌, ◌||◌, ◌∙◌, ◌∷◌, ◌≡◌, ◌⊎◌}
use Rattle.std.proofs.lemmas.List.{get_or-map}
use Rattle.trio_tables.proofs.OutLemmas.{is_out-back}
use Rattle.trio_laws.proofs.Bundles.{Closed}
use Rattle.trio_laws.proofs.StateFacts.{by_lent, write_is, write_alone, covered_write, numbers_flat}

pub blank_numbers : (xs : List Sheet) → sheet_numbers (map blank xs) ≡ sheet_numbers xs
blank_numbers [] = refl
blank_numbers (x ∷ xs) = ap (λ l. x.page ∷ l) (blank_numbers xs)

-- the pairs of a list go by what counts of its members
module _ (R : OpenGrant → OpenGrant → Type 0) (parts : (x y : OpenGrant) → R x y → R (lent_part x) (lent_part y)) (whole : (x y : OpenGrant) → R (lent_part x) (lent_part y) → R x y) where
  pub pairs_like : (xs ys : List OpenGrant) → map lent_part xs ≡ map lent_part ys → AllPairs R ys → AllPairs R xs
  pairs_like xs ys e h i j d l m =
      let n : length xs ≡ length ys = sym (length-map xs lent_part) ∙ ap length e ∙ length-map ys lent_part in
      let il : i < length xs = omega arith in
      let iy : i < length ys = omega (arith, n) in
      let jy : j < length ys = omega (arith, n) in
      let at : (k : ℕ) → k < length xs → k < length ys → lent_part (get_or xs k d) ≡ lent_part (get_or ys k d) =
      λ k a b. sym (get_or-map lent_part xs k d (lent_part d) a) ∙ ap (λ l. get_or l k (lent_part d)) e ∙ get_or-map lent_part ys k d (lent_part d) b in
      let base : R (lent_part (get_or ys i d)) (lent_part (get_or ys j d)) = parts (get_or ys i d) (get_or ys j d) (h i j d l jy) in
      let one : R (lent_part (get_or xs i d)) (lent_part (get_or ys j d)) = subst (λ x. R x (lent_part (get_or ys j d))) (sym (at i il iy)) base in
      let two : R (lent_part (get_or xs i d)) (lent_part (get_or xs j d)) = subst (λ x. R (lent_part (get_or xs i d)) x) (sym (at j m jy)) one in
      whole (get_or xs i d) (get_or xs j d) two

module _ (s : State) (k : Kept s) (lib : ℕ) (b : Bundle) (given : GivenTo s lib b) where
  -- a write grant of the bundle is that of one of its written files
  pub bundle_write : (g : OpenGrant) → In g s.open_grants → g.kind ≡ Write → is_in_bundle lib b g ≡ true → (w : Written) × (i : In w b.writes) × ((given.writes w i).grant ≡ g)
  bundle_write g i kind in' =
      let parts = and_parts (eqb g.lib lib) ((is_write g.kind && is_written b g.ino) || (is_hold g.kind && is_among g.ino b.holds)) in' in
      elim (or_cases (is_write g.kind && is_written b g.ino) (is_hold g.kind && is_among g.ino b.holds) parts.1) [
        | inl written ↦ by_find (find (λ (w : Written). eqb w.ino g.ino) b.writes) refl (and_parts (is_write g.kind) (is_written b g.ino) written).1
        | inr held ↦ (let no : false ≡ true = sym (ap is_hold kind) ∙ (and_parts (is_hold g.kind) (is_among g.ino b.holds) held).0 in absurd (false≢true no))
      ]
    where
      by_find : (o : Option Written) → find (λ (w : Written). eqb w.ino g.ino) b.writes ≡ o → is_some o ≡ true → (w : Written) × (i : In w b.writes) × ((given.writes w i).grant ≡ g)
      by_find None f t = absurd (false≢true t)
      by_find (Some w) f t =
          let q = find-In (λ (w : Written). eqb w.ino g.ino) b.writes w f in
          let x = given.writes w q.0 in
          (w, q.0, write_alone s.open_grants x.grant g k.apart x.is_open i x.kind (x.ino ∙ eqb-true w.ino g.ino q.1))

module _ (s s' : State) (k : Kept s) (lib : ℕ) (b : Bundle) (given : GivenTo s lib b) (image' : Image) (e : Ends s lib b image' s') where
  -- a grant that is open then was open, and isn't one of the bundle's
  pub grant_before : (g : OpenGrant) → In g s'.open_grants → (h : OpenGrant) × In h s.open_grants × (is_in_bundle lib b h ≡ false) × (lent_part g ≡ lent_part h)
  grant_before g i =
      let j : In (lent_part g) (map lent_part (grants_after s lib b)) = subst (λ l. In (lent_part g) l) e.grants (In-map lent_part g s'.open_grants i) in
      let r = map-In lent_part (lent_part g) (grants_after s lib b) j in
      let f = filter-In (λ g. not (is_in_bundle lib b g)) r.0 s.open_grants r.1 in
      (r.0, f.0, not-true (is_in_bundle lib b r.0) f.1, r.2)

  pub grant_after : (h : OpenGrant) → In h s.open_grants → is_in_bundle lib b h ≡ false → (g : OpenGrant) × In g s'.open_grants × (lent_part h ≡ lent_part g)
  grant_after h i out =
      let j = In-filter (λ g. not (is_in_bundle lib b g)) h s.open_grants i (not_from_false (is_in_bundle lib b h) out) in
      let m : In (lent_part h) (map lent_part s'.open_grants) = subst (λ l. In (lent_part h) l) (sym e.grants) (In-map lent_part h (grants_after s lib b) j) in
      map-In lent_part (lent_part h) s'.open_grants m

  pub apart_then : AllPairs MayBothStand s'.open_grants
  apart_then = pairs_like MayBothStand (λ x y h. h) (λ x y h. h) s'.open_grants (grants_after s lib b) e.grants (AllPairs-filter MayBothStand (λ g. not (is_in_bundle lib b g)) s.open_grants k.apart)

  pub checkpoints_then : (g : OpenGrant) → In g s'.open_grants → sheet_numbers g.checkpoint ≡ sheet_numbers (covered g.kind g.of (guard_in g.body) g.index g.blocks)
  checkpoints_then g i = search (arith, grant_before, blank_numbers)

  -- a write grant of the bundle is that of one of its written files
  pub write_in_bundle : (g : OpenGrant) → In g s.open_grants → g.kind ≡ Write → is_in_bundle lib b g ≡ true → (w : Written) × (i : In w b.writes) × ((given.writes w i).grant ≡ g)
  write_in_bundle = bundle_write s k lib b given

  -- the parent's lease of a hold that stays stays
  pub parent_then : Closed s lib b → (g g' : OpenGrant) (r q : Row) → In g s.open_grants → g.kind ≡ Hold → is_in_bundle lib b g ≡ false → row_at s.home g.ino ≡ Some r → (In g.ino b.holds → ⊥) → lent_part g' ≡ lent_part g → r.parent ≡ q.parent → has_parent_grant s g.lib (Some r) ≡ true → has_parent_grant s' g'.lib (Some q) ≡ true
  parent_then closed g g' r q i kind out row unheld part same has =
      let a = list_any-In (λ (x : OpenGrant). eqb x.lib g.lib && eqb x.ino r.parent && is_write x.kind) s.open_grants has in
      let h : OpenGrant = a.0 in
      let p1 = and_parts (eqb h.lib g.lib && eqb h.ino r.parent) (is_write h.kind) a.2 in
      let p2 = and_parts (eqb h.lib g.lib) (eqb h.ino r.parent) p1.0 in
      let hk : h.kind ≡ Write = write_is h.kind p1.1 in
      let lib_same : h.lib ≡ g.lib = eqb-true h.lib g.lib p2.0 in
      let ino_same : h.ino ≡ r.parent = eqb-true h.ino r.parent p2.1 in
      let h_out : is_in_bundle lib b h ≡ false = search (arith, false_from_ne_true, write_in_bundle, In-map) in
      let n = grant_after h a.1 h_out in
      let h' : OpenGrant = n.0 in
      let l' : h'.lib ≡ g'.lib = ap (λ (y : OpenGrant). y.lib) (sym n.2) ∙ lib_same ∙ ap (λ (y : OpenGrant). y.lib) (sym part) in
      let i' : h'.ino ≡ q.parent = ap (λ (y : OpenGrant). y.ino) (sym n.2) ∙ ino_same ∙ same in
      let k' : is_write h'.kind ≡ true = ap (λ (y : OpenGrant). is_write y.kind) (sym n.2) ∙ p1.1 in
      In-list_any (λ (x : OpenGrant). eqb x.lib g'.lib && eqb x.ino q.parent && is_write x.kind) h' s'.open_grants n.1
      (and_from (eqb h'.lib g'.lib && eqb h'.ino q.parent) (is_write h'.kind) (and_from (eqb h'.lib g'.lib) (eqb h'.ino q.parent) (eq-eqb h'.lib g'.lib l') (eq-eqb h'.ino q.parent i')) k')

  pub outs_then : (n : ℕ) → is_out s'.pages_out n ≡ true → (is_out s.pages_out n ≡ true) × (In n (sheet_numbers b.pages) → ⊥)
  outs_then n out = search (arith, is_out-back, both_ways, In-is_among)

  pub numbers_then : (n : ℕ) → is_out s'.numbers_out n ≡ true → (is_out s.numbers_out n ≡ true) × (In n b.numbers → ⊥)
  numbers_then n out = search (arith, is_out-back, both_ways, In-is_among)

  pub pages_placed_then : length s'.pages_out ≡ s.home.core.range.end
  pages_placed_then = ap length e.pages ∙ length-with_all None (sheet_numbers b.pages) s.pages_out ∙ k.pages_placed

  pub numbers_placed_then : length s'.numbers_out ≡ s.home.core.inodes + 1
  numbers_placed_then = ap length e.numbers ∙ length-with_all None b.numbers s.numbers_out ∙ k.numbers_placed

  -- a page absent from home is absent from the settled image, or a checkpoint covers it
  pub absent_then : (p : ℕ) → slice_get s'.home.core.pages p ≡ Some None → (slice_get image'.core.pages p ≡ Some None → ((g : OpenGrant) × In g s.open_grants × (is_in_bundle lib b g ≡ false) × (g.kind ≡ Write) × In p (sheet_numbers (g.index ++ g.blocks))) ⊎ ((is_out s.pages_out p ≡ true) × (In p (sheet_numbers b.pages) → ⊥))) → (is_lent s'.open_grants p ≡ true) ⊎ (is_out s'.pages_out p ≡ true)
  absent_then p gone h =
      elim (among_cases p (sheet_numbers (flat_map (λ g. g.checkpoint) s'.open_grants))) [
        | inl covered' ↦
            let r = numbers_flat s'.open_grants p covered' in
            let c = covered_write r.0.kind r.0.of (guard_in r.0.body) r.0.index r.0.blocks p (subst (λ l. In p l) (checkpoints_then r.0 r.1) r.2) in
            inl (by_lent s'.open_grants r.0 p r.1 c.0 c.1)
        | inr none ↦ search (arith, with_pages_apart, grant_after, by_lent, false_from_ne_true, is_among-In, lib_at-others)
      ]
