-- Open grants stand in the order of their entries.
use Rattle.trio_laws.proofs.Words.{◌&&◌, ◌<◌, ◌∷◌, ◌≡◌, ◌≤◌, AllPairs, AllPairs-filter, Allot, Back, Bool, Bundle, CtlAnswer, Ends, Grant, GrantFault, GrantKind, Image, In, In-cases, In-filter, In-map, IsAccepted, IsRefused, List, ModeFault, None, OpenGrant, Option, Parted, Release, ReleaseEnd, Row, SetMode, Settle, Some, State, [], all_pairs_push, allot_outcome, allots, ap, arith, eqb, filter-In, free_numbers, free_pages, get_or, get_or-In, given_back, grant_fault, granted_to, grants_after, inl, inr, is_in_bundle, is_read, length, lent_part, logged, map-In, mode_fault, moded_to, not, opened, opens, refl, row_at, slice_get, start, subst, suc, sym, take, zero, ℕ}
use Rattle.trio_laws.specs.GrantLaws.{CameBefore, IsOrdered, OrderBegins, OrderStays, GrantsAreOrdered, FirstIsLowest}
use Rattle.trio_lists.proofs.Filters.{In-get_or}
use Rattle.trio_laws.proofs.Cases.{after_allot, after_no_grant, after_no_mode, trace_keeps}
use Rattle.trio_laws.proofs.Ended.{pairs_like}

-- the same grants in a state of as many entries or more
same_ordered : (s s' : State) → s'.open_grants ≡ s.open_grants → s.entries ≤ s'.entries → IsOrdered s → IsOrdered s'
same_ordered s s' e more o = record {
  rising = subst (AllPairs CameBefore) (sym e) o.rising;
  below = λ g i. let l = o.below g (subst (λ gs. In g gs) e i) in omega (arith, more, l);
}

logged_ordered : (s : State) → IsOrdered s → IsOrdered (logged s)
logged_ordered s o = same_ordered s (logged s) refl (omega arith) o

-- a grant with the next entry
opens_ordered : (s : State) (g : OpenGrant) → g.entry ≡ s.entries → IsOrdered s → IsOrdered (opens s g)
opens_ordered s g e o = record {
  rising = all_pairs_push CameBefore s.open_grants g o.rising
      (λ k d l. let b = o.below (get_or s.open_grants k d) (get_or-In s.open_grants k d l) in omega (arith, b, e));
  below = λ h i. elim (In-cases h s.open_grants (g ∷ []) i) [
    | inl old ↦ let b = o.below h old in omega (arith, b)
    | inr new ↦ elim new [
      | inl same ↦ let at : h.entry ≡ g.entry =
          ap (λ (x : OpenGrant). x.entry) same in omega (arith, at, e)
      | inr none ↦ absurd none
    ]
  ];
}

granted_ordered : (s : State) (lib ino : ℕ) (kind : GrantKind) (a : Option GrantFault) (r : Option Row) → IsOrdered s
    → IsOrdered (granted_to s lib ino kind a r).after
granted_ordered s lib ino kind (Some fault) r o = after_no_grant IsOrdered s fault o (logged_ordered s o)
granted_ordered s lib ino kind None None o = o
granted_ordered s lib ino kind None (Some r) o = opens_ordered s (opened s lib ino kind r) refl o

allot_ordered : (s : State) (lib pages numbers : ℕ) → IsOrdered s → IsOrdered (allot_outcome s lib pages numbers).after
allot_ordered s lib pages numbers o =
    after_allot IsOrdered s lib pages numbers (logged_ordered s o)
    (same_ordered s (allots s lib (take pages (free_pages s)) (take numbers (free_numbers s))) refl (omega arith) o)

back_ordered : (s : State) (lib ino : ℕ) → IsOrdered s → IsOrdered (given_back s lib ino)
back_ordered s lib ino o =
    let stays : OpenGrant → Bool = λ g. not (eqb g.lib lib && eqb g.ino ino && is_read g.kind) in
    record {
      rising = AllPairs-filter CameBefore stays s.open_grants o.rising;
      below = λ g i. let b = o.below g (filter-In stays g s.open_grants i).0 in omega (arith, b);
    }

ends_ordered : (s s' : State) (lib : ℕ) (b : Bundle) (image : Image) → Ends s lib b image s' → IsOrdered s
    → IsOrdered s'
ends_ordered s s' lib b image e o =
    let stays : OpenGrant → Bool = λ g. not (is_in_bundle lib b g) in
    record {
      rising = pairs_like CameBefore (λ x y h. h) (λ x y h. h) s'.open_grants (grants_after s lib b) e.grants
          (AllPairs-filter CameBefore stays s.open_grants o.rising);
      below = λ g i.
          let j = map-In lent_part (lent_part g) (grants_after s lib b)
          (subst (λ l. In (lent_part g) l) e.grants (In-map lent_part g s'.open_grants i)) in
          let was = o.below j.0 (filter-In stays j.0 s.open_grants j.1).0 in
          let at : g.entry ≡ j.0.entry = ap (λ (x : OpenGrant). x.entry) j.2 in
          let more = e.entries in
          omega (arith, was, at, more);
    }

release_ordered : (s s' : State) (lib : ℕ) (b : Bundle) (answer : CtlAnswer) → ReleaseEnd s lib b answer s'
    → IsOrdered s → IsOrdered s'
release_ordered s s' lib b answer (Parted n none e same) o = subst IsOrdered (sym same) o
release_ordered s s' lib b answer (IsAccepted none t e ends) o = ends_ordered s s' lib b _ ends o
release_ordered s s' lib b answer (IsRefused none f why e tells ends) o = ends_ordered s s' lib b _ ends o

mode_ordered : (s : State) (ino mode : ℕ) (a : Option ModeFault) → IsOrdered s → IsOrdered (moded_to s ino mode a).after
mode_ordered s ino mode (Some fault) o = after_no_mode IsOrdered s fault o (logged_ordered s o)
mode_ordered s ino mode None o = same_ordered s _ refl (omega arith) o

pub order_begins : OrderBegins
order_begins image creds = record { rising = λ i j d l within. absurd (omega arith); below = λ g i. absurd i }

pub order_stays : OrderStays
order_stays s event answer s' o (inr none) = subst IsOrdered (sym none.2) o
order_stays s (Grant lib ino kind) answer s' o (inl does) =
    subst IsOrdered (sym does.1) (granted_ordered s lib ino kind (grant_fault s lib ino kind) (row_at s.home ino) o)
order_stays s (Allot lib pages numbers) answer s' o (inl does) =
    subst IsOrdered (sym does.1) (allot_ordered s lib pages numbers o)
order_stays s (Back lib ino) answer s' o (inl does) = subst IsOrdered (sym does.1) (back_ordered s lib ino o)
order_stays s (Release lib b) answer s' o (inl does) =
    release_ordered s s' lib b answer does o
order_stays s (Settle lib b) answer s' o (inl does) = ends_ordered s s' lib b _ does.3 o
order_stays s (SetMode lib ino mode) answer s' o (inl does) =
    subst IsOrdered (sym does.1) (mode_ordered s ino mode (mode_fault s lib ino mode (row_at s.home ino)) o)

pub grants_are_ordered : GrantsAreOrdered
grants_are_ordered run m i =
    trace_keeps IsOrdered (λ s event answer s' o given step. order_stays s event answer s' o step)
    (start run.image run.creds) run.moves (order_begins run.image run.creds) run.trace m i

-- the first of a list in order is the lowest
first_of : (gs : List OpenGrant) (g h : OpenGrant) → AllPairs CameBefore gs → slice_get gs 0 ≡ Some g → In h gs
    → g.entry ≤ h.entry
first_of [] g h rising first i = absurd i
first_of (x ∷ xs) g h rising first (inl same) = search (arith, In-get_or)
first_of (x ∷ xs) g h rising first (inr later) =
    let is : x ≡ g = cc first in
    let at : x.entry ≡ g.entry = ap (λ (y : OpenGrant). y.entry) is in
    let r = In-get_or h xs later in
    let l : 0 < suc r.0 = omega arith in
    let k : suc r.0 < length (x ∷ xs) = (let q = r.1 in omega (arith, q)) in
    let before : x.entry < h.entry = subst (λ y. CameBefore x y) r.2 (rising zero (suc r.0) h l k) in
    omega (arith, before, at)

pub first_is_lowest : FirstIsLowest
first_is_lowest s passes g h o first i passed = search (arith, first_of, AllPairs-filter, In-filter)
