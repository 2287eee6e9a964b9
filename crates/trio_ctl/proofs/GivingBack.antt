-- The end of a read grant is the step that the definitions say.
use Rattle.trio_ctl.proofs.Words.{if◌then◌else◌, ◌&&◌, ◌++◌, ◌+◌, ◌-◌, ◌<◌, ◌==◌, ◌∙◌, ◌∷◌, ◌≡◌, ◌≢◌, ◌≤◌, Back, Bool, Checkpointed, Creds, Done, Entries, GrantKind, HasGrant, HasKey, In, In-cases, In-left, In-map, In-right, IsControlled, IsTrue, Keyed, List, None, OpenGrant, Opened, Option, Outline, Read, Some, State, Step, Store, Write, [], and_from, and_parts, ap, are_new, arith, begun_among, drop, eq-eqb, eqb-true, false, false≢true, filter, get_or, given_back, grants_in, inl, inr, is_read, is_read_of, keyed, keys, length, ltb-false, map, map-In, map-append, nat_lt, position, reads_among, refl, slice_index_or, state_of, step_kept, subst, suc, sym, take, take-append-drop, true, with_checkpoint, without, zero, ℕ}
use Rattle.std.proofs.Common.{AllPairs}
use Rattle.std.proofs.Math.Seq.{drop-cons}
use Rattle.std.specs.Prelude.{not}
use Rattle.std.specs.List.{position_or_len}
use Rattle.std.proofs.lemmas.List.Quantifiers.{position-Some}
use Rattle.std.proofs.lemmas.List.Sums.{fails_before_first}
use Rattle.trio_state.specs.Kept.{MayBothStand}
use Rattle.trio_open.proofs.ClosingFacts.{found_one, others, without_one}

-- ---- lists of which one element passes

none_pass : {X : Type 0} (p : X → Bool) (xs : List X) → ((x : X) → In x xs → p x ≡ false) → filter (λ x. not (p x)) xs ≡ xs
none_pass p [] h = refl
none_pass p (x ∷ xs) h = ap (λ (t : Bool). if not t then x ∷ filter (λ x. not (p x)) xs else filter (λ x. not (p x)) xs) (h x (inl refl)) ∙ ap (λ l. x ∷ l) (none_pass p xs (λ y i. h y (inr i)))

one_passes : {X : Type 0} (p : X → Bool) (xs ys : List X) (x : X) → p x ≡ true → ((y : X) → In y xs → p y ≡ false) → ((y : X) → In y ys → p y ≡ false) → filter (λ x. not (p x)) (xs ++ x ∷ ys) ≡ xs ++ ys
one_passes p [] ys x e before after = ap (λ (t : Bool). if not t then x ∷ filter (λ x. not (p x)) ys else filter (λ x. not (p x)) ys) e ∙ none_pass p ys after
one_passes p (z ∷ xs) ys x e before after =
    ap (λ (t : Bool). if not t then z ∷ filter (λ x. not (p x)) (xs ++ x ∷ ys) else filter (λ x. not (p x)) (xs ++ x ∷ ys)) (before z (inl refl))
    ∙ ap (λ l. z ∷ l) (one_passes p xs ys x e (λ y i. before y (inr i)) after)

place_in : {X : Type 0} (xs : List X) (x : X) → In x xs → (k : ℕ) × (k < length xs) × (get_or xs k x ≡ x)
place_in [] x i = absurd i
place_in (y ∷ xs) x (inl same) = (zero, omega arith, sym same)
place_in (y ∷ xs) x (inr later) = (let q = place_in xs x later in let lt = q.1 in (suc q.0, omega (arith, lt), q.2))

fails_all : {X : Type 0} (p : X → Bool) (xs : List X) → position p xs ≡ None → (x : X) → In x xs → p x ≡ false
fails_all p xs none x i =
    let q = place_in xs x i in
    let lt = q.1 in
    let le = past (nat_lt (position_or_len p xs) (length xs)) refl none in
    ap p (sym q.2) ∙ fails_before_first p xs q.0 x (omega (arith, lt, le))
  where
    past : (t : Bool) → nat_lt (position_or_len p xs) (length xs) ≡ t → (if t then Some (position_or_len p xs) else None) ≡ None → length xs ≤ position_or_len p xs
    past true e none = absurd cc
    past false e none = ltb-false (position_or_len p xs) (length xs) e

-- pairs of a list, by its parts
later_pair : (R : OpenGrant → OpenGrant → Type 0) (g : OpenGrant) (gs : List OpenGrant) → AllPairs R (g ∷ gs) → (h : OpenGrant) → In h gs → R g h
later_pair R g gs pairs h i = by gs i (λ k lt. pairs 0 (suc k) h (omega arith) (omega (arith, lt)))
  where
    by : (gs : List OpenGrant) → In h gs → ((k : ℕ) → k < length gs → R g (get_or gs k h)) → R g h
    by (x ∷ xs) (inl same) at = subst (R g) (sym same) (at 0 (omega arith))
    by (x ∷ xs) (inr later) at = by xs later (λ k lt. at (suc k) (omega (arith, lt)))
    by [] i at = absurd i

rest_pairs : (R : OpenGrant → OpenGrant → Type 0) (g : OpenGrant) (gs : List OpenGrant) → AllPairs R (g ∷ gs) → AllPairs R gs
rest_pairs R g gs pairs = λ i j d a b. pairs (suc i) (suc j) d (omega (arith, a)) (omega (arith, b))

around : (R : OpenGrant → OpenGrant → Type 0) (gs hs : List OpenGrant) (g : OpenGrant) → AllPairs R (gs ++ g ∷ hs) → ((h : OpenGrant) → In h gs → R h g) × ((h : OpenGrant) → In h hs → R g h)
around R [] hs g pairs = ((λ h i. absurd i), later_pair R g hs pairs)
around R (x ∷ gs) hs g pairs =
    let again = around R gs hs g (rest_pairs R x (gs ++ g ∷ hs) pairs) in
    (before again.0, again.1)
  where
    before : ((h : OpenGrant) → In h gs → R h g) → (h : OpenGrant) → In h (x ∷ gs) → R h g
    before again h (inl same) = subst (λ (y : OpenGrant). R y g) (sym same) (later_pair R x (gs ++ g ∷ hs) pairs g (In-right g gs (g ∷ hs) (inl refl)))
    before again h (inr later) = again h later

-- ---- the place of the grant

pub found_split : (lib ino : ℕ) (files : List Opened) (at : ℕ) (x : Opened) → position (λ o. is_read_of lib ino o.grant) files ≡ Some at → x ≡ slice_index_or files at x
    → (files ≡ take at files ++ x ∷ drop (at + 1) files) × (is_read_of lib ino x.grant ≡ true)
found_split lib ino files at x found is =
    let q = position-Some (λ (o : Opened). is_read_of lib ino o.grant) files at x found in
    let up : at + 1 ≡ suc at = omega arith in
    (sym (take-append-drop at files) ∙ ap (λ l. take at files ++ l) (drop-cons files at x q.0 ∙ ap (λ y. y ∷ drop (suc at) files) (sym is) ∙ ap (λ k. x ∷ drop k files) (sym up)), ap (λ (o : Opened). is_read_of lib ino o.grant) is ∙ q.1)

abbrev reads_with : List OpenGrant → OpenGrant → Bool → ℕ
reads_with gs g t = length (if t then g ∷ filter (λ (h : OpenGrant). is_read h.kind) gs else filter (λ (h : OpenGrant). is_read h.kind) gs)

one_more : (n : ℕ) → suc n ≡ n + 1
one_more n = omega arith

reads_parts : (xs ys : List OpenGrant) (g : OpenGrant) → is_read g.kind ≡ true → reads_among (xs ++ g ∷ ys) ≡ reads_among (xs ++ ys) + 1
reads_parts [] ys g e = ap (reads_with ys g) e ∙ one_more (reads_among ys)
reads_parts (x ∷ xs) ys g e = by (is_read x.kind) (reads_parts xs ys g e)
  where
    by : (t : Bool) → reads_among (xs ++ g ∷ ys) ≡ reads_among (xs ++ ys) + 1 → reads_with (xs ++ g ∷ ys) x t ≡ reads_with (xs ++ ys) x t + 1
    by true again = omega (arith, again)
    by false again = again

write_unread : (kind : GrantKind) → is_read kind ≡ true → kind ≡ Write → ⊥
write_unread kind e w = false≢true (sym (ap is_read w) ∙ e)

module _ (s : Store) (first : ℕ) (table : List Keyed) (files : List Opened) (creds : List Creds) (entries : Entries) (begun : List (Option Outline)) (k : IsControlled s first table files creds entries begun) where
  abbrev st : State
  st = state_of s first (grants_in files) creds entries.made

  abbrev cs : List (Option Checkpointed)
  cs = s.checkpoints.items

  -- the grant is there
  pub is_found : (lib ino : ℕ) → HasGrant st lib ino Read → position (λ o. is_read_of lib ino o.grant) files ≢ None
  is_found lib ino given none =
      let g = map-In (with_checkpoint cs) given.grant (grants_in files) given.is_open in
      let o = map-In (λ (o : Opened). o.grant) g.0 files g.1 in
      let same : given.grant ≡ with_checkpoint cs o.0.grant = g.2 ∙ ap (with_checkpoint cs) o.2 in
      let passes : is_read_of lib ino o.0.grant ≡ true =
      and_from (o.0.grant.lib == lib && o.0.grant.ino == ino) (is_read o.0.grant.kind)
      (and_from (o.0.grant.lib == lib) (o.0.grant.ino == ino) (eq-eqb o.0.grant.lib lib (sym (ap (λ (x : OpenGrant). x.lib) same) ∙ given.lib)) (eq-eqb o.0.grant.ino ino (sym (ap (λ (x : OpenGrant). x.ino) same) ∙ given.ino)))
      (ap is_read (sym (ap (λ (x : OpenGrant). x.kind) same) ∙ given.kind)) in
      some_found files o.0 o.1 passes none
    where
      some_found : (os : List Opened) (o : Opened) → In o os → is_read_of lib ino o.grant ≡ true → position (λ (o : Opened). is_read_of lib ino o.grant) os ≡ None → ⊥
      some_found os o i passes none = false≢true (sym (fails_all (λ (o : Opened). is_read_of lib ino o.grant) os none o i) ∙ passes)

  module _ (lib ino : ℕ) (kept rest : List Opened) (x : Opened) (split : files ≡ kept ++ x ∷ rest) (is : is_read_of lib ino x.grant ≡ true) where
    pub key_there : HasKey x.key table
    key_there = subst (HasKey x.key) (sym (k.grants ∙ ap (map keyed) split)) (found_one kept rest x)

    -- it was promised its entry
    pub has_promise : 0 < entries.promised
    has_promise =
        let all : entries.promised ≡ reads_among (grants_in kept ++ x.grant ∷ grants_in rest) + begun_among begun = k.promised ∙ ap (λ gs. reads_among gs + begun_among begun) (ap grants_in split ∙ map-append (λ (o : Opened). o.grant) kept (x ∷ rest)) in
        let one = reads_parts (grants_in kept) (grants_in rest) x.grant (and_parts (x.grant.lib == lib && x.grant.ino == ino) (is_read x.grant.kind) is).1 in
        omega (arith, all, one)

  module _ (lib ino : ℕ) (kept rest : List Opened) (x : Opened) (split : files ≡ kept ++ x ∷ rest) (is : is_read_of lib ino x.grant ≡ true)
      (table' : List Keyed) (files' : List Opened) (entries' : Entries) (ended : table' ≡ without x.key table) (left : files' ≡ kept ++ rest)
      (next : entries' ≡ record { made = entries.made + 1; promised = entries.promised - 1 }) where
    once : IsTrue (are_new [] (keys (kept ++ x ∷ rest)))
    once = subst (λ fs. IsTrue (are_new [] (keys fs))) split k.keys_once

    parts : (xs ys : List Opened) → grants_in (xs ++ ys) ≡ grants_in xs ++ grants_in ys
    parts xs ys = map-append (λ (o : Opened). o.grant) xs ys

    abbrev open_of : List Opened → List OpenGrant
    open_of fs = map (with_checkpoint cs) (grants_in fs)

    open_parts : (xs ys : List Opened) → open_of (xs ++ ys) ≡ open_of xs ++ open_of ys
    open_parts xs ys = ap (map (with_checkpoint cs)) (parts xs ys) ∙ map-append (with_checkpoint cs) (grants_in xs) (grants_in ys)

    abbrev mine : OpenGrant
    mine = with_checkpoint cs x.grant

    own : ((x.grant.lib == lib) ≡ true) × ((x.grant.ino == ino) ≡ true) × (is_read x.grant.kind ≡ true)
    own =
        let a = and_parts (x.grant.lib == lib && x.grant.ino == ino) (is_read x.grant.kind) is in
        let c = and_parts (x.grant.lib == lib) (x.grant.ino == ino) a.0 in
        (c.0, c.1, a.1)

    pairs : AllPairs MayBothStand (open_of kept ++ mine ∷ open_of rest)
    pairs = subst (AllPairs MayBothStand) (ap open_of split ∙ open_parts kept (x ∷ rest)) k.stored.kept.apart

    -- no other grant is the library's for reading the file
    other : (g : OpenGrant) → (g.ino ≡ mine.ino → g.lib ≢ mine.lib) → is_read_of lib ino g ≡ false
    other g apart = by (is_read_of lib ino g) refl
      where
        by : (t : Bool) → is_read_of lib ino g ≡ t → is_read_of lib ino g ≡ false
        by false e = e
        by true e =
            let a = and_parts (g.lib == lib && g.ino == ino) (is_read g.kind) e in
            let c = and_parts (g.lib == lib) (g.ino == ino) a.0 in
            absurd (apart (eqb-true g.ino ino c.1 ∙ sym (eqb-true x.grant.ino ino own.1)) (eqb-true g.lib lib c.0 ∙ sym (eqb-true x.grant.lib lib own.0)))

    open_then : open_of files' ≡ filter (λ g. not (is_read_of lib ino g)) st.open_grants
    open_then =
        let both = around MayBothStand (open_of kept) (open_of rest) mine pairs in
        ap open_of left ∙ open_parts kept rest
        ∙ sym (one_passes (is_read_of lib ino) (open_of kept) (open_of rest) mine is
        (λ g i. other g (λ e. (both.0 g i e).1))
        (λ g i. other g (λ e same. (both.1 g i (sym e)).1 (sym same))))
        ∙ sym (ap (filter (λ g. not (is_read_of lib ino g))) (ap open_of split ∙ open_parts kept (x ∷ rest)))

    after_is : state_of s first (grants_in files') creds entries'.made ≡ given_back st lib ino
    after_is =
        ap (λ gs. record st { open_grants = gs; entries = entries'.made }) open_then
        ∙ ap (λ (n : Entries). record st { open_grants = filter (λ g. not (is_read_of lib ino g)) st.open_grants; entries = n.made }) next

    pub back_step : Step st (Back lib ino) Done (state_of s first (grants_in files') creds entries'.made)
    back_step = inl (refl, after_is)

    was_file : (o : Opened) → In o files' → In o files
    was_file o i =
        subst (In o) (sym split)
        (elim (In-cases o kept rest (subst (In o) left i)) [
          | inl a ↦ In-left o kept (x ∷ rest) a
          | inr b ↦ In-right o kept (x ∷ rest) (inr b)
        ])

    was_open : (g : OpenGrant) → In g (grants_in files') → In g (grants_in files)
    was_open g i =
        let o = map-In (λ (o : Opened). o.grant) g files' i in
        subst (λ (h : OpenGrant). In h (grants_in files)) (sym o.2) (In-map (λ (o : Opened). o.grant) o.0 files (was_file o.0 o.1))

    write_stays : (g : OpenGrant) → In g (grants_in files) → g.kind ≡ Write → In g (grants_in files')
    write_stays g i write =
        let o = map-In (λ (o : Opened). o.grant) g files i in
        let here : In o.0 files' = subst (In o.0) (sym left) (among o.0 (subst (In o.0) split o.1) (ap (λ (h : OpenGrant). h.kind) (sym o.2) ∙ write)) in
        subst (λ (h : OpenGrant). In h (grants_in files')) (sym o.2) (In-map (λ (o : Opened). o.grant) o.0 files' here)
      where
        among : (o : Opened) → In o (kept ++ x ∷ rest) → o.grant.kind ≡ Write → In o (kept ++ rest)
        among o i write =
            elim (In-cases o kept (x ∷ rest) i) [
              | inl a ↦ In-left o kept rest a
              | inr b ↦ elim b [
                | inl same ↦ absurd (write_unread x.grant.kind own.2 (ap (λ (y : Opened). y.grant.kind) (sym same) ∙ write))
                | inr later ↦ In-right o kept rest later
              ]
            ]

    pub back_controlled : HasGrant st lib ino Read → IsControlled s first table' files' creds entries' begun
    back_controlled given = record {
      stored = record {
        fits = k.stored.fits;
        places = k.stored.places;
        of_grant = λ n c e. (let q = k.stored.of_grant n c e in (q.0, write_stays q.0 q.1 q.2, q.2, q.3));
        covers = λ g i write. k.stored.covers g (was_open g i) write;
        kept = step_kept st (state_of s first (grants_in files') creds entries'.made) (Back lib ino) Done k.stored.kept given back_step;
      };
      no_zero = k.no_zero;
      some_libraries = k.some_libraries;
      few_libraries = k.few_libraries;
      grants = ended ∙ ap (without x.key) (k.grants ∙ ap (map keyed) split) ∙ without_one kept rest x once ∙ ap (map keyed) (sym left);
      keys_once = subst (λ fs. IsTrue (are_new [] (keys fs))) (sym left) (others kept rest x once).2;
      earlier = λ o i. (let e = k.earlier o (was_file o i) in let more = ap (λ (n : Entries). n.made) next in omega (arith, e, more));
      placed = k.placed;
      promised =
          let less = ap (λ (n : Entries). n.promised) next in
          let all : entries.promised ≡ reads_among (grants_in kept ++ x.grant ∷ grants_in rest) + begun_among begun = k.promised ∙ ap (λ gs. reads_among gs + begun_among begun) (ap grants_in split ∙ parts kept (x ∷ rest)) in
          let one = reads_parts (grants_in kept) (grants_in rest) x.grant own.2 in
          let then' : reads_among (grants_in files') ≡ reads_among (grants_in kept ++ grants_in rest) = ap reads_among (ap grants_in left ∙ parts kept rest) in
          omega (arith, less, all, one, then');
      kinds = λ o i. k.kinds o (was_file o i);
      told = λ g i hold. k.told g (was_open g i) hold;
    }
