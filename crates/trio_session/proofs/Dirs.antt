-- The indexes of directories that are lent for reading.
use Rattle.trio_session.proofs.Words.{◌++◌, ◌+◌, ◌∙◌, ◌∷◌, ◌≡◌, AreRead, Bool, Bor, Directory, Hold, In, In-cases, In-left, In-map, In-right, IndexedDir, IsIndexOf, IsIndexed, Kind, Lease, LentPage, List, NamesDiffer, None, Option, Read, Regular, Shown, Some, Write, [], absent, absent_from, ap, append-nil, append_assoc, arith, cond, dir_pages, drop, eq-eqb, eqb, eqb-true, every_number, false, false≢true, find, find-In, flat_map-append, inl, inr, is_directory_page, is_some, lease_on, map, map-In, option_and_then, option_copied, page_at, place_of, reads_leased, refl, slice_get, slice_get-map, slot_with, slots_of, slots_on, subst, suc, sym, take, take-append-drop, true, zero, ℕ}
use Rattle.std.specs.Prelude.{IsTrue}
use Rattle.trio_auxdir.specs.Directory.{Directory as Index}
use Rattle.trio_auxdir.specs.Places.{place_of as place_in_slots}
use Rattle.trio_session.specs.inner.Indexes.{AreIndexed}
use Rattle.trio_session.proofs.Lists.{slice_get-In}

-- ---- what is found

found_by : {X : Type 0} (x z : X) (b : Bool) (r q : Option X) → cond b (Some z) r ≡ Some x → (r ≡ Some x → q ≡ Some x) → cond b (Some z) q ≡ Some x
found_by x z true r q e h = e
found_by x z false r q e h = h e

-- what is found is found with more behind
pub find-left : {X : Type 0} (p : X → Bool) (xs ys : List X) (x : X) → find p xs ≡ Some x → find p (xs ++ ys) ≡ Some x
find-left p [] ys x e = absurd (let t : None ≡ Some x = e in cc t)
find-left p (z ∷ zs) ys x e = found_by x z (p z) (find p zs) (find p (zs ++ ys)) e (find-left p zs ys x)

missed_by : {X : Type 0} (z : X) (b : Bool) (r : Option X) → cond b (Some z) r ≡ None → (b ≡ false) × (r ≡ None)
missed_by z true r e = absurd (let t : Some z ≡ None = e in cc t)
missed_by z false r e = (refl, e)

pub find-not : {X : Type 0} (p : X → Bool) (xs : List X) (x : X) → find p xs ≡ None → In x xs → p x ≡ false
find-not p [] x e i = absurd i
find-not p (z ∷ zs) x e (inl same) = ap p same ∙ (missed_by z (p z) (find p zs) e).0
find-not p (z ∷ zs) x e (inr i) = find-not p zs x (missed_by z (p z) (find p zs) e).1 i

-- ---- one more lease

pub indexed_leased : (reads : List Shown) (lease : Lease) (dirs : List IndexedDir) → AreIndexed reads dirs → AreIndexed (reads_leased reads lease) dirs
indexed_leased reads (Write f) dirs are = are
indexed_leased reads (Read f) dirs are = λ d i.
    let is : IsIndexed reads d = are d i in
    record { lease = is.lease; there = find-left (λ (g : Shown). eqb g.ino d.ino) reads (f ∷ []) is.lease is.there; directory = is.directory; index = is.index }
indexed_leased reads (Hold h) dirs are = are

-- ---- one more index

pub indexed_push : (reads : List Shown) (dirs dirs' : List IndexedDir) (d : IndexedDir) → AreIndexed reads dirs → IsIndexed reads d → dirs' ≡ dirs ++ d ∷ [] → AreIndexed reads dirs'
indexed_push reads dirs dirs' d are is e = λ x i. elim (In-cases x dirs (d ∷ []) (subst (In x) e i)) [
  | inl h ↦ are x h
  | inr h ↦ elim h [ inl same ↦ subst (IsIndexed reads) (sym same) is | inr k ↦ absurd k ]
]

pub push_more : (dirs dirs' : List IndexedDir) (d : IndexedDir) (n : ℕ) → dirs' ≡ dirs ++ d ∷ [] → In n (map (λ x. x.ino) dirs) → In n (map (λ x. x.ino) dirs')
push_more dirs dirs' d n e i =
    let x = map-In (λ (y : IndexedDir). y.ino) n dirs i in
    subst (λ m. In m (map (λ (y : IndexedDir). y.ino) dirs')) (sym x.2)
    (In-map (λ (y : IndexedDir). y.ino) x.0 dirs' (subst (In x.0) (sym e) (In-left x.0 dirs (d ∷ []) x.1)))

pub push_has : (dirs dirs' : List IndexedDir) (d : IndexedDir) → dirs' ≡ dirs ++ d ∷ [] → In d.ino (map (λ x. x.ino) dirs')
push_has dirs dirs' d e = In-map (λ (y : IndexedDir). y.ino) d dirs' (subst (In d) (sym e) (In-right d dirs (d ∷ []) (inl refl)))

-- ---- look-ups

-- what was found is there
pub copied_some : {X : Type 0} (o : Option (Bor X)) (q : Option X) → is_some o ≡ true → option_copied o ≡ q → is_some q ≡ true
copied_some None q s e = absurd (let t : false ≡ true = s in cc t)
copied_some (Some x) q s e = sym (ap is_some e)

pub dir_among : (dirs : List IndexedDir) (n : ℕ) (d : IndexedDir) → find (λ x. eqb x.ino n) dirs ≡ Some d → In n (map (λ x. x.ino) dirs)
dir_among dirs n d e =
    let at = find-In (λ (x : IndexedDir). eqb x.ino n) dirs d e in
    subst (λ m. In m (map (λ (x : IndexedDir). x.ino) dirs)) (eqb-true d.ino n at.1) (In-map (λ (x : IndexedDir). x.ino) d dirs at.0)

pub dir_there : (dirs : List IndexedDir) (n : ℕ) → is_some (find (λ x. eqb x.ino n) dirs) ≡ true → In n (map (λ x. x.ino) dirs)
dir_there dirs n h = by (find (λ (x : IndexedDir). eqb x.ino n) dirs) refl h
  where
    by : (o : Option IndexedDir) → find (λ (x : IndexedDir). eqb x.ino n) dirs ≡ o → is_some o ≡ true → In n (map (λ (x : IndexedDir). x.ino) dirs)
    by None e k = absurd (let t : false ≡ true = k in cc t)
    by (Some d) e k = dir_among dirs n d e

pub dir_missed : (dirs : List IndexedDir) (n : ℕ) → find (λ x. eqb x.ino n) dirs ≡ None → In n (map (λ x. x.ino) dirs) → ⊥
dir_missed dirs n e i =
    let d = map-In (λ (x : IndexedDir). x.ino) n dirs i in
    false≢true (sym (find-not (λ (x : IndexedDir). eqb x.ino n) dirs d.0 e d.1) ∙ eq-eqb d.0.ino n (sym d.2))
