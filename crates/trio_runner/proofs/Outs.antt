-- That a library has all that is out to it, through what it does and what its desk answers.
use Rattle.trio_runner.proofs.Words.{◌++◌, ◌∙◌, ◌∷◌, ◌≡◌, ◌⊎◌, Bool, Has, HasAll, HoldLent, HoldParts, In, In-cases, In-left, In-map, In-right, InoParts, Lease, LentFile, LibNo, LibOut, List, None, Option, OutAlike, Parcel, ReadLent, Shown, Some, WriteLent, [], ap, both_ways, cond, eq-eqb, eqb, eqb-true, false, file_numbers, filter, filter-In, find-In, get_or_from_slice_get, inl, ino_numbers, inr, map-In, map-append, map-set_same, new_ino, not, not-true, nothing, option_map, parcel_named, poked, refl, set, slice_get, subst, sym, true, whole_parcel, with_reads, without_read, ℕ, ⊤}
use Rattle.std.specs.Prelude.{map}
use Rattle.std.specs.List.{find, cons_option, position}
use Rattle.trio_lists.specs.Lists.{is_among}
use Rattle.trio_lists.proofs.Filters.{In-find}
use Rattle.trio_lists.proofs.Members.{In-is_among, is_among-In, option_and_then-Some}
use Rattle.trio_nodes.specs.declared.spot.Spot.{Spot}
use Rattle.trio_nodes.specs.declared.spot.Spot.TheVariants.{Body, Index, Block, Fresh}
use Rattle.trio_lease.specs.declared.parts.FreshParts.{FreshParts}
use Rattle.trio_desk.specs.Out.{hold_numbers, page_numbers, with_lease, with_allotted, without_parcel, zero_page}
use Rattle.trio_desk.specs.Out as out_words
use Rattle.trio_raw.specs.Has.{changed_at, changed_first, keeps_lease, keeps_allotted, named, poked_body, poked_block, poked_fresh, poked_index, read_numbers, rest_of, with_file, with_fresh, with_parcel, without, without_all}

-- ---- lists by number

module _ {X : Type 0} (number : X → ℕ) where
  past_option : (o : Option X) (xs : List X) (n : ℕ) → In n (map number xs) → In n (map number (cons_option o xs))
  past_option None xs n i = i
  past_option (Some x) xs n i = inr i

  -- a number that one of the things has, and that is named, is that of a named thing
  in_named : (xs : List X) (names : List ℕ) (n : ℕ) → In n (map number xs) → In n names → In n (map number (named number xs names))
  in_named xs [] n i j = absurd j
  in_named xs (m ∷ names) n i (inl e) =
      let r = map-In number n xs i in
      let f = In-find (λ x. eqb (number x) m) xs r.0 r.1 (eq-eqb (number r.0) m (sym r.2 ∙ e)) in
      let at = find-In (λ x. eqb (number x) m) xs f.0 f.1 in
      subst (λ o. In n (map number (cons_option o (named number xs names)))) (sym f.1)
      (inl (e ∙ sym (eqb-true (number f.0) m at.1)))
  in_named xs (m ∷ names) n i (inr j) =
      past_option (find (λ x. eqb (number x) m) xs) (named number xs names) n (in_named xs names n i j)

  -- another number is left
  pub in_without : (xs : List X) (n m : ℕ) → In m (map number xs) → (m ≡ n → ⊥) → In m (map number (without number xs n))
  in_without [] n m i apart = absurd i
  in_without (x ∷ xs) n m i apart = by (λ j. in_without xs n m j apart) (eqb (number x) n) refl i
    where
      by : (In m (map number xs) → In m (map number (without number xs n))) → (b : Bool) → eqb (number x) n ≡ b → In m (number x ∷ map number xs) → In m (map number (cond b xs (x ∷ without number xs n)))
      by rest true t (inl e) = absurd (apart (e ∙ eqb-true (number x) n t))
      by rest true t (inr j) = j
      by rest false f (inl e) = inl e
      by rest false f (inr j) = inr (rest j)

  -- what isn't named is left
  in_without_all : (xs : List X) (names : List ℕ) (m : ℕ) → In m (map number xs) → (In m names → ⊥) → In m (map number (without_all number xs names))
  in_without_all xs [] m i apart = i
  in_without_all xs (n ∷ names) m i apart =
      in_without_all (without number xs n) names m (in_without xs n m i (λ e. apart (inl e))) (λ j. apart (inr j))

  -- each number is handed in or left
  splits : (xs : List X) (names : List ℕ) (n : ℕ) → In n (map number xs) → In n (map number (named number xs names)) ⊎ In n (map number (without_all number xs names))
  splits xs names n i = by (is_among n names) refl
    where
      by : (b : Bool) → is_among n names ≡ b → In n (map number (named number xs names)) ⊎ In n (map number (without_all number xs names))
      by true t = inl (in_named xs names n i (is_among-In n names t))
      by false f = inr (in_without_all xs names n i (λ j. both_ways (is_among n names) f (In-is_among n names j)))

  -- what isn't handed in is left
  left_of : (xs : List X) (names : List ℕ) (n : ℕ) → In n (map number xs) → is_among n (map number (named number xs names)) ≡ false → In n (map number (without_all number xs names))
  left_of xs names n i f =
      elim (splits xs names n i) [
        | inl j ↦ absurd (both_ways (is_among n (map number (named number xs names))) f (In-is_among n (map number (named number xs names)) j))
        | inr j ↦ j
      ]

  -- what comes back is there
  come_back : (xs : List X) (names : List ℕ) (n : ℕ) → In n (map number xs) → In n (map number (without_all number xs names ++ named number xs names))
  come_back xs names n i =
      subst (In n) (sym (map-append number (without_all number xs names) (named number xs names)))
      (elim (splits xs names n i) [
        | inl j ↦ In-right n (map number (without_all number xs names)) (map number (named number xs names)) j
        | inr j ↦ In-left n (map number (without_all number xs names)) (map number (named number xs names)) j
      ])

  -- with one thing more
  beside : (xs : List X) (x : X) (n : ℕ) → In n (map number xs) ⊎ (n ≡ number x) → In n (map number (xs ++ x ∷ []))
  beside xs x n h =
      subst (In n) (sym (map-append number xs (x ∷ [])))
      (elim h [
        | inl i ↦ In-left n (map number xs) (number x ∷ []) i
        | inr e ↦ In-right n (map number xs) (number x ∷ []) (inl e)
      ])

  -- with more of new numbers
  joined : (make : ℕ → X) → ((n : ℕ) → number (make n) ≡ n) → (xs : List X) (ns new : List ℕ) → ((n : ℕ) → In n ns → In n (map number xs)) → (n : ℕ) → In n (ns ++ new) → In n (map number (xs ++ map make new))
  joined make same xs ns new h n i =
      subst (In n) (sym (map-append number xs (map make new)))
      (elim (In-cases n ns new i) [
        | inl j ↦ In-left n (map number xs) (map number (map make new)) (h n j)
        | inr j ↦ In-right n (map number xs) (map number (map make new)) (subst (λ m. In m (map number (map make new))) (same n) (In-map number (make n) (map make new) (In-map make n new j)))
      ])

-- what is pushed behind a list and passes
pushed : {Y : Type 0} (key : Y → ℕ) (P : ℕ → Type 0) (ys : List Y) (y : Y) → ((z : Y) → In z ys → P (key z)) → P (key y) → (z : Y) → In z (ys ++ y ∷ []) → P (key z)
pushed key P ys y h k z i =
    elim (In-cases z ys (y ∷ []) i) [
      | inl j ↦ h z j
      | inr j ↦ elim j [ inl e ↦ subst (λ x. P (key x)) (sym e) k | inr none ↦ absurd none ]
    ]

-- ---- what is out

pub has_all-alike : (out out' : LibOut) (has : Has) → OutAlike out' out → HasAll out has → HasAll out' has
has_all-alike out out' has e h = record {
  writes = λ w i. h.writes w (subst (In w) e.writes i);
  reads = λ r i. h.reads r (subst (In r) e.reads i);
  holds = λ x i. h.holds x (subst (In x) e.holds i);
  pages = λ n i. h.pages n ((e.pages n).0 i);
  numbers = λ n i. h.numbers n ((e.numbers n).0 i);
}

-- a file that is lent for writing stands in its lease under its number
abbrev pub AsLent : Lease → Type 0
AsLent (WriteLent f) = f.lent.ino ≡ f.stands.ino
AsLent (ReadLent r) = ⊤
AsLent (HoldLent h) = ⊤

pub has_all-lease : (out : LibOut) (has : Has) (lease : Lease) → AsLent lease → HasAll out has → HasAll (with_lease out lease) (keeps_lease has lease)
has_all-lease out has (WriteLent f) e h = record {
  writes = pushed (λ (w : Shown). w.ino) (λ n. In n (file_numbers (has.writes ++ f ∷ []))) out.writes f.lent
      (λ w i. beside (λ (x : LentFile). x.stands.ino) has.writes f w.ino (inl (h.writes w i)))
      (beside (λ (x : LentFile). x.stands.ino) has.writes f f.lent.ino (inr e));
  reads = h.reads;
  holds = h.holds;
  pages = h.pages;
  numbers = h.numbers;
}
has_all-lease out has (ReadLent r) e h = record {
  writes = h.writes;
  reads = pushed (λ (w : Shown). w.ino) (λ n. In n (read_numbers (has.reads ++ r ∷ []))) out.reads r
      (λ w i. beside (λ (x : Shown). x.ino) has.reads r w.ino (inl (h.reads w i)))
      (beside (λ (x : Shown). x.ino) has.reads r r.ino (inr refl));
  holds = h.holds;
  pages = h.pages;
  numbers = h.numbers;
}
has_all-lease out has (HoldLent x) e h = record {
  writes = h.writes;
  reads = h.reads;
  holds = pushed (λ (w : HoldParts). w.ino) (λ n. In n (hold_numbers (has.holds ++ x ∷ []))) out.holds x
      (λ w i. beside (λ (y : HoldParts). y.ino) has.holds x w.ino (inl (h.holds w i)))
      (beside (λ (y : HoldParts). y.ino) has.holds x x.ino (inr refl));
  pages = h.pages;
  numbers = h.numbers;
}

pub has_all-allotted : (lib : LibNo) (out : LibOut) (has : Has) (pages numbers : List ℕ) → HasAll out has → HasAll (with_allotted out pages numbers) (keeps_allotted lib has pages numbers)
has_all-allotted lib out has pages numbers h = record {
  writes = h.writes;
  reads = h.reads;
  holds = h.holds;
  pages = joined (λ (p : FreshParts). p.no.0) (zero_page lib) (λ n. refl) has.pages out.pages pages h.pages;
  numbers = joined (λ (n : InoParts). n.no) (new_ino lib) (λ n. refl) has.inodes out.numbers numbers h.numbers;
}

-- one that stays in a list without those of a number has another number
kept_apart : {Y : Type 0} (key : Y → ℕ) (n : ℕ) (ys : List Y) (y : Y) → In y (filter (λ z. not (eqb (key z) n)) ys) → In y ys × (key y ≡ n → ⊥)
kept_apart key n ys y i =
    let f = filter-In (λ z. not (eqb (key z) n)) y ys i in
    (f.0, λ e. both_ways (eqb (key y) n) (not-true (eqb (key y) n) f.1) (eq-eqb (key y) n e))

pub has_all-back : (out : LibOut) (has : Has) (ino : ℕ) → HasAll out has → HasAll (out_words.without_read out ino) (without_read has ino)
has_all-back out has ino h = record {
  writes = h.writes;
  reads = λ r i. (let k = kept_apart (λ (x : Shown). x.ino) ino out.reads r i in in_without (λ (x : Shown). x.ino) has.reads ino r.ino (h.reads r k.0) k.1);
  holds = h.holds;
  pages = h.pages;
  numbers = h.numbers;
}

-- the last read lease is given back
pub has_all-last : (out : LibOut) (has : Has) (left : List Shown) (last : Shown) → HasAll out (with_reads has (left ++ last ∷ [])) → HasAll (out_words.without_read out last.ino) (with_reads has left)
has_all-last out has left last h = record {
  writes = h.writes;
  reads = λ r i.
      let k = kept_apart (λ (x : Shown). x.ino) last.ino out.reads r i in
      let there = subst (In r.ino) (map-append (λ (x : Shown). x.ino) left (last ∷ [])) (h.reads r k.0) in
      elim (In-cases r.ino (read_numbers left) (last.ino ∷ []) there) [
        | inl j ↦ j
        | inr j ↦ elim j [ inl e ↦ absurd (k.1 e) | inr none ↦ absurd none ]
      ];
  holds = h.holds;
  pages = h.pages;
  numbers = h.numbers;
}

-- one that stays in a list without those of these numbers has none of them
kept_other : {Y : Type 0} (key : Y → ℕ) (these : List ℕ) (ys : List Y) (y : Y) → In y (filter (λ z. not (is_among (key z) these)) ys) → In y ys × (is_among (key y) these ≡ false)
kept_other key these ys y i =
    let f = filter-In (λ z. not (is_among (key z) these)) y ys i in (f.0, not-true (is_among (key y) these) f.1)

pub has_all-rest : (out : LibOut) (has : Has) (inos pages numbers : List ℕ) → HasAll out has → HasAll (without_parcel out (parcel_named has inos pages numbers)) (rest_of has inos pages numbers)
has_all-rest out has inos pages numbers h =
    let b : Parcel = parcel_named has inos pages numbers in
    record {
      writes = λ w i. (let k = kept_other (λ (x : Shown). x.ino) (file_numbers b.writes) out.writes w i in left_of (λ (f : LentFile). f.stands.ino) has.writes inos w.ino (h.writes w k.0) k.1);
      reads = h.reads;
      holds = λ x i. (let k = kept_other (λ (y : HoldParts). y.ino) (hold_numbers b.holds) out.holds x i in left_of (λ (y : HoldParts). y.ino) has.holds inos x.ino (h.holds x k.0) k.1);
      pages = λ n i. (let k = kept_other (λ (m : ℕ). m) (page_numbers b.pages) out.pages n i in left_of (λ (p : FreshParts). p.no.0) has.pages pages n (h.pages n k.0) k.1);
      numbers = λ n i. (let k = kept_other (λ (m : ℕ). m) (ino_numbers b.inodes) out.numbers n i in left_of (λ (x : InoParts). x.no) has.inodes numbers n (h.numbers n k.0) k.1);
    }

pub has_all-returned : (out : LibOut) (has : Has) (inos pages numbers : List ℕ) → HasAll out has → HasAll out (with_parcel (rest_of has inos pages numbers) (parcel_named has inos pages numbers))
has_all-returned out has inos pages numbers h = record {
  writes = λ w i. come_back (λ (f : LentFile). f.stands.ino) has.writes inos w.ino (h.writes w i);
  reads = h.reads;
  holds = λ x i. come_back (λ (y : HoldParts). y.ino) has.holds inos x.ino (h.holds x i);
  pages = λ n i. come_back (λ (p : FreshParts). p.no.0) has.pages pages n (h.pages n i);
  numbers = λ n i. come_back (λ (x : InoParts). x.no) has.inodes numbers n (h.numbers n i);
}

-- nothing is left out once all is handed in, where no read lease is there
pub has_all-whole : (out : LibOut) (has : Has) → HasAll out (with_reads has []) → HasAll (without_parcel out (whole_parcel has)) nothing
has_all-whole out has h =
    let gone : (mine : List ℕ) (n : ℕ) → In n mine → is_among n mine ≡ false → ⊥ = λ mine n i f. both_ways (is_among n mine) f (In-is_among n mine i) in
    record {
      writes = λ w i. (let k = kept_other (λ (x : Shown). x.ino) (file_numbers has.writes) out.writes w i in gone (file_numbers has.writes) w.ino (h.writes w k.0) k.1);
      reads = h.reads;
      holds = λ x i. (let k = kept_other (λ (y : HoldParts). y.ino) (hold_numbers has.holds) out.holds x i in gone (hold_numbers has.holds) x.ino (h.holds x k.0) k.1);
      pages = λ n i. (let k = kept_other (λ (m : ℕ). m) (page_numbers has.pages) out.pages n i in gone (page_numbers has.pages) n (h.pages n k.0) k.1);
      numbers = λ n i. (let k = kept_other (λ (m : ℕ). m) (ino_numbers has.inodes) out.numbers n i in gone (ino_numbers has.inodes) n (h.numbers n k.0) k.1);
    }

-- ---- bytes that are written

map_some : {X Y : Type 0} (f : X → Y) (o : Option X) (y : Y) → option_map f o ≡ Some y → (x : X) × (o ≡ Some x) × (f x ≡ y)
map_some f None y e = absurd cc
map_some f (Some x) y e = (x, refl, cc)

-- the change leaves the number of what it changes
abbrev Keeps : {X : Type 0} → (X → ℕ) → (X → Option X) → Type 0
Keeps {X} number f = (x y : X) → f x ≡ Some y → number y ≡ number x

changed_numbers : {X : Type 0} (number : X → ℕ) (f : X → Option X) → Keeps number f → (p : X → Bool) (xs ys : List X) → changed_first p f xs ≡ Some ys → map number ys ≡ map number xs
changed_numbers number f keeps p xs ys e =
    let first = option_and_then-Some (λ i. changed_at f i xs) (position p xs) ys e in
    let i : ℕ = first.0 in
    let a = option_and_then-Some (λ x. option_map (λ y. set xs i y) (f x)) (slice_get xs i) ys first.2 in
    let b = map_some (λ y. set xs i y) (f a.0) ys a.2 in
    ap (map number) (sym b.2)
    ∙ map-set_same number xs i b.0 a.0 (keeps a.0 b.0 b.1 ∙ ap number (sym (get_or_from_slice_get xs i a.0 a.0 a.1)))

file_numbers-written : (f : LentFile → Option LentFile) → Keeps (λ w. w.stands.ino) f → (ino : ℕ) (out : LibOut) (has after : Has) → with_file f ino has ≡ Some after → HasAll out has → HasAll out after
file_numbers-written f keeps ino out has after e h =
    let put : List LentFile → Has = λ writes. record has { writes = writes } in
    let a = map_some put (changed_first (λ w. eqb w.stands.ino ino) f has.writes) after e in
    let same = changed_numbers (λ w. w.stands.ino) f keeps (λ w. eqb w.stands.ino ino) has.writes a.0 a.1 in
    subst (HasAll out) a.2 (record {
      writes = λ w i. subst (In w.ino) (sym same) (h.writes w i);
      reads = h.reads;
      holds = h.holds;
      pages = h.pages;
      numbers = h.numbers;
    })

page_numbers-written : (f : FreshParts → Option FreshParts) → Keeps (λ p. p.no.0) f → (page : ℕ) (out : LibOut) (has after : Has) → with_fresh f page has ≡ Some after → HasAll out has → HasAll out after
page_numbers-written f keeps page out has after e h =
    let put : List FreshParts → Has = λ pages. record has { pages = pages } in
    let a = map_some put (changed_first (λ p. eqb p.no.0 page) f has.pages) after e in
    let same = changed_numbers (λ p. p.no.0) f keeps (λ p. eqb p.no.0 page) has.pages a.0 a.1 in
    subst (HasAll out) a.2 (record {
      writes = h.writes;
      reads = h.reads;
      holds = h.holds;
      pages = λ n i. subst (In n) (sym same) (h.pages n i);
      numbers = h.numbers;
    })

pub has_all-poked : (out : LibOut) (has after : Has) (at : Spot) (offset : ℕ) (bytes : List ℕ) → poked has at offset bytes ≡ Some after → HasAll out has → HasAll out after
has_all-poked out has after (Body ino) offset bytes e =
    file_numbers-written (poked_body offset bytes) (λ f g k. (let b = map_some _ _ g k in ap (λ (x : LentFile). x.stands.ino) (sym b.2))) ino out has after e
has_all-poked out has after (Index ino i) offset bytes e =
    file_numbers-written (poked_index i offset bytes) (λ f g k. (let b = map_some _ _ g k in ap (λ (x : LentFile). x.stands.ino) (sym b.2))) ino out has after e
has_all-poked out has after (Block ino i) offset bytes e =
    file_numbers-written (poked_block i offset bytes) (λ f g k. (let b = map_some _ _ g k in ap (λ (x : LentFile). x.stands.ino) (sym b.2))) ino out has after e
has_all-poked out has after (Fresh page) offset bytes e =
    page_numbers-written (poked_fresh offset bytes) (λ f g k. (let b = map_some _ _ g k in ap (λ (x : FreshParts). x.no.0) (sym b.2))) page out has after e
