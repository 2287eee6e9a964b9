-- Names one after another, up to the first that comes again.
use Rattle.trio_survey.proofs.Words.{◌++◌, ◌+◌, ◌<◌, ◌||◌, ◌∙◌, ◌∷◌, ◌≡◌, ◌≤◌, AreNamed, Bool, DirEntry, In, List, Listed, Location, MarksNames, None, Option, Regular, Some, [], ap, append-nil, append_assoc, arith, bytes_eq, cases_eq, cond, drop, entry_seen, false, flat_map, flat_map-append, get, get_or, get_or-set_other, get_or-set_same, get_or_append_left, get_or_default, get_or_from_slice_get, inl, inr, length, length-append, length-replicate, length-set, map, map-append, nat_cmp, not, place_of, refl, repeated_name, replicate, set, slice_cmp, slice_get, slice_get_within, suc, sym, take, take_more, true, zero, ℕ}
use Rattle.std.specs.Ordering.{is_eq}
use Rattle.std.specs.BTreeMap.{BTreeMap}
use Rattle.std.proofs.lemmas.Map.Text.{is_eq-slice_cmp}
use Rattle.std.proofs.lemmas.Option.{none-some, same_Some, slice_get-get_or}
use Rattle.std.proofs.lemmas.Slice.Eq.{bytes_eq-Decides}
use Rattle.std.proofs.Math.Seq.{drop-cons}
use Rattle.trio_layout.specs.Entries.{has_name}
use Rattle.trio_survey.specs.inner.Blocks.{AreApart, AreNumbered}

-- ---- numbers of names

differ : (a b : List ℕ) → (a ≡ b → ⊥) → bytes_eq a b ≡ false
differ a b ne =
    elim (bytes_eq a b) as (λ x. bytes_eq a b ≡ x → bytes_eq a b ≡ false) [
      | true ↦ λ e. absurd (ne ((bytes_eq-Decides a b).0 e))
      | false ↦ λ e. e
    ] refl

-- a place behind a list, and one within it
pub slice_last : (xs : List (List ℕ)) (x : List ℕ) → slice_get (xs ++ x ∷ []) (length xs) ≡ Some x
slice_last [] x = refl
slice_last (y ∷ ys) x = slice_last ys x

slice_more : (xs : List (List ℕ)) (x : List ℕ) (i : ℕ) → i < length xs → slice_get (xs ++ x ∷ []) i ≡ slice_get xs i
slice_more xs x i h =
    slice_get-get_or (xs ++ x ∷ []) i x (omega (arith, h, length-append xs (x ∷ []))) ∙ ap (λ y. Some y) (get_or_append_left xs (x ∷ []) x i h) ∙ sym (slice_get-get_or xs i x h)

-- equal names have equal numbers
pub numbered_apart : (names : List (List ℕ)) (numbers : BTreeMap (List ℕ) ℕ) → AreNumbered names numbers → AreApart names
numbered_apart names numbers h = λ i j a b same.
    same_Some i j (sym (h.number_of i a) ∙ ap (get (slice_cmp nat_cmp) numbers) same ∙ h.number_of j b)

-- a name more
module _ (names : List (List ℕ)) (numbers new : BTreeMap (List ℕ) ℕ) (name : List ℕ) (n : ℕ) (h : AreNumbered names numbers) (last : n ≡ length names) (fresh : get (slice_cmp nat_cmp) numbers name ≡ None) (updates : (q : List ℕ) → get (slice_cmp nat_cmp) new q ≡ cond (is_eq (slice_cmp nat_cmp name q)) (Some n) (get (slice_cmp nat_cmp) numbers q)) where
  asked : (q : List ℕ) → get (slice_cmp nat_cmp) new q ≡ cond (bytes_eq name q) (Some n) (get (slice_cmp nat_cmp) numbers q)
  asked q = updates q ∙ ap (λ b. cond b (Some n) (get (slice_cmp nat_cmp) numbers q)) (is_eq-slice_cmp name q)

  here : (q : List ℕ) → bytes_eq name q ≡ true → get (slice_cmp nat_cmp) new q ≡ Some n
  here q e = asked q ∙ ap (λ b. cond b (Some n) (get (slice_cmp nat_cmp) numbers q)) e

  there : (q : List ℕ) → bytes_eq name q ≡ false → get (slice_cmp nat_cmp) new q ≡ get (slice_cmp nat_cmp) numbers q
  there q e = asked q ∙ ap (λ b. cond b (Some n) (get (slice_cmp nat_cmp) numbers q)) e

  number_at : (i : ℕ) → i < length (names ++ name ∷ []) → get (slice_cmp nat_cmp) new (get_or (names ++ name ∷ []) i []) ≡ Some i
  number_at i less =
      elim (cases_eq i (length names)) [
        | inl same ↦
            let is : get_or (names ++ name ∷ []) i [] ≡ name = get_or_from_slice_get (names ++ name ∷ []) i name [] (ap (slice_get (names ++ name ∷ [])) same ∙ slice_last names name) in
            ap (get (slice_cmp nat_cmp) new) is ∙ here name ((bytes_eq-Decides name name).1 refl) ∙ ap Some (last ∙ sym same)
        | inr other ↦
            let before : i < length names = omega (arith, less, length-append names (name ∷ [])) in
            let q = get_or names i [] in
            let is : get_or (names ++ name ∷ []) i [] ≡ q = get_or_append_left names (name ∷ []) [] i before in
            let was : get (slice_cmp nat_cmp) numbers q ≡ Some i = h.number_of i before in
            let differs : bytes_eq name q ≡ false = differ name q (λ e. none-some i (sym fresh ∙ ap (get (slice_cmp nat_cmp) numbers) e ∙ was)) in
            ap (get (slice_cmp nat_cmp) new) is ∙ there q differs ∙ was
      ]

  name_at : (b : Bool) (q : List ℕ) (i : ℕ) → bytes_eq name q ≡ b → get (slice_cmp nat_cmp) new q ≡ Some i → slice_get (names ++ name ∷ []) i ≡ Some q
  name_at true q i e g =
      let same : i ≡ length names = sym (same_Some n i (sym (here q e) ∙ g)) ∙ last in
      ap (slice_get (names ++ name ∷ [])) same ∙ slice_last names name ∙ ap Some ((bytes_eq-Decides name q).0 e)
  name_at false q i e g =
      let was = h.name_of q i (sym (there q e) ∙ g) in
      slice_more names name i (slice_get_within names i q was) ∙ was

  pub numbered_more : AreNumbered (names ++ name ∷ []) new
  numbered_more = record { number_of = number_at; name_of = λ q i g. name_at (bytes_eq name q) q i refl g }

-- ---- entries one after another

repeated_step : (has : Bool) (seen : List Listed) (l : Listed) (xs ys : List Listed) → cond has (Some (place_of l)) (repeated_name (seen ++ l ∷ []) xs) ≡ None → (repeated_name (seen ++ l ∷ []) xs ≡ None → repeated_name (seen ++ l ∷ []) (xs ++ ys) ≡ repeated_name ((seen ++ l ∷ []) ++ xs) ys) → cond has (Some (place_of l)) (repeated_name (seen ++ l ∷ []) (xs ++ ys)) ≡ repeated_name (seen ++ l ∷ xs) ys
repeated_step true seen l xs ys h rest = absurd cc
repeated_step false seen l xs ys h rest = rest h ∙ ap (λ s. repeated_name s ys) (append_assoc seen (l ∷ []) xs)

front_step : (has : Bool) (seen : List Listed) (l : Listed) (xs ys : List Listed) (p : Location) → cond has (Some (place_of l)) (repeated_name (seen ++ l ∷ []) xs) ≡ Some p → (repeated_name (seen ++ l ∷ []) xs ≡ Some p → repeated_name (seen ++ l ∷ []) (xs ++ ys) ≡ Some p) → cond has (Some (place_of l)) (repeated_name (seen ++ l ∷ []) (xs ++ ys)) ≡ Some p
front_step true seen l xs ys p h rest = h
front_step false seen l xs ys p h rest = rest h

-- a front that has no name twice, and then the rest
pub repeated-append : (seen xs ys : List Listed) → repeated_name seen xs ≡ None → repeated_name seen (xs ++ ys) ≡ repeated_name (seen ++ xs) ys
repeated-append seen [] ys h = ap (λ s. repeated_name s ys) (sym (append-nil seen))
repeated-append seen (l ∷ xs) ys h = repeated_step (has_name l.entry.name seen) seen l xs ys h (λ k. repeated-append (seen ++ l ∷ []) xs ys k)

-- a front that has a name twice
pub repeated-front : (seen xs ys : List Listed) (p : Location) → repeated_name seen xs ≡ Some p → repeated_name seen (xs ++ ys) ≡ Some p
repeated-front seen [] ys p h = absurd cc
repeated-front seen (l ∷ xs) ys p h = front_step (has_name l.entry.name seen) seen l xs ys p h (λ k. repeated-front (seen ++ l ∷ []) xs ys p k)

-- ---- marks over names

or_true : (a b : Bool) → b ≡ true → (a || b) ≡ true
or_true true b h = refl
or_true false b h = h

-- an entry more has this name
has_last : (q : List ℕ) (seen : List Listed) (l : Listed) → bytes_eq l.entry.name q ≡ true → has_name q (seen ++ l ∷ []) ≡ true
has_last q [] l e = rw e refl
has_last q (x ∷ xs) l e = or_true (bytes_eq x.entry.name q) (has_name q (xs ++ l ∷ [])) (has_last q xs l e)

-- and one more has another
has_other : (q : List ℕ) (seen : List Listed) (l : Listed) → bytes_eq l.entry.name q ≡ false → has_name q (seen ++ l ∷ []) ≡ has_name q seen
has_other q [] l e = rw e refl
has_other q (x ∷ xs) l e = ap (λ b. bytes_eq x.entry.name q || b) (has_other q xs l e)

no_marks : (n i : ℕ) → get_or (replicate n false) i false ≡ false
no_marks zero i = refl
no_marks (suc n) zero = refl
no_marks (suc n) (suc i) = no_marks n i

-- none is marked before the first entry
pub none_marked : (names : List (List ℕ)) (n : ℕ) → AreApart names → length names ≤ n → MarksNames names (replicate n false) []
none_marked names n apart few = record {
  apart = apart;
  within = rw length-replicate few;
  marked = λ i lt. no_marks n i;
}

-- the name of one entry more is marked
pub marked_more : (names : List (List ℕ)) (marks : List Bool) (seen : List Listed) (l : DirEntry) → MarksNames names marks seen → l.name < length names → MarksNames names (set marks l.name true) (seen ++ entry_seen names l ∷ [])
marked_more names marks seen l h lt = record {
  apart = h.apart;
  within = rw length-set h.within;
  marked = λ i within. (elim (cases_eq i l.name) [
    | inl same ↦ here i same
    | inr other ↦ there i within other
  ]);
}
  where
    name : List ℕ
    name = get_or names l.name []

    here : (i : ℕ) → i ≡ l.name → get_or (set marks l.name true) i false ≡ has_name (get_or names i []) (seen ++ entry_seen names l ∷ [])
    here i same = rw same (get_or-set_same marks l.name true false (omega (arith, h.within)) ∙ sym (has_last name seen (entry_seen names l) ((bytes_eq-Decides name name).1 refl)))

    there : (i : ℕ) → i < length names → (i ≡ l.name → ⊥) → get_or (set marks l.name true) i false ≡ has_name (get_or names i []) (seen ++ entry_seen names l ∷ [])
    there i within other =
        get_or-set_other marks l.name i true false other ∙ h.marked i within
        ∙ sym (has_other (get_or names i []) seen (entry_seen names l) (differ name (get_or names i []) (λ e. other (sym (h.apart l.name i lt within e)))))

-- ---- entries of a slice

In-get : (es : List DirEntry) (i : ℕ) (l : DirEntry) → i < length es → l ≡ get_or es i l → In l es
In-get [] i l h e = omega arith
In-get (x ∷ xs) zero l h e = inl e
In-get (x ∷ xs) (suc i) l h e = inr (In-get xs i l (omega arith) e)

-- this entry stands at a place among the entries
abbrev pub IsAt : List DirEntry → ℕ → DirEntry → Type 0
IsAt es i l = (i < length es) × (l ≡ get_or es i l)

-- the entry that stands where none does
abbrev pub blank : DirEntry
blank = record { ino = 0; name = 0; page = 0; slot = 0; kind = Regular; body = [] }

pub stands : (es : List DirEntry) (i : ℕ) → i < length es → IsAt es i (get_or es i blank)
stands es i h = (h, get_or_default es i blank (get_or es i blank) h)

pub is_in : (es : List DirEntry) (i : ℕ) (l : DirEntry) → IsAt es i l → In l es
is_in es i l at = In-get es i l at.0 at.1

pub taken : (names : List (List ℕ)) (es : List DirEntry) (i : ℕ) (l : DirEntry) → IsAt es i l → map (entry_seen names) (take (i + 1) es) ≡ map (entry_seen names) (take i es) ++ entry_seen names l ∷ []
taken names es i l h =
    ap (map (entry_seen names)) (take_more es i l h.0) ∙ map-append (entry_seen names) (take i es) (get_or es i l ∷ [])
    ∙ ap (λ x. map (entry_seen names) (take i es) ++ entry_seen names x ∷ []) (sym h.1)

left : (names : List (List ℕ)) (es : List DirEntry) (i : ℕ) (l : DirEntry) → IsAt es i l → map (entry_seen names) (drop i es) ≡ entry_seen names l ∷ map (entry_seen names) (drop (i + 1) es)
left names es i l h =
    let s : i + 1 ≡ suc i = omega arith in
    rw s (ap (map (entry_seen names)) (drop-cons es i l h.0) ∙ ap (λ x. entry_seen names x ∷ map (entry_seen names) (drop (suc i) es)) (sym h.1))

not_not : (new had : Bool) → new ≡ not had → had ≡ not new
not_not true true h = absurd cc
not_not true false h = refl
not_not false true h = refl
not_not false false h = absurd cc

-- what is marked, and whether the mark is new
module _ (names : List (List ℕ)) (es : List DirEntry) (i : ℕ) (l : DirEntry) (at : IsAt es i l) (seen : List Listed) (marks : List Bool) (named : AreNamed names es) (is : MarksNames names marks (seen ++ map (entry_seen names) (take i es))) (new : Bool) (marked : new ≡ not (get_or marks l.name false)) where
  has : has_name (get_or names l.name []) (seen ++ map (entry_seen names) (take i es)) ≡ not new
  has = sym (is.marked l.name (named l (is_in es i l at))) ∙ not_not new (get_or marks l.name false) marked

  step : repeated_name (seen ++ map (entry_seen names) (take i es)) (map (entry_seen names) (drop i es)) ≡ cond (not new) (Some (place_of (entry_seen names l))) (repeated_name (seen ++ map (entry_seen names) (take (i + 1) es)) (map (entry_seen names) (drop (i + 1) es)))
  step = rw (left names es i l at, has, taken names es i l at, ← append_assoc) refl

  pub comes_again : (r : Option Location) → repeated_name (seen ++ map (entry_seen names) (take i es)) (map (entry_seen names) (drop i es)) ≡ r → new ≡ false → Some (place_of (entry_seen names l)) ≡ r
  comes_again r e f = sym (ap (λ b. cond (not b) (Some (place_of (entry_seen names l))) (repeated_name (seen ++ map (entry_seen names) (take (i + 1) es)) (map (entry_seen names) (drop (i + 1) es)))) f) ∙ sym step ∙ e

  pub goes_on : (r : Option Location) → repeated_name (seen ++ map (entry_seen names) (take i es)) (map (entry_seen names) (drop i es)) ≡ r → new ≡ true → repeated_name (seen ++ map (entry_seen names) (take (i + 1) es)) (map (entry_seen names) (drop (i + 1) es)) ≡ r
  goes_on r e t = sym (ap (λ b. cond (not b) (Some (place_of (entry_seen names l))) (repeated_name (seen ++ map (entry_seen names) (take (i + 1) es)) (map (entry_seen names) (drop (i + 1) es)))) t) ∙ sym step ∙ e

  pub marks_on : MarksNames names (set marks l.name true) (seen ++ map (entry_seen names) (take (i + 1) es))
  marks_on = rw (taken names es i l at, ← append_assoc) (marked_more names marks (seen ++ map (entry_seen names) (take i es)) l is (named l (is_in es i l at)))

-- ---- one block more

pub blocks_taken : (g : ℕ → List Listed) (bs : List ℕ) (i : ℕ) → i < length bs → flat_map g (take (i + 1) bs) ≡ flat_map g (take i bs) ++ g (get_or bs i 0)
blocks_taken g bs i h =
    ap (flat_map g) (take_more bs i 0 h) ∙ flat_map-append g (take i bs) (get_or bs i 0 ∷ []) ∙ ap (λ x. flat_map g (take i bs) ++ x) (append-nil (g (get_or bs i 0)))

pub blocks_left : (g : ℕ → List Listed) (bs : List ℕ) (i : ℕ) → i < length bs → flat_map g (drop i bs) ≡ g (get_or bs i 0) ++ flat_map g (drop (i + 1) bs)
blocks_left g bs i h =
    let s : i + 1 ≡ suc i = omega arith in
    rw s (ap (flat_map g) (drop-cons bs i 0 h))

-- a block without a name that comes again
pub block_passed : (g : ℕ → List Listed) (bs : List ℕ) (i : ℕ) (r : Option Location) → i < length bs → repeated_name (flat_map g (take i bs)) (flat_map g (drop i bs)) ≡ r → None ≡ repeated_name (flat_map g (take i bs)) (g (get_or bs i 0)) → repeated_name (flat_map g (take (i + 1) bs)) (flat_map g (drop (i + 1) bs)) ≡ r
block_passed g bs i r h e p =
    ap (λ s. repeated_name s (flat_map g (drop (i + 1) bs))) (blocks_taken g bs i h)
    ∙ sym (repeated-append (flat_map g (take i bs)) (g (get_or bs i 0)) (flat_map g (drop (i + 1) bs)) (sym p))
    ∙ ap (repeated_name (flat_map g (take i bs))) (sym (blocks_left g bs i h)) ∙ e

-- a block with one
pub block_repeats : (g : ℕ → List Listed) (bs : List ℕ) (i : ℕ) (r : Option Location) (p : Location) → i < length bs → repeated_name (flat_map g (take i bs)) (flat_map g (drop i bs)) ≡ r → Some p ≡ repeated_name (flat_map g (take i bs)) (g (get_or bs i 0)) → Some p ≡ r
block_repeats g bs i r p h e q =
    sym (repeated-front (flat_map g (take i bs)) (g (get_or bs i 0)) (flat_map g (drop (i + 1) bs)) p (sym q))
    ∙ ap (repeated_name (flat_map g (take i bs))) (sym (blocks_left g bs i h)) ∙ e
