-- Names one after another, up to the first that comes again.
use Rattle.trio_case.proofs.Words.{◌++◌, ◌+◌, ◌<◌, ◌||◌, ◌∙◌, ◌∷◌, ◌≡◌, ◌≤◌, AreNamed, Bool, DirEntry, In, List, Listed, Location, MarksNames, None, Option, Regular, Some, [], ap, append-nil, append_assoc, arith, bytes_eq, cases_eq, cond, drop, false, flat_map, flat_map-append, get_or, get_or-set_other, get_or-set_same, get_or_default, inl, inr, length, length-replicate, length-set, listed_seen, map, map-append, not, refl, repeated_name, replicate, set, slice_get_read, suc, sym, take, take_more, true, zero, ℕ}
use Rattle.std.proofs.lemmas.Slice.Eq.{bytes_eq-Decides}
use Rattle.std.proofs.Math.Seq.{drop-cons}
use Rattle.trio_layout.specs.Entries.{has_name, place_of}
use Rattle.trio_nameset.specs.Names.{AreApart}
use Rattle.trio_case.proofs.Opening.{In-slice_get}

-- ---- entries one after another

repeated_step : (has : Bool) (seen : List Listed) (l : Listed) (xs ys : List Listed) → cond has (Some (place_of l)) (repeated_name (seen ++ l ∷ []) xs) ≡ None → (repeated_name (seen ++ l ∷ []) xs ≡ None → repeated_name (seen ++ l ∷ []) (xs ++ ys) ≡ repeated_name ((seen ++ l ∷ []) ++ xs) ys) → cond has (Some (place_of l)) (repeated_name (seen ++ l ∷ []) (xs ++ ys)) ≡ repeated_name (seen ++ l ∷ xs) ys
repeated_step true seen l xs ys h rest = absurd cc
repeated_step false seen l xs ys h rest = rest h ∙ ap (λ s. repeated_name s ys) (append_assoc seen (l ∷ []) xs)

front_step : (has : Bool) (seen : List Listed) (l : Listed) (xs ys : List Listed) (p : Location) → cond has (Some (place_of l)) (repeated_name (seen ++ l ∷ []) xs) ≡ Some p → (repeated_name (seen ++ l ∷ []) xs ≡ Some p → repeated_name (seen ++ l ∷ []) (xs ++ ys) ≡ Some p) → cond has (Some (place_of l)) (repeated_name (seen ++ l ∷ []) (xs ++ ys)) ≡ Some p
front_step true seen l xs ys p h rest = h
front_step false seen l xs ys p h rest = rest h

-- a front that has no name twice, and then the rest
pub repeated-append : (seen xs ys : List Listed) → repeated_name seen xs ≡ None → repeated_name seen (xs ++ ys) ≡ repeated_name (seen ++ xs) ys
repeated-append seen [] ys h = ap (λ s. repeated_name s ys) (sym (append-nil seen))
repeated-append seen (l ∷ xs) ys h = repeated_step (has_name l.entry.name seen) seen l xs ys h (λ k. repeated-append (seen ++ l ∷ []) xs ys k)

-- a front that has a name twice
pub repeated-front : (seen xs ys : List Listed) (p : Location) → repeated_name seen xs ≡ Some p → repeated_name seen (xs ++ ys) ≡ Some p
repeated-front seen [] ys p h = absurd cc
repeated-front seen (l ∷ xs) ys p h = front_step (has_name l.entry.name seen) seen l xs ys p h (λ k. repeated-front (seen ++ l ∷ []) xs ys p k)

-- ---- marks over names

or_true : (a b : Bool) → b ≡ true → (a || b) ≡ true
or_true true b h = refl
or_true false b h = h

-- an entry more has this name
has_last : (q : List ℕ) (seen : List Listed) (l : Listed) → bytes_eq l.entry.name q ≡ true → has_name q (seen ++ l ∷ []) ≡ true
has_last q [] l e = rw e refl
has_last q (x ∷ xs) l e = or_true (bytes_eq x.entry.name q) (has_name q (xs ++ l ∷ [])) (has_last q xs l e)

-- and one more has another
has_other : (q : List ℕ) (seen : List Listed) (l : Listed) → bytes_eq l.entry.name q ≡ false → has_name q (seen ++ l ∷ []) ≡ has_name q seen
has_other q [] l e = rw e refl
has_other q (x ∷ xs) l e = ap (λ b. bytes_eq x.entry.name q || b) (has_other q xs l e)

differ : (a b : List ℕ) → (a ≡ b → ⊥) → bytes_eq a b ≡ false
differ a b ne =
    elim (bytes_eq a b) as (λ x. bytes_eq a b ≡ x → bytes_eq a b ≡ false) [
      | true ↦ λ e. absurd (ne ((bytes_eq-Decides a b).0 e))
      | false ↦ λ e. e
    ] refl

no_marks : (n i : ℕ) → get_or (replicate n false) i false ≡ false
no_marks zero i = refl
no_marks (suc n) zero = refl
no_marks (suc n) (suc i) = no_marks n i

-- none is marked before the first entry
pub none_marked : (names : List (List ℕ)) (n : ℕ) → AreApart names → length names ≤ n → MarksNames names (replicate n false) []
none_marked names n apart few = record {
  apart = apart;
  within = rw length-replicate few;
  marked = λ i lt. no_marks n i;
}

-- the name of one entry more is marked
pub marked_more : (names : List (List ℕ)) (marks : List Bool) (seen : List Listed) (l : DirEntry) → MarksNames names marks seen → l.name < length names → MarksNames names (set marks l.name true) (seen ++ listed_seen names l ∷ [])
marked_more names marks seen l h lt = record {
  apart = h.apart;
  within = rw length-set h.within;
  marked = λ i within. (elim (cases_eq i l.name) [
    | inl same ↦ here i same
    | inr other ↦ there i within other
  ]);
}
  where
    name : List ℕ
    name = get_or names l.name []

    here : (i : ℕ) → i ≡ l.name → get_or (set marks l.name true) i false ≡ has_name (get_or names i []) (seen ++ listed_seen names l ∷ [])
    here i same = rw same (get_or-set_same marks l.name true false (omega (arith, h.within)) ∙ sym (has_last name seen (listed_seen names l) ((bytes_eq-Decides name name).1 refl)))

    there : (i : ℕ) → i < length names → (i ≡ l.name → ⊥) → get_or (set marks l.name true) i false ≡ has_name (get_or names i []) (seen ++ listed_seen names l ∷ [])
    there i within other =
        get_or-set_other marks l.name i true false other ∙ h.marked i within
        ∙ sym (has_other (get_or names i []) seen (listed_seen names l) (differ name (get_or names i []) (λ e. other (sym (h.apart l.name i lt within e)))))

-- ---- entries of a slice

-- this entry stands at a place among the entries
abbrev pub IsAt : List DirEntry → ℕ → DirEntry → Type 0
IsAt es i l = (i < length es) × (l ≡ get_or es i l)

-- the entry that stands where none does
abbrev pub blank : DirEntry
blank = record { ino = 0; name = 0; page = 0; slot = 0; kind = Regular; body = [] }

pub stands : (es : List DirEntry) (i : ℕ) → i < length es → IsAt es i (get_or es i blank)
stands es i h = (h, get_or_default es i blank (get_or es i blank) h)

pub is_in : (es : List DirEntry) (i : ℕ) (l : DirEntry) → IsAt es i l → In l es
is_in es i l at = In-slice_get es i l (slice_get_read es (length es) i l refl at.0 at.1)

pub taken : (names : List (List ℕ)) (es : List DirEntry) (i : ℕ) (l : DirEntry) → IsAt es i l → map (listed_seen names) (take (i + 1) es) ≡ map (listed_seen names) (take i es) ++ listed_seen names l ∷ []
taken names es i l h =
    ap (map (listed_seen names)) (take_more es i l h.0) ∙ map-append (listed_seen names) (take i es) (get_or es i l ∷ [])
    ∙ ap (λ x. map (listed_seen names) (take i es) ++ listed_seen names x ∷ []) (sym h.1)

left : (names : List (List ℕ)) (es : List DirEntry) (i : ℕ) (l : DirEntry) → IsAt es i l → map (listed_seen names) (drop i es) ≡ listed_seen names l ∷ map (listed_seen names) (drop (i + 1) es)
left names es i l h =
    let s : i + 1 ≡ suc i = omega arith in
    rw s (ap (map (listed_seen names)) (drop-cons es i l h.0) ∙ ap (λ x. listed_seen names x ∷ map (listed_seen names) (drop (suc i) es)) (sym h.1))

not_not : (new had : Bool) → new ≡ not had → had ≡ not new
not_not true true h = absurd cc
not_not true false h = refl
not_not false true h = refl
not_not false false h = absurd cc

-- what is marked, and whether the mark is new
module _ (names : List (List ℕ)) (es : List DirEntry) (i : ℕ) (l : DirEntry) (at : IsAt es i l) (seen : List Listed) (marks : List Bool) (named : AreNamed names es) (is : MarksNames names marks (seen ++ map (listed_seen names) (take i es))) (new : Bool) (marked : new ≡ not (get_or marks l.name false)) where
  has : has_name (get_or names l.name []) (seen ++ map (listed_seen names) (take i es)) ≡ not new
  has = sym (is.marked l.name (named l (is_in es i l at))) ∙ not_not new (get_or marks l.name false) marked

  step : repeated_name (seen ++ map (listed_seen names) (take i es)) (map (listed_seen names) (drop i es)) ≡ cond (not new) (Some (place_of (listed_seen names l))) (repeated_name (seen ++ map (listed_seen names) (take (i + 1) es)) (map (listed_seen names) (drop (i + 1) es)))
  step = rw (left names es i l at, has, taken names es i l at, ← append_assoc) refl

  pub comes_again : (r : Option Location) → repeated_name (seen ++ map (listed_seen names) (take i es)) (map (listed_seen names) (drop i es)) ≡ r → new ≡ false → Some (place_of (listed_seen names l)) ≡ r
  comes_again r e f = sym (ap (λ b. cond (not b) (Some (place_of (listed_seen names l))) (repeated_name (seen ++ map (listed_seen names) (take (i + 1) es)) (map (listed_seen names) (drop (i + 1) es)))) f) ∙ sym step ∙ e

  pub goes_on : (r : Option Location) → repeated_name (seen ++ map (listed_seen names) (take i es)) (map (listed_seen names) (drop i es)) ≡ r → new ≡ true → repeated_name (seen ++ map (listed_seen names) (take (i + 1) es)) (map (listed_seen names) (drop (i + 1) es)) ≡ r
  goes_on r e t = sym (ap (λ b. cond (not b) (Some (place_of (listed_seen names l))) (repeated_name (seen ++ map (listed_seen names) (take (i + 1) es)) (map (listed_seen names) (drop (i + 1) es)))) t) ∙ sym step ∙ e

  pub marks_on : MarksNames names (set marks l.name true) (seen ++ map (listed_seen names) (take (i + 1) es))
  marks_on = rw (taken names es i l at, ← append_assoc) (marked_more names marks (seen ++ map (listed_seen names) (take i es)) l is (named l (is_in es i l at)))

-- ---- one block more

pub blocks_taken : (g : ℕ → List Listed) (bs : List ℕ) (i : ℕ) → i < length bs → flat_map g (take (i + 1) bs) ≡ flat_map g (take i bs) ++ g (get_or bs i 0)
blocks_taken g bs i h =
    ap (flat_map g) (take_more bs i 0 h) ∙ flat_map-append g (take i bs) (get_or bs i 0 ∷ []) ∙ ap (λ x. flat_map g (take i bs) ++ x) (append-nil (g (get_or bs i 0)))

pub blocks_left : (g : ℕ → List Listed) (bs : List ℕ) (i : ℕ) → i < length bs → flat_map g (drop i bs) ≡ g (get_or bs i 0) ++ flat_map g (drop (i + 1) bs)
blocks_left g bs i h =
    let s : i + 1 ≡ suc i = omega arith in
    rw s (ap (flat_map g) (drop-cons bs i 0 h))

-- a block without a name that comes again
pub block_passed : (g : ℕ → List Listed) (bs : List ℕ) (i : ℕ) (r : Option Location) → i < length bs → repeated_name (flat_map g (take i bs)) (flat_map g (drop i bs)) ≡ r → None ≡ repeated_name (flat_map g (take i bs)) (g (get_or bs i 0)) → repeated_name (flat_map g (take (i + 1) bs)) (flat_map g (drop (i + 1) bs)) ≡ r
block_passed g bs i r h e p =
    ap (λ s. repeated_name s (flat_map g (drop (i + 1) bs))) (blocks_taken g bs i h)
    ∙ sym (repeated-append (flat_map g (take i bs)) (g (get_or bs i 0)) (flat_map g (drop (i + 1) bs)) (sym p))
    ∙ ap (repeated_name (flat_map g (take i bs))) (sym (blocks_left g bs i h)) ∙ e

-- a block with one
pub block_repeats : (g : ℕ → List Listed) (bs : List ℕ) (i : ℕ) (r : Option Location) (p : Location) → i < length bs → repeated_name (flat_map g (take i bs)) (flat_map g (drop i bs)) ≡ r → Some p ≡ repeated_name (flat_map g (take i bs)) (g (get_or bs i 0)) → Some p ≡ r
block_repeats g bs i r p h e q =
    sym (repeated-front (flat_map g (take i bs)) (g (get_or bs i 0)) (flat_map g (drop (i + 1) bs)) p (sym q))
    ∙ ap (repeated_name (flat_map g (take i bs))) (sym (blocks_left g bs i h)) ∙ e
