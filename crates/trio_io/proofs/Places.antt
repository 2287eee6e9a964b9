-- Where a name stands, and numbers and contents by place.
use Rattle.std.proofs.Common.{◌≡◌, ℕ, ◌<◌, ◌≤◌, Bool, true, false, List, [], ◌∷◌, length, get_or, set, String, string_bytes, Contains, refl, sym, ◌∙◌, ap, inl, inr, arith}
use Rattle.std.proofs.lemmas.Bool.{cases_eq, cases_lt, both_ways}
use Rattle.std.proofs.lemmas.List.{get_or-set_other, get_or-set_same, length-map, get_or-map}
use Rattle.std.proofs.lemmas.List.Sums.{passes_at_first, fails_before_first, position_or_len_is}
use Rattle.std.proofs.lemmas.Slice.Eq.{bytes_eq-Decides}
use Rattle.std.specs.Str.{bytes_eq}
use Rattle.std.specs.declared.alloc.Global.{Global}
use Rattle.trio_io.specs.Names.{place_of, texts_of, count_of}
use Rattle.trio_io.specs.Kept.{told_bytes, content_at, bytes_at, bytes_of}
use Rattle.trio_io.specs.declared.content.Content.{Content}
use Rattle.trio_io.specs.declared.content.Content.TheVariants.{Absent}
use Rattle.trio_io.specs.Shelf.{RisesAt, KeepsOthers}

-- what stands at its place is the name
pub text_at_place : (names : List (String Global)) (q : List ℕ) (d : String Global) → place_of names q < length names → string_bytes (get_or names (place_of names q) d) ≡ q
text_at_place names q d h =
    let p : String Global → Bool = λ name. bytes_eq (string_bytes name) q in
    (bytes_eq-Decides (string_bytes (get_or names (place_of names q) d)) q).0 (passes_at_first p names d h)

-- two names at one place are one
pub place_of_inj : (names : List (String Global)) (q r : List ℕ) → place_of names q ≡ place_of names r → place_of names r < length names → q ≡ r
place_of_inj [] q r e h = absurd (omega arith)
place_of_inj (name ∷ names) q r e h =
    let all : List (String Global) = name ∷ names in
    let at_q : string_bytes (get_or all (place_of all q) name) ≡ q = text_at_place all q name (omega arith) in
    let at_r : string_bytes (get_or all (place_of all r) name) ≡ r = text_at_place all r name h in
    sym at_q ∙ ap (λ (i : ℕ). string_bytes (get_or all i name)) e ∙ at_r

past_all : (names : List (String Global)) (q : List ℕ) (d : String Global) (k : ℕ) → length names ≤ place_of names q → k < length names → string_bytes (get_or names k d) ≡ q → ⊥
past_all names q d k past h e =
    let p : String Global → Bool = λ name. bytes_eq (string_bytes name) q in
    let fails : p (get_or names k d) ≡ false = fails_before_first p names k d (omega arith) in
    both_ways (p (get_or names k d)) fails ((bytes_eq-Decides (string_bytes (get_or names k d)) q).1 e)

-- a name of the list has a place in it
pub place_of_lt : (names : List (String Global)) (q : List ℕ) → Contains (texts_of names) q → place_of names q < length names
place_of_lt [] q h = absurd (omega (arith, h.1))
place_of_lt (name ∷ names) q h =
    let all : List (String Global) = name ∷ names in
    let within : h.0 < length all = rw length-map at h.1 in
    let same : string_bytes (get_or all h.0 name) ≡ q = sym (get_or-map (λ n. string_bytes n) all h.0 name q within) ∙ h.2 in
    elim (cases_lt (place_of all q) (length all)) [ inl lt ↦ lt | inr past ↦ absurd (past_all all q name h.0 past within same) ]

-- what has a place in the list is a name of it
pub among_by_place : (names : List (String Global)) (q : List ℕ) → place_of names q < length names → Contains (texts_of names) q
among_by_place [] q h = absurd (omega arith)
among_by_place (name ∷ names) q h =
    let all : List (String Global) = name ∷ names in
    let here : get_or (texts_of all) (place_of all q) q ≡ q = get_or-map (λ n. string_bytes n) all (place_of all q) name q h ∙ text_at_place all q name h in
    (place_of all q, rw length-map h, here)

-- what a look from the front finds
pub place_found : (names : List (String Global)) (q : List ℕ) (i : ℕ) (d : String Global) → i < length names → ((k : ℕ) (e : String Global) → k < i → bytes_eq (string_bytes (get_or names k e)) q ≡ false) → bytes_eq (string_bytes (get_or names i d)) q ≡ true → i ≡ place_of names q
place_found names q i d h before here =
    let p : String Global → Bool = λ name. bytes_eq (string_bytes name) q in
    sym (position_or_len_is p names i d (omega arith) (λ k lt. before k d lt) (λ lt. here))

pub place_none : (names : List (String Global)) (q : List ℕ) → ((k : ℕ) (e : String Global) → k < length names → bytes_eq (string_bytes (get_or names k e)) q ≡ false) → length names ≡ place_of names q
place_none [] q before = refl
place_none (name ∷ names) q before =
    let p : String Global → Bool = λ n. bytes_eq (string_bytes n) q in
    let all : List (String Global) = name ∷ names in
    sym (position_or_len_is p all (length all) name (omega arith) (λ k lt. before k name lt) (λ lt. absurd (omega arith)))

later_set : (names : List (String Global)) (counts : List ℕ) (i j n : ℕ) → i < length counts → get_or counts i 0 ≤ n → get_or counts j 0 ≤ get_or (set counts i n) j 0
later_set names counts i j n h le = elim (cases_eq j i) [
  | inl e ↦ (let same : get_or (set counts i n) i 0 ≡ n = get_or-set_same counts i n 0 h in rw (e, same) le)
  | inr ne ↦ (let same : get_or (set counts i n) j 0 ≡ get_or counts j 0 = get_or-set_other counts i j n 0 ne in omega (arith, same))
]

-- a count that is set at a name's place, and does not fall
pub rises_set : (names : List (String Global)) (counts : List ℕ) (name : List ℕ) (i n : ℕ) → length counts ≡ length names → i ≡ place_of names name → i < length names → count_of names counts name ≤ n → RisesAt name (count_of names counts) (count_of names (set counts i n))
rises_set names counts name i n len at within no_less =
    let le : get_or counts i 0 ≤ n = rw at no_less in
    record {
      later = λ q. later_set names counts i (place_of names q) n (omega arith) le;
      others = λ q ne. get_or-set_other counts i (place_of names q) n 0 (λ e. ne (place_of_inj names q name (e ∙ at) (omega arith)));
    }

pub count_set : (names : List (String Global)) (counts : List ℕ) (name : List ℕ) (i n : ℕ) → length counts ≡ length names → i ≡ place_of names name → i < length names → count_of names (set counts i n) name ≡ n
count_set names counts name i n len at within = rw (← at) (get_or-set_same counts i n 0 (omega arith))

-- a content that is put at a name's place
pub others_put : (names : List (String Global)) (contents : List Content) (name : List ℕ) (i : ℕ) (v : Content) → i ≡ place_of names name → i < length names → KeepsOthers name (λ q. content_at contents (place_of names q)) (λ q. content_at (set contents i v) (place_of names q))
others_put names contents name i v at within =
    λ q ne. ap told_bytes (get_or-set_other contents i (place_of names q) v Absent (λ e. ne (place_of_inj names q name (e ∙ at) (omega arith))))

-- the same of all that is kept, told or not
pub others_kept : (names : List (String Global)) (contents : List Content) (name : List ℕ) (i : ℕ) (v : Content) → i ≡ place_of names name → i < length names
    → KeepsOthers name (λ q. bytes_at contents (place_of names q)) (λ q. bytes_at (set contents i v) (place_of names q))
others_kept names contents name i v at within =
    λ q ne. ap bytes_of (get_or-set_other contents i (place_of names q) v Absent (λ e. ne (place_of_inj names q name (e ∙ at) (omega arith))))
