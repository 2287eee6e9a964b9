-- The turns of each library in a script.
use Rattle.trio_runner.proofs.Words.{◌++◌, ◌+◌, ◌<◌, ◌∙◌, ◌∷◌, ◌≡◌, ◌≤◌, ◌⊎◌, Bool, Ends, In, In-cases, List, None, Option, Placed, ScriptLib, Some, Turn, [], ap, append-nil, arith, cases_Bool, cond, course, courses_from, drop, eq-eqb, eqb, false, filter, filter-append, get_or, in_rounds, inl, inr, length, line_turns, longest, ltb, max, ne_eqb, option_map, placed, refl, round_of, slice_get, subst, suc, sym, take, take_all, true, turn_list, turns_of, zero, ℕ}
use Rattle.std.proofs.Common.{ltb-true, ltb-false, drop-cons, nat_cmp, is_lt, Less, Equal, Greater}
use Rattle.std.specs.Ordering.{ord_max}
use Rattle.trio_runner.proofs.Held.{is_end}

-- whether a library has come to its end and took no turn since, where it stood so before these turns
abbrev pub ended : ℕ → Bool → List Placed → Bool
ended n b [] = b
ended n b (t ∷ turns) = ended n (cond (eqb t.lib.0 n) (is_end t.turn) b) turns

ended-append : (n : ℕ) (b : Bool) (xs ys : List Placed) → ended n b (xs ++ ys) ≡ ended n (ended n b xs) ys
ended-append n b [] ys = refl
ended-append n b (t ∷ xs) ys = ended-append n (cond (eqb t.lib.0 n) (is_end t.turn) b) xs ys

-- ---- a course

-- each turn of a course is its library's
pub course_lib : (m : ℕ) (lines : List Turn) (k : ℕ) (t : Placed) → slice_get (course m lines) k ≡ Some t → t.lib.0 ≡ m
course_lib m [] zero t e = ap (λ (x : Placed). x.lib.0) (sym (some_is e))
  where
    some_is : Some (placed m Ends) ≡ Some t → placed m Ends ≡ t
    some_is e = cc e
course_lib m [] (suc k) t e = absurd (cc e)
course_lib m (l ∷ lines) zero t e = ap (λ (x : Placed). x.lib.0) (sym (some_is e))
  where
    some_is : Some (placed m l) ≡ Some t → placed m l ≡ t
    some_is e = cc e
course_lib m (l ∷ lines) (suc k) t e = course_lib m lines k t e

-- the end stands behind the lines, and nothing behind it
pub course_end : (m : ℕ) (lines : List Turn) → slice_get (course m lines) (length lines) ≡ Some (placed m Ends)
course_end m [] = refl
course_end m (l ∷ lines) = course_end m lines

pub course_past : (m : ℕ) (lines : List Turn) (k : ℕ) → length lines < k → slice_get (course m lines) k ≡ None
course_past m [] zero lt = absurd (omega (arith, lt))
course_past m [] (suc k) lt = refl
course_past m (l ∷ lines) zero lt = absurd (omega (arith, lt))
course_past m (l ∷ lines) (suc k) lt = course_past m lines k (omega (arith, lt))

-- a turn of a course, and whose it is
pub course_turn : (m : ℕ) (turns : List Turn) (k : ℕ) → slice_get (course m turns) k ≡ option_map (placed m) (slice_get (turns ++ Ends ∷ []) k)
course_turn m [] zero = refl
course_turn m [] (suc k) = refl
course_turn m (l ∷ turns) zero = refl
course_turn m (l ∷ turns) (suc k) = course_turn m turns k

pub course_length : (m : ℕ) (lines : List Turn) → length (course m lines) ≡ suc (length lines)
course_length m [] = refl
course_length m (l ∷ lines) = ap suc (course_length m lines)

-- ---- a round

-- the turn of another library changes nothing
chunk_other : (n m : ℕ) (b : Bool) (o : Option Placed) (rest : List Placed) → (m ≡ n → ⊥) → ((t : Placed) → o ≡ Some t → t.lib.0 ≡ m) → ended n b (turn_list o ++ rest) ≡ ended n b rest
chunk_other n m b None rest apart own = refl
chunk_other n m b (Some t) rest apart own =
    let f : eqb t.lib.0 n ≡ false = ne_eqb t.lib.0 n (λ e. apart (sym (own t refl) ∙ e)) in
    ap (λ x. ended n (cond x (is_end t.turn) b) rest) f

-- whether it has ended after the turn that it takes, if any
abbrev pub ended_by : Bool → Option Placed → Bool
ended_by b None = b
ended_by b (Some t) = is_end t.turn

chunk_own : (n : ℕ) (b : Bool) (o : Option Placed) (rest : List Placed) → ((t : Placed) → o ≡ Some t → t.lib.0 ≡ n) → ended n b (turn_list o ++ rest) ≡ ended n (ended_by b o) rest
chunk_own n b None rest own = refl
chunk_own n b (Some t) rest own = ap (λ x. ended n (cond x (is_end t.turn) b) rest) (eq-eqb t.lib.0 n (own t refl))

-- the turns of later libraries change nothing
round_later : (k n m : ℕ) (b : Bool) (libs : List ScriptLib) → n < m → ended n b (round_of k (courses_from m libs)) ≡ b
round_later k n m b [] lt = refl
round_later k n m b (l ∷ libs) lt =
    chunk_other n m b (slice_get (course m (line_turns l.lines)) k) (round_of k (courses_from (m + 1) libs)) (λ e. absurd (omega (arith, lt, e))) (course_lib m (line_turns l.lines) k)
    ∙ round_later k n (m + 1) b libs (omega (arith, lt))

round_ended : (k n m i : ℕ) (b : Bool) (libs : List ScriptLib) (l : ScriptLib) → slice_get libs i ≡ Some l → n ≡ m + i → ended n b (round_of k (courses_from m libs)) ≡ ended_by b (slice_get (course n (line_turns l.lines)) k)
round_ended k n m i b [] l e at = absurd (cc e)
round_ended k n m zero b (x ∷ libs) l e at =
    let same : x ≡ l = cc e in
    let own : n ≡ m = omega (arith, at) in
    subst (λ (y : ScriptLib). ended n b (round_of k (courses_from m (x ∷ libs))) ≡ ended_by b (slice_get (course n (line_turns y.lines)) k)) same
    (subst (λ j. ended j b (round_of k (courses_from m (x ∷ libs))) ≡ ended_by b (slice_get (course j (line_turns x.lines)) k)) (sym own)
    (chunk_own m b (slice_get (course m (line_turns x.lines)) k) (round_of k (courses_from (m + 1) libs)) (course_lib m (line_turns x.lines) k)
    ∙ round_later k m (m + 1) (ended_by b (slice_get (course m (line_turns x.lines)) k)) libs (omega arith)))
round_ended k n m (suc i) b (x ∷ libs) l e at =
    chunk_other n m b (slice_get (course m (line_turns x.lines)) k) (round_of k (courses_from (m + 1) libs)) (λ f. absurd (omega (arith, at, f))) (course_lib m (line_turns x.lines) k)
    ∙ round_ended k n (m + 1) i b libs l e (omega (arith, at))

-- ---- all rounds

rounds_ended : (rounds n i : ℕ) (libs : List ScriptLib) (l : ScriptLib) → slice_get libs i ≡ Some l → n ≡ 1 + i → length (line_turns l.lines) < rounds → ended n false (in_rounds rounds (courses_from 1 libs)) ≡ true
rounds_ended zero n i libs l e at lt = absurd (omega (arith, lt))
rounds_ended (suc k) n i libs l e at lt =
    let before : Bool = ended n false (in_rounds k (courses_from 1 libs)) in
    ended-append n false (in_rounds k (courses_from 1 libs)) (round_of k (courses_from 1 libs))
    ∙ round_ended k n 1 i before libs l e at
    ∙ by (cases_Bool (ltb (length (line_turns l.lines)) k)) (λ more. rounds_ended k n i libs l e at more)
  where
    by : (ltb (length (line_turns l.lines)) k ≡ true) ⊎ (ltb (length (line_turns l.lines)) k ≡ false) → (length (line_turns l.lines) < k → ended n false (in_rounds k (courses_from 1 libs)) ≡ true) → ended_by (ended n false (in_rounds k (courses_from 1 libs))) (slice_get (course n (line_turns l.lines)) k) ≡ true
    by (inl t) earlier =
        let more : length (line_turns l.lines) < k = ltb-true (length (line_turns l.lines)) k t in
        ap (ended_by (ended n false (in_rounds k (courses_from 1 libs)))) (course_past n (line_turns l.lines) k more) ∙ earlier more
    by (inr f) earlier =
        let least : k ≤ length (line_turns l.lines) = ltb-false (length (line_turns l.lines)) k f in
        let is : k ≡ length (line_turns l.lines) = omega (arith, lt, least) in
        ap (λ j. ended_by (ended n false (in_rounds k (courses_from 1 libs))) (slice_get (course n (line_turns l.lines)) j)) is
        ∙ ap (ended_by (ended n false (in_rounds k (courses_from 1 libs)))) (course_end n (line_turns l.lines))

-- the longest of some lists is at least as long as each of them
longest_most : (m i : ℕ) (libs : List ScriptLib) (l : ScriptLib) → slice_get libs i ≡ Some l → length (line_turns l.lines) < longest (courses_from m libs)
longest_most m i [] l e = absurd (cc e)
longest_most m zero (x ∷ libs) l e =
    let same : x ≡ l = cc e in
    let long : length (course m (line_turns x.lines)) ≡ suc (length (line_turns x.lines)) = course_length m (line_turns x.lines) in
    subst (λ (y : ScriptLib). length (line_turns y.lines) < longest (courses_from m (x ∷ libs))) same (omega (arith, long))
longest_most m (suc j) (x ∷ libs) l e = (let rest = longest_most (m + 1) j libs l e in omega (arith, rest))

-- whatever the number of the first one
pub longest_any : (m n : ℕ) (libs : List ScriptLib) → longest (courses_from m libs) ≡ longest (courses_from n libs)
longest_any m n [] = refl
longest_any m n (l ∷ libs) =
    ap (λ k. max k (longest (courses_from (m + 1) libs))) (course_length m (line_turns l.lines) ∙ sym (course_length n (line_turns l.lines)))
    ∙ ap (max (length (course n (line_turns l.lines)))) (longest_any (m + 1) (n + 1) libs)

-- the longest of some, and of one more before them
pub longest_first : (count m : ℕ) (l : ScriptLib) (libs : List ScriptLib) → max (max count (length (line_turns l.lines) + 1)) (longest (courses_from m libs)) ≡ max count (longest (courses_from m (l ∷ libs)))
longest_first count m l libs =
    let long : length (course m (line_turns l.lines)) ≡ suc (length (line_turns l.lines)) = course_length m (line_turns l.lines) in
    let any : longest (courses_from m libs) ≡ longest (courses_from (m + 1) libs) = longest_any m (m + 1) libs in
    omega (arith, long, any)

-- the greater of two numbers, as `max` finds it
max_is : (a b : ℕ) → ord_max nat_cmp a b ≡ max a b
max_is a b = by (cases_Bool (ltb b a))
  where
    tie : (same : Bool) → a ≤ b → cond (is_lt (cond same Equal Greater)) a b ≡ max a b
    tie true l = omega (arith, l)
    tie false l = omega (arith, l)

    by : (ltb b a ≡ true) ⊎ (ltb b a ≡ false) → cond (is_lt (cond (ltb b a) Less (cond (eqb b a) Equal Greater))) a b ≡ max a b
    by (inl t) = (let l : b < a = ltb-true b a t in rw t (omega (arith, l)))
    by (inr f) = rw f (tie (eqb b a) (ltb-false b a f))

pub longest_step : (libs : List ScriptLib) (i count count' : ℕ) (l : ScriptLib) (lines : ℕ) → i < length libs → l ≡ get_or libs i l → lines ≡ length (line_turns l.lines) → count' ≡ ord_max nat_cmp count (lines + 1) → max count (longest (courses_from 1 (drop i libs))) ≡ longest (courses_from 1 libs) → max count' (longest (courses_from 1 (drop (i + 1) libs))) ≡ longest (courses_from 1 libs)
longest_step libs i count count' l lines lt there own e before =
    let next : suc i ≡ i + 1 = omega arith in
    let split : drop i libs ≡ l ∷ drop (i + 1) libs = drop-cons libs i l lt ∙ ap (λ x. x ∷ drop (suc i) libs) (sym there) ∙ ap (λ n. l ∷ drop n libs) next in
    let count_is : count' ≡ max count (length (line_turns l.lines) + 1) = e ∙ max_is count (lines + 1) ∙ ap (λ k. max count (k + 1)) own in
    ap (λ n. max n (longest (courses_from 1 (drop (i + 1) libs)))) count_is
    ∙ longest_first count 1 l (drop (i + 1) libs) ∙ ap (λ x. max count (longest (courses_from 1 x))) (sym split) ∙ before

-- at the end of a script each library has ended
pub all_ended : (libs : List ScriptLib) (i : ℕ) (l : ScriptLib) → slice_get libs i ≡ Some l → ended (1 + i) false (turns_of libs) ≡ true
all_ended libs i l e = rounds_ended (longest (courses_from 1 libs)) (1 + i) i libs l e refl (longest_most 1 i libs l e)

-- ---- whose turns they are

abbrev pub Within : ℕ → List ScriptLib → Placed → Type 0
Within m libs t = (m ≤ t.lib.0) × (t.lib.0 < m + length libs)

turn_within : (m : ℕ) (o : Option Placed) (t : Placed) → ((u : Placed) → o ≡ Some u → u.lib.0 ≡ m) → In t (turn_list o) → t.lib.0 ≡ m
turn_within m None t own i = absurd i
turn_within m (Some u) t own (inl e) = ap (λ (x : Placed). x.lib.0) e ∙ own u refl
turn_within m (Some u) t own (inr none) = absurd none

round_within : (k m : ℕ) (libs : List ScriptLib) (t : Placed) → In t (round_of k (courses_from m libs)) → Within m libs t
round_within k m [] t i = absurd i
round_within k m (l ∷ libs) t i =
    elim (In-cases t (turn_list (slice_get (course m (line_turns l.lines)) k)) (round_of k (courses_from (m + 1) libs)) i) [
      | inl j ↦
          (let is = turn_within m (slice_get (course m (line_turns l.lines)) k) t (course_lib m (line_turns l.lines) k) j in
          (omega (arith, is), omega (arith, is)))
      | inr j ↦
          (let w = round_within k (m + 1) libs t j in
          let low : m + 1 ≤ t.lib.0 = w.0 in
          let high : t.lib.0 < (m + 1) + length libs = w.1 in
          (omega (arith, low), omega (arith, high)))
    ]

rounds_within : (rounds : ℕ) (libs : List ScriptLib) (t : Placed) → In t (in_rounds rounds (courses_from 1 libs)) → Within 1 libs t
rounds_within zero libs t i = absurd i
rounds_within (suc k) libs t i =
    elim (In-cases t (in_rounds k (courses_from 1 libs)) (round_of k (courses_from 1 libs)) i) [
      | inl j ↦ rounds_within k libs t j
      | inr j ↦ round_within k 1 libs t j
    ]

pub turns_within : (libs : List ScriptLib) (t : Placed) → In t (turns_of libs) → Within 1 libs t
turns_within libs t i = rounds_within (longest (courses_from 1 libs)) libs t i

-- ---- the turns of one library

abbrev pub own_turns : ℕ → List Placed → List Placed
own_turns n turns = filter (λ t. eqb t.lib.0 n) turns

own_chunk : (n : ℕ) (o : Option Placed) → ((t : Placed) → o ≡ Some t → t.lib.0 ≡ n) → own_turns n (turn_list o) ≡ turn_list o
own_chunk n None own = refl
own_chunk n (Some t) own = ap (λ b. cond b (t ∷ []) []) (eq-eqb t.lib.0 n (own t refl))

others_chunk : (n m : ℕ) (o : Option Placed) → (m ≡ n → ⊥) → ((t : Placed) → o ≡ Some t → t.lib.0 ≡ m) → own_turns n (turn_list o) ≡ []
others_chunk n m None apart own = refl
others_chunk n m (Some t) apart own = ap (λ b. cond b (t ∷ []) []) (ne_eqb t.lib.0 n (λ e. apart (sym (own t refl) ∙ e)))

-- a round has none of a library before the first one
round_none : (k n m : ℕ) (libs : List ScriptLib) → n < m → own_turns n (round_of k (courses_from m libs)) ≡ []
round_none k n m [] lt = refl
round_none k n m (l ∷ libs) lt =
    let first : List Placed = turn_list (slice_get (course m (line_turns l.lines)) k) in
    let rest : List Placed = round_of k (courses_from (m + 1) libs) in
    filter-append (λ (t : Placed). eqb t.lib.0 n) first rest
    ∙ ap (λ x. x ++ own_turns n rest) (others_chunk n m (slice_get (course m (line_turns l.lines)) k) (λ e. absurd (omega (arith, lt, e))) (course_lib m (line_turns l.lines) k))
    ∙ round_none k n (m + 1) libs (omega (arith, lt))

round_own : (k n m i : ℕ) (libs : List ScriptLib) (l : ScriptLib) → slice_get libs i ≡ Some l → n ≡ m + i → own_turns n (round_of k (courses_from m libs)) ≡ turn_list (slice_get (course n (line_turns l.lines)) k)
round_own k n m i [] l e at = absurd (cc e)
round_own k n m zero (x ∷ libs) l e at =
    let same : x ≡ l = cc e in
    let own : m ≡ n = omega (arith, at) in
    let first : List Placed = turn_list (slice_get (course m (line_turns x.lines)) k) in
    let rest : List Placed = round_of k (courses_from (m + 1) libs) in
    filter-append (λ (t : Placed). eqb t.lib.0 n) first rest
    ∙ ap (λ y. y ++ own_turns n rest) (own_chunk n (slice_get (course m (line_turns x.lines)) k) (λ t is. course_lib m (line_turns x.lines) k t is ∙ own))
    ∙ ap (λ y. first ++ y) (round_none k n (m + 1) libs (omega (arith, own)))
    ∙ append-nil first
    ∙ ap (λ j. turn_list (slice_get (course j (line_turns x.lines)) k)) own
    ∙ ap (λ (y : ScriptLib). turn_list (slice_get (course n (line_turns y.lines)) k)) same
round_own k n m (suc i) (x ∷ libs) l e at =
    let first : List Placed = turn_list (slice_get (course m (line_turns x.lines)) k) in
    let rest : List Placed = round_of k (courses_from (m + 1) libs) in
    filter-append (λ (t : Placed). eqb t.lib.0 n) first rest
    ∙ ap (λ y. y ++ own_turns n rest) (others_chunk n m (slice_get (course m (line_turns x.lines)) k) (λ f. absurd (omega (arith, at, f))) (course_lib m (line_turns x.lines) k))
    ∙ round_own k n (m + 1) i libs l e (omega (arith, at))

-- so many elements, and one more
take_one_more : (k : ℕ) (xs : List Placed) → take (suc k) xs ≡ take k xs ++ turn_list (slice_get xs k)
take_one_more zero [] = refl
take_one_more (suc k) [] = refl
take_one_more zero (x ∷ xs) = refl
take_one_more (suc k) (x ∷ xs) = ap (λ l. x ∷ l) (take_one_more k xs)

rounds_own : (rounds n i : ℕ) (libs : List ScriptLib) (l : ScriptLib) → slice_get libs i ≡ Some l → n ≡ 1 + i → own_turns n (in_rounds rounds (courses_from 1 libs)) ≡ take rounds (course n (line_turns l.lines))
rounds_own zero n i libs l e at = refl
rounds_own (suc k) n i libs l e at =
    filter-append (λ (t : Placed). eqb t.lib.0 n) (in_rounds k (courses_from 1 libs)) (round_of k (courses_from 1 libs))
    ∙ ap (λ x. x ++ own_turns n (round_of k (courses_from 1 libs))) (rounds_own k n i libs l e at)
    ∙ ap (λ x. take k (course n (line_turns l.lines)) ++ x) (round_own k n 1 i libs l e at)
    ∙ sym (take_one_more k (course n (line_turns l.lines)))

-- the turns that a library takes in a script are its course
pub turns_own : (libs : List ScriptLib) (i : ℕ) (l : ScriptLib) → slice_get libs i ≡ Some l → own_turns (1 + i) (turns_of libs) ≡ course (1 + i) (line_turns l.lines)
turns_own libs i l e =
    let long : length (line_turns l.lines) < longest (courses_from 1 libs) = longest_most 1 i libs l e in
    let all : length (course (1 + i) (line_turns l.lines)) ≡ suc (length (line_turns l.lines)) = course_length (1 + i) (line_turns l.lines) in
    rounds_own (longest (courses_from 1 libs)) (1 + i) i libs l e refl ∙ take_all (longest (courses_from 1 libs)) (course (1 + i) (line_turns l.lines)) (omega (arith, long, all))
