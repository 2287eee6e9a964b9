-- Marks by round numbers.
use Rattle.std.proofs.Common.{◌≡◌, ℕ, zero, suc, ◌≤◌, ◌<◌, eqb, leb, Bool, true, false, List, [], ◌∷◌, length, replicate, slice_set, refl, sym, ap, ◌∙◌, arith}
use Rattle.std.proofs.lemmas.List.{map-set, length-map}
use Rattle.std.proofs.lemmas.Bool.{and_parts, and_from}
use Rattle.std.proofs.lemmas.Bool.Decides.{nat_tests}
use Rattle.trio_marks.specs.inner.Rounds.{marked_in, none_after}

-- in a later round none is marked
pub marked_in-later : (round later : ℕ) (rounds : List ℕ) → round < later → none_after round rounds ≡ true → marked_in later rounds ≡ replicate (length rounds) false
marked_in-later round later [] h all = refl
marked_in-later round later (r ∷ rs) h all =
    let parts = and_parts (leb r round) (none_after round rs) all in
    let first : leb r round ≡ true = parts.0 in
    let old : eqb r later ≡ false = grind (arith, nat_tests) in
    rw (old, marked_in-later round later rs h parts.1) refl

pub rounds_stay : (round later : ℕ) (rounds : List ℕ) → round ≤ later → none_after round rounds ≡ true → none_after later rounds ≡ true
rounds_stay round later [] h all = refl
rounds_stay round later (r ∷ rs) h all =
    let parts = and_parts (leb r round) (none_after round rs) all in
    let first : leb r round ≡ true = parts.0 in
    let now : leb r later ≡ true = grind (arith, nat_tests) in
    and_from (leb r later) (none_after later rs) now (rounds_stay round later rs h parts.1)

eqb-self : (n : ℕ) → eqb n n ≡ true
eqb-self n = grind (arith, nat_tests)

leb-self : (n : ℕ) → leb n n ≡ true
leb-self n = grind (arith, nat_tests)

pub marked_in-set : (round : ℕ) (rounds : List ℕ) (i : ℕ) → marked_in round (slice_set rounds i round) ≡ slice_set (marked_in round rounds) i true
marked_in-set round rounds i = map-set (λ r. eqb r round) rounds i round ∙ ap (slice_set (marked_in round rounds) i) (eqb-self round)

pub zero_before : (n round : ℕ) → none_after round (replicate n 0) ≡ true
zero_before zero round = refl
zero_before (suc n) round =
    let none : leb 0 round ≡ true = grind (arith, nat_tests) in
    and_from (leb 0 round) (none_after round (replicate n 0)) none (zero_before n round)

pub set_within : (round : ℕ) (rounds : List ℕ) (i : ℕ) → none_after round rounds ≡ true → none_after round (slice_set rounds i round) ≡ true
set_within round [] i all = refl
set_within round (r ∷ rs) zero all =
    and_from (leb round round) (none_after round rs) (leb-self round) (and_parts (leb r round) (none_after round rs) all).1
set_within round (r ∷ rs) (suc i) all =
    let parts = and_parts (leb r round) (none_after round rs) all in
    and_from (leb r round) (none_after round (slice_set rs i round)) parts.0 (set_within round rs i parts.1)

pub none_of_zero : (n : ℕ) (rounds : List ℕ) → rounds ≡ replicate n 0 → marked_in 1 rounds ≡ replicate n false
none_of_zero n rounds e = rw e (zeros n)
  where
    zeros : (n : ℕ) → marked_in 1 (replicate n 0) ≡ replicate n false
    zeros zero = refl
    zeros (suc n) = ap (λ bs. false ∷ bs) (zeros n)

-- as many as are seen
pub seen_none : (n round : ℕ) (rounds : List ℕ) (seen : List Bool) → n ≡ length rounds → marked_in round rounds ≡ seen → replicate n false ≡ replicate (length seen) false
seen_none n round rounds seen h e =
    ap (λ n. replicate n false) (h ∙ sym (length-map rounds (λ r. eqb r round)) ∙ ap length e)

pub zero_within : (n round : ℕ) (rounds : List ℕ) → rounds ≡ replicate n 0 → none_after round rounds ≡ true
zero_within n round rounds e = ap (none_after round) e ∙ zero_before n round
