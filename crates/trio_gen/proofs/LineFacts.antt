-- The lines of the workload: how many there are, and that they are within a call's limits.
use Rattle.trio_gen.proofs.Words.{◌%◌, ◌*◌, ◌++◌, ◌+◌, ◌∷◌, ◌≡◌, ◌≤◌, AllByRecursion, Bool, HonestLine, List, SaysWithin, ScriptLine, [], arith, false, length, library_lines, numbered, refl, suc, true, zero, ℕ}
use Rattle.std.proofs.Common.{◌==◌, length-append}
use Rattle.std.specs.Prelude.{if◌then◌else◌}
use Rattle.trio_lists.proofs.Tabulated.{tabulated-length}
use Rattle.trio_gen.specs.Workload.{file_bytes, file_lines, last_lines}

-- ---- how many

last_few : (k j : ℕ) → length (last_lines k j) ≤ 2
last_few k j = by (j % 5 == 3) (j % 5 == 4) refl refl
  where
    by : (a b : Bool) → (j % 5 == 3) ≡ a → (j % 5 == 4) ≡ b → length (last_lines k j) ≤ 2
    by true b e f = rw e (omega arith)
    by false true e f = rw (e, f) (omega arith)
    by false false e f = rw (e, f) (omega arith)

file_few : (number k j : ℕ) → length (file_lines number k j) ≤ 5
file_few number k j = omega (arith, last_few k j)

own_few : (own : Bool) (number k j : ℕ) → length (if own then file_lines number k j else []) ≤ 5
own_few true number k j = file_few number k j
own_few false number k j = omega arith

pub library_few : (number files k : ℕ) → length (library_lines number files k) ≤ 5 * files
library_few number zero k = omega arith
library_few number (suc j) k =
    let more = length-append (library_lines number j k) (if 1 + j % 4 == k then file_lines number k j else []) in
    omega (arith, more, own_few (1 + j % 4 == k) number k j, library_few number j k)

-- ---- within the limits

all_append : {X : Type 0} (P : X → Type 0) (xs ys : List X) → AllByRecursion P xs → AllByRecursion P ys → AllByRecursion P (xs ++ ys)
all_append P [] ys h h' = h'
all_append P (x ∷ xs) ys h h' = (h.0, all_append P xs ys h.1 h')

last_within : (k j : ℕ) → AllByRecursion SaysWithin (last_lines k j)
last_within k j = by (j % 5 == 3) (j % 5 == 4) refl refl
  where
    by : (a b : Bool) → (j % 5 == 3) ≡ a → (j % 5 == 4) ≡ b → AllByRecursion SaysWithin (last_lines k j)
    by true b e f = rw e (tt, (tt, tt))
    by false true e f = rw (e, f) (tt, (tt, tt))
    by false false e f = rw (e, f) tt

bytes_few : (number j : ℕ) → length (file_bytes number j) ≤ 4096
bytes_few number j = omega (arith, tabulated-length (λ t. 97 + (j + t) % 26) (1 + (number + 977 * j) % 64))

file_within : (number k j : ℕ) → AllByRecursion SaysWithin (file_lines number k j)
file_within number k j = (omega arith, (bytes_few number j, (tt, last_within k j)))

own_within : (own : Bool) (number k j : ℕ) → AllByRecursion SaysWithin (if own then file_lines number k j else [])
own_within true number k j = file_within number k j
own_within false number k j = tt

pub library_within : (number files k : ℕ) → AllByRecursion SaysWithin (library_lines number files k)
library_within number zero k = tt
library_within number (suc j) k =
    all_append SaysWithin (library_lines number j k) (if 1 + j % 4 == k then file_lines number k j else []) (library_within number j k) (own_within (1 + j % 4 == k) number k j)

pub numbered_within : (n : ℕ) (lines : List HonestLine) → AllByRecursion SaysWithin lines → AllByRecursion (λ (l : ScriptLine HonestLine). SaysWithin l.line) (numbered n lines)
numbered_within n [] h = tt
numbered_within n (line ∷ lines) h = (h.0, numbered_within (n + 1) lines h.1)
