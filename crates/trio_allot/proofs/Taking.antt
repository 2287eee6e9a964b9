-- Free numbers go out, and come back where the pages can't go out with them.
use Rattle.trio_allot.proofs.Words.{if◌then◌else◌, ◌+◌, ◌-◌, ◌<◌, ◌==◌, ◌∙◌, ◌∷◌, ◌≡◌, ◌≤◌, All, All-head, All-tail, Bool, LibNo, List, None, Option, Some, [], and_parts, ap, arith, cond, count_up, false, false≢true, filter, free_numbers, fresh_number, inl, inode_numbers, inr, is_free_number, is_some, length, length-with_all, lib_at, list_any, map, not, refl, row_in, subst, suc, sym, take, true, with_all, with_all-read, zero, ℕ}
use Rattle.std.proofs.lemmas.Bool.{eqb-true, or_cases}
use Rattle.std.proofs.lemmas.List.{ext_get_or}
use Rattle.std.proofs.lemmas.List.Elements.{All-cons, All-nil, All-take}
use Rattle.trio_rights.specs.Row.{Row}

-- the number has a place in the list, and is not out
abbrev pub IsIn : List (Option LibNo) → ℕ → Type 0
IsIn outs n = (n < length outs) × (lib_at outs n ≡ None)

not_out : (o : Option LibNo) → not (is_some o) ≡ true → o ≡ None
not_out None e = refl
not_out (Some x) e = absurd (false≢true e)

-- what passes a test of the numbers from one on
All-count_up : (P : ℕ → Type 0) (test : ℕ → Bool) (from n : ℕ) → ((m : ℕ) → from ≤ m → m < from + n → test m ≡ true → P m) → All P (filter test (count_up from n))
All-count_up P test from zero h = All-nil P
All-count_up P test from (suc n) h = by (test from) refl (All-count_up P test (suc from) n (λ m le lt t. h m (omega (arith, le)) (omega (arith, lt)) t))
  where
    by : (b : Bool) → test from ≡ b → All P (filter test (count_up (suc from) n)) → All P (cond b (from ∷ filter test (count_up (suc from) n)) (filter test (count_up (suc from) n)))
    by true t all = All-cons P from (filter test (count_up (suc from) n)) (h from (omega arith) (omega arith) t) all
    by false t all = all

-- the free numbers that are taken aren't out
pub taken_in : (rows : List (Option Row)) (outs : List (Option LibNo)) (k : ℕ) → length outs ≡ length rows → All (IsIn outs) (take k (free_numbers rows outs))
taken_in rows outs k size =
    All-take (IsIn outs) k (free_numbers rows outs)
    (All-count_up (IsIn outs) (is_free_number rows outs) 1 (length rows - 1)
    (λ m le lt t. (omega (arith, le, lt, size), not_out (lib_at outs m) (and_parts (not (is_some (row_in rows m))) (not (is_some (lib_at outs m))) t).1)))

among_all : (P : ℕ → Type 0) (ns : List ℕ) (n : ℕ) → All P ns → list_any (λ m. m == n) ns ≡ true → P n
among_all P [] n all t = absurd (false≢true t)
among_all P (m ∷ ns) n all t =
    elim (or_cases (m == n) (list_any (λ m. m == n) ns) t) [
      | inl e ↦ subst P (eqb-true m n e) (All-head P m ns all)
      | inr later ↦ among_all P ns n (All-tail P m ns all) later
    ]

-- numbers that went out and came back
pub undone : (outs : List (Option LibNo)) (lib : LibNo) (ns : List ℕ) → All (IsIn outs) ns → with_all None ns (with_all (Some lib) ns outs) ≡ outs
undone outs lib ns free = ext_get_or None (with_all None ns (with_all (Some lib) ns outs)) outs (length-with_all None ns (with_all (Some lib) ns outs) ∙ length-with_all (Some lib) ns outs) one
  where
    by : (n : ℕ) (b : Bool) → list_any (λ m. m == n) ns ≡ b → (if b then None else (if b then Some lib else lib_at outs n)) ≡ lib_at outs n
    by n true among = sym (among_all (IsIn outs) ns n free among).1
    by n false among = refl

    one : (n : ℕ) → n < length (with_all None ns (with_all (Some lib) ns outs)) → lib_at (with_all None ns (with_all (Some lib) ns outs)) n ≡ lib_at outs n
    one n lt =
        let same = length-with_all None ns (with_all (Some lib) ns outs) in
        let size = length-with_all (Some lib) ns outs in
        with_all-read None None ns n (with_all (Some lib) ns outs) (omega (arith, lt, same))
        ∙ ap (λ o. if list_any (λ m. m == n) ns then None else o) (with_all-read (Some lib) None ns n outs (omega (arith, lt, same, size)))
        ∙ by n (list_any (λ m. m == n) ns) refl

pub numbers_given : (lib : LibNo) (ns : List ℕ) → inode_numbers (map (fresh_number lib) ns) ≡ ns
numbers_given lib [] = refl
numbers_given lib (n ∷ ns) = ap (λ ms. n ∷ ms) (numbers_given lib ns)
