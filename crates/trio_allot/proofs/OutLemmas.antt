-- Lists with many places changed.
use Rattle.trio_allot.proofs.Words.{if◌then◌else◌, ◌++◌, ◌+◌, ◌<◌, ◌==◌, ◌∙◌, ◌∷◌, ◌≡◌, ◌⊎◌, All, Bool, IsSome, LibNo, List, None, Option, Some, [], and_parts, ap, arith, false, false≢true, get_or, inl, inr, is_some, length, lib_at, list_any, not, raised, raised_by, refl, set, subst, suc, sym, true, with_all, with_all-read, ℕ}
use Rattle.std.proofs.Common.{◌≢◌}
use Rattle.std.specs.Prelude.{IsTrue, ◌&&◌, slice_index}
use Rattle.std.proofs.lemmas.Bool.{cases_eq}
use Rattle.std.proofs.lemmas.List.{set_comm, get_or_push, get_or_append_left, length_push}
use Rattle.trio_tables.proofs.OutLemmas.{within_some}
use Rattle.trio_allot.specs.Free.{FreeAreHome}

pub with_all-push : {X : Type 0} (x : X) (ns : List ℕ) (n : ℕ) (xs : List X) → with_all x (ns ++ n ∷ []) xs ≡ set (with_all x ns xs) n x
with_all-push x [] n xs = refl
with_all-push x (m ∷ ns) n xs = with_all-push x ns n (set xs m x)

-- the last number may as well be the first
pub with_all-last : {X : Type 0} (x : X) (ns : List ℕ) (n : ℕ) (xs : List X) → with_all x (ns ++ n ∷ []) xs ≡ with_all x ns (set xs n x)
with_all-last x [] n xs = refl
with_all-last x (m ∷ ns) n xs =
    with_all-last x ns n (set xs m x) ∙ ap (with_all x ns) (swapped (cases_eq m n))
  where
    swapped : ((m ≡ n) ⊎ (m ≢ n)) → set (set xs m x) n x ≡ set (set xs n x) m x
    swapped (inl e) = rw e refl
    swapped (inr apart) = set_comm xs m n x x apart

pub raised_by-more : (k n : ℕ) → raised_by (k + 1) n ≡ raised (raised_by k n)
raised_by-more k n = let e : k + 1 ≡ suc k = omega arith in rw e refl

pub all_init : (P : ℕ → Type 0) (ns : List ℕ) (n : ℕ) → All P (ns ++ n ∷ []) → All P ns × P n
all_init P ns n all = (
  (λ k d lt. subst P (get_or_append_left ns (n ∷ []) d k lt) (all k d (let l = length_push ns n in omega (arith, l, lt)))),
  subst P (get_or_push ns n 0 (length ns) refl) (all (length ns) 0 (let l = length_push ns n in omega (arith, l))),
)

-- where pages are taken, each page that is free then is at home as before
pub home_after_taking : (owners : List ℕ) (outs : List (Option LibNo)) (pages : List (Option (List ℕ))) (lib : LibNo) (ns : List ℕ)
    → length outs ≡ length owners → FreeAreHome owners outs pages → FreeAreHome owners (with_all (Some lib) ns outs) (with_all None ns pages)
home_after_taking owners outs pages lib ns size there n lt free = by (list_any (λ m. m == n) ns) refl
  where
    out : lib_at (with_all (Some lib) ns outs) n ≡ (if list_any (λ m. m == n) ns then Some lib else lib_at outs n)
    out = with_all-read (Some lib) None ns n outs (subst (λ k. n < k) (sym size) lt)

    by : (t : Bool) → list_any (λ m. m == n) ns ≡ t → IsSome (get_or (with_all None ns pages) n None)
    by true is =
        let taken = out ∙ ap (λ b. if b then Some lib else lib_at outs n) is in
        let free_still = (and_parts (slice_index owners n == 0) (not (is_some (lib_at (with_all (Some lib) ns outs) n))) free).1 in
        absurd (false≢true (sym (ap (λ o. not (is_some o)) taken) ∙ free_still))
    by false is =
        let same = out ∙ ap (λ b. if b then Some lib else lib_at outs n) is in
        let some = there n lt (subst (λ o. IsTrue ((slice_index owners n == 0) && not (is_some o))) same free) in
        subst IsSome (sym (with_all-read None None ns n pages (within_some pages n some) ∙ ap (λ b. if b then None else get_or pages n None) is)) some
