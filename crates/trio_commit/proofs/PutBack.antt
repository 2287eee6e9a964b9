-- Checkpoints that are put back one after another.
use Rattle.trio_commit.proofs.Words.{◌++◌, ◌+◌, ◌<◌, ◌∙◌, ◌∷◌, ◌≡◌, ◌≤◌, ◌⊎◌, Bool, Checkpointed, IsTrue, LentFile, List, None, Option, Pages, Sheet, [], all_below, ap, arith, below_parts, cases_lt, checkpoint_at, false, false≢true, flat_map, get_or, get_or-map, get_or_past, inl, inr, is_among, lease_numbers, length, length-with_all, length-with_pages, option_map_or, put_both, refl, set, sheet_numbers, subst, suc, sym, take, take-suc, true, with_all, with_all-push, with_all-read, with_pages, zero, ℕ}
use Rattle.std.proofs.Common.{not}
use Rattle.std.proofs.lemmas.Bool.{and_parts}
use Rattle.std.proofs.lemmas.Grind.{flat_map-append}
use Rattle.std.proofs.lemmas.List.{append-nil}
use Rattle.trio_lists.specs.Lists.{are_new}
use Rattle.trio_lists.proofs.Marked.{are_new-more}
use Rattle.trio_lists.proofs.New.{are_new-take}
use Rattle.trio_checkpoint.specs.Covered.{covered_pages}
use Rattle.trio_commit.specs.Store.{covered_at}
use Rattle.std.proofs.Common.{if◌then◌else◌}

abbrev pub Checkpoints : Type 0
Checkpoints = List (Option Checkpointed)

-- what the checkpoints of the files of these numbers cover
abbrev pub covered_by : Checkpoints → List ℕ → List Sheet
covered_by cs ns = flat_map (covered_at cs) ns

-- How far the putting back has come after so many of these files: their checkpoints are gone, and what they cover is at home.
pub record ArePutBack (cs now : Checkpoints) (home start : Pages) (passed : List ℕ) : Type 0 where
  pub gone : now ≡ with_all None passed cs
  pub pages : home ≡ record start { pages = with_pages (covered_by cs passed) start.pages }

-- a checkpoint stays where that of another file goes
pub checkpoint_at-others : (ns : List ℕ) (n : ℕ) (cs : Checkpoints) → is_among n ns ≡ false → checkpoint_at (with_all None ns cs) n ≡ checkpoint_at cs n
checkpoint_at-others ns n cs other = by (cases_lt n (length cs))
  where
    by : ((n < length cs) ⊎ (length cs ≤ n)) → checkpoint_at (with_all None ns cs) n ≡ checkpoint_at cs n
    by (inl lt) = with_all-read None None ns n cs lt ∙ ap (λ b. if b then None else get_or cs n None) other
    by (inr le) =
        get_or_past (with_all None ns cs) n None (subst (λ k. k ≤ n) (sym (length-with_all None ns cs)) le)
        ∙ sym (get_or_past cs n None le)

not_true : (b : Bool) → not b ≡ true → b ≡ false
not_true true e = absurd (false≢true e)
not_true false e = refl

-- the number of the next file is none of those passed
next_is_new : (ns : List ℕ) (i : ℕ) → i < length ns → are_new [] ns ≡ true → is_among (get_or ns i 0) (take i ns) ≡ false
next_is_new ns i lt new =
    let more : are_new [] (take (i + 1) ns) ≡ true = are_new-take (i + 1) [] ns new in
    not_true (is_among (get_or ns i 0) (take i ns))
    (and_parts (are_new [] (take i ns)) (not (is_among (get_or ns i 0) (take i ns))) (sym (are_new-more [] ns i lt) ∙ more)).1

one_more : {X : Type 0} (xs : List X) (i : ℕ) (d : X) → i < length xs → take (i + 1) xs ≡ take i xs ++ get_or xs i d ∷ []
one_more xs i d lt = (let e : i + 1 ≡ suc i = omega arith in ap (λ k. take k xs) e ∙ take-suc xs i d lt)

-- what one of the files covers has its places where what all of them cover has
one_within : (size : ℕ) (cs : Checkpoints) (ns : List ℕ) (i : ℕ) → i < length ns → IsTrue (all_below size (sheet_numbers (covered_by cs ns))) → IsTrue (all_below size (sheet_numbers (covered_at cs (get_or ns i 0))))
one_within size cs [] i lt below = absurd (omega arith)
one_within size cs (n ∷ ns) zero lt below = (below_parts size (covered_at cs n) (covered_by cs ns) below).0
one_within size cs (n ∷ ns) (suc i) lt below = one_within size cs ns i (omega arith) (below_parts size (covered_at cs n) (covered_by cs ns) below).1

module _ (cs now : Checkpoints) (home start : Pages) (files : List LentFile) (i : ℕ) (x : LentFile) (lt : i < length files) (is : x ≡ get_or files i x) (once : IsTrue (are_new [] (lease_numbers files))) (so_far : ArePutBack cs now home start (take i (lease_numbers files))) where
  abbrev ns : List ℕ
  ns = lease_numbers files

  count : (fs : List LentFile) → length (lease_numbers fs) ≡ length fs
  count [] = refl
  count (f ∷ fs) = ap suc (count fs)

  there : i < length ns
  there = subst (λ k. i < k) (sym (count files)) lt

  number : get_or ns i 0 ≡ x.stands.ino
  number = get_or-map (λ (f : LentFile). f.stands.ino) files i x 0 lt ∙ ap (λ (f : LentFile). f.stands.ino) (sym is)

  same : covered_at now x.stands.ino ≡ covered_at cs x.stands.ino
  same =
      ap (λ ys. covered_at ys x.stands.ino) so_far.gone
      ∙ ap (λ o. option_map_or covered_pages o [])
      (checkpoint_at-others (take i ns) x.stands.ino cs (subst (λ n. is_among n (take i ns) ≡ false) number (next_is_new ns i there once)))

  pub next_within : IsTrue (all_below (length start.pages) (sheet_numbers (covered_by cs ns))) → IsTrue (all_below (length home.pages) (sheet_numbers (covered_at now x.stands.ino)))
  next_within below =
      let size : length home.pages ≡ length start.pages = ap (λ (h : Pages). length h.pages) so_far.pages ∙ length-with_pages (covered_by cs (take i ns)) start.pages in
      subst (λ k. IsTrue (all_below k (sheet_numbers (covered_at now x.stands.ino)))) (sym size)
      (subst (λ ss. IsTrue (all_below (length start.pages) (sheet_numbers ss))) (ap (covered_at cs) number ∙ sym same)
      (one_within (length start.pages) cs ns i there below))

  pub next_put_back : (then' : Checkpoints) (after : Pages) → then' ≡ set now x.stands.ino None → after ≡ record home { pages = with_pages (covered_at now x.stands.ino) home.pages }
      → ArePutBack cs then' after start (take (i + 1) ns)
  next_put_back then' after gone put =
      let more : take (i + 1) ns ≡ take i ns ++ x.stands.ino ∷ [] = one_more ns i 0 there ∙ ap (λ n. take i ns ++ n ∷ []) number in
      record {
        gone =
            gone
            ∙ ap (λ ys. set ys x.stands.ino None) so_far.gone
            ∙ sym (with_all-push None (take i ns) x.stands.ino cs)
            ∙ ap (λ ms. with_all None ms cs) (sym more);
        pages =
            put_both start home after (covered_by cs (take i ns)) (covered_at now x.stands.ino) so_far.pages put
            ∙ ap (λ ss. record start { pages = with_pages ss start.pages })
            (ap (λ ss. covered_by cs (take i ns) ++ ss) (same ∙ sym (append-nil (covered_at cs x.stands.ino)))
            ∙ sym (flat_map-append (covered_at cs) (take i ns) (x.stands.ino ∷ []))
            ∙ ap (covered_by cs) (sym more));
      }
