-- The numbers of blocks in index pages.
use Rattle.std.proofs.Common.{◌≡◌, ◌≢◌, ℕ, zero, suc, ◌+◌, ◌*◌, ◌-◌, ◌/◌, ◌%◌, ◌<◌, ◌≤◌, List, [], ◌∷◌, ◌++◌, length, take, set, get_or, refl, sym, ap, ◌∙◌, inl, inr, arith, append_assoc}
use Rattle.std.specs.Int.{w64}
use Rattle.std.proofs.lemmas.Bool.{cases_lt, cases_eq}
use Rattle.std.proofs.lemmas.List.{take_all, take-append-le, append-nil, get_or-set_same, get_or-set_other}
use Rattle.trio_page.specs.Field.{number_at, with_number}
use Rattle.trio_page.proofs.Fields.{number_at-below, number_at-above, number64_again}
use Rattle.trio_lists.specs.Lists.{tabulated}
use Rattle.trio_lists.proofs.Tabulated.{tabulated-length}
use Rattle.trio_auxfile.specs.Blocks.{block_number, block_index}
use Rattle.trio_auxfile.specs.Laws.{BlockIsAdded, BlocksAreCut, NumberIsWritten}

-- two tables that agree as far as they go
pub tabulated-same_below : (f g : ℕ → ℕ) (n : ℕ) → ((k : ℕ) → k < n → g k ≡ f k) → tabulated g n ≡ tabulated f n
tabulated-same_below f g zero same = refl
tabulated-same_below f g (suc n) same =
    ap (λ (x : List ℕ). x ++ g n ∷ []) (tabulated-same_below f g n (λ k lt. same k (omega arith)))
    ∙ ap (λ (x : ℕ). tabulated f n ++ x ∷ []) (same n (omega arith))

-- a table, part by part
pub tabulated-add : (f : ℕ → ℕ) (m n : ℕ) → tabulated f (m + n) ≡ tabulated f m ++ tabulated (λ k. f (m + k)) n
tabulated-add f m zero =
    let e : m + zero ≡ m = omega arith in
    ap (tabulated f) e ∙ sym (append-nil (tabulated f m))
tabulated-add f m (suc n) =
    let e : m + suc n ≡ suc (m + n) = omega arith in
    ap (tabulated f) e ∙ ap (λ (x : List ℕ). x ++ f (m + n) ∷ []) (tabulated-add f m n)
    ∙ append_assoc (tabulated f m) (tabulated (λ k. f (m + k)) n) (f (m + n) ∷ [])

take-tabulated : (f : ℕ → ℕ) (m n : ℕ) → m ≤ n → take m (tabulated f n) ≡ tabulated f m
take-tabulated f m n le =
    let e : n ≡ m + (n - m) = omega arith in
    ap (λ (k : ℕ). take m (tabulated f k)) e ∙ ap (take m) (tabulated-add f m (n - m))
    ∙ take-append-le m (tabulated f m) (tabulated (λ k. f (m + k)) (n - m)) (omega (arith, tabulated-length f m))
    ∙ take_all m (tabulated f m) (omega (arith, tabulated-length f m))

pub block_added : BlockIsAdded
unfolding block_index
block_added n old new same =
    let e : n + 1 ≡ suc n = omega arith in
    ap (tabulated (block_number new)) e
    ∙ ap (λ (x : List ℕ). x ++ block_number new n ∷ []) (tabulated-same_below (block_number old) (block_number new) n same)

pub blocks_cut : BlocksAreCut
unfolding block_index
blocks_cut n m old new le same = tabulated-same_below (block_number old) (block_number new) m same ∙ sym (take-tabulated (block_number old) m n le)

-- a number at another place of the same page
other_place : (a b number : ℕ) (page : List ℕ) → length page ≡ 4096 → a < 511 → b < 511 → b ≢ a
    → number_at w64 (8 * b) (with_number w64 (8 * a) number page) ≡ number_at w64 (8 * b) page
other_place a b number page len la lb ne =
    elim (cases_lt b a) [
      | inl below ↦ number_at-below w64 w64 (8 * a) (8 * b) number page (omega (arith, len, la)) (omega arith)
      | inr from ↦ number_at-above w64 w64 (8 * a) (8 * b) number page (omega (arith, len, la)) (omega (arith, from, ne))
    ]

pub number_written : NumberIsWritten
number_written index i number lt len small =
    let b : ℕ = i / 511 in
    let a : ℕ = i % 511 in
    let page : List ℕ = get_or index b [] in
    let new : List ℕ = with_number w64 (8 * a) number page in
    let la : a < 511 = omega arith in
    record {
      written = ap (number_at w64 (8 * a)) (get_or-set_same index b new [] lt) ∙ number64_again (8 * a) number page (omega (arith, len, la)) small;
      others = λ k ne.
          elim (cases_eq (k / 511) b) [
            | inl same ↦
                let apart : (k % 511) ≢ a = λ e. ne (omega (arith, e, same)) in
                let lb : k % 511 < 511 = omega arith in
                ap (λ (x : ℕ). number_at w64 (8 * (k % 511)) (get_or (set index b new) x [])) same
                ∙ ap (number_at w64 (8 * (k % 511))) (get_or-set_same index b new [] lt)
                ∙ other_place a (k % 511) number page len la lb apart
                ∙ ap (λ (x : ℕ). number_at w64 (8 * (k % 511)) (get_or index x [])) (sym same)
            | inr apart ↦ ap (number_at w64 (8 * (k % 511))) (get_or-set_other index b (k / 511) new [] apart)
          ];
    }
