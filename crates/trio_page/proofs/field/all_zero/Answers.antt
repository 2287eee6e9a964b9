use Rattle.std.proofs.Common.{◌≡◌, ℕ, ◌+◌, ◌<◌, ◌≤◌, List, length, get_or, bit_or, ◌⊎◌, inl, inr, sym, ap, ◌∙◌, arith}
use Rattle.std.proofs.lemmas.Bool.{cases_lt, eq-eqb, eqb-true}
use Rattle.std.proofs.lemmas.Nat.{le_or_l, le_or_r}
use Rattle.std.proofs.lemmas.List.{get_or-replicate, length-replicate}
use Rattle.std.proofs.lemmas.Grind.{same_number_lists}
use Rattle.trio_page.specs.Field.{zeros}
use Rattle.trio_page.proofs.field.all_zero.Goals as goal

pub loop-i-preserved : goal.loop-i-preserved
loop-i-preserved c =
    let i = c.loop-i.i in let any = c.loop-i.any in let inv = c.loop-i.invariant in
    let bytes : List ℕ = c.args.bytes.now in
    let here : ℕ = get_or bytes i 0 in
    record {
      each = λ none k lt. by none k lt (cases_lt k i);
      none = λ zeros.
          let before : any ≡ 0 = inv.none (λ k lt. zeros k (omega (arith, lt))) in
          let now : here ≡ 0 = zeros i (omega arith) in
          ap (λ a. bit_or a here) before ∙ ap (bit_or 0) now;
    }
  where
    by : bit_or c.loop-i.any (get_or c.args.bytes.now c.loop-i.i 0) ≡ 0 → (k : ℕ) → k < c.loop-i.i + 1 → (k < c.loop-i.i) ⊎ (c.loop-i.i ≤ k) → get_or c.args.bytes.now k 0 ≡ 0
    by none k in_all (inl lt) = c.loop-i.invariant.each (omega (arith, none, le_or_l c.loop-i.any (get_or c.args.bytes.now c.loop-i.i 0))) k lt
    by none k in_all (inr le) =
        let is : k ≡ c.loop-i.i = omega (arith, in_all, le) in
        ap (λ n. get_or c.args.bytes.now n 0) is ∙ omega (arith, none, le_or_r c.loop-i.any (get_or c.args.bytes.now c.loop-i.i 0))

pub returns : goal.returns
unfolding zeros
returns c =
    let bytes : List ℕ = c.args.bytes.now in let inv = c.loop-i.invariant in
    let n : ℕ = length bytes in (
      λ t. same_number_lists bytes (zeros n) (sym (length-replicate n 0))
          (λ k lt. inv.each (eqb-true c.loop-i.any 0 t) k (omega (arith, lt, c.loop-i-test.false)) ∙ sym (get_or-replicate n k 0 0 lt)),
      λ e. eq-eqb c.loop-i.any 0 (inv.none (λ k lt. ap (λ (l : List ℕ). get_or l k 0) e ∙ get_or-replicate n k 0 0 (omega (arith, lt, c.loop-i.auto.i-end)))),
    )
