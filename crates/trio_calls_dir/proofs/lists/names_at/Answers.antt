use Rattle.trio_calls_dir.proofs.Words.{◌+◌, ◌-◌, ◌∙◌, ◌≡◌, Kind, List, Names, ap, arith, drop, length, min, names_here, take, ℕ}
use Rattle.trio_calls_dir.proofs.ListsSome.{names_from}
use Rattle.trio_calls_dir.proofs.lists.names_at.Goals as goal

pub returns : goal.returns
returns c =
    let xs : List (List ℕ × Kind) = names_here c.args.session.now c.args.dir in
    let sorted = c.in_ok-names.ensures.sorted in
    let lent : length c.deref.result.now ≡ length xs = ap (λ (l : List (List ℕ × Kind)). length l) (c.deref.ensures.value ∙ sorted) in
    let count : c.len-3.result ≡ length xs = omega (arith, c.len-3.ensures, c.deref.ensures.len, lent) in
    let first : c.min-first.result ≡ min c.args.from (length xs) = omega (arith, c.min-first.ensures, c.len.ensures, c.deref.ensures.len, lent) in
    let last : c.min-last.result ≡ min (length xs) (c.min-first.result + 64) = omega (arith, c.min-last.ensures, c.len-2.ensures, c.deref.ensures.len, lent) in
    let some = c.from_vec.ensures ∙ c.in_ok-some.ensures.items
    ∙ ap (λ l. take (c.min-last.result - c.min-first.result) (drop c.min-first.result l)) (c.deref.ensures.value ∙ sorted)
    ∙ names_from xs c.args.from c.min-first.result c.min-last.result first last in
    ap (λ n. Names n c.from_vec.result) count ∙ ap (Names (length xs)) some
