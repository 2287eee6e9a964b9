use Rattle.trio_open.proofs.Words.{◌&&◌, ◌+◌, ◌==◌, ◌∙◌, ◌≡◌, Bool, ap, are_new, arith, drop, false, list_any, map, not, sym, take, true}
use Rattle.trio_open.proofs.Given.{once_at}
use Rattle.trio_open.proofs.belongs.are_once.Goals as goal

pub returns-then-has_number : goal.returns-then-has_number
returns-then-has_number g c =
    let number = g.T.Numbered.number_of in
    let xs = c.args.things.now in
    let i = c.loop-i.i in
    let x = c.index-things-i.result in
    let there : list_any (λ y. number y == number x) (take i xs) ≡ true = sym (c.has_number.ensures ∙ ap (λ n. list_any (λ y. number y == n) (take i xs)) c.number.ensures) ∙ c.if-has_number.true in
    sym (sym c.loop-i.invariant ∙ once_at number xs i _ x (omega arith) c.index-things-i.is
    ∙ ap (λ (t : Bool). not t && are_new (map number (take (i + 1) xs)) (map number (drop (i + 1) xs))) there)

pub loop-i-preserved : goal.loop-i-preserved
loop-i-preserved g c =
    let number = g.T.Numbered.number_of in
    let xs = c.args.things.now in
    let i = c.loop-i.i in
    let x = c.index-things-i.result in
    let there : list_any (λ y. number y == number x) (take i xs) ≡ false = sym (c.has_number.ensures ∙ ap (λ n. list_any (λ y. number y == n) (take i xs)) c.number.ensures) ∙ c.if-has_number.false in
    sym (ap (λ (t : Bool). not t && are_new (map number (take (i + 1) xs)) (map number (drop (i + 1) xs))) there)
    ∙ sym (once_at number xs i _ x (omega arith) c.index-things-i.is)
    ∙ c.loop-i.invariant
