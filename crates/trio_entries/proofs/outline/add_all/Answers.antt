use Rattle.trio_entries.proofs.Words.{◌++◌, ◌∙◌, ◌∷◌, [], ap, append_assoc, arith, numbers_in, sym, take, vec_capacity}
use Rattle.trio_entries.proofs.Turns.{at_end, take_one}
use Rattle.trio_entries.proofs.outline.add_all.Goals as goal
use Rattle.trio_entries.proofs.outline.add_all.Goals.{in-Some, in_default}

pub loop-i-preserved : goal.loop-i-preserved
loop-i-preserved c =
    let numbers = numbers_in c.args.source.now in
    let old = c.args.pages.now.items in
    let i = c.loop-i.i in
    elim c.match-number.branch [
      | in-Some w ↦ (
        ap (λ v. v.items) w.pages-is ∙ w.push_reserved.ensures.items ∙ ap (λ ns. ns ++ w.in-Some.no ∷ []) c.loop-i.invariant.0
            ∙ append_assoc old (take i numbers) (w.in-Some.no ∷ [])
            ∙ ap (λ ns. old ++ ns) (sym (take_one numbers i w.in-Some.no (sym c.number.ensures ∙ w.in-Some.is))),
        ap vec_capacity w.pages-is ∙ w.push_reserved.ensures.capacity ∙ c.loop-i.invariant.1,
      )
      | in_default w ↦ absurd (at_end numbers i (sym w.in_default.is ∙ c.number.ensures) (omega (arith, c.loop-i-test.true, c.len-i-end.ensures.numbers)))
    ]
