use Rattle.trio_case.proofs.Words.{◌∙◌, ◌≡◌, ap, insert, is_ok, rules, sym}
use Rattle.trio_case.proofs.Asked.{found_among, none_more, one_more, ordered_still}
use Rattle.trio_case.proofs.number_set.NumberSet.add.Goals as goal

pub invariant_of-self : goal.invariant_of-self
invariant_of-self c =
    let xs = c.self.inside.numbers.items in
    let items : c.insert-inserted.new.self.items ≡ insert xs c.in-Err.at c.args.no = search rules in
    rw items (ordered_still xs c.args.no c.in-Err.at c.self.invariant (rw c.deref.ensures.value at c.in-Err.ensures.position))

pub returns-in-Err-clause-numbers : goal.returns-in-Err-clause-numbers
returns-in-Err-clause-numbers c = λ n.
    let xs = c.self.inside.numbers.items in
    let items : c.insert-inserted.new.self.items ≡ insert xs c.in-Err.at c.args.no = search rules in
    rw (← c.self.view_is, items) (one_more xs c.args.no c.in-Err.at n)

pub returns-in_default-clause-numbers : goal.returns-in_default-clause-numbers
returns-in_default-clause-numbers c = λ n.
    let xs = c.self.inside.numbers.items in
    let there = sym (found_among xs c.args.no c.binary_search.result c.self.invariant (rw c.deref.ensures.value at c.binary_search.ensures.position)) ∙ ap is_ok c.in_default.is in
    rw (← c.self.view_is) (none_more xs c.args.no n there)
