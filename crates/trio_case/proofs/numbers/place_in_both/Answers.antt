use Rattle.trio_case.proofs.Words.{◌+◌, ◌∙◌, ◌≡◌, None, Some, ap, arith, length, option_map, place_of, sym}
use Rattle.trio_case.proofs.Counted.{place_left, place_right, place_within}
use Rattle.trio_case.proofs.numbers.place_in_both.Goals as goal

pub overflow_add-result : goal.overflow_add-result
overflow_add-result c =
    let there : place_of c.args.ino c.args.second.now ≡ Some c.in-None-Some.at = sym c.find-2.ensures ∙ c.in-None-Some.is-1 in
    let within = place_within c.args.ino c.in-None-Some.at c.args.second.now there in
    omega (arith, within, c.len-count.ensures.len, c.len-count.ensures.few, c.len-more.ensures.few)

pub returns-in-Some-default : goal.returns-in-Some-default
returns-in-Some-default c =
    sym (place_left c.args.ino c.in-Some-default.at c.args.first.now c.args.second.now (sym c.find.ensures ∙ c.in-Some-default.is-0))

pub returns-in-None-Some : goal.returns-in-None-Some
returns-in-None-Some c =
    let none : place_of c.args.ino c.args.first.now ≡ None = sym c.find.ensures ∙ c.in-None-Some.is-0 in
    let there : place_of c.args.ino c.args.second.now ≡ Some c.in-None-Some.at = sym c.find-2.ensures ∙ c.in-None-Some.is-1 in
    ap (λ n. Some (n + c.in-None-Some.at)) c.len-count.ensures.len
    ∙ sym (place_right c.args.ino c.args.first.now c.args.second.now none ∙ ap (option_map (λ i. length c.args.first.now + i)) there)

pub returns-in-None-None : goal.returns-in-None-None
returns-in-None-None c =
    let none : place_of c.args.ino c.args.first.now ≡ None = sym c.find.ensures ∙ c.in-None-None.is-0 in
    let gone : place_of c.args.ino c.args.second.now ≡ None = sym c.find-2.ensures ∙ c.in-None-None.is-1 in
    sym (place_right c.args.ino c.args.first.now c.args.second.now none ∙ ap (option_map (λ i. length c.args.first.now + i)) gone)
