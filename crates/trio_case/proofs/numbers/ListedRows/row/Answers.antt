use Rattle.trio_case.proofs.Words.{◌∙◌, ◌≡◌, None, Some, ap, as_row, option_and_then, option_map, place_of, refl, result_ok, row_listed, rules, slice_get, slice_get_past, slice_get_read, sym}
use Rattle.trio_case.proofs.Ordered.{found_place}
use Rattle.trio_case.proofs.numbers.ListedRows.row.Goals as goal

pub returns-in_err-at : goal.returns-in_err-at
returns-in_err-at c =
    let l = c.self.inside in
    let place : place_of c.args.ino l.numbers.items ≡ result_ok c.binary_search.result = rw c.deref.ensures.value at (found_place c.deref.result.now c.args.ino c.binary_search.result (rw c.deref.ensures.value c.self.invariant) c.binary_search.ensures.position) in
    let none : row_listed (record { numbers = l.numbers.items; rows = l.rows.items }) c.args.ino ≡ None = ap (option_and_then (λ at. option_map as_row (slice_get l.rows.items at))) (place ∙ sym c.in_err-at.ensures.value) in
    rw (← c.self.view_is) (ap (option_map as_row) c.from_residual.ensures ∙ sym none)

pub returns-in_err-get : goal.returns-in_err-get
returns-in_err-get c =
    let l = c.self.inside in
    let place : place_of c.args.ino l.numbers.items ≡ result_ok c.binary_search.result = rw c.deref.ensures.value at (found_place c.deref.result.now c.args.ino c.binary_search.result (rw c.deref.ensures.value c.self.invariant) c.binary_search.ensures.position) in
    let gone : slice_get l.rows.items c.in_ok-at.at ≡ None = slice_get_past l.rows.items c.in_ok-at.at (search rules) in
    let none : row_listed (record { numbers = l.numbers.items; rows = l.rows.items }) c.args.ino ≡ None = ap (option_and_then (λ at. option_map as_row (slice_get l.rows.items at))) (place ∙ sym c.in_ok-at.ensures.value) ∙ ap (option_map as_row) gone in
    rw (← c.self.view_is) (ap (option_map as_row) c.from_residual-in_err-get.ensures ∙ sym none)

pub returns : goal.returns
returns c =
    let l = c.self.inside in
    let place : place_of c.args.ino l.numbers.items ≡ result_ok c.binary_search.result = rw c.deref.ensures.value at (found_place c.deref.result.now c.args.ino c.binary_search.result (rw c.deref.ensures.value c.self.invariant) c.binary_search.ensures.position) in
    let there : slice_get l.rows.items c.in_ok-at.at ≡ Some c.in_ok-get.field-0.now = slice_get_read l.rows.items _ c.in_ok-at.at c.in_ok-get.field-0.now refl (search rules) (search rules) in
    let found : row_listed (record { numbers = l.numbers.items; rows = l.rows.items }) c.args.ino ≡ Some (as_row c.in_ok-get.field-0.now) = ap (option_and_then (λ at. option_map as_row (slice_get l.rows.items at))) (place ∙ sym c.in_ok-at.ensures.value) ∙ ap (option_map as_row) there in
    rw (← c.self.view_is) (sym found)
