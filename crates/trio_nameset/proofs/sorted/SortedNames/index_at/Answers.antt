use Rattle.std.proofs.Common.{◌≡◌, ◌∙◌, [], Some, slice_get, sym, ap}
use Rattle.std.proofs.lemmas.Option.{slice_get-get_or}
use Rattle.std.proofs.lemmas.Slice.Eq.{bytes_eq-Decides}
use Rattle.trio_nameset.proofs.sorted.SortedNames.index_at.Goals as goal

pub returns-then-eq : goal.returns-then-eq
returns-then-eq c =
    let same : c.in_ok-get.field-0.now ≡ c.args.name.now = (bytes_eq-Decides c.in_ok-get.field-0.now c.args.name.now).0 (sym c.eq.ensures ∙ c.if-eq.true) in
    let found = c.in_ok-get.ensures.lookup.3 in
    let read : slice_get c.deref.result.now c.in-After.before ≡ Some c.in_ok-get.field-0.now = slice_get-get_or c.deref.result.now c.in-After.before [] found.0 ∙ ap Some (sym (found.1 [])) in
    ap (λ ns. slice_get ns c.in-After.before) (sym c.deref.ensures.value) ∙ read ∙ ap Some same
