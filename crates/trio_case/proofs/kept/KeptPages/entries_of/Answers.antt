use Rattle.trio_case.proofs.Words.{◌+◌, ◌-◌, ◌≡◌, Ok, Some, arith, rules}
use Rattle.trio_case.proofs.Keeping.{kept_named}
use Rattle.trio_case.proofs.kept.KeptPages.entries_of.Goals as goal

pub returns-in-Some-default-Some-clause-named : goal.returns-in-Some-default-Some-clause-named
returns-in-Some-default-Some-clause-named c = λ l i.
    let found = c.in-Some-default-Some in
    let s = found.span in
    let len : s.from + s.len - s.from ≡ s.len = omega arith in
    let read : found.field-0-1.entries ≡ Some (Ok s) = search rules in
    kept_named c.args.case.now c.args.self.now c.args.block found.field-0-0 found.field-0-1 s c.requires found.ensures read l (rw (len, c.deref.ensures.value) at i)
