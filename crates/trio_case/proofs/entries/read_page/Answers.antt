use Rattle.trio_case.proofs.Words.{◌-◌, ◌∙◌, ◌≡◌, AreNamed, Ok, Some, ap, arith, drop, listed_seen, map, subst, sym, take}
use Rattle.trio_case.proofs.Gathers.{rest_is}
use Rattle.trio_case.proofs.entries.read_page.Goals as goal

pub returns-clause-read : goal.returns-clause-read
returns-clause-read c = λ bytes h.
    let there : Some c.in-Some.bytes.now ≡ Some bytes = c.in-Some.ensures.page ∙ h in
    let same : c.in-Some.bytes.now ≡ bytes = cc in
    let new = c.add_page_entries.new.entries.items in
    let names = c.add_page_entries.new.names.names in
    let read = rw same at c.in_default-add_page_entries.ensures.entries in
    let grown = c.in_default-add_page_entries.ensures.grown in
    let rest : take (c.len.result - c.len-from.result) (drop c.len-from.result new) ≡ drop c.len-from.result new = rest_is c.len-from.result c.len.result new (omega (arith, c.len.ensures)) in
    record {
      within = omega (arith, grown, c.len-from.ensures, c.len.ensures);
      named = subst (AreNamed names) (sym rest) (rw (← c.len-from.ensures) at c.in_default-add_page_entries.ensures.named);
      says = rw (← c.len-from.ensures) at read ∙ ap (λ es. Ok (map (listed_seen names) es)) (sym rest);
    }
