use Rattle.trio_entries.proofs.Words.{◌-◌, ◌∙◌, ap, drop, sym, take}
use Rattle.std.proofs.lemmas.List.{take_rest}
use Rattle.trio_entries.proofs.told.slot_body.Goals as goal

pub returns-clause-body : goal.returns-clause-body
returns-clause-body c =
    ap (λ n. take (n - 192) (drop 192 c.args.slot.now)) (sym c.told-slot) ∙ take_rest c.args.slot.now 192
