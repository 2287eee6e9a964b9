use Rattle.trio_survey.proofs.Words.{◌-◌, ◌∙◌, ◌≡◌, ap, drop, map-append, refl, sym, take}
use Rattle.std.proofs.lemmas.List.{take_rest}
use Rattle.trio_survey.proofs.entries.add_slot_entry.Goals as goal

pub returns-in_ok-push-in-Entry : goal.returns-in_ok-push-in-Entry
returns-in_ok-push-in-Entry c =
    let bytes = c.args.bytes.now in
    let body : c.copy_from_slice.new.self ≡ drop 192 bytes = c.copy_from_slice.ensures.after ∙ ap (λ n. take (n - 192) (drop 192 bytes)) (sym c.told-bytes) ∙ take_rest bytes 192 in
    rw (← c.in-Entry.ensures.value, c.in_ok-push-in-Entry.ensures.items, map-append, body) refl
